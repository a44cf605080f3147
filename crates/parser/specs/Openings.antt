-- The lines of an opening: TRACE.md's section "Opening". "`region` stands once for each region, in the order of the handles; any number of regions
-- and runs that fits the lines is taken."
use Rattle.std.specs.Prelude.{Bool, ◌&&◌, List, [], ◌∷◌, ◌++◌, ℕ, zero, suc, ◌+◌, ◌-◌, ◌*◌, ◌/◌, ◌%◌, get_or, take, drop, leb, ltb, eqb}
use Rattle.layout.specs.Pick.{pick}
use Rattle.model.specs.declared.Opening.{Opening}
use Rattle.model.specs.Opening.{REGION}
use Rattle.fields.specs.Trace.{line_read}
use Rattle.fields.specs.Fields.{spaces, word_in, num, are_numbers, is_flag}
use Rattle.fields.specs.Codes.{codes}
use Rattle.parser.specs.declared.preamble.OpenLine.{OpenLine}

-- `open`, `region`, `start`
abbrev pub open_word : List ℕ
open_word = codes "open"

abbrev pub region_word : List ℕ
region_word = codes "region"

abbrev pub start_word : List ℕ
start_word = codes "start"

-- `open DEPTH BLOCK BUFFERS CAPACITY LIFETIME CARD READONLY FLUSHPOLICY VOLUME CLASS LABEL EPOCH`
unfoldable pub is_open : List ℕ → Bool
is_open cs = eqb (spaces cs) 12 && word_in 0 open_word cs && are_numbers 12 cs && is_flag 7 cs && is_flag 8 cs

-- its numbers; the regions are counted as their lines come
unfoldable pub opening_of : List ℕ → Opening
opening_of cs =
    record {
      block = num 2 cs;
      depth = num 1 cs;
      lifetime = num 5 cs;
      card = num 6 cs;
      buffers = num 3 cs;
      capacity = num 4 cs;
      read_only = eqb (num 7 cs) 1;
      flush = eqb (num 8 cs) 1;
      volume = num 9 cs;
      class = num 10 cs;
      label = num 11 cs;
      epoch = num 12 cs;
      regions = 0;
    }

-- `region ID GENERATION FIRST CAPACITY DATA [START OFFSET]...`
unfoldable pub is_region : List ℕ → Bool
is_region cs = leb 5 (spaces cs) && eqb ((spaces cs - 5) % 2) 0 && word_in 0 region_word cs && are_numbers (spaces cs) cs

-- `start`
unfoldable pub is_start : List ℕ → Bool
is_start cs = eqb (spaces cs) 0 && word_in 0 start_word cs

-- what a line of an opening says; "A line that starts with `#` is passed over"
unfoldable pub open_line_in : List ℕ → OpenLine
open_line_in cs =
    pick (eqb (get_or cs 0 0) 35) OpenLine.Comment
    (pick (is_open cs) (OpenLine.Open (opening_of cs)) (pick (is_region cs) OpenLine.Region (pick (is_start cs) OpenLine.Start OpenLine.Bad)))

-- of whatever length
unfoldable pub open_line_read : List ℕ → OpenLine
open_line_read bytes = line_read open_line_in OpenLine.Comment OpenLine.Bad bytes

-- the j-th of the 70 words in which a plan holds a region (the model's Opening, plan_in): id, generation, first card offset, capacity, data length,
-- the count of further runs, then each run's start and offset; 0 behind the last
unfoldable pub region_word_in : ℕ → List ℕ → ℕ
region_word_in j cs = pick (ltb j 5) (num (j + 1) cs) (pick (eqb j 5) ((spaces cs - 5) / 2) (num j cs))

unfoldable pub words_from : ℕ → ℕ → List ℕ → List ℕ
words_from zero j cs = []
words_from (suc n) j cs = region_word_in j cs ∷ words_from n (j + 1) cs

unfoldable pub region_words : List ℕ → List ℕ
region_words cs = words_from REGION 0 cs

-- how many regions there are with one more: 9 stands for every number above 8, of which an opening may have none
unfoldable pub regions_after : ℕ → ℕ
regions_after k = pick (ltb k 8) (k + 1) 9

-- the plan with one more region behind the first k; a ninth has no room
unfoldable pub plan_after : List ℕ → ℕ → List ℕ → List ℕ
plan_after cs k plan = pick (ltb k 8) (take (REGION * k) plan ++ region_words cs ++ drop (REGION * k + REGION) plan) plan
