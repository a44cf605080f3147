-- Document 01, "A submission, question by question": each question once, in the write's order and with its sentence, then the write's list and the
-- read's. The first question that fails decides. What a question looks at is its argument (D-18).
use Rattle.std.specs.Prelude.{Bool, true, false, not, ◌&&◌, List, [], ◌∷◌, ℕ, ◌+◌, ◌-◌, ◌^◌, min, get_or, leb, ltb, eqb}
use Rattle.layout.specs.Block.{on_block}
use Rattle.regionmap.specs.declared.Position.{Position}
use Rattle.regionmap.specs.Words.{position_of}
use Rattle.std.specs.declared.option.Option.{Option}
use Rattle.domain.specs.declared.FirstCause.{FirstCause}
use Rattle.completion.specs.declared.{Context.Context, Refusal.Refusal}
use Rattle.model.specs.declared.{Counts.Counts, Gate.Gate, Request.Request}
use Rattle.std.specs.declared.result.Result.{Result}
use Rattle.model.specs.State.{Region, no_region, Owner, Owner.host, Owner.table, Owner.lost, State}

-- a request's whole length, and where its range ends
abbrev pub whole_of : Request → ℕ
whole_of q = q.length

abbrev pub end_at : Request → ℕ
end_at q = q.offset.0 + q.length

-- the position of byte i of an operation that starts at a position
abbrev pub byte_at : ℕ → ℕ → ℕ
byte_at start i = start + i

-- how a question, or several in their order, are answered: yes to all, or the first no
abbrev pub Asked : Type 0
Asked = Result (Unit {0}) Refusal

-- a question: yes, or the refusal
unfoldable pub ask : Bool → Refusal → Asked
ask true f = Result.Ok tt
ask false f = Result.Err f

-- the first no of a list, or yes
unfoldable pub first_no : List Asked → Asked
first_no [] = Result.Ok tt
first_no (Result.Ok _ ∷ more) = first_no more
first_no (Result.Err f ∷ more) = Result.Err f

-- "Context is the region's id."
abbrev pub id_of : Region → Context
id_of g = Context.Region g.id

-- "Questions 12 to 14 of a read add the range, its end capped at 2^64 − 1."
unfoldable pub range_from : ℕ → Position → ℕ → Context
range_from id start length = Context.Range (record { region = id; start = start; end = position_of (min (start.0 + length) (2 ^ 64 - 1)) })

abbrev pub id_and_range : Region → Request → Context
id_and_range g q = range_from g.id q.offset q.length

-- 1. "Does the handle name a region? No: 1 ForeignPosition, no context."
unfoldable pub handle_names_region : ℕ → Request → Asked
handle_names_region regions q = ask (ltb q.handle regions) (Refusal.ForeignPosition Context.None)

-- 2. "Is the buffer in the pool, its length within capacity? No: 2 ForeignBuffer."
unfoldable pub buffer_in_pool : ℕ → ℕ → Context → Request → Asked
buffer_in_pool buffers capacity c q = ask (ltb q.buffer buffers && leb (whole_of q) capacity) (Refusal.ForeignBuffer c)

-- 3. "Does the host hold the buffer? No: 11"
unfoldable pub is_host : Owner → Bool
is_host host = true
is_host table = false
is_host lost = false

unfoldable pub host_holds_buffer : Bool → Context → Asked
host_holds_buffer held c = ask held (Refusal.NotHeld c)

-- 4. "Is live + ready below depth? No: 3 QueueFull."
unfoldable pub room_in_table : ℕ → Counts → Context → Asked
room_in_table depth counts c = ask (ltb (counts.live + counts.ready) depth) (Refusal.QueueFull c)

-- 5. "Is a submission of the lifetime left? No: 12"
unfoldable pub lifetime_left : ℕ → Counts → Context → Asked
lifetime_left lifetime counts c = ask (ltb counts.submissions lifetime) (Refusal.LifetimeSpent c)

-- 6. "Is the region's gate open? No: recycled 4 StaleGeneration, released 5 NotReady."
unfoldable pub gate_open : Gate → Context → Asked
gate_open Gate.Open c = Result.Ok tt
gate_open Gate.Recycled c = Result.Err (Refusal.StaleGeneration c)
gate_open Gate.Released c = Result.Err (Refusal.NotReady c)

-- 7. "May the store be written? No: 6 ReadOnly, no context."
unfoldable pub store_writable : Bool → Asked
store_writable read_only = ask (not read_only) (Refusal.ReadOnly Context.None)

-- 8. "Is the store unpoisoned? No: 7 Poisoned, with the first cause."
unfoldable pub unpoisoned : Option FirstCause → Asked
unpoisoned Option.None = Result.Ok tt
unpoisoned (Option.Some cause) = Result.Err (Refusal.Poisoned cause)

-- 9. "May the region be written? No: 6."
unfoldable pub region_writable : Bool → Context → Asked
region_writable read_only c = ask (not read_only) (Refusal.ReadOnly c)

-- 10. "Do volume and region match? No: 1."
unfoldable pub volume_and_region_match : ℕ → ℕ → Context → Request → Asked
volume_and_region_match volume id c q = ask (eqb q.volume volume && eqb q.region id) (Refusal.ForeignPosition c)

-- 11. "Does the generation match? No: 4."
unfoldable pub generation_matches : ℕ → Context → Request → Asked
generation_matches generation c q = ask (eqb q.generation generation) (Refusal.StaleGeneration c)

-- 12. "Is the length above 0? No: 8 Empty."
unfoldable pub length_above0 : Context → Request → Asked
length_above0 c q = ask (ltb 0 q.length) (Refusal.Empty c)

-- 13. "Is the length a multiple of the block? No: 9 Misaligned." Of a read "for offset and length"; and document 02, P6: "Question 13 for a write
-- tests the offset as well as the length, as it does for a read." So of both it is one question.
unfoldable pub aligned : ℕ → Context → Request → Asked
aligned block c q = ask (on_block block q.offset.0 && on_block block q.length) (Refusal.Misaligned c)

-- 14. "Is offset + length, without overflow, within the data? No: 10 OutOfBounds."
unfoldable pub within_data : ℕ → Context → Request → Asked
within_data data_length c q = ask (ltb (end_at q) (2 ^ 64) && leb (end_at q) data_length) (Refusal.OutOfBounds c)

-- the region of a handle
unfoldable pub region_at : State → ℕ → Region
region_at s h = get_or s.regions h no_region

-- whether the host holds a buffer
unfoldable pub held_at : State → ℕ → Bool
held_at s b = is_host (get_or s.owners b lost)

-- "Write": questions 1 to 14
unfoldable pub write_questions : State → Region → Request → List Asked
write_questions s g q =
    handle_names_region s.settings.regions q
    ∷ buffer_in_pool s.settings.buffers s.settings.capacity (id_of g) q
    ∷ host_holds_buffer (held_at s q.buffer) (id_of g)
    ∷ room_in_table s.settings.depth s.counts (id_of g)
    ∷ lifetime_left s.settings.lifetime s.counts (id_of g)
    ∷ gate_open g.gate (id_of g)
    ∷ store_writable s.settings.read_only
    ∷ unpoisoned s.poison
    ∷ region_writable g.read_only (id_of g)
    ∷ volume_and_region_match s.settings.volume g.id (id_of g) q
    ∷ generation_matches g.generation (id_of g) q
    ∷ length_above0 (id_of g) q
    ∷ aligned s.settings.block (id_of g) q
    ∷ within_data g.map.data_length (id_of g) q
    ∷ []

-- "Read (`read_page`, then `read`): questions 1, 10, 11, 2, 3, 4, 5, 6, 12; then 13 for offset and length; then 14. Poison and read-only do not stop
-- a read"
unfoldable pub read_questions : State → Region → Request → List Asked
read_questions s g q =
    handle_names_region s.settings.regions q
    ∷ volume_and_region_match s.settings.volume g.id (id_of g) q
    ∷ generation_matches g.generation (id_of g) q
    ∷ buffer_in_pool s.settings.buffers s.settings.capacity (id_of g) q
    ∷ host_holds_buffer (held_at s q.buffer) (id_of g)
    ∷ room_in_table s.settings.depth s.counts (id_of g)
    ∷ lifetime_left s.settings.lifetime s.counts (id_of g)
    ∷ gate_open g.gate (id_of g)
    ∷ length_above0 (id_and_range g q) q
    ∷ aligned s.settings.block (id_and_range g q) q
    ∷ within_data g.map.data_length (id_and_range g q) q
    ∷ []
