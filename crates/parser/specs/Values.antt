-- What the fields of a call hold: errors, operations, causes, gates, flags and requests.
use Rattle.std.specs.Prelude.{Bool, ◌&&◌, ◌||◌, List, ℕ, ◌^◌, ltb, eqb}
use Rattle.layout.specs.Pick.{pick}
use Rattle.regionmap.specs.Words.{position_of}
use Rattle.domain.specs.declared.{Op.Op, FirstCause.FirstCause}
use Rattle.std.specs.declared.option.Option.{Option}
use Rattle.model.specs.declared.{Gate.Gate, Request.Request}
use Rattle.fields.specs.Fields.{field, is_number, word_in, num}
use Rattle.fields.specs.Codes.{codes}

-- "ERR is a number below 2^32": whether the k-th field holds one, and which, 0 where it holds none
unfoldable pub is_raw : ℕ → List ℕ → Bool
is_raw k cs = is_number (field k cs) && ltb (num k cs) (2 ^ 32)

unfoldable pub raw_in : ℕ → List ℕ → ℕ
raw_in k cs = pick (is_raw k cs) (num k cs) 0

-- "or `-` for none"
abbrev pub dash : List ℕ
dash = codes "-"

unfoldable pub is_error : ℕ → List ℕ → Bool
is_error k cs = is_raw k cs || word_in k dash cs

unfoldable pub error_in : ℕ → List ℕ → Option ℕ
error_in k cs = pick (is_raw k cs) (Option.Some (raw_in k cs)) Option.None

-- "OP is `-`, `read`, `write` or `flush`."
abbrev pub read_word : List ℕ
read_word = codes "read"

abbrev pub write_word : List ℕ
write_word = codes "write"

abbrev pub flush_word : List ℕ
flush_word = codes "flush"

unfoldable pub is_op : ℕ → List ℕ → Bool
is_op k cs = word_in k dash cs || word_in k read_word cs || word_in k write_word cs || word_in k flush_word cs

unfoldable pub op_in : ℕ → List ℕ → Op
op_in k cs = pick (word_in k read_word cs) Op.Read (pick (word_in k write_word cs) Op.Write (pick (word_in k flush_word cs) Op.Flush Op.None))

-- `OP ERR`, in two fields
unfoldable pub is_cause : ℕ → ℕ → List ℕ → Bool
is_cause op err cs = is_op op cs && is_error err cs

unfoldable pub cause_in : ℕ → ℕ → List ℕ → FirstCause
cause_in op err cs = record { op = op_in op cs; raw = error_in err cs }

-- `gate HANDLE 0|1|2`, "open, recycled, released"
unfoldable pub gate_in : ℕ → List ℕ → Gate
gate_in k cs = pick (eqb (num k cs) 0) Gate.Open (pick (eqb (num k cs) 1) Gate.Recycled Gate.Released)

-- a flag's value
unfoldable pub flag_in : ℕ → List ℕ → Bool
flag_in k cs = eqb (num k cs) 1

-- `W|R HANDLE VOLUME REGION GENERATION POSITION BUFFER LENGTH DURABLE TAG`
unfoldable pub request_in : List ℕ → Request
request_in cs =
    record {
      handle = num 1 cs;
      volume = num 2 cs;
      region = num 3 cs;
      generation = num 4 cs;
      offset = position_of (num 5 cs);
      buffer = num 6 cs;
      length = num 7 cs;
      durable = flag_in 8 cs;
      tag = num 9 cs;
    }
