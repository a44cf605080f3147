-- The buffer's bytes: the Rust's `set_len` and `rotate_left` of the slice are the model's turn of the first bytes.
use mathlib.Core.Path.{◌≡◌, refl, ap, ◌∙◌}
use mathlib.Core.Bool.{Bool, true, false}
use mathlib.Core.List.{List, append_assoc}
use mathlib.Core.Option.{some, map}
use Prim.Native.Nat.{ℕ, ◌≤◌}
use native.Mathlib.Omega.{arith}
use borrow.Author.Tests.{le-leb}
use lib.ListN.{length, take, length-take, drop_of_length-le, take-append-drop}
use lib.Seq.{take_all}
use Rattle.layout.specs.Pick.{pick}
use Rattle.iobuf.specs.Turn.{turned}
use Rattle.iobuf.proofs.Laws.{turn_laws}
use Rattle.model.specs.declared.Split.{Split}
use Rattle.step.specs.Rules.{left_of, buffer_as, turned_back}
use Rattle.rusttable.specs.Table.{IoBuf}
use Rattle.rusttable.specs.Functions.{set_len, rotate_left, rotated, in_order, returned}
use Rattle.rusttable.proofs.Handed.{buf_as}

-- a length that the capacity has room for
pub set_fits : (b : IoBuf) (n : ℕ) → n ≤ length b.bytes → set_len b n ≡ record { number = b.number; len = n; bytes = b.bytes }
unfolding set_len pick
set_fits b n le = rw (le-leb n (length b.bytes) le) refl

pub rotate_turns : (number n k : ℕ) (bytes : List ℕ) → rotated (record { number = number; len = n; bytes = bytes }) k ≡ record { number = number; len = n; bytes = turned n k bytes }
unfolding rotated rotate_left turned
rotate_turns number n k bytes = rw append_assoc refl

-- the whole turn
pub turn_whole : (n : ℕ) (bytes : List ℕ) → turned n n bytes ≡ bytes
unfolding turned
turn_whole n bytes =
    rw (drop_of_length-le (take n bytes) {i = n} (let e = length-take n bytes in omega arith), take_all n (take n bytes) (let e = length-take n bytes in omega arith)) (take-append-drop n bytes)

module _ (number piece : ℕ) (bytes : List ℕ) (sp : Split) (room : sp.total ≤ length bytes) where
  -- "The rest to the front", at the length of the next piece
  pub next_turned : (k next : ℕ) → next ≤ sp.total → set_len (rotated (set_len (record { number = number; len = piece; bytes = bytes }) sp.total) k) next ≡ record { number = number; len = next; bytes = turned sp.total k bytes }
  next_turned k next le =
      ap (λ (b : IoBuf). set_len (rotated b k) next) (set_fits (record { number = number; len = piece; bytes = bytes }) sp.total room)
      ∙ ap (λ (b : IoBuf). set_len b next) (rotate_turns number sp.total k bytes)
      ∙ set_fits (record { number = number; len = sp.total; bytes = turned sp.total k bytes }) next (let e = turn_laws.length_kept sp.total k bytes in omega arith)

  -- "the bytes back in order"
  pub order_turned : in_order sp (record { number = number; len = piece; bytes = bytes }) ≡ record { number = number; len = sp.total; bytes = turned sp.total (left_of sp) bytes }
  unfolding in_order
  order_turned =
      ap (λ (b : IoBuf). rotated b (left_of sp)) (set_fits (record { number = number; len = piece; bytes = bytes }) sp.total room)
      ∙ rotate_turns number sp.total (left_of sp) bytes

  pub order_back : (back : Bool) → map (in_order sp) (returned back (record { number = number; len = piece; bytes = bytes })) ≡ buf_as (buffer_as back number sp.total) (turned_back back sp bytes)
  unfolding returned buf_as buffer_as turned_back
  order_back true = ap some order_turned
  order_back false = refl
