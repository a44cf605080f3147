-- `Completions::next` is `step`'s taking: the oldest completion, with its buffer and the bytes there.
use mathlib.Core.Path.{◌≡◌, refl, ap, sym}
use mathlib.Core.Bool.{true}
use mathlib.Core.List.{List, [], ◌∷◌, map}
use mathlib.Core.Option.{some}
use Prim.Native.Nat.{ℕ}
use Rattle.completion.specs.Buffers.{Buffer}
use Rattle.std.specs.declared.option.Option.TheVariants.{Some as Back, None as Lost}
use Rattle.completion.specs.declared.Completion.{Completion}
use Rattle.model.specs.declared.Lengths.{Lengths}
use Rattle.model.specs.declared.Row.{Row}
use Rattle.model.specs.declared.Call.TheVariants.{Take}
use Rattle.model.specs.State.{State}
use Rattle.step.specs.Step.{bytes_at, taken, called, step}
use Rattle.rusttable.specs.Table.{Completion as RustCompletion}
use Rattle.rusttable.specs.Functions.{pop_front, next}
use Rattle.rusttable.specs.Domain.{compared}
use Rattle.rusttable.specs.AsStep.{buf_of, back_of, completion_as, row_as, table_of, store_of, front_as, Takes}
use Rattle.rusttable.proofs.Lists.{map_same}
use Rattle.rusttable.proofs.Frames.{same_row}
use Rattle.rusttable.proofs.Within.{called_step}

-- two states with the same regions and the same bytes
module _ (s s' : State) (regions : s'.regions ≡ s.regions) (bytes : (b : ℕ) → bytes_at s' b ≡ bytes_at s b) where
  back_alike : (x : Buffer) → back_of s' x ≡ back_of s x
  unfolding back_of buf_of
  back_alike (Back h) = rw (bytes h.buffer) refl
  back_alike Lost = refl

  pub completion_alike : (c : Completion) → completion_as s' c ≡ completion_as s c
  unfolding completion_as
  completion_alike c = rw (back_alike c.buf) refl

  pub completions_alike : (cs : List Completion) → map (completion_as s') cs ≡ map (completion_as s) cs
  completions_alike cs = map_same (completion_as s) (completion_as s') completion_alike cs

  pub rows_alike : (rows : List Row) → map (row_as s') rows ≡ map (row_as s) rows
  rows_alike rows = map_same (row_as s) (row_as s') (λ x. same_row s s' regions x (λ live. bytes x.buffer)) rows

module _ (s : State) (c : Completion) (more : List Completion) where
  abbrev after : State
  after = (taken s (c ∷ more)).0

  same_regions : after.regions ≡ s.regions
  unfolding taken
  same_regions = refl

  same_bytes : (b : ℕ) → bytes_at after b ≡ bytes_at s b
  unfolding taken bytes_at
  same_bytes b = refl

  table_alike : (pop_front (table_of s) (map (completion_as s) (c ∷ more))).table ≡ table_of after
  unfolding taken pop_front table_of
  table_alike = rw (rows_alike s after same_regions same_bytes s.rows, completions_alike s after same_regions same_bytes more) refl

  took_one : (n : ℕ) → Takes n s (pop_front (table_of s) (map (completion_as s) (c ∷ more))) (taken s (c ∷ more))
  unfolding pop_front taken front_as store_of
  took_one n = record { table = table_alike; store = refl; front = ap (λ (z : RustCompletion). some (some z)) (sym (completion_alike s after same_regions same_bytes c)) }

took : (n : ℕ) (s : State) (cs : List Completion) → s.ready ≡ cs → Takes n s (pop_front (table_of s) (map (completion_as s) cs)) (taken s cs)
unfolding pop_front taken front_as
took n s [] e = record { table = refl; store = refl; front = refl }
took n s (c ∷ more) e = took_one s c more n

pub take_square : (s : State) (l : Lengths) (n : ℕ) → compared (step s l Take).1 ≡ true → Takes n s (next (table_of s)) (step s l Take)
unfolding called next table_of
take_square s l n h = rw (called_step s l Take h) (took n s s.ready refl)
