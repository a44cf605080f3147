-- What `fits` tells, by its branches.
use mathlib.Core.Path.{◌≡◌, sym, ap, ◌∙◌}
use mathlib.Core.Bool.{Bool, false, ◌&&◌}
use mathlib.Core.List.{List}
use Prim.Native.Nat.{ℕ, ◌/◌, ◌%◌}
use lib.ListN.{length}
use lib.Dec.{eqb}
use borrow.Author.Tests.{eqb-true}
use Rattle.layout.proofs.Tests.{refused}
use Rattle.model.specs.Memory.{lengths_of, same_lengths}
use Rattle.memory.specs.Lengths.{lengths_with}
use Rattle.abi.proofs.Laws.{count}
use Rattle.entry.specs.WordCalls.{lent_in}
use Rattle.entry.specs.WholeRows.{Whole, Cut, fits_in}

pub whole_fits : (rows store free ready owners pool : List ℕ) → Whole rows → (b : Bool) → b ≡ same_lengths (lengths_with (length rows / 16) store free ready owners (length pool)) store → b ≡ fits_in rows store free ready owners pool
unfolding fits_in lengths_of
whole_fits rows store free ready owners pool w b e =
    e ∙ ap (λ (k : ℕ). same_lengths (lengths_with k store free ready owners (length pool)) store) (sym (count rows))
    ∙ sym (ap (λ (k : ℕ). eqb k 0 && same_lengths (lengths_of (lent_in rows store free ready owners pool)) store) w)

pub cut_unfit : (rows store free ready owners pool : List ℕ) → Cut rows → false ≡ fits_in rows store free ready owners pool
unfolding fits_in
cut_unfit rows store free ready owners pool cut = sym (ap (λ (b : Bool). b && same_lengths (lengths_of (lent_in rows store free ready owners pool)) store) (refused (eqb (length rows % 16) 0) (λ e. cut (eqb-true (length rows % 16) 0 e))))
