-- What the reply of an opening tells: a table is that of one that is admitted, and of no other, and then what is lent holds what such an opening writes.
use mathlib.Core.Path.{◌≡◌, refl, sym}
use mathlib.Core.Bool.{Bool, true, false}
use mathlib.Core.List.{List}
use Prim.Native.Nat.{ℕ}
use native.Mathlib.Omega.{arith}
use Rattle.layout.specs.Pick.{pick}
use Rattle.completion.specs.declared.Refusal.{Refusal}
use Rattle.model.specs.declared.{Opening.Opening, Counts.Counts, Row.Row}
use Rattle.model.specs.State.{fresh}
use Rattle.model.specs.Opening.{opens}
use Rattle.model.specs.Memory.{Lent, lengths_of, opened_lent, lent_after}
use Rattle.std.specs.declared.result.Result.{Result}
use Rattle.opening.specs.Opened.{Opened, refused, OpensTo}

told : (t : Bool) (c : Counts) → ◌≡◌ {A = Opened} (Result.Ok c) (pick t (Result.Ok fresh) refused) → (t ≡ true) × (c ≡ fresh)
unfolding pick
told true c e = (refl, cc)
told false c e = absurd (let z : ◌≡◌ {A = ℕ} 0 1 = cc in omega arith)

module _ (o : Opening) (plan : List ℕ) (l : Lent) where
  pool_kept : (t : Bool) → (pick t (opened_lent o plan l) l).pool ≡ l.pool
  unfolding pick opened_lent
  pool_kept true = refl
  pool_kept false = refl

  module _ (c : Counts) (rows : List Row) (store free ready owners : List ℕ) (z : OpensTo o plan l (Result.Ok c) rows store free ready owners) where
    pub admitted : opens o plan (lengths_of l) ≡ true
    admitted = (told (opens o plan (lengths_of l)) c z.reply).0

    pub counts_fresh : c ≡ fresh
    counts_fresh = (told (opens o plan (lengths_of l)) c z.reply).1

    pub left_is : record { rows = rows; store = store; free = free; ready = ready; owners = owners; pool = l.pool } ≡ lent_after o plan l
    unfolding lent_after
    left_is =
        λ j. record { rows = z.rows_are j; store = z.store_is j; free = z.free_is j; ready = z.ready_is j; owners = z.owners_are j; pool = sym (pool_kept (opens o plan (lengths_of l))) j }

  -- a refusal is that of one that is not admitted: what is lent stays
  not_told : (t : Bool) (f : Refusal) → ◌≡◌ {A = Opened} (Result.Err f) (pick t (Result.Ok fresh) refused) → t ≡ false
  unfolding pick
  not_told true f e = absurd (let z : ◌≡◌ {A = ℕ} 0 1 = cc in omega arith)
  not_told false f e = refl

  pub unopened : (f : Refusal) (rows : List Row) (store free ready owners : List ℕ) → OpensTo o plan l (Result.Err f) rows store free ready owners → lent_after o plan l ≡ l
  unfolding lent_after pick
  unopened f rows store free ready owners z = λ j. pick (not_told (opens o plan (lengths_of l)) f z.reply j) (opened_lent o plan l) l
