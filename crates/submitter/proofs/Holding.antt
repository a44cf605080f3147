-- A host in Rattle holds a table that calls have left: the opening's contract says which words it leaves, and the rest is the laws of what is held.
use mathlib.Core.Path.{◌≡◌, refl, sym, subst}
use mathlib.Core.Bool.{true}
use mathlib.Core.List.{List, []}
use Prim.Native.Nat.{ℕ}
use lib.ListN.{length}
use Rattle.model.specs.declared.{Opening.Opening, Counts.Counts, Row.Row}
use Rattle.model.specs.Opening.{opens}
use Rattle.model.specs.State.{fresh}
use Rattle.model.specs.Memory.{Lent, lengths_of, state_in, lent_after}
use Rattle.step.specs.Run.{Start, opened_by, after, run}
use Rattle.optable.specs.Called.{lent_of}
use Rattle.optable.specs.Held.{Holds, Turn, TurnsFrom, start_at}
use Rattle.optable.proofs.Held.{held_laws}
use Rattle.std.specs.declared.result.Result.{Result}
use Rattle.opening.specs.Opened.{OpensTo}
use Rattle.opening.proofs.Admitted.{admitted, counts_fresh, left_is}
use Rattle.submitter.specs.Holding.{HeldFrom, HostHolds}

module _ (o : Opening) (plan : List ℕ) (l : Lent) (c₀ : Counts) (rows : List Row) (store free ready owners : List ℕ) (z : OpensTo o plan l (Result.Ok c₀) rows store free ready owners) where
  long : length l.pool ≡ (lengths_of l).pool
  unfolding lengths_of
  long = refl

  abbrev l₀ : Lent
  l₀ = lent_of rows store free ready owners l.pool

  abbrev x : Start
  x = start_at o plan l (admitted o plan l c₀ rows store free ready owners z) long

  abbrev ok : opens o plan (lengths_of l) ≡ true
  ok = admitted o plan l c₀ rows store free ready owners z

  -- what the opening left
  there : (P : Counts → Lent → Type 0) → P fresh (lent_after o plan l) → P c₀ l₀
  there P p = subst (λ (y : Lent). P c₀ y) (sym (left_is o plan l c₀ rows store free ready owners z)) (subst (λ (y : Counts). P y (lent_after o plan l)) (sym (counts_fresh o plan l c₀ rows store free ready owners z)) p)

  held_from : (us : List Turn) → TurnsFrom c₀ l₀ us → HeldFrom o plan l c₀ l₀ us
  unfolding after run
  held_from us k =
      let all = held_laws.turns x [] c₀ l₀ us (there (Holds x []) (held_laws.opening o plan l ok long)) k in
      record {
        start = x;
        begins = record { opening_is = refl; plan_is = refl; lengths_are = refl; pool_is = refl };
        opened = there (λ c y. state_in c y ≡ opened_by x) (held_laws.opened o plan l ok long);
        as_steps = all.1;
        holds = all.0;
      }

pub host_holds : HostHolds
unfolding HostHolds
host_holds = held_from
