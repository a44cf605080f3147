-- `start`: by what became of the opening, the definition computes; an opening that did not open the table has changed nothing.
use mathlib.Core.Path.{◌≡◌, refl, sym, ap, ◌∙◌, subst}
use mathlib.Core.Bool.{Bool, true, false}
use mathlib.Core.List.{List}
use Prim.Native.Nat.{ℕ, ◌*◌, ◌≤◌}
use native.Mathlib.Omega.{arith}
use lib.ListN.{length, take}
use lib.Seq.{length-take-le}
use Rattle.layout.specs.Pick.{pick}
use Rattle.completion.specs.declared.Reply.TheVariants.{Ok}
use Rattle.model.specs.declared.Counts.{Counts}
use Rattle.model.specs.declared.Opening.{Opening}
use Rattle.model.specs.declared.Row.{Row}
use Rattle.model.specs.State.{fresh}
use Rattle.model.specs.Memory.{Lent, opened_lent, lent_after}
use Rattle.optable.specs.Called.{lent_of}
use Rattle.printer.specs.Replay.{replay_text}
use Rattle.session.specs.declared.start.Started.{Started}
use Rattle.session.specs.declared.start.Started.TheVariants.{Table as opened, Refused as broken, TooLarge}
use Rattle.session.specs.Start.{keeps, lent_for, opens_in, started_as, StartsTo}
use Rattle.session.specs.declared.Stage.{Stage}
use Rattle.session.specs.declared.Stage.TheVariants.{Planned, Table, Refused, Over}
use Rattle.session.specs.Unopened.{Stood, stood_at, Tells, limit_text, no_text13, lent_opened, start_line}

-- the stage, the text and the counts
module _ (started : Started) (o : Opening) (s : Stood) where
  abbrev Goes : Stage → List ℕ → Type 0
  Goes stage text = (stage ≡ (start_line started o s).stood.stage) × (text ≡ (start_line started o s).text)

  pub opened_goes : started ≡ opened → (pool : List ℕ) (n : ℕ) → n ≤ length pool → take n pool ≡ take (o.buffers * o.capacity) pool → s.lent.pool ≡ pool → (text : List ℕ) → text ≡ replay_text Ok → Goes (Table n) text
  unfolding start_line lent_for
  opened_goes e pool n most same is text p =
      let far : n ≡ length (take (o.buffers * o.capacity) s.lent.pool) = sym (length-take-le n pool most) ∙ ap length same ∙ (λ j. length (take (o.buffers * o.capacity) (sym is j))) in
      subst (λ (x : Started). (Table n ≡ (start_line x o s).stood.stage) × (text ≡ (start_line x o s).text)) (sym e) (ap Table far, p)

  pub broken_goes : started ≡ broken → (text : List ℕ) → text ≡ no_text13 → Goes Refused text
  unfolding start_line
  broken_goes e text p = subst (λ (x : Started). (Refused ≡ (start_line x o s).stood.stage) × (text ≡ (start_line x o s).text)) (sym e) (refl, p)

  pub large_goes : started ≡ TooLarge → (text : List ℕ) → text ≡ limit_text → Goes Over text
  unfolding start_line
  large_goes e text p = subst (λ (x : Started). (Over ≡ (start_line x o s).stood.stage) × (text ≡ (start_line x o s).text)) (sym e) (refl, p)

  pub opened_counts_lem : started ≡ opened → fresh ≡ (start_line started o s).stood.counts
  unfolding start_line
  opened_counts_lem e = subst (λ (x : Started). fresh ≡ (start_line x o s).stood.counts) (sym e) refl

pub other_counts : (started : Started) → (started ≡ opened → ⊥) → (o : Opening) (s : Stood) (counts : Counts) → s.counts ≡ counts → counts ≡ (start_line started o s).stood.counts
unfolding start_line
other_counts opened w o s counts e = absurd (w refl)
other_counts broken w o s counts e = sym e
other_counts TooLarge w o s counts e = sym e

-- what did not open
not_open : (t u : Bool) (r : Started) → r ≡ pick t opened (pick u TooLarge broken) → (r ≡ opened → ⊥) → t ≡ false
unfolding pick
not_open true u r e h = absurd (h e)
not_open false u r e h = refl

module _ (o : Opening) (plan : List ℕ) (flushes : ℕ) (counts : Counts) (rows : List Row) (store free ready owners pool : List ℕ) where
  abbrev l : Lent
  l = lent_of rows store free ready owners pool

  abbrev s : Stood
  s = stood_at (Planned o) plan flushes counts l

  kept : opens_in o plan l ≡ false → lent_opened o plan l ≡ l
  unfolding lent_opened opens_in lent_after lent_for pick
  kept e = ap (λ (t : Bool). let l' = pick t (opened_lent o plan (lent_for o l)) (lent_for o l) in lent_of l'.rows l'.store l'.free l'.ready l'.owners pool) e

  -- the memory is what the opening left, whatever became of it
  leaves : (r : Started) → r ≡ started_as o plan l → stood_at (start_line r o s).stood.stage plan flushes (start_line r o s).stood.counts (lent_opened o plan l) ≡ (start_line r o s).stood
  unfolding start_line started_as
  leaves opened e = refl
  leaves broken e = ap (λ (x : Lent). stood_at Refused plan flushes counts x) (kept (not_open (opens_in o plan l) (keeps o plan) broken e (λ z. let q : ◌≡◌ {A = ℕ} 0 1 = cc in omega arith)))
  leaves TooLarge e = ap (λ (x : Lent). stood_at Over plan flushes counts x) (kept (not_open (opens_in o plan l) (keeps o plan) TooLarge e (λ z. let q : ◌≡◌ {A = ℕ} 0 1 = cc in omega arith)))

  pub tells : (r : Started) (rows' : List Row) (store' free' ready' owners' : List ℕ) → StartsTo o plan l r rows' store' free' ready' owners'
      → (stage : Stage) (text : List ℕ) → (stage ≡ (start_line r o s).stood.stage) × (text ≡ (start_line r o s).text) → (counts' : Counts) → counts' ≡ (start_line r o s).stood.counts
      → Tells (start_line (started_as o plan l) o s) (stood_at stage plan flushes counts' (lent_of rows' store' free' ready' owners' pool)) text
  unfolding lent_opened
  tells r rows' store' free' ready' owners' to stage text goes counts' counted =
      let same : stood_at stage plan flushes counts' (lent_of rows' store' free' ready' owners' pool) ≡ stood_at (start_line r o s).stood.stage plan flushes (start_line r o s).stood.counts (lent_opened o plan l) =
      λ j. stood_at (goes.0 j) plan flushes (counted j) (lent_of (to.rows_are j) (to.store_is j) (to.free_is j) (to.ready_is j) (to.owners_are j) pool)
      in
      (same ∙ leaves r to.started ∙ ap (λ (x : Started). (start_line x o s).stood) to.started, goes.1 ∙ ap (λ (x : Started). (start_line x o s).text) to.started)
