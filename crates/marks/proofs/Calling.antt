-- A call that touches no row: the row is put back as it was found, no count changes, and only the store's words may be others.
use mathlib.Core.Path.{◌≡◌, sym, ap, ◌∙◌, subst}
use mathlib.Core.Bool.{Bool, true, false}
use mathlib.Core.List.{List}
use Prim.Native.Nat.{ℕ, ◌≤◌}
use lib.ListN.{length, get_or, set}
use lib.Seq.{set-get_or}
use lib.Dec.{leb}
use borrow.Author.Tests.{leb-true}
use Rattle.layout.specs.Pick.{pick}
use Rattle.layout.proofs.Tests.{not_both, and_left}
use Rattle.completion.specs.declared.Refusal.{Refusal}
use Rattle.completion.specs.declared.Refusal.TheVariants.{Unfit}
use Rattle.completion.specs.declared.Reply.{Reply}
use Rattle.completion.specs.declared.Reply.TheVariants.{No as turnedAway}
use Rattle.model.specs.declared.Lengths.{Lengths}
use Rattle.model.specs.declared.Counts.{Counts}
use Rattle.model.specs.declared.Row.{Row}
use Rattle.model.specs.declared.Call.{Call}
use Rattle.model.specs.State.{freed}
use Rattle.model.specs.Memory.{Lent, lengths_of, same_lengths, state_in}
use Rattle.step.specs.Step.{called, step}
use Rattle.step.specs.Lists.{is_away}
use Rattle.step.specs.Sound.{Sound}
use Rattle.step.proofs.Memory.{lengths_same}
use Rattle.optable.specs.declared.Frees.TheVariants.{Nothing as none}
use Rattle.optable.specs.Counted.{accepted_if, released_by}
use Rattle.optable.specs.declared.touched.Touched.{Touched}
use Rattle.optable.specs.Called.{place_of, CallsTo}

-- words that can be compared with the lengths are at least 48
pub enough : (l : Lengths) (s : List ℕ) → same_lengths l s ≡ true → 48 ≤ length s
unfolding same_lengths
enough l s e = leb-true 48 (length s) (and_left (leb 48 (length s)) _ e)

-- where the lengths are those of the opening, the step is the call's
pub stepped : (call : Call) (c : Counts) (l : Lent) → same_lengths (lengths_of l) l.store ≡ true → Sound (state_in c l) → step (state_in c l) (lengths_of l) call ≡ called (state_in c l) call
unfolding step pick state_in
stepped call c l same i =
    ap (λ (b : Bool). pick b (called (state_in c l) call) (state_in c l, turnedAway Unfit)) (sym (lengths_same c l i) ∙ same)

-- a reply that turns nobody away is no refusal
pub not_away : {A : Type 0} (r : Reply) (f : Refusal) → is_away r ≡ false → r ≡ turnedAway f → A
unfolding is_away
not_away r f goes e = absurd (not_both (ap is_away e) goes)

pub put_back : (call : Call) (row : Row) (c : Counts) (rows : List Row) (free : List ℕ) → row ≡ get_or rows (place_of call c free) (freed 0) → (l : Lent) (lent : List Row → Lent) (r : Touched) (reply : Reply)
    → r ≡ record { row = row; accepts = false; frees = none; reply = reply } → CallsTo call c l reply c (lent rows)
    → CallsTo call c l r.reply (released_by r.frees (accepted_if r.accepts c)) (lent (set rows (place_of call c free) r.row))
unfolding released_by accepted_if pick
put_back call row c rows free found l lent r reply e =
    subst (λ (x : Reply × (Counts × List Row)). CallsTo call c l x.0 x.1.0 (lent x.1.1)) (λ j. ((sym e j).reply, (sym counts_same j, sym rows_same j)))
  where
    counts_same : released_by r.frees (accepted_if r.accepts c) ≡ c
    counts_same = ap (λ (x : Touched). released_by x.frees (accepted_if x.accepts c)) e

    rows_same : set rows (place_of call c free) r.row ≡ rows
    rows_same = ap (λ (x : Touched). set rows (place_of call c free) x.row) e ∙ ap (set rows (place_of call c free)) found ∙ set-get_or rows (place_of call c free) (freed 0)
