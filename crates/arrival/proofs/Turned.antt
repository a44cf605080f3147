-- An answer or a flush result that is turned away: the row is put back as it was found, and nothing changes.
use Rattle.std.proofs.Common.{◌≡◌, ℕ, ◌<◌, ◌≤◌, true, false, ltb, length, get_or, take, sym, refl, ap, ◌∙◌, ⊎_elim, arith, length-take, get_or-take, ltb-false, ltb-true}
use lib.ListN.{get_or-eq_default}
use Rattle.layout.specs.Pick.{pick}
use Rattle.layout.proofs.Tests.{true_or_false}
use Rattle.completion.specs.declared.Refusal.TheVariants.{UnknownTag}
use Rattle.completion.specs.declared.Reply.TheVariants.{No as turnedAway}
use Rattle.model.specs.declared.Counts.{Counts}
use Rattle.model.specs.declared.Row.{Row}
use Rattle.model.specs.State.{State, freed}
use Rattle.model.specs.Memory.{Lent, settings_in, state_in}
use Rattle.step.specs.Rules.{Input}
use Rattle.step.specs.Step.{row_of, row_at, is_live, names, fate_of, settled, under_tag}
use Rattle.optable.specs.Called.{Beyond}

-- the row that a tag names, of a table in what is lent: within the depth it is the one lent
pub row_at_lem : (c : Counts) (l : Lent) (r : ℕ) → r < (settings_in l.store).depth → get_or l.rows r (freed 0) ≡ row_at (state_in c l) r
unfolding row_at state_in
row_at_lem c l r below = sym (get_or-take (settings_in l.store).depth l.rows r (freed 0) below)

-- under a tag: a tag that names no live row, and one that names a row
pub unknown : (s : State) (t : ℕ) (i : Input) → names (row_at s (row_of t)) t ≡ false → under_tag s t i ≡ (s, turnedAway UnknownTag)
unfolding under_tag pick
unknown s t i e = rw e

pub known : (s : State) (t : ℕ) (i : Input) → names (row_at s (row_of t)) t ≡ true → under_tag s t i ≡ settled s t (row_at s (row_of t)) (fate_of s (row_at s (row_of t)) i)
unfolding under_tag pick
known s t i e = rw e

-- past the depth the table has no row, whatever is lent there
pub past_depth : (c : Counts) (l : Lent) (t : ℕ) → (settings_in l.store).depth ≤ row_of t → names (row_at (state_in c l) (row_of t)) t ≡ false
unfolding row_at state_in names is_live freed
past_depth c l t past =
    let d = (settings_in l.store).depth in
    let short : length (take d l.rows) ≤ row_of t = simp length-take (omega (arith, past)) in
    ap (λ (x : Row). names x t) (get_or-eq_default (take d l.rows) (freed 0) short)

-- a tag that does not name the row lent in its place names none of the table's
pub not_named : (c : Counts) (l : Lent) (t : ℕ) → names (get_or l.rows (row_of t) (freed 0)) t ≡ false → names (row_at (state_in c l) (row_of t)) t ≡ false
not_named c l t e =
    let d = (settings_in l.store).depth in
    ⊎_elim (λ below. ap (λ (x : Row). names x t) (sym (row_at_lem c l (row_of t) (ltb-true (row_of t) d below))) ∙ e) (λ past. past_depth c l t (ltb-false (row_of t) d past)) (true_or_false (ltb (row_of t) d))

-- nothing past what the table needs is written where nothing is
pub beyond_none : (l : Lent) → Beyond (settings_in l.store) l l
beyond_none l = record { lengths = refl; rows = refl; store = refl; free = refl; ready = refl; owners = refl }
