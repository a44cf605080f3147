-- The completions of one of demand 3's lists: each ends a live row, so there are as many as rows were live; and they are taken oldest first, so that what was
-- ready and what is added, in order, is what is taken and what stays ready.
use mathlib.Core.Path.{◌≡◌, refl, sym, ap, ◌∙◌, subst}
use mathlib.Core.Bool.{true, false}
use mathlib.Core.List.{List, [], ◌∷◌, ◌++◌, append-nil, append_assoc}
use Prim.Native.Nat.{ℕ, suc, ◌+◌}
use native.Mathlib.Omega.{arith}
use lib.ListN.{length, get_or, set, drop, length-append, drop_of_length-le}
use lib.Seq.{drop-length, drop-append_seam}
use Rattle.completion.specs.declared.Completion.{Completion}
use Rattle.completion.specs.declared.Reply.{Reply}
use Rattle.completion.specs.declared.Reply.TheVariants.{No as turnedAway}
use Rattle.model.specs.declared.Lengths.{Lengths}
use Rattle.model.specs.declared.Awaits.{Awaits}
use Rattle.model.specs.declared.Awaits.TheVariants.{Nothing, Piece, Flush}
use Rattle.model.specs.declared.Row.{Row}
use Rattle.model.specs.State.{State, freed, awaiting, live_rows}
use Rattle.model.specs.Opening.{Plan}
use Rattle.step.specs.Questions.{region_at}
use Rattle.step.specs.Step.{row_at, row_of, raised, is_live, plan_of, awaits_now, completion_of, asks_for, going, freeing, settled, taken}
use Rattle.step.specs.Run.{Made, Event, leave, done, next, reply_to, run, Start}
use Rattle.step.specs.Lists.{took_by, added_by, added, takings}
use Rattle.step.specs.Alone.{Alones}
use Rattle.step.specs.Demand3.{Fits, AllDone}
use Rattle.step.proofs.Counts.{live_set}
use Rattle.step.proofs.Named.{live_one}
use Rattle.step.proofs.AloneTags.{dead_awaiting, freed_dead, live_in, names_live}
use Rattle.step.proofs.ProjectionReached.{Reached, next_alone}
use Rattle.step.proofs.ListsCame.{Came, Came.turned, Came.silent, Came.took, Came.goes, Came.finishes}
use Rattle.step.proofs.ListsRows.{goes_on_with}
use Rattle.step.proofs.ListsWalk.{came_next, reached, behind}

-- ---- one call

-- the completions behind those that were ready
abbrev behind_of : State → State → List Completion
behind_of s s' = drop (length s.ready) s'.ready

abbrev Counted : State → State → Type 0
Counted s s' = live_rows s.rows ≡ length (behind_of s s') + live_rows s'.rows

abbrev Queued : State → State × Reply → Type 0
Queued s y = s.ready ++ behind_of s y.0 ≡ took_by y.1 ++ y.0.ready

-- nothing was taken off the front, so nothing is behind
none_behind : (s : State) → length (behind_of s s) ≡ 0
none_behind s = ap length (drop-length s.ready)

counted_same : (s : State) → Counted s s
counted_same s = omega (arith, none_behind s)

queued_same : (s : State) (r : Reply) → took_by r ≡ [] → Queued s (s, r)
queued_same s r e = rw (drop-length s.ready, e) (append-nil s.ready)

-- a row is replaced in place of a live one
counted_row : (s : State) (r : ℕ) (new : Row) → is_live (row_at s r).awaits ≡ true → live_rows (set s.rows r new) + 1 ≡ live_rows s.rows + awaiting new.awaits
unfolding row_at
counted_row s r new live = omega (arith, live_set s.rows r new (freed 0) (live_in s r live), live_one (row_at s r).awaits live)

asks_takes_none : (g : Plan) (t b : ℕ) (a : Awaits) → took_by (asks_for g t b a) ≡ []
unfolding asks_for took_by
asks_takes_none g t b Nothing = refl
asks_takes_none g t b (Piece k s) = refl
asks_takes_none g t b (Flush ticket) = refl

module _ (s : State) (l : Lengths) (m : Made) where
  counted : Came s l m → Counted s (done s l m).0
  unfolding settled going freeing awaits_now
  counted (turned f d) = subst (λ (y : State × Reply). Counted s y.0) (sym d) (counted_same s)
  counted (silent b d k) = subst (Counted s) (sym d) (counted_same s)
  counted (took b c more e d) = subst (λ (y : State × Reply). Counted s y.0) (sym d) (unfold taken in rw (e, drop_of_length-le more {i = suc (length more)} (omega arith)) (omega arith))
  counted (goes t i br named a bytes q d) =
      let row = row_at s (row_of t) in
      subst (λ (y : State × Reply). Counted s y.0) (sym d)
      (omega (arith, none_behind s, counted_row s (row_of t) (awaits_now row a) (names_live row t named), (goes_on_with s row i a bytes q).live))
  counted (finishes t i br named o b bytes q d) =
      let row = row_at s (row_of t) in
      subst (λ (y : State × Reply). Counted s y.0) (sym d)
      (omega (arith, ap length (drop-append_seam s.ready (completion_of row o b ∷ [])), counted_row s (row_of t) (freed (raised row.generation)) (names_live row t named), dead_awaiting (freed (raised row.generation)).awaits (freed_dead (raised row.generation))))

  queued : Came s l m → Queued s (done s l m)
  unfolding settled going freeing took_by
  queued (turned f d) = subst (Queued s) (sym d) (queued_same s (turnedAway f) refl)
  queued (silent b d k) = subst (λ (z : State). s.ready ++ behind_of s z ≡ took_by (done s l m).1 ++ z.ready) (sym d) (queued_same s (done s l m).1 k)
  queued (took b c more e d) = subst (Queued s) (sym d) (unfold taken in rw (e, drop_of_length-le more {i = suc (length more)} (omega arith)) (append-nil (c ∷ more)))
  queued (goes t i br named a bytes q d) =
      let row = row_at s (row_of t) in
      subst (Queued s) (sym d) (rw (drop-length s.ready, asks_takes_none (plan_of (region_at s row.handle)) t row.buffer a) (append-nil s.ready))
  queued (finishes t i br named o b bytes q d) =
      subst (Queued s) (sym d) (rw (drop-append_seam s.ready (completion_of (row_at s (row_of t)) o b ∷ [])))

-- ---- a list

module _ (x : Start) where
  pub count_all : (s : State) (a : Alones) → Reached x s a → (l : List Event) → Fits s l → live_rows s.rows ≡ length (added s l) + live_rows (run s l).rows
  unfolding added added_by run next leave
  count_all s a k [] f = omega arith
  count_all s a k (e ∷ es) f =
      let one = counted (leave s e.leaves) e.lengths e.made (came_next x s a k e es f) in
      let rest = count_all (next s e) (next_alone x s a e) (reached x s a k e es f) es (behind x s a k e es f) in
      omega (arith, one, rest, length-append (added_by s e) (added (next s e) es))

  pub queue_all : (s : State) (a : Alones) → Reached x s a → (l : List Event) → Fits s l → s.ready ++ added s l ≡ takings s l ++ (run s l).ready
  unfolding added added_by takings run next reply_to leave
  queue_all s a k [] f = append-nil s.ready
  queue_all s a k (e ∷ es) f =
      let one = queued (leave s e.leaves) e.lengths e.made (came_next x s a k e es f) in
      let rest = queue_all (next s e) (next_alone x s a e) (reached x s a k e es f) es (behind x s a k e es f) in
      let took = took_by (reply_to s e) in
      sym (append_assoc s.ready (added_by s e) (added (next s e) es))
      ∙ ap (λ (z : List Completion). z ++ added (next s e) es) one
      ∙ append_assoc took (next s e).ready (added (next s e) es)
      ∙ ap (λ (z : List Completion). took ++ z) rest
      ∙ sym (append_assoc took (takings (next s e) es) (run (next s e) es).ready)

-- none is live in the end
pub none_live : (l : List Row) → ((r : ℕ) → is_live (get_or l r (freed 0)).awaits ≡ false) → live_rows l ≡ 0
unfolding live_rows
none_live [] h = refl
none_live (r ∷ rs) h = omega (arith, dead_awaiting r.awaits (h 0), none_live rs (λ k. h (suc k)))

pub done_dead : (s : State) → AllDone s → live_rows s.rows ≡ 0
unfolding AllDone row_at
done_dead s d = none_live s.rows d
