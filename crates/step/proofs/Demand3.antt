-- Demand 3: whatever order the storage card answers in. Each operation open at first ends alike in both lists, by what it is given; the rest follows from
-- soundness, row by row and byte by byte.
use mathlib.Core.Path.{◌≡◌, refl, sym, ap, ◌∙◌, subst}
use mathlib.Core.Logic.{◌≢◌, inl, inr}
use mathlib.Core.Bool.{Bool, true, false}
use mathlib.Core.Option.{some}
use mathlib.Core.List.{List, [], ◌∷◌, ◌++◌}
use Prim.Native.Nat.{ℕ, ◌≤◌, ◌<◌}
use native.Mathlib.Decide.{ℕ_discrete, dec_lt}
use native.Mathlib.Omega.{arith}
use lib.ListN.{take}
use Rattle.layout.proofs.Tests.{not_both}
use Rattle.posix.specs.Posix.{Card}
use Rattle.model.specs.declared.Opening.{Opening}
use Rattle.model.specs.declared.Row.{Row}
use Rattle.model.specs.State.{State, freed}
use Rattle.step.specs.Step.{row_at, row_of, raised, is_live}
use Rattle.step.specs.Lists.{times, Completed, Given, given, gets, card_after, tag_at, plan_at}
use Rattle.step.specs.Run.{Event, next, run, Start, opened_by, after, plans_of}
use Rattle.step.specs.Alone.{Course, Course.is_open, Course.completed, Course.was_refused, Alones, none_yet}
use Rattle.step.specs.Demand3.{alones_after, alone_at, Fits, AllDone, Apart, GivenAlike, Mapped, is_write, Supposed, OneEach, NoMore, Demand3}
use Rattle.step.proofs.AloneTags.{clash, dead_awaiting, names_live, row_of_its_tag, generation_of_its_tag}
use Rattle.step.proofs.CardLists.{Clear, Every, write_live, cold, hot, byte_along}
use Rattle.step.proofs.ListsRows.{Turned, turned_on, idle_stays}
use Rattle.step.proofs.ListsWalk.{behind, reached, moved, fits_hosted, hosted_take}
use Rattle.step.proofs.ProjectionReached.{Reached, next_alone, run_alone, reached_run, alone_append}
pub use Rattle.step.proofs.Projection.{projection}
use Rattle.step.proofs.Projection.{reached_after}
use Rattle.step.proofs.QueueOrder.{count_all, queue_all, done_dead}
use Rattle.step.proofs.QuietCourse.{course_by}
use Rattle.step.proofs.QuietLists.{done_of, InBuffer, Through, through}

-- ---- the rows through a list

module _ (x : Start) where
  turned_all : (g r : ℕ) (l : List Event) (s : State) (a : Alones) → Reached x s a → Fits s l → Turned g (row_at s r) → Turned g (row_at (run s l) r)
  unfolding run
  turned_all g r [] s a k f t = t
  turned_all g r (e ∷ es) s a k f t =
      turned_all g r es (next s e) (next_alone x s a e) (reached x s a k e es f) (behind x s a k e es f) (turned_on g (row_at s r) (row_at (next s e) r) t (moved x s a k e es f r))

  idle_all : (r : ℕ) (l : List Event) (s : State) (a : Alones) → Reached x s a → Fits s l → is_live (row_at s r).awaits ≡ false → row_at (run s l) r ≡ row_at s r
  unfolding run
  idle_all r [] s a k f dead = refl
  idle_all r (e ∷ es) s a k f dead =
      let z = idle_stays (row_at s r) (row_at (next s e) r) dead (moved x s a k e es f r) in
      idle_all r es (next s e) (next_alone x s a e) (reached x s a k e es f) (behind x s a k e es f) (ap (λ (y : Row). is_live y.awaits) z ∙ dead) ∙ z

-- ---- one list, from a table of a history

module _ (x : Start) (s : State) (a : Alones) (k : Reached x s a) (l : List Event) (f : Fits s l) (d : AllDone (run s l)) where
  end : Reached x (run s l) (run_alone x s a l)
  end = reached_run x s a k l (fits_hosted s l f)

  -- a live row's generation is raised once, and another's stays
  pub raised_once : (r : ℕ) → is_live (row_at s r).awaits ≡ true → row_at (run s l) r ≡ freed (raised (row_at s r).generation)
  unfolding AllDone
  raised_once r live = by_turn (turned_all x (row_at s r).generation r l s a k f (inl (live, refl)))
    where
      by_turn : Turned (row_at s r).generation (row_at (run s l) r) → row_at (run s l) r ≡ freed (raised (row_at s r).generation)
      by_turn (inl z) = absurd (not_both z.0 (d r))
      by_turn (inr z) = z

  same_settings : s.settings ≡ (run s l).settings
  same_settings = k.fixed.settings ∙ sym end.fixed.settings

  -- the free stack names each row once, and nothing else
  free_after : (r : ℕ) → r < s.settings.depth → times r (run s l).free ≡ 1
  unfolding AllDone
  free_after r lt = omega (arith, end.sound.free_once r (subst (λ (o : Opening). r < o.depth) same_settings lt), dead_awaiting (row_at (run s l) r).awaits (d r))

  none_past : (r : ℕ) → s.settings.depth ≤ r → times r (run s l).free ≡ 0
  none_past r le = end.sound.free_rows r (subst (λ (o : Opening). o.depth ≤ r) same_settings le)

  no_more : NoMore s l
  no_more = record {
    count = omega (arith, count_all x s a k l f, done_dead (run s l) d);
    queue = queue_all x s a k l f;
    balance = λ n.
        let z = reached_run x s a k (take n l) (hosted_take s n l (fits_hosted s l f)) in
        z.sound.balance ∙ ap (λ (o : Opening). o.depth) (z.fixed.settings ∙ sym k.fixed.settings);
  }

  -- the course of an operation that was open
  module _ (r : ℕ) (live : is_live (row_at s r).awaits ≡ true) where
    abbrev t : ℕ
    t = tag_at s r

    abbrev begins : Course
    begins = is_open (plan_at s (row_at s r)) (row_at s r) (k.projected.each r live).bytes

    abbrev course : Course
    course = course_by x a.forced a.first begins (given s l t)

    goes_through : Through x a.forced a.first s a l t (row_at s r).buffer begins
    unfolding InBuffer
    goes_through = through x a.forced a.first t (row_at s r).buffer l s a k f refl refl begins (k.projected.each r live).same refl (λ e. clash (cc))

    -- it is complete in the end
    complete : (it : Completed) × (course ≡ completed it)
    unfolding AllDone
    complete = by_course course refl
      where
        by_course : (c : Course) → course ≡ c → (it : Completed) × (course ≡ completed it)
        by_course (is_open g row bytes) e =
            absurd (not_both (names_live (row_at (run s l) (row_of t)) t (end.projected.only t g row bytes (goes_through.course ∙ ap some e)).0) (d (row_of t)))
        by_course (completed it) e = (it, e)
        by_course was_refused e = absurd (goes_through.kept e)

    gets_it : (it : Completed) → course ≡ completed it → gets s l t (row_at s r).buffer ≡ it ∷ []
    unfolding done_of
    gets_it it e = goes_through.got ∙ ap done_of e

    alone_gets_it : (it : Completed) → course ≡ completed it → (run_alone x s a l).ops t ≡ some (completed it)
    alone_gets_it it e = goes_through.course ∙ ap some e

-- ---- two lists

module _ (x : Start) (s : State) (a : Alones) (k : Reached x s a) (l₁ l₂ : List Event) (u : Supposed s l₁ l₂) where
  -- the courses agree
  same_given : (r : ℕ) → is_live (row_at s r).awaits ≡ true → given s l₁ (tag_at s r) ≡ given s l₂ (tag_at s r)
  unfolding GivenAlike
  same_given = u.alike

  same_course : (r : ℕ) (live : is_live (row_at s r).awaits ≡ true) → course x s a k l₂ u.fits₂ u.done₂ r live ≡ course x s a k l₁ u.fits₁ u.done₁ r live
  same_course r live = ap (course_by x a.forced a.first (begins x s a k l₁ u.fits₁ u.done₁ r live)) (sym (same_given r live))

  same_generation : (r : ℕ) → (row_at (run s l₁) r).generation ≡ (row_at (run s l₂) r).generation
  same_generation r = ap (λ (y : Row). y.generation) (by_live (is_live (row_at s r).awaits) refl)
    where
      by_live : (b : Bool) → is_live (row_at s r).awaits ≡ b → row_at (run s l₁) r ≡ row_at (run s l₂) r
      by_live true e = raised_once x s a k l₁ u.fits₁ u.done₁ r e ∙ sym (raised_once x s a k l₂ u.fits₂ u.done₂ r e)
      by_live false e = idle_all x r l₁ s a k u.fits₁ e ∙ sym (idle_all x r l₂ s a k u.fits₂ e)

  same_free : (r : ℕ) → times r (run s l₁).free ≡ times r (run s l₂).free
  same_free r = by_case (dec_lt r s.settings.depth)
    where
      by_case : Dec (r < s.settings.depth) → times r (run s l₁).free ≡ times r (run s l₂).free
      by_case (yes lt) = free_after x s a k l₁ u.fits₁ u.done₁ r lt ∙ sym (free_after x s a k l₂ u.fits₂ u.done₂ r lt)
      by_case (no n) = none_past x s a k l₁ u.fits₁ u.done₁ r (omega (arith, n)) ∙ sym (none_past x s a k l₂ u.fits₂ u.done₂ r (omega (arith, n)))

  -- ---- the card

  module _ (card : Card) (y : ℕ) where
    -- where one open write is mapped to the byte
    module _ (r : ℕ) (w : is_write (row_at s r).awaits ≡ true) (m : Mapped s (row_at s r) y) where
      live : is_live (row_at s r).awaits ≡ true
      live = write_live (row_at s r).awaits w

      others : Clear (λ j. j ≢ r) s y
      unfolding Apart
      others j n v q = u.apart j r y n v live q m

      followed : (l : List Event) → Fits s l → card_after s l card y ≡ byte_along x a.forced a.first y (is_open (plan_at s (row_at s r)) (row_at s r) (k.projected.each r live).bytes) (given s l (tag_at s r)) (card y)
      followed l f =
          hot x a.forced a.first y r (row_at s r).generation (tag_at s r) (row_of_its_tag s k.sound r live) (generation_of_its_tag s k.sound r live) l s a k f refl refl card others (inl (live, refl))
          (is_open (plan_at s (row_at s r)) (row_at s r) (k.projected.each r live).bytes) (k.projected.each r live).same

      agreed : card_after s l₁ card y ≡ card_after s l₂ card y
      agreed =
          followed l₁ u.fits₁
          ∙ ap (λ (vs : List Given). byte_along x a.forced a.first y (is_open (plan_at s (row_at s r)) (row_at s r) (k.projected.each r live).bytes) vs (card y)) (same_given r live)
          ∙ sym (followed l₂ u.fits₂)

    same_byte : card_after s l₁ card y ≡ card_after s l₂ card y
    same_byte = by_case (ℕ_discrete (card_after s l₁ card y) (card_after s l₂ card y))
      where
        by_case : Dec (card_after s l₁ card y ≡ card_after s l₂ card y) → card_after s l₁ card y ≡ card_after s l₂ card y
        by_case (yes e) = e
        by_case (no n) =
            let clear : Clear Every s y = λ r every w m. n (agreed r w m) in
            cold x l₁ s a k u.fits₁ card y clear ∙ sym (cold x l₂ s a k u.fits₂ card y clear)

-- ---- all of it

-- the operations alone through a history and a list
alones_both : (x : Start) (h l : List Event) → alones_after x (h ++ l) ≡ run_alone x (after x h) (alones_after x h) l
unfolding alones_after after
alones_both x h l = alone_append x (opened_by x) (none_yet (plans_of x)) h l

pub demand3 : Demand3
unfolding Demand3 alone_at
demand3 x h hosted card l₁ l₂ u = record {
  each = each;
  no_more₁ = no_more x s a k l₁ u.fits₁ u.done₁;
  no_more₂ = no_more x s a k l₂ u.fits₂ u.done₂;
  free_rows = same_free x s a k l₁ l₂ u;
  generations = same_generation x s a k l₁ l₂ u;
  card_bytes = same_byte x s a k l₁ l₂ u card;
}
  where
    s : State
    s = after x h

    a : Alones
    a = alones_after x h

    k : Reached x (after x h) (alones_after x h)
    k = reached_after x h hosted

    each : (r : ℕ) → is_live (row_at (after x h) r).awaits ≡ true → OneEach x h l₁ l₂ r
    each r live =
        let z = complete x s a k l₁ u.fits₁ u.done₁ r live in
        let e₂ = same_course x s a k l₁ l₂ u r live ∙ z.1 in
        let t = tag_at (after x h) r in
        record {
          it = z.0;
          first = gets_it x s a k l₁ u.fits₁ u.done₁ r live z.0 z.1;
          second = gets_it x s a k l₂ u.fits₂ u.done₂ r live z.0 e₂;
          alone₁ = ap (λ (y : Alones). y.ops t) (alones_both x h l₁) ∙ alone_gets_it x s a k l₁ u.fits₁ u.done₁ r live z.0 z.1;
          alone₂ = ap (λ (y : Alones). y.ops t) (alones_both x h l₂) ∙ alone_gets_it x s a k l₂ u.fits₂ u.done₂ r live z.0 e₂;
        }
