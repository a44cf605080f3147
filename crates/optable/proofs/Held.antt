-- What a host holds is a table that calls have left: the opening's words hold the opened table, the host's writes leave it but for their bytes, and a
-- call's contract is the step of the table that is held.
use Rattle.std.proofs.Common.{◌≡◌, ℕ, ◌*◌, ◌<◌, ◌≤◌, true, false, ◌&&◌, eqb, leb, ◌≢◌, ◌⊎◌, List, [], ◌∷◌, ◌++◌, map, length, take, drop, replicate, sym, refl, ap, ◌∙◌, subst, inl, inr, append_assoc, append-nil, arith, length-append, length-drop, length-take, eq-eqb, eqb-true, leb-true}
use lib.ListN.{length-replicate}
use Rattle.layout.specs.Pick.{pick}
use Rattle.layout.proofs.Tests.{true_or_false, and_left, and_right, and_both, not_both}
use Rattle.iobuf.specs.Turn.{stretch}
use Rattle.completion.specs.declared.Refusal.TheVariants as Refusal
use Rattle.completion.specs.declared.Reply.{Reply}
use Rattle.model.specs.declared.{Opening.Opening, Counts.Counts, Lengths.Lengths}
use Rattle.model.specs.State.{State, freed, up_from, fresh}
use Rattle.model.specs.Opening.{opens, opened}
use Rattle.model.specs.Memory.{Lent, lengths_of, lengths_in, same_lengths, state_in, store_head, over, rows_opened, store_opened, free_opened, ready_opened, owners_opened, opened_lent, lent_after}
use Rattle.model.proofs.Laws.{opening_laws}
use Rattle.model.proofs.Opened.{length_up}
use Rattle.step.specs.Questions.{region_at, held_at}
use Rattle.step.specs.Step.{row_at, bytes_at, eq_lengths}
use Rattle.step.specs.Sound.{Sound}
use Rattle.step.specs.Run.{Made, Made.calls, Made.looks, Event, Start, opened_by, plans_of, leave, done, next, run, after, reply_to}
use Rattle.step.specs.Lists.{loose, plan_at, LooseIn, HostMay, Hosted}
use Rattle.step.specs.Demand3.{alones_after, Projected}
use Rattle.step.proofs.Laws.{step_laws}
use Rattle.step.proofs.Memory.{lengths_same, lengths_are}
use Rattle.step.proofs.ProjectionHost.{sole}
use Rattle.step.proofs.ProjectionReached.{reached_left, run_append}
use Rattle.step.proofs.Projection.{reached_after}
use Rattle.optable.specs.Held.{lent_with, Holds, MakesTo, Turn, TurnFrom, TurnsFrom, counts_after, held_after, event, event_of, AsSteps, start_at, HoldsNext, HeldLaws}

-- ---- what the host may write

may_same : (s : State) → HostMay s s.pool
unfolding bytes_at
may_same s = record { count = refl; each = λ b lt. inr (inl refl) }

-- what it may write after what it might, it might have written at once
module _ (s : State) (i : Sound s) (first second : List ℕ) (m : HostMay s first) (k : HostMay (leave s first) second) where
  same_row : (b : ℕ) (z : LooseIn s first b) (w : LooseIn (leave s first) second b) → LooseIn s second b
  unfolding leave row_at bytes_at plan_at region_at
  same_row b z w =
      let e : w.r ≡ z.r = sole s i z.r w.r z.live w.live (w.buffer ∙ sym z.buffer) in
      let n : ℕ = loose (plan_at s (row_at s z.r)) (row_at s z.r).awaits in
      let same : drop n (stretch s.settings.capacity b second) ≡ drop n (stretch s.settings.capacity b first) =
      subst (λ (r : ℕ). drop (loose (plan_at s (row_at s r)) (row_at s r).awaits) (stretch s.settings.capacity b second) ≡ drop (loose (plan_at s (row_at s r)) (row_at s r).awaits) (stretch s.settings.capacity b first)) e w.same
      in
      record { r = z.r; buffer = z.buffer; live = z.live; same = same ∙ z.same }

  behind : (b : ℕ) → (held_at s b ≡ true) ⊎ ((stretch s.settings.capacity b first ≡ bytes_at s b) ⊎ LooseIn s first b)
      → (held_at (leave s first) b ≡ true) ⊎ ((stretch s.settings.capacity b second ≡ bytes_at (leave s first) b) ⊎ LooseIn (leave s first) second b)
      → (held_at s b ≡ true) ⊎ ((stretch s.settings.capacity b second ≡ bytes_at s b) ⊎ LooseIn s second b)
  unfolding leave held_at bytes_at row_at plan_at region_at
  behind b (inl h) w = inl h
  behind b (inr z) (inl h) = inl h
  behind b (inr (inl e)) (inr (inl f)) = inr (inl (f ∙ e))
  behind b (inr (inl e)) (inr (inr w)) =
      inr (inr (record { r = w.r; buffer = w.buffer; live = w.live; same = w.same ∙ ap (drop (loose (plan_at s (row_at s w.r)) (row_at s w.r).awaits)) e }))
  behind b (inr (inr z)) (inr (inl f)) =
      inr (inr (record { r = z.r; buffer = z.buffer; live = z.live; same = ap (drop (loose (plan_at s (row_at s z.r)) (row_at s z.r).awaits)) f ∙ z.same }))
  behind b (inr (inr z)) (inr (inr w)) = inr (inr (same_row b z w))

  pub may_again : HostMay s second
  unfolding leave
  may_again = record { count = k.count ∙ m.count; each = λ b lt. behind b (m.each b lt) (k.each b lt) }

one_more_hosted : (s : State) (h : List Event) (e : Event) → Hosted s h → HostMay (run s h) e.leaves → Hosted s (h ++ (e ∷ []))
unfolding Hosted run
one_more_hosted s [] e hosted m = (m, tt)
one_more_hosted s (d ∷ h) e hosted m = (hosted.0, one_more_hosted (next s d) h e hosted.1 m)

-- ---- what is held

module _ (x : Start) (h : List Event) (c : Counts) (l : Lent) (z : Holds x h c l) where
  reached_sound : Sound (after x h)
  reached_sound = (reached_after x h z.hosted).sound

  pub holds_sound : Sound (state_in c l)
  holds_sound = subst Sound (sym z.table) (step_laws.leaves (after x h) l.pool reached_sound z.may.count)

  pub holds_projected : Projected (state_in c l) (alones_after x h)
  holds_projected =
      subst (λ (s : State). Projected s (alones_after x h)) (sym z.table) (reached_left x (after x h) (alones_after x h) (reached_after x h z.hosted) l.pool z.may).projected

  -- the words remember the opening's lengths
  pub words_say : lengths_in l.store ≡ x.lengths
  unfolding state_in leave
  words_say = ap (λ (s : State). s.lengths) z.table ∙ (reached_after x h z.hosted).fixed.lengths

  same_again : (a : Lengths) → eq_lengths a a ≡ true
  unfolding eq_lengths
  same_again a =
      and_both (eqb a.rows a.rows) _ (eq-eqb a.rows a.rows refl)
      (and_both (eqb a.store a.store) _ (eq-eqb a.store a.store refl)
      (and_both (eqb a.free a.free) _ (eq-eqb a.free a.free refl)
      (and_both (eqb a.ready a.ready) _ (eq-eqb a.ready a.ready refl)
      (and_both (eqb a.owners a.owners) _ (eq-eqb a.owners a.owners refl) (eq-eqb a.pool a.pool refl)))))

  -- so all that is held has them
  pub holds_fits : same_lengths (lengths_of l) l.store ≡ true
  holds_fits = lengths_same c l holds_sound ∙ ap (λ (a : Lengths). eq_lengths (lengths_of l) a) (words_say ∙ sym z.lengths) ∙ same_again (lengths_of l)

  pub writes : (pool : List ℕ) → HostMay (state_in c l) pool → Holds x h c (lent_with l pool)
  unfolding state_in leave lengths_of
  writes pool m =
      let there : HostMay (leave (after x h) l.pool) pool = subst (λ (s : State). HostMay s pool) z.table m in
      record {
        hosted = z.hosted;
        may = may_again (after x h) reached_sound l.pool pool z.may there;
        table = ap (λ (s : State). leave s pool) z.table;
        lengths = (λ j. record { rows = length l.rows; store = length l.store; free = length l.free; ready = length l.ready; owners = length l.owners; pool = m.count j }) ∙ z.lengths;
      }

  -- ---- one more event

  more_hosted : (e : Event) → HostMay (after x h) e.leaves → Hosted (opened_by x) (h ++ (e ∷ []))
  unfolding after
  more_hosted e m = one_more_hosted (opened_by x) h e z.hosted m

  after_more : (e : Event) → after x (h ++ (e ∷ [])) ≡ next (after x h) e
  unfolding after run
  after_more e = run_append (opened_by x) h (e ∷ [])

  -- where the step from what is held leads to what is held then
  steps : (ls : Lengths) (m : Made) (r : Reply) (c' : Counts) (l' : Lent) → done (state_in c l) ls m ≡ (state_in c' l', r) → lengths_of l' ≡ lengths_of l → HoldsNext x h (event l.pool ls m) r c' l'
  unfolding next reply_to
  steps ls m r c' l' e long = record {
    holds = record {
      hosted = more_hosted d z.may;
      may = subst (λ (s : State). HostMay s l'.pool) (sym there) (unfold state_in in may_same (state_in c' l'));
      table = unfold leave state_in in ap (λ (s : State). leave s l'.pool) (sym there);
      lengths = long ∙ z.lengths;
    };
    exactly = sym there ∙ after_more d;
    reply = sym (ap (λ (y : State × Reply). y.1) from_held);
  }
    where
      d : Event
      d = event l.pool ls m

      from_held : done (leave (after x h) l.pool) ls m ≡ (state_in c' l', r)
      from_held = ap (λ (s : State). done s ls m) (sym z.table) ∙ e

      there : after x (h ++ (d ∷ [])) ≡ state_in c' l'
      there = after_more d ∙ ap (λ (y : State × Reply). y.0) from_held

  pub makes : (m : Made) (r : Reply) (c' : Counts) (l' : Lent) → MakesTo m c l r c' l' → HoldsNext x h (event l.pool (lengths_of l) m) r c' l'
  unfolding MakesTo done
  makes (calls call) r c' l' k = steps (lengths_of l) (calls call) r c' l' (k.as_step holds_sound) (k.beyond holds_sound).lengths
  makes (looks q) r c' l' k =
      let e : state_in c l ≡ state_in c' l' = λ j. state_in (sym k.1 j) (sym k.2 j) in
      steps (lengths_of l) (looks q) r c' l' (λ j. (e j, sym (k.0.as_look holds_sound) j)) (ap lengths_of k.2)

  unfit : (ls : Lengths) → eq_lengths ls (lengths_in l.store) ≡ false → (m : Made) → done (state_in c l) ls m ≡ (state_in c l, Reply.No Refusal.Unfit)
  unfolding done state_in
  unfit ls other (calls call) =
      let e = step_laws.another_length (state_in c l) ls call other in
      λ j. (step_laws.turned_away (state_in c l) ls call Refusal.Unfit e j, e j)
  unfit ls other (looks q) = λ j. (state_in c l, step_laws.another_length_looked (state_in c l) ls q other j)

  pub another_length : (m : Made) (ls : Lengths) → eq_lengths ls x.lengths ≡ false → HoldsNext x h (event l.pool ls m) (Reply.No Refusal.Unfit) c l
  another_length m ls e = steps ls m (Reply.No Refusal.Unfit) c l (unfit ls (ap (eq_lengths ls) words_say ∙ e) m) refl

-- ---- in whatever lengths

pub equal_lengths : (a b : Lengths) → eq_lengths a b ≡ true → a ≡ b
unfolding eq_lengths
equal_lengths a b e =
    let rows = eqb a.rows b.rows in
    let store = eqb a.store b.store in
    let free = eqb a.free b.free in
    let ready = eqb a.ready b.ready in
    let owners = eqb a.owners b.owners in
    let pool = eqb a.pool b.pool in
    let e₂ = and_right rows (store && (free && (ready && (owners && pool)))) e in
    let e₃ = and_right store (free && (ready && (owners && pool))) e₂ in
    let e₄ = and_right free (ready && (owners && pool)) e₃ in
    let e₅ = and_right ready (owners && pool) e₄ in
    λ i. record {
      rows = eqb-true a.rows b.rows (and_left rows (store && (free && (ready && (owners && pool)))) e) i;
      store = eqb-true a.store b.store (and_left store (free && (ready && (owners && pool))) e₂) i;
      free = eqb-true a.free b.free (and_left free (ready && (owners && pool)) e₃) i;
      ready = eqb-true a.ready b.ready (and_left ready (owners && pool) e₄) i;
      owners = eqb-true a.owners b.owners (and_left owners pool e₅) i;
      pool = eqb-true a.pool b.pool (and_right owners pool e₅) i;
    }

module _ (x : Start) (h : List Event) (c : Counts) (l : Lent) (z : Holds x h c l) (u : Turn) (k : TurnFrom c l u) where
  abbrev l₁ : Lent
  l₁ = lent_with l u.leaves

  written : Holds x h c l₁
  written = writes x h c l z u.leaves k.may

  -- all that is held was lent
  whole : eq_lengths (lengths_of u.lent) x.lengths ≡ true → HoldsNext x h (event_of u) u.reply u.counts u.held
  whole e =
      let same : lengths_of u.lent ≡ lengths_of l₁ = equal_lengths (lengths_of u.lent) x.lengths e ∙ sym written.lengths in
      let all : u.lent ≡ l₁ = k.lends.all same in
      let left = k.all same in
      let z' =
      subst (λ (y : Lent). MakesTo u.made c y u.reply u.counts_left u.left → HoldsNext x h (event u.leaves (lengths_of y) u.made) u.reply u.counts_left u.left) (sym all)
      (makes x h c l₁ written u.made u.reply u.counts_left u.left) k.makes
      in
      subst (λ (y : Lent). HoldsNext x h (event_of u) u.reply u.counts y) (sym left.1) (subst (λ (y : Counts). HoldsNext x h (event_of u) u.reply y u.left) (sym left.0) z')

  -- the words tell another length
  told : eq_lengths (lengths_of u.lent) x.lengths ≡ false → same_lengths (lengths_of u.lent) u.lent.store ≡ false
  told e = by_case (true_or_false (same_lengths (lengths_of u.lent) u.lent.store))
    where
      unlike : same_lengths (lengths_of u.lent) u.lent.store ≡ true → (length u.lent.store < 48) ⊎ (lengths_in u.lent.store ≡ lengths_in l.store) → ⊥
      unlike t (inl short) = unfold same_lengths in let some = leb-true 48 (length u.lent.store) (and_left (leb 48 (length u.lent.store)) _ t) in omega (arith, some, short)
      unlike t (inr w) =
          let same = lengths_are (lengths_of u.lent) u.lent.store t ∙ w ∙ words_say x h c l z in
          not_both (ap (λ (a : Lengths). eq_lengths a x.lengths) same ∙ same_again x h c l z x.lengths) e

      by_case : (same_lengths (lengths_of u.lent) u.lent.store ≡ true) ⊎ (same_lengths (lengths_of u.lent) u.lent.store ≡ false) → same_lengths (lengths_of u.lent) u.lent.store ≡ false
      by_case (inl t) = absurd (unlike t k.lends.words)
      by_case (inr f) = f

  -- so the code turns it away, and what was lent is as it was
  away : (m : Made) → MakesTo m c u.lent u.reply u.counts_left u.left → same_lengths (lengths_of u.lent) u.lent.store ≡ false
      → (u.reply ≡ Reply.No Refusal.Unfit) × (u.counts_left ≡ c) × (u.left ≡ u.lent)
  unfolding MakesTo
  away (calls call) w f = let e = w.another_length f in let kept = w.turned_away Refusal.Unfit e in (e, kept.0, kept.1)
  away (looks q) w f = (w.0.another_length f, w.1, w.2)

  other : eq_lengths (lengths_of u.lent) x.lengths ≡ false → HoldsNext x h (event_of u) u.reply u.counts u.held
  other e =
      let turned = away u.made k.makes (told e) in
      let unlike : lengths_of u.lent ≢ lengths_of l₁ =
      λ same. not_both (ap (λ (a : Lengths). eq_lengths a x.lengths) (same ∙ written.lengths) ∙ same_again x h c l z x.lengths) e
      in
      let kept = k.others unlike turned.1 turned.2 in
      let z' = another_length x h c l₁ written u.made (lengths_of u.lent) e in
      subst (λ (y : Lent). HoldsNext x h (event_of u) u.reply u.counts y) (sym kept.1)
      (subst (λ (y : Counts). HoldsNext x h (event_of u) u.reply y l₁) (sym kept.0) (subst (λ (y : Reply). HoldsNext x h (event_of u) y c l₁) (sym turned.0) z'))

  pub turn : HoldsNext x h (event_of u) u.reply u.counts u.held
  turn = by_case (true_or_false (eq_lengths (lengths_of u.lent) x.lengths))
    where
      by_case : (eq_lengths (lengths_of u.lent) x.lengths ≡ true) ⊎ (eq_lengths (lengths_of u.lent) x.lengths ≡ false) → HoldsNext x h (event_of u) u.reply u.counts u.held
      by_case (inl e) = whole e
      by_case (inr e) = other e

-- ---- lists

pub after_again : (x : Start) (h : List Event) (e : Event) → after x (h ++ (e ∷ [])) ≡ next (after x h) e
unfolding after run
after_again x h e = run_append (opened_by x) h (e ∷ [])

turns : (x : Start) (h : List Event) (c : Counts) (l : Lent) (us : List Turn) → Holds x h c l → TurnsFrom c l us → Holds x (h ++ map event_of us) (counts_after c us) (held_after l us) × AsSteps (after x h) us
unfolding TurnsFrom counts_after held_after AsSteps
turns x h c l [] z k = (subst (λ (g : List Event). Holds x g c l) (sym (append-nil h)) z, tt)
turns x h c l (u ∷ us) z k =
    let one = turn x h c l z u k.0 in
    let more = turns x (h ++ (event_of u ∷ [])) u.counts u.held us one.holds k.1 in (
      subst (λ (g : List Event). Holds x g (counts_after u.counts us) (held_after u.held us)) (append_assoc h (event_of u ∷ []) (map event_of us)) more.0,
      (one.reply, one.exactly, subst (λ (s : State). AsSteps s us) (after_again x h (event_of u)) more.1),
    )

-- ---- an opening

long_over : {A : Type 0} (xs ys : List A) → length xs ≤ length ys → length (over xs ys) ≡ length ys
unfolding over
long_over xs ys h = let a = length-append xs (drop (length xs) ys) in let b = length-drop (length xs) ys in omega (arith, a, b)

module _ (o : Opening) (plan : List ℕ) (l : Lent) (ok : opens o plan (lengths_of l) ≡ true) (whole : length l.pool ≡ (lengths_of l).pool) where
  as_long : lengths_of (opened_lent o plan l) ≡ lengths_of l
  unfolding lengths_of opened_lent rows_opened store_opened free_opened ready_opened owners_opened store_head
  as_long =
      let room = opening_laws.room o plan (lengths_of l) ok in
      let rows = length-replicate o.depth (freed 0) in
      let owners = length-replicate {A = ℕ} o.buffers 0 in
      let free = length_up 0 o.depth in
      let head = store_head o (lengths_of l) in
      let store = length-append head (take (70 * o.regions) plan) in
      let part = length-take (70 * o.regions) plan in
      let r : length (over (replicate o.depth (freed 0)) l.rows) ≡ length l.rows = long_over (replicate o.depth (freed 0)) l.rows (omega (arith, rows, room.rows)) in
      let s : length (over (head ++ take (70 * o.regions) plan) l.store) ≡ length l.store = long_over (head ++ take (70 * o.regions) plan) l.store (omega (arith, store, part, room.store)) in
      let f : length (over (up_from 0 o.depth) l.free) ≡ length l.free = long_over (up_from 0 o.depth) l.free (omega (arith, free, room.free)) in
      let d : length (over (0 ∷ []) l.ready) ≡ length l.ready = long_over (0 ∷ []) l.ready (omega (arith, room.ready)) in
      let w : length (over (replicate o.buffers 0) l.owners) ≡ length l.owners = long_over (replicate o.buffers 0) l.owners (omega (arith, owners, room.owners)) in
      λ j. record { rows = r j; store = s j; free = f j; ready = d j; owners = w j; pool = length l.pool }

  admitted : lent_after o plan l ≡ opened_lent o plan l
  unfolding lent_after pick
  admitted = λ j. pick (ok j) (opened_lent o plan l) l

  opened_holds : Holds (start_at o plan l ok whole) [] fresh (opened_lent o plan l)
  unfolding opened_by plans_of opened after run Hosted leave opened_lent
  opened_holds =
      let there = opening_laws.state o plan l ok in
      record { hosted = tt; may = may_same (opened_by (start_at o plan l ok whole)); table = there; lengths = as_long }

  opened_so : state_in fresh (lent_after o plan l) ≡ opened_by (start_at o plan l ok whole)
  unfolding opened_by plans_of
  opened_so = ap (state_in fresh) admitted ∙ opening_laws.state o plan l ok

  pub opening : Holds (start_at o plan l ok whole) [] fresh (lent_after o plan l)
  opening = subst (Holds (start_at o plan l ok whole) [] fresh) (sym admitted) opened_holds

pub held_laws : HeldLaws
held_laws = record {
  opening = opening;
  opened = opened_so;
  sound = holds_sound;
  projected = holds_projected;
  writes = λ x h c l pool z. writes x h c l z pool;
  makes = λ x h c l m r c' l' z. makes x h c l z m r c' l';
  another_length = λ x h c l m ls z. another_length x h c l z m ls;
  turn = λ x h c l u z. turn x h c l z u;
  turns = turns;
}
