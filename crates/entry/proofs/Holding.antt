-- A host in C or Rust holds a table that calls have left: what the words hold is a table in records (optable's Held), and words that are no whole rows
-- are another length.
use mathlib.Core.Path.{◌≡◌, refl, sym, ap, ◌∙◌, subst}
use mathlib.Core.Logic.{◌≢◌, ◌⊎◌, inl, inr}
use mathlib.Core.Bool.{Bool, true, false, ◌&&◌}
use mathlib.Core.Option.{none, some}
use mathlib.Core.List.{List, [], ◌∷◌, ◌++◌, append_assoc, append-nil}
use Prim.Native.Nat.{ℕ, zero, suc, ◌+◌, ◌/◌, ◌%◌, ◌<◌}
use native.Mathlib.Omega.{arith}
use lib.ListN.{length, get_or, take, drop}
use lib.Seq.{drop-length}
use lib.Dec.{eqb, leb}
use borrow.Author.Tests.{leb-true, eqb-true, eq-eqb}
use Rattle.layout.specs.Pick.{pick}
use Rattle.layout.proofs.Tests.{true_or_false, and_left, not_both}
use Rattle.completion.specs.declared.{Completion.Completion, Refusal.Refusal, Reply.Reply}
use Rattle.model.specs.declared.{Opening.Opening, Counts.Counts, Lengths.Lengths, Row.Row, Call.Call, Lookup.Lookup}
use Rattle.model.specs.State.{State, fresh, freed, live_rows}
use Rattle.model.specs.Opening.{opens}
use Rattle.model.specs.Memory.{Lent, lengths_of, lengths_in, same_lengths, state_in, lent_after}
use Rattle.posix.specs.Posix.{Card}
use Rattle.step.specs.Step.{queue_tag, row_at, bytes_at, is_live, eq_lengths}
use Rattle.step.specs.Run.{Made, Made.calls, Made.looks, Event, leave, next, run, Start, opened_by, after, reply_to}
use Rattle.step.specs.Lists.{times, with_bytes, gets, added, added_by, takings, tag_at}
use Rattle.step.specs.Demand3.{alone_at, Supposed, Agreed, NoMore, Demand3}
use Rattle.step.proofs.Memory.{lengths_are}
use Rattle.step.proofs.Projection.{reached_after}
use Rattle.step.proofs.ProjectionReached.{run_append}
use Rattle.step.proofs.Demand3.{demand3}
use Rattle.optable.specs.Called.{lent_of}
use Rattle.optable.specs.Held.{Holds, MakesTo, HoldsNext, Begins, start_at, event}
use Rattle.optable.proofs.Held.{held_laws, holds_fits, words_say, equal_lengths}
use Rattle.opening.proofs.Admitted.{admitted, counts_fresh, left_is, unopened}
use Rattle.abi.specs.RowWords.{rows_in}
use Rattle.abi.specs.ReplyWords.{filled, reply_words, unknown_words}
use Rattle.abi.proofs.Laws.{count}
use Rattle.entry.specs.WordCalls.{counts_in, lent_in, OpensInWords}
use Rattle.entry.specs.WholeRows.{Whole, OpensWhole, CallsWhole, LooksWhole, fits_in}
use Rattle.entry.specs.Entry.{Parts, AnswersOut, nameless_words, opened_reply, opened_counts, OpensOut}
use Rattle.entry.specs.Holding.{lent_of_parts, table_in, HoldsIn, parts_with, Export, Export.makes, Export.nameless, Export.reopens, export_of, Returns, AskedReturns, word_lengths, lengths_lent}
use Rattle.entry.specs.Holding.{WordTurn, WordTurnFrom, WordTurnsFrom, parts_after, events_for, events_of, history_of, out_for, next_for, WordsAsSteps, WordsHeldFrom, HostHoldsWords}
use Rattle.entry.specs.Holding.{brings_to, gets_in_words, added_in_words, OneEachInWords, NoMoreInWords, AgreedInWords, Demand3InWords}
use Rattle.opening.specs.Opened.{Opened}
use Rattle.std.specs.declared.result.Result.{Result}

-- ---- lengths

-- whole rows: their number is that of the records
whole_lengths : (p : Parts) → Whole p.rows → lengths_lent p ≡ lengths_of (lent_of_parts p)
unfolding lengths_lent lengths_of pick
whole_lengths p w =
    let rows : pick (eqb (length p.rows % 16) 0) (length p.rows / 16) 0 ≡ length (rows_in p.rows) =
    ap (λ (b : Bool). pick b (length p.rows / 16) 0) (eq-eqb (length p.rows % 16) 0 w) ∙ sym (count p.rows)
    in
    λ j. record { rows = rows j; store = length p.store; free = length p.free; ready = length p.ready; owners = length p.owners; pool = length p.pool }

-- words of whole rows are as many as the rows tell, and words that are none tell no row
rows_tell : (n k : ℕ) (b : Bool) → b ≡ eqb (n % 16) 0 → k % 16 ≡ 0 → 0 < k / 16 → pick b (n / 16) 0 ≡ k / 16 → n ≡ k
unfolding pick
rows_tell n k true e w more same = let m = eqb-true (n % 16) 0 (sym e) in omega (arith, m, w, same)
rows_tell n k false e w more same = absurd (omega (arith, more, same))

fit_unless : (rows store free ready owners pool : List ℕ) → (Whole rows → same_lengths (lengths_of (lent_in rows store free ready owners pool)) store ≡ false) → fits_in rows store free ready owners pool ≡ false
unfolding fits_in
fit_unless rows store free ready owners pool other = by_case (true_or_false (eqb (length rows % 16) 0))
  where
    same : Bool
    same = same_lengths (lengths_of (lent_in rows store free ready owners pool)) store

    by_case : (eqb (length rows % 16) 0 ≡ true) ⊎ (eqb (length rows % 16) 0 ≡ false) → eqb (length rows % 16) 0 && same ≡ false
    by_case (inl e) = ap (λ (b : Bool). b && same) e ∙ other (eqb-true (length rows % 16) 0 e)
    by_case (inr e) = ap (λ (b : Bool). b && same) e

-- too few words to hold the lengths
enough : (ls : Lengths) (store : List ℕ) → same_lengths ls store ≡ true → length store < 48 → ⊥
unfolding same_lengths
enough ls store t short = let least = leb-true 48 (length store) (and_left (leb 48 (length store)) _ t) in omega (arith, least, short)

pub run_after : (x : Start) (h l : List Event) → after x (h ++ l) ≡ run (after x h) l
unfolding after
run_after x h l = run_append (opened_by x) h l

-- ---- one call

-- the first word of a reply tells its case
refused_says : (f : Refusal) → reply_words Reply.Ok ≡ reply_words (Reply.No f) → ⊥
unfolding reply_words filled
refused_says f e = let z : ◌≡◌ {A = ℕ} 8 2 = ap (λ (ws : List ℕ). get_or ws 0 0) e in omega (arith, z)

pub record Done (x : Start) (h : List Event) (u : WordTurn) : Type 0 where
  pub holds : HoldsIn x (h ++ events_of u) u.held
  pub exactly : table_in u.held ≡ next_for (after x h) u.export u.leaves (lengths_lent u.lent)
  pub out_is : u.out ≡ out_for (after x h) u.export u.leaves (lengths_lent u.lent)

-- what an opening that is refused leaves: all that it was lent
module _ (o : Opening) (plan : List ℕ) (lent left : Parts) where
  refused_left : (r : Opened) → OpensWhole o plan lent.rows lent.store lent.free lent.ready lent.owners lent.pool r left.rows left.store left.free left.ready left.owners
      → left.counts ≡ opened_counts r lent.counts → left.pool ≡ lent.pool → reply_words (Reply.No Refusal.Unfit) ≡ reply_words (opened_reply r) → left ≡ lent
  unfolding opened_reply opened_counts
  refused_left (Result.Ok c) w counts pool e = absurd (refused_says Refusal.Unfit (sym e))
  refused_left (Result.Err f) w counts pool e = by_case (true_or_false (eqb (length lent.rows % 16) 0))
    where
      by_case : (eqb (length lent.rows % 16) 0 ≡ true) ⊎ (eqb (length lent.rows % 16) 0 ≡ false) → left ≡ lent
      by_case (inl is) =
          let c = w.whole (eqb-true (length lent.rows % 16) 0 is) in
          let rows = c.turned_away f refl in
          let same = unopened o plan (lent_of_parts lent) f (rows_in left.rows) left.store left.free left.ready left.owners c.opens in
          λ j. record { counts = counts j; rows = rows j; store = (c.opens.store_is ∙ ap (λ (y : Lent). y.store) same) j; free = (c.opens.free_is ∙ ap (λ (y : Lent). y.free) same) j; ready = (c.opens.ready_is ∙ ap (λ (y : Lent). y.ready) same) j; owners = (c.opens.owners_are ∙ ap (λ (y : Lent). y.owners) same) j; pool = pool j }
      by_case (inr is) =
          let c = w.cut (λ yes. not_both (eq-eqb (length lent.rows % 16) 0 yes) is) in
          λ j. record { counts = counts j; rows = c.1 j; store = c.2 j; free = c.3 j; ready = c.4 j; owners = c.5 j; pool = pool j }

module _ (x : Start) (h : List Event) (p : Parts) (z : HoldsIn x h p) (u : WordTurn) (k : WordTurnFrom p u) where
  abbrev p₁ : Parts
  p₁ = parts_with p u.leaves

  written : HoldsIn x h p₁
  unfolding table_in
  written = record { whole = z.whole; holds = held_laws.writes x h (counts_in p.counts) (lent_of_parts p) u.leaves z.holds k.may }

  fixed_lengths : (after x h).lengths ≡ x.lengths
  fixed_lengths = (reached_after x h z.holds.hosted).fixed.lengths

  its_lengths : lengths_lent p₁ ≡ x.lengths
  its_lengths = whole_lengths p₁ written.whole ∙ written.holds.lengths

  self : (a : Lengths) → eq_lengths a a ≡ true
  unfolding eq_lengths
  self a =
      λ j. eq-eqb a.rows a.rows refl j && (eq-eqb a.store a.store refl j && (eq-eqb a.free a.free refl j && (eq-eqb a.ready a.ready refl j && (eq-eqb a.owners a.owners refl j && eq-eqb a.pool a.pool refl j))))

  -- of one event, what held-laws say of it
  event_done : (m : Made) (ls : Lengths) (r : Reply) (q : Parts) → Whole q.rows → HoldsNext x h (event u.leaves ls m) r (counts_in q.counts) (lent_of_parts q)
      → (HoldsIn x (h ++ (event u.leaves ls m ∷ [])) q) × (table_in q ≡ next (after x h) (event u.leaves ls m)) × (reply_words r ≡ reply_words (reply_to (after x h) (event u.leaves ls m)))
  unfolding table_in
  event_done m ls r q w n = (record { whole = w; holds = n.holds }, n.exactly, ap reply_words n.reply)

  -- ---- all that is held is lent

  module _ (q : Parts) (out : List ℕ) where
    fits_own : fits_in p₁.rows p₁.store p₁.free p₁.ready p₁.owners p₁.pool ≡ true
    unfolding fits_in
    fits_own = λ j. eq-eqb (length p₁.rows % 16) 0 written.whole j && holds_fits x h (counts_in p₁.counts) (lent_of_parts p₁) written.holds j

    nameless_out : out ≡ nameless_words p₁ → out ≡ pick (eq_lengths (lengths_lent p₁) (after x h).lengths) unknown_words (reply_words (Reply.No Refusal.Unfit))
    unfolding nameless_words
    nameless_out e =
        e ∙ ap (λ (b : Bool). pick b unknown_words (reply_words (Reply.No Refusal.Unfit))) (fits_own ∙ sym (ap (λ (a : Lengths). eq_lengths a (after x h).lengths) (its_lengths ∙ sym fixed_lengths) ∙ self (after x h).lengths))

    event_own : (m : Made) → event u.leaves (lengths_of (lent_of_parts p₁)) m ≡ event u.leaves (lengths_lent p₁) m
    event_own m = ap (λ (ls : Lengths). event u.leaves ls m) (sym (whole_lengths p₁ written.whole))

    -- nothing was asked of the table: it is as the host left it
    stays : q ≡ p₁ → (HoldsIn x (h ++ []) q) × (table_in q ≡ leave (after x h) u.leaves)
    unfolding table_in
    stays e = (subst (HoldsIn x (h ++ [])) (sym e) (subst (λ (g : List Event). HoldsIn x g p₁) (sym (append-nil h)) written), ap table_in e ∙ written.holds.table)

    own : (e : Export) → Returns e p₁ q out
        → (HoldsIn x (h ++ events_for e u.leaves (lengths_lent p₁)) q) × (table_in q ≡ next_for (after x h) e u.leaves (lengths_lent p₁)) × (out ≡ out_for (after x h) e u.leaves (lengths_lent p₁))
    unfolding Returns AnswersOut events_for out_for next_for MakesTo
    own nameless w = let d = stays w.0 in (d.0, d.1, nameless_out w.1)
    own (reopens o plan) w = let d = stays (refused_left o plan p₁ q w.0.opened w.0.opens w.0.counts_are w.0.pool_is (sym w.1 ∙ w.0.out_is)) in (d.0, d.1, w.1)
    own (makes (calls call)) w =
        let c = w.calls.whole written.whole in
        let n = held_laws.makes x h (counts_in p₁.counts) (lent_of_parts p₁) (calls call) w.reply (counts_in q.counts) (lent_of_parts q) written.holds c.calls in
        let n' = subst (λ (e : Event). HoldsNext x h e w.reply (counts_in q.counts) (lent_of_parts q)) (event_own (calls call)) n in
        let d = event_done (calls call) (lengths_lent p₁) w.reply q (ap (λ (a : ℕ). a % 16) c.long ∙ written.whole) n' in
        (d.0, d.1, w.out_is ∙ d.2)
    own (makes (looks y)) w =
        let c = w.0.looks.whole written.whole in
        let n = held_laws.makes x h (counts_in p₁.counts) (lent_of_parts p₁) (looks y) w.0.reply (counts_in p₁.counts) (lent_of_parts p₁) written.holds (c, refl, refl) in
        let n' = subst (λ (e : Event). HoldsNext x h e w.0.reply (counts_in p₁.counts) (lent_of_parts p₁)) (event_own (looks y)) n in
        let d = event_done (looks y) (lengths_lent p₁) w.0.reply p₁ written.whole n' in
        let at = h ++ (event u.leaves (lengths_lent p₁) (looks y) ∷ []) in
        (subst (HoldsIn x at) (sym w.1) d.0, ap table_in w.1 ∙ d.1, w.0.out_is ∙ d.2)

  all_lent : word_lengths u.lent ≡ word_lengths p₁ → Done x h u
  all_lent same =
      let lent : u.lent ≡ p₁ = k.lends.all same in
      let d = own u.left u.out u.export (subst (λ (y : Parts). Returns u.export y u.left u.out) lent k.returns) in
      let there : Done x h (record { leaves = u.leaves; export = u.export; lent = u.lent; left = u.left; out = u.out; held = u.left }) =
      subst (λ (y : Parts). Done x h (record { leaves = u.leaves; export = u.export; lent = y; left = u.left; out = u.out; held = u.left })) (sym lent) (record { holds = d.0; exactly = d.1; out_is = d.2 })
      in
      subst (λ (y : Parts). Done x h (record { leaves = u.leaves; export = u.export; lent = u.lent; left = u.left; out = u.out; held = y })) (sym (k.all same)) there

  -- ---- other parts are lent

  module _ (other : word_lengths u.lent ≢ word_lengths p₁) where
    abbrev lent : Parts
    lent = u.lent

    some_row : 0 < length p₁.rows / 16
    unfolding state_in lengths_of
    some_row =
        let sound = held_laws.sound x h (counts_in p₁.counts) (lent_of_parts p₁) written.holds in
        let told = words_say x h (counts_in p₁.counts) (lent_of_parts p₁) written.holds ∙ sym written.holds.lengths in
        let rows = ap (λ (a : Lengths). a.rows) told in
        let room = sound.room.rows in
        let least = sound.numbers.some_depth in
        omega (arith, room, least, rows, count p₁.rows)

    same_words : lengths_lent lent ≡ lengths_lent p₁ → word_lengths lent ≡ word_lengths p₁
    unfolding lengths_lent pick
    same_words e =
        let own : pick (eqb (length p₁.rows % 16) 0) (length p₁.rows / 16) 0 ≡ length p₁.rows / 16 = ap (λ (b : Bool). pick b (length p₁.rows / 16) 0) (eq-eqb (length p₁.rows % 16) 0 written.whole) in
        let rows : length lent.rows ≡ length p₁.rows =
        rows_tell (length lent.rows) (length p₁.rows) (eqb (length lent.rows % 16) 0) refl written.whole some_row (ap (λ (a : Lengths). a.rows) e ∙ own)
        in
        λ j. record { rows = rows j; store = (e j).store; free = (e j).free; ready = (e j).ready; owners = (e j).owners; pool = (e j).pool }

    refused_by_lem : (b : Bool) → (b ≡ true → ⊥) → b ≡ false
    refused_by_lem true f = absurd (f refl)
    refused_by_lem false f = refl

    -- the step's lengths are others
    unlike : eq_lengths (lengths_lent lent) x.lengths ≡ false
    unlike = refused_by_lem (eq_lengths (lengths_lent lent) x.lengths) (λ e. other (same_words (equal_lengths (lengths_lent lent) x.lengths e ∙ sym its_lengths)))

    -- and so the words tell
    unlike_told : Whole lent.rows → same_lengths (lengths_of (lent_of_parts lent)) lent.store ≡ false
    unlike_told w = refused_by_lem (same_lengths (lengths_of (lent_of_parts lent)) lent.store) (λ t. clash t k.lends.words)
      where
        clash : same_lengths (lengths_of (lent_of_parts lent)) lent.store ≡ true → (length lent.store < 48) ⊎ (lengths_in lent.store ≡ lengths_in p.store) → ⊥
        clash t (inl short) = enough (lengths_of (lent_of_parts lent)) lent.store t short
        clash t (inr words) =
            not_both
            (ap (λ (a : Lengths). eq_lengths a x.lengths) (whole_lengths lent w ∙ lengths_are (lengths_of (lent_of_parts lent)) lent.store t ∙ words ∙ words_say x h (counts_in p₁.counts) (lent_of_parts p₁) written.holds) ∙ self x.lengths) unlike

    unfit : fits_in lent.rows lent.store lent.free lent.ready lent.owners lent.pool ≡ false
    unfit = fit_unless lent.rows lent.store lent.free lent.ready lent.owners lent.pool unlike_told

    -- so the call is turned away, and what it was lent is as it was
    turned : (call : Call) (q : Parts) (r : Reply) → CallsWhole call lent.counts lent.rows lent.store lent.free lent.ready lent.owners lent.pool r q.counts q.rows q.store q.free q.ready q.owners q.pool
        → (r ≡ Reply.No Refusal.Unfit) × (q ≡ lent)
    turned call q r w = by_case (true_or_false (eqb (length lent.rows % 16) 0))
      where
        by_case : (eqb (length lent.rows % 16) 0 ≡ true) ⊎ (eqb (length lent.rows % 16) 0 ≡ false) → (r ≡ Reply.No Refusal.Unfit) × (q ≡ lent)
        by_case (inl e) =
            let is = eqb-true (length lent.rows % 16) 0 e in
            let c = w.whole is in
            let no = c.calls.another_length (unlike_told is) in
            let words = c.turned_away Refusal.Unfit no in
            let rest = (c.calls.turned_away Refusal.Unfit no).1 in
            (no, λ j. record { counts = words.0 j; rows = words.1 j; store = (rest j).store; free = (rest j).free; ready = (rest j).ready; owners = (rest j).owners; pool = (rest j).pool })
        by_case (inr e) =
            let c = w.cut (λ is. not_both (eq-eqb (length lent.rows % 16) 0 is) e) in
            (c.0, λ j. record { counts = c.1 j; rows = c.2 j; store = c.3 j; free = c.4 j; ready = c.5 j; owners = c.6 j; pool = c.7 j })

    looked : (y : Lookup) (r : Reply) → LooksWhole y lent.counts lent.rows lent.store lent.free lent.ready lent.owners lent.pool r → r ≡ Reply.No Refusal.Unfit
    looked y r w = by_case (true_or_false (eqb (length lent.rows % 16) 0))
      where
        by_case : (eqb (length lent.rows % 16) 0 ≡ true) ⊎ (eqb (length lent.rows % 16) 0 ≡ false) → r ≡ Reply.No Refusal.Unfit
        by_case (inl e) = let is = eqb-true (length lent.rows % 16) 0 e in (w.whole is).another_length (unlike_told is)
        by_case (inr e) = w.cut (λ is. not_both (eq-eqb (length lent.rows % 16) 0 is) e)

    nameless_unfit : u.out ≡ nameless_words lent → u.out ≡ pick (eq_lengths (lengths_lent lent) (after x h).lengths) unknown_words (reply_words (Reply.No Refusal.Unfit))
    unfolding nameless_words
    nameless_unfit e =
        e ∙ ap (λ (b : Bool). pick b unknown_words (reply_words (Reply.No Refusal.Unfit))) (unfit ∙ sym (ap (eq_lengths (lengths_lent lent)) fixed_lengths ∙ unlike))

    -- what is held stays, and the history has the event
    kept : (m : Made) → u.out ≡ reply_words (Reply.No Refusal.Unfit)
        → (HoldsIn x (h ++ (event u.leaves (lengths_lent lent) m ∷ [])) p₁) × (table_in p₁ ≡ next (after x h) (event u.leaves (lengths_lent lent) m)) × (u.out ≡ reply_words (reply_to (after x h) (event u.leaves (lengths_lent lent) m)))
    kept m e =
        let n = held_laws.another_length x h (counts_in p₁.counts) (lent_of_parts p₁) m (lengths_lent lent) written.holds unlike in
        let d = event_done m (lengths_lent lent) (Reply.No Refusal.Unfit) p₁ written.whole n in
        (d.0, d.1, e ∙ d.2)

    others_lent : (y : Export) → Returns y lent u.left u.out
        → (u.left ≡ lent) × (HoldsIn x (h ++ events_for y u.leaves (lengths_lent lent)) p₁) × (table_in p₁ ≡ next_for (after x h) y u.leaves (lengths_lent lent)) × (u.out ≡ out_for (after x h) y u.leaves (lengths_lent lent))
    unfolding Returns AnswersOut events_for out_for next_for
    others_lent (makes (calls call)) w =
        let t = turned call u.left w.reply w.calls in
        let d = kept (calls call) (w.out_is ∙ ap reply_words t.0) in
        (t.1, d.0, d.1, d.2)
    others_lent (makes (looks y)) w =
        let d = kept (looks y) (w.0.out_is ∙ ap reply_words (looked y w.0.reply w.0.looks)) in
        (w.1, d.0, d.1, d.2)
    others_lent nameless w = let d = stays p₁ u.out refl in (w.0, d.0, d.1, nameless_unfit w.1)
    others_lent (reopens o plan) w =
        let d = stays p₁ u.out refl in
        (refused_left o plan lent u.left w.0.opened w.0.opens w.0.counts_are w.0.pool_is (sym w.1 ∙ w.0.out_is), d.0, d.1, w.1)

    pub other_done : Done x h u
    other_done =
        let d = others_lent u.export k.returns in
        subst (λ (y : Parts). Done x h (record { leaves = u.leaves; export = u.export; lent = u.lent; left = u.left; out = u.out; held = y })) (sym (k.others other d.0))
        (record { holds = d.1; exactly = d.2; out_is = d.3 })

  pub turn_done : Done x h u
  turn_done = by_case (true_or_false (eq_lengths (word_lengths u.lent) (word_lengths p₁)))
    where
      by_case : (eq_lengths (word_lengths u.lent) (word_lengths p₁) ≡ true) ⊎ (eq_lengths (word_lengths u.lent) (word_lengths p₁) ≡ false) → Done x h u
      by_case (inl e) = all_lent (equal_lengths (word_lengths u.lent) (word_lengths p₁) e)
      by_case (inr e) = other_done (λ same. not_both (ap (λ (a : Lengths). eq_lengths a (word_lengths p₁)) same ∙ self (word_lengths p₁)) e)

-- ---- lists

-- what the host has written since the last call is not looked at
out_left : (s : State) (pool : List ℕ) (y : Export) (leaves : List ℕ) (ls : Lengths) → out_for (leave s pool) y leaves ls ≡ out_for s y leaves ls
unfolding out_for reply_to leave
out_left s pool (makes m) leaves ls = refl
out_left s pool nameless leaves ls = refl
out_left s pool (reopens o plan) leaves ls = refl

next_left : (s : State) (pool : List ℕ) (y : Export) (leaves : List ℕ) (ls : Lengths) → next_for (leave s pool) y leaves ls ≡ next_for s y leaves ls
unfolding next_for next leave
next_left s pool (makes m) leaves ls = refl
next_left s pool nameless leaves ls = refl
next_left s pool (reopens o plan) leaves ls = refl

module _ (x : Start) (h : List Event) (p : Parts) (z : HoldsIn x h p) where
  held_table : table_in p ≡ leave (after x h) p.pool
  unfolding table_in
  held_table = z.holds.table

  out_held : (y : Export) (leaves : List ℕ) (ls : Lengths) → out_for (after x h) y leaves ls ≡ out_for (table_in p) y leaves ls
  out_held y leaves ls = sym (ap (λ (s : State). out_for s y leaves ls) held_table ∙ out_left (after x h) p.pool y leaves ls)

  next_held : (y : Export) (leaves : List ℕ) (ls : Lengths) → next_for (after x h) y leaves ls ≡ next_for (table_in p) y leaves ls
  next_held y leaves ls = sym (ap (λ (s : State). next_for s y leaves ls) held_table ∙ next_left (after x h) p.pool y leaves ls)

pub turns_done : (x : Start) (us : List WordTurn) (h : List Event) (p : Parts) → HoldsIn x h p → WordTurnsFrom p us → HoldsIn x (h ++ history_of us) (parts_after p us) × WordsAsSteps (table_in p) us
unfolding WordTurnsFrom parts_after history_of WordsAsSteps
turns_done x [] h p z k = (subst (λ (g : List Event). HoldsIn x g p) (sym (append-nil h)) z, tt)
turns_done x (u ∷ us) h p z k =
    let one = turn_done x h p z u k.0 in
    let more = turns_done x us (h ++ events_of u) u.held one.holds k.1 in
    let next : table_in u.held ≡ next_for (table_in p) u.export u.leaves (lengths_lent u.lent) = one.exactly ∙ next_held x h p z u.export u.leaves (lengths_lent u.lent) in (
      subst (λ (g : List Event). HoldsIn x g (parts_after u.held us)) (append_assoc h (events_of u) (history_of us)) more.0,
      (one.out_is ∙ out_held x h p z u.export u.leaves (lengths_lent u.lent), next, subst (λ (s : State). WordsAsSteps s us) next more.1),
    )

-- ---- an opening

table_no : (c : Counts) (f : Refusal) → ◌≡◌ {A = Opened} (Result.Ok c) (Result.Err f) → ⊥
table_no c f e = let z : ◌≡◌ {A = ℕ} 0 1 = cc in omega arith

-- a history begins, and is in the words that the opening left
record Opens (o : Opening) (plan : List ℕ) (p p₀ : Parts) : Type 0 where
  start : Start
  begins : Begins o plan (lengths_lent p) p.pool start
  holds : HoldsIn start [] p₀
  opened : table_in p₀ ≡ opened_by start

module _ (o : Opening) (plan : List ℕ) (p p₀ : Parts) where
  module _ (c : Counts) (whole : Whole p.rows) (w : OpensInWords o plan p.rows p.store p.free p.ready p.owners p.pool (Result.Ok c) p₀.rows p₀.store p₀.free p₀.ready p₀.owners) (counts : p₀.counts ≡ c.live ∷ c.ready ∷ c.submissions ∷ []) (pool : p₀.pool ≡ p.pool) where
    abbrev l : Lent
    l = lent_of_parts p

    ok : opens o plan (lengths_of l) ≡ true
    ok = admitted o plan l c (rows_in p₀.rows) p₀.store p₀.free p₀.ready p₀.owners w.opens

    long : length l.pool ≡ (lengths_of l).pool
    unfolding lengths_of
    long = refl

    abbrev x : Start
    x = start_at o plan l ok long

    lent_is : lent_of_parts p₀ ≡ lent_after o plan l
    lent_is =
        (λ j. lent_of (rows_in p₀.rows) p₀.store p₀.free p₀.ready p₀.owners (pool j)) ∙ left_is o plan l c (rows_in p₀.rows) p₀.store p₀.free p₀.ready p₀.owners w.opens

    counts_are : counts_in p₀.counts ≡ fresh
    unfolding counts_in
    counts_are = ap counts_in counts ∙ counts_fresh o plan l c (rows_in p₀.rows) p₀.store p₀.free p₀.ready p₀.owners w.opens

    opened_whole : Opens o plan p p₀
    unfolding table_in
    opened_whole = record {
      opened = (λ j. state_in (counts_are j) (lent_is j)) ∙ held_laws.opened o plan l ok long;
      start = x;
      begins = record { opening_is = refl; plan_is = refl; lengths_are = sym (whole_lengths p whole); pool_is = refl };
      holds = record {
        whole = ap (λ (n : ℕ). n % 16) w.long ∙ whole;
        holds = subst (λ (y : Lent). Holds x [] (counts_in p₀.counts) y) (sym lent_is) (subst (λ (y : Counts). Holds x [] y (lent_after o plan l)) (sym counts_are) (held_laws.opening o plan l ok long));
      };
    }

  opened_so : (r : Opened) → OpensWhole o plan p.rows p.store p.free p.ready p.owners p.pool r p₀.rows p₀.store p₀.free p₀.ready p₀.owners
      → p₀.counts ≡ opened_counts r p.counts → p₀.pool ≡ p.pool → reply_words Reply.Ok ≡ reply_words (opened_reply r) → Opens o plan p p₀
  unfolding opened_reply opened_counts
  opened_so (Result.Err f) w counts pool e = absurd (refused_says f e)
  opened_so (Result.Ok c) w counts pool e = by_case (true_or_false (eqb (length p.rows % 16) 0))
    where
      by_case : (eqb (length p.rows % 16) 0 ≡ true) ⊎ (eqb (length p.rows % 16) 0 ≡ false) → Opens o plan p p₀
      by_case (inr e) = absurd (table_no c Refusal.Unfit (w.cut (λ is. not_both (eq-eqb (length p.rows % 16) 0 is) e)).0)
      by_case (inl e) = let whole = eqb-true (length p.rows % 16) 0 e in opened_whole c whole (w.whole whole) counts pool

  held_from : (out : List ℕ) → OpensOut o plan p p₀ out → out ≡ reply_words Reply.Ok → (us : List WordTurn) → WordTurnsFrom p₀ us → WordsHeldFrom o plan p p₀ us
  held_from out w e us k =
      let z = opened_so w.opened w.opens w.counts_are w.pool_is (sym e ∙ w.out_is) in
      let all = turns_done z.start us [] p₀ z.holds k in
      record { start = z.start; begins = z.begins; opened = z.opened; as_steps = subst (λ (s : State). WordsAsSteps s us) z.opened all.1; holds = all.0 }

pub host_holds_words : HostHoldsWords
unfolding HostHoldsWords
host_holds_words = held_from

pub asked_returns : AskedReturns
unfolding AskedReturns export_of Returns
asked_returns (some call) p p' out w = w
asked_returns none p p' out w = w

-- ---- demand 3

-- what one call adds, for an operation and in all
gets_one : (y : Export) (pool : List ℕ) (ls : Lengths) (t b : ℕ) (s : State) (es : List Event)
    → gets s (events_for y pool ls ++ es) t b ≡ pick (brings_to t y) (with_bytes (bytes_at (next_for s y pool ls) b) (drop (length s.ready) (next_for s y pool ls).ready)) [] ++ gets (run s (events_for y pool ls)) es t b
unfolding gets events_for brings_to run added_by next_for pick
gets_one (makes m) pool ls t b s es = refl
gets_one nameless pool ls t b s es = refl
gets_one (reopens o plan) pool ls t b s es = refl

added_one : (y : Export) (pool : List ℕ) (ls : Lengths) (s : State) (es : List Event)
    → added s (events_for y pool ls ++ es) ≡ drop (length s.ready) (next_for s y pool ls).ready ++ added (run s (events_for y pool ls)) es
unfolding added events_for run added_by next_for leave
added_one (makes m) pool ls s es = refl
added_one nameless pool ls s es = ap (λ (cs : List Completion). cs ++ added s es) (sym (drop-length s.ready))
added_one (reopens o plan) pool ls s es = ap (λ (cs : List Completion). cs ++ added s es) (sym (drop-length s.ready))

-- a front of the calls
front_of_lem : (m : ℕ) (us : List WordTurn) (p : Parts) → WordTurnsFrom p us → WordTurnsFrom p (take m us)
unfolding WordTurnsFrom
front_of_lem zero us p k = tt
front_of_lem (suc m) [] p k = tt
front_of_lem (suc m) (u ∷ us) p k = (k.0, front_of_lem m us u.held k.1)

-- what is held at each call is what the history says, as far as demand 3 looks
module _ (x : Start) where
  same_ready : (h : List Event) (p : Parts) → HoldsIn x h p → (table_in p).ready ≡ (after x h).ready
  unfolding table_in leave
  same_ready h p z = ap (λ (s : State). s.ready) z.holds.table

  same_rows : (h : List Event) (p : Parts) → HoldsIn x h p → (table_in p).rows ≡ (after x h).rows
  unfolding table_in leave
  same_rows h p z = ap (λ (s : State). s.rows) z.holds.table

  same_free : (h : List Event) (p : Parts) → HoldsIn x h p → (table_in p).free ≡ (after x h).free
  unfolding table_in leave
  same_free h p z = ap (λ (s : State). s.free) z.holds.table

  gets_so : (t b : ℕ) (us : List WordTurn) (h : List Event) (p : Parts) → HoldsIn x h p → WordTurnsFrom p us → gets (after x h) (history_of us) t b ≡ gets_in_words p us t b
  unfolding WordTurnsFrom history_of gets gets_in_words
  gets_so t b [] h p z k = refl
  gets_so t b (u ∷ us) h p z k =
      let one = turn_done x h p z u k.0 in
      let more = gets_so t b us (h ++ events_of u) u.held one.holds k.1 in
      let ready = same_ready h p z in
      gets_one u.export u.leaves (lengths_lent u.lent) t b (after x h) (history_of us)
      ∙ (λ j. pick (brings_to t u.export) (with_bytes (bytes_at (sym one.exactly j) b) (drop (length (sym ready j)) (sym one.exactly j).ready)) [] ++ (ap (λ (s : State). gets s (history_of us) t b) (sym (run_after x h (events_of u))) ∙ more) j)

  all_added : (us : List WordTurn) (h : List Event) (p : Parts) → HoldsIn x h p → WordTurnsFrom p us → added (after x h) (history_of us) ≡ added_in_words p us
  unfolding WordTurnsFrom history_of added added_in_words
  all_added [] h p z k = refl
  all_added (u ∷ us) h p z k =
      let one = turn_done x h p z u k.0 in
      let more = all_added us (h ++ events_of u) u.held one.holds k.1 in
      let ready = same_ready h p z in
      added_one u.export u.leaves (lengths_lent u.lent) (after x h) (history_of us)
      ∙ (λ j. drop (length (sym ready j)) (sym one.exactly j).ready ++ (ap (λ (s : State). added s (history_of us)) (sym (run_after x h (events_of u))) ∙ more) j)

  module _ (h : List Event) (p : Parts) (z : HoldsIn x h p) where
    same_row : (r : ℕ) → row_at (table_in p) r ≡ row_at (after x h) r
    unfolding row_at
    same_row r = ap (λ (rows : List Row). get_or rows r (freed 0)) (same_rows h p z)

    same_tag : (r : ℕ) → tag_at (table_in p) r ≡ tag_at (after x h) r
    unfolding tag_at
    same_tag r = ap (λ (y : Row). queue_tag r y.generation) (same_row r)

    end_of : (us : List WordTurn) → WordTurnsFrom p us → HoldsIn x (h ++ history_of us) (parts_after p us)
    end_of us k = (turns_done x us h p z k).0

    -- what is held is sound, and of the opening's depth
    balanced : (g : List Event) (q : Parts) → HoldsIn x g q → length (table_in q).free + live_rows (table_in q).rows ≡ (table_in p).settings.depth
    unfolding table_in leave
    balanced g q w =
        (held_laws.sound x g (counts_in q.counts) (lent_of_parts q) w.holds).balance ∙ ap (λ (s : State). s.settings.depth) w.holds.table ∙ ap (λ (o : Opening). o.depth) ((reached_after x g w.holds.hosted).fixed.settings ∙ sym (reached_after x h z.holds.hosted).fixed.settings)
        ∙ sym (ap (λ (s : State). s.settings.depth) z.holds.table)

    no_more_so : (us : List WordTurn) → WordTurnsFrom p us → NoMore (after x h) (history_of us) → NoMoreInWords x h p us
    no_more_so us k n =
        let e = all_added us h p z k in
        let end = end_of us k in
        record {
          as_steps = (turns_done x us h p z k).1;
          count = ap length (sym e) ∙ n.count ∙ ap live_rows (sym (same_rows h p z));
          queue = (λ j. same_ready h p z j ++ sym e j) ∙ n.queue
              ∙ (λ j. takings (after x h) (history_of us) ++ (ap (λ (s : State). s.ready) (sym (run_after x h (history_of us))) ∙ sym (same_ready (h ++ history_of us) (parts_after p us) end)) j);
          balance = λ m. balanced (h ++ history_of (take m us)) (parts_after p (take m us)) (end_of (take m us) (front_of_lem m us p k));
        }

    module _ (card : Card) (us vs : List WordTurn) (k₁ : WordTurnsFrom p us) (k₂ : WordTurnsFrom p vs) (d : Supposed (after x h) (history_of us) (history_of vs)) where
      agreed : Agreed x h card (history_of us) (history_of vs)
      unfolding Demand3
      agreed = demand3 x h z.holds.hosted card (history_of us) (history_of vs) d

      got : (r : ℕ) (ws : List WordTurn) → WordTurnsFrom p ws → gets_in_words p ws (tag_at (table_in p) r) (row_at (table_in p) r).buffer ≡ gets (after x h) (history_of ws) (tag_at (after x h) r) (row_at (after x h) r).buffer
      got r ws k = (λ j. gets_in_words p ws (same_tag r j) (same_row r j).buffer) ∙ sym (gets_so (tag_at (after x h) r) (row_at (after x h) r).buffer ws h p z k)

      each_so : (r : ℕ) → is_live (row_at (table_in p) r).awaits ≡ true → OneEachInWords x h p us vs r
      each_so r live =
          let o = agreed.each r (ap (λ (y : Row). is_live y.awaits) (sym (same_row r)) ∙ live) in
          record {
            it = o.it;
            first = got r us k₁ ∙ o.first;
            second = got r vs k₂ ∙ o.second;
            alone₁ = ap (alone_at x (h ++ history_of us)) (same_tag r) ∙ o.alone₁;
            alone₂ = ap (alone_at x (h ++ history_of vs)) (same_tag r) ∙ o.alone₂;
          }

      free_at : (ws : List WordTurn) → WordTurnsFrom p ws → (table_in (parts_after p ws)).free ≡ (run (after x h) (history_of ws)).free
      free_at ws k = same_free (h ++ history_of ws) (parts_after p ws) (end_of ws k) ∙ ap (λ (s : State). s.free) (run_after x h (history_of ws))

      row_at_lem : (r : ℕ) (ws : List WordTurn) → WordTurnsFrom p ws → row_at (table_in (parts_after p ws)) r ≡ row_at (run (after x h) (history_of ws)) r
      unfolding row_at
      row_at_lem r ws k = ap (λ (rows : List Row). get_or rows r (freed 0)) (same_rows (h ++ history_of ws) (parts_after p ws) (end_of ws k) ∙ ap (λ (s : State). s.rows) (run_after x h (history_of ws)))

      agreed_in : AgreedInWords x h p card us vs
      agreed_in = record {
        each = each_so;
        no_more₁ = no_more_so us k₁ agreed.no_more₁;
        no_more₂ = no_more_so vs k₂ agreed.no_more₂;
        free_rows = λ r. ap (times r) (free_at us k₁) ∙ agreed.free_rows r ∙ sym (ap (times r) (free_at vs k₂));
        generations = λ r. ap (λ (y : Row). y.generation) (row_at_lem r us k₁) ∙ agreed.generations r ∙ sym (ap (λ (y : Row). y.generation) (row_at_lem r vs k₂));
        card_bytes = agreed.card_bytes;
      }

pub demand3_in_words : Demand3InWords
unfolding Demand3InWords
demand3_in_words x h p z card us vs = agreed_in x h p z card us vs
