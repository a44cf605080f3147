-- A write that is counted as kept had all of its pieces taken whole with its buffer back. By the rules a piece of a write that is not taken so ends the write
-- DurabilityUnknown or, as a first piece refused, without a completion; nothing but an answer under its tag changes its row; and each whole answer takes the first of
-- the map's pieces to come, of which none is left when the write ends.
use mathlib.Core.Path.{◌≡◌, refl, sym, ap, ◌∙◌, subst}
use mathlib.Core.Bool.{Bool, true, false}
use mathlib.Core.Option.{Option, none, some}
use mathlib.Core.List.{List, [], ◌∷◌, ◌++◌, append-nil}
use Prim.Native.Nat.{ℕ, suc, ◌+◌, ◌-◌, ◌≤◌, ◌<◌}
use native.Mathlib.Omega.{arith}
use borrow.Author.Tests.{eqb-true, eq-eqb, ltb-false}
use lib.Dec.{eqb}
use lib.ListN.{length, drop, set, length-drop}
use lib.Seq.{drop-nil, drop-length, drop-append_seam}
use Rattle.layout.specs.Pick.{pick}
use Rattle.layout.proofs.Tests.{not_both, and_left, and_right}
use Rattle.regionmap.specs.declared.Position.{Position}
use Rattle.regionmap.specs.Map.{Map, pieces}
use Rattle.regionmap.specs.Map.{Piece as MapPiece}
use Rattle.std.specs.declared.option.Option.{Option as StdOption}
use Rattle.platform.specs.declared.Answer.{Answer}
use Rattle.platform.specs.declared.Answer.TheVariants.{Count, Error, Refused, RefusedWith}
use Rattle.platform.specs.declared.Flushed.{Flushed}
use Rattle.completion.specs.declared.Refusal.{Refusal}
use Rattle.completion.specs.declared.Refusal.TheVariants.{NotAwaited}
use Rattle.completion.specs.declared.WriteTicket.{WriteTicket}
use Rattle.completion.specs.declared.Reply.{Reply}
use Rattle.completion.specs.declared.Outcome.{Outcome}
use Rattle.completion.specs.Buffers.{Buffer}
use Rattle.completion.specs.declared.Completion.{Completion}
use Rattle.domain.specs.declared.FirstCause.{FirstCause}
use Rattle.model.specs.declared.Opening.{Opening}
use Rattle.model.specs.declared.Kind.{Kind}
use Rattle.model.specs.declared.Kind.TheVariants.{Page, Read}
use Rattle.model.specs.declared.Split.{Split}
use Rattle.model.specs.declared.Awaits.{Awaits}
use Rattle.model.specs.declared.Awaits.TheVariants.{Nothing, Piece, Flush}
use Rattle.model.specs.declared.Row.{Row}
use Rattle.model.specs.State.{State, Region, freed}
use Rattle.model.specs.Opening.{Plan}
use Rattle.step.specs.Questions.{byte_at, region_at}
use Rattle.step.specs.Rules.{left_of, first_of, piece_of, piece_length, split_after, flush_ends, is_written, last_piece, above_piece, first_refused, is_whole, goes_on, piece_answered, answer_rules, flush_rules, rules, Input, Input.answered, Input.flushed, Fate, Fate.away, Fate.awaits, Fate.ends, Fate.rejected, range_end}
use Rattle.step.specs.Step.{row_at, row_of, names, is_live, plan_of, bytes_at, raised, awaits_now, completion_of, going, freeing, settled, fate_of}
use Rattle.step.specs.Sound.{Sound, SplitFits}
use Rattle.step.specs.Run.{Event, leave, next, reply_to}
use Rattle.step.specs.Lists.{brought, is_away, plan_at, left_in, Given, given_as, given_by, given, Completed, with_bytes, added_by, is_brought, gets, HostMay}
use Rattle.step.specs.Demand3.{is_write}
use Rattle.step.specs.Demand2.{WholeTo, answers_of, answers_in, Followed, AllWhole, is_kept}
use Rattle.step.proofs.Picked.{by_pick}
use Rattle.step.proofs.AloneTags.{clash}
use Rattle.step.proofs.ProjectionHost.{live_in_table}
use Rattle.step.proofs.ProjectionFixed.{next_plans}
use Rattle.step.proofs.Demand2Pieces.{no_piece, first_piece}
use Rattle.step.proofs.Histories.{leaves, keeps_next}
use Rattle.step.proofs.Laws.{keeps}
use Rattle.step.proofs.Fates.{Follows, Fitting, FateFits, fate_fits}
use Rattle.step.proofs.QuietRules.{piece_most}
use Rattle.step.proofs.Asked.{row_then, gone}
use Rattle.step.proofs.Demand2Others.{done_row}
use Rattle.step.proofs.Demand2Fate.{pages}
use Rattle.step.proofs.Demand2Task.{Task, split_of, Stage, Stage.piece, Stage.flush, InRow, plan_map}
use Rattle.step.proofs.Demand2Event.{gets_of, away_same, heard_settles}

-- ---- the pieces to come

-- the map's pieces from the one under way on
unfoldable pub comes_of : Plan → Awaits → List MapPiece
comes_of g Nothing = []
comes_of g (Piece k sp) = pieces g.map (byte_at (first_of k).0 sp.done) (left_of sp)
comes_of g (Flush t) = []

abbrev pub comes : State → ℕ → List MapPiece
comes s t = comes_of (plan_at s (row_at s (row_of t))) (row_at s (row_of t)).awaits

-- the piece under way is the first of them
first_comes : (s : State) → Sound s → (r : ℕ) (a b : Position) (sp : Split) → (row_at s r).awaits ≡ Piece (Page a b) sp
    → let g = plan_at s (row_at s r) in
    let c = piece_length g (Page a b) sp in
    comes_of g (Piece (Page a b) sp) ≡ record { position = byte_at a.0 sp.done; count = c } ∷ comes_of g (Piece (Page a b) (split_after c sp))
unfolding comes_of piece_length piece_of split_after plan_at plan_of first_of
first_comes s sound r a b sp at =
    let it = live_in_table s sound r (unfold is_live in ap is_live at) in
    let fits : (a.0 + sp.total ≡ b.0) × (sp.done < sp.total) = unfold SplitFits in subst SplitFits at it.split in
    let within : b.0 ≤ m.data_length = unfold range_end in subst (λ (x : Awaits). range_end x ≤ m.data_length) at it.in_data_lem in
    let sum = fits.0 in
    let more = fits.1 in
    let c = piece_length (plan_at s (row_at s r)) (Page a b) sp in
    let next : byte_at a.0 sp.done + c ≡ a.0 + (sp.done + c) = omega arith in
    let less : left_of sp - c ≡ sp.total - (sp.done + c) = omega arith in
    first_piece m (sound.each (row_at s r).handle it.region).lawful (byte_at a.0 sp.done) (left_of sp) (omega (arith, more)) (omega (arith, within, sum, more))
    ∙ (λ j. record { position = byte_at a.0 sp.done; count = c } ∷ pieces m (next j) (less j))
  where
    m : Map
    m = (region_at s (row_at s r).handle).map

-- behind the last there is none
none_comes : (g : Plan) (a b : Position) (sp : Split) → sp.done + piece_length g (Page a b) sp ≡ sp.total → comes_of g (Piece (Page a b) (split_after (piece_length g (Page a b) sp) sp)) ≡ []
unfolding comes_of split_after
none_comes g a b sp all = no_piece g.map _ _ (omega (arith, all))

-- ---- one answer

-- the operation awaits another piece
unfoldable on_piece : Fate → Bool
on_piece (away x) = false
on_piece (awaits Nothing bytes) = false
on_piece (awaits (Piece k s) bytes) = true
on_piece (awaits (Flush t) bytes) = false
on_piece (ends ending) = false
on_piece (rejected e b bytes) = false

-- .. or its piece was the last
unfoldable Last : Plan → Awaits → Fate → Type 0
Last g Nothing f = Unit {0}
Last g (Piece k sp) f = on_piece f ≡ false → sp.done + piece_length g k sp ≡ sp.total
Last g (Flush t) f = Unit {0}

-- what the rules make of an input to a write: its piece is taken whole, or the write is not kept
data Judged (s : State) (r : Row) (i : Input) (f : Fate) : Type 0 where
  whole : WholeTo s r r.awaits i → Last (plan_at s r) r.awaits f → Judged s r i f
  lost : (o : Outcome) (b : Buffer) (bytes : List ℕ) (cause : Option FirstCause) → f ≡ ends (record { outcome = o; buffer = b; bytes = bytes; cause = cause }) → is_kept o ≡ false → Judged s r i f
  refused : (e : StdOption ℕ) (b : Buffer) (bytes : List ℕ) → f ≡ rejected e b bytes → Judged s r i f
  turned : (x : Refusal) → f ≡ away x → Judged s r i f

-- a count that makes a write written is the whole piece
written_whole : (g : Plan) (k : Kind) (sp : Split) (x : Answer) (back : Bool) → above_piece (piece_length g k sp) x ≡ false → is_written sp x back ≡ true
    → (is_whole (piece_length g k sp) x ≡ true) × (back ≡ true)
unfolding above_piece is_written is_whole
written_whole g k sp (Count n) back within all =
    let most = piece_most g k sp in
    let le : n ≤ piece_length g k sp = ltb-false (piece_length g k sp) n within in
    let sum : sp.done + n ≡ sp.total = eqb-true (sp.done + n) sp.total (and_left (eqb (sp.done + n) sp.total) back all) in
    (eq-eqb n (piece_length g k sp) (omega (arith, most, le, sum)), and_right (eqb (sp.done + n) sp.total) back all)
written_whole g k sp (Error e media) back within all = absurd (not_both all refl)
written_whole g k sp Refused back within all = absurd (not_both all refl)
written_whole g k sp (RefusedWith e media) back within all = absurd (not_both all refl)

written_last : (g : Plan) (k : Kind) (sp : Split) (x : Answer) (back : Bool) → is_whole (piece_length g k sp) x ≡ true → is_written sp x back ≡ true → sp.done + piece_length g k sp ≡ sp.total
unfolding is_written is_whole
written_last g k sp (Count n) back taken all =
    let is : n ≡ piece_length g k sp = eqb-true n (piece_length g k sp) taken in
    let sum : sp.done + n ≡ sp.total = eqb-true (sp.done + n) sp.total (and_left (eqb (sp.done + n) sp.total) back all) in
    omega (arith, is, sum)
written_last g k sp (Error e media) back taken all = absurd (not_both all refl)
written_last g k sp Refused back taken all = absurd (not_both all refl)
written_last g k sp (RefusedWith e media) back taken all = absurd (not_both all refl)

module _ (s : State) (r : Row) (forced : Bool) (first : StdOption FirstCause) (o : Opening) (bytes : List ℕ) where
  abbrev g : Plan
  g = plan_at s r

  judged_answer : (x : Answer) (back : Bool) (flushes : ℕ) (a : Awaits) → r.awaits ≡ a → is_write a ≡ true → Judged s r (answered x back flushes) (answer_rules o g forced first r bytes x back flushes a)
  unfolding answer_rules piece_answered last_piece is_write is_kept on_piece
  judged_answer x back flushes Nothing at writes = turned _ refl
  judged_answer x back flushes (Flush t) at writes = turned _ refl
  judged_answer x back flushes (Piece (Read a b) sp) at writes = absurd (not_both writes refl)
  judged_answer x back flushes (Piece (Page a b) sp) at writes =
      let n = piece_length g (Page a b) sp in
      let J = Judged s r (answered x back flushes) in
      let is_whole_lem : (is_whole n x ≡ true) × (back ≡ true) → WholeTo s r r.awaits (answered x back flushes) = λ z. subst (λ (z : Awaits). WholeTo s r z (answered x back flushes)) (sym at) (unfold WholeTo in z) in
      let is_last : (f : Fate) → (on_piece f ≡ false → sp.done + n ≡ sp.total) → Last g r.awaits f = λ f z. subst (λ (z : Awaits). Last g z f) (sym at) (unfold Last in z) in
      by_pick (above_piece n x) J (λ above. turned _ refl)
      (λ within. by_pick (first_refused sp x) J (λ no. refused _ _ _ refl)
      (λ taken. by_pick (goes_on n sp x back) J
      (λ on. whole (is_whole_lem (unfold goes_on in (and_left (is_whole n x) _ on, and_left back _ (and_right (is_whole n x) _ on)))) (is_last _ (λ no. absurd (not_both refl no))))
      (λ over. by_pick (is_written sp x back) J
      (λ all. let z = written_whole g (Page a b) sp x back within all in whole (is_whole_lem z) (is_last _ (λ no. written_last g (Page a b) sp x back z.0 all)))
      (λ short. lost _ _ _ _ refl refl))))

  judged_flush : (result : Flushed) (a : Awaits) → r.awaits ≡ a → is_write a ≡ true → Judged s r (flushed result) (flush_rules o r bytes result a)
  unfolding flush_rules
  judged_flush result Nothing at writes = turned _ refl
  judged_flush result (Piece k sp) at writes = turned _ refl
  judged_flush result (Flush t) at writes =
      whole (subst (λ (z : Awaits). WholeTo s r z (flushed result)) (sym at) (unfold WholeTo in tt)) (subst (λ (z : Awaits). Last g z (flush_ends o r t bytes result)) (sym at) (unfold Last in tt))

  judged : (i : Input) → is_write r.awaits ≡ true → Judged s r i (rules o g forced first r bytes i)
  unfolding rules
  judged (answered x back flushes) writes = judged_answer x back flushes r.awaits refl writes
  judged (flushed result) writes = judged_flush result r.awaits refl writes

-- the pieces to come after an input
unfoldable then_comes : Plan → Fate → List MapPiece
then_comes g (away x) = []
then_comes g (awaits a bytes) = comes_of g a
then_comes g (ends ending) = []
then_comes g (rejected e b bytes) = []

-- what a write goes on to is a write's
onward_writes : (x : Region) (was now : Awaits) → is_write was ≡ true → Follows x was now → is_write now ≡ true
unfolding Follows is_write
onward_writes x Nothing now writes z = absurd z
onward_writes x (Piece (Page a b) s) Nothing writes z = absurd z
onward_writes x (Piece (Page a b) s) (Piece (Page c d) s') writes z = refl
onward_writes x (Piece (Page a b) s) (Piece (Read c d) s') writes z = clash (let y = z.0 in cc)
onward_writes x (Piece (Page a b) s) (Flush t) writes z = refl
onward_writes x (Piece (Read a b) s) now writes z = absurd (not_both writes refl)
onward_writes x (Flush t) now writes z = absurd z

-- an operation that stands somewhere in its range is a write's where its kind is
pub stage_writes : (w : Task) (d n : ℕ) (a : Awaits) → pages w.kind ≡ true → Stage w d n a → is_write a ≡ true
unfolding is_write
stage_writes w d n a page (flush t e z all its) = ap is_write e
stage_writes w d n a page (piece e more) = ap is_write e ∙ by_kind w.kind page
  where
    by_kind : (k : Kind) → pages k ≡ true → is_write (Piece k (split_of w d)) ≡ true
    by_kind (Page x y) z = refl
    by_kind (Read x y) z = absurd (not_both z (unfold pages in refl))

-- ---- a list of events

module _ (t b : ℕ) (c : Completion) (bytes : List ℕ) (more : List Completed) (kept : is_kept c.outcome ≡ true) where
  abbrev Kept : State → List Event → Type 0
  Kept s es = Sound s → is_write (row_at s (row_of t)).awaits ≡ true → Followed s es t → gets s es t b ≡ (c, bytes) ∷ more → AllWhole s es t × (drop (answers_in (given s es t)) (comes s t) ≡ [])

  -- one event, given the rest
  module _ (s : State) (sound : Sound s) (e : Event) (es : List Event) (named : names (row_at s (row_of t)) t ≡ true) (host : HostMay s e.leaves) (followed : Followed (next s e) es t)
      (writes : is_write (row_at s (row_of t)).awaits ≡ true) (got : gets_of s e t b ++ gets (next s e) es t b ≡ (c, bytes) ∷ more) (rest : Kept (next s e) es) where
    abbrev row : Row
    row = row_at s (row_of t)

    abbrev left : State
    left = leave s e.leaves

    abbrev Head : Type 0
    Head = (i : Input) → brought t e.made ≡ some i → is_away (reply_to s e) ≡ false → WholeTo s row row.awaits i

    sound_next : Sound (next s e)
    sound_next = keeps_next keeps s e sound host.count

    abbrev later : List Given
    later = given (next s e) es t

    abbrev Left : Type 0
    Left = drop (answers_in (given_by s e t ++ later)) (comes s t) ≡ []

    -- the row's region is as it was
    next_comes : (now : Row) → row_at (next s e) (row_of t) ≡ now → now.handle ≡ row.handle → comes (next s e) t ≡ comes_of (plan_at s row) now.awaits
    unfolding plan_at
    next_comes now at same =
        ap (λ (x : Row). comes_of (plan_of (region_at (next s e) x.handle)) x.awaits) at
        ∙ ap (λ (h : ℕ). comes_of (plan_of (region_at (next s e) h)) now.awaits) same
        ∙ ap (λ (g : Plan). comes_of g now.awaits) (next_plans s e row.handle)

    -- an event that gives the operation nothing
    nothing_given : given_by s e t ≡ [] → row_at (next s e) (row_of t) ≡ row → drop (answers_in later) (comes (next s e) t) ≡ [] → Left
    nothing_given empty at q = ap (λ (l : List Given). drop (answers_in (l ++ later)) (comes s t)) empty ∙ ap (drop (answers_in later)) (sym (next_comes row at refl)) ∙ q

    -- the operation goes on, and gets nothing of this event
    goes : (now : Row) → row_at (next s e) (row_of t) ≡ now → is_write now.awaits ≡ true → gets_of s e t b ≡ [] → AllWhole (next s e) es t × (drop (answers_in later) (comes (next s e) t) ≡ [])
    goes now at still empty =
        rest sound_next (ap (λ (x : Row). is_write x.awaits) at ∙ still) followed (ap (λ (l : List Completed). l ++ gets (next s e) es t b) (sym empty) ∙ got)

    -- the operation is over
    ended : (l : List Event) → Followed (next s e) l t → (names (row_at (next s e) (row_of t)) t ≡ true → ⊥) → AllWhole (next s e) l t
    unfolding Followed AllWhole
    ended [] f dead = tt
    ended (x ∷ l) f dead = absurd (dead f.0)

    -- it gets nothing of an event that adds no completion
    added_none : (next s e).ready ≡ s.ready → gets_of s e t b ≡ []
    unfolding added_by with_bytes
    added_none q = by_pick (is_brought (brought t e.made)) (λ (l : List Completed). l ≡ []) (λ z. ap (with_bytes (bytes_at (next s e) b)) (ap (drop (length s.ready)) q ∙ drop-length s.ready)) (λ z. refl)

    module _ (i : Input) (bt : brought t e.made ≡ some i) (heard : is_away (reply_to s e) ≡ false) where
      next_is : (f : Fate) → fate_of left row i ≡ f → next s e ≡ (settled left t row f).0
      unfolding next
      next_is f q = ap (λ (z : State × Reply). z.0) (heard_settles s e t i bt named heard) ∙ ap (λ (h : Fate). (settled left t row h).0) q

      head : WholeTo s row row.awaits i → Head
      head z i' bt' h = subst (WholeTo s row row.awaits) (let y : some i ≡ some i' = sym bt ∙ bt' in let same : i ≡ i' = cc in same) z

      here : row_at left (row_of t) ≡ row
      unfolding row_at leave
      here = refl

      over : (f : Fate) (g : ℕ) → fate_of left row i ≡ f → (settled left t row f).0.rows ≡ set left.rows (row_of t) (freed g) → names (row_at (next s e) (row_of t)) t ≡ true → ⊥
      over f g q rows live = gone left t row named here (settled left t row f).0 g rows (subst (λ (z : State). names (row_at z (row_of t)) t ≡ true) (next_is f q) live)

      abbrev plan : Plan
      plan = plan_at s row

      follows_now : (a : Awaits) (bs : List ℕ) → fate_of left row i ≡ awaits a bs → (was : Awaits) → row.awaits ≡ was → Follows (region_at left row.handle) was a
      unfolding Fitting
      follows_now a bs q was at = subst (λ (w : Awaits). Follows (region_at left row.handle) w a) at (subst (FateFits left row) q (fate_fits left row i)).0.follows

      -- the piece under way is answered: of the pieces to come the first is gone
      page_steps : (x y : Position) (sp : Split) → row.awaits ≡ Piece (Page x y) sp → (f : Fate) → fate_of left row i ≡ f → Last plan (Piece (Page x y) sp) f → (n : ℕ) → drop (suc n) (comes s t) ≡ drop n (then_comes plan f)
      unfolding then_comes on_piece Last Follows plan_at leave region_at
      page_steps x y sp at f q last n = by_fate' f q last
        where
          behind : List MapPiece
          behind = comes_of plan (Piece (Page x y) (split_after (piece_length plan (Page x y) sp) sp))

          first : drop (suc n) (comes s t) ≡ drop n behind
          first = ap (drop (suc n)) (ap (comes_of plan) at ∙ first_comes s sound (row_of t) x y sp at)

          none_behind : sp.done + piece_length plan (Page x y) sp ≡ sp.total → drop (suc n) (comes s t) ≡ drop n []
          none_behind all = first ∙ ap (drop n) (none_comes plan x y sp all)

          by_fate' : (f : Fate) → fate_of left row i ≡ f → (on_piece f ≡ false → sp.done + piece_length plan (Page x y) sp ≡ sp.total) → drop (suc n) (comes s t) ≡ drop n (then_comes plan f)
          by_fate' (away z) q last = none_behind (last refl)
          by_fate' (awaits Nothing bs) q last = none_behind (last refl) ∙ ap (drop n) (unfold comes_of in refl)
          by_fate' (awaits (Flush z) bs) q last = none_behind (last refl) ∙ ap (drop n) (unfold comes_of in refl)
          by_fate' (ends ending) q last = none_behind (last refl)
          by_fate' (rejected z d bs) q last = none_behind (last refl)
          by_fate' (awaits (Piece k sp') bs) q last =
              let same : (k ≡ Page x y) × (sp' ≡ split_after (piece_length plan (Page x y) sp) sp) = follows_now (Piece k sp') bs q (Piece (Page x y) sp) at in
              first ∙ (λ j. drop n (comes_of plan (Piece (sym same.0 j) (sym same.1 j))))

      -- an input that goes on or ends: an answer for the piece under way, or a flush result
      steps : (f : Fate) → fate_of left row i ≡ f → ((x : Refusal) → f ≡ away x → ⊥) → Last plan row.awaits f → (n : ℕ) → drop (answers_of i n) (comes s t) ≡ drop n (then_comes plan f)
      unfolding then_comes
      steps f q heard-it last n = by_row row.awaits refl
        where
          by_input : (x y : Position) (sp : Split) → row.awaits ≡ Piece (Page x y) sp → (i' : Input) → i ≡ i' → drop (answers_of i n) (comes s t) ≡ drop n (then_comes plan f)
          by_input x y sp at (answered a back flushes) is = ap (λ (v : Input). drop (answers_of v n) (comes s t)) is ∙ (unfold answers_of in page_steps x y sp at f q (subst (λ (w : Awaits). Last plan w f) at last) n)
          by_input x y sp at (flushed result) is =
              absurd (heard-it NotAwaited (sym q ∙ ap (fate_of left row) is ∙ (unfold fate_of rules flush_rules in ap (flush_rules left.settings row (bytes_at left row.buffer) result) at)))

          over_comes : (z : WriteTicket) → row.awaits ≡ Flush z → (f : Fate) → fate_of left row i ≡ f → then_comes plan f ≡ []
          over_comes z at (away x) q = refl
          over_comes z at (awaits a bs) q =
              absurd (unfold Follows in follows_now a bs q (Flush z) at)
          over_comes z at (ends ending) q = refl
          over_comes z at (rejected x d bs) q = refl

          by_row : (w : Awaits) → row.awaits ≡ w → drop (answers_of i n) (comes s t) ≡ drop n (then_comes plan f)
          by_row Nothing at = absurd (not_both writes (unfold is_write in ap is_write at))
          by_row (Piece (Read x y) sp) at = absurd (not_both writes (unfold is_write in ap is_write at))
          by_row (Piece (Page x y) sp) at = by_input x y sp at i refl
          by_row (Flush z) at =
              let no_more : comes_of plan (Flush z) ≡ [] = unfold comes_of in refl in
              ap (drop (answers_of i n)) (ap (comes_of plan) at ∙ no_more) ∙ drop-nil (answers_of i n) ∙ sym (drop-nil n) ∙ ap (drop n) (sym (over_comes z at f q))

      given_one : given_by s e t ≡ (i, left_in left row) ∷ []
      unfolding given_by given_as pick
      given_one = (λ j. given_as (bt j) (heard j) (left_in left row))

      counted : (f : Fate) → fate_of left row i ≡ f → ((x : Refusal) → f ≡ away x → ⊥) → Last plan row.awaits f → drop (answers_in later) (then_comes plan f) ≡ [] → Left
      unfolding answers_in
      counted f q heard-it last z = ap (λ (l : List Given). drop (answers_in (l ++ later)) (comes s t)) given_one ∙ steps f q heard-it last (answers_in later) ∙ z

      abbrev its : Type 0
      its = Head × AllWhole (next s e) es t × Left

      -- the completion that it gets
      completion : (o : Outcome) (d : Buffer) (bs : List ℕ) (cause : Option FirstCause) → fate_of left row i ≡ ends (record { outcome = o; buffer = d; bytes = bs; cause = cause }) → c.outcome ≡ o
      unfolding added_by with_bytes settled freeing completion_of is_brought pick leave
      completion o d bs cause q =
          let z = next_is (ends (record { outcome = o; buffer = d; bytes = bs; cause = cause })) q in
          let added : added_by s e ≡ completion_of row o d ∷ [] = ap (λ (y : State). drop (length s.ready) y.ready) z ∙ drop-append_seam s.ready (completion_of row o d ∷ []) in
          let first : gets_of s e t b ≡ (completion_of row o d, bytes_at (next s e) b) ∷ [] =
          ap (λ (v : Option Input). pick (is_brought v) (with_bytes (bytes_at (next s e) b) (added_by s e)) []) bt ∙ ap (with_bytes (bytes_at (next s e) b)) added in
          let all : (completion_of row o d, bytes_at (next s e) b) ∷ gets (next s e) es t b ≡ (c, bytes) ∷ more = ap (λ (l : List Completed). l ++ gets (next s e) es t b) (sym first) ∙ got in
          let same : ◌≡◌ {A = Completed} (completion_of row o d, bytes_at (next s e) b) (c, bytes) = cc in
          ap (λ (p : Completed). p.0.outcome) (sym same)

      by_fate : (f : Fate) → fate_of left row i ≡ f → Judged s row i f → its
      unfolding settled going freeing Fitting leave is_away reply_to Followed gets awaits_now then_comes
      by_fate (away x) q j = absurd (not_both (ap (λ (z : State × Reply). is_away z.1) (heard_settles s e t i bt named heard ∙ ap (settled left t row) q)) heard)
      by_fate (awaits a bs) q (whole z last) =
          let at : row_at (next s e) (row_of t) ≡ awaits_now row a = ap (λ (y : State). row_at y (row_of t)) (next_is (awaits a bs) q) ∙ row_then left t row named here _ (awaits_now row a) refl in
          let on = goes (awaits_now row a) at (onward_writes _ row.awaits a writes (follows_now a bs q row.awaits refl)) (added_none (ap (λ (y : State). y.ready) (next_is (awaits a bs) q))) in
          (head z, on.0, counted (awaits a bs) q (λ x no. clash (cc)) last (ap (drop (answers_in later)) (sym (next_comes (awaits_now row a) at refl)) ∙ on.1))
      by_fate (awaits a bs) q (lost o d bs' cause x n) = clash (cc)
      by_fate (awaits a bs) q (refused x d bs' n) = clash (cc)
      by_fate (awaits a bs) q (turned x n) = clash (cc)
      by_fate (ends ending) q (whole z last) =
          (head z, ended es followed (over (ends ending) (raised row.generation) q refl), counted (ends ending) q (λ x no. clash (cc)) last (drop-nil (answers_in later)))
      by_fate (ends ending) q (lost o' d' bs' cause' x n) = absurd (not_both kept (ap is_kept (completion ending.outcome ending.buffer ending.bytes ending.cause q) ∙ ap is_kept (let y : ending.outcome ≡ o' = cc in y) ∙ n))
      by_fate (ends ending) q (refused x d' bs' n) = clash (cc)
      by_fate (ends ending) q (turned x n) = clash (cc)
      by_fate (rejected x d bs) q j =
          absurd (nothing es followed (ap (λ (l : List Completed). l ++ gets (next s e) es t b) (sym (added_none (ap (λ (y : State). y.ready) (next_is (rejected x d bs) q) ∙ append-nil s.ready))) ∙ got))
        where
          nothing : (l : List Event) → Followed (next s e) l t → gets (next s e) l t b ≡ (c, bytes) ∷ more → ⊥
          nothing [] f z = clash (cc)
          nothing (y ∷ l) f z = over (rejected x d bs) row.generation q refl f.0

    by_away : (i : Input) → brought t e.made ≡ some i → (away : Bool) → is_away (reply_to s e) ≡ away → Head × AllWhole (next s e) es t × Left
    unfolding fate_of plan_at leave region_at row_at
    by_away i bt true far =
        let same = away_same s e far in
        let at : row_at (next s e) (row_of t) ≡ row = ap (λ (z : State). row_at z (row_of t)) same in
        let on = goes row at writes (added_none (ap (λ (z : State). z.ready) same)) in
        let none_given : given_by s e t ≡ [] = unfold given_by given_as pick in (λ j. given_as (bt j) (far j) (left_in left row)) in
        (λ i' bt' heard. absurd (not_both far heard), on.0, nothing_given none_given at on.1)
    by_away i bt false heard = by_fate i bt heard (fate_of left row i) refl (judged s row (region_at left row.handle).forced left.poison left.settings (bytes_at left row.buffer) i writes)

    by_brought : (v : Option Input) → brought t e.made ≡ v → Head × AllWhole (next s e) es t × Left
    unfolding is_brought pick next row_at leave
    by_brought none q =
        let at : row_at (next s e) (row_of t) ≡ row = done_row left (leaves s e.leaves sound host.count) t named e.lengths e.made q in
        let on = goes row at writes (ap (λ (v : Option Input). pick (is_brought v) (with_bytes (bytes_at (next s e) b) (added_by s e)) []) q) in
        let none_given : given_by s e t ≡ [] = unfold given_by given_as in ap (λ (v : Option Input). given_as v (is_away (reply_to s e)) (left_in left row)) q in
        ((λ i bt heard. clash (let y : none ≡ some i = sym q ∙ bt in cc)), on.0, nothing_given none_given at on.1)
    by_brought (some i) q = by_away i q (is_away (reply_to s e)) refl

  pub kept_from : (es : List Event) (s : State) → Kept s es
  unfolding Followed AllWhole gets given
  kept_from [] s sound writes followed got = clash (cc)
  kept_from (e ∷ es) s sound writes followed got = let z = by_brought s sound e es followed.0 followed.1 followed.2 writes got (kept_from es (next s e)) (brought t e.made) refl in ((z.0, z.1), z.2)

-- at its start all of the map's pieces are to come
pub all_answered : (w : Task) (s : State) → InRow w (row_at s (row_of w.tag)) 0 0 → (region_at s w.request.handle).map ≡ w.map → (n : ℕ) → drop n (comes s w.tag) ≡ []
    → length (pieces w.map w.request.offset.0 w.request.length) ≤ n
unfolding comes_of
all_answered w s o map_is n none_left = by_stage o.stage
  where
    by_stage : Stage w 0 0 (row_at s (row_of w.tag)).awaits → length (pieces w.map w.request.offset.0 w.request.length) ≤ n
    by_stage (flush t at page all ticket) = let z = no_piece w.map w.request.offset.0 w.request.length (sym all) in rw z (omega arith)
    by_stage (piece at more) =
        let start : w.request.offset.0 + 0 ≡ w.request.offset.0 = omega arith in
        let whole_length : w.request.length - 0 ≡ w.request.length = omega arith in
        let all : comes s w.tag ≡ pieces w.map w.request.offset.0 w.request.length =
        ap (comes_of (plan_at s (row_at s (row_of w.tag)))) at
        ∙ (λ j. pieces (plan_map w s (row_at s (row_of w.tag)) o.handle map_is j) ((w.first j).0 + 0) (w.request.length - 0))
        ∙ (λ j. pieces w.map (start j) (whole_length j)) in
        let z : length (pieces w.map w.request.offset.0 w.request.length) - n ≡ 0 = sym (length-drop n _) ∙ ap length (ap (drop n) (sym all) ∙ none_left) in
        omega (arith, z)
