-- What a submission is decided from: of a sound table whose parts lie in the words, the questions' answer, the row on top of the stack, the range's
-- end and the first piece that the code finds are the definition's.
use Rattle.std.proofs.Common.{◌≡◌, ℕ, ◌+◌, ◌-◌, ◌<◌, true, List, get_or, take, sym, refl, ap, ◌∙◌, mod-eq_of_lt, arith, get_or-drop, get_or-take}
use Rattle.regionmap.specs.declared.Position.{Position}
use Rattle.regionmap.specs.declared.FoundPiece.{FoundPiece}
use Rattle.regionmap.specs.Map.{place, piece_size}
use Rattle.regionmap.specs.Words.{position_of, offset_of}
use Rattle.regionmap.specs.Found.{wrap64}
use Rattle.model.specs.declared.Counts.{Counts}
use Rattle.model.specs.declared.Row.{Row}
use Rattle.model.specs.declared.Request.{Request}
use Rattle.model.specs.declared.Kind.{Kind}
use Rattle.std.specs.declared.result.Result.TheVariants.{Ok, Err}
use Rattle.model.specs.State.{State, Region}
use Rattle.model.specs.Memory.{settings_in, lengths_of, same_lengths, state_in}
use Rattle.step.specs.Questions.{region_at, first_no, Asked}
use Rattle.step.specs.Rules.{piece_of}
use Rattle.step.specs.Step.{begun, end_of, top_of, verdict_of, Verdict}
use Rattle.step.specs.Sound.{Sound}
use Rattle.step.proofs.Answers.{Passed}
use Rattle.submission.specs.Asks.{Reads, Questions}
use Rattle.memory.proofs.Found.{store_long, in_store, region_is, piece_there}
use Rattle.submission.specs.Decided.{FirstPiece, DecidedBy, Decides, verdict_with, end_wrapped}
use Rattle.optable.specs.Called.{lent_of}

module _ (c : Counts) (rows : List Row) (store free ready owners pool : List ℕ) (i : Sound (state_in c (lent_of rows store free ready owners pool)))
    (same : same_lengths (lengths_of (lent_of rows store free ready owners pool)) store ≡ true) where
  abbrev s : State
  s = state_in c (lent_of rows store free ready owners pool)

  pub reads : Reads s c store owners
  unfolding state_in
  reads = record {
    words = let long = store_long c (lent_of rows store free ready owners pool) i same in omega (arith, long);
    counts = refl;
    settings = refl;
    poison = refl;
    owners_are = refl;
    in_store = in_store c (lent_of rows store free ready owners pool) i same;
    regions = region_is c (lent_of rows store free ready owners pool) i same;
  }

  module _ (q : Request) (p : Passed s q) where
    below : q.handle < (settings_in store).regions
    unfolding state_in
    below = p.region

    -- the row on top of the stack
    pub top_is : get_or free c.live 0 ≡ top_of s.free
    unfolding top_of state_in
    top_is =
        let room : c.live + 0 < (settings_in store).depth = let r = p.room in omega (arith, r) in
        ap (λ (k : ℕ). get_or free k 0) (let e : c.live ≡ c.live + 0 = omega arith in e)
        ∙ sym (get_or-drop c.live (take (settings_in store).depth free) 0 0 ∙ get_or-take (settings_in store).depth free (c.live + 0) 0 room)

    -- the range's end
    pub end_is : end_wrapped q ≡ end_of q
    unfolding wrap64
    end_is = ap position_of (mod-eq_of_lt p.whole)

    -- the first piece
    pub piece_is : (first : FoundPiece) → FirstPiece store q first → first ≡ piece_of (region_at s q.handle).map q.offset.0 (begun q.length)
    unfolding piece_of
    piece_is first found =
        let m = (region_at s q.handle).map in
        let inside : q.offset.0 < m.capacity = let d = p.in_data_lem in let w = (i.each q.handle p.region).lawful.within in let some = p.some in omega (arith, d, w, some) in
        let here : q.offset.0 ≡ q.offset.0 + 0 = omega arith in
        let all : q.length ≡ q.length - 0 = omega arith in
        piece_there c (lent_of rows store free ready owners pool) i same q.handle below q.offset.0 q.length inside first found
        ∙ (λ j. record { offset = offset_of (place m (here j)); count = piece_size m (here j) (all j) })

  -- the code's verdict of an answer that is the questions' is the definition's, where a yes means that they all passed
  pub decided : (q : Request) (asked : Asked) → (asked ≡ Ok tt → Passed s q) → (wrapped kind : Kind) → (end_wrapped q ≡ end_of q → wrapped ≡ kind) → (v : Verdict) → DecidedBy asked c.live store free wrapped q v → v ≡ verdict_of asked s kind q
  unfolding verdict_with verdict_of
  decided q (Err f) passed wrapped kind k v d = d.verdict
  decided q (Ok _) passed wrapped kind k v d =
      let p = passed refl in
      d.verdict ∙ λ j. Ok (record { row = top_is q p j; kind = k (end_is q p) j; piece = piece_is q p d.first (d.found refl) j })

-- ---- a call's verdict, of its own list and kind

module _ (list : State → Region → Request → List Asked) (passes : (s : State) (q : Request) → first_no (list s (region_at s q.handle) q) ≡ Ok tt → Passed s q) (shape : Request → Position → Kind)
    (c : Counts) (store free owners : List ℕ) (q : Request)
    (asked : Asked) (answers : Questions list c store owners q asked) (end : Position) (ends : end ≡ end_wrapped q) (v : Verdict) (d : DecidedBy asked c.live store free (shape q end) q v) where
  pub decides : Decides (λ s q. verdict_of (first_no (list s (region_at s q.handle) q)) s (shape q (end_of q)) q) c store free owners q v
  decides rows ready pool same i =
      let s = state_in c (lent_of rows store free ready owners pool) in
      let is = answers s (reads c rows store free ready owners pool i same) in
      decided c rows store free ready owners pool i same q asked (λ e. passes s q (sym is ∙ e)) (shape q end) (shape q (end_of q)) (λ e. ap (shape q) (ends ∙ e)) v d
      ∙ ap (λ (a : Asked). verdict_of a s (shape q (end_of q)) q) is
