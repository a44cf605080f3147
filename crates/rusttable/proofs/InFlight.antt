-- What the queue has under a tag is the piece that it was handed: the one of the reply that issued it.
use mathlib.Core.Path.{◌≡◌, refl, sym, ap, subst}
use mathlib.Core.Bool.{true}
use mathlib.Core.List.{List, [], ◌∷◌}
use Prim.Native.Nat.{ℕ}
use lib.Dec.{ltb}
use Rattle.regionmap.specs.declared.Offset.{Offset}
use Rattle.completion.specs.declared.Completion.{Completion}
use Rattle.completion.specs.declared.Reply.{Reply}
use Rattle.completion.specs.declared.Reply.TheVariants.{Piece as piece}
use Rattle.model.specs.declared.Lengths.{Lengths}
use Rattle.model.specs.declared.Kind.{Kind}
use Rattle.model.specs.declared.Kind.TheVariants.{Page, Read as Reads}
use Rattle.model.specs.declared.Split.{Split}
use Rattle.model.specs.declared.Awaits.TheVariants.{Nothing, Piece, Flush}
use Rattle.model.specs.declared.Row.{Row}
use Rattle.model.specs.declared.Request.{Request}
use Rattle.model.specs.declared.Call.{Call}
use Rattle.model.specs.declared.Call.TheVariants.{Write, ReadPage, Answer as Answers, Flushed as FlushedCall, Take, SetGate, SetReadOnly, SetForced, ReportPoison}
use Rattle.model.specs.State.{Region, State}
use Rattle.step.specs.Questions.{region_at}
use Rattle.step.specs.Asked.{first_reply}
use Rattle.step.specs.Rules.{first_of, piece_length, Input, Input.answered, Input.flushed, Fate, Fate.away, Fate.awaits, Fate.ends, Fate.rejected}
use Rattle.step.specs.Step.{begun, top_of, row_at, row_of, names, start_of, end_of, accepted, claimed_by, awaits_now, plan_of, going, asks_for, settled, fate_of, under_tag, taken, with_gate, with_read_only, with_forced, marked, eq_lengths, called, step}
use Rattle.step.specs.Sound.{Sound}
use Rattle.step.specs.Run.{done}
use Rattle.step.specs.Alone.{tag_given}
use Rattle.step.proofs.Picked.{by_pick}
use Rattle.step.proofs.AloneTags.{clash}
use Rattle.step.proofs.Demand2Begun.{Begun, begun_write, begun_read}
use Rattle.rusttable.specs.AsStep.{buf_of, in_flight}
use Rattle.rusttable.proofs.Pieces.{row_going, flies}
use Rattle.rusttable.proofs.Issuing.{claimed_row}
use Rattle.rusttable.proofs.LaterPieces.{none_issued}

-- a reply says which piece is under way
abbrev Says : State × Reply → Type 0
Says z = (t : ℕ) (offset : Offset) (count b : ℕ) → z.1 ≡ piece t offset count b → in_flight z.0 t ≡ buf_of z.0 b count

-- a piece that is under way, by its reply
says : (s : State) (t : ℕ) (offset : Offset) (count b : ℕ) → in_flight s t ≡ buf_of s b count → Says (s, piece t offset count b)
says s t offset count b same t' offset' count' b' e =
    let tags : t ≡ t' = cc in
    let counts : count ≡ count' = cc in
    let buffers : b ≡ b' = cc in
    rw (← tags, ← counts, ← buffers) same

-- ---- a submission

module _ (s : State) (i : Sound s) (q : Request) (k : Kind) (t : ℕ) (z : State × Reply) (first : first_of k ≡ q.offset) (by : Begun s q k t z) where
  begun_says : Says z
  unfolding first_reply asks_for claimed_by accepted region_at
  begun_says =
      let row = claimed_row s i q by.passed k first in
      subst Says (sym (λ j. (by.state j, by.reply j)))
      (says (accepted s (top_of s.free) k q) _ _ _ _ (flies (accepted s (top_of s.free) k q) _ (claimed_by (row_at s (top_of s.free)).generation s.counts.submissions k q) row k (begun q.length) refl))

-- ---- an answer

module _ (s : State) (t : ℕ) (found : names (row_at s (row_of t)) t ≡ true) where
  abbrev row : Row
  row = row_at s (row_of t)

  goes_on_lem : (k : Kind) (sp : Split) (bytes : List ℕ) → in_flight (going s (row_of t) row (Piece k sp) bytes) t ≡ buf_of (going s (row_of t) row (Piece k sp) bytes) row.buffer (piece_length (plan_of (region_at s row.handle)) k sp)
  unfolding going awaits_now region_at
  goes_on_lem k sp bytes = flies (going s (row_of t) row (Piece k sp) bytes) t (awaits_now row (Piece k sp)) (row_going s t found (Piece k sp) bytes) k sp refl

  fate_says : (f : Fate) → Says (settled s t row f)
  unfolding settled asks_for tag_given
  fate_says (away f) t' o c b e = clash (cc)
  fate_says (ends ending) t' o c b e = clash (cc)
  fate_says (rejected x b bytes) t' o c b' e = absurd (none_issued _ row.awaits x b t' (ap tag_given e))
  fate_says (awaits Nothing bytes) t' o c b e = clash (cc)
  fate_says (awaits (Flush ticket) bytes) t' o c b e = clash (cc)
  fate_says (awaits (Piece k sp) bytes) t' o c b e = says (going s (row_of t) row (Piece k sp) bytes) t _ _ row.buffer (goes_on_lem k sp bytes) t' o c b e

under_says : (s : State) (t : ℕ) (x : Input) → Says (under_tag s t x)
unfolding under_tag
under_says s t x = by_pick (names (row_at s (row_of t)) t) Says (λ found. fate_says s t found (fate_of s (row_at s (row_of t)) x)) (λ other t' o c b e. clash (cc))

-- ---- every call

taken_says : (s : State) (cs : List Completion) → Says (taken s cs)
unfolding taken
taken_says s [] t o c b e = clash (cc)
taken_says s (x ∷ xs) t o c b e = clash (cc)

marked_says : (s : State) (h : ℕ) (g : Region) → Says (marked s h g)
unfolding marked
marked_says s h g = by_pick (ltb h s.settings.regions) Says (λ known t o c b e. clash (cc)) (λ unknown t o c b e. clash (cc))

module _ (s : State) (l : Lengths) where
  fits : (c : Call) → Says (called s c) → Says (step s l c)
  unfolding step
  fits c x = by_pick (eq_lengths l s.lengths) Says (λ same. x) (λ other t o n b e. clash (cc))

  pub in_flight_lem : (c : Call) → Sound s → Says (step s l c)
  unfolding called tag_given done first_of
  in_flight_lem (Write q) i = λ t o c b e. begun_says s i q (Page (start_of q) (end_of q)) t (step s l (Write q)) refl (begun_write s q t l (ap tag_given e)) t o c b e
  in_flight_lem (ReadPage q) i = λ t o c b e. begun_says s i q (Reads (start_of q) (end_of q)) t (step s l (ReadPage q)) refl (begun_read s q t l (ap tag_given e)) t o c b e
  in_flight_lem (Answers u a back flushes) i = fits (Answers u a back flushes) (under_says s u (answered a back flushes))
  in_flight_lem (FlushedCall u result) i = fits (FlushedCall u result) (under_says s u (flushed result))
  in_flight_lem Take i = fits Take (taken_says s s.ready)
  in_flight_lem (SetGate h x) i = fits (SetGate h x) (marked_says s h (with_gate (region_at s h) x))
  in_flight_lem (SetReadOnly h x) i = fits (SetReadOnly h x) (marked_says s h (with_read_only (region_at s h) x))
  in_flight_lem (SetForced h x) i = fits (SetForced h x) (marked_says s h (with_forced (region_at s h) x))
  in_flight_lem (ReportPoison cause) i = fits (ReportPoison cause) (λ t o c b e. clash (cc))
