-- Who has a buffer after a call: a call sets the owner of one buffer or of none, so that every other buffer has the owner that it had.
use mathlib.Core.Path.{◌≡◌, refl, sym, ap}
use mathlib.Core.Logic.{◌≢◌}
use mathlib.Core.Bool.{true}
use mathlib.Core.Option.{some}
use mathlib.Core.List.{List, [], ◌∷◌}
use Prim.Native.Nat.{ℕ}
use lib.Dec.{ltb}
use lib.ListN.{get_or, set}
use lib.Seq.{get_or-set_other}
use Rattle.completion.specs.Buffers.{Buffer}
use Rattle.std.specs.declared.option.Option.TheVariants.{Some as Back, None as Lost}
use Rattle.completion.specs.declared.Completion.{Completion}
use Rattle.completion.specs.declared.Reply.{Reply}
use Rattle.model.specs.declared.Lengths.{Lengths}
use Rattle.model.specs.declared.Kind.{Kind}
use Rattle.model.specs.declared.Row.{Row}
use Rattle.model.specs.declared.Request.{Request}
use Rattle.std.specs.declared.result.Result.TheVariants.{Ok, Err}
use Rattle.model.specs.declared.Call.{Call}
use Rattle.model.specs.declared.Call.TheVariants.{Write, ReadPage, Answer, Flushed, Take, SetGate, SetReadOnly, SetForced, ReportPoison}
use Rattle.model.specs.State.{Region, Owner, Owner.host, Owner.table, State}
use Rattle.step.specs.Questions.{region_at, Asked}
use Rattle.step.specs.Rules.{Input, Input.answered, Input.flushed, Fate, Fate.away, Fate.awaits, Fate.ends, Fate.rejected}
use Rattle.step.specs.Step.{row_at, row_of, names, accepted, submitted, verdict_of, write_verdict, read_verdict, going, freeing, settled, fate_of, under_tag, given_back, taken}
use Rattle.step.specs.Step.{with_regions, with_poison, marked, with_gate, with_read_only, with_forced, called, eq_lengths, step}
use Rattle.step.specs.Others.{buffer_back, taken_from, about_buffer}
use Rattle.step.proofs.Picked.{by_pick}

module _ (s : State) (b : ℕ) where
  abbrev pub SameOwner : State × Reply → Type 0
  SameOwner z = get_or z.0.owners b host ≡ get_or s.owners b host

  another_owner : (k : ℕ) (who : Owner) → k ≢ b → get_or (set s.owners k who) b host ≡ get_or s.owners b host
  another_owner k who n = get_or-set_other s.owners k b who host (λ e. n (sym e))

  pub submitted_same : (q : Request) (k : Kind) (a : Asked) → (a ≡ Ok tt → q.buffer ≢ b) → SameOwner (submitted s q (verdict_of a s k q))
  unfolding submitted verdict_of accepted
  submitted_same q k (Err f) n = refl
  submitted_same q k (Ok _) n = another_owner q.buffer table (n refl)

  settled_same : (t : ℕ) (row : Row) (f : Fate) → row.buffer ≢ b → SameOwner (settled s t row f)
  unfolding settled going freeing
  settled_same t row (away f) n = refl
  settled_same t row (awaits a bytes) n = refl
  settled_same t row (ends ending) n = another_owner _ _ n
  settled_same t row (rejected e buf bytes) n = another_owner _ _ n

  pub under_same : (t : ℕ) (i : Input) → (names (row_at s (row_of t)) t ≡ true → (row_at s (row_of t)).buffer ≢ b) → SameOwner (under_tag s t i)
  unfolding under_tag
  under_same t i n =
      let row = row_at s (row_of t) in
      by_pick (names row t) SameOwner (λ named. settled_same t row (fate_of s row i) (n named)) (λ unnamed. refl)

  given_same : (buf : Buffer) → buffer_back buf ≢ some b → get_or (given_back s.owners buf) b host ≡ get_or s.owners b host
  unfolding given_back buffer_back
  given_same (Back h) other = another_owner h.buffer host (λ e. other (ap some e))
  given_same Lost other = refl

  pub taken_same : (cs : List Completion) → taken_from cs ≢ some b → SameOwner (taken s cs)
  unfolding taken taken_from
  taken_same [] other = refl
  taken_same (c ∷ more) other = given_same c.buf other

  pub marked_same : (h : ℕ) (g : Region) → SameOwner (marked s h g)
  unfolding marked with_regions
  marked_same h g = by_pick (ltb h s.settings.regions) SameOwner (λ known. refl) (λ unknown. refl)

  called_same : (c : Call) → about_buffer s c ≢ some b → SameOwner (called s c)
  unfolding called write_verdict read_verdict with_poison about_buffer
  called_same (Write q) n = submitted_same q _ _ (λ yes e. n (ap some e))
  called_same (ReadPage q) n = submitted_same q _ _ (λ yes e. n (ap some e))
  called_same (Answer t a back flushes) n = under_same t (answered a back flushes) (λ named e. n (ap some e))
  called_same (Flushed t result) n = under_same t (flushed result) (λ named e. n (ap some e))
  called_same Take n = taken_same s.ready n
  called_same (SetGate h x) n = marked_same h (with_gate (region_at s h) x)
  called_same (SetReadOnly h x) n = marked_same h (with_read_only (region_at s h) x)
  called_same (SetForced h x) n = marked_same h (with_forced (region_at s h) x)
  called_same (ReportPoison cause) n = refl

pub others_kept : (s : State) (l : Lengths) (c : Call) (b : ℕ) → about_buffer s c ≢ some b → get_or (step s l c).0.owners b host ≡ get_or s.owners b host
unfolding step
others_kept s l c b n = by_pick (eq_lengths l s.lengths) (SameOwner s b) (λ same. called_same s b c n) (λ other. refl)
