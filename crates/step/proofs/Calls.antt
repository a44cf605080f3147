-- What holds of a table as it is, and of each change that a call makes to it, holds of every call.
use mathlib.Core.Path.{◌≡◌, refl}
use mathlib.Core.List.{List, [], ◌∷◌}
use Prim.Native.Nat.{ℕ}
use lib.ListN.{set}
use lib.Dec.{ltb}
use Rattle.regionmap.specs.declared.FoundPiece.{FoundPiece}
use Rattle.domain.specs.declared.FirstCause.{FirstCause}
use Rattle.domain.specs.Domain.{first_kept}
use Rattle.completion.specs.declared.Completion.{Completion}
use Rattle.completion.specs.declared.Reply.{Reply}
use Rattle.completion.specs.declared.Reply.TheVariants.{Ok as ok}
use Rattle.model.specs.declared.Lengths.{Lengths}
use Rattle.model.specs.declared.Kind.{Kind}
use Rattle.model.specs.declared.Request.{Request}
use Rattle.std.specs.declared.result.Result.TheVariants.{Ok, Err}
use Rattle.model.specs.declared.Call.{Call}
use Rattle.model.specs.declared.Call.TheVariants.{Write, ReadPage, Answer, Flushed, Take, SetGate, SetReadOnly, SetForced, ReportPoison}
use Rattle.model.specs.State.{Region, State}
use Rattle.step.specs.Questions.{region_at}
use Rattle.step.specs.Rules.{Input, Input.answered, Input.flushed}
use Rattle.step.specs.Step.{row_at, submitted, write_verdict, read_verdict, row_of, names, plan_of, settled, fate_of, under_tag, taken, Verdict}
use Rattle.step.specs.Step.{with_regions, with_poison, marked, with_gate, with_read_only, with_forced, called, eq_lengths, step}
use Rattle.step.proofs.Picked.{by_pick}

module _ (s : State) (P : State × Reply → Type 0) (stays : (x : Reply) → P (s, x)) (accepts : (q : Request) (r : ℕ) (k : Kind) (p : FoundPiece) → P (submitted s q (Ok (record { row = r; kind = k; piece = p }))))
    (settles : (t : ℕ) (i : Input) → P (settled s t (row_at s (row_of t)) (fate_of s (row_at s (row_of t)) i))) (takes : (c : Completion) (more : List Completion) → P (taken s (c ∷ more)))
    (marks : (h : ℕ) (g : Region) → plan_of g ≡ plan_of (region_at s h) → P (with_regions s (set s.regions h g), ok)) (reports : (cause : FirstCause) → P (with_poison s (first_kept s.poison cause), ok)) where
  by_verdict : (q : Request) (v : Verdict) → P (submitted s q v)
  unfolding submitted
  by_verdict q (Err f) = stays _
  by_verdict q (Ok a) = accepts q a.row a.kind a.piece

  by_tag : (t : ℕ) (i : Input) → P (under_tag s t i)
  unfolding under_tag
  by_tag t i = by_pick (names (row_at s (row_of t)) t) P (λ n. settles t i) (λ n. stays _)

  by_ready : (l : List Completion) → P (taken s l)
  unfolding taken
  by_ready [] = stays _
  by_ready (c ∷ more) = takes c more

  by_handle : (h : ℕ) (g : Region) → plan_of g ≡ plan_of (region_at s h) → P (marked s h g)
  unfolding marked
  by_handle h g e = by_pick (ltb h s.settings.regions) P (λ known. marks h g e) (λ unknown. stays _)

  by_call : (c : Call) → P (called s c)
  unfolding called with_gate with_read_only with_forced plan_of
  by_call (Write q) = by_verdict q (write_verdict s q)
  by_call (ReadPage q) = by_verdict q (read_verdict s q)
  by_call (Answer t a back flushes) = by_tag t (answered a back flushes)
  by_call (Flushed t result) = by_tag t (flushed result)
  by_call Take = by_ready s.ready
  by_call (SetGate h x) = by_handle h (with_gate (region_at s h) x) refl
  by_call (SetReadOnly h x) = by_handle h (with_read_only (region_at s h) x) refl
  by_call (SetForced h x) = by_handle h (with_forced (region_at s h) x) refl
  by_call (ReportPoison cause) = reports cause

  pub by_step : (l : Lengths) (c : Call) → P (step s l c)
  unfolding step
  by_step l c = by_pick (eq_lengths l s.lengths) P (λ same. by_call c) (λ other. stays _)
