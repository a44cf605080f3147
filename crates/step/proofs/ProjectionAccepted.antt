-- A submission: refused it changes nothing; accepted it is an operation alone from its buffer as it is then, under the queue tag of the reply.
use mathlib.Core.Path.{◌≡◌, refl, sym, ap, ◌∙◌}
use mathlib.Core.Bool.{true}
use mathlib.Core.Option.{some}
use mathlib.Core.List.{List}
use Prim.Native.Nat.{ℕ, ◌+◌, ◌<◌, ◌^◌}
use native.Mathlib.Omega.{arith}
use lib.ListN.{length}
use Rattle.iobuf.specs.Turn.{stretch, with_stretch}
use Rattle.iobuf.proofs.Laws.{turn_laws}
use Rattle.model.specs.declared.Opening.{Opening}
use Rattle.model.specs.declared.Kind.{Kind}
use Rattle.model.specs.declared.Request.{Request}
use Rattle.std.specs.declared.result.Result.TheVariants.{Ok, Err}
use Rattle.model.specs.declared.Row.{Row}
use Rattle.model.specs.State.{State}
use Rattle.step.specs.Questions.{held_at, Asked}
use Rattle.step.specs.Step.{queue_tag, top_of, row_at, generation_of, is_live, names, claimed_by, one_more, accepted, submitted, verdict_of}
use Rattle.step.specs.Sound.{Sound}
use Rattle.step.specs.Alone.{Course.is_open, Alones, tag_given, begins, plan_for}
use Rattle.step.specs.Demand3.{Projected}
use Rattle.step.specs.Run.{Start}
use Rattle.step.proofs.Answers.{Passed}
use Rattle.step.proofs.Taken.{top_row, awaits_nothing}
use Rattle.step.proofs.Buffers.{in_pool_lem}
use Rattle.step.proofs.Named.{live_one}
use Rattle.step.proofs.AloneTags.{small_row, row_of_tag, generation_of_tag, names_live, names_by}
use Rattle.step.proofs.ProjectionFixed.{Fixed}
use Rattle.step.proofs.ProjectionHost.{not_held}
use Rattle.step.proofs.ProjectionSet.{projected_set}
use Rattle.step.specs.Lists.{plan_at}

module _ (x : Start) (s : State) (i : Sound s) (fx : Fixed x s) (a : Alones) (p : Projected s a) (k : Kind) (q : Request) where
  abbrev top : ℕ
  top = top_of s.free

  abbrev tag : ℕ
  tag = queue_tag top (row_at s top).generation

  abbrev new : Row
  new = claimed_by (row_at s top).generation s.counts.submissions k q

  abbrev first : List ℕ
  first = stretch x.opening.capacity q.buffer s.pool

  module _ (ok : Passed s q) where
    top_in : top < length s.rows
    top_in = let lt = top_row s i ok.room in let e = i.rows in omega (arith, lt, e)

    top_dead : is_live (row_at s top).awaits ≡ true → ⊥
    top_dead live = omega (arith, live_one (row_at s top).awaits live, awaits_nothing s i ok.room)

    top_small : top < 2 ^ 32
    top_small = small_row s i top (top_row s i ok.room)

    stretches : stretch s.settings.capacity q.buffer s.pool ≡ first
    stretches = ap (λ (o : Opening). stretch o.capacity q.buffer s.pool) fx.settings

    own_pool : s.pool ≡ with_stretch s.settings.capacity q.buffer first s.pool
    own_pool =
        sym (turn_laws.filled_own s.settings.capacity q.buffer s.pool) ∙ ap (λ (bytes : List ℕ). with_stretch s.settings.capacity q.buffer bytes s.pool) stretches

    -- the row that the operation alone begins with is the table's
    claimed : claimed_by (generation_of tag) a.count k q ≡ new
    claimed = λ j. claimed_by (generation_of_tag top (row_at s top).generation top_small j) (p.count j) k q

    new_named : names new tag ≡ true
    unfolding claimed_by is_live
    new_named = names_by new tag refl (sym (generation_of_tag top (row_at s top).generation top_small))

    projected_accepted : Projected (accepted s top k q) (begins a k q first (some tag))
    unfolding accepted one_more begins claimed_by plan_at
    projected_accepted =
        projected_set s (accepted s top k q) i a (begins a k q first (some tag)) p tag top q.buffer new first (is_open (plan_for a q.handle) (claimed_by (generation_of tag) a.count k q) first)
        (record {
          changed = record { settings = refl; regions = refl; rows = refl; pool = own_pool };
          in_rows = top_in;
          row = row_of_tag top (row_at s top).generation top_small;
          in_buffers = ok.buffer;
          long = sym (ap length stretches) ∙ turn_laws.stretch_length s.settings.capacity q.buffer s.pool (in_pool_lem s i q.buffer ok.buffer s.pool i.pool);
          apart = λ r n live e. not_held s i r live (ap (held_at s) e ∙ ok.held);
          tags = λ u e z. absurd (top_dead (names_live (row_at s top) u z));
          ops = λ u. refl;
          to_open = λ live. (λ j. is_open (p.plans q.handle j) (claimed j) first, refl, refl);
          from_open = λ g r bs e.
              let its_plan : plan_for a q.handle ≡ g = cc in
              let its_row : claimed_by (generation_of tag) a.count k q ≡ r = cc in
              (new_named, sym claimed ∙ its_row, ap (plan_at s) (sym its_row) ∙ sym (p.plans q.handle) ∙ its_plan);
          plans = refl;
          forced = λ h. refl;
          first = p.first;
          count = ap (λ (n : ℕ). n + 1) p.count;
        })

  -- by the questions' answer
  pub projected_submitted : (y : Asked) → (y ≡ Ok tt → Passed s q) → Projected (submitted s q (verdict_of y s k q)).0 (begins a k q first (tag_given (submitted s q (verdict_of y s k q)).1))
  unfolding verdict_of submitted tag_given begins
  projected_submitted (Err f) passes = p
  projected_submitted (Ok _) passes = projected_accepted (passes refl)
