-- What the proofs of this crate and of those above it share: a sum that fits, an answer that is no count,
-- an end and a ticket by their parts.
use Rattle.std.proofs.Common.{◌≡◌, ℕ, ◌+◌, ◌%◌, ◌^◌, ◌<◌, Bool, List, refl, ◌∙◌, mod-eq_of_lt}
use mathlib.Core.Option.{Option}
use Rattle.regionmap.specs.declared.Position.{Position}
use Rattle.regionmap.specs.Map.{Map}
use Rattle.domain.specs.declared.FirstCause.{FirstCause}
use Rattle.domain.specs.Domain.{need_after}
use Rattle.platform.specs.declared.Answer.{Answer}
use Rattle.platform.specs.declared.Answer.TheVariants.{Count, Error, Refused, RefusedWith}
use Rattle.completion.specs.declared.WriteTicket.{WriteTicket}
use Rattle.completion.specs.declared.Outcome.{Outcome}
use Rattle.completion.specs.Buffers.{Buffer}
use Rattle.model.specs.declared.Opening.{Opening}
use Rattle.model.specs.declared.Kind.TheVariants.{Page}
use Rattle.memory.specs.declared.liveregion.LiveRegion.{LiveRegion}
use Rattle.step.specs.Rules.{Fate, Fate.ends, first_of, last_of, ticket_of}
use Rattle.settle.specs.Finished.{plan_with}

-- ---- sums

pub no_wrap : (a b n : ℕ) → n ≡ (a + b) % 2 ^ 64 → a + b < 2 ^ 64 → n ≡ a + b
no_wrap a b n e small = e ∙ mod-eq_of_lt small

-- ---- answers

-- what holds of each answer that is no count
pub no_count : (P : Answer → Type 0) → ((e : ℕ) (media : Bool) → P (Error e media)) → P Refused → ((e : ℕ) (media : Bool) → P (RefusedWith e media))
    → (answer : Answer) → ((n : ℕ) → answer ≡ Count n → ⊥) → P answer
no_count P error refused with (Count n) other = absurd (other n refl)
no_count P error refused with (Error e media) other = error e media
no_count P error refused with Refused other = refused
no_count P error refused with (RefusedWith e media) other = with e media

-- ---- ends

-- two ends of the same cause are the same where their parts are
pub same_end : {x y : Outcome} {b d : Buffer} {l k : List ℕ} {cause : Option FirstCause} → x ≡ y → b ≡ d → l ≡ k → ◌≡◌ {A = Fate} (ends (record { outcome = x; buffer = b; bytes = l; cause = cause })) (ends (record { outcome = y; buffer = d; bytes = k; cause = cause }))
same_end {cause = cause} p q r = λ i. ends (record { outcome = p i; buffer = q i; bytes = r i; cause = cause })

-- ---- tickets

-- a ticket of its parts
pub ticket_of_lem : (o : Opening) (g : LiveRegion) (m : Map) (start end : Position) (flushes generation need : ℕ) → generation ≡ g.generation → need ≡ need_after flushes
    → ◌≡◌ {A = WriteTicket} (record { volume = o.volume; region = g.id; generation = generation; start = start; end = end; need = need; epoch = o.epoch }) (ticket_of o (plan_with g m) (Page start end) flushes)
unfolding ticket_of plan_with first_of last_of
ticket_of_lem o g m start end flushes generation need p q =
    λ i. record { volume = o.volume; region = g.id; generation = p i; start = start; end = end; need = q i; epoch = o.epoch }
