-- `underway::flush_finished` meets its contract: by whether the tag is known.
use Rattle.std.proofs.Common.{sym, refl, ◌∙◌}
use Rattle.layout.proofs.Tests.{not_both}
use Rattle.arrival.proofs.underway.flush_finished.Goals as goal

pub returns-then-not-known : goal.returns-then-not-known
returns-then-not-known c = ((λ e. refl), (λ e. absurd (not_both e (sym c.known.ensures ∙ c.if-not-known.true))))

pub returns : goal.returns
returns c = ((λ e. absurd (not_both (sym c.known.ensures ∙ c.if-not-known.false) e)), (λ e. c.flushed.ensures))
