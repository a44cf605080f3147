-- `start::not_opened` meets its contract: by whether the opening keeps all rules.
use mathlib.Core.Path.{sym, ap, ◌∙◌}
use mathlib.Core.Bool.{Bool}
use Rattle.layout.specs.Pick.{pick}
use Rattle.session.specs.declared.start.Started.TheVariants.{Refused, TooLarge}
use Rattle.session.proofs.start.not_opened.Goals as goal

pub returns-then-keeps_rules : goal.returns-then-keeps_rules
unfolding pick
returns-then-keeps_rules c = sym (ap (λ (t : Bool). pick t TooLarge Refused) (sym c.keeps_rules.ensures ∙ c.if-keeps_rules.true))

pub returns : goal.returns
unfolding pick
returns c = sym (ap (λ (t : Bool). pick t TooLarge Refused) (sym c.keeps_rules.ensures ∙ c.if-keeps_rules.false))
