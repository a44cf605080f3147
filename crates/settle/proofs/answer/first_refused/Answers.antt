-- `answer::first_refused` meets its contract: each arm knows whether the answer is a refusal.
use mathlib.Core.Bool.{and-true}
use Rattle.step.specs.Rules.{is_refusal, first_refused}
use Rattle.settle.proofs.Finishing.{no_refusal}
use Rattle.settle.proofs.answer.first_refused.Goals as goal

pub returns-in-Refused : goal.returns-in-Refused
unfolding first_refused is_refusal
returns-in-Refused c = rw (c.in-Refused.is, and-true)

pub returns-in-RefusedWith : goal.returns-in-RefusedWith
unfolding first_refused is_refusal
returns-in-RefusedWith c = rw (c.in-RefusedWith.is, and-true)

pub returns-in_default : goal.returns-in_default
returns-in_default c = let a = c.args in no_refusal a.s a.answer c.in_default.not-Refused c.in_default.not-RefusedWith
