-- `body::refused_line` meets its contract: each arm knows what the line says (Refusals).
use native.Mathlib.Omega.{arith}
use Rattle.session.proofs.Refusals.{comment_refused, bad_refused, said_refused}
use Rattle.session.proofs.body.refused_line.Goals as goal

pub returns-in-Comment : goal.returns-in-Comment
returns-in-Comment c = (omega arith, λ bytes k. comment_refused _ bytes (c.finish-said.ensures bytes k) _ c.in-Comment.is)

pub returns-in-Bad : goal.returns-in-Bad
returns-in-Bad c = (c.say_bad.ensures.0, λ bytes k. bad_refused _ bytes (c.finish-said.ensures bytes k) _ c.in-Bad.is _ c.say_bad.ensures.1)

pub returns-in_default : goal.returns-in_default
returns-in_default c = (c.say_no.ensures.0, λ bytes k. said_refused _ bytes (c.finish-said.ensures bytes k) _ c.in_default.not-Comment c.in_default.not-Bad _ c.say_no.ensures.1)
