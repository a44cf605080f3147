-- `preamble::before::before_line` meets its contract: each arm knows what the line says (BeforeLines).
use native.Mathlib.Omega.{arith}
use Rattle.session.proofs.BeforeLines.{comment_before, open_before, bad_before}
use Rattle.session.proofs.preamble.before.before_line.Goals as goal

pub returns-in-Comment : goal.returns-in-Comment
returns-in-Comment c = (omega arith, λ bytes k s. comment_before _ bytes (c.finish-line.ensures bytes k) _ s c.in-Comment.is)

pub returns-in-Open : goal.returns-in-Open
returns-in-Open c = (omega arith, λ bytes k s. open_before _ bytes (c.finish-line.ensures bytes k) _ s _ c.in-Open.is)

pub returns-in_default : goal.returns-in_default
returns-in_default c = (c.say_bad.ensures.0, λ bytes k s. bad_before _ bytes (c.finish-line.ensures bytes k) _ s c.in_default.not-Comment c.in_default.not-Open _ c.say_bad.ensures.1)
