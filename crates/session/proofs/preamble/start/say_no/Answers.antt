-- `preamble::start::say_no` meets its contract: it is the reply 13.
use Rattle.session.specs.Unopened.{no_text13}
use Rattle.session.proofs.preamble.start.say_no.Goals as goal

pub returns : goal.returns
unfolding no_text13
returns c = c.say_reply.ensures
