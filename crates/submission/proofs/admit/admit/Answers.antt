-- `admit::admit` meets its contract: the questions are asked in their order.
use Rattle.std.proofs.Common.{rules}
use Rattle.step.specs.Questions.{ask, first_no, host_holds_buffer, room_in_table, lifetime_left, gate_open}
use Rattle.submission.proofs.admit.admit.Goals as goal

pub returns-in_err-ask : goal.returns-in_err-ask
unfolding ask first_no host_holds_buffer room_in_table lifetime_left gate_open
returns-in_err-ask c = search rules

pub returns-in_err-ask-2 : goal.returns-in_err-ask-2
unfolding ask first_no host_holds_buffer room_in_table lifetime_left gate_open
returns-in_err-ask-2 c = search rules

pub returns-in_err-ask-3 : goal.returns-in_err-ask-3
unfolding ask first_no host_holds_buffer room_in_table lifetime_left gate_open
returns-in_err-ask-3 c = search rules

pub returns-in_err-ask-4 : goal.returns-in_err-ask-4
unfolding ask first_no host_holds_buffer room_in_table lifetime_left gate_open
returns-in_err-ask-4 c = search rules

pub returns : goal.returns
unfolding ask first_no host_holds_buffer room_in_table lifetime_left gate_open
returns c = search rules
