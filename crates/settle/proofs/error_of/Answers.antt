-- `settle::error_of` meets its contract: each arm knows which answer it is, and there the definition computes.
use Rattle.step.specs.Rules.{error_of}
use Rattle.settle.proofs.error_of.Goals as goal

pub returns-in-Count : goal.returns-in-Count
unfolding error_of
returns-in-Count c = rw c.in-Count.is

pub returns-in-Error : goal.returns-in-Error
unfolding error_of
returns-in-Error c = rw c.in-Error.is

pub returns-in-Refused : goal.returns-in-Refused
unfolding error_of
returns-in-Refused c = rw c.in-Refused.is

pub returns-in-RefusedWith : goal.returns-in-RefusedWith
unfolding error_of
returns-in-RefusedWith c = rw c.in-RefusedWith.is
