-- `lastpiece::read_length` meets its contract: a sum that fits does not wrap; of an answer that is no count the length is the whole (Settling).
use Rattle.std.proofs.Common.{◌≡◌, refl}
use Rattle.platform.specs.declared.Answer.{Answer}
use Rattle.step.specs.Rules.{read_length}
use Rattle.settle.specs.Finished.{CountFits}
use Rattle.settle.proofs.Settling.{no_wrap, no_count}
use Rattle.settle.proofs.lastpiece.read_length.Goals as goal

pub returns-in-Count : goal.returns-in-Count
unfolding CountFits read_length
returns-in-Count c =
    let a = c.args in
    rw c.in-Count.is (λ fits. no_wrap a.s.done _ _ refl fits)

pub returns-in_default : goal.returns-in_default
unfolding read_length
returns-in_default c =
    let a = c.args in
    λ fits. no_count (λ (answer : Answer). a.s.total ≡ read_length a.s answer) (λ e media. refl) refl (λ e media. refl) a.answer c.in_default.not-Count
