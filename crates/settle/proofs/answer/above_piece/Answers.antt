-- `answer::above_piece` meets its contract: each arm knows whether the answer is a count.
use Rattle.std.proofs.Common.{◌≡◌, false, refl}
use Rattle.platform.specs.declared.Answer.{Answer}
use Rattle.step.specs.Rules.{above_piece}
use Rattle.settle.proofs.Settling.{no_count}
use Rattle.settle.proofs.answer.above_piece.Goals as goal

pub returns-in-Count : goal.returns-in-Count
unfolding above_piece
returns-in-Count c = rw c.in-Count.is

pub returns-in_default : goal.returns-in_default
unfolding above_piece
returns-in_default c =
    let a = c.args in
    no_count (λ (answer : Answer). false ≡ above_piece a.piece answer) (λ e media. refl) refl (λ e media. refl) a.answer c.in_default.not-Count
