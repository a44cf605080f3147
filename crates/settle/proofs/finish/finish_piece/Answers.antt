-- `finish::finish_piece` meets its contract: each way out knows what was asked, and there the definition computes.
use Rattle.std.proofs.Common.{◌≡◌, true, false, sym, refl, ◌∙◌}
use Rattle.layout.specs.Pick.{pick}
use Rattle.step.specs.Rules.{above_piece, first_refused, goes_on, split_after, piece_answered}
use Rattle.settle.specs.Finished.{turned_by, fate_by}
use Rattle.settle.proofs.Settling.{no_wrap}
use Rattle.settle.proofs.Finishing.{count_fits}
use Rattle.settle.proofs.finish.finish_piece.Goals as goal

pub returns-then-above_piece : goal.returns-then-above_piece
unfolding fate_by piece_answered pick
returns-then-above_piece c =
    let a = c.args in
    let above : above_piece a.piece a.answer ≡ true = sym c.above_piece.ensures ∙ c.if-above_piece.true in
    λ m short fits bytes. rw above

pub returns-then-first_refused : goal.returns-then-first_refused
unfolding fate_by piece_answered pick
returns-then-first_refused c =
    let a = c.args in
    let within : above_piece a.piece a.answer ≡ false = sym c.above_piece.ensures ∙ c.if-above_piece.false in
    let refused : first_refused a.s a.answer ≡ true = sym c.first_refused.ensures ∙ c.if-first_refused.true in
    λ m short fits bytes. rw (within, refused, c.error_of.ensures, c.buffer_as.ensures)

pub returns-then-goes_on : goal.returns-then-goes_on
unfolding fate_by turned_by piece_answered split_after pick
returns-then-goes_on c =
    let a = c.args in
    let within : above_piece a.piece a.answer ≡ false = sym c.above_piece.ensures ∙ c.if-above_piece.false in
    let begun : first_refused a.s a.answer ≡ false = sym c.first_refused.ensures ∙ c.if-first_refused.false in
    let whole : goes_on a.piece a.s a.answer a.back ≡ true = sym c.goes_on.ensures ∙ c.if-goes_on.true in
    λ m short fits bytes. rw (within, begun, whole, no_wrap a.s.done a.piece _ refl fits)

pub returns : goal.returns
unfolding piece_answered pick
returns c =
    let a = c.args in
    let within : above_piece a.piece a.answer ≡ false = sym c.above_piece.ensures ∙ c.if-above_piece.false in
    let begun : first_refused a.s a.answer ≡ false = sym c.first_refused.ensures ∙ c.if-first_refused.false in
    let last : goes_on a.piece a.s a.answer a.back ≡ false = sym c.goes_on.ensures ∙ c.if-goes_on.false in
    λ m short fits bytes. rw (within, begun, last) (c.last_piece.ensures m short (count_fits a.piece a.s a.answer within fits) bytes)
