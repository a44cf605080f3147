use Rattle.std.proofs.Common.{◌≡◌, ◌+◌, List, ℕ, add-one, ap, arith, get_or, set, sym, ◌∙◌, take_all}
use Rattle.std.proofs.Math.Seq.{paste-zero, paste-suc}
use Rattle.parser.specs.Openings.{region_words}
use Rattle.parser.proofs.Words.{seventy, word_at}
use Rattle.parser.proofs.preamble.plan.put_region.Goals as goal

pub loop-j-init : goal.loop-j-init
loop-j-init c = paste-zero c.args.plan.now c.args.at (region_words c.args.text.now)

pub loop-j-preserved : goal.loop-j-preserved
loop-j-preserved c =
    let plan = c.args.plan.now in
    let at = c.args.at in
    let words = region_words c.args.text.now in
    let j = c.loop-j.j in
    let put : c.word_in.result ≡ get_or words j 0 = c.word_in.ensures ∙ sym (word_at c.args.text.now j (omega arith)) in
    let long = seventy c.args.text.now in
    rw (add-one, put) (ap (λ (l : List ℕ). set l (at + j) (get_or words j 0)) c.loop-j.invariant ∙ paste-suc plan at words j 0 (omega arith) (omega arith))

pub returns : goal.returns
returns c =
    let long = seventy c.args.text.now in
    let all : c.loop-j.j ≡ 70 = omega arith in
    c.loop-j.invariant ∙ rw (all, take_all 70 (region_words c.args.text.now) (omega arith))
