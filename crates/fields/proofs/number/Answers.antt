use Rattle.std.proofs.Common.{arith, ◌≡◌, ◌+◌, ◌*◌, ◌-◌, ◌∙◌, get_or, rules}
use Rattle.fields.proofs.Numbers.{number_on}
use Rattle.fields.proofs.number.Goals as goal

pub loop-c-preserved : goal.loop-c-preserved
loop-c-preserved c =
    let text = c.args.text.now in
    let i = c.loop-c.c-index in
    let n = c.loop-c.n in
    let joined : 10 * n + (get_or text i 0 - 48) ≡ c.in_ok-n.n = omega (arith, c.in_ok-n.ensures.1, c.in_ok-checked_mul.ensures.1, c.from.ensures) in
    record { fits = search rules; number = c.loop-c.invariant.number ∙ number_on n text i (omega arith) (search rules) ∙ rw joined }
