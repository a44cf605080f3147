use Rattle.std.proofs.Common.{◌≡◌, ◌+◌, ◌∙◌, List, ℕ, add-one, ap, arith, get_or, set, sym, take_all}
use Rattle.std.proofs.Math.Seq.{paste-zero, paste-suc}
use Rattle.hostfill.specs.Writes.{fill_bytes, filled}
use Rattle.hostfill.proofs.Bytes.{as_many, byte_first}
use Rattle.hostfill.proofs.pool.fill.Goals as goal

pub loop-i-init : goal.loop-i-init
loop-i-init c = let a = c.args in paste-zero a.pool.now a.at (fill_bytes a.seed 0 a.n)

pub loop-i-preserved : goal.loop-i-preserved
loop-i-preserved c =
    let a = c.args in
    let words = fill_bytes a.seed 0 a.n in
    let i = c.loop-i.i in
    let put : c.byte_of.result ≡ get_or words i 0 = c.byte_of.ensures ∙ sym (byte_first a.seed a.n i (omega arith)) in
    let long = as_many a.seed 0 a.n in
    rw (add-one, put) (ap (λ (l : List ℕ). set l (a.at + i) (get_or words i 0)) c.loop-i.invariant ∙ paste-suc a.pool.now a.at words i 0 (omega (arith, long)) (omega arith))

pub returns : goal.returns
unfolding filled
returns c =
    let a = c.args in
    let long = as_many a.seed 0 a.n in
    let all : c.loop-i.i ≡ a.n = omega arith in
    c.loop-i.invariant ∙ rw (all, take_all a.n (fill_bytes a.seed 0 a.n) (omega (arith, long)))
