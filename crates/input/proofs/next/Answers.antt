-- `input::next` meets its contract: by whether bytes are left of those read last.
use Rattle.std.proofs.Common.{arith}
use Rattle.input.proofs.next.Goals as goal

pub returns : goal.returns
returns c =
    let f = c.fresh-now.ensures in
    let at = f.at in
    let got = f.got in
    record { from = c.fresh-now.result; fresh = f; left = λ h. absurd (omega (arith, at, got)); more = λ h. c.more.ensures _ }
