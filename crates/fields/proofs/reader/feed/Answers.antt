-- `reader::feed` meets its contract: the byte is stored while fewer than 4,096 are kept (`Kept`).
use Rattle.std.proofs.Common.{arith}
use Rattle.fields.proofs.Kept.{full, stored}
use Rattle.fields.proofs.reader.feed.Goals as goal

pub returns-then-r-ge4096 : goal.returns-then-r-ge4096
returns-then-r-ge4096 c = λ bytes k. full k c.args.b c.if-r-ge4096.true

pub returns : goal.returns
returns c = λ bytes k. stored k c.args.b c.if-r-ge4096.false (omega (arith, c.told-line))
