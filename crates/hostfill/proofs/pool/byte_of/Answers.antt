-- `pool::byte_of` meets its contract: only the low bytes of the seed and of i count.
use Rattle.hostfill.proofs.Bytes.{low_byte}
use Rattle.hostfill.proofs.pool.byte_of.Goals as goal

pub returns : goal.returns
returns c = low_byte c.args.seed c.args.i
