-- `is_block` meets its contract: each of the eight numbers is a block, and every block is one of them (Laws).
use native.Mathlib.Omega.{arith}
use Rattle.std.proofs.Common.{sym}
use Rattle.layout.specs.Block.{is_block}
use Rattle.layout.proofs.Tests.{refused}
use Rattle.layout.proofs.Laws.{all_blocks, no_other}
use Rattle.layout.proofs.is_block.Goals as goal

pub returns-in-512 : goal.returns-in-512
returns-in-512 c = sym (all_blocks c.args.n c.in-512.is)

pub returns-in_default : goal.returns-in_default
returns-in_default c = sym (refused (is_block c.args.n) (λ e. let eight = no_other c.args.n e in omega (arith, eight)))
