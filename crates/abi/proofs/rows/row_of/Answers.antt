-- `rows::row_of` meets its contract: each word is read where the row has it.
use Prim.Native.Nat.{◌%◌}
use lib.ListN.{get_or}
use Rattle.model.specs.Memory.{flag}
use Rattle.abi.specs.RowWords.{row_in}
use Rattle.abi.proofs.rows.row_of.Goals as goal

pub returns : goal.returns
unfolding row_in flag
returns c =
    let w = c.args.w.now in
    λ i. record { generation = get_or w 0 0 % 4294967296; tag = get_or w 1 0; seq = get_or w 2 0; handle = get_or w 3 0; buffer = get_or w 4 0; durable = flag (get_or w 5 0); awaits = c.awaits_of.ensures i }
