-- `rotation::exchange` meets its contract: each of the two sides that were exchanged is joined to what lies behind it.
use Rattle.std.proofs.Common.{◌≤◌, append_assoc}
use Rattle.std.proofs.lemmas.List.{take-take, drop-drop}
use Rattle.iobuf.specs.Exchange.{exchanged}
use Rattle.iobuf.proofs.rotation.exchange.Goals as goal

pub returns : goal.returns
unfolding exchanged
returns c =
    let h : c.args.m ≤ c.args.k = c.requires.0 in
    let e = c.split_at_mut-front.ensures in
    simp (c.swap_with_slice.ensures.after, c.swap_with_slice.ensures.other_after, e.front, e.back, append_assoc, take-take c.args.m c.args.k c.args.s.now h, drop-drop)
