-- `issue::lend` meets its contract: past the end no word is stored.
use Rattle.std.proofs.Common.{sym}
use lib.Seq.{set_out}
use Rattle.submission.proofs.issue.lend.Goals as goal

pub returns-else-at-owners : goal.returns-else-at-owners
returns-else-at-owners c =
    let a = c.args in
    sym (set_out a.owners.now a.buffer 1 c.if-at-owners.false)
