-- `table::answer` meets its contract: each arm knows what the line says (Lines).
use mathlib.Core.Path.{sym, ap, ◌∙◌}
use Prim.Native.Nat.{ℕ}
use mathlib.Core.List.{List}
use Rattle.memory.specs.Words.{lent_seen}
use Rattle.model.specs.Memory.{Lent}
use Rattle.session.specs.Lent.{held_in}
use Rattle.session.specs.Table.{with_pool}
use Rattle.session.proofs.Lines.{look_said, len_said, fill_said, sum_said, rows_said, asks_said}
use Rattle.session.proofs.table.answer.Goals as goal

pub returns-in-Look-clause-answers : goal.returns-in-Look-clause-answers
returns-in-Look-clause-answers c =
    let a = c.args in
    let s = c.view-seen.ensures in
    look_said a.number (held_in a.host.now a.words.now a.pool.now) a.said _ _ c.in-Look.is (rw (sym s.0, sym s.1, sym s.2, sym s.3) c.look.ensures.1)

pub returns-in-Len-clause-answers : goal.returns-in-Len-clause-answers
returns-in-Len-clause-answers c =
    let a = c.args in
    let s = c.view-seen.ensures in
    len_said a.number (held_in a.host.now a.words.now a.pool.now) a.said _ c.in-Len.is (rw (sym s.0, sym s.1, sym s.2, sym s.3) c.len_line.ensures.1)

pub returns-in-Fill-clause-answers : goal.returns-in-Fill-clause-answers
unfolding with_pool
returns-in-Fill-clause-answers c =
    let a = c.args in
    let s = c.view-seen.ensures in
    fill_said a.number (held_in a.host.now a.words.now a.pool.now) a.said _ _ _ _ _ _ c.in-Fill.is (rw (sym s.0, sym s.3) c.fill_line.ensures.1)

pub returns-in-Sum-clause-answers : goal.returns-in-Sum-clause-answers
returns-in-Sum-clause-answers c =
    let a = c.args in
    let s = c.view-seen.ensures in
    sum_said a.number (held_in a.host.now a.words.now a.pool.now) a.said _ _ _ _ c.in-Sum.is (rw (sym s.0) c.sum_line.ensures.1)

pub returns-in-Rows-clause-answers : goal.returns-in-Rows-clause-answers
returns-in-Rows-clause-answers c =
    let a = c.args in
    let s = c.view-seen.ensures in
    rows_said a.number (held_in a.host.now a.words.now a.pool.now) a.said _ c.in-Rows.is (rw (sym s.0, sym s.1) c.rows_line.ensures.1)

pub returns-in_default-clause-answers : goal.returns-in_default-clause-answers
returns-in_default-clause-answers c =
    let a = c.args in
    let s = c.view-seen.ensures in
    asks_said a.number (held_in a.host.now a.words.now a.pool.now) a.said (c.in_default.not-Look, c.in_default.not-Len, c.in_default.not-Fill, c.in_default.not-Sum, c.in_default.not-Rows) _ _
    (rw (sym s.0) c.named-names.ensures) c.asked-asks.ensures _ _ c.ask.ensures.asked
