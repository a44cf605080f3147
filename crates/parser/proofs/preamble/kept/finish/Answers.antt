-- `preamble::kept::finish` meets its contract: each arm knows the line's front, by which the line is read (the reader's `Kept`).
use mathlib.Core.Path.{sym, ◌∙◌}
use Rattle.fields.proofs.Kept.{read_by, fronted}
use Rattle.parser.specs.declared.preamble.OpenLine.TheVariants.{Comment, Bad}
use Rattle.parser.specs.Openings.{open_line_in, open_line_read}
use Rattle.parser.proofs.preamble.kept.finish.Goals as goal

pub returns-in-Comment : goal.returns-in-Comment
unfolding open_line_read read_by
returns-in-Comment c = λ bytes k. fronted k open_line_in Comment Bad (sym c.in-Comment.is ∙ c.front_of.ensures.1 bytes k)

pub returns-in-Bad : goal.returns-in-Bad
unfolding open_line_read read_by
returns-in-Bad c = λ bytes k. fronted k open_line_in Comment Bad (sym c.in-Bad.is ∙ c.front_of.ensures.1 bytes k)

pub returns-in-Text : goal.returns-in-Text
unfolding open_line_read read_by
returns-in-Text c = λ bytes k.
    c.open_line.ensures
    ∙ fronted k open_line_in Comment Bad (sym c.in-Text.is ∙ c.front_of.ensures.1 bytes k)
