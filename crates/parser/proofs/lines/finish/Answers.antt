-- `lines::finish` meets its contract: each arm knows the line's front, by which the line is read (the reader's `Kept`).
use mathlib.Core.Path.{sym, ◌∙◌}
use Rattle.fields.proofs.Kept.{read_by, fronted}
use Rattle.parser.specs.declared.forms.Said.TheVariants.{Comment, Bad}
use Rattle.parser.specs.Said.{said_in, said_read}
use Rattle.parser.proofs.lines.finish.Goals as goal

pub returns-in-Comment : goal.returns-in-Comment
unfolding said_read read_by
returns-in-Comment c = λ bytes k. fronted k said_in Comment Bad (sym c.in-Comment.is ∙ c.front_of.ensures.1 bytes k)

pub returns-in-Bad : goal.returns-in-Bad
unfolding said_read read_by
returns-in-Bad c = λ bytes k. fronted k said_in Comment Bad (sym c.in-Bad.is ∙ c.front_of.ensures.1 bytes k)

pub returns-in-Text : goal.returns-in-Text
unfolding said_read read_by
returns-in-Text c = λ bytes k.
    c.said_in.ensures
    ∙ fronted k said_in Comment Bad (sym c.in-Text.is ∙ c.front_of.ensures.1 bytes k)
