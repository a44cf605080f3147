-- `lines::said_in` meets its contract: a line that starts with `#` is a comment; any other is read by its number of fields, and there is no form of another number.
use mathlib.Core.Path.{sym, ◌∙◌}
use native.Mathlib.Omega.{arith}
use Rattle.parser.proofs.Table.{comment_line, no_comment, no_number}
use Rattle.parser.proofs.lines.said_in.Goals as goal

pub returns-then-first_byte-eq35 : goal.returns-then-first_byte-eq35
returns-then-first_byte-eq35 c = comment_line c.args.text.now (sym c.first_byte.ensures ∙ c.if-first_byte-eq35.true)

pub returns-in-0 : goal.returns-in-0
returns-in-0 c = c.of_none.ensures ∙ no_comment c.args.text.now (λ e. c.if-first_byte-eq35.false (c.first_byte.ensures ∙ e))

pub returns-in-2 : goal.returns-in-2
returns-in-2 c = c.of_two.ensures ∙ no_comment c.args.text.now (λ e. c.if-first_byte-eq35.false (c.first_byte.ensures ∙ e))

pub returns-in-3 : goal.returns-in-3
returns-in-3 c = c.of_three.ensures ∙ no_comment c.args.text.now (λ e. c.if-first_byte-eq35.false (c.first_byte.ensures ∙ e))

pub returns-in-4 : goal.returns-in-4
returns-in-4 c = c.of_four.ensures ∙ no_comment c.args.text.now (λ e. c.if-first_byte-eq35.false (c.first_byte.ensures ∙ e))

pub returns-in-5 : goal.returns-in-5
returns-in-5 c = c.of_five.ensures ∙ no_comment c.args.text.now (λ e. c.if-first_byte-eq35.false (c.first_byte.ensures ∙ e))

pub returns-in-6 : goal.returns-in-6
returns-in-6 c = c.of_six.ensures ∙ no_comment c.args.text.now (λ e. c.if-first_byte-eq35.false (c.first_byte.ensures ∙ e))

pub returns-in-9 : goal.returns-in-9
returns-in-9 c = c.of_nine.ensures ∙ no_comment c.args.text.now (λ e. c.if-first_byte-eq35.false (c.first_byte.ensures ∙ e))

pub returns-in_default : goal.returns-in_default
returns-in_default c =
    let text = c.args.text.now in
    let counted = c.count_spaces.ensures in
    no_number text (λ e. omega (arith, counted, e)) (λ e. omega (arith, counted, e)) (λ e. omega (arith, counted, e)) (λ e. omega (arith, counted, e)) (λ e. omega (arith, counted, e)) (λ e. omega (arith, counted, e)) (λ e. omega (arith, counted, e))
    ∙ no_comment text (λ e. c.if-first_byte-eq35.false (c.first_byte.ensures ∙ e))
