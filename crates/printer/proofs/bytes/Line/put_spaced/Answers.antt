-- `Line::put_spaced` meets its contract: the digits that `io::decimal` makes are the number's (`Decimal`), and stand behind the space.
use Rattle.std.proofs.Common.{[], ◌∷◌, ◌∙◌, append_assoc, arith}
use Rattle.printer.specs.Line.{said}
use Rattle.printer.specs.Spaced.{decimal, spaced}
use Rattle.printer.proofs.Decimal.{is_decimal}
use Rattle.printer.proofs.bytes.Line.put_spaced.Goals as goal

pub returns-clause-text : goal.returns-clause-text
unfolding spaced
returns-clause-text c =
    let spelled = is_decimal c.decimal-k.result c.args.n c.decimal-k.ensures.len (omega arith) in
    c.put-2.ensures.text
    ∙ rw (c.decimal-k.ensures.digits, spelled, c.put.ensures.text) (append_assoc (said c.args.self.now) (32 ∷ []) (decimal c.args.n))
