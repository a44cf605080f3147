-- `output::say_rows` meets its contract: of at most 64 rows what is listed is all.
use Rattle.std.proofs.Common.{ℕ, arith, ap, length, length-take, ◌∙◌}
use Rattle.std.proofs.lemmas.List.{length-map}
use Rattle.printer.specs.Listed.{generation_of}
use Rattle.printer.proofs.Listing.{listed}
use Rattle.printer.proofs.output.say_rows.Goals as goal

pub returns : goal.returns
returns c =
    let a = c.args in
    let all = c.generations-all in
    let long = ap length all.ensures ∙ length-map a.rows generation_of in (
      omega (arith, length-take {A = ℕ}, long),
      λ few. c.rows_text.ensures.text
          ∙ listed a.depth a.live a.rows a.free.now all.result _ _ _ few all.ensures c.min-most.ensures c.min-end.ensures c.min-top.ensures,
    )
