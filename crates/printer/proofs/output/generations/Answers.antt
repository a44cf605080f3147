-- `output::generations` meets its contract: at each index the closure gave the row's generation.
use Rattle.std.proofs.Common.{◌≡◌, ◌∙◌, arith, get_or, length, rules, sym}
use Rattle.std.proofs.lemmas.List.{get_or-map, length-map, same_lists}
use Rattle.model.specs.State.{freed}
use Rattle.printer.specs.Listed.{generation_of}
use Rattle.printer.proofs.output.generations.Goals as goal

pub returns : goal.returns
returns c =
    let rows = c.args.rows in
    let gave = c.map.ensures.items in
    let long : length rows ≡ 64 = omega arith in
    let many = gave.long in
    same_lists _ _ (omega (arith, length-map rows generation_of))
    (λ k d h.
    let call = gave.at k (freed 0) d (omega (arith, many, h)) in
    let is : get_or c.map.result k d ≡ generation_of (get_or rows k (freed 0)) = search (rules, call.2) in
    is ∙ sym (get_or-map generation_of rows k (freed 0) d (omega (arith, many, h))))
