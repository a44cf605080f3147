-- `parts::put_fields` meets its contract: what is put and the numbers from the index on are the word and all the numbers.
use Rattle.std.proofs.Common.{◌≡◌, ◌++◌, ◌+◌, ◌*◌, ◌≤◌, drop}
use Rattle.printer.specs.Line.{said, SameLine}
use Rattle.printer.specs.Parts.{spaced_all}
use Rattle.printer.proofs.parts.put_fields.Given as goal

abbrev pub invariant-loop-n : goal.invariant-loop-n
invariant-loop-n l = record {
  same : SameLine l.initial.line l.line;
  room : l.line.len ≤ l.initial.line.len + 21 * l.n-index;
  text : said l.line ++ spaced_all (drop l.n-index l.numbers) ≡ said l.initial.line ++ spaced_all l.numbers;
}
