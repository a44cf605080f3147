-- `submission::decide` meets its contract: a no is handed on, and of a yes the parts are what its callees ensure.
use Rattle.std.proofs.lemmas.Result.{err_from_is_err_and}
use Rattle.submission.specs.Decided.{verdict_with}
use Rattle.submission.proofs.decide.Goals as goal

pub returns-in_err-asked : goal.returns-in_err-asked
unfolding verdict_with
returns-in_err-asked c =
    let p = err_from_is_err_and c.from_residual.result c.from_residual.ensures.1 in
    let was = c.in_err-asked.was in
    record {
      first = record { offset = record { 0 = 0 }; count = 0 };
      found = λ yes_too. absurd (cc (was, yes_too));
      verdict = rw (p.1, p.2, was);
    }

pub returns : goal.returns
unfolding verdict_with
returns c =
    let was = c.in_ok-asked.was in
    record { first = c.first_piece.result; found = λ _. c.first_piece.ensures; verdict = rw (was, c.top.ensures) }
