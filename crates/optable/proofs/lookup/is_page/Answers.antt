-- `lookup::is_page` meets its contract, case by case.
use Rattle.std.proofs.Common.{sym, ap}
use Rattle.optable.specs.Looked.{is_page}
use Rattle.optable.proofs.lookup.is_page.Goals as goal

pub returns-in-Page : goal.returns-in-Page
unfolding is_page
returns-in-Page c = sym (ap is_page c.in-Page.is)

pub returns-in-Read : goal.returns-in-Read
unfolding is_page
returns-in-Read c = sym (ap is_page c.in-Read.is)
