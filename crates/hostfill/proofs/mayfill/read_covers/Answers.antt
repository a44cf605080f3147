-- `mayfill::read_covers` meets its contract: each arm knows the kind.
use Rattle.hostfill.proofs.Loose.{page_covers, read_covers}
use Rattle.hostfill.proofs.mayfill.read_covers.Goals as goal

pub returns-in-Page : goal.returns-in-Page
returns-in-Page c =
    let a = c.args in
    page_covers a.store.now a.handle a.kind a.split a.end _ _ c.in-Page.is

pub returns-in-Read : goal.returns-in-Read
returns-in-Read c =
    let a = c.args in
    read_covers a.store.now a.handle a.kind a.split a.end _ _ c.in-Read.is c.piece_of.result c.piece_of.ensures
