-- `arrival::arrive` meets its contract: what its callees read, found and wrote.
use Rattle.std.proofs.Common.{ℕ, ◌≡◌, ◌≤◌, List, length, get_or, ap, ◌∙◌, subst}
use Rattle.model.specs.State.{freed}
use Rattle.arrival.proofs.Raw.{row_fits}
use Rattle.arrival.proofs.Arriving.{arrived, place_of_lem, at_place}
use Rattle.optable.specs.Called.{lent_of}
use Rattle.arrival.specs.Arrived.{arrived_call, BecomesIn}
use Rattle.model.specs.Memory.{settings_in}
use Rattle.memory.specs.Live.{InStore, region_of, live_of}
use Rattle.arrival.proofs.arrive.Goals as goal

pub returns-clause-arm : goal.returns-clause-arm
returns-clause-arm c =
    let a = c.args in
    let p = a.words.now in
    let r = c.carry.result in
    let seen : c.view-seen.result.store.now ≡ p.store.now = c.view-seen.ensures.0 in
    let place = place_of_lem a.qtag a.what a.counts p.free.now in
    λ rows n found same.
    at_place (arrived_call a.qtag a.what) a.counts (lent_of rows p.store.now p.free.now p.ready.now p.owners.now a.pool.now) rows r _ _ place _ _ _ _ _
    (arrived a.counts rows p.store.now p.free.now p.ready.now p.owners.now a.pool.now a.qtag a.row (found ∙ ap (λ (k : ℕ). get_or rows k (freed 0)) place) same
    c.settings-o.result (subst (λ (s : List ℕ). 48 ≤ length s → c.settings-o.result ≡ settings_in s) seen c.settings-o.ensures)
    c.region_at-g.result (subst (λ (s : List ℕ). InStore s a.row.handle → c.region_at-g.result ≡ live_of (region_of s a.row.handle)) seen c.region_at-g.ensures)
    (row_fits a.row _ c.well_formed.1.1.0)
    c.becomes-f.result r _ _ _ _ _ c.carry.ensures.carried a.what _ c.well_formed.1.0
    (subst (λ (s : List ℕ). BecomesIn a.what a.qtag c.settings-o.result c.region_at-g.result a.row s c.becomes-f.result) seen c.becomes-f.ensures))
