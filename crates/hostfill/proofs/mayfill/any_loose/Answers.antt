use Rattle.std.proofs.Common.{◌≡◌, ◌∙◌, ◌≤◌, ◌<◌, ℕ, add-one, ap, arith, get_or, get_or-take, length, length-take, refl, sym, take, take_all}
use Rattle.model.specs.State.{freed}
use Rattle.model.specs.Memory.{settings_in, state_in}
use Rattle.optable.specs.Called.{lent_of}
use Rattle.hostfill.specs.MayFill.{loose_row, any_loose}
use Rattle.hostfill.proofs.Rows.{one_more_lem, hit}
use Rattle.hostfill.proofs.mayfill.any_loose.Goals as goal

pub loop-row-init : goal.loop-row-init
unfolding any_loose
loop-row-init c = λ n free ready owners pool o. refl

pub returns-then-loose_row : goal.returns-then-loose_row
unfolding state_in settings_in freed
returns-then-loose_row c =
    let a = c.args in
    let i = c.loop-row.row-index in
    let depth = (settings_in a.store.now).depth in
    let rows = a.rows in
    let depth_is = c.word-depth.ensures in
    let most = c.min.ensures in
    let cut = length-take c.min.result rows in
    let long : length rows ≡ 64 = omega arith in
    let at : i < c.min.result = omega arith in
    let below : i < depth = omega (arith, depth_is, most) in
    let inside : i < length (take depth rows) = simp (length-take) (omega (arith, long, below, depth_is, most)) in
    let here : get_or (take depth rows) i (freed 0) ≡ get_or (take c.min.result rows) i (freed 0) = get_or-take depth rows i (freed 0) below ∙ sym (get_or-take c.min.result rows i (freed 0) at) in
    λ n free ready owners pool o.
    let s = state_in n (lent_of rows a.store.now free ready owners pool) in
    sym (hit s a.b a.end (freed 0) (take depth rows) i inside
    (ap (loose_row s a.b a.end) here ∙ sym (c.loose_row.ensures n rows free ready owners pool o i below (get_or-take c.min.result rows i (freed 0) at)) ∙ c.if-loose_row.true))

pub loop-row-preserved : goal.loop-row-preserved
unfolding state_in settings_in freed
loop-row-preserved c =
    let a = c.args in
    let i = c.loop-row.row-index in
    let depth = c.word-depth.result in
    let rows = a.rows in
    let depth_is = c.word-depth.ensures in
    let most = c.min.ensures in
    let cut = length-take c.min.result rows in
    let at : i < c.min.result = omega arith in
    let below : i < depth = omega (arith, most) in
    let here : get_or (take depth rows) i (freed 0) ≡ get_or (take c.min.result rows) i (freed 0) = get_or-take depth rows i (freed 0) below ∙ sym (get_or-take c.min.result rows i (freed 0) at) in
    λ n free ready owners pool o.
    let s = state_in n (lent_of rows a.store.now free ready owners pool) in
    rw add-one (one_more_lem s a.b a.end (freed 0) (take depth rows) i (c.loop-row.invariant n free ready owners pool o)
    (ap (loose_row s a.b a.end) here ∙ sym (c.loose_row.ensures n rows free ready owners pool o i (omega (arith, depth_is, below)) (get_or-take c.min.result rows i (freed 0) at)) ∙ c.if-loose_row.false))

pub returns : goal.returns
unfolding state_in settings_in
returns c =
    let a = c.args in
    let i = c.loop-row.row-index in
    let depth = c.word-depth.result in
    let rows = a.rows in
    let most = c.min.ensures in
    let cut = length-take c.min.result rows in
    let long : length rows ≡ 64 = omega arith in
    let all : length (take depth rows) ≤ i = simp (length-take) (omega (arith, long, most)) in
    λ n free ready owners pool o.
    let s = state_in n (lent_of rows a.store.now free ready owners pool) in
    sym (ap (λ (d : ℕ). any_loose s a.b a.end (take d rows)) (sym c.word-depth.ensures) ∙ ap (any_loose s a.b a.end) (sym (take_all i (take depth rows) all)) ∙ c.loop-row.invariant n free ready owners pool o)
