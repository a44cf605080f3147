-- `hostlines::fill_line` meets its contract: by whether the host may write.
use mathlib.Core.Path.{refl, sym, ap, ◌∙◌}
use native.Mathlib.Omega.{arith}
use mathlib.Core.Bool.{true, false}
use Prim.Native.Nat.{ℕ, ◌+◌, ◌*◌}
use Rattle.layout.specs.Pick.{pick}
use Rattle.hostfill.specs.Writes.{filled}
use Rattle.session.proofs.Places.{ends, capacity_is}
use Rattle.session.proofs.hostlines.fill_line.Goals as goal

pub returns-then-not-may_fill : goal.returns-then-not-may_fill
unfolding pick
returns-then-not-may_fill c =
    let no = c.if-not-may_fill.true in
    (c.say_bad.ensures.0, record { may = false; may_is = λ n free ready o. sym no ∙ c.may_fill.ensures.as_may n free ready o; pool_is = refl; prints = c.say_bad.ensures.1 })

pub overflow_mul-place : goal.overflow_mul-place
overflow_mul-place c =
    let a = c.args in
    let yes = c.if-not-may_fill.false in
    let fits = ends _ _ a.pool.now a.b a.at a.n (c.may_fill.ensures.inside yes) in
    let same = capacity_is a.store.now c.word-capacity.result c.word-capacity.ensures in
    let product = ap (λ (k : ℕ). a.b * k) same in
    let room = c.well_formed.1.1.1.1.1.1.1.1.0.0 in
    omega (arith, fits, product, room)

pub overflow_add-place : goal.overflow_add-place
overflow_add-place c =
    let a = c.args in
    let yes = c.if-not-may_fill.false in
    let fits = ends _ _ a.pool.now a.b a.at a.n (c.may_fill.ensures.inside yes) in
    let same = capacity_is a.store.now c.word-capacity.result c.word-capacity.ensures in
    let product = ap (λ (k : ℕ). a.b * k) same in
    let room = c.well_formed.1.1.1.1.1.1.1.1.0.0 in
    omega (arith, fits, product, room)

pub fill-requires : goal.fill-requires
fill-requires c =
    let a = c.args in
    let yes = c.if-not-may_fill.false in
    let fits = ends _ _ a.pool.now a.b a.at a.n (c.may_fill.ensures.inside yes) in
    let same = capacity_is a.store.now c.word-capacity.result c.word-capacity.ensures in
    let product = ap (λ (k : ℕ). a.b * k) same in
    let room = c.well_formed.1.1.1.1.1.1.1.1.0.0 in
    omega (arith, fits, product, room)

pub returns : goal.returns
unfolding pick
returns c =
    let a = c.args in
    let yes = c.if-not-may_fill.false in
    let fits = ends _ _ a.pool.now a.b a.at a.n (c.may_fill.ensures.inside yes) in
    let same = capacity_is a.store.now c.word-capacity.result c.word-capacity.ensures in
    let product = ap (λ (k : ℕ). a.b * k) same in (
      c.say_reply.ensures.0,
      record {
        may = true;
        may_is = λ n free ready o. sym yes ∙ c.may_fill.ensures.as_may n free ready o;
        pool_is = c.fill.ensures ∙ ap (λ (k : ℕ). filled (k + a.at) a.n a.seed a.pool.now) product;
        prints = c.say_reply.ensures.1;
      },
    )
