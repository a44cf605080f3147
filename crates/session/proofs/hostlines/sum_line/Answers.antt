-- `hostlines::sum_line` meets its contract: by whether the stretch lies in the pool.
use mathlib.Core.Path.{◌≡◌, sym, ap, ◌∙◌}
use native.Mathlib.Omega.{arith}
use mathlib.Core.Bool.{Bool}
use Prim.Native.Nat.{◌+◌, ◌-◌, ◌*◌}
use lib.ListN.{take, drop}
use Rattle.layout.specs.Pick.{pick}
use Rattle.model.specs.Memory.{settings_in}
use Rattle.hostfill.specs.Writes.{sum_of}
use Rattle.printer.specs.Rows.{sum_text}
use Rattle.printer.specs.Texts.{bad_text}
use Rattle.session.specs.Host.{summed}
use Rattle.session.proofs.Places.{ends, settings_are, capacity_is}
use Rattle.session.proofs.hostlines.sum_line.Goals as goal

pub returns-then-not-in_pool : goal.returns-then-not-in_pool
unfolding summed pick
returns-then-not-in_pool c =
    let a = c.args in
    let is = settings_are a.store.now a.pool.now a.b a.at a.n _ _ _ c.word-buffers.ensures c.word-capacity.ensures c.in_pool.ensures in
    let no = c.if-not-in_pool.true in
    (c.say_bad.ensures.0, c.say_bad.ensures.1 ∙ sym (ap (λ (t : Bool). pick t (sum_text (sum_of (take a.n (drop (a.b * (settings_in a.store.now).capacity + a.at) a.pool.now)))) (bad_text a.number)) (sym is ∙ no)))

pub overflow_mul-from : goal.overflow_mul-from
overflow_mul-from c = omega (arith, ends _ _ _ _ _ _ (sym c.in_pool.ensures ∙ c.if-not-in_pool.false))

pub overflow_add-from : goal.overflow_add-from
overflow_add-from c = omega (arith, ends _ _ _ _ _ _ (sym c.in_pool.ensures ∙ c.if-not-in_pool.false))

pub overflow_add-to : goal.overflow_add-to
overflow_add-to c = omega (arith, ends _ _ _ _ _ _ (sym c.in_pool.ensures ∙ c.if-not-in_pool.false))

pub slice_bounds-sum-end : goal.slice_bounds-sum-end
slice_bounds-sum-end c = omega (arith, ends _ _ _ _ _ _ (sym c.in_pool.ensures ∙ c.if-not-in_pool.false))

pub returns : goal.returns
unfolding summed pick
returns c =
    let a = c.args in
    let is = settings_are a.store.now a.pool.now a.b a.at a.n _ _ _ c.word-buffers.ensures c.word-capacity.ensures c.in_pool.ensures in
    let yes = c.if-not-in_pool.false in
    let fits = ends _ _ a.pool.now a.b a.at a.n (sym c.in_pool.ensures ∙ yes) in
    let same = capacity_is a.store.now c.word-capacity.result c.word-capacity.ensures in
    let n-is : a.b * c.word-capacity.result + a.at + a.n - (a.b * c.word-capacity.result + a.at) ≡ a.n = omega arith in (
      c.say_sum.ensures.0,
      c.say_sum.ensures.1
          ∙ ap sum_text (c.sum.ensures ∙ (λ j. sum_of (take (n-is j) (drop (a.b * same j + a.at) a.pool.now))))
          ∙ sym (ap (λ (t : Bool). pick t (sum_text (sum_of (take a.n (drop (a.b * (settings_in a.store.now).capacity + a.at) a.pool.now)))) (bad_text a.number)) (sym is ∙ yes)),
    )
