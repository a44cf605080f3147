use mathlib.Core.Path.{subst, ◌≡◌, refl, sym, ◌∙◌}
use mathlib.Core.Logic.{inl, inr}
use mathlib.Core.List.{◌++◌}
use Prim.Native.Nat.{ℕ, ◌+◌, ◌-◌, ◌≤◌}
use native.Mathlib.Omega.{arith}
use lib.ListN.{length, take, drop}
use borrow.Rule.Slice.PartMut.{same_len_mid}
use Rattle.iobuf.specs.Exchange.{Next}
use Rattle.iobuf.proofs.ShiftParts.{rot}
use Rattle.iobuf.proofs.RotationParts.{step}
use Rattle.iobuf.proofs.rotation.rotate.Goals as goal
use Rattle.iobuf.proofs.rotation.rotate.Goals.{In-loop-m, Joined-m-k, then-m-k, else-m-k}

-- after the exchange, where the ways of the test on k meet: `step` at what is known there
joined : (c : Joined-m-k) →
    let s = c.loop-m.s in
    let at = c.loop-m.at in
    let next = at + c.loop-m.m in
    let after = take at s ++ (c.exchange.new.s ++ drop (length s - at) (drop at s)) in
    (next + c.if-m-k.k ≤ length s) × (take next after ++ rot c.if-m-k.k (drop next after) ≡ rot c.args.by c.args.s.now)
joined c =
    step c.loop-m.s c.exchange.new.s (rot c.args.by c.args.s.now) c.loop-m.at c.loop-m.k c.if-m-k.k c.loop-m.m
    c.loop-m.invariant.2 c.loop-m.invariant.3 (omega (arith, c.loop-m-test.true)) c.exchange.ensures c.loop-m.invariant.4
    (elim c.if-m-k.branch [ then-m-k w ↦ inl (w.if-m-k.true, w.k-is) | else-m-k w ↦ inr (w.if-m-k.false, w.k-is) ])

pub loop-m-preserved : goal.loop-m-preserved
loop-m-preserved c =
    let s = c.loop-m.s in
    let at = c.loop-m.at in
    let next = at + c.loop-m.m in
    let k = c.if-m-k.k in
    let long = same_len_mid at (length s - at) s c.exchange.new.s c.exchange.auto.s in
    let done = joined (goal.at.loop-m-preserved c).Joined-m-k in (
      refl,
      long ∙ c.loop-m.invariant.1,
      subst (λ (n : ℕ). next + k ≤ n) (sym long) done.0,
      subst (λ (n : ℕ). Next (n - next) k c.next-m-in-loop-m.result) (sym (long ∙ c.loop-m.invariant.1)) c.next-m-in-loop-m.ensures,
      done.1,
    )
