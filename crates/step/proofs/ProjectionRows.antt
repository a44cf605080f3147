-- No row is replaced: the projection is kept where each live row's bytes are kept as far as the operation alone has them. Used of the host's writes and of
-- every call that replaces no row.
use mathlib.Core.Path.{◌≡◌, refl, sym, ap, ◌∙◌, subst}
use mathlib.Core.Bool.{true}
use mathlib.Core.Option.{some}
use mathlib.Core.List.{List, []}
use Prim.Native.Nat.{ℕ, ◌<◌}
use lib.ListN.{get_or, drop, length}
use Rattle.iobuf.specs.Turn.{stretch}
use Rattle.model.specs.declared.Opening.{Opening}
use Rattle.model.specs.declared.Row.{Row}
use Rattle.model.specs.State.{State, freed}
use Rattle.model.specs.Opening.{Plan, plan_in}
use Rattle.step.specs.Questions.{region_at}
use Rattle.step.specs.Step.{queue_tag, row_at, row_of, is_live, names, bytes_at, plan_of}
use Rattle.step.specs.Sound.{Sound}
use Rattle.step.specs.Run.{leave}
use Rattle.step.specs.Lists.{loose, plan_at, HostMay, tag_at}
use Rattle.step.specs.Alone.{Course.is_open, Alones}
use Rattle.step.specs.Demand3.{Alike, Projected}
use Rattle.step.proofs.ProjectionHost.{alike_left}

pub record Unmoved (s s' : State) (a a' : Alones) : Type 0 where
  pub rows : s'.rows ≡ s.rows
  pub alike : (r : ℕ) → is_live (row_at s r).awaits ≡ true → (bytes : List ℕ) → Alike s (row_at s r) bytes → Alike s' (row_at s r) bytes
  pub regions : (h : ℕ) → plan_of (region_at s' h) ≡ plan_of (region_at s h)
  pub settings : s'.settings ≡ s.settings
  pub ops : (t : ℕ) → a'.ops t ≡ a.ops t
  pub plans : a'.plans ≡ a.plans
  pub forced : (h : ℕ) → h < s'.settings.regions → a'.forced h ≡ (region_at s' h).forced
  pub first : a'.first ≡ s'.poison
  pub count : a'.count ≡ s'.counts.submissions

pub projected_rows : (s s' : State) (a a' : Alones) → Projected s a → Unmoved s s' a a' → Projected s' a'
unfolding tag_at
projected_rows s s' a a' p u = record {
  each = λ r live.
      let live₀ : is_live (row_at s r).awaits ≡ true = ap (λ (x : Row). is_live x.awaits) (sym (at r)) ∙ live in
      let z = p.each r live₀ in
      record {
        bytes = z.bytes;
        same = ap (λ (x : Row). a'.ops (queue_tag r x.generation)) (at r) ∙ u.ops (tag_at s r) ∙ z.same ∙ (λ j. some (is_open ((sym (plan_at_lem (row_at s r)) ∙ ap (plan_at s') (sym (at r))) j) (sym (at r) j) z.bytes));
        alike = subst (λ (x : Row). Alike s' x z.bytes) (sym (at r)) (u.alike r live₀ z.bytes z.alike);
      };
  only = λ t g r bytes e.
      let z = p.only t g r bytes (sym (u.ops t) ∙ e) in
      (ap (λ (x : Row). names x t) (at (row_of t)) ∙ z.0, at (row_of t) ∙ z.1, plan_at_lem r ∙ z.2);
  regions = ap length u.plans ∙ p.regions ∙ ap (λ (o : Opening). o.regions) (sym u.settings);
  plans = λ h. ap (λ (ps : List Plan). get_or ps h (plan_in [])) u.plans ∙ p.plans h ∙ sym (u.regions h);
  forced = u.forced;
  first = u.first;
  count = u.count;
}
  where
    at : (r : ℕ) → row_at s' r ≡ row_at s r
    at r = unfold row_at in ap (λ (l : List Row). get_or l r (freed 0)) u.rows

    plan_at_lem : (x : Row) → plan_at s' x ≡ plan_at s x
    plan_at_lem x = unfold plan_at in u.regions x.handle

-- where the settings, the pool and the regions' plans are as they were
pub alike_kept : (s s' : State) → s'.settings ≡ s.settings → s'.pool ≡ s.pool → ((h : ℕ) → plan_of (region_at s' h) ≡ plan_of (region_at s h)) → (r : Row) (bytes : List ℕ) → Alike s r bytes → Alike s' r bytes
unfolding plan_at bytes_at
alike_kept s s' settings pool plans r bytes z = record {
  count = z.count ∙ ap (λ (o : Opening). o.capacity) (sym settings);
  same = subst (λ (n : ℕ). drop n bytes ≡ drop n (bytes_at s' r.buffer)) (ap (λ (g : Plan). loose g r.awaits) (sym (plans r.handle))) (z.same ∙ ap (drop (loose (plan_at s r) r.awaits)) held);
}
  where
    held : bytes_at s r.buffer ≡ bytes_at s' r.buffer
    held = λ i. stretch (sym settings i).capacity r.buffer (sym pool i)

-- the same table, and the operations alone as they were
pub projected_same : (s : State) (a a' : Alones) → Projected s a → ((t : ℕ) → a'.ops t ≡ a.ops t) → ((h : ℕ) → a'.forced h ≡ a.forced h) → a'.first ≡ a.first → a'.count ≡ a.count → a'.plans ≡ a.plans → Projected s a'
projected_same s a a' p ops forced first count plans =
    projected_rows s s a a' p
    (record { rows = refl; alike = λ r live bytes z. z; regions = λ h. refl; settings = refl; plans = plans; ops = ops; forced = λ h lt. forced h ∙ p.forced h lt; first = first ∙ p.first; count = count ∙ p.count })

-- the host's writes
pub projected_left : (s : State) → Sound s → (a : Alones) → Projected s a → (pool : List ℕ) → HostMay s pool → Projected (leave s pool) a
unfolding leave region_at
projected_left s i a p pool m =
    projected_rows s (leave s pool) a a p
    (record { rows = refl; alike = alike_left s i pool m; regions = λ h. refl; settings = refl; plans = refl; ops = λ t. refl; forced = p.forced; first = p.first; count = p.count })
