-- A row's place is below the number of rows that a claim or a release may write exactly where the row is stored: by what the call frees.
use Rattle.std.proofs.Common.{◌≡◌, ℕ, ◌<◌, ◌≤◌, List, length, set, sym, refl, arith}
use Rattle.std.proofs.Math.Seq.{set_out}
use Rattle.layout.specs.Pick.{pick}
use Rattle.model.specs.declared.Row.{Row}
use Rattle.optable.specs.declared.Frees.{Frees}
use Rattle.optable.specs.declared.Frees.TheVariants.{Nothing, Rejected, Completed, Taken}
use Rattle.optable.specs.Claimed.{frees_row, claimable_of, releasable_of, claimed_in, released_in}

module _ (at : ℕ) (row : Row) (rows : List Row) where
  pub claims : (f : Frees) → at < claimable_of f (length rows) → (at < length rows) × (set rows at row ≡ claimed_in f at row rows)
  unfolding claimable_of claimed_in frees_row pick
  claims Nothing l = (l, refl)
  claims Rejected l = absurd (omega arith)
  claims Completed l = absurd (omega arith)
  claims Taken l = (l, refl)

  pub claims_none : (f : Frees) → claimable_of f (length rows) ≤ at → rows ≡ claimed_in f at row rows
  unfolding claimable_of claimed_in frees_row pick
  claims_none Nothing l = sym (set_out rows at row l)
  claims_none Rejected l = refl
  claims_none Completed l = refl
  claims_none Taken l = sym (set_out rows at row l)

  pub releases : (f : Frees) → at < releasable_of f (length rows) → (at < length rows) × (set rows at row ≡ released_in f at row rows)
  unfolding releasable_of released_in frees_row pick
  releases Nothing l = absurd (omega arith)
  releases Rejected l = (l, refl)
  releases Completed l = (l, refl)
  releases Taken l = absurd (omega arith)

  pub releases_none : (f : Frees) → releasable_of f (length rows) ≤ at → rows ≡ released_in f at row rows
  unfolding releasable_of released_in frees_row pick
  releases_none Nothing l = refl
  releases_none Rejected l = sym (set_out rows at row l)
  releases_none Completed l = sym (set_out rows at row l)
  releases_none Taken l = refl

-- claimed and then released, the row stands at its place
pub claimed_released : (f : Frees) (at : ℕ) (row : Row) (rows : List Row) → released_in f at row (claimed_in f at row rows) ≡ set rows at row
unfolding claimed_in released_in frees_row pick
claimed_released Nothing at row rows = refl
claimed_released Rejected at row rows = refl
claimed_released Completed at row rows = refl
claimed_released Taken at row rows = refl
