-- What one event of demand 3's lists does to each row: the row stays, or its operation goes on in it, or it is freed with its generation raised. So an
-- operation keeps its region and its range, and a row that awaits nothing stays as it is.
use mathlib.Core.Path.{◌≡◌, refl, sym, ap, ◌∙◌, subst}
use mathlib.Core.Logic.{◌⊎◌, inl, inr}
use mathlib.Core.Bool.{true, false}
use mathlib.Core.Option.{none}
use mathlib.Core.List.{List}
use Prim.Native.Nat.{ℕ}
use lib.ListN.{get_or}
use Rattle.layout.proofs.Tests.{not_both}
use Rattle.completion.specs.declared.Reply.{Reply}
use Rattle.model.specs.declared.Lengths.{Lengths}
use Rattle.model.specs.declared.Opening.{Opening}
use Rattle.model.specs.declared.Kind.{Kind}
use Rattle.model.specs.declared.Kind.TheVariants.{Page, Read}
use Rattle.model.specs.declared.Awaits.{Awaits}
use Rattle.model.specs.declared.Awaits.TheVariants.{Nothing, Piece, Flush}
use Rattle.model.specs.declared.Row.{Row}
use Rattle.model.specs.State.{Region, State, freed}
use Rattle.step.specs.Questions.{region_at}
use Rattle.step.specs.Rules.{Input, Fate.awaits, Fate.ends, range_start, range_end}
use Rattle.step.specs.Step.{row_at, row_of, raised, is_live, awaits_now, poison_with, going, freeing, settled, fate_of, taken}
use Rattle.step.specs.Run.{Made, done}
use Rattle.step.specs.Demand3.{is_write}
use Rattle.step.proofs.AloneTags.{freed_dead, live_in, names_live}
use Rattle.step.proofs.Named.{one_live}
use Rattle.step.proofs.Fates.{Follows, Onward, Fitting, FateFits, fate_fits}
use Rattle.step.proofs.ListsCame.{Came, Came.turned, Came.silent, Came.took, Came.goes, Came.finishes}
use Rattle.step.proofs.ProjectionSet.{by_row}

pub data Moved (x x' : Row) : Type 0 where
  stays : x' ≡ x → Moved x x'
  moves : is_live x.awaits ≡ true → (o : Opening) (g : Region) (a : Awaits) → Onward o g x.awaits a → x' ≡ awaits_now x a → Moved x x'
  frees : is_live x.awaits ≡ true → x' ≡ freed (raised x.generation) → Moved x x'

-- what is awaited next is of the same operation
pub goes_on_with : (s : State) (x : Row) (i : Input) (a : Awaits) (bytes : List ℕ) → fate_of s x i ≡ awaits a bytes → Onward s.settings (region_at s x.handle) x.awaits a
unfolding Fitting
goes_on_with s x i a bytes q = (subst (FateFits s x) q (fate_fits s x i)).0

-- a write goes on as one, and a read as one
follows_write : (g : Region) (was now : Awaits) → Follows g was now → is_write now ≡ is_write was
unfolding Follows is_write
follows_write g Nothing now f = absurd f
follows_write g (Piece (Page a b) s) Nothing f = absurd f
follows_write g (Piece (Read a b) s) Nothing f = absurd f
follows_write g (Piece (Page a b) s) (Piece k' s') f = ap (λ (k : Kind). is_write (Piece k s')) f.0
follows_write g (Piece (Read a b) s) (Piece k' s') f = ap (λ (k : Kind). is_write (Piece k s')) f.0
follows_write g (Piece (Page a b) s) (Flush t) f = refl
follows_write g (Piece (Read a b) s) (Flush t) f = absurd f
follows_write g (Flush t) now f = absurd f

module _ (s : State) (l : Lengths) (m : Made) where
  abbrev next_row : ℕ → Row
  next_row r = row_at (done s l m).0 r

  -- the rows of a table that is as it was
  same_rows : (done s l m).0.rows ≡ s.rows → (r : ℕ) → Moved (row_at s r) (next_row r)
  same_rows e r = stays (unfold row_at in ap (λ (rows : List Row). get_or rows r (freed 0)) e)

  pub row_moved : Came s l m → (r : ℕ) → Moved (row_at s r) (next_row r)
  row_moved (turned f d) r = same_rows (ap (λ (y : State × Reply). y.0.rows) d) r
  row_moved (silent b d k) r = same_rows (ap (λ (y : State). y.rows) d) r
  row_moved (took b c more e d) r = same_rows (unfold taken in ap (λ (y : State × Reply). y.0.rows) d) r
  row_moved (goes t i br named a bytes q d) r =
      let row = row_at s (row_of t) in
      let live = names_live row t named in
      subst (λ (y : State × Reply). Moved (row_at s r) (row_at y.0 r)) (sym d)
      (by_row s (settled s t row (awaits a bytes)).0 (row_of t) row.buffer (awaits_now row a) bytes (unfold settled going in record { settings = refl; regions = refl; rows = refl; pool = refl }) (live_in s (row_of t) live)
      (λ k x. Moved (row_at s k) x) (moves live _ _ a (goes_on_with s row i a bytes q) refl) (λ k n. stays refl) r)
  row_moved (finishes t i br named o b bytes q d) r =
      let row = row_at s (row_of t) in
      let live = names_live row t named in
      subst (λ (y : State × Reply). Moved (row_at s r) (row_at y.0 r)) (sym d)
      (by_row s (settled s t row (ends (record { outcome = o; buffer = b; bytes = bytes; cause = none }))).0 (row_of t) row.buffer (freed (raised row.generation)) bytes (unfold settled freeing in record { settings = refl; regions = refl; rows = refl; pool = refl }) (live_in s (row_of t) live)
      (λ k x. Moved (row_at s k) x) (frees live refl) (λ k n. stays refl) r)

  -- ---- nothing is poisoned

  pub same_poison : Came s l m → (done s l m).0.poison ≡ s.poison
  unfolding settled going freeing taken poison_with
  same_poison (turned f d) = ap (λ (y : State × Reply). y.0.poison) d
  same_poison (silent b d k) = ap (λ (y : State). y.poison) d
  same_poison (took b c more e d) = ap (λ (y : State × Reply). y.0.poison) d
  same_poison (goes t i br named a bytes q d) = ap (λ (y : State × Reply). y.0.poison) d
  same_poison (finishes t i br named o b bytes q d) = ap (λ (y : State × Reply). y.0.poison) d

-- ---- what follows of a row

-- a row that awaits nothing stays
pub idle_stays : (x x' : Row) → is_live x.awaits ≡ false → Moved x x' → x' ≡ x
idle_stays x x' dead (stays e) = e
idle_stays x x' dead (moves live o g' a w e) = absurd (not_both live dead)
idle_stays x x' dead (frees live e) = absurd (not_both live dead)

-- a row that was live at a generation is so still, or is freed at the next
abbrev pub Turned : ℕ → Row → Type 0
Turned g x = ((is_live x.awaits ≡ true) × (x.generation ≡ g)) ⊎ (x ≡ freed (raised g))

pub turned_on : (g : ℕ) (x x' : Row) → Turned g x → Moved x x' → Turned g x'
unfolding awaits_now
turned_on g x x' u (stays e) = subst (Turned g) (sym e) u
turned_on g x x' (inl z) (moves live o g' a w e) = subst (Turned g) (sym e) (inl (one_live a w.live, z.1))
turned_on g x x' (inr z) (moves live o g' a w e) = absurd (not_both live (ap (λ (y : Row). is_live y.awaits) z ∙ freed_dead (raised g)))
turned_on g x x' (inl z) (frees live e) = inr (e ∙ ap (λ (n : ℕ). freed (raised n)) z.1)
turned_on g x x' (inr z) (frees live e) = absurd (not_both live (ap (λ (y : Row). is_live y.awaits) z ∙ freed_dead (raised g)))

-- a live row has its region and its range from before
pub record OfBefore (x x' : Row) : Type 0 where
  pub live : is_live x.awaits ≡ true
  pub handle : x'.handle ≡ x.handle
  pub start : range_start x'.awaits ≡ range_start x.awaits
  pub end : range_end x'.awaits ≡ range_end x.awaits
  pub write : is_write x'.awaits ≡ is_write x.awaits

pub of_before : (x x' : Row) → is_live x'.awaits ≡ true → Moved x x' → OfBefore x x'
unfolding awaits_now
of_before x x' live (stays e) =
    record {
      live = ap (λ (y : Row). is_live y.awaits) (sym e) ∙ live;
      handle = ap (λ (y : Row). y.handle) e;
      start = ap (λ (y : Row). range_start y.awaits) e;
      end = ap (λ (y : Row). range_end y.awaits) e;
      write = ap (λ (y : Row). is_write y.awaits) e;
    }
of_before x x' live (moves was o g a w e) =
    record {
      live = was;
      handle = ap (λ (y : Row). y.handle) e;
      start = ap (λ (y : Row). range_start y.awaits) e ∙ w.start;
      end = ap (λ (y : Row). range_end y.awaits) e ∙ w.end;
      write = ap (λ (y : Row). is_write y.awaits) e ∙ follows_write g x.awaits a w.follows;
    }
of_before x x' live (frees was e) = absurd (not_both live (ap (λ (y : Row). is_live y.awaits) e ∙ freed_dead (raised x.generation)))
