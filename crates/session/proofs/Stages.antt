-- A line, by the stage: the definition computes.
use mathlib.Core.Path.{◌≡◌, refl, sym, subst}
use mathlib.Core.List.{List, []}
use Prim.Native.Nat.{ℕ}
use Rattle.model.specs.declared.Counts.{Counts}
use Rattle.model.specs.declared.Opening.{Opening}
use Rattle.model.specs.Memory.{Lent}
use Rattle.parser.specs.Said.{said_read}
use Rattle.parser.specs.Openings.{open_line_read}
use Rattle.session.specs.declared.Stage.{Stage}
use Rattle.session.specs.declared.Stage.TheVariants.{Before, Planned, Table, Refused, Over}
use Rattle.session.specs.Unopened.{Stood, stood_at, Tells, before_line, planned_line}
use Rattle.session.specs.Opened.{refused_line, TableLine}
use Rattle.session.specs.Lines.{LineAt, Line}

module _ (stage : Stage) (bytes : List ℕ) (n : ℕ) (plan : List ℕ) (flushes : ℕ) (counts : Counts) (lent : Lent) where
  abbrev Goes : Stood → List ℕ → Type 0
  Goes s' text = Line bytes n (stood_at stage plan flushes counts lent) s' text

  abbrev from : Stage → Stood
  from x = stood_at x plan flushes counts lent

  pub at_before : stage ≡ Before → (s' : Stood) (text : List ℕ) → Tells (before_line (open_line_read bytes) n (from Before)) s' text → Goes s' text
  unfolding LineAt
  at_before e s' text t = subst (λ (x : Stage). Line bytes n (from x) s' text) (sym e) t

  pub at_planned : (o : Opening) → stage ≡ Planned o → (s' : Stood) (text : List ℕ) → Tells (planned_line (open_line_read bytes) o bytes n (from (Planned o))) s' text → Goes s' text
  unfolding LineAt
  at_planned o e s' text t = subst (λ (x : Stage). Line bytes n (from x) s' text) (sym e) t

  pub at_table : (k : ℕ) → stage ≡ Table k → (s' : Stood) (text : List ℕ) → TableLine k (said_read bytes) n (from (Table k)) s' text → Goes s' text
  unfolding LineAt
  at_table k e s' text t = subst (λ (x : Stage). Line bytes n (from x) s' text) (sym e) t

  pub at_refused : stage ≡ Refused → (text : List ℕ) → text ≡ refused_line (said_read bytes) n → Goes (from Refused) text
  unfolding LineAt
  at_refused e text p = subst (λ (x : Stage). Line bytes n (from x) (from Refused) text) (sym e) (refl, p)

  pub at_over : stage ≡ Over → Goes (from Over) []
  unfolding LineAt
  at_over e = subst (λ (x : Stage). Line bytes n (from x) (from Over) []) (sym e) (refl, refl)
