-- How each kind of line is answered: by what the line says, the definition computes.
use mathlib.Core.Path.{◌≡◌, refl, sym, ap, ◌∙◌, subst}
use mathlib.Core.List.{List}
use Prim.Native.Nat.{ℕ, ◌-◌}
use lib.ListN.{length, take}
use Rattle.model.specs.declared.Counts.{Counts}
use Rattle.model.specs.declared.Row.{Row}
use Rattle.model.specs.declared.Lookup.{Lookup}
use Rattle.model.specs.declared.Lookup.TheVariants.{WritesLive}
use Rattle.optable.specs.Called.{lent_of}
use Rattle.parser.specs.declared.forms.Said.{Said}
use Rattle.parser.specs.declared.forms.Said.TheVariants.{Comment, Call as callSaid, Own, Count, Look, Len, Fill, Sum, Rows, Bad}
use Rattle.parser.specs.declared.requests.Asks.{Asks}
use Rattle.parser.specs.declared.requests.Named.{Named}
use Rattle.parser.specs.Asks.{asks_of}
use Rattle.session.specs.Host.{FillsIn, summed, ListsIn}
use Rattle.session.specs.Asking.{Held, named_in, Asked}
use Rattle.session.specs.Table.{LooksAs, shorter, with_pool, Answers}

-- `len`: the free stack without its last word
pub looks_shorter : (c : Counts) (rows : List Row) (store free ready owners pool : List ℕ) (k : ℕ) (text : List ℕ) → k ≡ length free - 1
    → LooksAs WritesLive c (lent_of rows store (take k free) ready owners pool) text → LooksAs WritesLive c (shorter (lent_of rows store free ready owners pool)) text
unfolding shorter
looks_shorter c rows store free ready owners pool k text e l = subst (λ (n : ℕ). LooksAs WritesLive c (lent_of rows store (take n free) ready owners pool) text) e l

module _ (number : ℕ) (h : Held) where
  -- what a line says
  module _ (said : Said) (text : List ℕ) where
    pub look_said : (x : Lookup) → said ≡ Look x → LooksAs x h.counts h.lent text → Answers said number h h text
    unfolding Answers
    look_said x e l = subst (λ (y : Said). Answers y number h h text) (sym e) (refl, l)

    pub len_said : said ≡ Len → LooksAs WritesLive h.counts (shorter h.lent) text → Answers said number h h text
    unfolding Answers
    len_said e l = subst (λ (y : Said). Answers y number h h text) (sym e) (refl, l)

    pub fill_said : (b at len seed : ℕ) (pool' : List ℕ) → said ≡ Fill b at len seed → FillsIn b at len seed number h.lent.rows h.lent.store h.lent.owners h.lent.pool pool' text
        → Answers said number h (with_pool pool' h) text
    unfolding Answers with_pool
    fill_said b at len seed pool' e f = subst (λ (y : Said). Answers y number h (with_pool pool' h) text) (sym e) (refl, f)

    pub sum_said : (b at len : ℕ) → said ≡ Sum b at len → text ≡ summed b at len number h.lent.store h.lent.pool → Answers said number h h text
    unfolding Answers
    sum_said b at len e p = subst (λ (y : Said). Answers y number h h text) (sym e) (record { held = refl; prints = p })

    pub rows_said : said ≡ Rows → ListsIn h.counts h.lent.rows h.lent.store h.lent.free text → Answers said number h h text
    unfolding Answers
    rows_said e l = subst (λ (y : Said). Answers y number h h text) (sym e) (refl, l)

  -- the other lines ask for a call, for nothing, or are of another form
  abbrev Asking : Said → Type 0
  Asking said = ((x : Lookup) → said ≡ Look x → ⊥) × (said ≡ Len → ⊥) × ((b p l x : ℕ) → said ≡ Fill b p l x → ⊥) × ((b p l : ℕ) → said ≡ Sum b p l → ⊥) × (said ≡ Rows → ⊥)

  by_said : (said : Said) → Asking said → (h' : Held) (text : List ℕ) → Asked (asks_of said (named_in h.lent.store) h.flushes) number h h' text → Answers said number h h' text
  unfolding Answers Asked asks_of
  by_said Comment w h' text a = a
  by_said (callSaid c) w h' text a = a
  by_said (Own x b p l d t) w h' text a = a
  by_said (Count t n) w h' text a = a
  by_said (Look x) w h' text a = absurd (w.0 x refl)
  by_said Len w h' text a = absurd (w.1 refl)
  by_said (Fill b p l x) w h' text a = absurd (w.2 b p l x refl)
  by_said (Sum b p l) w h' text a = absurd (w.3 b p l refl)
  by_said Rows w h' text a = absurd (w.4 refl)
  by_said Bad w h' text a = a

  pub asks_said : (said : Said) → Asking said → (names : Named) (asks : Asks) → names ≡ named_in h.lent.store → asks ≡ asks_of said names h.flushes → (h' : Held) (text : List ℕ)
      → Asked asks number h h' text → Answers said number h h' text
  asks_said said w names asks p q h' text a =
      by_said said w h' text (subst (λ (x : Asks). Asked x number h h' text) (q ∙ ap (λ (x : Named). asks_of said x h.flushes) p) a)
