-- How a row that is freed, and one that goes on, show in the parts of what is lent.
use Rattle.std.proofs.Common.{◌≡◌, ℕ, zero, suc, ◌-◌, ◌<◌, ◌≤◌, List, [], ◌∷◌, map, length, take, drop, set, refl, ap, ◌∙◌, arith, length-take}
use lib.Seq.{take-set-lt}
use Rattle.layout.specs.Pick.{pick}
use Rattle.std.specs.declared.option.Option.{Option}
use Rattle.std.specs.declared.option.Option.TheVariants.{None, Some}
use Rattle.domain.specs.declared.FirstCause.{FirstCause}
use Rattle.completion.specs.Buffers.{Buffer}
use Rattle.std.specs.declared.option.Option.TheVariants.{Some as Back, None as Lost}
use Rattle.model.specs.declared.Counts.{Counts}
use Rattle.model.specs.State.{Owner.host, Owner.table}
use Rattle.model.specs.Memory.{Lent, ErrorFits, poison_in, owner_in, state_in}
use Rattle.step.specs.Step.{kept_by, poison_with, with_poison}
use Rattle.marks.specs.Marks.{with_store}
use Rattle.marks.proofs.Laws.{poison_laws}
use Rattle.settle.specs.Finished.{cause_is}
use Rattle.arrival.specs.Carried.{pushed, owner_word, poisoned_by}
use Rattle.arrival.proofs.Releasing.{pushed_on}

-- ---- the free stack

drop_set_at : (l : List ℕ) (n a : ℕ) → n < length l → drop n (set l n a) ≡ a ∷ drop (suc n) l
drop_set_at [] n a h = absurd (omega (arith, h))
drop_set_at (x ∷ xs) zero a h = refl
drop_set_at (x ∷ xs) (suc n) a h = drop_set_at xs n a (omega (arith, h))

-- a row that is pushed is on top
pub pushed_free : (d live r : ℕ) (free : List ℕ) → 0 < live → live ≤ d → d ≤ length free → drop (live - 1) (take d (pushed live r free)) ≡ r ∷ drop live (take d free)
pushed_free d live r free some most long =
    let e : suc (live - 1) ≡ live = omega (arith, some) in
    let low : live - 1 < length (take d free) = simp length-take (omega (arith, some, most, long)) in
    ap (λ (x : List ℕ). drop (live - 1) (take d x)) (pushed_on live r free some)
    ∙ ap (drop (live - 1)) (take-set-lt d free (live - 1) r (omega (arith, some, most)))
    ∙ drop_set_at (take d free) (live - 1) r low
    ∙ ap (λ (k : ℕ). r ∷ drop k (take d free)) e

-- ---- the owners

map_set : {A B : Type 0} (f : A → B) (l : List A) (i : ℕ) (a : A) → map f (set l i a) ≡ set (map f l) i (f a)
map_set f [] i a = refl
map_set f (x ∷ xs) zero a = refl
map_set f (x ∷ xs) (suc i) a = ap (λ r. f x ∷ r) (map_set f xs i a)

pub owner_set : (n b word : ℕ) (owners : List ℕ) → b < n → map owner_in (take n (set owners b word)) ≡ set (map owner_in (take n owners)) b (owner_in word)
owner_set n b word owners among = ap (map owner_in) (take-set-lt n owners b word among) ∙ map_set owner_in (take n owners) b word

-- the owner's word says who has a buffer
pub kept_table : (b : Buffer) → owner_in (owner_word 1 b) ≡ kept_by table b
unfolding owner_in owner_word kept_by pick
kept_table (Back h) = refl
kept_table Lost = refl

pub kept_host : (b : Buffer) → owner_in (owner_word 0 b) ≡ kept_by host b
unfolding owner_in owner_word kept_by pick
kept_host (Back h) = refl
kept_host Lost = refl

-- ---- the poison

-- a cause, if there is one, has an error of 32 bits
unfoldable pub CauseFits : Option FirstCause → Type 0
CauseFits None = Unit {0}
CauseFits (Some cause) = ErrorFits cause.raw

pub poison_in_lem : (c : Counts) (l : Lent) (p : Option FirstCause) → 48 ≤ length l.store → CauseFits p
    → state_in c (with_store l (poisoned_by p l.store)) ≡ with_poison (state_in c l) (poison_with (poison_in l.store) (cause_is p))
unfolding poisoned_by poison_with cause_is CauseFits with_poison state_in
poison_in_lem c l None long fits = refl
poison_in_lem c l (Some cause) long fits = poison_laws.poisoned c l cause long fits
