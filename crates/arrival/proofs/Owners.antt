-- A buffer given back in the owners' words is given back in the state. The buffer of the oldest completion is in the pool: the table has it.
use Rattle.std.proofs.Common.{◌≡◌, ℕ, zero, suc, ◌<◌, ◌≤◌, List, [], ◌∷◌, map, length, take, drop, set, refl, ap, ◌∙◌, arith, length-set, drop-set-lt}
use lib.Seq.{take-set-lt}
use Rattle.layout.specs.Pick.{pick}
use Rattle.completion.specs.Buffers.{Buffer}
use Rattle.std.specs.declared.option.Option.TheVariants.{Some as Back, None as Lost}
use Rattle.completion.specs.declared.Completion.{Completion}
use Rattle.model.specs.State.{Owner.lost, State}
use Rattle.model.specs.Memory.{owner_in}
use Rattle.step.specs.Step.{given_back}
use Rattle.step.specs.Sound.{holds, ready_hold, table_has, Sound}
use Rattle.step.proofs.Places.{within}
use Rattle.step.proofs.Counts.{back_holds_own}
use Rattle.arrival.specs.Taking.{back_in}

map_set : {A B : Type 0} (f : A → B) (l : List A) (i : ℕ) (a : A) → map f (set l i a) ≡ set (map f l) i (f a)
map_set f [] i a = refl
map_set f (x ∷ xs) zero a = refl
map_set f (x ∷ xs) (suc i) a = ap (λ r. f x ∷ r) (map_set f xs i a)

-- a buffer that came back is one of n
unfoldable pub Among : ℕ → Buffer → Type 0
Among n (Back h) = h.buffer < n
Among n Lost = Unit {0}

pub back_owners : (n : ℕ) (owners : List ℕ) (buf : Buffer) → Among n buf → map owner_in (take n (back_in buf owners)) ≡ given_back (map owner_in (take n owners)) buf
unfolding back_in given_back Among owner_in pick
back_owners n owners (Back h) l = ap (map owner_in) (take-set-lt n owners h.buffer 0 l) ∙ map_set owner_in (take n owners) h.buffer 0
back_owners n owners Lost l = refl

pub back_behind : (n : ℕ) (owners : List ℕ) (buf : Buffer) → Among n buf → drop n (back_in buf owners) ≡ drop n owners
unfolding back_in Among
back_behind n owners (Back h) l = drop-set-lt n owners h.buffer 0 l
back_behind n owners Lost l = refl

pub back_length : (owners : List ℕ) (buf : Buffer) → length (back_in buf owners) ≡ length owners
unfolding back_in
back_length owners (Back h) = length-set owners h.buffer 0
back_length owners Lost = refl

-- the table has the buffer of a completion that is ready
held_among : (s : State) → Sound s → (buf : Buffer) → ((b : ℕ) → holds b buf ≤ ready_hold b s.ready) → Among s.settings.buffers buf
unfolding Among table_has
held_among s i (Back h) held =
    let at = within s.owners h.buffer lost (λ w. 1 ≤ table_has w) (λ past. omega arith) (omega (arith, i.holders h.buffer, held h.buffer, back_holds_own h.buffer h.len)) in
    omega (arith, at, i.owners)
held_among s i Lost held = tt

pub oldest_among : (s : State) → Sound s → (c : Completion) (more : List Completion) → s.ready ≡ c ∷ more → Among s.settings.buffers c.buf
unfolding ready_hold
oldest_among s i c more e = held_among s i c.buf (λ b. omega (arith, ap (ready_hold b) e))
