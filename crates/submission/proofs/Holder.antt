-- Who holds a buffer, read off the owners' words: within the pool it is the word's owner, past it nobody.
use Rattle.std.proofs.Common.{◌≡◌, ℕ, zero, suc, ◌<◌, ◌≤◌, min, Bool, true, false, eqb, List, [], ◌∷◌, map, length, get_or, take, sym, refl, ap, ◌∙◌, le_of_suc-le-suc, not-suc-le-zero, arith, length-take, get_or-take}
use lib.ListN.{length-map, get_or-map, get_or-eq_default}
use Rattle.layout.specs.Pick.{pick}
use Rattle.model.specs.State.{Owner.host, Owner.table, Owner.lost}
use Rattle.model.specs.Memory.{owner_in}
use Rattle.step.specs.Questions.{is_host}

-- an element that is there does not depend on what stands for a missing one
get_d_any : (l : List ℕ) (i d e : ℕ) → i < length l → get_or l i d ≡ get_or l i e
get_d_any [] i d e h = absurd (not-suc-le-zero h)
get_d_any (x ∷ xs) zero d e h = refl
get_d_any (x ∷ xs) (suc i) d e h = get_d_any xs i d e (le_of_suc-le-suc h)

host_word : (zeroed one : Bool) → is_host (pick zeroed host (pick one table lost)) ≡ zeroed
unfolding is_host pick
host_word true one = refl
host_word false true = refl
host_word false false = refl

pub held_within : (owners : List ℕ) (n b : ℕ) → b < n → b < length owners → eqb (get_or owners b 0) 0 ≡ is_host (get_or (map owner_in (take n owners)) b lost)
unfolding owner_in pick
held_within owners n b among there =
    sym (ap is_host (get_or-map owner_in (take n owners) b 2 ∙ ap owner_in (get_or-take n owners b 2 among ∙ get_d_any owners b 2 0 there)) ∙ host_word (eqb (get_or owners b 0) 0) (eqb (get_or owners b 0) 1))

pub held_past : (owners : List ℕ) (n b : ℕ) → min n (length owners) ≤ b → false ≡ is_host (get_or (map owner_in (take n owners)) b lost)
unfolding is_host
held_past owners n b past =
    sym (ap is_host (get_or-eq_default (map owner_in (take n owners)) lost {n = b} (let long = length-map (take n owners) owner_in in let cut = length-take n owners in omega (arith, long, cut, past))))
