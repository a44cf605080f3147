-- The state in what is lent once an opening is admitted is the one that document 01 says: part by part, each read back from where it was written.
use mathlib.Core.Path.{◌≡◌, refl, ap, ap₂, ◌∙◌}
use mathlib.Core.Bool.{Bool, true, false}
use mathlib.Core.List.{List, [], ◌∷◌, ◌++◌, map}
use Prim.Native.Nat.{ℕ, zero, suc, ◌+◌, ◌*◌, ◌≤◌, ◌<◌}
use native.Mathlib.Omega.{arith}
use lib.ListN.{length, get_or, take, drop, replicate, length-replicate, length-drop, get_or-append, get_or-replicate}
use lib.Seq.{take_at, drop_at, take-append-le, drop-append-le, take-take, get_or-take, get_or-drop, length-take-le, take-add}
use lib.Dec.{lit<}
use Rattle.layout.specs.Pick.{pick}
use Rattle.std.specs.declared.option.Option.TheVariants.{None}
use Rattle.model.specs.declared.Opening.{Opening}
use Rattle.model.specs.State.{Region, Owner, Owner.host, freed, up_from}
use Rattle.model.specs.Opening.{at_first, opened, plan_in, plans_in, opens}
use Rattle.model.specs.Memory.{Lent, lengths_of, flag, settings_in, lengths_in, poison_in, gate_in, region_in, regions_in, owner_in, ready_in, state_in, word01, store_head, over, rows_opened, store_opened, free_opened, owners_opened, opened_lent}
use Rattle.model.specs.State.{fresh}
use Rattle.model.proofs.Rules.{numbers_hold, plan_listed}

flag_word : (b : Bool) → flag (word01 b) ≡ b
unfolding flag
flag_word true = refl
flag_word false = refl

-- what was put at the front is read back
front : {A : Type 0} (xs ys : List A) (n : ℕ) → length xs ≡ n → take n (over xs ys) ≡ xs
unfolding over
front xs ys n e = take_at xs (drop (length xs) ys) n e

pub length_up : (k n : ℕ) → length (up_from k n) ≡ n
unfolding up_from
length_up k zero = refl
length_up k (suc n) = ap suc (length_up (suc k) n)

map_same : (n : ℕ) → map owner_in (replicate n 0) ≡ replicate n host
unfolding owner_in pick
map_same zero = refl
map_same (suc n) = ap (λ (l : List Owner). host ∷ l) (map_same n)

-- a region whose marks are 0 is as at first
first_region : (ms ws : List ℕ) → ((j : ℕ) → j < 3 → get_or ms j 0 ≡ 0) → region_in ms ws ≡ at_first (plan_in ws)
unfolding region_in at_first gate_in flag pick
first_region ms ws z = λ i. record { id = (plan_in ws).id; generation = (plan_in ws).generation; map = (plan_in ws).map; gate = gate_in (z 0 (lit< tt) i); read_only = flag (z 1 (lit< tt) i); forced = flag (z 2 (lit< tt) i) }

first_regions : (k : ℕ) (ms ps rest : List ℕ) → 70 * k ≤ length ps → ((j : ℕ) → j < 3 * k → get_or ms j 0 ≡ 0) → regions_in k ms (take (70 * k) ps ++ rest) ≡ map at_first (plans_in k ps)
unfolding regions_in plans_in
first_regions zero ms ps rest l z = refl
first_regions (suc k) ms ps rest l z =
    let more : 70 ≤ 70 * suc k = omega arith in
    let sum : 70 * suc k ≡ 70 + 70 * k = omega arith in
    let long : length (take (70 * suc k) ps) ≡ 70 * suc k = length-take-le (70 * suc k) ps l in
    let in_it : 70 ≤ length (take (70 * suc k) ps) = omega arith in
    let here : take 70 (take (70 * suc k) ps ++ rest) ≡ take 70 ps = take-append-le 70 (take (70 * suc k) ps) rest in_it ∙ take-take 70 (70 * suc k) ps more in
    let some : 70 ≤ length ps = omega arith in
    let parts : take (70 * suc k) ps ≡ take 70 ps ++ take (70 * k) (drop 70 ps) = ap (λ (n : ℕ). take n ps) sum ∙ take-add 70 (70 * k) ps in
    let behind : drop 70 (take (70 * suc k) ps ++ rest) ≡ take (70 * k) (drop 70 ps) ++ rest =
    drop-append-le 70 (take (70 * suc k) ps) rest in_it
    ∙ ap (λ (v : List ℕ). drop 70 v ++ rest) parts
    ∙ ap (λ (v : List ℕ). v ++ rest) (drop_at (take 70 ps) (take (70 * k) (drop 70 ps)) 70 (length-take-le 70 ps some)) in
    let marks : (j : ℕ) → j < 3 → get_or (take 3 ms) j 0 ≡ 0 = λ j s. get_or-take 3 ms j 0 s ∙ z j (omega arith) in
    ap₂ (λ (r : Region) (rs : List Region). r ∷ rs)
    (first_region (take 3 ms) (take 70 (take (70 * suc k) ps ++ rest)) marks ∙ ap (λ (ws : List ℕ). at_first (plan_in ws)) here)
    (ap (regions_in k (drop 3 ms)) behind ∙ first_regions k (drop 3 ms) (drop 70 ps) rest (simp length-drop (omega arith)) (λ j s. get_or-drop 3 ms j 0 ∙ z (3 + j) (omega arith)))

-- the marks at first
no_marks : (rest : List ℕ) (j : ℕ) → j < 24 → get_or (replicate 24 0 ++ rest) j 0 ≡ 0
no_marks rest j l = get_or-append (replicate 24 0) rest 0 j l ∙ get_or-replicate 24 j 0 0 l

module _ (o : Opening) (plan : List ℕ) (l : Lent) (listed : 70 * o.regions ≤ length plan) (few : o.regions ≤ 8) where
  abbrev store : List ℕ
  store = store_opened o plan (lengths_of l) l.store

  settings_read : settings_in store ≡ o
  unfolding settings_in store_opened store_head over
  settings_read = λ i. record { block = o.block; depth = o.depth; lifetime = o.lifetime; card = o.card; buffers = o.buffers; capacity = o.capacity; read_only = flag_word o.read_only i; flush = flag_word o.flush i; volume = o.volume; class = o.class; label = o.label; epoch = o.epoch; regions = o.regions }

  lengths_read : lengths_in store ≡ lengths_of l
  unfolding lengths_in store_opened store_head over
  lengths_read = refl

  regions_read : regions_in o.regions (drop 24 store) (drop 48 store) ≡ map at_first (plans_in o.regions plan)
  unfolding store_opened store_head over
  regions_read = first_regions o.regions (drop 24 store) plan _ listed (λ j s. no_marks (drop 48 store) j (omega (arith, few)))

  rows_read : take o.depth (rows_opened o.depth l.rows) ≡ replicate o.depth (freed 0)
  unfolding rows_opened
  rows_read = front (replicate o.depth (freed 0)) l.rows o.depth (length-replicate o.depth (freed 0))

  free_read : take o.depth (free_opened o.depth l.free) ≡ up_from 0 o.depth
  unfolding free_opened
  free_read = front (up_from 0 o.depth) l.free o.depth (length_up 0 o.depth)

  owners_read : map owner_in (take o.buffers (owners_opened o.buffers l.owners)) ≡ replicate o.buffers host
  unfolding owners_opened
  owners_read = ap (map owner_in) (front (replicate o.buffers 0) l.owners o.buffers (length-replicate o.buffers 0)) ∙ map_same o.buffers

pub opened_state : (o : Opening) (plan : List ℕ) (l : Lent) → opens o plan (lengths_of l) ≡ true → state_in fresh (opened_lent o plan l) ≡ opened o (plans_in o.regions plan) (lengths_of l) l.pool
unfolding state_in settings_in opened opened_lent poison_in ready_in flag pick store_opened store_head over
opened_state o plan l h =
    let listed = plan_listed o plan (lengths_of l) h in
    let few = (numbers_hold o plan (lengths_of l) h).most_regions in
    λ i. record {
      settings = settings_read o plan l listed few i;
      lengths = lengths_read o plan l listed few i;
      regions = regions_read o plan l listed few i;
      poison = None;
      counts = fresh;
      rows = rows_read o plan l listed few i;
      free = free_read o plan l listed few i;
      ready = [];
      owners = owners_read o plan l listed few i;
      pool = l.pool;
    }
