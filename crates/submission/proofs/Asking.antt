-- The questions in groups, as the code asks them, come to the list of the definition: the first no of two groups is that of both lists, and what
-- the code reads from the words is what the state holds.
use Rattle.std.proofs.Common.{◌≡◌, ℕ, ◌<◌, Bool, ltb, List, [], ◌∷◌, ◌++◌, map, get_or, take, sym, refl, ap, ◌∙◌, subst, ltb-true, lt-ltb}
use Rattle.std.specs.declared.option.Option.{Option}
use Rattle.domain.specs.declared.FirstCause.{FirstCause}
use Rattle.completion.specs.declared.Context.{Context}
use Rattle.completion.specs.declared.Context.TheVariants.{None as bare, Region as with_region}
use Rattle.completion.specs.declared.Refusal.{Refusal}
use Rattle.completion.specs.declared.Refusal.TheVariants.{ForeignPosition}
use Rattle.model.specs.declared.Opening.{Opening}
use Rattle.model.specs.declared.Counts.{Counts}
use Rattle.model.specs.declared.Gate.{Gate}
use Rattle.model.specs.declared.Request.{Request}
use Rattle.std.specs.declared.result.Result.TheVariants.{Ok, Err}
use Rattle.model.specs.State.{Region, State, Owner.lost}
use Rattle.model.specs.Memory.{settings_in, poison_in, owner_in}
use Rattle.step.specs.Questions.{ask, first_no, is_host, held_at, range_from, region_at, handle_names_region, buffer_in_pool, host_holds_buffer, room_in_table, lifetime_left, gate_open, store_writable, unpoisoned, region_writable, volume_and_region_match, generation_matches, length_above0, aligned, within_data, write_questions, read_questions, Asked}
use Rattle.memory.specs.declared.liveregion.LiveRegion.{LiveRegion}
use Rattle.memory.specs.Live.{InStore, region_of, live_of}
use Rattle.step.proofs.Answers.{answered}
use Rattle.submission.specs.Asks.{Reads, write_list, read_list}

-- ---- groups

-- the first no of a list and another answer
joined : (xs : List Asked) (a : Asked) → first_no (first_no xs ∷ a ∷ []) ≡ first_no (xs ++ (a ∷ []))
unfolding first_no
joined [] a = refl
joined (Ok _ ∷ xs) a = joined xs a
joined (Err f ∷ xs) a = refl

-- a list's first no stands for the list
behind : (xs ys : List Asked) → first_no (xs ++ (first_no ys ∷ [])) ≡ first_no (xs ++ ys)
unfolding first_no
behind [] [] = refl
behind [] (Ok _ ∷ ys) = behind [] ys
behind [] (Err f ∷ ys) = refl
behind (Ok _ ∷ xs) ys = behind xs ys
behind (Err f ∷ xs) ys = refl

grouped : (xs ys : List Asked) → first_no (first_no xs ∷ first_no ys ∷ []) ≡ first_no (xs ++ ys)
grouped xs ys = joined xs (first_no ys) ∙ behind xs ys

-- questions 2 to 6, 7 to 9, 10 and 11, 12 to 14
abbrev pub admit_list : Opening → Counts → Bool → Gate → Context → Request → List Asked
admit_list o n held gate c q =
    buffer_in_pool o.buffers o.capacity c q ∷ host_holds_buffer held c ∷ room_in_table o.depth n c ∷ lifetime_left o.lifetime n c ∷ gate_open gate c ∷ []

abbrev pub ready_list : Bool → Option FirstCause → Bool → Context → List Asked
ready_list read_only p regionReadOnly c = store_writable read_only ∷ unpoisoned p ∷ region_writable regionReadOnly c ∷ []

abbrev pub names_list : ℕ → LiveRegion → Context → Request → List Asked
names_list volume g c q = volume_and_region_match volume g.id c q ∷ generation_matches g.generation c q ∷ []

abbrev pub check_list : LiveRegion → ℕ → Context → Request → List Asked
check_list g block c q = length_above0 c q ∷ aligned block c q ∷ within_data g.«data» c q ∷ []

-- the first no of the groups, one behind the other, is that of the list
pub write_groups : (o : Opening) (n : Counts) (g : LiveRegion) (p : Option FirstCause) (held : Bool) (q : Request)
    → first_no (first_no (admit_list o n held g.gate (with_region g.id) q)
    ∷ first_no (first_no (ready_list o.read_only p g.read_only (with_region g.id))
    ∷ first_no (first_no (names_list o.volume g (with_region g.id) q) ∷ first_no (check_list g o.block (with_region g.id) q) ∷ []) ∷ []) ∷ [])
    ≡ first_no (write_list o n g p held q)
unfolding write_list
write_groups o n g p held q =
    ap (λ (a : Asked). first_no (first_no admits ∷ first_no (first_no readies ∷ a ∷ []) ∷ [])) (grouped names checks)
    ∙ ap (λ (a : Asked). first_no (first_no admits ∷ a ∷ [])) (grouped readies (names ++ checks))
    ∙ grouped admits (readies ++ (names ++ checks))
  where
    admits : List Asked
    admits = admit_list o n held g.gate (with_region g.id) q

    readies : List Asked
    readies = ready_list o.read_only p g.read_only (with_region g.id)

    names : List Asked
    names = names_list o.volume g (with_region g.id) q

    checks : List Asked
    checks = check_list g o.block (with_region g.id) q

pub read_groups : (o : Opening) (n : Counts) (g : LiveRegion) (held : Bool) (q : Request)
    → first_no (first_no (names_list o.volume g (with_region g.id) q)
    ∷ first_no (first_no (admit_list o n held g.gate (with_region g.id) q) ∷ first_no (check_list g o.block (range_from g.id q.offset q.length) q) ∷ []) ∷ [])
    ≡ first_no (read_list o n g held q)
unfolding read_list
read_groups o n g held q = ap (λ (a : Asked). first_no (first_no names ∷ a ∷ [])) (grouped admits checks) ∙ grouped names (admits ++ checks)
  where
    names : List Asked
    names = names_list o.volume g (with_region g.id) q

    admits : List Asked
    admits = admit_list o n held g.gate (with_region g.id) q

    checks : List Asked
    checks = check_list g o.block (range_from g.id q.offset q.length) q

-- ---- what the code read

-- a handle past the regions: the first question's no is the list's
pub foreign : (s : State) (n : Counts) (store owners : List ℕ) (q : Request) (more : List Asked) → Reads s n store owners → (o : Opening) → o ≡ settings_in store
    → (f : Refusal) → Err f ≡ ask (ltb q.handle o.regions) (ForeignPosition bare) → Err f ≡ first_no (handle_names_region s.settings.regions q ∷ more)
unfolding handle_names_region first_no
foreign s n store owners q more r o e f refused =
    sym (ap (λ (a : Asked). first_no (a ∷ more)) (ap (λ (p : Opening). ask (ltb q.handle p.regions) (ForeignPosition bare)) (r.settings ∙ sym e) ∙ sym refused))

-- where the first question's answer is a yes, the handle is below
pub below_by : (q : Request) (o : Opening) → Ok tt ≡ ask (ltb q.handle o.regions) (ForeignPosition bare) → q.handle < o.regions
below_by q o passed = ltb-true q.handle o.regions (answered _ _ (sym passed))

-- the numbers, the region and whether the host holds the buffer, as the code found them
pub record Found (store owners : List ℕ) (q : Request) (o : Opening) (g : LiveRegion) (held : Bool) : Type 0 where
  pub settings : o ≡ settings_in store
  pub below : q.handle < o.regions
  pub region : InStore store q.handle → g ≡ live_of (region_of store q.handle)
  pub holder : held ≡ is_host (get_or (map owner_in (take o.buffers owners)) q.buffer lost)

module _ (s : State) (n : Counts) (store owners : List ℕ) (q : Request) (r : Reads s n store owners) (o : Opening) (g : LiveRegion) (held : Bool) (f : Found store owners q o g held) where
  -- the region in the state
  abbrev G : Region
  G = region_at s q.handle

  below : q.handle < (settings_in store).regions
  below = subst (λ (p : Opening). q.handle < p.regions) f.settings f.below

  is_live_lem : g ≡ live_of G
  is_live_lem = f.region (r.in_store q.handle below) ∙ ap live_of (sym (r.regions q.handle below))

  is_held : held ≡ held_at s q.buffer
  unfolding held_at
  is_held = f.holder ∙ ap (λ (p : Opening). is_host (get_or (map owner_in (take p.buffers owners)) q.buffer lost)) f.settings ∙ ap (λ os. is_host (get_or os q.buffer lost)) (sym r.owners_are)

  is_settings : o ≡ s.settings
  is_settings = f.settings ∙ sym r.settings

  named : (more : List Asked) → first_no more ≡ first_no (handle_names_region s.settings.regions q ∷ more)
  unfolding handle_names_region ask first_no
  named more =
      sym (ap (λ (t : Bool). first_no (ask t (ForeignPosition bare) ∷ more)) (ap (λ (p : Opening). ltb q.handle p.regions) (sym is_settings) ∙ lt-ltb q.handle o.regions f.below))

  -- the lists of what the code read are those of the state
  pub write_asked : (p : Option FirstCause) → p ≡ poison_in store → first_no (write_list o n g p held q) ≡ first_no (write_questions s G q)
  unfolding write_questions write_list live_of
  write_asked p e = (λ i. first_no (write_list (is_settings i) (sym r.counts i) (is_live_lem i) ((e ∙ sym r.poison) i) (is_held i) q)) ∙ named _

  pub read_asked : first_no (read_list o n g held q) ≡ first_no (read_questions s G q)
  unfolding read_questions read_list live_of
  read_asked = (λ i. first_no (read_list (is_settings i) (sym r.counts i) (is_live_lem i) (is_held i) q)) ∙ named _
