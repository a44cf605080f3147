-- Of a sound table in what is lent: its words are enough, each region's map lies in them, and the piece that the code finds there is the map's.
use mathlib.Core.Path.{◌≡◌, refl, sym, ap, ◌∙◌, subst}
use mathlib.Core.Bool.{true}
use mathlib.Core.List.{List, [], ◌∷◌}
use Prim.Native.Nat.{ℕ, ◌+◌, ◌*◌, ◌≤◌, ◌<◌, ◌%◌, ◌^◌}
use native.Mathlib.Nat.{mod-eq_of_lt}
use native.Mathlib.Omega.{arith}
use lib.ListN.{length, get_or, take, drop, length-take, length-drop}
use lib.Seq.{drop-drop}
use Rattle.regionmap.specs.declared.FoundPiece.{FoundPiece}
use Rattle.regionmap.specs.Map.{Map, place, piece_size, ascends}
use Rattle.regionmap.specs.Words.{map_in, offset_of}
use Rattle.regionmap.specs.Found.{HoldsMap, piece_found, wrap64}
use Rattle.model.specs.declared.Counts.{Counts}
use Rattle.model.specs.State.{State}
use Rattle.model.specs.Memory.{Lent, settings_in, lengths_of, lengths_in, same_lengths, region_in, state_in}
use Rattle.model.specs.Opening.{plan_in}
use Rattle.model.specs.Laws.{map_words_at}
use Rattle.model.proofs.Maps.{runs_length}
use Rattle.step.specs.Questions.{region_at}
use Rattle.step.specs.Sound.{Sound}
use Rattle.step.proofs.Memory.{lengths_are}
use Rattle.memory.specs.Live.{InStore, region_of}
use Rattle.memory.proofs.Laws.{live_laws}
use Rattle.memory.specs.Piece.{PieceIn}

-- two words fewer
two_less : (ws : List ℕ) → drop 2 (take 70 ws) ≡ take 68 (drop 2 ws)
two_less [] = refl
two_less (x ∷ []) = refl
two_less (x ∷ y ∷ ws) = refl

module _ (c : Counts) (l : Lent) (i : Sound (state_in c l)) (same : same_lengths (lengths_of l) l.store ≡ true) where
  abbrev s : State
  s = state_in c l

  abbrev store : List ℕ
  store = l.store

  -- the store's words, and the free stack's, are as many as the opening was lent
  pub store_long : 48 + 70 * (settings_in store).regions ≤ length store
  unfolding state_in lengths_in lengths_of
  store_long = let e = ap (λ k. k.store) (lengths_are _ store same) in let enough = i.room.store in omega (arith, e, enough)

  pub free_long : (settings_in store).depth ≤ length l.free
  unfolding state_in lengths_in lengths_of
  free_long = let e = ap (λ k. k.free) (lengths_are _ store same) in let enough = i.room.free in omega (arith, e, enough)

  few : (settings_in store).regions ≤ 8
  unfolding state_in
  few = i.numbers.most_regions

  pub in_store : (h : ℕ) → h < (settings_in store).regions → InStore store h
  in_store h below = let most = few in let long = store_long in record { below = omega (arith, most, below); room = omega (arith, long, below) }

  pub region_is : (h : ℕ) → h < (settings_in store).regions → region_at s h ≡ region_of store h
  region_is h below = live_laws.region c l h below

  module _ (h : ℕ) (below : h < (settings_in store).regions) where
    among : h < s.settings.regions
    unfolding state_in
    among = below

    -- the region's map, in the words that lie 2 behind the region's first
    words_are : map_words_at store h ≡ drop 2 (take 70 (drop (48 + 70 * h) store))
    words_are =
        sym (two_less (drop (48 + 70 * h) store) ∙ ap (take 68) (drop-drop 2 (48 + 70 * h) store ∙ ap (λ (k : ℕ). drop k store) (let e : 48 + 70 * h + 2 ≡ 50 + 70 * h = omega arith in e)))

    pub map_is : map_in (map_words_at store h) ≡ (region_at s h).map
    unfolding region_of region_in plan_in
    map_is = ap map_in words_are ∙ sym (ap (λ g. g.map) (region_is h below))

    words_long : length (map_words_at store h) ≡ 68
    words_long = let long = store_long in simp (length-take, length-drop) (omega (arith, long, below))

    pub holds_map : HoldsMap (map_words_at store h)
    unfolding map_in
    holds_map =
        let runs : length (map_in (map_words_at store h)).more ≤ 32 = subst (λ (m : Map). length m.more ≤ 32) (sym map_is) (i.each h among).runs in
        let count = runs_length (get_or (map_words_at store h) 3 0) (drop 4 (map_words_at store h)) in
        let long = words_long in
        record { room = omega (arith, runs, count, long); rising = subst (λ (m : Map). ascends 0 m.more m.capacity ≡ true) (sym map_is) (i.each h among).lawful.rising }

    -- a piece at a position of the region
    pub piece_there : (p left : ℕ) → p < (region_at s h).map.capacity → (found : FoundPiece) → PieceIn store h p left found
        → found ≡ record { offset = offset_of (place (region_at s h).map p); count = piece_size (region_at s h).map p left }
    unfolding piece_found wrap64
    piece_there p left inside found is =
        let m = (region_at s h).map in
        let on_card_lem = (i.each h among).on_card_lem p inside in
        let small = i.numbers.card in
        let at : place m p % 2 ^ 64 ≡ place m p = mod-eq_of_lt (omega (arith, on_card_lem, small)) in
        is (in_store h below) holds_map
        ∙ ap (λ (x : Map). piece_found x p left) map_is
        ∙ (λ j. record { offset = offset_of (at j); count = piece_size m p left })
