-- The questions have the paper's numbers: each question is yes or one refusal, whose number computes.
use mathlib.Core.Path.{◌≡◌, refl}
use mathlib.Core.Bool.{Bool, true, false}
use mathlib.Core.List.{List, [], ◌∷◌}
use Prim.Native.Nat.{ℕ}
use Rattle.std.specs.declared.option.Option.{Option}
use Rattle.std.specs.declared.option.Option.TheVariants.{None, Some}
use Rattle.domain.specs.declared.FirstCause.{FirstCause}
use Rattle.completion.specs.declared.Context.{Context}
use Rattle.completion.specs.declared.Refusal.{Refusal}
use Rattle.completion.specs.Numbers.{number}
use Rattle.model.specs.declared.Gate.{Gate}
use Rattle.model.specs.declared.Gate.TheVariants.{Open, Recycled, Released}
use Rattle.model.specs.declared.Request.{Request}
use Rattle.model.specs.State.{State, Region}
use Rattle.model.specs.Opening.{among}
use Rattle.step.specs.Questions.{ask, handle_names_region, buffer_in_pool, host_holds_buffer, room_in_table, lifetime_left, gate_open, store_writable, unpoisoned, region_writable, volume_and_region_match, generation_matches, length_above0, aligned, within_data, write_questions, read_questions}
use Rattle.step.specs.Laws.{says_one, SaysEach, write_numbers, read_numbers}

pub asked : (ns : List ℕ) (b : Bool) (f : Refusal) → among (number f) ns ≡ true → says_one ns (ask b f) ≡ true
unfolding says_one ask
asked ns true f e = refl
asked ns false f e = e

gates : (g : Gate) (c : Context) → says_one (4 ∷ 5 ∷ []) (gate_open g c) ≡ true
unfolding says_one gate_open among number
gates Open c = refl
gates Recycled c = refl
gates Released c = refl

poisons : (p : Option FirstCause) → says_one (7 ∷ []) (unpoisoned p) ≡ true
unfolding says_one unpoisoned among number
poisons None = refl
poisons (Some c) = refl

pub write_numbers_lem : (s : State) (g : Region) (q : Request) → SaysEach write_numbers (write_questions s g q)
unfolding write_numbers write_questions SaysEach among number handle_names_region buffer_in_pool host_holds_buffer room_in_table lifetime_left store_writable region_writable volume_and_region_match generation_matches length_above0 aligned within_data
write_numbers_lem s g q =
    (asked (1 ∷ []) _ _ refl, (asked (2 ∷ []) _ _ refl, (asked (11 ∷ []) _ _ refl, (asked (3 ∷ []) _ _ refl, (asked (12 ∷ []) _ _ refl, (gates g.gate _, (asked (6 ∷ []) _ _ refl, (poisons s.poison, (asked (6 ∷ []) _ _ refl, (asked (1 ∷ []) _ _ refl, (asked (4 ∷ []) _ _ refl, (asked (8 ∷ []) _ _ refl, (asked (9 ∷ []) _ _ refl, (asked (10 ∷ []) _ _ refl, tt))))))))))))))

pub read_numbers_lem : (s : State) (g : Region) (q : Request) → SaysEach read_numbers (read_questions s g q)
unfolding read_numbers read_questions SaysEach among number handle_names_region buffer_in_pool host_holds_buffer room_in_table lifetime_left volume_and_region_match generation_matches length_above0 aligned within_data
read_numbers_lem s g q =
    (asked (1 ∷ []) _ _ refl, (asked (1 ∷ []) _ _ refl, (asked (4 ∷ []) _ _ refl, (asked (2 ∷ []) _ _ refl, (asked (11 ∷ []) _ _ refl, (asked (3 ∷ []) _ _ refl, (asked (12 ∷ []) _ _ refl, (gates g.gate _, (asked (8 ∷ []) _ _ refl, (asked (9 ∷ []) _ _ refl, (asked (10 ∷ []) _ _ refl, tt)))))))))))
