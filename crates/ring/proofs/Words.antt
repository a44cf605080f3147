-- The words of a completion, one by one.
use mathlib.Core.Path.{◌≡◌, refl, ap, ◌∙◌}
use mathlib.Core.List.{List, [], ◌∷◌, ◌++◌}
use Prim.Native.Nat.{ℕ}
use lib.ListN.{get_or}
use Rattle.completion.specs.declared.Outcome.{Outcome}
use Rattle.completion.specs.declared.Outcome.TheVariants.{Written, Receipt, Read, Unknown, Interrupted, Corruption, Io, QueueFull, Poisoned as poisoned_by}
use Rattle.completion.specs.Buffers.{Buffer}
use Rattle.std.specs.declared.option.Option.TheVariants.{Some as Back, None as Lost}
use Rattle.completion.specs.declared.Completion.{Completion}
use Rattle.model.specs.Memory.{outcome_words, buffer_words, generation_word, completion_words}

-- an outcome's words and then the generation, and a buffer's words, taken one by one
abbrev ten : List ℕ → (ℕ → List ℕ) → List ℕ
ten x rest = get_or x 0 0 ∷ get_or x 1 0 ∷ get_or x 2 0 ∷ get_or x 3 0 ∷ get_or x 4 0 ∷ get_or x 5 0 ∷ get_or x 6 0 ∷ get_or x 7 0 ∷ get_or x 8 0 ∷ rest (get_or x 9 0)

abbrev three : List ℕ → List ℕ → List ℕ
three b ys = get_or b 0 0 ∷ get_or b 1 0 ∷ get_or b 2 0 ∷ ys

outcome_ten : (x : Outcome) (rest : ℕ → List ℕ) → ten (outcome_words x ++ (generation_word x ∷ [])) rest ≡ outcome_words x ++ rest (generation_word x)
unfolding outcome_words
outcome_ten (Written t) rest = refl
outcome_ten (Receipt t d) rest = refl
outcome_ten (Read n) rest = refl
outcome_ten (Unknown r e) rest = refl
outcome_ten (Interrupted r) rest = refl
outcome_ten (Corruption r) rest = refl
outcome_ten (Io r op n) rest = refl
outcome_ten (QueueFull r) rest = refl
outcome_ten (poisoned_by e) rest = refl

buffer_three : (b : Buffer) (ys : List ℕ) → three (buffer_words b) ys ≡ buffer_words b ++ ys
unfolding buffer_words
buffer_three (Back h) ys = refl
buffer_three Lost ys = refl

pub words_are : (c : Completion) (x b : List ℕ) → x ≡ outcome_words c.outcome ++ (generation_word c.outcome ∷ []) → b ≡ buffer_words c.buf
    → c.tag ∷ ten x (λ g. three b (g ∷ 0 ∷ 0 ∷ [])) ≡ completion_words c
unfolding completion_words
words_are c x b e f =
    (λ i. c.tag ∷ ten (e i) (λ g. three (f i) (g ∷ 0 ∷ 0 ∷ [])))
    ∙ ap (λ (ys : List ℕ). c.tag ∷ ys)
    (outcome_ten c.outcome (λ g. three (buffer_words c.buf) (g ∷ 0 ∷ 0 ∷ []))
    ∙ ap (λ (ys : List ℕ). outcome_words c.outcome ++ ys) (buffer_three c.buf (generation_word c.outcome ∷ 0 ∷ 0 ∷ [])))
