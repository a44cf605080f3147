-- The words of a reply, one by one.
use mathlib.Core.Path.{◌≡◌, refl, sym, ap, ap₂, ◌∙◌}
use mathlib.Core.List.{List, [], ◌∷◌, ◌++◌}
use Prim.Native.Nat.{ℕ, zero, suc, ◌≤◌}
use native.Mathlib.Omega.{arith}
use lib.ListN.{length, get_or, take, replicate}
use lib.Seq.{take_all, take-suc, take_at}
use Rattle.domain.specs.declared.Op.{Op}
use Rattle.std.specs.declared.option.Option.{Option}
use Rattle.completion.specs.Buffers.{Buffer}
use Rattle.completion.specs.declared.Completion.{Completion}
use Rattle.completion.specs.declared.Range.{Range}
use Rattle.completion.specs.declared.Refusal.{Refusal}
use Rattle.completion.specs.declared.Reply.TheVariants.{No, Rejected, Took}
use Rattle.completion.specs.Numbers.{number, Values, Values.nothing, Values.region, Values.range, Values.cause, values}
use Rattle.model.specs.Memory.{op_word, has_word, raw_word, buffer_words, completion_words}
use Rattle.model.proofs.Completions.{completion_laws}
use Rattle.abi.specs.ReplyWords.{filled, values_words, reply_words}

-- a call that is turned away
abbrev away : ℕ → List ℕ → List ℕ
away n t = 2 ∷ n ∷ get_or t 0 0 ∷ get_or t 1 0 ∷ get_or t 2 0 ∷ get_or t 3 0 ∷ 0 ∷ 0 ∷ 0 ∷ 0 ∷ 0 ∷ 0 ∷ 0 ∷ 0 ∷ 0 ∷ 0 ∷ 0 ∷ []

away_filled : (n : ℕ) (v : Values) → away n (values_words v) ≡ filled (2 ∷ n ∷ values_words v)
unfolding filled values_words
away_filled n nothing = refl
away_filled n (region id) = refl
away_filled n (range id a b) = refl
away_filled n (cause f) = refl

pub away_are : (f : Refusal) (n : ℕ) (v : Values) (t : List ℕ) → n ≡ number f → t ≡ values_words v → v ≡ values f → away n t ≡ reply_words (No f)
unfolding reply_words
away_are f n v t e g h = ap₂ away e (g ∙ ap values_words h) ∙ away_filled (number f) (values f)

-- a first piece that is refused
pub rejected_are : (r : Range) (op : Op) (raw : Option ℕ) (buf : Buffer) (o h e : ℕ) (b : List ℕ) → o ≡ op_word op → h ≡ has_word raw → e ≡ raw_word raw → b ≡ buffer_words buf
    → filled (3 ∷ r.region ∷ r.start.0 ∷ r.end.0 ∷ o ∷ h ∷ e ∷ b) ≡ reply_words (Rejected r op raw buf)
unfolding reply_words
rejected_are r op raw buf o h e b eo eh ee eb = λ i. filled (3 ∷ r.region ∷ r.start.0 ∷ r.end.0 ∷ eo i ∷ eh i ∷ ee i ∷ eb i)

-- the first words of a list, one by one
first : ℕ → List ℕ → List ℕ
first zero ws = []
first (suc n) ws = first n ws ++ (get_or ws n 0 ∷ [])

first_take : (n : ℕ) (ws : List ℕ) → n ≤ length ws → first n ws ≡ take n ws
unfolding first
first_take zero ws le = refl
first_take (suc n) ws le = ap (λ (xs : List ℕ). xs ++ (get_or ws n 0 ∷ [])) (first_take n ws (omega arith)) ∙ sym (take-suc ws n 0 (omega arith))

-- a completion that is taken
abbrev took : List ℕ → List ℕ
took w = 6 ∷ get_or w 0 0 ∷ get_or w 1 0 ∷ get_or w 2 0 ∷ get_or w 3 0 ∷ get_or w 4 0 ∷ get_or w 5 0 ∷ get_or w 6 0 ∷ get_or w 7 0 ∷ get_or w 8 0 ∷ get_or w 9 0 ∷ get_or w 10 0 ∷ get_or w 11 0 ∷ get_or w 12 0 ∷ get_or w 13 0 ∷ get_or w 14 0 ∷ get_or w 15 0 ∷ []

took_whole : (w : List ℕ) → length w ≡ 16 → took w ≡ 6 ∷ w
unfolding first
took_whole w e =
    let enough : 16 ≤ length w = omega arith in
    let all : length w ≤ 16 = omega arith in
    ap (λ (xs : List ℕ). 6 ∷ xs) (first_take 16 w enough ∙ take_all 16 w all)

pub took_are : (c : Completion) (w : List ℕ) → w ≡ completion_words c → took w ≡ reply_words (Took c)
unfolding reply_words filled
took_are c w e =
    ap took e
    ∙ took_whole (completion_words c) (completion_laws.long c)
    ∙ sym (ap (λ (xs : List ℕ). 6 ∷ xs) (take_at (completion_words c) (replicate 17 0) 16 (completion_laws.long c)))
