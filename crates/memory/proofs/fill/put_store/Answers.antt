-- `fill::put_store` meets its contract: the head is put at the front, the plan's regions behind it, and both lists are the definition's.
use mathlib.Core.Path.{◌≡◌, refl, sym, ap, ap₂, ◌∙◌}
use mathlib.Core.List.{List, [], ◌∷◌, ◌++◌}
use Prim.Native.Nat.{ℕ, ◌+◌, ◌*◌, ◌≤◌}
use native.Mathlib.Omega.{arith}
use lib.ListN.{length, take, drop, length-append, replicate}
use lib.Seq.{length-take-le, take_at, drop-append-add, drop-drop}
use Rattle.model.specs.declared.Opening.{Opening}
use Rattle.model.specs.declared.Lengths.{Lengths}
use Rattle.model.specs.Memory.{store_head, over, store_opened}
use Rattle.memory.proofs.fill.put_store.Goals as goal

-- the settings and the lengths, with the two flags as words; the head has zeros behind them
abbrev settings : Opening → Lengths → ℕ → ℕ → List ℕ
settings o l r f =
    o.block
    ∷ o.depth
    ∷ o.lifetime
    ∷ o.card
    ∷ o.buffers
    ∷ o.capacity
    ∷ r
    ∷ f
    ∷ o.volume
    ∷ o.class
    ∷ o.label
    ∷ o.epoch
    ∷ o.regions
    ∷ l.rows
    ∷ l.store
    ∷ l.free
    ∷ l.ready
    ∷ l.owners
    ∷ l.pool
    ∷ []

abbrev headWith : Opening → Lengths → ℕ → ℕ → List ℕ
headWith o l r f = settings o l r f ++ replicate 29 0

-- xs at the front, and ys behind it
both-put : (xs ys s : List ℕ) (n : ℕ) → length xs ≡ n → take n (xs ++ drop n s) ++ ys ++ drop (n + length ys) (xs ++ drop n s) ≡ over (xs ++ ys) s
unfolding over
both-put xs ys s n e =
    let tail : drop (n + length ys) (xs ++ drop n s) ≡ drop (n + length ys) s =
    ap (λ (k : ℕ). drop (k + length ys) (xs ++ drop n s)) (sym e) ∙ drop-append-add xs (drop n s) (length ys) ∙ drop-drop (length ys) n s in
    let all : length (xs ++ ys) ≡ n + length ys = length-append xs ys ∙ ap (λ (k : ℕ). k + length ys) e in
    ap₂ (λ (a b : List ℕ). a ++ ys ++ b) (take_at xs (drop n s) n e) tail ∙ ap (λ (k : ℕ). xs ++ ys ++ drop k s) (sym all)

pub put_words-requires-2 : goal.put_words-requires-2
put_words-requires-2 c =
    let len = length-take-le (70 * c.args.o.regions) c.args.plan.now c.requires.1.0 in
    let first : List ℕ = c.put_words.new.dst in
    let kept : length first ≡ length c.args.store.now = c.put_words.auto.dst ∙ c.zeros.auto.dst in
    let fits : 48 + length (take (70 * c.args.o.regions) c.args.plan.now) ≤ length first = omega (arith, len, kept, c.requires.1.1) in
    fits

pub returns : goal.returns
unfolding store_opened store_head
returns c =
    let o : Opening = c.args.o in
    let l : Lengths = c.args.l in
    let store : List ℕ = c.args.store.now in
    let regions : List ℕ = take (70 * o.regions) c.args.plan.now in
    let r : ℕ = c.flag_word-read_only.result in
    let f : ℕ = c.flag_word-flush.result in
    let first : List ℕ = c.put_words.new.dst in
    let zeroed : List ℕ = c.zeros.new.dst in
    let none : zeroed ≡ replicate 48 0 ++ drop 48 store = c.zeros.ensures in
    let put : first ≡ settings o l r f ++ drop 19 zeroed = c.put_words.ensures in
    let one : first ≡ headWith o l r f ++ drop 48 store = put ∙ ap (λ (v : List ℕ). settings o l r f ++ drop 19 v) none in
    let two : c.put_words-2.new.dst ≡ take 48 first ++ regions ++ drop (48 + length regions) first = c.put_words-2.ensures in
    two
    ∙ ap (λ (x : List ℕ). take 48 x ++ regions ++ drop (48 + length regions) x) one
    ∙ both-put (headWith o l r f) regions store 48 refl
    ∙ ap₂ (λ (x y : ℕ). over (headWith o l x y ++ regions) store) c.flag_word-read_only.ensures c.flag_word-flush.ensures
