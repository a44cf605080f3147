-- When two stretches are the same.
use mathlib.Core.Path.{◌≡◌, refl, ap}
use mathlib.Core.List.{List, [], ◌∷◌}
use mathlib.Core.Bool.{Bool, true, ◌&&◌}
use Prim.Native.Nat.{ℕ}
use lib.Dec.{eqb}
use borrow.Author.Tests.{eqb-true}
use Rattle.std.specs.Cmp.Lexicographic.{pointwise}
use Rattle.layout.proofs.Tests.{not_both, and_left, and_right}
use Rattle.fields.specs.Fields.{field, eq_bytes, word_in}

-- byte by byte
bytewise : (a b : List ℕ) → eq_bytes a b ≡ pointwise eqb a b
unfolding eq_bytes
bytewise [] [] = refl
bytewise [] (d ∷ ds) = refl
bytewise (c ∷ cs) [] = refl
bytewise (c ∷ cs) (d ∷ ds) = ap (λ (t : Bool). eqb c d && t) (bytewise cs ds)

pub eq_bytes_is : (k : ℕ) (word cs : List ℕ) → word_in k word cs ≡ pointwise eqb (field k cs) word
unfolding word_in
eq_bytes_is k word cs = bytewise (field k cs) word

-- stretches that are the same are one list
pub same_list : (a b : List ℕ) → eq_bytes a b ≡ true → a ≡ b
unfolding eq_bytes
same_list [] [] t = refl
same_list [] (d ∷ ds) t = absurd (not_both t refl)
same_list (c ∷ cs) [] t = absurd (not_both t refl)
same_list (c ∷ cs) (d ∷ ds) t = cc (eqb-true c d (and_left (eqb c d) _ t), same_list cs ds (and_right (eqb c d) _ t))
