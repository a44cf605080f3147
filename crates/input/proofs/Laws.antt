-- The laws of cutting, by induction on the bytes that are left, and what a step in the input does to the lines that are left.
use Rattle.std.proofs.Common.{◌≡◌, ℕ, suc, ◌+◌, ◌<◌, ◌≤◌, Bool, true, false, cond, ◌&&◌, eqb, ltb, List, [], ◌∷◌, ◌++◌, length, take, drop, sym, refl, ap, ◌∙◌, subst, append_assoc, append-nil, arith, drop-drop}
use Rattle.layout.proofs.Tests.{not_both}
use Rattle.fields.specs.declared.reader.Reader.{Reader}
use Rattle.fields.specs.Trace.{Kept}
use Rattle.input.specs.declared.Input.{Input}
use Rattle.input.specs.Input.{up_to, has_end, behind, past, Scanned, Next, last_of, lines_from, unread, ComeTo, Stepped, InputLaws}

-- by whether the first byte is an LF
cut_at : (t : Bool) (line : List ℕ) (b : ℕ) (bs rest : List ℕ)
    → ((line' : List ℕ) → has_end bs ≡ true → lines_from line' (bs ++ rest) ≡ (line' ++ up_to bs) ∷ lines_from [] (behind bs ++ rest)) → cond t true (has_end bs) ≡ true
    → cond t (line ∷ lines_from [] (bs ++ rest)) (lines_from (line ++ (b ∷ [])) (bs ++ rest)) ≡ (line ++ cond t [] (b ∷ up_to bs)) ∷ lines_from [] (cond t bs (behind bs) ++ rest)
cut_at true line b bs rest ih e = ap (λ (l : List ℕ). l ∷ lines_from [] (bs ++ rest)) (sym (append-nil line))
cut_at false line b bs rest ih e = ih (line ++ (b ∷ [])) e ∙ ap (λ (l : List ℕ). l ∷ lines_from [] (behind bs ++ rest)) (append_assoc line (b ∷ []) (up_to bs))

cut_law : (line left rest : List ℕ) → has_end left ≡ true → lines_from line (left ++ rest) ≡ (line ++ up_to left) ∷ lines_from [] (behind left ++ rest)
unfolding up_to has_end behind lines_from
cut_law line [] rest e = absurd (not_both e refl)
cut_law line (b ∷ bs) rest e = cut_at (eqb b 10) line b bs rest (λ line' h. cut_law line' bs rest h) e

on_at : (t : Bool) (line : List ℕ) (b : ℕ) (bs rest : List ℕ) → ((line' : List ℕ) → has_end bs ≡ false → lines_from line' (bs ++ rest) ≡ lines_from (line' ++ up_to bs) rest)
    → cond t true (has_end bs) ≡ false
    → cond t (line ∷ lines_from [] (bs ++ rest)) (lines_from (line ++ (b ∷ [])) (bs ++ rest)) ≡ lines_from (line ++ cond t [] (b ∷ up_to bs)) rest
on_at true line b bs rest ih e = absurd (not_both refl e)
on_at false line b bs rest ih e = ih (line ++ (b ∷ [])) e ∙ ap (λ (l : List ℕ). lines_from l rest) (append_assoc line (b ∷ []) (up_to bs))

on_law : (line left rest : List ℕ) → has_end left ≡ false → lines_from line (left ++ rest) ≡ lines_from (line ++ up_to left) rest
unfolding up_to has_end lines_from
on_law line [] rest e = ap (λ (l : List ℕ). lines_from l rest) (sym (append-nil line))
on_law line (b ∷ bs) rest e = on_at (eqb b 10) line b bs rest (λ line' h. on_law line' bs rest h) e

one_more_lem : (t : Bool) (n : ℕ) → cond t (suc n + 1) (suc n) ≡ suc (cond t (n + 1) n)
one_more_lem true n = omega arith
one_more_lem false n = refl

next_at : (t : Bool) (b : ℕ) (bs : List ℕ) → drop (past bs) bs ≡ behind bs
    → drop (cond (cond t true (has_end bs)) (length (cond t [] (b ∷ up_to bs)) + 1) (length (cond t [] (b ∷ up_to bs)))) (b ∷ bs) ≡ cond t bs (behind bs)
unfolding past
next_at true b bs ih = refl
next_at false b bs ih = ap (λ (n : ℕ). drop n (b ∷ bs)) (one_more_lem (has_end bs) (length (up_to bs))) ∙ ih

next_law : (left : List ℕ) → drop (past left) left ≡ behind left
unfolding up_to has_end behind past
next_law [] = refl
next_law (b ∷ bs) = next_at (eqb b 10) b bs (next_law bs)

none_at : (t : Bool) (bs : List ℕ) → (has_end bs ≡ false → behind bs ≡ []) → cond t true (has_end bs) ≡ false → cond t bs (behind bs) ≡ []
none_at true bs ih e = absurd (not_both refl e)
none_at false bs ih e = ih e

none_behind : (left : List ℕ) → has_end left ≡ false → behind left ≡ []
unfolding has_end behind
none_behind [] e = refl
none_behind (b ∷ bs) e = none_at (eqb b 10) bs (none_behind bs) e

-- ---- a step

module _ (i r : Input) (line line' chunk chunk' : List ℕ) (n : Next i r line line' chunk chunk') (bytes : List ℕ) (come : ComeTo i line bytes) where
  -- a line that was whole is left behind, another goes on
  come_from : Kept n.from.reader line bytes
  unfolding ComeTo
  come_from = by_whole i.whole refl
    where
      by_whole : (b : Bool) → i.whole ≡ b → Kept n.from.reader line bytes
      by_whole true e = subst (λ (l : List ℕ). Kept n.from.reader line l) (sym (come.0 e)) ((n.fresh.after e).1 line)
      by_whole false e = subst (λ (x : Reader). Kept x line bytes) (sym (n.fresh.on e).1) (come.1 e)

  module _ (lt : i.at < i.got) where
    abbrev left : List ℕ
    left = drop i.at (take i.got chunk)

    abbrev scanned : Scanned n.from r line line' left
    scanned = (n.left lt).0

    -- where the step leaves off, the bytes behind the LF are next
    unread_next : unread r chunk' ≡ behind left
    unfolding unread
    unread_next =
        (λ j. drop ((scanned.at ∙ ap (λ (k : ℕ). k + past left) n.fresh.at) j) (take ((scanned.got ∙ n.fresh.got) j) ((n.left lt).1 j)))
        ∙ sym (drop-drop (past left) i.at (take i.got chunk)) ∙ next_law left

    stepped : (rest : List ℕ) → Stepped r line' bytes left (unread r chunk') rest
    stepped rest = record {
      kept = scanned.kept bytes come_from;
      whole = λ e. cut_law bytes left rest (sym scanned.whole ∙ e) ∙ ap (λ (l : List ℕ). (bytes ++ up_to left) ∷ lines_from [] (l ++ rest)) (sym unread_next);
      part = λ e.
          let none = sym scanned.whole ∙ e in
          on_law bytes left rest none ∙ ap (λ (l : List ℕ). lines_from (bytes ++ up_to left) (l ++ rest)) (sym (unread_next ∙ none_behind left none));
    }

  read_on : i.got ≤ i.at → Kept r.reader line' bytes × ((r.whole ≡ (r.ended && ltb 0 (length bytes))) × ((unread r chunk' ≡ take r.got chunk') × (lines_from bytes [] ≡ last_of bytes)))
  unfolding unread lines_from
  read_on le =
      let m = n.more le in
      let k = m.kept bytes come_from in
      (k.0, (k.1, (ap (λ (at : ℕ). drop at (take r.got chunk')) m.at, refl)))

pub input_laws : InputLaws
unfolding unread
input_laws = record {
  steps = λ i r line line' chunk chunk' n lt bytes rest come. stepped i r line line' chunk chunk' n bytes come lt rest;
  reads = λ i r line line' chunk chunk' n le bytes come. read_on i r line line' chunk chunk' n bytes come le;
}
