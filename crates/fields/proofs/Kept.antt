-- What a reader keeps, as the bytes arrive and once they are all there: of a line of at most 4,096 bytes all of them, of a longer one the first 4,096.
use mathlib.Core.Path.{◌≡◌, refl, sym, ap, ◌∙◌}
use mathlib.Core.List.{List, [], ◌∷◌, ◌++◌}
use mathlib.Core.Bool.{Bool, true, false}
use Prim.Native.Nat.{ℕ, ◌+◌, ◌≤◌, ◌<◌}
use native.Mathlib.Numerals.{add-one}
use native.Mathlib.Omega.{arith}
use lib.ListN.{length, take, get_or, set, length-append}
use lib.Seq.{take_all, take-append-le, take-suc-set, get_or-take}
use lib.Dec.{leb, eqb}
use borrow.Author.Tests.{ltb-true, ltb-false, lt-ltb, le-ltb, leb-true, le-leb, lt-leb}
use Rattle.layout.specs.Pick.{pick}
use Rattle.fields.specs.declared.reader.Reader.{Reader}
use Rattle.fields.specs.declared.reader.Front.{Front}
use Rattle.fields.specs.Trace.{Kept, line_read, front_of}

-- what is read of the bytes kept, by their front
unfoldable pub read_by : {A : Type 0} → (List ℕ → A) → A → A → List ℕ → Front → A
read_by says comment bad line Front.Comment = comment
read_by says comment bad line Front.Bad = bad
read_by says comment bad line (Front.Text n) = says (take n line)

module _ {r : Reader} {line bytes : List ℕ} (k : Kept r line bytes) where
  -- a byte more where 4,096 are kept: it is not
  pub full : (b : ℕ) → 4096 ≤ r.kept → Kept (record { kept = r.kept; long = true }) line (bytes ++ (b ∷ []))
  full b h =
      let long : length (bytes ++ (b ∷ [])) ≡ length bytes + 1 = length-append bytes (b ∷ []) in
      let n = k.count in
      record {
        count = omega arith;
        longer = sym (lt-ltb 4096 (length (bytes ++ (b ∷ []))) (omega arith));
        same = k.same ∙ sym (take-append-le 4096 bytes (b ∷ []) (omega arith));
      }

  -- a byte more where fewer are: it is stored behind them
  pub stored : (b : ℕ) → r.kept < 4096 → r.kept < length line
      → Kept (record { kept = r.kept + 1; long = r.long }) (set line r.kept b) (bytes ++ (b ∷ []))
  stored b h room =
      let long : length (bytes ++ (b ∷ [])) ≡ length bytes + 1 = length-append bytes (b ∷ []) in
      let n = k.count in
      record {
        count = omega arith;
        longer = k.longer ∙ le-ltb 4096 (length bytes) (omega arith) ∙ sym (le-ltb 4096 (length (bytes ++ (b ∷ []))) (omega arith));
        same =
            rw add-one (take-suc-set line r.kept b room)
            ∙ ap (λ (l : List ℕ). l ++ (b ∷ [])) (k.same ∙ take_all 4096 bytes (omega arith))
            ∙ sym (take_all 4096 (bytes ++ (b ∷ [])) (omega arith));
      }

  -- a longer line is read by its first byte
  module _ (long : r.long ≡ true) where
    past : 4096 < length bytes
    past = ltb-true 4096 (length bytes) (sym k.longer ∙ long)

    first : get_or line 0 0 ≡ get_or bytes 0 0
    first =
        let n = k.count in
        let p = past in
        sym (get_or-take r.kept line 0 0 (omega arith)) ∙ ap (λ (l : List ℕ). get_or l 0 0) k.same ∙ get_or-take 4096 bytes 0 0 (omega arith)

    pub cut_short : front_of bytes ≡ pick (eqb (get_or line 0 0) 35) Front.Comment Front.Bad
    unfolding front_of line_read pick
    cut_short = rw (lt-leb (length bytes) 4096 past, first)

  -- another is kept whole
  pub kept_whole : length bytes ≤ 4096 → take r.kept line ≡ bytes
  kept_whole h = k.same ∙ take_all 4096 bytes h

  pub read_whole : r.long ≡ false → front_of bytes ≡ Front.Text r.kept
  unfolding front_of line_read pick
  read_whole whole =
      let within : length bytes ≤ 4096 = ltb-false 4096 (length bytes) (sym k.longer ∙ whole) in
      let n = k.count in
      let same : length bytes ≡ r.kept = omega arith in
      rw (le-leb (length bytes) 4096 within, same)

  -- what the front says is what the line says
  module _ {A : Type 0} (says : List ℕ → A) (comment bad : A) where
    by_front : (t u : Bool) → (t ≡ true → take (length bytes) line ≡ bytes)
        → read_by says comment bad line (pick t (Front.Text (length bytes)) (pick u Front.Comment Front.Bad)) ≡ pick t (says bytes) (pick u comment bad)
    unfolding read_by pick
    by_front true u w = ap says (w refl)
    by_front false true w = refl
    by_front false false w = refl

    whole : leb (length bytes) 4096 ≡ true → take (length bytes) line ≡ bytes
    whole t =
        let within = leb-true (length bytes) 4096 t in
        let n = k.count in
        let same : length bytes ≡ r.kept = omega arith in
        rw same (kept_whole within)

    pub fronted : {f : Front} → f ≡ front_of bytes → read_by says comment bad line f ≡ line_read says comment bad bytes
    unfolding front_of line_read
    fronted e = rw e (by_front (leb (length bytes) 4096) (eqb (get_or bytes 0 0) 35) whole)
