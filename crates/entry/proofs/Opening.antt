-- From what the parts of `open_words` ensure to what it ensures: as of lent records (opening's Opens), with as many rows as the words hold.
use mathlib.Core.Path.{◌≡◌, refl, sym, ap, ◌∙◌, subst}
use mathlib.Core.Bool.{Bool, true, false}
use mathlib.Core.List.{List, ◌++◌}
use Prim.Native.Nat.{ℕ, ◌+◌, ◌-◌, ◌*◌, ◌/◌, ◌≤◌, min}
use native.Mathlib.Nat.{min-le_left, min-le_right, le_trans}
use native.Mathlib.Omega.{arith}
use lib.ListN.{length, drop, replicate, length-replicate}
use lib.Seq.{drop-drop, drop-append-add}
use Rattle.std.specs.declared.option.Option.{Option}
use Rattle.std.specs.declared.option.Option.TheVariants.{None, Some}
use Rattle.std.specs.declared.result.Result.TheVariants.{Err}
use Rattle.layout.specs.Pick.{pick}
use Rattle.completion.specs.declared.Refusal.{Refusal}
use Rattle.model.specs.declared.Opening.{Opening}
use Rattle.memory.specs.Lengths.{lengths_with}
use Rattle.opening.specs.Prepared.{Prepared}
use Rattle.opening.specs.Opened.{opened_with, Opened}
use Rattle.opening.proofs.Opens.{opens_to, rows_by}
use Rattle.abi.specs.RowWords.{rows_in, rows_cleared}
use Rattle.abi.proofs.Laws.{count, cleared_is, cleared_long}
use Rattle.entry.specs.WordCalls.{OpensInWords}

-- the words that are cleared, of so many rows as were prepared
abbrev pub words_by : List ℕ → Option ℕ → List ℕ
words_by rows None = rows
words_by rows (Some depth) = rows_cleared (min depth (length rows / 16)) rows

pub none_cleared : (rows : List ℕ) (depth : Option ℕ) → ((n : ℕ) → depth ≡ Some n → ⊥) → rows ≡ words_by rows depth
none_cleared rows None other = refl
none_cleared rows (Some n) other = absurd (other n refl)

-- what is behind the cleared rows stays
cleared_behind : (n d : ℕ) (rows : List ℕ) → n ≤ d → drop (16 * d) (rows_cleared n rows) ≡ drop (16 * d) rows
cleared_behind n d rows le =
    let more : 16 * d ≡ length (replicate {A = ℕ} (16 * n) 0) + (16 * d - 16 * n) = omega (arith, le, length-replicate {A = ℕ} (16 * n) 0) in
    let all : 16 * n + (16 * d - 16 * n) ≡ 16 * d = omega (arith, le) in
    ap (drop (16 * d)) (cleared_is n rows)
    ∙ ap (λ (k : ℕ). drop k (replicate (16 * n) 0 ++ drop (16 * n) rows)) more
    ∙ drop-append-add (replicate (16 * n) 0) (drop (16 * n) rows) (16 * d - 16 * n)
    ∙ drop-drop (16 * d - 16 * n) (16 * n) rows
    ∙ ap (λ (k : ℕ). drop k rows) all

-- a refused opening has no depth
refused_depth : (depth : Option ℕ) (f : Refusal) → opened_with depth ≡ Err f → depth ≡ None
unfolding opened_with
refused_depth None f e = refl
refused_depth (Some n) f e = absurd (cc)

-- the depth of an opening is the one asked for
depth_most : (t : Bool) (n d : ℕ) → Some n ≡ pick t (Some d) None → n ≤ d
unfolding pick
depth_most true n d e = let same : n ≡ d = cc in omega arith
depth_most false n d e = absurd (cc)

behind_by : (rows : List ℕ) (depth : Option ℕ) (t : Bool) (d : ℕ) → depth ≡ pick t (Some d) None → drop (16 * d) (words_by rows depth) ≡ drop (16 * d) rows
behind_by rows None t d e = refl
behind_by rows (Some n) t d e = cleared_behind _ d rows (le_trans (min-le_left n (length rows / 16)) (depth_most t n d e))

long_by : (rows : List ℕ) (depth : Option ℕ) → length (words_by rows depth) ≡ length rows
long_by rows None = refl
long_by rows (Some n) = cleared_long _ rows (min-le_right n (length rows / 16))

pub opens_words : (o : Opening) (plan rows store free ready owners pool : List ℕ) (depth : Option ℕ) (r : Opened) (rows' store' free' ready' owners' : List ℕ)
    → Prepared o plan (lengths_with (length rows / 16) store free ready owners (length pool)) depth store free ready owners store' free' ready' owners'
    → rows_in rows' ≡ rows_by o plan (rows_in rows) store free ready owners pool depth → rows' ≡ words_by rows depth → r ≡ opened_with depth
    → OpensInWords o plan rows store free ready owners pool r rows' store' free' ready' owners'
opens_words o plan rows store free ready owners pool depth r rows' store' free' ready' owners' p e-rows e-words e-reply =
    record {
      opens = opens_to o plan (rows_in rows) store free ready owners pool depth r (rows_in rows') store' free' ready' owners'
          (subst (λ (k : ℕ). Prepared o plan (lengths_with k store free ready owners (length pool)) depth store free ready owners store' free' ready' owners') (sym (count rows)) p) e-rows e-reply;
      turned_away = λ f e.
          e-words ∙ ap (words_by rows) (refused_depth depth f (sym e-reply ∙ e));
      behind = ap (drop (16 * o.depth)) e-words ∙ behind_by rows depth _ o.depth p.depth_is;
      long = ap length e-words ∙ long_by rows depth;
    }
