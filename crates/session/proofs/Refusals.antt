-- A line after a refusal: by what the line says, the definition computes.
use mathlib.Core.Path.{◌≡◌, refl, sym, ap, ◌∙◌}
use mathlib.Core.List.{List, []}
use Prim.Native.Nat.{ℕ}
use Rattle.parser.specs.declared.forms.Said.{Said}
use Rattle.parser.specs.declared.forms.Said.TheVariants.{Comment, Call, Own, Count, Look, Len, Fill, Sum, Rows, Bad}
use Rattle.parser.specs.Said.{said_read}
use Rattle.printer.specs.Texts.{bad_text}
use Rattle.session.specs.Unopened.{no_text13}
use Rattle.session.specs.Opened.{refused_line}

module _ (said : Said) (bytes : List ℕ) (read : said ≡ said_read bytes) (n : ℕ) where
  abbrev Says : List ℕ → Type 0
  Says text = text ≡ refused_line (said_read bytes) n

  pub comment_refused : said ≡ Comment → Says []
  unfolding refused_line
  comment_refused e = ap (λ (x : Said). refused_line x n) (sym e ∙ read)

  pub bad_refused : said ≡ Bad → (text : List ℕ) → text ≡ bad_text n → Says text
  unfolding refused_line
  bad_refused e text p = p ∙ ap (λ (x : Said). refused_line x n) (sym e ∙ read)

call_refused : (said : Said) → (said ≡ Comment → ⊥) → (said ≡ Bad → ⊥) → (n : ℕ) → no_text13 ≡ refused_line said n
unfolding refused_line
call_refused Comment w v n = absurd (w refl)
call_refused (Call c) w v n = refl
call_refused (Own x b p l d t) w v n = refl
call_refused (Count t k) w v n = refl
call_refused (Look x) w v n = refl
call_refused Len w v n = refl
call_refused (Fill b a l x) w v n = refl
call_refused (Sum b a l) w v n = refl
call_refused Rows w v n = refl
call_refused Bad w v n = absurd (v refl)

pub said_refused : (said : Said) (bytes : List ℕ) → said ≡ said_read bytes → (n : ℕ) → (said ≡ Comment → ⊥) → (said ≡ Bad → ⊥) → (text : List ℕ) → text ≡ no_text13 → text ≡ refused_line (said_read bytes) n
said_refused said bytes read n w v text p = p ∙ call_refused said w v n ∙ ap (λ (x : Said). refused_line x n) read
