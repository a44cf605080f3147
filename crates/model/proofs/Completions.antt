-- A completion is read back from its words, by cases on its outcome: each word is read where it was written, and a number below 2^32 is its own
-- low 32 bits.
use mathlib.Core.Path.{◌≡◌, refl, sym, ap, ap₂, ◌∙◌}
use mathlib.Core.List.{List, [], ◌∷◌, ◌++◌}
use Prim.Native.Nat.{ℕ, ◌+◌, ◌%◌, ◌^◌}
use native.Mathlib.Nat.{mod-eq_of_lt}
use native.Mathlib.Omega.{arith}
use lib.ListN.{length, get_or, length-append}
use lib.Seq.{get_or-append-add}
use Rattle.layout.specs.Pick.{pick}
use Rattle.domain.specs.declared.Op.{Op}
use Rattle.domain.specs.declared.Op.TheVariants.{None as noOp, Read as readOp, Write as writeOp, Flush as flushOp}
use Rattle.std.specs.declared.option.Option.{Option}
use Rattle.std.specs.declared.option.Option.TheVariants.{None, Some}
use Rattle.domain.specs.declared.FirstCause.{FirstCause}
use Rattle.completion.specs.declared.WriteTicket.{WriteTicket}
use Rattle.completion.specs.declared.Outcome.{Outcome}
use Rattle.completion.specs.declared.Outcome.TheVariants.{Written, Receipt, Read, Unknown, Interrupted, Corruption, Io, QueueFull, Poisoned as poisoned_by}
use Rattle.completion.specs.Buffers.{Buffer}
use Rattle.std.specs.declared.option.Option.TheVariants.{Some as Back, None as Lost}
use Rattle.completion.specs.declared.Completion.{Completion}
use Rattle.model.specs.declared.Opening.{Opening}
use Rattle.model.specs.Memory.{flag, op_in, error_in, cause_in, range_in, ticket_in, outcome_in, buffer_in, completion_in, op_word, has_word, raw_word, outcome_words, buffer_words, generation_word, completion_words, ErrorFits, TicketOf, OutcomeFits, CompletionFits}
use Rattle.model.specs.State.{receipt_made}
use Rattle.model.specs.Laws.{CompletionLaws}

-- a cause is read back from its words
op_read : (op : Op) → op_in (op_word op) ≡ op
unfolding op_in op_word pick
op_read noOp = refl
op_read readOp = refl
op_read writeOp = refl
op_read flushOp = refl

error_read : (e : Option ℕ) → ErrorFits e → error_in (has_word e) (raw_word e) ≡ e
unfolding error_in has_word raw_word ErrorFits flag pick
error_read None f = refl
error_read (Some n) f = ap Some (mod-eq_of_lt f)

pub cause_read : (e : FirstCause) → ErrorFits e.raw → cause_in (op_word e.op) (has_word e.raw) (raw_word e.raw) ≡ e
unfolding cause_in
cause_read e f = λ i. record { op = op_read e.op i; raw = error_read e.raw f i }

-- what stands behind an outcome's words and a buffer's
outcome_long : (x : Outcome) → length (outcome_words x) ≡ 9
unfolding outcome_words
outcome_long (Written t) = refl
outcome_long (Receipt t d) = refl
outcome_long (Read n) = refl
outcome_long (Unknown r e) = refl
outcome_long (Interrupted r) = refl
outcome_long (Corruption r) = refl
outcome_long (Io r op n) = refl
outcome_long (QueueFull r) = refl
outcome_long (poisoned_by e) = refl

buffer_long : (b : Buffer) → length (buffer_words b) ≡ 3
unfolding buffer_words
buffer_long (Back h) = refl
buffer_long Lost = refl

behind : (xs ys : List ℕ) (k n j : ℕ) → length xs ≡ k → k + n ≡ j → get_or (xs ++ ys) j 0 ≡ get_or ys n 0
behind xs ys k n j e f = ap (λ (m : ℕ). get_or (xs ++ ys) m 0) (sym (ap (λ (m : ℕ). m + n) e ∙ f)) ∙ get_or-append-add xs ys n 0

long : (c : Completion) → length (completion_words c) ≡ 16
unfolding completion_words
long c =
    let rest : List ℕ = generation_word c.outcome ∷ 0 ∷ 0 ∷ [] in
    omega (arith, length-append (outcome_words c.outcome) (buffer_words c.buf ++ rest), length-append (buffer_words c.buf) rest, outcome_long c.outcome, buffer_long c.buf)

buffer_read : (b : Buffer) (rest : List ℕ) → buffer_in (get_or (buffer_words b ++ rest) 0 0) (get_or (buffer_words b ++ rest) 1 0) (get_or (buffer_words b ++ rest) 2 0) ≡ b
unfolding buffer_in buffer_words flag pick
buffer_read (Back h) rest = refl
buffer_read Lost rest = refl

-- a ticket, of its words
ticket_read : (o : Opening) (t : WriteTicket) (n : ℕ) → TicketOf o t → n ≡ t.generation
    → record { volume = o.volume; region = t.region; generation = n % 2 ^ 32; start = t.start; end = t.end; need = t.need; epoch = o.epoch } ≡ t
ticket_read o t n f e = λ i. record {
  volume = sym f.volume i;
  region = t.region;
  generation = (ap (λ (k : ℕ). k % 2 ^ 32) e ∙ mod-eq_of_lt f.generation) i;
  start = t.start;
  end = t.end;
  need = t.need;
  epoch = sym f.epoch i;
}

-- the outcome, in the words of a completion that has it
module _ (o : Opening) (tag : ℕ) (buf : Buffer) where
  abbrev words_of : Outcome → List ℕ
  words_of x = completion_words (record { tag = tag; outcome = x; buf = buf })

  outcome_read : (x : Outcome) → OutcomeFits o x → outcome_in o (words_of x) ≡ x
  unfolding completion_words outcome_words generation_word outcome_in ticket_in range_in OutcomeFits pick
  outcome_read (Written t) f = ap Written (ticket_read o t _ f (behind (buffer_words buf) _ 3 0 3 (buffer_long buf) refl))
  outcome_read (Receipt t d) f =
      let ticket = ticket_read o t _ f.0 (behind (buffer_words buf) (t.generation ∷ 0 ∷ 0 ∷ []) 3 0 3 (buffer_long buf) refl) in
      (λ i. Receipt (ticket i) (receipt_made o (ticket i) d.need)) ∙ ap (Receipt t) (sym f.1)
  outcome_read (Read n) f = refl
  outcome_read (Unknown r e) f = ap (Unknown r) (cause_read e f)
  outcome_read (Interrupted r) f = refl
  outcome_read (Corruption r) f = refl
  outcome_read (Io r op n) f = ap₂ (Io r) (op_read op) (mod-eq_of_lt f)
  outcome_read (QueueFull r) f = refl
  outcome_read (poisoned_by e) f = ap poisoned_by (cause_read e f)

-- the buffer, behind the tag and the outcome's words
buffer_behind : (c : Completion) → buffer_in (get_or (completion_words c) 10 0) (get_or (completion_words c) 11 0) (get_or (completion_words c) 12 0) ≡ c.buf
unfolding completion_words
buffer_behind c = (λ i. buffer_in (at 0 9 refl i) (at 1 10 refl i) (at 2 11 refl i)) ∙ buffer_read c.buf rest
  where
    rest : List ℕ
    rest = generation_word c.outcome ∷ 0 ∷ 0 ∷ []

    at : (k j : ℕ) → 9 + k ≡ j → get_or (outcome_words c.outcome ++ (buffer_words c.buf ++ rest)) j 0 ≡ get_or (buffer_words c.buf ++ rest) k 0
    at k j e = behind (outcome_words c.outcome) (buffer_words c.buf ++ rest) 9 k j (outcome_long c.outcome) e

held : (o : Opening) (c : Completion) → CompletionFits o c → completion_in o (completion_words c) ≡ c
unfolding completion_in completion_words
held o c f = λ i. record { tag = c.tag; outcome = outcome_read o c.tag c.buf c.outcome f.outcome i; buf = buffer_behind c i }

pub completion_laws : CompletionLaws
completion_laws = record { long = long; held = held }
