-- What the table says of a line once its number of fields and its first word are known: the rows of another number or another word do not fit, by
-- computing, and the one that is left says what its fields say.
use mathlib.Core.Path.{◌≡◌}
use mathlib.Core.Bool.{true, false, ◌&&◌}
use mathlib.Core.List.{List, [], ◌∷◌}
use Prim.Native.Nat.{ℕ}
use lib.ListN.{get_or}
use lib.Dec.{leb}
use borrow.Author.Tests.{eq-eqb, ne_eqb}
use Rattle.layout.specs.Pick.{pick}
use Rattle.platform.specs.declared.Answer.TheVariants.{Count as counted, Error, Refused, RefusedWith}
use Rattle.platform.specs.declared.Flushed.TheVariants.{Need, Unknown, Poisoned}
use Rattle.model.specs.declared.Call.TheVariants.{Write, ReadPage, Flushed, Take, SetGate, SetReadOnly, SetForced, ReportPoison}
use Rattle.model.specs.declared.Lookup.TheVariants.{WritesLive, Mark}
use Rattle.fields.specs.Fields.{spaces, field, is_number, eq_bytes, word_in, num, are_numbers, is_flag}
use Rattle.fields.proofs.Alike.{same_list}
use Rattle.parser.specs.declared.forms.Said.TheVariants.{Comment, Call, Count, Look, Len, Fill, Sum, Rows, Bad}
use Rattle.parser.specs.Values.{is_raw, raw_in, is_cause, cause_in, gate_in, flag_in, request_in}
use Rattle.parser.specs.Said.{own_in, is_answered, answer_in, gate_word, ro_word, force_word, poison_word, writes_word, mark_word, len_word, fill_word, sum_word, rows_word, forms, says_of, said_in}

module _ (cs : List ℕ) where
  pub take_line : spaces cs ≡ 0 → word_in 0 (116 ∷ []) cs ≡ true → Call Take ≡ says_of (forms cs)
  unfolding says_of forms pick word_in eq_bytes
  take_line n w = rw (n, same_list (field 0 cs) (116 ∷ []) w)

  pub writes_line : spaces cs ≡ 0 → word_in 0 writes_word cs ≡ true → Look WritesLive ≡ says_of (forms cs)
  unfolding says_of forms pick word_in eq_bytes
  writes_line n w = rw (n, same_list (field 0 cs) writes_word w)

  pub mark_line : spaces cs ≡ 0 → word_in 0 mark_word cs ≡ true → Look Mark ≡ says_of (forms cs)
  unfolding says_of forms pick word_in eq_bytes
  mark_line n w = rw (n, same_list (field 0 cs) mark_word w)

  pub len_line : spaces cs ≡ 0 → word_in 0 len_word cs ≡ true → Len ≡ says_of (forms cs)
  unfolding says_of forms pick word_in eq_bytes
  len_line n w = rw (n, same_list (field 0 cs) len_word w)

  pub rows_line : spaces cs ≡ 0 → word_in 0 rows_word cs ≡ true → Rows ≡ says_of (forms cs)
  unfolding says_of forms pick word_in eq_bytes
  rows_line n w = rw (n, same_list (field 0 cs) rows_word w)

  pub count_line : spaces cs ≡ 2 → word_in 0 (97 ∷ []) cs ≡ true → pick (are_numbers 2 cs) (Count (num 1 cs) (num 2 cs)) Bad ≡ says_of (forms cs)
  unfolding says_of forms pick word_in eq_bytes
  count_line n w = rw (n, same_list (field 0 cs) (97 ∷ []) w)

  pub gate_line : spaces cs ≡ 2 → word_in 0 gate_word cs ≡ true → pick (are_numbers 2 cs && leb (num 2 cs) 2) (Call (SetGate (num 1 cs) (gate_in 2 cs))) Bad ≡ says_of (forms cs)
  unfolding says_of forms pick word_in eq_bytes
  gate_line n w = rw (n, same_list (field 0 cs) gate_word w)

  pub ro_line : spaces cs ≡ 2 → word_in 0 ro_word cs ≡ true → pick (are_numbers 2 cs && is_flag 2 cs) (Call (SetReadOnly (num 1 cs) (flag_in 2 cs))) Bad ≡ says_of (forms cs)
  unfolding says_of forms pick word_in eq_bytes
  ro_line n w = rw (n, same_list (field 0 cs) ro_word w)

  pub force_line : spaces cs ≡ 2 → word_in 0 force_word cs ≡ true → pick (are_numbers 2 cs && is_flag 2 cs) (Call (SetForced (num 1 cs) (flag_in 2 cs))) Bad ≡ says_of (forms cs)
  unfolding says_of forms pick word_in eq_bytes
  force_line n w = rw (n, same_list (field 0 cs) force_word w)

  pub poison_line : spaces cs ≡ 2 → word_in 0 poison_word cs ≡ true → pick (is_cause 1 2 cs) (Call (ReportPoison (cause_in 1 2 cs))) Bad ≡ says_of (forms cs)
  unfolding says_of forms pick word_in eq_bytes
  poison_line n w = rw (n, same_list (field 0 cs) poison_word w)

  pub need_line : spaces cs ≡ 3 → word_in 0 (102 ∷ []) cs ≡ true → pick (word_in 2 (110 ∷ []) cs && (are_numbers 1 cs && is_number (field 3 cs))) (Call (Flushed (num 1 cs) (Need (num 3 cs)))) Bad ≡ says_of (forms cs)
  unfolding says_of forms pick word_in eq_bytes
  need_line n w = rw (n, same_list (field 0 cs) (102 ∷ []) w)

  pub sum_line : spaces cs ≡ 3 → word_in 0 sum_word cs ≡ true → pick (are_numbers 3 cs) (Sum (num 1 cs) (num 2 cs) (num 3 cs)) Bad ≡ says_of (forms cs)
  unfolding says_of forms pick word_in eq_bytes
  sum_line n w = rw (n, same_list (field 0 cs) sum_word w)

  pub refused_line_lem : spaces cs ≡ 4 → word_in 0 (65 ∷ []) cs ≡ true → pick (word_in 4 (113 ∷ []) cs && is_answered cs) (answer_in Refused cs) Bad ≡ says_of (forms cs)
  unfolding says_of forms pick word_in eq_bytes
  refused_line_lem n w = rw (n, same_list (field 0 cs) (65 ∷ []) w)

  pub fill_line : spaces cs ≡ 4 → word_in 0 fill_word cs ≡ true → pick (are_numbers 4 cs) (Fill (num 1 cs) (num 2 cs) (num 3 cs) (num 4 cs)) Bad ≡ says_of (forms cs)
  unfolding says_of forms pick word_in eq_bytes
  fill_line n w = rw (n, same_list (field 0 cs) fill_word w)

  pub write_line : spaces cs ≡ 5 → word_in 0 (119 ∷ []) cs ≡ true → pick (are_numbers 5 cs && is_flag 4 cs) (own_in true cs) Bad ≡ says_of (forms cs)
  unfolding says_of forms pick word_in eq_bytes
  write_line n w = rw (n, same_list (field 0 cs) (119 ∷ []) w)

  pub read_line : spaces cs ≡ 5 → word_in 0 (114 ∷ []) cs ≡ true → pick (are_numbers 5 cs && is_flag 4 cs) (own_in false cs) Bad ≡ says_of (forms cs)
  unfolding says_of forms pick word_in eq_bytes
  read_line n w = rw (n, same_list (field 0 cs) (114 ∷ []) w)

  pub counted_line : spaces cs ≡ 5 → word_in 0 (65 ∷ []) cs ≡ true → pick (word_in 4 (99 ∷ []) cs && is_number (field 5 cs) && is_answered cs) (answer_in (counted (num 5 cs)) cs) Bad ≡ says_of (forms cs)
  unfolding says_of forms pick word_in eq_bytes
  counted_line n w = rw (n, same_list (field 0 cs) (65 ∷ []) w)

  pub write_page_line : spaces cs ≡ 9 → word_in 0 (87 ∷ []) cs ≡ true → pick (are_numbers 9 cs && is_flag 8 cs) (Call (Write (request_in cs))) Bad ≡ says_of (forms cs)
  unfolding says_of forms pick word_in eq_bytes
  write_page_line n w = rw (n, same_list (field 0 cs) (87 ∷ []) w)

  pub read_page_line : spaces cs ≡ 9 → word_in 0 (82 ∷ []) cs ≡ true → pick (are_numbers 9 cs && is_flag 8 cs) (Call (ReadPage (request_in cs))) Bad ≡ says_of (forms cs)
  unfolding says_of forms pick word_in eq_bytes
  read_page_line n w = rw (n, same_list (field 0 cs) (82 ∷ []) w)

  -- by the first word and a later one
  pub unknown_line : spaces cs ≡ 4 → word_in 0 (102 ∷ []) cs ≡ true → word_in 2 (117 ∷ []) cs ≡ true → pick (are_numbers 1 cs && is_cause 3 4 cs) (Call (Flushed (num 1 cs) (Unknown (cause_in 3 4 cs)))) Bad ≡ says_of (forms cs)
  unfolding says_of forms pick word_in eq_bytes
  unknown_line n w v = rw (n, same_list (field 0 cs) (102 ∷ []) w, same_list (field 2 cs) (117 ∷ []) v)

  pub poisoned_line : spaces cs ≡ 4 → word_in 0 (102 ∷ []) cs ≡ true → word_in 2 (112 ∷ []) cs ≡ true → pick (are_numbers 1 cs && is_cause 3 4 cs) (Call (Flushed (num 1 cs) (Poisoned (cause_in 3 4 cs)))) Bad ≡ says_of (forms cs)
  unfolding says_of forms pick word_in eq_bytes
  poisoned_line n w v = rw (n, same_list (field 0 cs) (102 ∷ []) w, same_list (field 2 cs) (112 ∷ []) v)

  pub error_line : spaces cs ≡ 6 → word_in 0 (65 ∷ []) cs ≡ true → word_in 4 (101 ∷ []) cs ≡ true → pick ((is_raw 5 cs && is_flag 6 cs) && is_answered cs) (answer_in (Error (raw_in 5 cs) (flag_in 6 cs)) cs) Bad ≡ says_of (forms cs)
  unfolding says_of forms pick word_in eq_bytes
  error_line n w v = rw (n, same_list (field 0 cs) (65 ∷ []) w, same_list (field 4 cs) (101 ∷ []) v)

  pub refused_with_line : spaces cs ≡ 6 → word_in 0 (65 ∷ []) cs ≡ true → word_in 4 (120 ∷ []) cs ≡ true → pick ((is_raw 5 cs && is_flag 6 cs) && is_answered cs) (answer_in (RefusedWith (raw_in 5 cs) (flag_in 6 cs)) cs) Bad ≡ says_of (forms cs)
  unfolding says_of forms pick word_in eq_bytes
  refused_with_line n w v = rw (n, same_list (field 0 cs) (65 ∷ []) w, same_list (field 4 cs) (120 ∷ []) v)

  -- of other words
  pub no_word : spaces cs ≡ 0 → word_in 0 (116 ∷ []) cs ≡ false → word_in 0 writes_word cs ≡ false → word_in 0 mark_word cs ≡ false → word_in 0 len_word cs ≡ false → word_in 0 rows_word cs ≡ false → Bad ≡ says_of (forms cs)
  unfolding says_of forms pick
  no_word n a b c d e = rw (n, a, b, c, d, e)

  pub no_two : spaces cs ≡ 2 → word_in 0 (97 ∷ []) cs ≡ false → word_in 0 gate_word cs ≡ false → word_in 0 poison_word cs ≡ false → word_in 0 ro_word cs ≡ false → word_in 0 force_word cs ≡ false → Bad ≡ says_of (forms cs)
  unfolding says_of forms pick
  no_two n a b c d e = rw (n, a, b, c, d, e)

  pub no_three : spaces cs ≡ 3 → word_in 0 (102 ∷ []) cs ≡ false → word_in 0 sum_word cs ≡ false → Bad ≡ says_of (forms cs)
  unfolding says_of forms pick
  no_three n a b = rw (n, a, b)

  pub no_failure : spaces cs ≡ 4 → word_in 0 (102 ∷ []) cs ≡ true → word_in 2 (117 ∷ []) cs ≡ false → word_in 2 (112 ∷ []) cs ≡ false → Bad ≡ says_of (forms cs)
  unfolding says_of forms pick word_in eq_bytes
  no_failure n w a b = rw (n, same_list (field 0 cs) (102 ∷ []) w, a, b)

  pub no_four : spaces cs ≡ 4 → word_in 0 (65 ∷ []) cs ≡ false → word_in 0 (102 ∷ []) cs ≡ false → word_in 0 fill_word cs ≡ false → Bad ≡ says_of (forms cs)
  unfolding says_of forms pick
  no_four n a b c = rw (n, a, b, c)

  pub no_five : spaces cs ≡ 5 → word_in 0 (119 ∷ []) cs ≡ false → word_in 0 (114 ∷ []) cs ≡ false → word_in 0 (65 ∷ []) cs ≡ false → Bad ≡ says_of (forms cs)
  unfolding says_of forms pick
  no_five n a b c = rw (n, a, b, c)

  pub no_six : spaces cs ≡ 6 → word_in 0 (65 ∷ []) cs ≡ false → Bad ≡ says_of (forms cs)
  unfolding says_of forms pick
  no_six n a = rw (n, a)

  pub no_error : spaces cs ≡ 6 → word_in 0 (65 ∷ []) cs ≡ true → word_in 4 (101 ∷ []) cs ≡ false → word_in 4 (120 ∷ []) cs ≡ false → Bad ≡ says_of (forms cs)
  unfolding says_of forms pick
  no_error n a b c = rw (n, a, b, c)

  pub no_nine : spaces cs ≡ 9 → word_in 0 (87 ∷ []) cs ≡ false → word_in 0 (82 ∷ []) cs ≡ false → Bad ≡ says_of (forms cs)
  unfolding says_of forms pick
  no_nine n a b = rw (n, a, b)

  -- of another number of fields
  pub no_number : (spaces cs ≡ 0 → ⊥) → (spaces cs ≡ 2 → ⊥) → (spaces cs ≡ 3 → ⊥) → (spaces cs ≡ 4 → ⊥) → (spaces cs ≡ 5 → ⊥) → (spaces cs ≡ 6 → ⊥) → (spaces cs ≡ 9 → ⊥) → Bad ≡ says_of (forms cs)
  unfolding says_of forms pick
  no_number a b c d e f g =
      rw (
        ne_eqb (spaces cs) 0 a,
        ne_eqb (spaces cs) 2 b,
        ne_eqb (spaces cs) 3 c,
        ne_eqb (spaces cs) 4 d,
        ne_eqb (spaces cs) 5 e,
        ne_eqb (spaces cs) 6 f,
        ne_eqb (spaces cs) 9 g,
      )

  -- a line that starts with `#`, and any other
  pub comment_line : get_or cs 0 0 ≡ 35 → Comment ≡ said_in cs
  unfolding said_in pick
  comment_line e = rw (eq-eqb (get_or cs 0 0) 35 e)

  pub no_comment : (get_or cs 0 0 ≡ 35 → ⊥) → says_of (forms cs) ≡ said_in cs
  unfolding said_in pick
  no_comment n = rw (ne_eqb (get_or cs 0 0) 35 n)
