-- `Table::finish` is `step`'s answer: of a piece that is the whole operation, of one with bytes left behind it, and of the last.
use mathlib.Core.Path.{◌≡◌, refl, ap, sym, ◌∙◌}
use mathlib.Core.Bool.{Bool, true, false, not, ◌&&◌}
use mathlib.Core.List.{List}
use mathlib.Core.Option.{Option, none, some}
use Prim.Native.Nat.{ℕ, ◌+◌, ◌-◌, ◌≤◌, ◌<◌, min}
use native.Mathlib.Decide.{ℕ_discrete}
use native.Mathlib.Omega.{arith}
use borrow.Author.Tests.{ltb-true, ltb-false, lt-ltb, le-ltb}
use lib.Dec.{ltb, eqb}
use lib.ListN.{length}
use Rattle.layout.specs.Pick.{pick}
use Rattle.layout.proofs.Tests.{not_both, true_or_false, and_left, and_right}
use mathlib.Core.Logic.{◌⊎◌, inl, inr}
use Rattle.regionmap.specs.Map.{piece_size}
use Rattle.regionmap.specs.Laws.{Lawful}
use Rattle.iobuf.specs.Turn.{turned}
use Rattle.iobuf.proofs.Laws.{turn_laws}
use Rattle.platform.specs.declared.Answer.{Answer}
use Rattle.platform.specs.declared.Answer.TheVariants.{Count, Error as Failed, Refused, RefusedWith}
use Rattle.completion.specs.Numbers.{number}
use Rattle.model.specs.declared.Lengths.{Lengths}
use Rattle.model.specs.declared.Kind.{Kind}
use Rattle.model.specs.declared.Kind.TheVariants.{Page, Read as Reads}
use Rattle.model.specs.declared.Split.{Split}
use Rattle.model.specs.declared.Awaits.{Awaits}
use Rattle.model.specs.declared.Awaits.TheVariants.{Nothing, Piece, Flush as AwaitsFlush}
use Rattle.model.specs.declared.Row.{Row}
use Rattle.model.specs.declared.Call.TheVariants.{Answer as Answers}
use Rattle.model.specs.State.{Region, State}
use Rattle.model.specs.Opening.{Plan}
use Rattle.step.specs.Questions.{region_at}
use Rattle.step.specs.Rules.{left_of, first_of, piece_of, piece_length, Input.answered as fedAnswer, Fate, Fate.awaits as awaitsFate, buffer_as, turned_back, last_piece, above_piece, is_refusal, first_refused, is_whole, goes_on, split_after, piece_answered, answer_rules, rules}
use Rattle.step.specs.Step.{row_at, row_of, names, bytes_at, plan_of, writes_in, awaits_now, going, asks_for, settled, fate_of, called, step}
use Rattle.step.specs.Sound.{Sound}
use Rattle.step.proofs.Picked.{by_pick}
use Rattle.step.proofs.Fates.{FateFits, fate_fits, goes_on_left}
use Rattle.step.proofs.QuietRules.{piece_most}
use Rattle.rusttable.specs.Table.{Result.Ok, Result.Err, IoBuf, RawResult, Live, Finish, Finish.Next, Submitter}
use Rattle.rusttable.specs.RegionMap.{run_left, locate}
use Rattle.rusttable.specs.Functions.{set_len, rotated, given, is_some, map_ok, len_of, returned, put, with_split, with_table, ok_is, last_one, next_one, conclude, finish, start_of, as_read, region}
use Rattle.rusttable.specs.Domain.{compared}
use Rattle.rusttable.specs.AsStep.{Finishes, buf_of, split_of, live_of, row_as, table_of, store_of, submitter_of, piece_in, in_flight, answer_of, finish_as}
use Rattle.rusttable.proofs.RegionMap.{map_as_rust}
use Rattle.rusttable.proofs.Rows.{Has, live_is, has_put, has_live}
use Rattle.rusttable.proofs.Handed.{buf_as, own_onward, onward_put}
use Rattle.rusttable.proofs.Concluding.{result_for, is_refused, within, carried, operation_of}
use Rattle.rusttable.proofs.Carried.{last_ended, carried_put, carried_settled}
use Rattle.rusttable.proofs.Turning.{turn_whole, next_turned, order_back}
use Rattle.rusttable.proofs.Pieces.{split_none, split_some, Placed, row_going, its_place, long, placed, its_live, there, has, some_bytes, Told, kind_ends}
use Rattle.rusttable.proofs.Within.{called_step, found_under}

and_false : (a : Bool) → (a && false) ≡ false
and_false true = refl
and_false false = refl

-- ---- answers that are no refusals

not_refusal : (result : RawResult) → is_refusal (answer_of result) ≡ false
unfolding answer_of is_refusal
not_refusal (Ok m) = refl
not_refusal (Err e) = refl

not_first : (sp : Split) (result : RawResult) → first_refused sp (answer_of result) ≡ false
unfolding first_refused
not_first sp result = rw (not_refusal result) (and_false (eqb sp.done 0))

told_result : (k : Kind) (result : RawResult) → Told k (answer_of result)
unfolding Told answer_of is_refused
told_result (Page a b) result = tt
told_result (Reads a b) (Ok m) = refl
told_result (Reads a b) (Err e) = refl

-- a count that is not above the piece is within what is left
pub count_within : (g : Plan) (k : Kind) (sp : Split) → sp.done < sp.total → (answer : Answer) → above_piece (piece_length g k sp) answer ≡ false → within sp answer
unfolding above_piece within
count_within g k sp left (Count m) e = let most = piece_most g k sp in let few = ltb-false (piece_length g k sp) m e in omega arith
count_within g k sp left (Failed e' media) e = tt
count_within g k sp left Refused e = tt
count_within g k sp left (RefusedWith e' media) e = tt

-- the result over the whole operation
whole_result : (sp : Split) (result : RawResult) → map_ok (λ m. sp.done + m) result ≡ result_for sp (answer_of result)
unfolding map_ok result_for answer_of
whole_result sp (Ok m) = refl
whole_result sp (Err e) = refl

first_result : (sp : Split) → sp.done ≡ 0 → (result : RawResult) → result ≡ result_for sp (answer_of result)
unfolding result_for answer_of
first_result sp e (Ok m) = ap Ok (let z : m ≡ sp.done + m = omega arith in z)
first_result sp e (Err x) = refl

-- ---- the Rust's test for the next piece is the rules'

left_alike : (done total piece : ℕ) → piece ≤ total - done → ltb 0 (total - done - min piece (total - done)) ≡ ltb (done + piece) total
left_alike done total piece most = by_case (true_or_false (ltb (done + piece) total))
  where
    by_case : (ltb (done + piece) total ≡ true) ⊎ (ltb (done + piece) total ≡ false) → ltb 0 (total - done - min piece (total - done)) ≡ ltb (done + piece) total
    by_case (inl e) = lt-ltb 0 (total - done - min piece (total - done)) (let lt = ltb-true (done + piece) total e in omega arith) ∙ sym e
    by_case (inr e) = le-ltb 0 (total - done - min piece (total - done)) (let le = ltb-false (done + piece) total e in omega arith) ∙ sym e

next_alike : (b : IoBuf) (sp : Split) → b.len ≤ left_of sp → (result : RawResult) (back : Bool)
    → ((is_some (returned back b) && ok_is result (len_of (returned back b))) && ltb 0 (left_of sp - min (len_of (returned back b)) (left_of sp))) ≡ goes_on b.len sp (answer_of result) back
unfolding returned is_some len_of ok_is goes_on is_whole answer_of
next_alike b sp most (Ok m) true = ap (λ (z : Bool). eqb m b.len && z) (left_alike sp.done sp.total b.len most)
next_alike b sp most (Err e) true = refl
next_alike b sp most (Ok m) false = sym (and_false (eqb m b.len))
next_alike b sp most (Err e) false = refl

-- ---- a live row

module _ (s : State) (i : Sound s) (n t : ℕ) (found : names (row_at s (row_of t)) t ≡ true) (k : Kind) (sp : Split) (awaits : (row_at s (row_of t)).awaits ≡ Piece k sp) (result : RawResult) (back : Bool) where
  abbrev row : Row
  row = row_at s (row_of t)

  abbrev g : Plan
  g = plan_of (region_at s row.handle)

  abbrev bytes : List ℕ
  bytes = bytes_at s row.buffer

  abbrev piece : ℕ
  piece = piece_length g k sp

  abbrev buf : IoBuf
  buf = buf_of s row.buffer piece

  abbrev last : Fate
  last = last_piece s.settings g (region_at s row.handle).forced s.poison row k sp bytes (answer_of result) back n

  abbrev rust : Submitter × Finish
  rust = finish (submitter_of s n) t (returned back buf) result

  abbrev live : Live
  live = its_live s i t found k sp awaits

  facts : Placed g k sp (length bytes)
  facts = placed s i t found k sp awaits

  -- the end, once the operation stands in the row without a split
  ended : (fits : FateFits s row last) → rust ≡ carried s n row (table_of s) t k last → Finishes n rust (settled s t row last)
  unfolding with_split
  ended fits e =
      rw e (carried_settled s i n t found live (there s i t found k sp awaits) refl k last fits (last_ended s.settings g (region_at s row.handle).forced s.poison row sp bytes (answer_of result) back n k))

  -- one piece
  module _ (one : piece ≡ sp.total) where
    at_first_lem : sp.done ≡ 0
    at_first_lem = let most = piece_most g k sp in let left = facts.left in omega arith

    no_split : split_of g k sp ≡ none
    no_split = split_none g k sp one

    has_whole : Has (table_of s) t (row_as s row) (operation_of row k)
    unfolding with_split
    has_whole = has_live s i t found (operation_of row k) (there s i t found k sp awaits ∙ ap (λ (z : Option Split). some (with_split (operation_of row k) z)) no_split)

    whole_buffer : (b : Bool) → returned b buf ≡ buf_as (buffer_as b row.buffer sp.total) (turned_back b sp bytes)
    unfolding returned buf_as buffer_as turned_back buf_of
    whole_buffer true = let all : left_of sp ≡ sp.total = (let z = at_first_lem in omega arith) in rw (one, all, turn_whole sp.total bytes) refl
    whole_buffer false = refl

    finish_one : rust ≡ conclude (submitter_of s n) t (returned back buf) result
    unfolding finish given with_split submitter_of
    finish_one = rw (live_is (table_of s) t (row_as s row) live (has s i t found k sp awaits), no_split) refl

    one_ends : within sp (answer_of result) → rust ≡ carried s n row (table_of s) t k last
    unfolding submitter_of
    one_ends fits =
        finish_one ∙ ap (λ (b : Option IoBuf). conclude (submitter_of s n) t b result) (whole_buffer back)
        ∙ ap (conclude (submitter_of s n) t (buf_as (buffer_as back row.buffer sp.total) (turned_back back sp bytes))) (first_result sp at_first_lem result)
        ∙ kind_ends s n row (table_of s) t (row_as s row) sp bytes (answer_of result) back k has_whole facts (told_result k result) fits

  -- several pieces
  module _ (several : split_of g k sp ≡ some sp) where
    abbrev test : Bool
    test = (is_some (returned back buf) && ok_is result (len_of (returned back buf))) && ltb 0 (left_of sp - min (len_of (returned back buf)) (left_of sp))

    same_test : test ≡ goes_on piece sp (answer_of result) back
    unfolding buf_of
    same_test = next_alike buf sp (piece_most g k sp) result back

    finish_several : rust ≡ pick test (given (returned back buf) (last_one (submitter_of s n) t (returned back buf) result live sp) λ b. next_one (submitter_of s n) t live sp (len_of (returned back buf)) (left_of sp - min (len_of (returned back buf)) (left_of sp)) b)
        (last_one (submitter_of s n) t (returned back buf) result live sp)
    unfolding finish given with_split submitter_of
    finish_several = rw (live_is (table_of s) t (row_as s row) live (has s i t found k sp awaits), several) refl

    -- the last of them
    last_ends : goes_on piece sp (answer_of result) back ≡ false → within sp (answer_of result) → rust ≡ carried s n row (table_of s) t k last
    unfolding pick last_one with_table submitter_of with_split buf_of
    last_ends stops fits =
        let T = put (table_of s) t (operation_of row k) in
        finish_several ∙ rw (same_test, stops)
        ((λ j. conclude (record { store = store_of s n; table = T }) t (order_back row.buffer piece bytes sp facts.room back j) (whole_result sp result j))
        ∙ (kind_ends s n row T t _ sp bytes (answer_of result) back k (has_put (table_of s) t (row_as s row) live (has s i t found k sp awaits) (operation_of row k)) facts (told_result k result) fits
        ∙ carried_put s n row (table_of s) t (row_as s row) live (operation_of row k) (has s i t found k sp awaits) refl k last (last_ended s.settings g (region_at s row.handle).forced s.poison row sp bytes (answer_of result) back n k)))

    -- the next of them
    module _ (onward : goes_on piece sp (answer_of result) back ≡ true) where
      abbrev later : Split
      later = split_after piece sp

      abbrev turn : List ℕ
      turn = turned sp.total piece bytes

      abbrev after : State
      after = going s (row_of t) row (Piece k later) turn

      abbrev now : Live
      now = with_split (operation_of row k) (some later)

      turn_long : length turn ≡ s.settings.capacity
      turn_long = turn_laws.length_kept sp.total piece bytes ∙ long s i t found k sp awaits

      more : sp.done + piece < sp.total
      more = goes_on_left piece sp (answer_of result) back onward

      came : back ≡ true
      unfolding goes_on
      came = and_left back (ltb (sp.done + piece) sp.total) (and_right (is_whole piece (answer_of result)) (back && ltb (sp.done + piece) sp.total) onward)

      -- its piece is not the whole operation
      still_several : split_of g k later ≡ some later
      unfolding split_after
      still_several =
          let most = piece_most g k later in
          let some_done = some_bytes s i t found k sp awaits in
          split_some g k later (λ e. omega (arith, most, some_done, more))

      stands : live_of after (awaits_now row (Piece k later)) (Piece k later) ≡ some now
      unfolding live_of awaits_now with_split region_at going
      stands = rw still_several refl

      next_state : with_table (submitter_of s n) (put (table_of s) t now) ≡ submitter_of after n
      unfolding with_table submitter_of store_of going
      next_state = ap (with_table (submitter_of s n)) (onward_put s i t found live (there s i t found k sp awaits) turn turn_long (Piece k later) now stands)

      rest_alike : left_of sp - min piece (left_of sp) ≡ sp.total - (sp.done + piece)
      rest_alike = let most = piece_most g k sp in omega arith

      start_alike : (k' : Kind) → start_of k' ≡ (first_of k').0
      unfolding start_of first_of
      start_alike (Page a b) = refl
      start_alike (Reads a b) = refl

      writes_alike : (k' : Kind) (z : Split) → not (is_some (as_read k')) ≡ writes_in (Piece k' z)
      unfolding is_some as_read writes_in
      writes_alike (Page a b) z = refl
      writes_alike (Reads a b) z = refl

      row_after : (row_at after (row_of t)).awaits ≡ Piece k later
      unfolding awaits_now
      row_after = ap (λ (x : Row). x.awaits) (row_going s t found (Piece k later) turn)

      abbrev its_region : Region
      its_region = region_at s row.handle

      -- the Rust's map is document 01's
      its_map : Lawful its_region.map
      its_map = (i.each row.handle (its_place s i t found k sp awaits).region).lawful

      abbrev pos : ℕ
      pos = start_of k + (sp.done + piece)

      abbrev next : ℕ
      next = min (run_left its_region.map pos) (left_of sp - min piece (left_of sp))

      offset_alike : locate its_region.map pos next ≡ (piece_of g.map (first_of k).0 later).offset.0
      unfolding piece_of plan_of split_after
      offset_alike = map_as_rust.locate_is its_region.map its_map pos next ∙ rw (start_alike k) refl

      count_alike : next ≡ piece_length g k later
      unfolding piece_length piece_of plan_of piece_size split_after
      count_alike = rw (map_as_rust.run_left_lem its_region.map its_map pos, start_alike k, rest_alike) refl

      buffer_alike : (m : ℕ) → m ≡ piece_length g k later → set_len (rotated (set_len buf sp.total) piece) m ≡ buf_of after row.buffer (piece_length g k later)
      unfolding buf_of split_after
      buffer_alike m e =
          let most = piece_most g k later in
          rw e (next_turned row.buffer piece bytes sp facts.room piece (piece_length g k later) (omega (arith, most))
          ∙ rw (own_onward s i t found live (there s i t found k sp awaits) turn turn_long (Piece k later) now) refl)

      next_goes : Finishes n (next_one (submitter_of s n) t live sp piece (left_of sp - min piece (left_of sp)) buf) (settled s t row (awaitsFate (Piece k later) turn))
      unfolding next_one settled finish_as asks_for region store_of submitter_of with_split region_at split_after
      next_goes = record {
        state = next_state;
        reply = λ j. some (Next t (offset_alike j) (buffer_alike _ count_alike j) ((writes_alike k later ∙ ap writes_in (sym row_after)) j));
      }

      next_is : rust ≡ next_one (submitter_of s n) t live sp piece (left_of sp - min piece (left_of sp)) buf
      unfolding pick given returned len_of buf_of
      next_is = finish_several ∙ rw (same_test, onward) (rw came refl)

      goes_on_lem : Finishes n rust (settled s t row (awaitsFate (Piece k later) turn))
      goes_on_lem = rw next_is next_goes

  -- whichever piece it is
  abbrev fate : Fate
  fate = piece_answered s.settings g (region_at s row.handle).forced s.poison row k sp piece bytes (answer_of result) back n

  module _ (above : above_piece piece (answer_of result) ≡ false) where
    fits_within : within sp (answer_of result)
    fits_within = count_within g k sp facts.left (answer_of result) above

    last_fate : goes_on piece sp (answer_of result) back ≡ false → fate_of s row (fedAnswer (answer_of result) back n) ≡ last
    unfolding fate_of rules answer_rules piece_answered pick
    last_fate stops = rw (awaits, above, not_first sp result, stops) refl

    last_square : goes_on piece sp (answer_of result) back ≡ false → Finishes n rust (settled s t row last)
    last_square stops = ended (rw (last_fate stops) at (fate_fits s row (fedAnswer (answer_of result) back n))) (by_case (ℕ_discrete piece sp.total))
      where
        by_case : Dec (piece ≡ sp.total) → rust ≡ carried s n row (table_of s) t k last
        by_case (yes one) = one_ends one fits_within
        by_case (no ne) = last_ends (split_some g k sp ne) stops fits_within

    next_square : goes_on piece sp (answer_of result) back ≡ true → Finishes n rust (settled s t row (awaitsFate (Piece k (split_after piece sp)) (turned sp.total piece bytes)))
    next_square onward = goes_on_lem (split_some g k sp (λ one. let more = goes_on_left piece sp (answer_of result) back onward in omega arith)) onward

  answered_square : compared (settled s t row fate).1 ≡ true → Finishes n rust (settled s t row fate)
  unfolding piece_answered settled compared number
  answered_square =
      by_pick (above_piece piece (answer_of result)) (λ (f : Fate). compared (settled s t row f).1 ≡ true → Finishes n rust (settled s t row f)) (λ above h. absurd (not_both h refl))
      (λ above. by_pick (first_refused sp (answer_of result)) (λ (f : Fate). compared (settled s t row f).1 ≡ true → Finishes n rust (settled s t row f)) (λ first. absurd (not_both first (not_first sp result)))
      (λ first. by_pick (goes_on piece sp (answer_of result) back) (λ (f : Fate). compared (settled s t row f).1 ≡ true → Finishes n rust (settled s t row f)) (λ onward h. next_square above onward) (λ stops h. last_square above stops)))

-- by what the row awaits
module _ (s : State) (i : Sound s) (n t : ℕ) (found : names (row_at s (row_of t)) t ≡ true) (result : RawResult) (back : Bool) where
  awaited : (a : Awaits) → (row_at s (row_of t)).awaits ≡ a
      → compared (settled s t (row_at s (row_of t)) (answer_rules s.settings (plan_of (region_at s (row_at s (row_of t)).handle)) (region_at s (row_at s (row_of t)).handle).forced s.poison (row_at s (row_of t)) (bytes_at s (row_at s (row_of t)).buffer) (answer_of result) back n a)).1 ≡ true
      → Finishes n (finish (submitter_of s n) t (returned back (buf_of s (row_at s (row_of t)).buffer (piece_in s (row_at s (row_of t)) a))) result)
      (settled s t (row_at s (row_of t)) (answer_rules s.settings (plan_of (region_at s (row_at s (row_of t)).handle)) (region_at s (row_at s (row_of t)).handle).forced s.poison (row_at s (row_of t)) (bytes_at s (row_at s (row_of t)).buffer) (answer_of result) back n a))
  unfolding answer_rules piece_in settled compared number
  awaited Nothing e h = absurd (not_both h refl)
  awaited (Piece k sp) e h = answered_square s i n t found k sp e result back h
  awaited (AwaitsFlush tk) e h = absurd (not_both h refl)

-- the square
pub finish_square : (s : State) (l : Lengths) (t : ℕ) (result : RawResult) (back : Bool) (n : ℕ) → Sound s → compared (step s l (Answers t (answer_of result) back n)).1 ≡ true
    → Finishes n (finish (submitter_of s n) t (returned back (in_flight s t)) result) (step s l (Answers t (answer_of result) back n))
unfolding called fate_of rules in_flight
finish_square s l t result back n i h =
    let e = called_step s l (Answers t (answer_of result) back n) h in
    let f = found_under s t (fedAnswer (answer_of result) back n) (rw e at h) in
    rw (e, f.settles) (awaited s i n t f.names_row result back (row_at s (row_of t)).awaits refl (rw (e, f.settles) at h))
