-- `first_piece` and `issue` are what `step` accepts: the row on top of the free stack, its queue tag, the first piece, and the operation in the row.
use mathlib.Core.Path.{◌≡◌, refl, ap, ◌∙◌}
use mathlib.Core.Logic.{◌⊎◌, inl, inr}
use mathlib.Core.Bool.{true, false}
use mathlib.Core.List.{◌∷◌, map}
use mathlib.Core.Option.{Option, none, some}
use Prim.Native.Nat.{ℕ, ◌+◌, ◌≤◌, ◌<◌, min}
use native.Mathlib.Nat.{add-zero, sub-zero}
use native.Mathlib.Omega.{arith}
use borrow.Author.Tests.{ltb-true, ltb-false, eq-eqb, ne_eqb}
use lib.Dec.{ltb}
use lib.ListN.{length, get_or, set, drop, length-map, get_or-map}
use lib.Seq.{drop-cons, get_or-set_same, set-set}
use Rattle.layout.specs.Pick.{pick}
use Rattle.layout.proofs.Tests.{true_or_false}
use Rattle.regionmap.specs.Map.{map_run_left, place, piece_size}
use Rattle.model.specs.declared.Kind.{Kind}
use Rattle.model.specs.declared.Split.{Split}
use Rattle.model.specs.declared.Row.{Row}
use Rattle.model.specs.declared.Request.{Request}
use Rattle.model.specs.State.{Region, State, freed}
use Rattle.step.specs.Questions.{region_at}
use Rattle.step.specs.Rules.{first_of, piece_of, piece_length}
use Rattle.step.specs.Step.{begun, queue_tag, row_of, top_of, row_at, durable_as, claimed_by, one_more, accepted, bytes_at, plan_of}
use Rattle.step.specs.Sound.{Sound}
use Rattle.step.proofs.Answers.{Passed}
use Rattle.step.proofs.Taken.{top_row}
use Rattle.step.proofs.Buffers.{bytes_length}
use Rattle.step.proofs.AloneTags.{row_of_tag}
use Rattle.rusttable.specs.Table.{IoBuf, Live, Table, Req, Submitted}
use Rattle.rusttable.specs.Table.{Row as RustRow}
use Rattle.rusttable.specs.RegionMap.{run_left, locate}
use Rattle.rusttable.specs.Functions.{given, empty_row, popped, claim, row_with, with_rows, with_split, start, set_split, with_or_not, submit, issue, first_piece}
use Rattle.rusttable.specs.AsStep.{buf_of, split_of, live_of, row_as, completion_as, table_of, submitter_of}
use Rattle.rusttable.proofs.RegionMap.{map_as_rust}
use Rattle.rusttable.proofs.Lists.{map_set_alike}
use Rattle.rusttable.proofs.Frames.{same_row}
use Rattle.rusttable.proofs.Taking.{completions_alike}
use Rattle.rusttable.proofs.Turning.{set_fits}

module _ (s : State) (i : Sound s) (q : Request) (p : Passed s q) (k : Kind) (starts : first_of k ≡ q.offset) where
  abbrev g : Region
  g = region_at s q.handle

  abbrev buf : IoBuf
  buf = buf_of s q.buffer q.length

  abbrev piece : ℕ
  piece = min (map_run_left g.map q.offset.0) q.length

  abbrev split : Option Split
  split = split_of (plan_of g) k (begun q.length)

  pub piece_alike : piece_length (plan_of g) k (begun q.length) ≡ piece
  unfolding piece_length piece_of piece_size plan_of
  piece_alike = rw (starts, add-zero, sub-zero) refl

  -- ---- the first piece

  room : q.length ≤ length (bytes_at s q.buffer)
  room = let long = bytes_length s i q.buffer p.buffer in let fits = p.fits in omega arith

  -- the Rust's map is document 01's
  left_is : run_left g.map q.offset.0 ≡ map_run_left g.map q.offset.0
  left_is = map_as_rust.run_left_lem g.map (i.each q.handle p.region).lawful q.offset.0

  offset_is : locate g.map q.offset.0 piece ≡ place g.map q.offset.0
  offset_is = map_as_rust.locate_is g.map (i.each q.handle p.region).lawful q.offset.0 piece

  pub first_is : first_piece g q.offset buf ≡ record { offset = place g.map q.offset.0; split = split; buf = buf_of s q.buffer piece }
  unfolding first_piece buf_of split_of pick
  first_is = by_case (true_or_false (ltb piece q.length))
    where
      by_case : (ltb piece q.length ≡ true) ⊎ (ltb piece q.length ≡ false) → first_piece g q.offset buf ≡ record { offset = place g.map q.offset.0; split = split; buf = buf_of s q.buffer piece }
      by_case (inl e) =
          let lt = ltb-true piece q.length e in
          rw (left_is, offset_is, e, piece_alike, ne_eqb piece q.length (λ z. omega arith), set_fits buf piece (let le = room in omega arith)) refl
      by_case (inr e) =
          let all : piece ≡ q.length = (let le = ltb-false piece q.length e in omega arith) in
          rw (left_is, offset_is, e, piece_alike, eq-eqb piece q.length all, all) refl

  -- ---- the row

  abbrev top : ℕ
  top = top_of s.free

  abbrev generation : ℕ
  generation = (row_at s top).generation

  abbrev new : Row
  new = claimed_by generation s.counts.submissions k q

  abbrev after : State
  after = accepted s top k q

  stack : s.free ≡ top ∷ drop 1 s.free
  unfolding top_of
  stack = let r = p.room in drop-cons s.free 0 0 (omega (arith, i.balance, i.live))

  row_there : get_or (map (row_as s) s.rows) top empty_row ≡ row_as s (row_at s top)
  unfolding row_at row_as live_of freed empty_row
  row_there = get_or-map (row_as s) s.rows top (freed 0)

  abbrev claimed_table : Table
  claimed_table = record { rows = map (row_as s) s.rows; free = drop 1 s.free; ready = map (completion_as s) s.ready; live = s.counts.live; next_seq = s.counts.submissions }

  claimed : claim (table_of s) ≡ some (record { index = top; qtag = queue_tag top generation; table = claimed_table })
  unfolding claim popped table_of queue_tag row_as
  claimed = ap (popped (table_of s)) stack ∙ rw row_there refl

  -- the operation in it
  abbrev started : Live
  started = record { tag = q.tag; seq = s.counts.submissions; kind = k; handle = q.handle; durable = durable_as k q.durable; held = none; split = none }

  abbrev started_row : Option Split → RustRow
  started_row sp = record { generation = generation; live = some (with_split started sp) }

  abbrev started_table : Option Split → Table
  started_table sp = record { rows = set (map (row_as s) s.rows) top (started_row sp); free = drop 1 s.free; ready = map (completion_as s) s.ready; live = s.counts.live + 1; next_seq = s.counts.submissions + 1 }

  start_is : start claimed_table top q.tag k q.handle (durable_as k q.durable) ≡ started_table none
  unfolding start row_with with_split row_as
  start_is = rw row_there refl

  in_rows : top < length (map (row_as s) s.rows)
  in_rows = rw (length-map s.rows (row_as s), i.rows) (top_row s i p.room)

  split_is : (sp : Option Split) → with_or_not (started_table none) top sp ≡ started_table sp
  unfolding with_or_not given set_split with_rows row_with with_split
  split_is none = refl
  split_is (some x) = rw (get_or-set_same (map (row_as s) s.rows) top (started_row none) empty_row in_rows) (rw set-set refl)

  -- the table is that of the accepted state
  same_regions : after.regions ≡ s.regions
  unfolding accepted
  same_regions = refl

  pub same_bytes : (b : ℕ) → bytes_at after b ≡ bytes_at s b
  unfolding accepted bytes_at
  same_bytes b = refl

  -- its row, under its queue tag
  pub row_index : row_of (queue_tag top generation) ≡ top
  row_index = row_of_tag top generation (let lt = top_row s i p.room in let most = i.numbers.most_depth in omega arith)

  pub claimed_row : row_at after (row_of (queue_tag top generation)) ≡ new
  unfolding row_at accepted
  claimed_row = rw row_index (get_or-set_same s.rows top new (freed 0) (rw i.rows (top_row s i p.room)))

  new_row : row_as after new ≡ started_row split
  unfolding row_as live_of claimed_by with_split accepted region_at
  new_row = refl

  accepted_table : started_table split ≡ table_of after
  unfolding table_of accepted one_more
  accepted_table =
      rw (completions_alike s after same_regions same_bytes s.ready, map_set_alike (row_as s) (row_as after) s.rows top new (freed 0) (λ j n. same_row s after same_regions (get_or s.rows j (freed 0)) (λ live. same_bytes _)), new_row) refl

  issued_table : with_or_not (start claimed_table top q.tag k q.handle (durable_as k q.durable)) top split ≡ table_of after
  issued_table = ap (λ (T : Table). with_or_not T top split) start_is ∙ split_is split ∙ accepted_table

  -- ---- issue

  pub issue_is : (n : ℕ) (req : Req) (queue : Submitted) → issue (submitter_of s n) req q.tag k q.handle (durable_as k q.durable) split queue
      ≡ submit (submitter_of s n) (table_of after) top (queue_tag top generation) req split queue
  unfolding issue given submitter_of
  issue_is n req queue = rw (claimed, issued_table) refl
