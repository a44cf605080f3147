-- An accepted submission leaves a sound table: the change of the row on top of the free stack fits, by what the questions asked.
use mathlib.Core.Path.{◌≡◌, refl, sym}
use mathlib.Core.Bool.{true}
use Prim.Native.Nat.{ℕ, ◌+◌}
use native.Mathlib.Omega.{arith}
use lib.ListN.{get_or, set, drop, length-set}
use Rattle.layout.proofs.Tests.{not_both}
use Rattle.model.specs.declared.Kind.{Kind}
use Rattle.model.specs.declared.Awaits.TheVariants.{Piece}
use Rattle.model.specs.declared.Row.{Row}
use Rattle.model.specs.declared.Request.{Request}
use Rattle.model.specs.State.{Owner, Owner.host, Owner.table, Owner.lost, State, awaiting}
use Rattle.step.specs.Questions.{is_host, region_at, held_at}
use Rattle.step.specs.Step.{begun, top_of, row_at, claimed_by, one_more, accepted}
use Rattle.step.specs.Sound.{row_holds, ready_hold, table_has, SplitFits, TicketFits, InTable, Sound}
use Rattle.step.specs.Rules.{range_start, range_end}
use Rattle.step.proofs.Answers.{Passed}
use Rattle.step.proofs.Places.{by_place}
use Rattle.step.proofs.Counts.{holds_none, holds_own, holds_other}
use Rattle.step.proofs.Taken.{one_less_lem, times_top, times_left, top_row, awaits_nothing}
use Rattle.step.proofs.Replaced.{Change, changed, Fits, keeps_changed}

-- what the kind of an operation says of its range
pub record Covers (k : Kind) (q : Request) : Type 0 where
  pub start : range_start (Piece k (begun q.length)) ≡ q.offset.0
  pub end : range_end (Piece k (begun q.length)) ≡ q.offset.0 + q.length
  pub split : SplitFits (Piece k (begun q.length))

-- the table has no buffer that the host holds
not_had : (w : Owner) → is_host w ≡ true → table_has w ≡ 0
unfolding is_host table_has
not_had host e = refl
not_had table e = absurd (not_both e refl)
not_had lost e = refl

module _ (s : State) (i : Sound s) (q : Request) (p : Passed s q) (k : Kind) (c : Covers k q) where
  abbrev top : ℕ
  top = top_of s.free

  abbrev new : Row
  new = claimed_by (row_at s top).generation s.counts.submissions k q

  abbrev change : Change
  change = record { row = new; counts = one_more s.counts; free = drop 1 s.free; ready = s.ready; owners = set s.owners q.buffer table }

  nothing_yet : awaiting (row_at s top).awaits ≡ 0
  nothing_yet = awaits_nothing s i p.room

  -- the buffer's holder is the new row
  holders : (b : ℕ) → row_holds b new + ready_hold b s.ready + table_has (get_or s.owners b lost) ≡ row_holds b (row_at s top) + ready_hold b s.ready + table_has (get_or change.owners b lost)
  unfolding claimed_by awaiting held_at table_has
  holders =
      by_place s.owners q.buffer table lost (rw i.owners p.buffer)
      (λ b w. row_holds b new + ready_hold b s.ready + table_has (get_or s.owners b lost) ≡ row_holds b (row_at s top) + ready_hold b s.ready + table_has w)
      (omega (arith, holds_own new, holds_none q.buffer (row_at s top) nothing_yet, not_had (get_or s.owners q.buffer lost) p.held))
      (λ b n. omega (arith, holds_other b new n, holds_none b (row_at s top) nothing_yet))

  new_in_table : InTable (changed s top change) new
  unfolding one_more claimed_by region_at TicketFits
  new_in_table = record {
    region = p.region;
    buffer = p.buffer;
    some = omega (arith, c.start, c.end, p.some);
    in_data_lem = omega (arith, c.end, p.in_data_lem);
    length = omega (arith, c.start, c.end, p.fits);
    split = c.split;
    ticket = tt;
    before = omega arith;
  }

  fits : Fits s top change
  unfolding one_more claimed_by awaiting
  fits = record {
    below = top_row s i p.room;
    live = omega (arith, nothing_yet);
    ready = i.ready;
    most = omega (arith, p.room);
    later = omega arith;
    submissions = omega (arith, p.left);
    stack = omega (arith, one_less_lem s i p.room, nothing_yet);
    here = omega (arith, times_top s i p.room, nothing_yet);
    other = λ j n. sym (times_left s i p.room j n);
    owners = length-set s.owners q.buffer table;
    holders = holders;
    generation = i.generations top (top_row s i p.room);
    in_table = λ a. new_in_table;
    seq = λ a j n lt b e. omega (arith, (i.in_table j lt b).before);
  }

  pub keeps_accepted : Sound (accepted s top k q)
  unfolding accepted
  keeps_accepted = keeps_changed s i top change fits
