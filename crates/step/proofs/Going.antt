-- A live row goes on: it awaits something else of the same range, and its buffer has other bytes. The table stays sound.
use mathlib.Core.Path.{◌≡◌, refl, sym, ◌∙◌}
use mathlib.Core.List.{List}
use Prim.Native.Nat.{ℕ, ◌<◌}
use native.Mathlib.Omega.{arith}
use lib.ListN.{length}
use Rattle.model.specs.declared.Awaits.{Awaits}
use Rattle.model.specs.declared.Row.{Row}
use Rattle.model.specs.State.{State, awaiting}
use Rattle.step.specs.Questions.{region_at}
use Rattle.step.specs.Step.{row_at, bytes_at, awaits_now, going}
use Rattle.step.specs.Sound.{row_holds, InTable, Sound}
use Rattle.step.proofs.Fates.{Onward}
use Rattle.step.proofs.Buffers.{filled_pool}
use Rattle.step.proofs.Marked.{keeps_besides}
use Rattle.step.proofs.Replaced.{Change, changed, Fits, keeps_changed}

module _ (s : State) (i : Sound s) (r : ℕ) (below : r < s.settings.depth) (live : awaiting (row_at s r).awaits ≡ 1) where
  abbrev row : Row
  row = row_at s r

  its_place : InTable s row
  its_place = i.in_table r below live

  module _ (a : Awaits) (w : Onward s.settings (region_at s row.handle) row.awaits a) where
    abbrev change : Change
    change = record { row = awaits_now row a; counts = s.counts; free = s.free; ready = s.ready; owners = s.owners }

    -- the row is live as before, and holds the same buffer
    same_live : awaiting a ≡ awaiting row.awaits
    same_live = w.live ∙ sym live

    same_holds : (b : ℕ) → row_holds b (awaits_now row a) ≡ row_holds b row
    unfolding row_holds awaits_now
    same_holds b = rw same_live

    now_in_table : InTable (changed s r change) (awaits_now row a)
    unfolding awaits_now region_at
    now_in_table = record {
      region = its_place.region;
      buffer = its_place.buffer;
      some = omega (arith, its_place.some, w.start, w.end);
      in_data_lem = omega (arith, its_place.in_data_lem, w.end);
      length = omega (arith, its_place.length, w.start, w.end);
      split = w.split its_place.split;
      ticket = w.ticket;
      before = its_place.before;
    }

    fits : Fits s r change
    unfolding awaits_now
    fits = record {
      below = below;
      live = omega (arith, same_live);
      ready = i.ready;
      most = i.most;
      later = omega arith;
      submissions = i.submissions;
      stack = omega (arith, same_live);
      here = omega (arith, same_live);
      other = λ j n. refl;
      owners = refl;
      holders = λ b. omega (arith, same_holds b);
      generation = i.generations r below;
      in_table = λ one. now_in_table;
      seq = λ one j n lt b e. n (sym (i.seqs r j below lt live b e));
    }

    pub keeps_going : (bytes : List ℕ) → length bytes ≡ length (bytes_at s row.buffer) → Sound (going s r row a bytes)
    unfolding going
    keeps_going bytes e = keeps_besides (changed s r change) s.regions s.poison _ (keeps_changed s i r change fits) refl (filled_pool s i row.buffer its_place.buffer bytes e)
