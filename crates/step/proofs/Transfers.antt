-- The pieces of an accepted operation act like one transfer: what the questions and soundness make sure of is what the transfer's theorem asks.
use mathlib.Core.Path.{◌≡◌}
use Prim.Native.Nat.{ℕ, ◌+◌, ◌<◌}
use native.Mathlib.Nat.{add_left_cancel}
use native.Mathlib.Omega.{arith}
use lib.ListN.{length}
use Rattle.posix.specs.Transfer.{CardAndPool, wrote, read_in, whole, Accepted, Distinct, OneWrite, OneRead}
use Rattle.posix.proofs.Theorem.{transfers}
use Rattle.model.specs.declared.Request.{Request}
use Rattle.model.specs.State.{State}
use Rattle.step.specs.Questions.{region_at}
use Rattle.step.specs.Sound.{Sound}
use Rattle.step.specs.Laws.{operation_of}
use Rattle.step.proofs.Answers.{Passed}
use Rattle.step.proofs.Buffers.{in_pool_lem}

module _ (s : State) (q : Request) (i : Sound s) (p : Passed s q) (x : CardAndPool) (e : length x.pool ≡ s.lengths.pool) where
  in_capacity : (j : ℕ) → j < q.length → q.offset.0 + j < (region_at s q.handle).map.capacity
  in_capacity j l = let d = p.in_data_lem in let w = (i.each q.handle p.region).lawful.within in omega (arith, d, w, l)

  distinct : Distinct (operation_of s q)
  distinct j k lj lk same = add_left_cancel q.offset.0 (i.apart q.handle q.handle (q.offset.0 + j) (q.offset.0 + k) p.region p.region (in_capacity j lj) (in_capacity k lk) same).1

  accepted : Accepted (operation_of s q) x.pool
  accepted = record {
    lawful = (i.each q.handle p.region).lawful;
    in_data = p.in_data_lem;
    in_buffer = p.fits;
    in_pool = in_pool_lem s i q.buffer p.buffer x.pool e;
  }

  pub one_write : OneWrite (operation_of s q) x (whole wrote (operation_of s q) x)
  one_write = transfers.write (operation_of s q) x accepted distinct

  pub one_read : OneRead (operation_of s q) x (whole read_in (operation_of s q) x)
  one_read = transfers.read (operation_of s q) x accepted
