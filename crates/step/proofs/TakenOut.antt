-- A completion is taken: its buffer, if it came back, goes to the host. The table stays sound.
use mathlib.Core.Path.{◌≡◌, refl, ap, ◌∙◌}
use mathlib.Core.List.{List, [], ◌∷◌}
use Prim.Native.Nat.{ℕ, ◌+◌, ◌≤◌}
use native.Mathlib.Omega.{arith}
use lib.ListN.{length, get_or, length-set}
use Rattle.completion.specs.Buffers.{Buffer}
use Rattle.std.specs.declared.option.Option.TheVariants.{Some as Back, None as Lost}
use Rattle.completion.specs.declared.Completion.{Completion}
use Rattle.model.specs.State.{Owner, Owner.host, Owner.lost, State}
use Rattle.step.specs.Questions.{region_at}
use Rattle.step.specs.Step.{row_at, given_back, taken}
use Rattle.step.specs.Sound.{holds, ready_hold, table_has, rows_hold, Sound}
use Rattle.step.proofs.Places.{by_place, within}
use Rattle.step.proofs.Counts.{back_holds_own, back_holds_other, has_most}
use Rattle.step.proofs.Marked.{in_another}

given_length : (owners : List Owner) (buf : Buffer) → length (given_back owners buf) ≡ length owners
unfolding given_back
given_length owners (Back h) = simp length-set
given_length owners Lost = refl

-- with the buffer given back, those who are left hold what the table has
given_holders : (owners : List Owner) (buf : Buffer) (others : ℕ → ℕ) → ((b : ℕ) → holds b buf + others b ≡ table_has (get_or owners b lost)) → (b : ℕ) → others b ≡ table_has (get_or (given_back owners buf) b lost)
unfolding given_back table_has holds
given_holders owners (Back h) others all =
    by_place owners h.buffer host lost
    (within owners h.buffer lost (λ w. 1 ≤ table_has w) (λ past. omega arith) (omega (arith, all h.buffer, back_holds_own h.buffer h.len)))
    (λ b w. others b ≡ table_has w)
    (omega (arith, all h.buffer, back_holds_own h.buffer h.len, has_most (get_or owners h.buffer lost)))
    (λ b ne. omega (arith, all b, back_holds_other b h.buffer h.len ne))
given_holders owners Lost others all = λ b. omega (arith, all b)

-- the oldest of those that are ready
module _ (s : State) (i : Sound s) (c : Completion) (more : List Completion) (e : s.ready ≡ c ∷ more) where
  abbrev after : State
  after = (taken s (c ∷ more)).0

  holders : (b : ℕ) → rows_hold b s.rows + ready_hold b more ≡ table_has (get_or (given_back s.owners c.buf) b lost)
  unfolding ready_hold
  holders = given_holders s.owners c.buf (λ b. rows_hold b s.rows + ready_hold b more) (λ b. omega (arith, i.holders b, ap (ready_hold b) e))

  keeps_oldest : Sound after
  unfolding taken row_at region_at
  keeps_oldest = record {
    numbers = i.numbers;
    room = i.room;
    pool = i.pool;
    pool_is = i.pool_is;
    regions = i.regions;
    each = i.each;
    apart = i.apart;
    rows = i.rows;
    live = i.live;
    ready = omega (arith, i.ready, ap length e);
    submissions = i.submissions;
    balance = i.balance;
    free_once = i.free_once;
    free_rows = i.free_rows;
    most = omega (arith, i.most);
    generations = i.generations;
    owners = given_length s.owners c.buf ∙ i.owners;
    holders = holders;
    in_table = λ r lt a. in_another s after (row_at s r) refl (λ h. refl) (omega arith) (i.in_table r lt a);
    seqs = i.seqs;
  }

pub keeps_taken : (s : State) → Sound s → (l : List Completion) → s.ready ≡ l → Sound (taken s l).0
unfolding taken
keeps_taken s i [] e = i
keeps_taken s i (c ∷ more) e = keeps_oldest s i c more e
