-- Every piece that a table issues is whole blocks at a block offset. Question 13 puts an accepted range on the block, the opening's rule on blocks the maps; so every
-- row that awaits a piece is on the block, by induction on the events, and with it every piece that is asked for.
use mathlib.Core.Path.{◌≡◌, refl, sym, ap, subst}
use mathlib.Core.Bool.{true, ◌&&◌}
use mathlib.Core.List.{List, [], ◌∷◌}
use Prim.Native.Nat.{ℕ, zero, suc, ◌<◌}
use native.Mathlib.Decide.{dec_lt}
use native.Mathlib.Omega.{arith}
use lib.Dec.{ltb}
use lib.ListN.{length, get_or, set}
use lib.Seq.{set_out}
use Rattle.layout.specs.Block.{on_block}
use Rattle.layout.proofs.Tests.{and_left, and_right, and_both}
use Rattle.regionmap.specs.Words.{runs_in, map_in}
use Rattle.std.specs.declared.option.Option.{Option}
use Rattle.completion.specs.declared.Context.{Context}
use Rattle.completion.specs.Buffers.{Buffer}
use Rattle.completion.specs.declared.Completion.{Completion}
use Rattle.completion.specs.declared.Reply.{Reply}
use Rattle.model.specs.declared.Opening.{Opening}
use Rattle.model.specs.declared.Lengths.{Lengths}
use Rattle.model.specs.declared.Kind.{Kind}
use Rattle.model.specs.declared.Awaits.{Awaits}
use Rattle.model.specs.declared.Awaits.TheVariants.{Nothing, Piece, Flush}
use Rattle.model.specs.declared.Row.{Row}
use Rattle.model.specs.declared.Request.{Request}
use Rattle.std.specs.declared.result.Result.TheVariants.{Ok, Err}
use Rattle.model.specs.declared.Lookup.{Lookup}
use Rattle.model.specs.declared.Lookup.TheVariants.{WritesLive, Mark}
use Rattle.model.specs.declared.Call.{Call}
use Rattle.model.specs.declared.Call.TheVariants.{Write, ReadPage, Answer, Flushed, Take, SetGate, SetReadOnly, SetForced, ReportPoison}
use Rattle.model.specs.State.{Region, State, freed}
use Rattle.model.specs.Opening.{Plan, plan_in, generation_rule, runs_rule, sizes_rule, starts_rule, runs_on_block, blocks_rule, map_rule, region_rule, each_region, region_rules, opened}
use Rattle.model.proofs.Rules.{head_true, regions_hold}
use Rattle.step.specs.Questions.{first_no, aligned, region_at, write_questions, read_questions, Asked}
use Rattle.step.specs.Rules.{first_of, Input, Input.answered, Input.flushed, Fate, Fate.away, Fate.awaits, Fate.ends, Fate.rejected}
use Rattle.step.specs.Step.{begun, row_at, claimed_by, accepted, verdict_of, write_verdict, read_verdict, submitted, row_of, names, awaits_now, going, freeing, plan_of, rejection, settled, fate_of, under_tag}
use Rattle.step.specs.Step.{taken, with_regions, with_poison, marked, looked_up, called, eq_lengths, step, look}
use Rattle.step.specs.Run.{Start, plans_of, opened_by, Made, Made.calls, Made.looks, Event, leave, done, next, reply_to, run, after}
use Rattle.step.specs.Blocks.{WholeBlocks}
use Rattle.step.proofs.Picked.{by_pick}
use Rattle.step.proofs.Places.{by_place}
use Rattle.step.proofs.Answers.{answered as asked-yes}
use Rattle.step.proofs.AloneTags.{clash}
use Rattle.step.proofs.Fates.{Fitting, FateFits, fate_fits}
use Rattle.step.proofs.Counts.{all_alike}
use Rattle.step.proofs.ProjectionFixed.{Fixed, fixed_opened, fixed_left, fixed_next}
use Rattle.step.proofs.BlockPieces.{On, on_zero, SplitOn, piece_on, AwaitsOn, ReplyOn, asks_on, follows_on}

-- what holds of a new element and of the others holds of all
set_keeps : {A : Type 0} (P : A → Type 0) (l : List A) (k : ℕ) (x d : A) → P x → ((j : ℕ) → P (get_or l j d)) → (j : ℕ) → P (get_or (set l k x) j d)
set_keeps P l k x d new each = by_case (dec_lt k (length l))
  where
    by_case : Dec (k < length l) → (j : ℕ) → P (get_or (set l k x) j d)
    by_case (yes lt) = by_place l k x d lt (λ j y. P y) new (λ j other. each j)
    by_case (no past) = rw (set_out l k x (omega arith)) each

-- ---- question 13

-- where the first no of a list is none, each is answered yes
yes_at : (l : List Asked) (k : ℕ) → first_no l ≡ Ok tt → get_or l k (Ok tt) ≡ Ok tt
unfolding first_no
yes_at [] k e = refl
yes_at (Ok _ ∷ more) zero e = refl
yes_at (Ok _ ∷ more) (suc k) e = yes_at more k e
yes_at (Err f ∷ more) k e = clash (cc)

-- a request's offset and length are on the block
abbrev RangeOn : ℕ → Request → Type 0
RangeOn b q = On b q.offset.0 × On b q.length

aligned_on : (b : ℕ) (c : Context) (q : Request) → aligned b c q ≡ Ok tt → RangeOn b q
unfolding aligned
aligned_on b c q e =
    let both = asked-yes (on_block b q.offset.0 && on_block b q.length) _ e in
    (and_left (on_block b q.offset.0) _ both, and_right (on_block b q.offset.0) _ both)

write_on : (s : State) (q : Request) → first_no (write_questions s (region_at s q.handle) q) ≡ Ok tt → RangeOn s.settings.block q
unfolding write_questions
write_on s q e = aligned_on s.settings.block _ q (yes_at _ 12 e)

read_on : (s : State) (q : Request) → first_no (read_questions s (region_at s q.handle) q) ≡ Ok tt → RangeOn s.settings.block q
unfolding read_questions
read_on s q e = aligned_on s.settings.block _ q (yes_at _ 9 e)

-- ---- the calls

-- every row that awaits a piece is on the block
abbrev RowsOn : ℕ → State → Type 0
RowsOn b s = (r : ℕ) → AwaitsOn b (row_at s r).awaits

-- and so is the reply of what left them
abbrev LeavesOn : ℕ → State × Reply → Type 0
LeavesOn b z = RowsOn b z.0 × ReplyOn b z.1

rejection_on : (b : ℕ) (g : Plan) (a : Awaits) (e : Option ℕ) (buffer : Buffer) → ReplyOn b (rejection g a e buffer)
unfolding ReplyOn rejection
rejection_on b g Nothing e buffer = tt
rejection_on b g (Piece k sp) e buffer = tt
rejection_on b g (Flush t) e buffer = tt

module _ (b : ℕ) (s : State) (block : s.settings.block ≡ b) (maps : (h : ℕ) → blocks_rule b (region_at s h).map ≡ true) (rows : RowsOn b s) where
  -- one row is another
  row_on : (new : Row) → AwaitsOn b new.awaits → (k r : ℕ) → AwaitsOn b (get_or (set s.rows k new) r (freed 0)).awaits
  unfolding row_at
  row_on new o k = set_keeps (λ (x : Row). AwaitsOn b x.awaits) s.rows k new (freed 0) o rows

  submitted_on : (q : Request) (k : Kind) → first_of k ≡ q.offset → (a : Asked) → (a ≡ Ok tt → RangeOn s.settings.block q) → LeavesOn b (submitted s q (verdict_of a s k q))
  unfolding submitted verdict_of accepted row_at claimed_by AwaitsOn ReplyOn
  submitted_on q k first (Err f) passes = (rows, tt)
  submitted_on q k first (Ok _) passes =
      let range : RangeOn b q = rw block at (passes refl) in
      let split : SplitOn b q.offset.0 (begun q.length) = record { first = range.0; total = range.1; done = on_zero b } in
      (row_on _ (rw first split) _, piece_on b (region_at s q.handle).map (maps q.handle) q.offset.0 (begun q.length) split)

  settled_on : (t : ℕ) (row : Row) (f : Fate) → FateFits s row f → AwaitsOn b row.awaits → LeavesOn b (settled s t row f)
  unfolding settled going freeing row_at awaits_now freed Fitting AwaitsOn ReplyOn plan_of
  settled_on t row (away f) w o = (rows, tt)
  settled_on t row (awaits a bytes) w o =
      let g = region_at s row.handle in
      let on = follows_on b g (maps row.handle) row.awaits a w.0.follows o in
      (row_on _ on (row_of t), asks_on b (plan_of g) (maps row.handle) t row.buffer a on)
  settled_on t row (ends ending) w o = (row_on _ tt (row_of t), tt)
  settled_on t row (rejected e buffer bytes) w o = (row_on _ tt (row_of t), rejection_on b (plan_of (region_at s row.handle)) row.awaits e buffer)

  under_on : (t : ℕ) (i : Input) → LeavesOn b (under_tag s t i)
  unfolding under_tag ReplyOn
  under_on t i =
      let row = row_at s (row_of t) in
      by_pick (names row t) (LeavesOn b) (λ found. settled_on t row (fate_of s row i) (fate_fits s row i) (rows (row_of t))) (λ none_live. (rows, tt))

  taken_on : (l : List Completion) → LeavesOn b (taken s l)
  unfolding taken row_at ReplyOn
  taken_on [] = (rows, tt)
  taken_on (c ∷ more) = (rows, tt)

  marked_on : (h : ℕ) (g : Region) → LeavesOn b (marked s h g)
  unfolding marked with_regions row_at ReplyOn
  marked_on h g = by_pick (ltb h s.settings.regions) (LeavesOn b) (λ known. (rows, tt)) (λ unknown. (rows, tt))

  called_on : (c : Call) → LeavesOn b (called s c)
  unfolding called write_verdict read_verdict first_of with_poison row_at ReplyOn
  called_on (Write q) = submitted_on q _ refl _ (write_on s q)
  called_on (ReadPage q) = submitted_on q _ refl _ (read_on s q)
  called_on (Answer t a back flushes) = under_on t (answered a back flushes)
  called_on (Flushed t result) = under_on t (flushed result)
  called_on Take = taken_on s.ready
  called_on (SetGate h x) = marked_on h _
  called_on (SetReadOnly h x) = marked_on h _
  called_on (SetForced h x) = marked_on h _
  called_on (ReportPoison cause) = (rows, tt)

  looked_on : (x : Lookup) → ReplyOn b (looked_up s x)
  unfolding looked_up ReplyOn
  looked_on WritesLive = tt
  looked_on Mark = tt

  done_on : (l : Lengths) (m : Made) → LeavesOn b (done s l m)
  unfolding done step look ReplyOn
  done_on l (calls c) = by_pick (eq_lengths l s.lengths) (LeavesOn b) (λ same. called_on c) (λ other. (rows, tt))
  done_on l (looks x) = (rows, by_pick (eq_lengths l s.lengths) (ReplyOn b) (λ same. looked_on x) (λ other. tt))

-- ---- the opening

map_on : (b : ℕ) (p : Plan) → region_rule b p ≡ true → blocks_rule b p.map ≡ true
unfolding region_rule map_rule
map_on b p ok =
    let m = p.map in
    and_right (starts_rule m) _ (and_right (sizes_rule m) _ (and_right (runs_rule m) _ (and_right (generation_rule p) _ ok)))

-- past the list the map's numbers are 0
plans_on : (b : ℕ) (ps : List Plan) → each_region b ps ≡ true → (h : ℕ) → blocks_rule b (get_or ps h (plan_in [])).map ≡ true
unfolding each_region plan_in map_in runs_in blocks_rule runs_on_block
plans_on b [] ok h = let z = on_zero b in and_both (on_block b 0) _ z (and_both (on_block b 0) _ z (and_both (on_block b 0) _ z refl))
plans_on b (p ∷ ps) ok zero = map_on b p (and_left (region_rule b p) _ ok)
plans_on b (p ∷ ps) ok (suc h) = plans_on b ps (and_right (region_rule b p) _ ok) h

module _ (x : Start) where
  abbrev b : ℕ
  b = x.opening.block

  -- every table of a history has the opening's block and maps
  maps_on : (s : State) → Fixed x s → (h : ℕ) → blocks_rule b (region_at s h).map ≡ true
  unfolding plans_of region_rules plan_of
  maps_on s f h =
      let each = plans_on b (plans_of x) (head_true _ _ (regions_hold x.opening x.plan x.lengths x.admitted)) h in
      subst (λ (p : Plan). blocks_rule b p.map ≡ true) (sym (f.plans h)) each

  opened_on : RowsOn b (opened_by x)
  unfolding opened_by opened row_at freed AwaitsOn
  opened_on r = subst (λ (y : Row). AwaitsOn b y.awaits) (sym (all_alike x.opening.depth r (freed 0))) tt

  -- ---- the events

  event_on : (s : State) (e : Event) → Fixed x s → RowsOn b s → LeavesOn b (done (leave s e.leaves) e.lengths e.made)
  unfolding leave row_at
  event_on s e f rows =
      let left = leave s e.leaves in
      let g = fixed_left x s e.leaves f in
      done_on b left (ap (λ (o : Opening). o.block) g.settings) (maps_on left g) rows e.lengths e.made

  run_on : (s : State) (h : List Event) → Fixed x s → RowsOn b s → Fixed x (run s h) × RowsOn b (run s h)
  unfolding run next
  run_on s [] f rows = (f, rows)
  run_on s (e ∷ h) f rows = run_on (next s e) h (fixed_next x s e f) (event_on s e f rows).0

pub whole_blocks : WholeBlocks
unfolding after reply_to ReplyOn
whole_blocks x h e t offset count buffer piece =
    let now = run_on x (opened_by x) h (fixed_opened x) (opened_on x) in
    subst (ReplyOn x.opening.block) piece (event_on x (after x h) e now.0 now.1).1
