-- The law, by the stage and by what the line says.
use mathlib.Core.Path.{◌≡◌, refl, sym, ap, ◌∙◌, subst}
use mathlib.Core.Bool.{Bool, true, false}
use mathlib.Core.List.{List, [], ◌∷◌, ◌++◌, append_assoc, append-nil}
use Prim.Native.Nat.{ℕ, zero, suc, ◌*◌}
use native.Mathlib.Omega.{arith}
use lib.ListN.{length, take, drop, take-append-drop}
use lib.Seq.{take-append_seam}
use Rattle.layout.specs.Pick.{pick}
use Rattle.model.specs.declared.Opening.{Opening}
use Rattle.model.specs.State.{fresh}
use Rattle.model.specs.declared.Lengths.{Lengths}
use Rattle.model.specs.Memory.{Lent, lengths_of, state_in, opened_lent, lent_after}
use Rattle.model.specs.Opening.{opens}
use Rattle.optable.specs.Called.{lent_of}
use Rattle.optable.specs.Held.{Holds, start_at}
use Rattle.optable.proofs.Held.{held_laws}
use Rattle.step.specs.Run.{Event, Start}
use Rattle.parser.specs.declared.preamble.OpenLine.{OpenLine}
use Rattle.parser.specs.declared.preamble.OpenLine.TheVariants.{Comment, Open as opens-with, Region, Start as starts, Bad}
use Rattle.parser.specs.Openings.{open_line_read}
use Rattle.parser.specs.Said.{said_read}
use Rattle.session.specs.declared.start.Started.{Started}
use Rattle.session.specs.declared.start.Started.TheVariants.{Table as opened, Refused as broken, TooLarge}
use Rattle.session.specs.Start.{keeps, lent_for, opens_in, started_as}
use Rattle.session.specs.Asking.{Held, held_of}
use Rattle.session.specs.declared.Stage.{Stage}
use Rattle.session.specs.declared.Stage.TheVariants.{Before, Planned, Table, Refused, Over}
use Rattle.session.specs.Unopened.{Stood, before_line, with_region, lent_opened, start_line, planned_line}
use Rattle.session.specs.Opened.{part_of, joined, TableLine}
use Rattle.session.specs.Lines.{LineAt}
use Rattle.tracelaws.specs.Laws.{line_events, Leaves, Answer, Answered, stood_after, line_history, AreSteps, OpenedBy, Reached, StandsAt, Stands, TraceLaws}
use Rattle.tracelaws.proofs.Tables.{is_open_lem, leaves}
use Rattle.tracelaws.proofs.Names.{own_names}

-- the part and the rest of a pool, cut again where they were joined
rejoined : (k : ℕ) (p pool : List ℕ) → length p ≡ length (take k pool) → take k (p ++ drop k pool) ≡ p
rejoined zero [] pool e = refl
rejoined zero (x ∷ p) pool e = absurd (omega arith)
rejoined (suc k) [] [] e = refl
rejoined (suc k) [] (y ∷ pool) e = absurd (omega arith)
rejoined (suc k) (x ∷ p) [] e = absurd (omega arith)
rejoined (suc k) (x ∷ p) (y ∷ pool) e = ap (λ (l : List ℕ). x ∷ l) (rejoined k p pool (omega arith))

front : (n : ℕ) (l : List ℕ) → take (length (take n l)) l ≡ take n l
front n l = ap (take (length (take n l))) (sym (take-append-drop n l)) ∙ take-append_seam (take n l) (drop n l)

before_stands : (x : OpenLine) (n : ℕ) (s : Stood) → Stands (before_line x n s).stood
unfolding before_line StandsAt
before_stands Comment n s = tt
before_stands (opens-with o) n s = tt
before_stands Region n s = tt
before_stands starts n s = tt
before_stands Bad n s = tt

opens_if : (t u : Bool) → opened ≡ pick t opened (pick u TooLarge broken) → t ≡ true
unfolding pick
opens_if true u e = refl
opens_if false true e = absurd (let z : ◌≡◌ {A = ℕ} 0 1 = cc in omega arith)
opens_if false false e = absurd (let z : ◌≡◌ {A = ℕ} 0 1 = cc in omega arith)

long : (l : Lent) → length l.pool ≡ (lengths_of l).pool
unfolding lengths_of
long l = refl

-- the pool that was lent is what is lent of it afterwards
kept_pool : (o : Opening) (s : Stood) (t : Bool) → (pick t (opened_lent o s.plan (lent_for o s.lent)) (lent_for o s.lent)).pool ≡ take (length (lent_for o s.lent).pool) s.lent.pool
unfolding pick opened_lent lent_for
kept_pool o s true = sym (front (o.buffers * o.capacity) s.lent.pool)
kept_pool o s false = sym (front (o.buffers * o.capacity) s.lent.pool)

-- the bytes that the stage says
same_bytes : {n k : ℕ} → Table n ≡ Table k → n ≡ k
same_bytes e = cc

-- what `start` leaves of an opening that is admitted
started_as_lem : (o : Opening) (s : Stood) → opens o s.plan (lengths_of (lent_for o s.lent)) ≡ true → OpenedBy o s (start_line opened o s).stood (length (lent_for o s.lent).pool)
unfolding start_line lent_opened lent_after part_of lent_for opened_lent
started_as_lem o s ok =
    let l : Lent = lent_for o s.lent in
    let there : lent_after o s.plan l ≡ (part_of (length l.pool) (start_line opened o s).stood).lent =
    λ j. let l' = pick (opens o s.plan (lengths_of l)) (opened_lent o s.plan l) l in lent_of l'.rows l'.store l'.free l'.ready l'.owners (kept_pool o s (opens o s.plan (lengths_of l)) j)
    in
    let x : Start = start_at o s.plan l ok (long l) in
    record {
      start = x;
      begins = record { opening_is = refl; plan_is = refl; lengths_are = refl; pool_is = refl };
      opened = ap (state_in fresh) (sym there) ∙ held_laws.opened o s.plan l ok (long l);
      holds = subst (λ (y : Lent). Holds x [] fresh y) there (held_laws.opening o s.plan l ok (long l));
    }

-- only a table that opened has that stage
admitted_so : (o : Opening) (s : Stood) → opened ≡ started_as o s.plan s.lent → opens o s.plan (lengths_of (lent_for o s.lent)) ≡ true
unfolding started_as opens_in
admitted_so o s e = opens_if (opens o s.plan (lengths_of (lent_for o s.lent))) (keeps o s.plan) e

start_opened : (r : Started) (o : Opening) (s : Stood) (k : ℕ) → r ≡ started_as o s.plan s.lent → (start_line r o s).stood.stage ≡ Table k → OpenedBy o s (start_line r o s).stood k
unfolding start_line
start_opened opened o s k e is = subst (OpenedBy o s (start_line opened o s).stood) (same_bytes is) (started_as_lem o s (admitted_so o s e))
start_opened broken o s k e is = absurd (let z : ◌≡◌ {A = ℕ} 0 1 = cc in omega arith)
start_opened TooLarge o s k e is = absurd (let z : ◌≡◌ {A = ℕ} 0 1 = cc in omega arith)

planned_opened : (x : OpenLine) (o : Opening) (bytes : List ℕ) (n : ℕ) (s : Stood) (k : ℕ) → (planned_line x o bytes n s).stood.stage ≡ Table k → OpenedBy o s (planned_line x o bytes n s).stood k
unfolding planned_line with_region
planned_opened Comment o bytes n s k is = absurd (let z : ◌≡◌ {A = ℕ} 0 1 = cc in omega arith)
planned_opened (opens-with x) o bytes n s k is = absurd (let z : ◌≡◌ {A = ℕ} 0 1 = cc in omega arith)
planned_opened Region o bytes n s k is = absurd (let z : ◌≡◌ {A = ℕ} 0 1 = cc in omega arith)
planned_opened starts o bytes n s k is = start_opened (started_as o s.plan s.lent) o s k refl is
planned_opened Bad o bytes n s k is = absurd (let z : ◌≡◌ {A = ℕ} 0 1 = cc in omega arith)

opened_law : (o : Opening) (bytes : List ℕ) (n : ℕ) (s s' : Stood) (text : List ℕ) (k : ℕ) → LineAt (Planned o) bytes n s s' text → s'.stage ≡ Table k → OpenedBy o s s' k
unfolding LineAt
opened_law o bytes n s s' text k t is =
    subst (λ (y : Stood). OpenedBy o s y k) (sym t.0) (planned_opened (open_line_read bytes) o bytes n s k (ap (λ (y : Stood). y.stage) (sym t.0) ∙ is))

start_stands : (r : Started) (o : Opening) (s : Stood) → r ≡ started_as o s.plan s.lent → Stands (start_line r o s).stood
unfolding start_line StandsAt
start_stands opened o s e =
    let z = started_as_lem o s (admitted_so o s e) in
    record { start = z.start; history = []; holds = z.holds }
start_stands broken o s e = tt
start_stands TooLarge o s e = tt

planned_stands : (x : OpenLine) (o : Opening) (bytes : List ℕ) (n : ℕ) (s : Stood) → Stands (planned_line x o bytes n s).stood
unfolding planned_line with_region StandsAt
planned_stands Comment o bytes n s = tt
planned_stands (opens-with x) o bytes n s = tt
planned_stands Region o bytes n s = tt
planned_stands starts o bytes n s = start_stands (started_as o s.plan s.lent) o s refl
planned_stands Bad o bytes n s = tt

-- a line of an open table: its part, and the whole again
table_law : (x : Start) (h : List Event) (k : ℕ) (bytes : List ℕ) (n : ℕ) (s s' : Stood) (text : List ℕ) → Holds x h s.counts (part_of k s).lent → TableLine k (said_read bytes) n s s' text
    → Leaves x h (said_read bytes) (part_of k s) (part_of k s') text
unfolding part_of joined lengths_of
table_law x h k bytes n s s' text z t =
    let d = leaves x h (part_of k s) z (said_read bytes) n t.part text t.answers in
    let same : length t.part.lent.pool ≡ length (take k s.lent.pool) = ap (λ (a : Lengths). a.pool) (d.holds.lengths ∙ sym z.lengths) in
    let part = t.part in
    let back : part_of k (joined k part s) ≡ part =
    λ j. held_of part.flushes part.counts (lent_of part.lent.rows part.lent.store part.lent.free part.lent.ready part.lent.owners (rejoined k part.lent.pool s.lent.pool same j))
    in
    subst (λ (y : Held). Leaves x h (said_read bytes) (part_of k s) y text) (sym (ap (part_of k) t.stood ∙ back)) d

lines_law : (x : Start) (h : List Event) (k : ℕ) (s : Stood) (more : List Answer) → Holds x h s.counts (part_of k s).lent → Answered k s more
    → Holds x (h ++ line_history k s more) (stood_after s more).counts (part_of k (stood_after s more)).lent × AreSteps x h k s more
unfolding Answered stood_after line_history AreSteps
lines_law x h k s [] z t = (subst (λ (g : List Event). Holds x g s.counts (part_of k s).lent) (sym (append-nil h)) z, tt)
lines_law x h k s (a ∷ more) z t =
    let es = line_events (said_read a.bytes) (part_of k s) in
    let one = table_law x h k a.bytes a.number s a.stood a.text z t.0 in
    let rest = lines_law x (h ++ es) k a.stood more (part_counts k a.stood one.holds) t.1 in (
      subst (λ (g : List Event). Holds x g (stood_after a.stood more).counts (part_of k (stood_after a.stood more)).lent) (append_assoc h es (line_history k a.stood more)) rest.0,
      (one.is_step, rest.1),
    )
  where
    part_counts : (k : ℕ) (y : Stood) {g : List Event} → Holds x g (part_of k y).counts (part_of k y).lent → Holds x g y.counts (part_of k y).lent
    part_counts k y w = unfold part_of in w

-- the stage stays
stage_stands : (k : ℕ) (s s' : Stood) (part : Held) → s' ≡ joined k part s → Reached (part_of k s').counts (part_of k s').lent → Stands s'
unfolding joined StandsAt part_of
stage_stands k s s' part e i = subst Stands (sym e) (subst (λ (y : Stood). Reached y.counts (part_of k y).lent) e i)

table_stands : (k : ℕ) (bytes : List ℕ) (n : ℕ) (s s' : Stood) (text : List ℕ) → Reached s.counts (part_of k s).lent → TableLine k (said_read bytes) n s s' text → Stands s'
table_stands k bytes n s s' text i t =
    let d = table_law i.start i.history k bytes n s s' text i.holds t in
    let there : Reached (part_of k s').counts (part_of k s').lent = record { start = i.start; history = i.history ++ line_events (said_read bytes) (part_of k s); holds = d.holds } in
    stage_stands k s s' t.part t.stood there

line_law : (stage : Stage) (bytes : List ℕ) (n : ℕ) (s s' : Stood) (text : List ℕ) → StandsAt stage s → LineAt stage bytes n s s' text → Stands s'
unfolding LineAt StandsAt
line_law Before bytes n s s' text i t = subst Stands (sym t.0) (before_stands (open_line_read bytes) n s)
line_law (Planned o) bytes n s s' text i t = subst Stands (sym t.0) (planned_stands (open_line_read bytes) o bytes n s)
line_law (Table k) bytes n s s' text i t = table_stands k bytes n s s' text i t
line_law Refused bytes n s s' text i t = subst Stands (sym t.0) tt
line_law Over bytes n s s' text i t = subst Stands (sym t.0) tt

first_law : (s : Stood) → StandsAt Before s
unfolding StandsAt
first_law s = tt

pub trace_laws : TraceLaws
trace_laws = record {
  first = first_law;
  line = λ bytes n s. line_law s.stage bytes n s;
  opened = opened_law;
  table = table_law;
  lines = lines_law;
  is_open_lem = λ c l i. is_open_lem i.start i.history c l i.holds;
  own_names = own_names;
}
