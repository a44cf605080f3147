-- The bytes of a lost buffer: a call that loses one is its operation's last answer, and leaves them as they lie. Of every other buffer no call changes a byte.
use mathlib.Core.Path.{◌≡◌, refl, sym, ◌∙◌, subst}
use mathlib.Core.Logic.{◌≢◌}
use mathlib.Core.Bool.{true}
use mathlib.Core.Option.{Option, none, some}
use Prim.Native.Nat.{ℕ, ◌<◌}
use native.Mathlib.Decide.{ℕ_discrete}
use lib.ListN.{length}
use lib.Seq.{get_or-set_same}
use mathlib.Core.List.{List}
use Rattle.domain.specs.declared.FirstCause.{FirstCause}
use Rattle.completion.specs.declared.Outcome.{Outcome}
use Rattle.completion.specs.Buffers.{Buffer}
use Rattle.std.specs.declared.option.Option.TheVariants.{Some as Back, None as Lost}
use Rattle.completion.specs.declared.Reply.{Reply}
use Rattle.model.specs.declared.Lengths.{Lengths}
use Rattle.model.specs.declared.Row.{Row}
use Rattle.model.specs.declared.Call.{Call}
use Rattle.model.specs.State.{Owner.host, Owner.table, State, freed}
use Rattle.step.specs.Rules.{Input, Fate, Fate.away, Fate.awaits, Fate.ends, Fate.rejected}
use Rattle.step.specs.Step.{row_at, row_of, names, bytes_at, raised, kept_by, going, freeing, settled, fate_of, under_tag}
use Rattle.step.specs.Step.{eq_lengths, step}
use Rattle.step.specs.Sound.{Sound}
use Rattle.step.specs.Run.{Made.calls, Event, leave, done, next}
use Rattle.step.specs.Lists.{brought, tag_in}
use Rattle.step.specs.Others.{IsLost}
use Rattle.step.proofs.Picked.{by_pick}
use Rattle.step.proofs.AloneTags.{clash}
use Rattle.step.proofs.Fates.{Lies, Fitting, FateFits, fate_fits}
use Rattle.step.proofs.Buffers.{bytes_length}
use Rattle.step.proofs.Histories.{done_stays}
use Rattle.step.proofs.Laws.{keeps}
use Rattle.step.proofs.ListsBrought.{brings}
use Rattle.step.proofs.ProjectionSet.{bytes_here}
use Rattle.step.proofs.Demand2Others.{pool_others}
use Rattle.step.proofs.Lost.{row_had, had_in, lost_in, not_had}

module _ (s : State) (sound : Sound s) where
  abbrev Keeps : ℕ → State × Reply → Type 0
  Keeps b z = IsLost z.0 b → bytes_at z.0 b ≡ bytes_at s b

  -- the operation whose buffer it is
  module _ (t : ℕ) (named : names (row_at s (row_of t)) t ≡ true) where
    abbrev row : Row
    row = row_at s (row_of t)

    in_owners : row.buffer < length s.owners
    in_owners = had_in s.owners row.buffer (row_had s sound t named)

    in_buffers : row.buffer < s.settings.buffers
    in_buffers = rw sound.owners at in_owners

    ends_keeps : (o : Outcome) (b : Buffer) (bytes : List ℕ) (cause : Option FirstCause)
        → let f = ends (record { outcome = o; buffer = b; bytes = bytes; cause = cause }) in
        FateFits s row f → Keeps row.buffer (settled s t row f)
    unfolding settled freeing Fitting Lies kept_by
    ends_keeps o (Back h) bytes cause w gone = clash (let e = get_or-set_same s.owners row.buffer table host in_owners in cc)
    ends_keeps o Lost bytes cause w gone =
        bytes_here s (settled s t row (ends (record { outcome = o; buffer = Lost; bytes = bytes; cause = cause }))).0 (row_of t) row.buffer (freed (raised row.generation)) bytes (record { settings = refl; regions = refl; rows = refl; pool = refl }) sound in_buffers (w.1 ∙ bytes_length s sound row.buffer in_buffers)
        ∙ w.2

    settled_keeps : (f : Fate) → FateFits s row f → Keeps row.buffer (settled s t row f)
    unfolding settled going freeing Fitting Lies kept_by
    settled_keeps (away f) w gone = refl
    settled_keeps (awaits a bytes) w gone = absurd (not_had s row.buffer gone row.buffer (row_had s sound t named) refl)
    settled_keeps (ends ending) w gone = ends_keeps ending.outcome ending.buffer ending.bytes ending.cause w gone
    settled_keeps (rejected e buf bytes) w gone =
        bytes_here s (settled s t row (rejected e buf bytes)).0 (row_of t) row.buffer (freed row.generation) bytes (record { settings = refl; regions = refl; rows = refl; pool = refl }) sound in_buffers (w.2 ∙ bytes_length s sound row.buffer in_buffers)
        ∙ w.3

  under_keeps : (t : ℕ) (i : Input) → Keeps (row_at s (row_of t)).buffer (under_tag s t i)
  unfolding under_tag
  under_keeps t i =
      let row = row_at s (row_of t) in
      by_pick (names row t) (Keeps row.buffer) (λ named. settled_keeps t named (fate_of s row i) (fate_fits s row i)) (λ unnamed gone. refl)

pub lost_lies : (s : State) (l : Lengths) (c : Call) (b : ℕ) → Sound s → IsLost (step s l c).0 b → bytes_at (step s l c).0 b ≡ bytes_at s b
unfolding next done leave
lost_lies s l c b sound gone = by_brought (brought (tag_in (calls c)) (calls c)) refl
  where
    t : ℕ
    t = tag_in (calls c)

    event : Event
    event = record { leaves = s.pool; lengths = l; made = calls c }

    in_buffers : b < s.settings.buffers
    in_buffers = rw ((keeps s l c sound).owners, (done_stays s l (calls c)).settings) at (lost_in (step s l c).0.owners b gone)

    -- the buffer of the operation under the tag
    own : ℕ
    own = (row_at s (row_of t)).buffer

    elsewhere : ((i : Input) → brought t (calls c) ≡ some i → own ≢ b) → bytes_at (step s l c).0 b ≡ bytes_at s b
    elsewhere n = pool_others s event b sound in_buffers (λ i e named. n i e)

    by_brought : (o : Option Input) → brought t (calls c) ≡ o → bytes_at (step s l c).0 b ≡ bytes_at s b
    by_brought none e = elsewhere (λ i f. clash (cc))
    by_brought (some i) e = by_buffer (ℕ_discrete own b)
      where
        by_buffer : Dec (own ≡ b) → bytes_at (step s l c).0 b ≡ bytes_at s b
        by_buffer (no n) = elsewhere (λ i f. n)
        by_buffer (yes same) =
            subst (λ (k : ℕ). Keeps s sound k (step s l c)) same
            (subst (Keeps s sound own) (sym ((brings (calls c) t i e).called_is s l)) (by_pick (eq_lengths l s.lengths) (Keeps s sound own) (λ fit. under_keeps s sound t i) (λ other now. refl))) gone
