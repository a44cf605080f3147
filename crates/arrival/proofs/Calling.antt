-- An answer or a flush result under a tag that names a live row within the depth: the call as a whole.
use Rattle.std.proofs.Common.{◌≡◌, ℕ, ◌^◌, ◌<◌, true, false, ◌≢◌, List, get_or, set, sym, refl, ap, ◌∙◌, subst}
use lib.Seq.{set-get_or}
use Rattle.layout.specs.Pick.{pick}
use Rattle.layout.proofs.Tests.{not_both}
use Rattle.std.specs.declared.option.Option.{Option}
use Rattle.completion.specs.Buffers.{Buffer}
use Rattle.completion.specs.declared.Refusal.{Refusal}
use Rattle.completion.specs.declared.Reply.{Reply}
use Rattle.completion.specs.declared.Reply.TheVariants.{No as turnedAway}
use Rattle.model.specs.declared.Counts.{Counts}
use Rattle.model.specs.declared.Opening.{Opening}
use Rattle.model.specs.declared.Awaits.{Awaits}
use Rattle.model.specs.declared.Awaits.TheVariants.{Nothing, Piece, Flush}
use Rattle.model.specs.declared.Row.{Row}
use Rattle.model.specs.declared.Call.{Call}
use Rattle.model.specs.declared.Call.TheVariants.{Take}
use Rattle.model.specs.State.{Region, State, freed}
use Rattle.model.specs.Opening.{Plan}
use Rattle.model.specs.Memory.{Lent, lengths_of, same_lengths, settings_in, state_in}
use Rattle.step.specs.Questions.{region_at}
use Rattle.step.specs.Rules.{Input, range_end}
use Rattle.step.specs.Step.{row_of, names, bytes_at, plan_of, fate_of, settled, under_tag, rejection, called}
use Rattle.step.specs.Lists.{is_away}
use Rattle.step.specs.Sound.{Sound, TicketFits}
use Rattle.step.proofs.Fates.{AwaitsPiece, FateFits, fate_fits}
use Rattle.optable.specs.Counted.{accepted_if, released_by}
use Rattle.optable.specs.declared.touched.Touched.{Touched}
use Rattle.optable.specs.Called.{lent_of, away_with, Beyond, CallsTo}
use Rattle.memory.specs.declared.liveregion.LiveRegion.{LiveRegion}
use Rattle.memory.specs.Live.{live_of}
use Rattle.marks.proofs.Calling.{stepped, not_away}
use Rattle.settle.specs.declared.Finished.{Finished}
use Rattle.settle.specs.declared.Finished.TheVariants.{Away, Next, Ended, Rejected}
use Rattle.settle.specs.Finished.{fate_by, plan_with}
use Rattle.arrival.specs.Carried.{store_by, free_by, ready_by, owners_by, pool_by, AsksFor, TouchedBy, Carried}
use Rattle.arrival.proofs.Turned.{known}
use Rattle.arrival.proofs.Holding.{at, named_at, in_table, held}
use Rattle.arrival.proofs.Wording.{InputFits, FlushFits, FateWords, poison_fits, rules_words}
use Rattle.arrival.proofs.Stepping.{carried}
use Rattle.arrival.proofs.Behind.{behind_all}

-- ---- replies that turn nobody away

asks_on : (a : Awaits) (store : List ℕ) (row : Row) (t : ℕ) (reply : Reply) → AsksFor store row t a reply → is_away reply ≡ false
unfolding AsksFor is_away
asks_on Nothing store row t reply asks = ap is_away asks
asks_on (Piece k s) store row t reply asks = ap is_away asks.reply
asks_on (Flush ticket) store row t reply asks = ap is_away asks

rejects : (g : Plan) (a : Awaits) (e : Option ℕ) (b : Buffer) → AwaitsPiece a → is_away (rejection g a e b) ≡ false
unfolding rejection is_away AwaitsPiece
rejects g Nothing e b w = absurd w
rejects g (Piece k s) e b w = refl
rejects g (Flush t) e b w = absurd w

-- only an operation that awaits a piece is rejected
unfoldable pub RejectsPiece : Finished → Awaits → Type 0
RejectsPiece (Away f) a = Unit {0}
RejectsPiece (Next now t) a = Unit {0}
RejectsPiece (Ended end) a = Unit {0}
RejectsPiece (Rejected e b) a = AwaitsPiece a

-- the ticket of a flush is the opening's
flush_ticket : (o : Opening) (g : Region) (a : Awaits) → TicketFits o g a → g.generation < 2 ^ 32 → FlushFits o a
unfolding TicketFits FlushFits
flush_ticket o g Nothing fits short = tt
flush_ticket o g (Piece k s) fits short = tt
flush_ticket o g (Flush t) fits short = record { volume = fits.0; epoch = fits.3; generation = subst (λ (n : ℕ). n < 2 ^ 32) (sym fits.2) short }

module _ (c : Counts) (rows : List Row) (store free ready owners pool : List ℕ) (t : ℕ) (row : Row) (found : row ≡ get_or rows (row_of t) (freed 0)) where
  abbrev l : Lent
  l = lent_of rows store free ready owners pool

  abbrev s : State
  s = state_in c l

  abbrev after : Finished → Touched → Lent
  after f x = lent_of (set rows (row_of t) x.row) (store_by f store) (free_by f c.live (row_of t) free) (ready_by f (settings_in store).depth c.ready row ready) (owners_by f row owners) (pool_by f (settings_in store).capacity row pool)

  -- what turns away changes nothing
  unchanged : (g : LiveRegion) (f : Finished) (r : Touched) → TouchedBy f t row g store r → RejectsPiece f row.awaits → (x : Refusal) → r.reply ≡ turnedAway x
      → (released_by r.frees (accepted_if r.accepts c) ≡ c) × (after f r ≡ l)
  unfolding TouchedBy RejectsPiece away_with released_by accepted_if pick store_by free_by ready_by owners_by pool_by is_away
  unchanged g (Away f) r e piece x is = (
    ap (λ (y : Touched). released_by y.frees (accepted_if y.accepts c)) e,
    ap (λ (y : Touched). after (Away f) y) e ∙ ap (λ (rs : List Row). lent_of rs store free ready owners pool) (ap (set rows (row_of t)) found ∙ set-get_or rows (row_of t) (freed 0)),
  )
  unchanged g (Next a turn) r e piece x is = not_away r.reply x (asks_on a store row t r.reply e.0) is
  unchanged g (Ended end) r e piece x is = not_away r.reply x (ap (λ (y : Touched). is_away y.reply) e) is
  unchanged g (Rejected e b) r back piece x is =
      let m = (region_at s row.handle).map in
      not_away r.reply x (ap (λ (y : Touched). is_away y.reply) (back m) ∙ rejects (plan_with g m) row.awaits e b piece) is

  module _ (same : same_lengths (lengths_of l) store ≡ true) (below : row_of t < (settings_in store).depth) (named : names row t ≡ true) (small : range_end row.awaits < 2 ^ 64)
      (call : Call) (other : call ≢ Take) (input : Input) (is-input : (x : State) → called x call ≡ under_tag x t input) (input-fits : InputFits input)
      (g : LiveRegion) (g-is : Sound s → g ≡ live_of (region_at s row.handle))
      (f : Finished) (tells : Sound s → fate_by f (bytes_at s row.buffer) ≡ fate_of s row input) (piece : RejectsPiece f row.awaits) where
    module _ (i : Sound s) where
      words : FateWords (settings_in store) (fate_of s row input)
      unfolding fate_of state_in plan_of
      words =
          let there = in_table c rows store free ready owners pool i same t row found below named in
          let short = (i.each row.handle there.region).generation in
          rules_words (settings_in store) (plan_of (region_at s row.handle)) (region_at s row.handle).forced s.poison row (bytes_at s row.buffer) short (poison_fits store) input input-fits
          (flush_ticket (settings_in store) (region_at s row.handle) row.awaits there.ticket short)

      fate_is : called s call ≡ settled s t row (fate_by f (bytes_at s row.buffer))
      fate_is =
          is-input s
          ∙ known s t input (named_at c rows store free ready owners pool i same t row found below named)
          ∙ ap (λ (x : Row). settled s t x (fate_of s x input)) (sym (at c rows store free ready owners pool i same t row found below named))
          ∙ ap (settled s t row) (sym (tells i))

    -- with what is lent as the code leaves it
    pub calls : (r : Touched) (store' free' ready' owners' pool' : List ℕ) → Carried f t row (settings_in store) g c store free ready owners pool r store' free' ready' owners' pool'
        → CallsTo call c l r.reply (released_by r.frees (accepted_if r.accepts c)) (lent_of (set rows (row_of t) r.row) store' free' ready' owners' pool')
    calls r store' free' ready' owners' pool' k = record {
      another_length = λ e. absurd (not_both same e);
      turned_away = λ x e. let u = unchanged g f r k.touched_is piece x e in (u.0, lent_is ∙ u.1);
      none_ready = λ e is. absurd (other e);
      as_step = λ i. stepped call c l same i
          ∙ fate_is i
          ∙ carried c rows store free ready owners pool i same t row found below named small g (g-is i) f r store' free' ready' owners' pool' k
          (subst (FateWords (settings_in store)) (sym (tells i)) (words i)) (subst (FateFits s row) (sym (tells i)) (fate_fits s row input));
      beyond = λ i. subst (Beyond (settings_in store) l) (sym lent_is) (behind_all c rows store free ready owners pool (row_of t) row (held c rows store free ready owners pool i same t row found below named) f r.row);
    }
      where
        lent_is : lent_of (set rows (row_of t) r.row) store' free' ready' owners' pool' ≡ after f r
        lent_is = λ j. lent_of (set rows (row_of t) r.row) (k.store_is j) (k.free_is j) (k.ready_is j) (k.owners_is j) (k.pool_is j)
