-- A line of an open table, with its history: the call or lookup that it asks for is one event more; what the host does between calls is what it may.
use mathlib.Core.Path.{◌≡◌, refl, sym, ap, ◌∙◌, subst}
use mathlib.Core.Logic.{inl, inr}
use mathlib.Core.Bool.{Bool, true, false}
use mathlib.Core.List.{List, [], ◌∷◌, ◌++◌, append-nil}
use Prim.Native.Nat.{ℕ, ◌-◌, ◌<◌}
use native.Mathlib.Omega.{arith}
use lib.ListN.{length}
use lib.Seq.{length-take-le}
use Rattle.layout.specs.Pick.{pick}
use Rattle.model.specs.declared.{Counts.Counts, Lengths.Lengths, Call.Call, Lookup.Lookup}
use Rattle.model.specs.Memory.{Lent, lengths_of, settings_in, state_in}
use Rattle.step.specs.Step.{bytes_at}
use Rattle.step.specs.Run.{Made.calls, Made.looks, Event, Start}
use Rattle.step.specs.Lists.{HostMay}
use Rattle.optable.specs.Held.{lent_with, Holds, MakesTo, Turn, TurnFrom, event}
use Rattle.optable.proofs.Held.{held_laws, holds_fits, holds_sound, words_say}
use Rattle.parser.specs.declared.{forms.Said.Said, requests.Asks.Asks}
use Rattle.parser.specs.Asks.{asks_of}
use Rattle.printer.specs.Replay.{replay_text}
use Rattle.hostfill.specs.Writes.{filled, place_in}
use Rattle.hostfill.specs.MayFill.{may_fill, Open}
use Rattle.session.specs.Asking.{Held, named_in, Ran, Asked}
use Rattle.session.specs.Table.{LooksAs, shorter, with_pool, Fills, Answers}
use Rattle.tracelaws.specs.Laws.{asked_events, line_events, IsStep, Leaves}
use Rattle.tracelaws.proofs.Filling.{may_fill_lem}

-- the host may leave the pool as it is
may_stay : (c : Counts) (l : Lent) → HostMay (state_in c l) l.pool
unfolding state_in bytes_at
may_stay c l = record { count = refl; each = λ b lt. inr (inl refl) }

module _ (x : Start) (h : List Event) where
  pub is_open_lem : (c : Counts) (l : Lent) → Holds x h c l → Open c l
  is_open_lem c l z = record { lengths = holds_fits x h c l z; sound = holds_sound x h c l z }

  -- what is left by a line that is the events es, with a text
  abbrev LeavesBy : List Event → Held → List ℕ → Type 0
  LeavesBy es held' text = Holds x (h ++ es) held'.counts held'.lent × IsStep x h es held' text

  module _ (held : Held) (z : Holds x h held.counts held.lent) where
    still : (held' : Held) (text : List ℕ) → held' ≡ held → LeavesBy [] held' text
    unfolding IsStep
    still held' text e = (subst (λ (y : Held). Holds x (h ++ []) y.counts y.lent) (sym e) (subst (λ (g : List Event). Holds x g held.counts held.lent) (sym (append-nil h)) z), tt)

    ran : (c : Call) (held' : Held) (text : List ℕ) → Ran c held held' text → LeavesBy (event held.lent.pool (lengths_of held.lent) (calls c) ∷ []) held' text
    unfolding MakesTo IsStep
    ran c held' text r =
        let n = held_laws.makes x h held.counts held.lent (calls c) r.reply held'.counts held'.lent z r.called in
        (n.holds, (r.prints ∙ ap replay_text n.reply, n.exactly))

    asked : (a : Asks) (number : ℕ) (held' : Held) (text : List ℕ) → Asked a number held held' text → LeavesBy (asked_events a held) held' text
    unfolding Asked asked_events
    asked Asks.Nothing number held' text r = still held' text r.held
    asked (Asks.Call c) number held' text r = ran c held' text r
    asked Asks.Other number held' text r = still held' text r.held

    looked : (y : Lookup) (held' : Held) (text : List ℕ) → held' ≡ held → LooksAs y held.counts held.lent text → LeavesBy (line_events (Said.Look y) held) held' text
    unfolding MakesTo IsStep line_events
    looked y held' text e r =
        let n = held_laws.makes x h held.counts held.lent (looks y) r.reply held.counts held.lent z (r.looked, refl, refl) in
        let d = event held.lent.pool (lengths_of held.lent) (looks y) in
        (subst (λ (w : Held). Holds x (h ++ (d ∷ [])) w.counts w.lent) (sym e) n.holds, (r.prints ∙ ap replay_text n.reply, ap (λ (w : Held). state_in w.counts w.lent) e ∙ n.exactly))

    -- `len`: the free stack has a word at least, so that without its last it has another length
    abbrev short : Lent
    short = shorter held.lent

    some_word : 0 < length held.lent.free
    unfolding state_in lengths_of
    some_word =
        let sound = holds_sound x h held.counts held.lent z in
        let own = words_say x h held.counts held.lent z ∙ sym z.lengths in
        omega (arith, sound.room.free, sound.numbers.some_depth, ap (λ (a : Lengths). a.free) own)

    another : lengths_of short ≡ lengths_of held.lent → ⊥
    unfolding lengths_of shorter
    another e = omega (arith, some_word, length-take-le (length held.lent.free - 1) held.lent.free (omega arith), ap (λ (a : Lengths). a.free) e)

    len : (held' : Held) (text : List ℕ) → held' ≡ held → LooksAs Lookup.WritesLive held.counts short text → LeavesBy (line_events Said.Len held) held' text
    unfolding MakesTo IsStep line_events shorter
    len held' text e r =
        let u : Turn =
        record { leaves = held.lent.pool; made = looks Lookup.WritesLive; lent = short; reply = r.reply; counts_left = held.counts; left = short; counts = held.counts; held = held.lent }
        in
        let k : TurnFrom held.counts held.lent u = record {
          may = may_stay held.counts held.lent;
          lends = record { words = inr refl; all = λ same. absurd (another same) };
          makes = (r.looked, refl, refl);
          all = λ same. absurd (another same);
          others = λ unlike c l. (refl, refl);
        } in
        let n = held_laws.turn x h held.counts held.lent u z k in
        let shortly = event held.lent.pool (lengths_of short) (looks Lookup.WritesLive) in
        (subst (λ (w : Held). Holds x (h ++ (shortly ∷ [])) w.counts w.lent) (sym e) n.holds, (r.prints ∙ ap replay_text n.reply, ap (λ (w : Held). state_in w.counts w.lent) e ∙ n.exactly))

    -- `fill`: the host writes where it may, or nothing
    filled_so : (b at n seed : ℕ) (may : Bool) → may ≡ may_fill (state_in held.counts held.lent) b at n
        → HostMay (state_in held.counts held.lent) (pick may (filled (place_in (settings_in held.lent.store).capacity b at) n seed held.lent.pool) held.lent.pool)
    unfolding pick state_in
    filled_so b at n seed true e = may_fill_lem (state_in held.counts held.lent) b at n seed (sym e)
    filled_so b at n seed false e = may_stay held.counts held.lent

    fills : (b at n seed number : ℕ) (held' : Held) (text : List ℕ) → Fills b at n seed number held held' text → LeavesBy [] held' text
    unfolding IsStep with_pool
    fills b at n seed number held' text f =
        let m = filled_so b at n seed f.1.may (f.1.may_is held.counts held.lent.free held.lent.ready (is_open_lem held.counts held.lent z)) in
        let written = held_laws.writes x h held.counts held.lent held'.lent.pool z (subst (HostMay (state_in held.counts held.lent)) (sym f.1.pool_is) m) in
        (subst (λ (w : Held). Holds x (h ++ []) w.counts w.lent) (sym f.0) (subst (λ (g : List Event). Holds x g held.counts (lent_with held.lent held'.lent.pool)) (sym (append-nil h)) written), tt)

    answers : (said : Said) (number : ℕ) (held' : Held) (text : List ℕ) → Answers said number held held' text → LeavesBy (line_events said held) held' text
    unfolding Answers line_events
    answers Said.Comment number held' text a = still held' text a.held
    answers (Said.Call c) number held' text a = ran c held' text a
    answers (Said.Own w b p l d t) number held' text a = asked (asks_of (Said.Own w b p l d t) (named_in held.lent.store) held.flushes) number held' text a
    answers (Said.Count t k) number held' text a = asked (asks_of (Said.Count t k) (named_in held.lent.store) held.flushes) number held' text a
    answers (Said.Look y) number held' text a = looked y held' text a.0 a.1
    answers Said.Len number held' text a = len held' text a.0 a.1
    answers (Said.Fill b at k seed) number held' text a = fills b at k seed number held' text a
    answers (Said.Sum b at k) number held' text a = still held' text a.held
    answers Said.Rows number held' text a = still held' text a.0
    answers Said.Bad number held' text a = still held' text a.held

    pub leaves : (said : Said) (number : ℕ) (held' : Held) (text : List ℕ) → Answers said number held held' text → Leaves x h said held held' text
    leaves said number held' text a = let z' = answers said number held' text a in record { holds = z'.0; is_step = z'.1 }
