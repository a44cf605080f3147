-- Two answers after which an operation never goes on, by the cases of the rules: one that says that the buffer did not come back leaves it lost, and a first piece
-- refused has one fate, of which the table's reply and what is left of the row compute.
use mathlib.Core.Path.{◌≡◌, refl, sym, ap, ◌∙◌, subst}
use mathlib.Core.Bool.{Bool, true, false}
use mathlib.Core.List.{List, append-nil}
use Prim.Native.Nat.{ℕ, ◌+◌}
use borrow.Author.Tests.{eq-eqb}
use lib.Dec.{eqb}
use lib.ListN.{get_or, set}
use lib.Seq.{get_or-set_same}
use Rattle.layout.specs.Pick.{pick}
use Rattle.layout.proofs.Tests.{not_both, and_right}
use Rattle.std.specs.declared.option.Option.{Option}
use Rattle.domain.specs.declared.FirstCause.{FirstCause}
use Rattle.platform.specs.declared.Answer.{Answer as CardAnswer}
use Rattle.platform.specs.declared.Answer.TheVariants.{Count, Error, Refused, RefusedWith}
use Rattle.completion.specs.declared.Refusal.TheVariants.{UnknownTag}
use Rattle.completion.specs.declared.Reply.{Reply}
use Rattle.completion.specs.declared.Reply.TheVariants.{No as turnedAway}
use Rattle.std.specs.declared.option.Option.TheVariants.{Some as Back}
use Rattle.model.specs.declared.Opening.{Opening}
use Rattle.model.specs.declared.Lengths.{Lengths}
use Rattle.model.specs.declared.Kind.{Kind}
use Rattle.model.specs.declared.Kind.TheVariants.{Page, Read}
use Rattle.model.specs.declared.Split.{Split}
use Rattle.model.specs.declared.Awaits.{Awaits}
use Rattle.model.specs.declared.Awaits.TheVariants.{Nothing, Piece, Flush}
use Rattle.model.specs.declared.Row.{Row}
use Rattle.model.specs.declared.Call.TheVariants.{Answer}
use Rattle.model.specs.State.{Owner.host, Owner.lost, State, freed}
use Rattle.model.specs.Opening.{Plan}
use Rattle.step.specs.Questions.{is_host, region_at, held_at}
use Rattle.step.specs.Rules.{range_of, buffer_as, error_of, is_written, last_piece, above_piece, is_refusal, first_refused, is_whole, goes_on, piece_length, piece_answered, answer_rules, rules, Input.answered, Fate, Fate.rejected}
use Rattle.step.specs.Step.{row_at, row_of, names, bytes_at, one_less, kept_by, poison_with, freeing, plan_of, rejection, settled, fate_of, under_tag, called, eq_lengths, step}
use Rattle.step.specs.Sound.{Sound}
use Rattle.step.specs.Lists.{is_away}
use Rattle.step.specs.Others.{IsLost, FirstRefused}
use Rattle.step.proofs.Picked.{by_pick}
use Rattle.step.proofs.AloneTags.{clash}
use Rattle.step.proofs.Asked.{row_then, called_is}
use Rattle.step.proofs.Lost.{row_had, had_in}

-- ---- the buffer did not come back

-- no write is written without its buffer
unwritten : (sp : Split) (a : CardAnswer) → is_written sp a false ≡ true → ⊥
unfolding is_written
unwritten sp (Count n) e = not_both (and_right (eqb (sp.done + n) sp.total) false e) refl
unwritten sp (Error x media) e = not_both e refl
unwritten sp Refused e = not_both e refl
unwritten sp (RefusedWith x media) e = not_both e refl

module _ (s : State) (t : ℕ) (a : CardAnswer) (flushes : ℕ) where
  abbrev row : Row
  row = row_at s (row_of t)

  abbrev Loses : State × Reply → Type 0
  Loses z = is_away z.1 ≡ false → IsLost z.0 row.buffer

  abbrev LosesBy : Fate → Type 0
  LosesBy f = Loses (settled s t row f)

  module _ (sound : Sound s) (named : names row t ≡ true) where
    set_lost : get_or (set s.owners row.buffer lost) row.buffer host ≡ lost
    set_lost = get_or-set_same s.owners row.buffer lost host (had_in s.owners row.buffer (row_had s sound t named))

    module _ (o : Opening) (g : Plan) (forced : Bool) (first : Option FirstCause) (bytes : List ℕ) where
      last_loses : (k : Kind) (sp : Split) → LosesBy (last_piece o g forced first row k sp bytes a false flushes)
      unfolding last_piece buffer_as settled freeing kept_by
      last_loses (Read x y) sp = λ e. set_lost
      last_loses (Page x y) sp = by_pick (is_written sp a false) LosesBy (λ w. absurd (unwritten sp a w)) (λ w e. set_lost)

      answer_loses : (was : Awaits) → LosesBy (answer_rules o g forced first row bytes a false flushes was)
      unfolding answer_rules piece_answered goes_on buffer_as settled freeing kept_by is_away
      answer_loses Nothing = λ e. clash (cc)
      answer_loses (Flush ticket) = λ e. clash (cc)
      answer_loses (Piece k sp) =
          let piece = piece_length g k sp in
          by_pick (above_piece piece a) LosesBy (λ above e. clash (cc))
          λ fits. by_pick (first_refused sp a) LosesBy (λ refused e. set_lost)
          λ later. by_pick (goes_on piece sp a false) LosesBy (λ whole. absurd (not_both (and_right (is_whole piece a) false whole) refl))
          λ over. last_loses k sp

  pub loses : (l : Lengths) → Sound s → Loses (step s l (Answer t a false flushes))
  unfolding step called under_tag fate_of rules is_away
  loses l sound =
      by_pick (eq_lengths l s.lengths) Loses
      (λ same. by_pick (names row t) Loses (λ named. answer_loses sound named _ _ _ _ _ row.awaits) (λ unnamed e. clash (cc))) (λ other e. clash (cc))

-- ---- the first piece is refused

module _ (o : Opening) (g : Plan) (forced : Bool) (first : Option FirstCause) (r : Row) (k : Kind) (sp : Split) (piece : ℕ) (bytes : List ℕ) (back : Bool) (flushes : ℕ) (begins : sp.done ≡ 0) where
  piece_refused : (a : CardAnswer) → is_refusal a ≡ true → piece_answered o g forced first r k sp piece bytes a back flushes ≡ rejected (error_of a) (buffer_as back r.buffer sp.total) bytes
  unfolding piece_answered above_piece first_refused is_refusal pick
  piece_refused (Count n) e = absurd (not_both e refl)
  piece_refused (Error x media) e = absurd (not_both e refl)
  piece_refused Refused e = rw (eq-eqb sp.done 0 begins)
  piece_refused (RefusedWith x media) e = rw (eq-eqb sp.done 0 begins)

module _ (s : State) (l : Lengths) (t : ℕ) (k : Kind) (sp : Split) (a : CardAnswer) (back : Bool) (flushes : ℕ) (same : eq_lengths l s.lengths ≡ true)
    (named : names (row_at s (row_of t)) t ≡ true) (waits : (row_at s (row_of t)).awaits ≡ Piece k sp) (begins : sp.done ≡ 0) (refused : is_refusal a ≡ true) where
  abbrev it : Row
  it = row_at s (row_of t)

  abbrev fate : Fate
  fate = rejected (error_of a) (buffer_as back it.buffer sp.total) (bytes_at s it.buffer)

  fate_is : fate_of s it (answered a back flushes) ≡ fate
  unfolding fate_of rules answer_rules
  fate_is =
      ap (answer_rules s.settings (plan_of (region_at s it.handle)) (region_at s it.handle).forced s.poison it (bytes_at s it.buffer) a back flushes) waits
      ∙ piece_refused _ _ _ _ it k sp _ (bytes_at s it.buffer) back flushes begins a refused

  step_is : step s l (Answer t a back flushes) ≡ settled s t it fate
  unfolding called under_tag pick
  step_is =
      called_is s l same (Answer t a back flushes)
      ∙ ap (λ (b : Bool). pick b (settled s t it (fate_of s it (answered a back flushes))) (s, turnedAway UnknownTag)) named
      ∙ ap (settled s t it) fate_is

  its_own : Sound s → held_at (settled s t it (rejected (error_of a) (Back (record { buffer = it.buffer; len = sp.total })) (bytes_at s it.buffer))).0 it.buffer ≡ true
  unfolding settled freeing kept_by held_at
  its_own sound = ap is_host (get_or-set_same s.owners it.buffer host lost (had_in s.owners it.buffer (row_had s sound t named))) ∙ (unfold is_host in refl)

  given_back_lem : Sound s → (b : Bool) → b ≡ true → held_at (settled s t it (rejected (error_of a) (buffer_as b it.buffer sp.total) (bytes_at s it.buffer))).0 it.buffer ≡ true
  unfolding buffer_as
  given_back_lem sound true e = its_own sound
  given_back_lem sound false e = absurd (not_both e refl)

  pub first_refused_lem : Sound s → FirstRefused s (step s l (Answer t a back flushes)).0 (step s l (Answer t a back flushes)).1 (row_of t) k sp a back
  unfolding settled freeing rejection range_of plan_of poison_with one_less
  first_refused_lem sound =
      subst (λ (z : State × Reply). FirstRefused s z.0 z.1 (row_of t) k sp a back) (sym step_is)
      (record {
        replies = ap (λ (w : Awaits). rejection (plan_of (region_at s it.handle)) w (error_of a) (buffer_as back it.buffer sp.total)) waits;
        given_back_lem = given_back_lem sound back;
        row = row_then s t it named refl (settled s t it fate).0 (freed it.generation) refl;
        free = refl;
        spent = refl;
        ready = append-nil s.ready;
        poison = refl;
      })
