-- An operation that is served as demand 2 supposes awaits the map's pieces one by one: each answer takes the first of those left (Demand2Event), so by induction
-- over the events it stands behind as many pieces as were answered, and is done with them when none is left.
use mathlib.Core.Path.{◌≡◌, refl, sym, ap, ◌∙◌, subst}
use mathlib.Core.Bool.{true, false}
use mathlib.Core.List.{List, [], ◌∷◌, ◌++◌}
use Prim.Native.Nat.{ℕ, ◌+◌, ◌-◌, ◌≤◌}
use native.Mathlib.Omega.{arith}
use lib.ListN.{length, drop, length-drop}
use Rattle.layout.proofs.Tests.{not_both}
use Rattle.regionmap.specs.Map.{pieces}
use Rattle.regionmap.specs.Map.{Piece as MapPiece}
use Rattle.posix.specs.Posix.{Card}
use Rattle.model.specs.declared.Kind.{Kind}
use Rattle.model.specs.declared.Split.{Split}
use Rattle.model.specs.declared.Awaits.TheVariants.{Piece}
use Rattle.model.specs.State.{State}
use Rattle.step.specs.Rules.{first_of}
use Rattle.step.specs.Step.{row_at, row_of, names}
use Rattle.step.specs.Run.{Event, next, run}
use Rattle.step.specs.Lists.{Given, given_by, given, card_by}
use Rattle.step.specs.Demand2.{NoPiece, PiecesDone, answers_in, ToCome}
use Rattle.step.proofs.AloneTags.{clash}
use Rattle.step.proofs.Demand2Fate.{pages}
use Rattle.step.proofs.Demand2Task.{Task, split_of, rest, rest_first, rest_none, Stage, Stage.piece, Stage.flush, InRow, Open}
use Rattle.step.proofs.Demand2Served.{ServedOf}
use Rattle.step.proofs.Demand2Event.{Came, Came.still, Came.over, came}

-- after a list of events: the pieces behind d bytes of which so many were answered are those behind d', or the operation is over and none is left
pub data Remains (w : Task) (s : State) (es : List Event) (d : ℕ) : Type 0 where
  here : (d' n : ℕ) → InRow w (row_at (run s es) (row_of w.tag)) d' n → drop (answers_in (given s es w.tag)) (rest w d) ≡ rest w d' → Remains w s es d
  gone : names (row_at (run s es) (row_of w.tag)) w.tag ≡ false → drop (answers_in (given s es w.tag)) (rest w d) ≡ [] → Remains w s es d

module _ (w : Task) where
  pub stands : (es : List Event) (s : State) (card : Card) (d n : ℕ) → Open w s card d n → ServedOf w s es card → Remains w s es d
  unfolding ServedOf run given answers_in
  stands [] s card d n o served = here d n o.in_row refl
  stands (e ∷ es) s card d n o served =
      by_came (λ d' n' o'. stands es (next s e) (card_by s e card) d' n' o' served.4) (came w s card d n o e served.1 served.2 served.3)
    where
      later : List Given
      later = given (next s e) es w.tag

      by_stands : (d' : ℕ) → drop (answers_in (given_by s e w.tag ++ later)) (rest w d) ≡ drop (answers_in later) (rest w d') → Remains w (next s e) es d' → Remains w s (e ∷ es) d
      by_stands d' q (here d'' m row behind) = here d'' m row (q ∙ behind)
      by_stands d' q (gone dead behind) = gone dead (q ∙ behind)

      -- nothing is served behind the completion
      by_last : (l : List Event) → ServedOf w (next s e) l (card_by s e card) → names (row_at (next s e) (row_of w.tag)) w.tag ≡ false → drop (answers_in (given_by s e w.tag ++ [])) (rest w d) ≡ [] → Remains w s (e ∷ l) d
      by_last [] z dead none = gone dead none
      by_last (y ∷ l) z dead none = absurd (not_both z.0 dead)

      by_came : ((d' n' : ℕ) → Open w (next s e) (card_by s e card) d' n' → Remains w (next s e) es d') → Came w s card d n e → Remains w s (e ∷ es) d
      by_came on (still d' n' o' none counts) = by_stands d' (counts later).2 (on d' n' o')
      by_came on (over dead arrived c g q finished got none) = by_last es served.4 dead (ap (λ (l : List Given). drop (answers_in (l ++ [])) (rest w d)) q ∙ none)

-- what demand 2 says of an operation that stands so from its start
module _ (w : Task) (s : State) (es : List Event) where
  abbrev answers : ℕ
  answers = answers_in (given s es w.tag)

  abbrev all : List MapPiece
  all = pieces w.map w.request.offset.0 w.request.length

  from_start : all ≡ rest w 0
  from_start =
      let start : w.request.offset.0 ≡ w.request.offset.0 + 0 = omega arith in
      let whole : w.request.length ≡ w.request.length - 0 = omega arith in
      (λ j. pieces w.map (start j) (whole j))

  left : (behind : List MapPiece) → drop answers (rest w 0) ≡ behind → length all - answers ≡ length behind
  left behind q = sym (length-drop answers all) ∙ ap length (ap (drop answers) from_start ∙ q)

  pub awaited : Remains w s es 0 → (k : Kind) (sp : Split) → names (row_at (run s es) (row_of w.tag)) w.tag ≡ true → (row_at (run s es) (row_of w.tag)).awaits ≡ Piece k sp → ToCome w.map w.request answers k sp
  awaited (gone dead none) k sp named at = absurd (not_both named dead)
  awaited (here d n row behind) k sp named at = by_stage row.stage
    where
      by_stage : Stage w d n (row_at (run s es) (row_of w.tag)).awaits → ToCome w.map w.request answers k sp
      by_stage (flush t e page whole ticket) = clash (cc)
      by_stage (piece e more) =
          let its : k ≡ w.kind = cc in
          let split : sp ≡ split_of w d = cc in
          record {
            start = ap first_of its ∙ w.first;
            total = ap (λ (z : Split). z.total) split;
            behind = ap (drop answers) from_start ∙ behind ∙ (λ j. pieces w.map (w.request.offset.0 + (sym split j).done) ((sym split j).total - (sym split j).done));
          }

  pub ends : Remains w s es 0 → length all ≤ answers → PiecesDone (run s es) w.tag
  unfolding PiecesDone NoPiece
  ends (gone dead none) enough named = absurd (not_both named dead)
  ends (here d n row behind) enough named = by_stage row.stage
    where
      by_stage : Stage w d n (row_at (run s es) (row_of w.tag)).awaits → NoPiece (row_at (run s es) (row_of w.tag)).awaits
      by_stage (flush t e page whole ticket) = subst NoPiece (sym e) tt
      by_stage (piece e more) = let z = left _ (behind ∙ rest_first w d more) in absurd (omega (arith, z, enough))

  pub not_before : Remains w s es 0 → PiecesDone (run s es) w.tag → length all ≤ answers
  unfolding PiecesDone NoPiece
  not_before (gone dead none) done = let z = left [] none in omega (arith, z)
  not_before (here d n row behind) done = by_stage row.stage
    where
      by_stage : Stage w d n (row_at (run s es) (row_of w.tag)).awaits → length all ≤ answers
      by_stage (flush t e page whole ticket) = let z = left [] (behind ∙ rest_none w d whole) in omega (arith, z)
      by_stage (piece e more) = absurd (subst NoPiece e (done row.named))

  -- a flush is awaited by a durable write alone
  pub all_over : Remains w s es 0 → (pages w.kind ≡ true → w.request.durable ≡ true → ⊥) → PiecesDone (run s es) w.tag → names (row_at (run s es) (row_of w.tag)) w.tag ≡ false
  unfolding PiecesDone NoPiece
  all_over (gone dead none) n done = dead
  all_over (here d m row behind) n done = by_stage row.stage
    where
      by_stage : Stage w d m (row_at (run s es) (row_of w.tag)).awaits → names (row_at (run s es) (row_of w.tag)) w.tag ≡ false
      by_stage (flush t e page whole ticket) = absurd (n page ticket.durable)
      by_stage (piece e more) = absurd (subst NoPiece e (done row.named))
