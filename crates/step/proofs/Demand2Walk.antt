-- A list of events through which an operation is served as demand 2 supposes: while it is open it stands somewhere in its range, and with its completion, the
-- last event, its bytes are the new ones and its whole range is on the card.
use mathlib.Core.Path.{◌≡◌, refl, sym, ap, ◌∙◌, subst, subst₂}
use mathlib.Core.Bool.{true, false}
use mathlib.Core.Option.{Option}
use mathlib.Core.List.{List, [], ◌∷◌, ◌++◌}
use Prim.Native.Nat.{ℕ}
use Rattle.layout.proofs.Tests.{not_both}
use Rattle.posix.specs.Posix.{Card}
use Rattle.platform.specs.declared.Flushed.{Flushed}
use Rattle.completion.specs.declared.Completion.{Completion}
use Rattle.model.specs.State.{State}
use Rattle.step.specs.Step.{row_at, row_of, names}
use Rattle.step.specs.Run.{Event, next, run}
use Rattle.step.specs.Lists.{Given, given_by, given, Completed, gets, card_by, card_after}
use Rattle.step.specs.Demand2.{NoPiece, PiecesDone, Over, count_given, result_given}
use Rattle.step.proofs.Demand2Task.{Task, Stage, Stage.piece, Stage.flush, Open}
use Rattle.step.proofs.Demand2Served.{ServedOf}
use Rattle.step.proofs.Demand2Event.{Arrived, Finished, gets_of, Came, Came.still, Came.over, came, on_card_all}

-- the operation is over: its one completion
pub record Ended (w : Task) (s : State) (es : List Event) (n : ℕ) : Type 0 where
  pub it : Completion
  pub finished : Finished w (run s es) (count_given n (given s es w.tag)) (result_given (given s es w.tag)) it
  pub only : gets s es w.tag w.request.buffer ≡ (it, w.new ++ w.tail) ∷ []

pub record Along (w : Task) (s : State) (es : List Event) (card : Card) (n : ℕ) : Type 0 where
  pub arrived : PiecesDone (run s es) w.tag → Arrived w (card_after s es card)
  pub completed : Over (run s es) w.tag → Ended w s es n
  pub none_yet_lem : names (row_at (run s es) (row_of w.tag)) w.tag ≡ true → gets s es w.tag w.request.buffer ≡ []

module _ (w : Task) where
  -- open, and with no piece under way: its flush is awaited
  flush_only : (s : State) (card : Card) (d n : ℕ) → Open w s card d n → PiecesDone s w.tag → Arrived w card
  unfolding PiecesDone NoPiece
  flush_only s card d n o pieces = by_stage o.in_row.stage
    where
      by_stage : Stage w d n (row_at s (row_of w.tag)).awaits → Arrived w card
      by_stage (piece e more) = absurd (subst NoPiece e (pieces o.in_row.named))
      by_stage (flush t e page all long) = λ i lt on. o.card_is i (on_card_all w d i all lt) on

  -- nothing is served behind the completion
  ended : (s : State) (card : Card) (n : ℕ) (e : Event) (es : List Event) → names (row_at (next s e) (row_of w.tag)) w.tag ≡ false → ServedOf w (next s e) es (card_by s e card)
      → Arrived w (card_by s e card) → (c : Completion) (g : Given) → given_by s e w.tag ≡ g ∷ [] → Finished w (next s e) (count_given n (g ∷ [])) (result_given (g ∷ [])) c
      → gets_of s e w.tag w.request.buffer ≡ (c, w.new ++ w.tail) ∷ [] → Along w s (e ∷ es) card n
  unfolding ServedOf run card_after gets given
  ended s card n e [] dead served arrived c g q finished got =
      let all : given_by s e w.tag ++ [] ≡ g ∷ [] = ap (λ (l : List Given). l ++ []) q in
      record {
        arrived = λ pieces. arrived;
        completed = λ gone. record {
          it = c;
          finished = subst (λ (l : List Given). Finished w (next s e) (count_given n l) (result_given l) c) (sym all) finished;
          only = ap (λ (l : List Completed). l ++ []) got;
        };
        none_yet_lem = λ here. absurd (not_both here dead);
      }
  ended s card n e (x ∷ es) dead served arrived c g q finished got = absurd (not_both served.0 dead)

  pub walk : (es : List Event) (s : State) (card : Card) (d n : ℕ) → Open w s card d n → ServedOf w s es card → Along w s es card n
  unfolding ServedOf run card_after gets given
  walk [] s card d n o served = record { arrived = flush_only s card d n o; completed = λ gone. absurd (not_both o.in_row.named gone); none_yet_lem = λ here. refl }
  walk (e ∷ es) s card d n o served =
      by_came (λ d' n' o'. walk es (next s e) (card_by s e card) d' n' o' served.4) (came w s card d n o e served.1 served.2 served.3)
    where
      by_came : ((d' n' : ℕ) → Open w (next s e) (card_by s e card) d' n' → Along w (next s e) es (card_by s e card) n') → Came w s card d n e → Along w s (e ∷ es) card n
      by_came on (still d' n' o' none counts) =
          let behind = on d' n' o' in
          let later = given (next s e) es w.tag in
          record {
            arrived = behind.arrived;
            completed = λ gone. let z = behind.completed gone in record {
              it = z.it;
              finished = subst₂ (λ (m : ℕ) (r : Option Flushed). Finished w (run (next s e) es) m r z.it) (sym (counts later).0) (sym (counts later).1) z.finished;
              only = ap (λ (l : List Completed). l ++ gets (next s e) es w.tag w.request.buffer) none ∙ z.only;
            };
            none_yet_lem = λ here. ap (λ (l : List Completed). l ++ gets (next s e) es w.tag w.request.buffer) none ∙ behind.none_yet_lem here;
          }
      by_came on (over dead arrived c g q finished got none_left) = ended s card n e es dead served.4 arrived c g q finished got
