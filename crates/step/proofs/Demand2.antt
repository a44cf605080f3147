-- Demand 2, by POSIX: an accepted page operation whose pieces are taken whole acts like one transfer, whatever other calls come between; as long as it is open
-- the last reply under its queue tag asks for what its row awaits; and no answer touches another byte of card or pool.
use mathlib.Core.Path.{◌≡◌, refl, sym, ◌∙◌, subst}
use mathlib.Core.Logic.{◌⊎◌, inl, inr}
use mathlib.Core.Bool.{Bool, true, false}
use mathlib.Core.Option.{some}
use mathlib.Core.List.{List, [], ◌∷◌, ◌++◌}
use Prim.Native.Nat.{ℕ, ◌+◌, ◌≤◌, ◌<◌}
use lib.ListN.{length, take, drop, get_or, take-append-drop}
use lib.Seq.{length-take-le, get_or-take}
use Rattle.layout.proofs.Tests.{not_both}
use Rattle.regionmap.specs.Map.{Map, place, pieces}
use Rattle.posix.specs.Posix.{Card}
use Rattle.posix.specs.Transfer.{gathered}
use Rattle.completion.specs.declared.Completion.{Completion}
use Rattle.model.specs.declared.Kind.{Kind}
use Rattle.model.specs.declared.Kind.TheVariants.{Page, Read}
use Rattle.model.specs.declared.Request.{Request}
use Rattle.model.specs.declared.Call.TheVariants.{Write, ReadPage}
use Rattle.model.specs.State.{State}
use Rattle.step.specs.Questions.{region_at}
use Rattle.step.specs.Rules.{first_of, last_of}
use Rattle.step.specs.Step.{start_of, end_of, row_of, row_at, names}
use Rattle.step.specs.Run.{Made, Made.calls, Event, leave, done, run, reply_to, Start, opened_by, after}
use Rattle.step.specs.Lists.{Completed, Hosted}
use Rattle.step.specs.Alone.{tag_given}
use Rattle.step.specs.Demand2.{Served, Accepted, buffer_then, submitted_in, PiecesDone, Over, given_to, answers_in, gets_in, Issues, Wrote, DidRead, Followed, AllWhole, is_kept, last_reply, asks_under, Demand2}
use Rattle.step.specs.Kept.{QuietAt, offset_then, Stands}
use Rattle.step.proofs.Histories.{keeps_next}
use Rattle.step.proofs.Laws.{keeps}
use Rattle.step.proofs.Demand2Others.{card_others, pool_others}
use Rattle.step.proofs.Demand2Bytes.{gathered_length, gathered_at}
use Rattle.step.proofs.Demand2Fate.{pages}
use Rattle.step.proofs.Demand2Task.{Task, Open}
use Rattle.step.proofs.Demand2Served.{served_of, quiet_of}
use Rattle.step.proofs.Demand2Kept.{stage_writes, kept_from, all_answered}
use Rattle.step.proofs.Demand2Walk.{Along, walk}
use Rattle.step.proofs.Demand2Ends.{stands, awaited, ends, not_before, all_over}
use Rattle.step.proofs.Demand2Begun.{Begun, begun_write, begun_read, before, may, then_length, task, opens}
use Rattle.step.proofs.Demand2Asked.{asked_from, first_asks}

-- an accepted submission of a kind, with the bytes that its range is to end with
module _ (x : Start) (h : List Event) (e : Event) (t : ℕ) (q : Request) (hosted : Hosted (opened_by x) (h ++ (e ∷ []))) (k : Kind)
    (g : Begun (leave (after x h) e.leaves) q k t (done (leave (after x h) e.leaves) e.lengths e.made)) where
  abbrev then : List ℕ
  then = buffer_then x e q

  abbrev m : Map
  m = (region_at (after x h) q.handle).map

  old_length : length (take q.length then) ≡ q.length
  old_length = length-take-le q.length then (then_length x (after x h) (before x h e hosted).sound (before x h e hosted).fixed e (may x h e hosted) q k t g)

  module _ (first : first_of k ≡ q.offset) (last : (last_of k).0 ≡ q.offset.0 + q.length) (new : List ℕ) (long : length new ≡ q.length) (of_write : pages k ≡ true → new ≡ take q.length then)
      (watched : ℕ → Bool) (of_read : pages k ≡ false → (i : ℕ) → watched i ≡ true) where
    abbrev its : Task
    its = task x (after x h) (before x h e hosted).sound (before x h e hosted).fixed e (may x h e hosted) q k t g first last new long of_write watched of_read

    module _ (card : Card) (reads : pages k ≡ false → (i : ℕ) → i < q.length → card (place m (q.offset.0 + i)) ≡ get_or new i 0) where
      at_first_lem : Open its (submitted_in x h e) card 0 0
      at_first_lem = opens x (after x h) (before x h e hosted).sound (before x h e hosted).fixed e (may x h e hosted) q k t g first last new long of_write watched of_read card reads

      along : (es : List Event) → Served (submitted_in x h e) es t q card → Along its (submitted_in x h e) es card 0 × Issues x h e t q es
          × ((pages k ≡ true → q.durable ≡ true → ⊥) → PiecesDone (run (submitted_in x h e) es) t → Over (run (submitted_in x h e) es) t)
      along es served =
          let of-it = served_of its es (submitted_in x h e) card at_first_lem.map_is served in
          let z = stands its es (submitted_in x h e) card 0 0 at_first_lem of-it in (
            walk its es (submitted_in x h e) card 0 0 at_first_lem of-it,
            record { awaited = awaited its (submitted_in x h e) es z; ends = ends its (submitted_in x h e) es z; not_before = not_before its (submitted_in x h e) es z },
            all_over its (submitted_in x h e) es z,
          )

module _ (x : Start) (h : List Event) (e : Event) (t : ℕ) (q : Request) where
  abbrev s₁ : State
  s₁ = leave (after x h) e.leaves

  abbrev page : Kind
  page = Page (start_of q) (end_of q)

  write_begun : (made : Made) → made ≡ calls (Write q) → Accepted x h e t q made → Begun s₁ q page t (done s₁ e.lengths e.made)
  unfolding reply_to
  write_begun made w a = subst (λ (n : Made). tag_given (done s₁ e.lengths n).1 ≡ some t → Begun s₁ q page t (done s₁ e.lengths n)) (sym (a.made_so ∙ w)) (begun_write s₁ q t e.lengths) a.tag

  read_begun : (made : Made) → made ≡ calls (ReadPage q) → Accepted x h e t q made → Begun s₁ q (Read (start_of q) (end_of q)) t (done s₁ e.lengths e.made)
  unfolding reply_to
  read_begun made r a =
      subst (λ (n : Made). tag_given (done s₁ e.lengths n).1 ≡ some t → Begun s₁ q (Read (start_of q) (end_of q)) t (done s₁ e.lengths n)) (sym (a.made_so ∙ r)) (begun_read s₁ q t e.lengths) a.tag

  -- ---- a write

  page_first : first_of page ≡ q.offset
  unfolding first_of
  page_first = refl

  page_last : (last_of page).0 ≡ q.offset.0 + q.length
  unfolding last_of
  page_last = refl

  page_pages : pages page ≡ true
  unfolding pages
  page_pages = refl

  not_read : {A : Type 0} → pages page ≡ false → A
  not_read reads = absurd (not_both page_pages reads)

  module _ (a : Accepted x h e t q (calls (Write q))) where
    abbrev g : Begun s₁ q page t (done s₁ e.lengths e.made)
    g = write_begun (calls (Write q)) refl a

    abbrev bytes : List ℕ
    bytes = take q.length (buffer_then x e q)

    -- as a task of which some bytes are followed
    module _ (watched : ℕ → Bool) where
      abbrev its_write : Task
      its_write = its x h e t q a.hosted page g page_first page_last bytes (old_length x h e t q a.hosted page g) (λ z. refl) watched not_read

      write_first : (card : Card) → Open its_write (submitted_in x h e) card 0 0
      write_first card = at_first_lem x h e t q a.hosted page g page_first page_last bytes (old_length x h e t q a.hosted page g) (λ z. refl) watched not_read card not_read

      -- where its answered pieces were all taken whole, and of bytes on which it was quiet
      pub quiet_along : (card : Card) (es : List Event) → Followed (submitted_in x h e) es t → AllWhole (submitted_in x h e) es t
          → ((i : ℕ) → i < q.length → watched i ≡ true → QuietAt (submitted_in x h e) es t (offset_then x h q i))
          → (PiecesDone (run (submitted_in x h e) es) t → (i : ℕ) → i < q.length → watched i ≡ true → Stands x h e q card es i)
          × (names (row_at (run (submitted_in x h e) es) (row_of t)) t ≡ true → gets_in x h e t q es ≡ [])
      quiet_along card es followed whole quiet =
          let z = walk its_write es (submitted_in x h e) card 0 0 (write_first card) (quiet_of its_write page_pages es (submitted_in x h e) card followed whole quiet) in
          (λ pieces i lt on. z.arrived pieces i lt on ∙ get_or-take q.length (buffer_then x e q) i 0 lt, z.none_yet_lem)

    write : (card : Card) (es : List Event) → Served (submitted_in x h e) es t q card → Wrote x h e t q card es
    write card es served =
        let both = along x h e t q a.hosted page g page_first page_last bytes (old_length x h e t q a.hosted page g) (λ z. refl) (λ i. true) not_read card not_read es served in
        let z = both.0 in
        record {
          arrived = λ pieces i lt. z.arrived pieces i lt refl ∙ get_or-take q.length (buffer_then x e q) i 0 lt;
          completes = λ gone. let y = z.completed gone in
              y.only ∙ (λ j. (record { tag = y.finished.tag j; outcome = y.finished.wrote page_pages j; buf = y.finished.buf j }, take-append-drop q.length (buffer_then x e q) j) ∷ []);
          no_flush = λ gone. (z.completed gone).finished.policy page_pages;
          none_yet_lem = z.none_yet_lem;
          plain_over = λ plain. both.2 (λ z durable. not_both durable plain);
          issues = both.1;
        }

    kept : (es : List Event) → Followed (submitted_in x h e) es t → (c : Completion) (bytes : List ℕ) (more : List Completed) → gets_in x h e t q es ≡ (c, bytes) ∷ more
        → is_kept c.outcome ≡ true → AllWhole (submitted_in x h e) es t × (length (pieces (region_at (after x h) q.handle).map q.offset.0 q.length) ≤ answers_in (given_to x h e t es))
    kept es followed c bytes more got ok =
        let o = write_first (λ i. true) (λ y. 0) in
        let z = kept_from t q.buffer c bytes more ok es (submitted_in x h e) o.sound (stage_writes _ 0 0 _ page_pages o.in_row.stage) followed got in
        (z.0, all_answered _ (submitted_in x h e) o.in_row o.map_is (answers_in (given_to x h e t es)) z.1)

  -- ---- a read

  read : Accepted x h e t q (calls (ReadPage q)) → (card : Card) (es : List Event) → Served (submitted_in x h e) es t q card → DidRead x h e t q card es
  unfolding first_of last_of pages
  read a card es served =
      let k = Read (start_of q) (end_of q) in
      let g = read_begun (calls (ReadPage q)) refl a in
      let m₁ = (region_at (after x h) q.handle).map in
      let both = along x h e t q a.hosted k g refl refl (gathered card m₁ q.offset.0 q.length) (gathered_length card m₁ q.offset.0 q.length) (λ page. absurd (not_both page refl)) (λ i. true) (λ reads i. refl) card
      (λ reads i lt. sym (gathered_at card m₁ q.offset.0 q.length i lt)) es served in
      let z = both.0 in
      record {
        completes = λ gone. let y = z.completed gone in
            y.only ∙ (λ j. (record { tag = y.finished.tag j; outcome = y.finished.outcome refl j; buf = y.finished.buf j }, gathered card m₁ q.offset.0 q.length ++ drop q.length (buffer_then x e q)) ∷ []);
        none_yet_lem = z.none_yet_lem;
        over = both.2 (λ page durable. not_both page refl);
        issues = both.1;
      }

  -- ---- either

  asked_by_lem : (k : Kind) → Hosted (opened_by x) (h ++ (e ∷ [])) → Begun s₁ q k t (done s₁ e.lengths e.made) → (es : List Event) → Followed (submitted_in x h e) es t
      → names (row_at (run (submitted_in x h e) es) (row_of t)) t ≡ true → last_reply (submitted_in x h e) es t (reply_to (after x h) e) ≡ asks_under (run (submitted_in x h e) es) t
  asked_by_lem k hosted g es followed live =
      let b = before x h e hosted in
      let host = may x h e hosted in
      asked_from t es (submitted_in x h e) (keeps_next keeps (after x h) e b.sound host.count) followed live (reply_to (after x h) e) (first_asks x (after x h) b.sound b.fixed e host q k t g)

  asked : (made : Made) → (made ≡ calls (Write q)) ⊎ (made ≡ calls (ReadPage q)) → Accepted x h e t q made → (es : List Event) → Followed (submitted_in x h e) es t
      → names (row_at (run (submitted_in x h e) es) (row_of t)) t ≡ true → last_reply (submitted_in x h e) es t (reply_to (after x h) e) ≡ asks_under (run (submitted_in x h e) es) t
  asked made (inl w) a = asked_by_lem _ a.hosted (write_begun made w a)
  asked made (inr r) a = asked_by_lem _ a.hosted (read_begun made r a)

pub demand2 : Demand2
demand2 = record { write = write; read = read; kept = kept; asked = asked; card_others = card_others; pool_others = pool_others }
