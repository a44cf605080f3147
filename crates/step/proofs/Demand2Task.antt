-- An operation that is served as demand 2 supposes, and where it stands in a table: the row that its tag names awaits the piece behind d bytes, or its flush;
-- its buffer holds the new bytes behind the old ones left, but for the piece of a read under way, which is the host's; of a write the first d bytes that are
-- followed have arrived on the card, and of a read the card's bytes are the new ones.
use mathlib.Core.Path.{◌≡◌, refl, sym, ap, ◌∙◌, subst}
use mathlib.Core.Bool.{Bool, true, false}
use mathlib.Core.List.{List, [], ◌∷◌}
use Prim.Native.Nat.{ℕ, ◌+◌, ◌-◌, ◌≤◌, ◌<◌}
use native.Mathlib.Nat.{add_assoc}
use native.Mathlib.Omega.{arith}
use lib.ListN.{length, take, drop, get_or}
use Rattle.layout.specs.Pick.{pick}
use Rattle.regionmap.specs.Map.{Map, place, piece_size, pieces}
use Rattle.regionmap.specs.Map.{Piece as MapPiece}
use Rattle.regionmap.specs.Laws.{Lawful, OnePiece}
use Rattle.regionmap.proofs.Laws.{map_laws}
use Rattle.posix.specs.Posix.{Card, pread}
use Rattle.completion.specs.declared.WriteTicket.{WriteTicket}
use Rattle.model.specs.declared.Opening.{Opening}
use Rattle.model.specs.declared.Kind.{Kind}
use Rattle.model.specs.declared.Kind.TheVariants.{Page, Read}
use Rattle.model.specs.declared.Split.{Split}
use Rattle.model.specs.declared.Awaits.{Awaits}
use Rattle.model.specs.declared.Awaits.TheVariants.{Piece, Flush}
use Rattle.model.specs.declared.Row.{Row}
use Rattle.model.specs.declared.Request.{Request}
use Rattle.model.specs.State.{State}
use Rattle.model.specs.Opening.{Plan}
use Rattle.step.specs.Questions.{region_at}
use Rattle.step.specs.Rules.{first_of, last_of, piece_of, piece_length, ticket_of}
use Rattle.step.specs.Step.{row_at, row_of, names, bytes_at, plan_of}
use Rattle.step.specs.Sound.{Sound}
use Rattle.step.specs.Lists.{loose, plan_at, left_in}
use Rattle.step.specs.Demand2.{HoldsCard}
use Rattle.step.proofs.Demand2Pieces.{first_piece, no_piece}
use Rattle.step.proofs.Demand2Bytes.{lying, lying_front, piece_read}
use Rattle.step.proofs.Demand2Fate.{pages}

-- ---- the operation

pub record Task : Type 0 where
  -- its queue tag, its request, the settings, its region as the opening was given it, that one's map, and its kind
  pub tag : ℕ
  pub request : Request
  pub opening : Opening
  pub plan : Plan
  pub map : Map
  pub kind : Kind
  -- the bytes that its range ends with and begins with, and the buffer's others
  pub new : List ℕ
  pub old : List ℕ
  pub tail : List ℕ
  pub first : first_of kind ≡ request.offset
  pub last : (last_of kind).0 ≡ request.offset.0 + request.length
  pub long_new : length new ≡ request.length
  pub long_old : length old ≡ request.length
  pub of_write : pages kind ≡ true → new ≡ old
  -- the bytes of its range that are followed on the card: of a read all are, since they come from there
  pub watched : ℕ → Bool
  pub of_read : pages kind ≡ false → (i : ℕ) → watched i ≡ true
  pub lawful : Lawful map
  pub in_data_lem : request.offset.0 + request.length ≤ map.data_length
  pub distinct : (i j : ℕ) → i < request.length → j < request.length → place map (request.offset.0 + i) ≡ place map (request.offset.0 + j) → i ≡ j

-- where its i-th byte is mapped to
abbrev pub mapped_to : Task → ℕ → ℕ
mapped_to w i = place w.map (w.request.offset.0 + i)

-- the split behind d bytes, and the piece there
abbrev pub split_of : Task → ℕ → Split
split_of w d = record { total = w.request.length; done = d }

abbrev pub size_of : Task → ℕ → ℕ
size_of w d = piece_size w.map (w.request.offset.0 + d) (w.request.length - d)

-- the map's pieces behind d bytes
abbrev pub rest : Task → ℕ → List MapPiece
rest w d = pieces w.map (w.request.offset.0 + d) (w.request.length - d)

-- how many bytes at the front of its buffer are the host's
abbrev pub hosts_of : Task → ℕ → ℕ
hosts_of w d = pick (pages w.kind) 0 (size_of w d)

-- how many bytes of the card are its new ones, with d bytes done
abbrev pub on_card : Task → ℕ → ℕ
on_card w d = pick (pages w.kind) d w.request.length

-- ---- in a row

-- the ticket of a write that awaits its flush, by the flush count of its last answer
pub record ItsTicket (w : Task) (flushes : ℕ) (t : WriteTicket) : Type 0 where
  pub long : t.end.0 - t.start.0 ≡ w.request.length
  pub is : t ≡ ticket_of w.opening w.plan w.kind flushes
  pub durable : w.request.durable ≡ true

pub data Stage (w : Task) (d n : ℕ) (a : Awaits) : Type 0 where
  piece : a ≡ Piece w.kind (split_of w d) → d < w.request.length → Stage w d n a
  flush : (t : WriteTicket) → a ≡ Flush t → pages w.kind ≡ true → d ≡ w.request.length → ItsTicket w n t → Stage w d n a

pub record InRow (w : Task) (r : Row) (d n : ℕ) : Type 0 where
  pub named : names r w.tag ≡ true
  pub handle : r.handle ≡ w.request.handle
  pub buffer : r.buffer ≡ w.request.buffer
  pub tag : r.tag ≡ w.request.tag
  pub durable : pages w.kind ≡ true → r.durable ≡ w.request.durable
  pub stage : Stage w d n r.awaits

-- ---- in a table

pub record Open (w : Task) (s : State) (card : Card) (d n : ℕ) : Type 0 where
  pub sound : Sound s
  pub in_row : InRow w (row_at s (row_of w.tag)) d n
  pub settings_are : s.settings ≡ w.opening
  pub plan_is : plan_of (region_at s w.request.handle) ≡ w.plan
  pub map_is : (region_at s w.request.handle).map ≡ w.map
  pub bytes : drop (hosts_of w d) (bytes_at s w.request.buffer) ≡ drop (hosts_of w d) (lying w.new w.old w.tail d)
  pub card_is : (i : ℕ) → i < on_card w d → w.watched i ≡ true → card (mapped_to w i) ≡ get_or w.new i 0

-- ---- its pieces

module _ (w : Task) (d : ℕ) (left : d < w.request.length) where
  pub one_piece : OnePiece w.map (w.request.offset.0 + d) (w.request.length - d)
  one_piece = map_laws.one_piece w.map w.lawful (w.request.offset.0 + d) (w.request.length - d) (omega arith) (let z = w.in_data_lem in omega (arith, z, left))

  pub piece_ends : d + size_of w d ≤ w.request.length
  piece_ends = let z = one_piece.most in omega (arith, z, left)

  pub consecutive : (j : ℕ) → j < size_of w d → mapped_to w (d + j) ≡ mapped_to w d + j
  consecutive j lt = ap (place w.map) (sym (add_assoc w.request.offset.0 d j)) ∙ one_piece.consecutive j lt

  -- the piece there is the first of those behind d bytes
  pub rest_first : rest w d ≡ record { position = w.request.offset.0 + d; count = size_of w d } ∷ rest w (d + size_of w d)
  rest_first =
      let next : w.request.offset.0 + d + size_of w d ≡ w.request.offset.0 + (d + size_of w d) = omega arith in
      let less : w.request.length - d - size_of w d ≡ w.request.length - (d + size_of w d) = omega arith in
      first_piece w.map w.lawful (w.request.offset.0 + d) (w.request.length - d) (omega arith) (let z = w.in_data_lem in omega (arith, z, left))
      ∙ (λ j. record { position = w.request.offset.0 + d; count = size_of w d } ∷ pieces w.map (next j) (less j))

-- behind all bytes there is none
pub rest_none : (w : Task) (d : ℕ) → d ≡ w.request.length → rest w d ≡ []
rest_none w d all = no_piece w.map (w.request.offset.0 + d) (w.request.length - d) (omega (arith, all))

module _ (w : Task) (s : State) (r : Row) (handle : r.handle ≡ w.request.handle) (map_is : (region_at s w.request.handle).map ≡ w.map) where
  pub plan_map : (plan_at s r).map ≡ w.map
  unfolding plan_at plan_of
  plan_map = ap (λ (h : ℕ). (region_at s h).map) handle ∙ map_is

  pub piece_place : (d : ℕ) → place (plan_at s r).map ((first_of w.kind).0 + d) ≡ mapped_to w d
  piece_place d = λ j. place (plan_map j) ((w.first j).0 + d)

  pub piece_size_lem : (d : ℕ) → piece_length (plan_at s r) w.kind (split_of w d) ≡ size_of w d
  unfolding piece_length piece_of
  piece_size_lem d = λ j. piece_size (plan_map j) ((w.first j).0 + d) (w.request.length - d)

  pub loose_is : (d c : ℕ) → Stage w d c r.awaits → loose (plan_at s r) r.awaits ≡ hosts_of w d
  unfolding loose pick pages
  loose_is d c (flush t e page all ends) = ap (loose (plan_at s r)) e ∙ ap (λ (b : Bool). pick b 0 (size_of w d)) (sym page)
  loose_is d c (piece e left) = ap (loose (plan_at s r)) e ∙ by_kind w.kind refl
    where
      by_kind : (k : Kind) → w.kind ≡ k → loose (plan_at s r) (Piece w.kind (split_of w d)) ≡ hosts_of w d
      by_kind (Page a b) q = ap (λ (k : Kind). loose (plan_at s r) (Piece k (split_of w d))) q ∙ ap (λ (k : Kind). pick (pages k) 0 (size_of w d)) (sym q)
      by_kind (Read a b) q =
          ap (λ (k : Kind). loose (plan_at s r) (Piece k (split_of w d))) q
          ∙ ap (λ (k : Kind). piece_length (plan_at s r) k (split_of w d)) (sym q) ∙ piece_size_lem d
          ∙ ap (λ (k : Kind). pick (pages k) 0 (size_of w d)) (sym q)

-- ---- the bytes of a piece that is taken whole are the new ones

module _ (w : Task) (s : State) (r : Row) (d c : ℕ) (o : InRow w r d c) (map_is : (region_at s w.request.handle).map ≡ w.map) (at : r.awaits ≡ Piece w.kind (split_of w d)) (left : d < w.request.length) (card : Card)
    (held : drop (hosts_of w d) (bytes_at s w.request.buffer) ≡ drop (hosts_of w d) (lying w.new w.old w.tail d)) (same : (i : ℕ) → i < on_card w d → w.watched i ≡ true → card (mapped_to w i) ≡ get_or w.new i 0)
    (holds : pages w.kind ≡ false → HoldsCard s r r.awaits card) where
  abbrev bytes : List ℕ
  bytes = bytes_at s w.request.buffer

  abbrev n : ℕ
  n = size_of w d

  abbrev IsNew : Type 0
  IsNew = (take n bytes ≡ take n (drop d w.new)) × (drop n bytes ≡ drop n (lying w.new w.old w.tail d))

  written_new : pages w.kind ≡ true → IsNew
  unfolding pick
  written_new page =
      let all : bytes ≡ lying w.new w.old w.tail d = rw page at held in
      (ap (take n) all ∙ lying_front w.new w.old w.tail w.request.length w.long_new w.long_old d n (piece_ends w d left) ∙ ap (λ (l : List ℕ). take n (drop d l)) (sym (w.of_write page)), ap (drop n) all)

  read_new : pages w.kind ≡ false → left_in s r ≡ pread card (place (plan_at s r).map ((first_of w.kind).0 + d)) (piece_length (plan_at s r) w.kind (split_of w d)) → IsNew
  unfolding left_in pick
  read_new reads came =
      let host : hosts_of w d ≡ n = ap (λ (b : Bool). pick b 0 n) reads in
      let whole : on_card w d ≡ w.request.length = ap (λ (b : Bool). pick b d w.request.length) reads in
      let here : left_in s r ≡ take n bytes = (λ j. take ((loose_is w s r o.handle map_is d c o.stage ∙ host) j) (bytes_at s (o.buffer j))) in
      let there : pread card (place (plan_at s r).map ((first_of w.kind).0 + d)) (piece_length (plan_at s r) w.kind (split_of w d)) ≡ pread card (mapped_to w d) n =
      (λ j. pread card (piece_place w s r o.handle map_is d j) (piece_size_lem w s r o.handle map_is d j)) in
      let ends = piece_ends w d left in
      let long = w.long_new in (
        sym here ∙ came ∙ there
            ∙ piece_read (mapped_to w) w.new d n (omega (arith, ends, long)) (consecutive w d left) card (λ i lt. same i (omega (arith, lt, whole, long)) (w.of_read reads i)),
        subst (λ (m : ℕ). drop m bytes ≡ drop m (lying w.new w.old w.tail d)) host held,
      )

  pub is_new : IsNew
  unfolding HoldsCard pages
  is_new = by_kind w.kind refl
    where
      by_kind : (k : Kind) → w.kind ≡ k → IsNew
      by_kind (Page a b) q = written_new (ap pages q)
      by_kind (Read a b) q =
          read_new (ap pages q)
          (subst (λ (k : Kind). left_in s r ≡ pread card (place (plan_at s r).map ((first_of k).0 + d)) (piece_length (plan_at s r) k (split_of w d))) (sym q)
          (unfold first_of in subst (λ (z : Awaits). HoldsCard s r z card) (at ∙ ap (λ (k : Kind). Piece k (split_of w d)) q) (holds (ap pages q))))
