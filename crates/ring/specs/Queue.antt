-- The queue of ready completions, in words: word 0 is the place of the oldest, and the completion at place i of a ring of d places lies from word
-- 1 + 16 i on. The place in word 0 may be any number: it counts mod d.
use Rattle.std.specs.Prelude.{◌≡◌, Bool, ◌&&◌, List, [], ◌∷◌, ◌++◌, ℕ, suc, ◌+◌, ◌*◌, ◌≤◌, ◌<◌, ◌%◌, length, get_or, take, drop, set, leb, ltb}
use Rattle.layout.specs.Pick.{pick}
use Rattle.completion.specs.declared.Completion.{Completion}
use Rattle.model.specs.declared.Opening.{Opening}
use Rattle.model.specs.Memory.{completion_in, ready_in, completion_words, CompletionFits, over}

-- the words hold a ring of d places
pub record Ring (d : ℕ) (ws : List ℕ) : Type 0 where
  pub some : 0 < d
  pub most : d ≤ 4096
  pub room : 1 + 16 * d ≤ length ws

unfoldable pub ring_in : ℕ → List ℕ → Bool
ring_in d ws = ltb 0 d && (leb d 4096 && leb (1 + 16 * d) (length ws))

-- where the words of the completion behind the first n start
unfoldable pub place_in : ℕ → ℕ → List ℕ → ℕ
place_in d n ws = 1 + 16 * ((get_or ws 0 0 + n) % d)

-- the words xs, from place k on
unfoldable pub placed : ℕ → List ℕ → List ℕ → List ℕ
placed k xs ws = take k ws ++ over xs (drop k ws)

-- the completion c added behind n others
unfoldable pub published : ℕ → ℕ → Completion → List ℕ → List ℕ
published d n c ws = pick (ring_in d ws) (placed (place_in d n ws) (completion_words c) ws) ws

-- the oldest completion
unfoldable pub oldest_in : Opening → List ℕ → Completion
oldest_in o ws = completion_in o (take 16 (drop (place_in o.depth 0 ws) ws))

-- the oldest taken away
unfoldable pub popped : ℕ → List ℕ → List ℕ
popped d ws = pick (ring_in d ws) (set ws 0 (suc (get_or ws 0 0) % d)) ws

-- Proved in proofs/Laws.antt (queue-laws). The completions of a table are ready_in of these words (the model's Memory, state_in).
pub record QueueLaws : Type 0 where
  -- a completion that lies in words, once published, is the last of the queue, and the others stay
  pub publish : (o : Opening) (d n : ℕ) (c : Completion) (ws : List ℕ) → Ring d ws → n < d → CompletionFits o c
      → ready_in o d (get_or ws 0 0) (n + 1) (drop 1 (published d n c ws)) ≡ ready_in o d (get_or ws 0 0) n (drop 1 ws) ++ (c ∷ [])
  pub publish_oldest : (d n : ℕ) (c : Completion) (ws : List ℕ) → get_or (published d n c ws) 0 0 ≡ get_or ws 0 0
  pub publish_length : (d n : ℕ) (c : Completion) (ws : List ℕ) → length (published d n c ws) ≡ length ws
  pub publish_behind : (d n : ℕ) (c : Completion) (ws : List ℕ) → drop (1 + 16 * d) (published d n c ws) ≡ drop (1 + 16 * d) ws
  -- the oldest is the first of the queue
  pub oldest : (o : Opening) (n : ℕ) (ws : List ℕ) → ready_in o o.depth (get_or ws 0 0) (n + 1) (drop 1 ws)
      ≡ oldest_in o ws ∷ ready_in o o.depth (suc (get_or ws 0 0)) n (drop 1 ws)
  -- and once it is taken the others are what is left
  pub pop : (o : Opening) (d n : ℕ) (ws : List ℕ) → Ring d ws
      → ready_in o d (get_or (popped d ws) 0 0) n (drop 1 (popped d ws)) ≡ ready_in o d (suc (get_or ws 0 0)) n (drop 1 ws)
  pub pop_length : (d : ℕ) (ws : List ℕ) → length (popped d ws) ≡ length ws
  pub pop_behind : (d : ℕ) (ws : List ℕ) → drop (1 + 16 * d) (popped d ws) ≡ drop (1 + 16 * d) ws
