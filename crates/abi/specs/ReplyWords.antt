-- "Where an answer is an enum, a definition lists this paper's number and values for each case."
-- The reply to a call as 17 words, for a host that takes no enums. Word 0 is the case:
--
-- 1 a piece        1 queue tag, 2 card offset, 3 count, 4 buffer
-- 2 turned away    1 document 01's number, 2 the context: 0 none; 1 a region, 3 its id; 2 a range, 3 region, 4 start, 5 end;
--                  3 the first cause, 3 operation, 4 whether an error, 5 the error
-- 3 a first piece refused    1 region, 2 start, 3 end, 4 operation, 5 whether an error (Io; else QueueFull), 6 the error,
--                  7 whether the buffer is back, 8 the buffer, 9 its length
-- 4 done           1 queue tag
-- 5 a flush        1 queue tag, 2 need
-- 6 a completion   1 to 16 its words (the model's Memory: completion_words). Of the ticket and the receipt they hold what the opening does not
--                  say: the volume, the class, the label and the epoch are the opening's; untorn and prefix are false; a receipt is synced
--                  unless its need is 0 or 2^64 − 1 (completion_in)
-- 7 none ready     8 a setting, a report or an opening was taken
-- 9 writes         1 whether a write awaits a piece        10 the mark    1 the mark
-- 11 a code that names nothing, in the opening's lengths (else 13), outside document 01's numbers: nothing was asked, and nothing has changed
--
-- Words that a case has no use for are 0.
use Rattle.std.specs.Prelude.{List, [], ◌∷◌, ◌++◌, ℕ, take, replicate}
use Rattle.completion.specs.declared.Reply.{Reply}
use Rattle.completion.specs.Numbers.{number, Values, Values.nothing, Values.region, Values.range, Values.cause, values}
use Rattle.model.specs.Memory.{op_word, has_word, raw_word, buffer_words, completion_words, word01}

-- 17 words, zeros behind those given
unfoldable pub filled : List ℕ → List ℕ
filled ws = take 17 (ws ++ replicate 17 0)

-- the context of a refusal
unfoldable pub values_words : Values → List ℕ
values_words nothing = 0 ∷ 0 ∷ 0 ∷ 0 ∷ []
values_words (region id) = 1 ∷ id ∷ 0 ∷ 0 ∷ []
values_words (range id start end) = 2 ∷ id ∷ start.0 ∷ end.0 ∷ []
values_words (cause f) = 3 ∷ op_word f.op ∷ has_word f.raw ∷ raw_word f.raw ∷ []

unfoldable pub reply_words : Reply → List ℕ
reply_words (Reply.Piece qtag offset count buffer) = filled (1 ∷ qtag ∷ offset.0 ∷ count ∷ buffer ∷ [])
reply_words (Reply.No f) = filled (2 ∷ number f ∷ values_words (values f))
reply_words (Reply.Rejected r op raw buf) = filled (3 ∷ r.region ∷ r.start.0 ∷ r.end.0 ∷ op_word op ∷ has_word raw ∷ raw_word raw ∷ buffer_words buf)
reply_words (Reply.Done qtag) = filled (4 ∷ qtag ∷ [])
reply_words (Reply.Flush qtag need) = filled (5 ∷ qtag ∷ need ∷ [])
reply_words (Reply.Took c) = filled (6 ∷ completion_words c)
reply_words Reply.None = filled (7 ∷ [])
reply_words Reply.Ok = filled (8 ∷ [])
reply_words (Reply.Writes on) = filled (9 ∷ word01 on ∷ [])
reply_words (Reply.Mark n) = filled (10 ∷ n ∷ [])

-- a code that names nothing
unfoldable pub unknown_words : List ℕ
unknown_words = filled (11 ∷ [])
