-- What a submission's verdict leaves: the row as it becomes, whether the counts accept an operation, the reply, and the buffers' owners.
use Rattle.std.specs.Prelude.{ℕ, true, List, slice_set}
use Rattle.regionmap.specs.Found.{wrap64}
use Rattle.completion.specs.declared.Reply.TheVariants as Reply
use Rattle.model.specs.declared.{Row.Row, Request.Request}
use Rattle.std.specs.declared.result.Result.{Result}
use Rattle.step.specs.Step.{queue_tag, claimed_by, Verdict}
use Rattle.optable.specs.declared.Frees.TheVariants as Frees
use Rattle.optable.specs.declared.touched.Touched.{Touched}
use Rattle.optable.specs.Called.{away_with}

-- the row, the counts and the reply that a verdict leads to, of the row on top of the free stack and the next sequence number
unfoldable pub issued : Verdict → Row → ℕ → Request → Touched
issued (Result.Err f) row seq q = away_with row f
issued (Result.Ok a) row seq q =
    record {
      row = claimed_by row.generation seq a.kind q;
      accepts = true;
      frees = Frees.Nothing;
      reply = Reply.Piece (wrap64 (queue_tag a.row row.generation)) a.piece.offset a.piece.count q.buffer;
    }

-- the owners' words after it: 1 is the table
unfoldable pub owners_after : Verdict → Request → List ℕ → List ℕ
owners_after (Result.Err f) q owners = owners
owners_after (Result.Ok a) q owners = slice_set owners q.buffer 1
