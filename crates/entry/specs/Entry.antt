-- "contracts give values": what each function that a host in C or Rust calls leaves in what the host lends and in `out`. The promises are those of a
-- host that lends records (WholeRows: OpensWhole, CallsWhole, LooksWhole); `out` gets the reply's words (abi's ReplyWords: reply_words). A code that
-- names nothing changes nothing, and gets a case of its own, behind 13.
use Rattle.std.specs.Prelude.{◌≡◌, List, ℕ}
use Rattle.std.proofs.Math.Option.{Option, none, some}
use Rattle.layout.specs.Pick.{pick}
use Rattle.completion.specs.declared.Refusal.TheVariants as Refusal
use Rattle.completion.specs.declared.Reply.{Reply}
use Rattle.model.specs.declared.{Call.Call, Lookup.Lookup, Opening.Opening}
use Rattle.entry.specs.WordCalls.{count_words}
use Rattle.entry.specs.WholeRows.{OpensWhole, CallsWhole, LooksWhole, fits_in}
use Rattle.abi.specs.ReplyWords.{reply_words, unknown_words}
use Rattle.opening.specs.Opened.{Opened}
use Rattle.std.specs.declared.result.Result.{Result}

-- what a host lends
pub record Parts : Type 0 where
  pub counts : List ℕ
  pub rows : List ℕ
  pub store : List ℕ
  pub free : List ℕ
  pub ready : List ℕ
  pub owners : List ℕ
  pub pool : List ℕ

abbrev pub parts_of : List ℕ → List ℕ → List ℕ → List ℕ → List ℕ → List ℕ → List ℕ → Parts
parts_of counts rows store free ready owners pool =
    record { counts = counts; rows = rows; store = store; free = free; ready = ready; owners = owners; pool = pool }

-- a call: its reply, what it leaves, and the reply's words
pub record CallsOut (call : Call) (p p' : Parts) (out : List ℕ) : Type 0 where
  pub reply : Reply
  pub calls : CallsWhole call p.counts p.rows p.store p.free p.ready p.owners p.pool
      reply p'.counts p'.rows p'.store p'.free p'.ready p'.owners p'.pool
  pub out_is : out ≡ reply_words reply

-- "A later call with another length of row memory or pool gets 13 first.": also one whose code names nothing; in the opening's lengths, as the
-- store's words 13 to 18 have them, that gets a case of its own
unfoldable pub nameless_words : Parts → List ℕ
nameless_words p =
    pick (fits_in p.rows p.store p.free p.ready p.owners p.pool) unknown_words (reply_words (Reply.No Refusal.Unfit))

-- what is asked for: a call, or nothing
unfoldable pub AnswersOut : Option Call → Parts → Parts → List ℕ → Type 0
AnswersOut (some call) p p' out = CallsOut call p p' out
AnswersOut none p p' out = (p' ≡ p) × (out ≡ nameless_words p)

-- a lookup: it changes nothing
pub record LooksOut (x : Lookup) (p : Parts) (out : List ℕ) : Type 0 where
  pub reply : Reply
  pub looks : LooksWhole x p.counts p.rows p.store p.free p.ready p.owners p.pool reply
  pub out_is : out ≡ reply_words reply

-- an opening: "Is all this so, and the row memory long enough? No: 13." The table's counts go to their words; refused, those stay too.
unfoldable pub opened_reply : Opened → Reply
opened_reply (Result.Ok c) = Reply.Ok
opened_reply (Result.Err f) = Reply.No f

unfoldable pub opened_counts : Opened → List ℕ → List ℕ
opened_counts (Result.Ok c) counts = count_words c
opened_counts (Result.Err f) counts = counts

pub record OpensOut (o : Opening) (plan : List ℕ) (p p' : Parts) (out : List ℕ) : Type 0 where
  pub opened : Opened
  pub opens : OpensWhole o plan p.rows p.store p.free p.ready p.owners p.pool
      opened p'.rows p'.store p'.free p'.ready p'.owners
  pub counts_are : p'.counts ≡ opened_counts opened p.counts
  pub pool_is : p'.pool ≡ p.pool
  pub out_is : out ≡ reply_words (opened_reply opened)
