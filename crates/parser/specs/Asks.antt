-- The call that a line of a trace asks for (TRACE.md, "Calls").
use Rattle.std.specs.Prelude.{Bool, true, ℕ}
use Rattle.layout.specs.Pick.{pick}
use Rattle.regionmap.specs.Words.{position_of}
use Rattle.platform.specs.declared.Answer.TheVariants as Answer
use Rattle.model.specs.declared.Request.{Request}
use Rattle.model.specs.declared.Call.{Call as CallOf}
use Rattle.model.specs.declared.Call.TheVariants as Call
use Rattle.parser.specs.declared.{forms.Said.Said, requests.Named.Named, requests.Asks.Asks}

-- `w|r BUFFER POSITION LENGTH DURABLE TAG`: "handle 0, with its own volume, id and generation"
unfoldable pub request_of : Named → ℕ → ℕ → ℕ → Bool → ℕ → Request
request_of n buffer position length durable tag =
    record {
      handle = 0;
      volume = n.volume;
      region = n.region;
      generation = n.generation;
      offset = position_of position;
      buffer = buffer;
      length = length;
      durable = durable;
      tag = tag;
    }

unfoldable pub submission_of : Bool → Request → CallOf
submission_of write q = pick write (Call.Write q) (Call.ReadPage q)

-- `a QTAG COUNT`: "a count; buffer back; the flush count last given, 0 at first"
unfoldable pub asks_of : Said → Named → ℕ → Asks
asks_of Said.Comment n flushes = Asks.Nothing
asks_of (Said.Call c) n flushes = Asks.Call c
asks_of (Said.Own write buffer position length durable tag) n flushes = Asks.Call (submission_of write (request_of n buffer position length durable tag))
asks_of (Said.Count t count) n flushes = Asks.Call (Call.Answer t (Answer.Count count) true flushes)
asks_of (Said.Look x) n flushes = Asks.Other
asks_of Said.Len n flushes = Asks.Other
asks_of (Said.Fill b at length seed) n flushes = Asks.Other
asks_of (Said.Sum b at length) n flushes = Asks.Other
asks_of Said.Rows n flushes = Asks.Other
asks_of Said.Bad n flushes = Asks.Other
