-- What is promised of all that a host lends (Entry, WholeRows, WordCalls), over the struct in which the words of row memory are lent on.
use Rattle.std.specs.Prelude.{List, ℕ}
use Rattle.completion.specs.declared.Reply.{Reply}
use Rattle.model.specs.declared.{Call.Call, Lookup.Lookup, Opening.Opening}
use Rattle.memory.specs.declared.words.{Words.Words, View.View}
use Rattle.opening.specs.Opened.{Opened}
use Rattle.entry.specs.WordCalls.{OpensInWords, LooksInWords}
use Rattle.entry.specs.WholeRows.{OpensWhole, CallsWhole, LooksWhole}
use Rattle.entry.specs.Entry.{Parts, parts_of}

abbrev pub parts_with : List ℕ → List ℕ → Words → List ℕ → Parts
parts_with counts rows w pool = parts_of counts rows w.store.now w.free.now w.ready.now w.owners.now pool

abbrev pub CallsIn : Call → List ℕ → List ℕ → Words → List ℕ → Reply → List ℕ → List ℕ → Words → List ℕ → Type 0
CallsIn call counts rows w pool r counts' rows' w' pool' =
    CallsWhole call counts rows w.store.now w.free.now w.ready.now w.owners.now pool
    r counts' rows' w'.store.now w'.free.now w'.ready.now w'.owners.now pool'

abbrev pub OpensWholeIn : Opening → List ℕ → List ℕ → Words → List ℕ → Opened → List ℕ → Words → Type 0
OpensWholeIn o plan rows w pool r rows' w' =
    OpensWhole o plan rows w.store.now w.free.now w.ready.now w.owners.now pool r rows' w'.store.now w'.free.now w'.ready.now w'.owners.now

abbrev pub OpensWordsIn : Opening → List ℕ → List ℕ → Words → List ℕ → Opened → List ℕ → Words → Type 0
OpensWordsIn o plan rows w pool r rows' w' =
    OpensInWords o plan rows w.store.now w.free.now w.ready.now w.owners.now pool r rows' w'.store.now w'.free.now w'.ready.now w'.owners.now

abbrev pub LooksWholeIn : Lookup → List ℕ → List ℕ → View → List ℕ → Reply → Type 0
LooksWholeIn x counts rows v pool r = LooksWhole x counts rows v.store.now v.free.now v.ready.now v.owners.now pool r

abbrev pub LooksWordsIn : Lookup → List ℕ → List ℕ → View → List ℕ → Reply → Type 0
LooksWordsIn x counts rows v pool r = LooksInWords x counts rows v.store.now v.free.now v.ready.now v.owners.now pool r
