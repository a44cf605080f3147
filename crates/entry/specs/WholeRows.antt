-- "A later call with another length of row memory or pool gets 13 first.": row memory in words is whole rows, 16 words each, so that a length that is
-- no multiple of 16 is another length than any that was opened, and gets 13, at the opening too. With whole rows the promises are WordCalls'.
use Rattle.std.specs.Prelude.{◌≡◌, Bool, ◌&&◌, List, ℕ, ◌%◌, length, eqb}
use Rattle.completion.specs.declared.Refusal.TheVariants as Refusal
use Rattle.completion.specs.declared.Reply.{Reply}
use Rattle.model.specs.declared.{Call.Call, Lookup.Lookup, Opening.Opening}
use Rattle.model.specs.Memory.{lengths_of, same_lengths}
use Rattle.entry.specs.WordCalls.{lent_in, OpensInWords, CallsInWords, LooksInWords}
use Rattle.opening.specs.Opened.{Opened}
use Rattle.std.specs.declared.result.Result.{Result}

-- as many words as some rows have, or not
abbrev pub Whole : List ℕ → Type 0
Whole rows = length rows % 16 ≡ 0

abbrev pub Cut : List ℕ → Type 0
Cut rows = Whole rows → ⊥

pub record OpensWhole (o : Opening) (plan rows store free ready owners pool : List ℕ) (r : Opened)
    (rows' store' free' ready' owners' : List ℕ) : Type 0 where
  pub whole : Whole rows → OpensInWords o plan rows store free ready owners pool r rows' store' free' ready' owners'
  pub cut : Cut rows → (r ≡ Result.Err Refusal.Unfit) × (rows' ≡ rows) × (store' ≡ store) × (free' ≡ free) × (ready' ≡ ready) × (owners' ≡ owners)

pub record CallsWhole (call : Call) (counts rows store free ready owners pool : List ℕ) (r : Reply)
    (counts' rows' store' free' ready' owners' pool' : List ℕ) : Type 0 where
  pub whole : Whole rows → CallsInWords call counts rows store free ready owners pool r counts' rows' store' free' ready' owners' pool'
  pub cut : Cut rows → (r ≡ Reply.No Refusal.Unfit) × (counts' ≡ counts) × (rows' ≡ rows) × (store' ≡ store) × (free' ≡ free) × (ready' ≡ ready) ×
      (owners' ≡ owners) × (pool' ≡ pool)

pub record LooksWhole (x : Lookup) (counts rows store free ready owners pool : List ℕ) (r : Reply) : Type 0 where
  pub whole : Whole rows → LooksInWords x counts rows store free ready owners pool r
  pub cut : Cut rows → r ≡ Reply.No Refusal.Unfit

-- when a call gets past 13: whole rows, and the opening's lengths, as the store's words 13 to 18 have them
unfoldable pub fits_in : List ℕ → List ℕ → List ℕ → List ℕ → List ℕ → List ℕ → Bool
fits_in rows store free ready owners pool = eqb (length rows % 16) 0 && same_lengths (lengths_of (lent_in rows store free ready owners pool)) store
