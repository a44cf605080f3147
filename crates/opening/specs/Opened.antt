-- "Is all this so, and the row memory long enough? No: 13." What an opening leaves in each part of what is lent, and its reply.
use Rattle.std.specs.Prelude.{◌≡◌, List, ℕ}
use Rattle.std.proofs.Math.Option.{Option, none, some}
use Rattle.std.specs.declared.option.Option.{Option as StdOption}
use Rattle.std.specs.declared.result.Result.{Result}
use Rattle.layout.specs.Pick.{pick}
use Rattle.completion.specs.declared.Refusal.{Refusal}
use Rattle.completion.specs.Numbers.{number}
use Rattle.model.specs.declared.{Counts.Counts, Opening.Opening, Row.Row}
use Rattle.model.specs.Memory.{Lent, lengths_of, lent_after}
use Rattle.model.specs.Opening.{opens}
use Rattle.model.specs.State.{fresh}

-- the reply to an opening: the table's counts, or the refusal
abbrev pub Opened : Type 0
Opened = Result Counts Refusal

-- the reply of an opening that is refused
abbrev pub refused : Opened
refused = Result.Err Refusal.Unfit

-- for the code: the reply by how many rows were prepared
unfoldable pub opened_with : StdOption ℕ → Opened
opened_with (StdOption.Some depth) = Result.Ok fresh
opened_with StdOption.None = refused

-- document 01's number of a reply, if it has one
unfoldable pub opened_number : Opened → Option ℕ
opened_number (Result.Err f) = some (number f)
opened_number (Result.Ok c) = none

pub record OpensTo (o : Opening) (plan : List ℕ) (l : Lent) (r : Opened) (rows : List Row) (store free ready owners : List ℕ) : Type 0 where
  pub reply : r ≡ pick (opens o plan (lengths_of l)) (Result.Ok fresh) refused
  -- "No: 13."
  pub number_is : opened_number r ≡ pick (opens o plan (lengths_of l)) none (some 13)
  pub rows_are : rows ≡ (lent_after o plan l).rows
  pub store_is : store ≡ (lent_after o plan l).store
  pub free_is : free ≡ (lent_after o plan l).free
  pub ready_is : ready ≡ (lent_after o plan l).ready
  pub owners_are : owners ≡ (lent_after o plan l).owners
