-- Numbers behind a text: those from a place on are the one there and those behind it.
use mathlib.Core.Path.{◌≡◌}
use mathlib.Core.List.{List, ◌++◌, append_assoc, append-nil}
use Prim.Native.Nat.{ℕ, ◌+◌, ◌≤◌, ◌<◌}
use native.Mathlib.Numerals.{add-one}
use lib.ListN.{length, drop, get_or, drop_of_length-le}
use lib.Seq.{drop-cons}
use Rattle.printer.specs.Spaced.{spaced}
use Rattle.printer.specs.Parts.{spaced_all}

-- the numbers from a place on
module _ (text ns : List ℕ) (i : ℕ) where
  pub numbers_on : i < length ns → (text ++ spaced (get_or ns i 0)) ++ spaced_all (drop (i + 1) ns) ≡ text ++ spaced_all (drop i ns)
  unfolding spaced_all
  numbers_on h = rw (add-one, drop-cons ns i 0 h) (append_assoc text _ _)

  pub numbers_end : length ns ≤ i → text ++ spaced_all (drop i ns) ≡ text
  unfolding spaced_all
  numbers_end h = rw (drop_of_length-le ns {i = i} h) (append-nil text)

-- what a loop that puts them goes by
pub ruleset numbers = (numbers_on, numbers_end, append_assoc)
