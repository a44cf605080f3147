-- `words::View::fitted` meets its contract: where the lengths are the opening's the words are enough for its numbers.
use mathlib.Core.Path.{◌≡◌, sym, ap, ◌∙◌}
use mathlib.Core.Bool.{true}
use mathlib.Core.List.{List}
use Prim.Native.Nat.{ℕ, ◌≤◌}
use lib.ListN.{length}
use lib.Dec.{leb}
use borrow.Author.Tests.{leb-true}
use Rattle.std.specs.declared.option.Option.TheVariants.{Some}
use Rattle.layout.specs.Pick.{pick}
use Rattle.layout.proofs.Tests.{and_left}
use Rattle.model.specs.declared.Lengths.{Lengths}
use Rattle.model.specs.declared.Opening.{Opening}
use Rattle.model.specs.Memory.{same_lengths}
use Rattle.memory.specs.Words.{lengths_seen}
use Rattle.memory.proofs.words.View.fitted.Goals as goal

enough-words : (l : Lengths) (s : List ℕ) → same_lengths l s ≡ true → 48 ≤ length s
unfolding same_lengths
enough-words l s e = leb-true 48 (length s) (and_left (leb 48 (length s)) _ e)

pub returns-then-fits : goal.returns-then-fits
unfolding pick
returns-then-fits c =
    let a = c.args in
    let l : Lengths = lengths_seen a.rows a.self.now a.pool in
    let e : same_lengths l a.self.now.store.now ≡ true = sym c.fits.ensures ∙ c.if-fits.true in
    rw e (ap (λ (o : Opening). Some o.depth) (c.settings.ensures (enough-words l a.self.now.store.now e)))

pub returns-else-fits : goal.returns-else-fits
unfolding pick
returns-else-fits c = rw (sym c.fits.ensures ∙ c.if-fits.false)
