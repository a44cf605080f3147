-- `entry::nameless` meets its contract, by the lengths.
use mathlib.Core.Path.{sym, ap, ◌∙◌}
use mathlib.Core.Bool.{Bool}
use Rattle.layout.specs.Pick.{pick}
use Rattle.completion.specs.declared.Refusal.TheVariants.{Unfit}
use Rattle.completion.specs.declared.Reply.TheVariants.{No as turnedAway}
use Rattle.abi.specs.ReplyWords.{reply_words, unknown_words}
use Rattle.entry.specs.Entry.{nameless_words}
use Rattle.entry.proofs.nameless.Goals as goal

pub returns-then-fits_words : goal.returns-then-fits_words
unfolding nameless_words pick
returns-then-fits_words c =
    c.put_unknown.ensures ∙ sym (ap (λ (b : Bool). pick b unknown_words (reply_words (turnedAway Unfit))) (sym c.fits_words.ensures ∙ c.if-fits_words.true))

pub returns : goal.returns
unfolding nameless_words pick
returns c =
    c.put_whole.ensures ∙ sym (ap (λ (b : Bool). pick b unknown_words (reply_words (turnedAway Unfit))) (sym c.fits_words.ensures ∙ c.if-fits_words.false))
