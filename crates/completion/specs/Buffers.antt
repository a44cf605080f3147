-- "its buffer, if it came back, with the whole length": an operation's buffer, with its length, or that it did not come back.
use Rattle.std.specs.declared.option.Option.{Option}
use Rattle.completion.specs.declared.Held.{Held}

abbrev pub Buffer : Type 0
Buffer = Option Held
