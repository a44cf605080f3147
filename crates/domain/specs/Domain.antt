-- "the store is poisoned with the cause .., the first cause kept"; "report poison with a cause (the first is kept)".
-- "the ticket's need is the flush count plus one, wrapping at 2^64".
use Rattle.std.specs.Prelude.{ℕ, ◌+◌, ◌%◌, ◌^◌}
use Rattle.std.specs.declared.option.Option.{Option}
use Rattle.std.specs.declared.option.Option.TheVariants.{None, Some}
use Rattle.domain.specs.declared.FirstCause.{FirstCause}

-- the store's poison after a cause
abbrev pub first_kept : Option FirstCause → FirstCause → Option FirstCause
first_kept None c = Some c
first_kept (Some f) c = Some f

-- the need of a write that ends when the flush count is n
abbrev pub need_after : ℕ → ℕ
need_after n = (n + 1) % 2 ^ 64
