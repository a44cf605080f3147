-- `settings::settings` meets its contract: each word is read where the settings have it.
use mathlib.Core.Path.{refl}
use native.Mathlib.Omega.{arith}
use Rattle.model.specs.Memory.{settings_in, flag}
use Rattle.memory.proofs.settings.settings.Goals as goal

pub returns-then-store-lt-HEAD : goal.returns-then-store-lt-HEAD
returns-then-store-lt-HEAD c = λ enough. absurd (omega (arith, enough, c.if-store-lt-HEAD.true))

pub returns : goal.returns
unfolding settings_in flag
returns c = λ enough. refl
