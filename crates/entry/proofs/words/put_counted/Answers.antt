-- `words::put_counted` meets its contract: turned away, nothing is put; else the counts are.
use mathlib.Core.Path.{refl, sym, ◌∙◌}
use Rattle.layout.proofs.Tests.{not_both}
use Rattle.entry.proofs.words.put_counted.Goals as goal

pub returns-then-away : goal.returns-then-away
returns-then-away c = record { reply = refl; turned_away = λ e. refl; counts_are = λ e. absurd (not_both (sym c.away.ensures ∙ c.if-away.true) e) }

pub returns : goal.returns
returns c =
    record {
      reply = refl;
      turned_away = λ e. absurd (not_both e (sym c.away.ensures ∙ c.if-away.false));
      counts_are = λ e. c.put_counts.ensures;
    }
