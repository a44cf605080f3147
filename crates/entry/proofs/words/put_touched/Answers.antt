-- `words::put_touched` meets its contract: turned away, nothing is put; else the row is, and the counts are.
use mathlib.Core.Path.{refl, sym, ap, ◌∙◌}
use lib.ListN.{length, get_or}
use Rattle.layout.proofs.Tests.{not_both}
use Rattle.abi.proofs.Laws.{put_long, put_others}
use Rattle.entry.proofs.words.put_touched.Goals as goal

pub returns-then-away : goal.returns-then-away
returns-then-away c =
    let is = sym c.away.ensures ∙ c.if-away.true in
    record {
      counted = record { reply = refl; turned_away = λ e. refl; counts_are = λ e. absurd (not_both is e) };
      turned_away = λ e. refl;
      row_is = λ e. absurd (not_both is e);
      others = λ i apart. refl;
      long = refl;
    }

pub returns : goal.returns
returns c =
    let a = c.args in
    record {
      counted = record {
        reply = refl;
        turned_away = λ e. absurd (not_both e (sym c.away.ensures ∙ c.if-away.false));
        counts_are = λ e. c.put_counts.ensures;
      };
      turned_away = λ e. absurd (not_both e (sym c.away.ensures ∙ c.if-away.false));
      row_is = λ e. c.put_row.ensures.0;
      others = λ i apart. ap (λ ws. get_or ws i 0) c.put_row.ensures.1 ∙ put_others a.at a.t.row a.rows.now i apart;
      long = ap length c.put_row.ensures.1 ∙ put_long a.at a.t.row a.rows.now;
    }
