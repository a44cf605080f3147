-- From what the parts of `table_open` ensure to what it ensures, by the reply.
use mathlib.Core.Path.{◌≡◌, sym, ap, ◌∙◌, subst}
use mathlib.Core.List.{List, [], ◌∷◌}
use Prim.Native.Nat.{ℕ}
use Rattle.std.specs.declared.result.Result.TheVariants.{Ok, Err}
use Rattle.completion.specs.declared.Refusal.{Refusal}
use Rattle.completion.specs.declared.Reply.TheVariants.{No as turnedAway, Ok as ok}
use Rattle.model.specs.declared.Counts.{Counts}
use Rattle.model.specs.declared.Opening.{Opening}
use Rattle.entry.specs.WholeRows.{OpensWhole}
use Rattle.abi.specs.ReplyWords.{reply_words}
use Rattle.entry.specs.Entry.{parts_of, opened_reply, opened_counts, OpensOut}
use Rattle.opening.specs.Opened.{Opened}

module _ (o o' : Opening) (same : o' ≡ o) (plan counts rows store free ready owners pool : List ℕ) (r : Opened) (rows' store' free' ready' owners' : List ℕ)
    (opens : OpensWhole o' plan rows store free ready owners pool r rows' store' free' ready' owners') where
  here : OpensWhole o plan rows store free ready owners pool r rows' store' free' ready' owners'
  here = subst (λ (x : Opening). OpensWhole x plan rows store free ready owners pool r rows' store' free' ready' owners') same opens

  pub is_table : (c : Counts) → r ≡ Ok c → (counts' out : List ℕ) → counts' ≡ c.live ∷ c.ready ∷ c.submissions ∷ [] → out ≡ reply_words ok
      → OpensOut o plan (parts_of counts rows store free ready owners pool) (parts_of counts' rows' store' free' ready' owners' pool) out
  unfolding opened_reply opened_counts
  is_table c e counts' out e-counts e-out = record {
    opened = r;
    opens = here;
    counts_are = e-counts ∙ sym (ap (λ (x : Opened). opened_counts x counts) e);
    pool_is = λ i. pool;
    out_is = e-out ∙ sym (ap (λ (x : Opened). reply_words (opened_reply x)) e);
  }

  pub is_refused_lem : (f : Refusal) → r ≡ Err f → (out : List ℕ) → out ≡ reply_words (turnedAway f) → OpensOut o plan (parts_of counts rows store free ready owners pool) (parts_of counts rows' store' free' ready' owners' pool) out
  unfolding opened_reply opened_counts
  is_refused_lem f e out e-out = record {
    opened = r;
    opens = here;
    counts_are = sym (ap (λ (x : Opened). opened_counts x counts) e);
    pool_is = λ i. pool;
    out_is = e-out ∙ sym (ap (λ (x : Opened). reply_words (opened_reply x)) e);
  }
