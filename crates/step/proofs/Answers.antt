-- What a submission is known by once its questions were all answered yes: each question's test, read as an order. A list whose first no is none holds
-- only yes, so each question of the write's and of the read's list was answered yes.
use mathlib.Core.Path.{◌≡◌, refl}
use mathlib.Core.Bool.{Bool, true, false, ◌&&◌}
use mathlib.Core.List.{List, ◌∷◌}
use Prim.Native.Nat.{ℕ, ◌+◌, ◌≤◌, ◌<◌, ◌^◌}
use native.Mathlib.Omega.{arith}
use borrow.Author.Tests.{ltb-true, leb-true}
use lib.Dec.{leb, ltb}
use Rattle.layout.proofs.Tests.{and_left, and_right}
use Rattle.completion.specs.declared.Context.{Context}
use Rattle.completion.specs.declared.Refusal.{Refusal}
use Rattle.model.specs.declared.Request.{Request}
use Rattle.std.specs.declared.result.Result.TheVariants.{Ok, Err}
use Rattle.model.specs.State.{State}
use Rattle.step.specs.Questions.{ask, first_no, handle_names_region, buffer_in_pool, host_holds_buffer, room_in_table, lifetime_left, length_above0, within_data, region_at, held_at, write_questions, read_questions, Asked}

-- what both lists ask, in terms of the table
pub record Passed (s : State) (q : Request) : Type 0 where
  pub region : q.handle < s.settings.regions
  pub buffer : q.buffer < s.settings.buffers
  pub fits : q.length ≤ s.settings.capacity
  pub held : held_at s q.buffer ≡ true
  pub room : s.counts.live + s.counts.ready < s.settings.depth
  pub left : s.counts.submissions < s.settings.lifetime
  pub some : 0 < q.length
  pub whole : q.offset.0 + q.length < 2 ^ 64
  pub in_data_lem : q.offset.0 + q.length ≤ (region_at s q.handle).map.data_length

never : {A : Type 0} {f : Refusal} → ◌≡◌ {A = Asked} (Err f) (Ok tt) → A
never e = let z : ◌≡◌ {A = ℕ} 0 1 = cc in absurd (omega arith)

first : (a : Asked) (more : List Asked) → first_no (a ∷ more) ≡ Ok tt → a ≡ Ok tt
unfolding first_no
first (Ok _) more e = refl
first (Err f) more e = never e

rest : (a : Asked) (more : List Asked) → first_no (a ∷ more) ≡ Ok tt → first_no more ≡ Ok tt
unfolding first_no
rest (Ok _) more e = e
rest (Err f) more e = never e

pub answered : (b : Bool) (f : Refusal) → ask b f ≡ Ok tt → b ≡ true
unfolding ask
answered true f e = refl
answered false f e = never e

-- the questions that both lists have; the last two with a context of their own
module _ (s : State) (q : Request) (c d : Context) where
  passed : handle_names_region s.settings.regions q ≡ Ok tt
      → buffer_in_pool s.settings.buffers s.settings.capacity c q ≡ Ok tt
      → host_holds_buffer (held_at s q.buffer) c ≡ Ok tt
      → room_in_table s.settings.depth s.counts c ≡ Ok tt
      → lifetime_left s.settings.lifetime s.counts c ≡ Ok tt
      → length_above0 d q ≡ Ok tt
      → within_data (region_at s q.handle).map.data_length d q ≡ Ok tt
      → Passed s q
  unfolding handle_names_region buffer_in_pool host_holds_buffer room_in_table lifetime_left length_above0 within_data
  passed e₁ e₂ e₃ e₄ e₅ e₁₂ e₁₄ =
      let in_pool_lem = answered (ltb q.buffer s.settings.buffers && leb q.length s.settings.capacity) _ e₂ in
      let end = q.offset.0 + q.length in
      record {
        region = ltb-true _ _ (answered _ _ e₁);
        buffer = ltb-true _ _ (and_left (ltb q.buffer s.settings.buffers) _ in_pool_lem);
        fits = leb-true _ _ (and_right (ltb q.buffer s.settings.buffers) _ in_pool_lem);
        held = answered _ _ e₃;
        room = ltb-true _ _ (answered _ _ e₄);
        left = ltb-true _ _ (answered _ _ e₅);
        some = ltb-true _ _ (answered _ _ e₁₂);
        whole = ltb-true _ _ (and_left (ltb end (2 ^ 64)) _ (answered (ltb end (2 ^ 64) && leb end (region_at s q.handle).map.data_length) _ e₁₄));
        in_data_lem = leb-true _ _ (and_right (ltb end (2 ^ 64)) _ (answered (ltb end (2 ^ 64) && leb end (region_at s q.handle).map.data_length) _ e₁₄));
      }

module _ (s : State) (q : Request) where
  pub write_passed : first_no (write_questions s (region_at s q.handle) q) ≡ Ok tt → Passed s q
  unfolding write_questions
  write_passed e₁ =
      let e₂ = rest _ _ e₁ in
      let e₃ = rest _ _ e₂ in
      let e₄ = rest _ _ e₃ in
      let e₅ = rest _ _ e₄ in
      let e₁₂ = rest _ _ (rest _ _ (rest _ _ (rest _ _ (rest _ _ (rest _ _ (rest _ _ e₅)))))) in
      let e₁₄ = rest _ _ (rest _ _ e₁₂) in
      passed s q _ _ (first _ _ e₁) (first _ _ e₂) (first _ _ e₃) (first _ _ e₄) (first _ _ e₅) (first _ _ e₁₂) (first _ _ e₁₄)

  pub read_passed : first_no (read_questions s (region_at s q.handle) q) ≡ Ok tt → Passed s q
  unfolding read_questions
  read_passed e₁ =
      let e₂ = rest _ _ (rest _ _ (rest _ _ e₁)) in
      let e₃ = rest _ _ e₂ in
      let e₄ = rest _ _ e₃ in
      let e₅ = rest _ _ e₄ in
      let e₁₂ = rest _ _ (rest _ _ e₅) in
      let e₁₄ = rest _ _ (rest _ _ e₁₂) in
      passed s q _ _ (first _ _ e₁) (first _ _ e₂) (first _ _ e₃) (first _ _ e₄) (first _ _ e₅) (first _ _ e₁₂) (first _ _ e₁₄)
