use Rattle.std.proofs.Common.{◌≡◌, ◌∙◌, ◌+◌, ◌-◌, ◌<◌, ◌≤◌, ◌++◌, ◌∷◌, [], ℕ, List, length, get_or, slice_get, Some, sym, ap, subst, arith, inl, inr}
use Rattle.std.specs.Prelude.{◌⊎◌}
use Rattle.std.proofs.lemmas.Option.{slice_get-get_or}
use Rattle.signal_graph.proofs.flat_net.Growth.{length-push, slice_get-push_cases}
use Rattle.latch_graph.specs.Rounds.{StandsBack}
use Rattle.latch_graph.proofs.rounds.turned.Goals as goal

-- the last one stands as far back as its place tells
stands : (round : List ℕ) (first i m p x : ℕ) → m ≡ i → slice_get round p ≡ Some x → ((i ≤ first) × (p ≡ first - i)) ⊎ ((first < i) × (p ≡ length round + first - i)) → StandsBack round first m x
stands round first i m p x same at (inl h) = inl (subst (λ z. z ≤ first) (sym same) h.0, subst (λ z. slice_get round z ≡ Some x) (h.1 ∙ ap (λ z. first - z) (sym same)) at)
stands round first i m p x same at (inr h) = inr (subst (λ z. first < z) (sym same) h.0, subst (λ z. slice_get round z ≡ Some x) (h.1 ∙ ap (λ z. length round + first - z) (sym same)) at)

-- each stands back, also with one more
back_more : (round made : List ℕ) (first i p y : ℕ) → length made ≡ i → slice_get round p ≡ Some y → ((i ≤ first) × (p ≡ first - i)) ⊎ ((first < i) × (p ≡ length round + first - i)) →
    ((m x : ℕ) → slice_get made m ≡ Some x → StandsBack round first m x) → (m x : ℕ) → slice_get (made ++ y ∷ []) m ≡ Some x → StandsBack round first m x
back_more round made first i p y size at place back m x h = by (slice_get-push_cases made y m x h)
  where
    by : (slice_get made m ≡ Some x) ⊎ ((m ≡ length made) × (y ≡ x)) → StandsBack round first m x
    by (inl was) = back m x was
    by (inr last) = stands round first i m p x (last.0 ∙ size) (at ∙ ap Some last.1) place

pub loop-i-preserved : goal.loop-i-preserved
loop-i-preserved c =
    let round = c.args.round.now in
    let p = c.place_back.result in
    let y = get_or round p 0 in
    record {
      size = omega (arith, ap length c.in_ok-push.ensures.ok, length-push c.loop-i.made y, c.loop-i.invariant.size);
      back = λ m x h. back_more round c.loop-i.made c.least-first.result c.loop-i.i p y c.loop-i.invariant.size (slice_get-get_or round p 0 c.place_back.ensures.within) c.place_back.ensures.place c.loop-i.invariant.back m x
          (subst (λ (z : List ℕ). slice_get z m ≡ Some x) c.in_ok-push.ensures.ok h);
    }
