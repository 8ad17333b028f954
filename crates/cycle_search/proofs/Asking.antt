-- What is asked of one pair more.
use Rattle.std.proofs.Common.{◌≡◌, ◌∙◌, ◌+◌, ◌<◌, ◌≤◌, ℕ, List, [], ◌∷◌, ◌++◌, length, take, slice_get, Some, sym, ap, subst, arith, inl, inr}
use Rattle.std.specs.Prelude.{◌⊎◌}
use Rattle.std.specs.List.{Contains}
use Rattle.std.proofs.lemmas.List.{length-take-le}
use Rattle.std.proofs.lemmas.Option.{same_Some, slice_get_within}
use Rattle.circuit_theory.proofs.Lists.{Contains-cases}
use Rattle.flat_net.proofs.Growth.{length-push}
use Rattle.cbf_unfold.specs.declared.unfold_places.signal_function.Unfolded.{Unfolded}
use Rattle.cbf_unfold.proofs.shift_variables.Assignments.{take_next}
use Rattle.cbf_unfold.proofs.unfold_places.Lists.{append_cases}
use Rattle.obligations.specs.declared.obligation.Obligation.{Obligation}
use Rattle.sec_setup.specs.declared.ports.pairs.SignalPair.{SignalPair}
use Rattle.cycle_search.specs.Asked.{AreAskedBy}

only_one : {X : Type 0} (x y : X) → Contains (x ∷ []) y → x ≡ y
only_one x y h = elim (Contains-cases x y [] h) [ inl e ↦ e | inr k ↦ absurd (omega (arith, k.1)) ]

module _ (R : SignalPair → Unfolded → Unfolded → Obligation → Type 0) (pairs : List SignalPair) (left right : List Unfolded) (i : ℕ) (x : SignalPair) (l r : Unfolded) (at : slice_get pairs i ≡ Some x) (left_at : slice_get left i ≡ Some l) (right_at : slice_get right i ≡ Some r) where
  pub asked_more : (asked made : List Obligation) (o : Obligation) → made ≡ asked ++ o ∷ [] → AreAskedBy R (take i pairs) left right asked → R x l r o → AreAskedBy R (take (i + 1) pairs) left right made
  asked_more asked made o is before here = record {
    each = ap length is ∙ (length-push asked o ∙ (ap (λ k. k + 1) before.each ∙ (sym (length-push (take i pairs) x) ∙ ap length (sym more))));
    are = λ j y m k p hy hl hr ho. go j y m k p hl hr (append_cases (take i pairs) (x ∷ []) j y (subst (λ (ps : List SignalPair). slice_get ps j ≡ Some y) more hy)) (append_cases asked (o ∷ []) j p (subst (λ (os : List Obligation). slice_get os j ≡ Some p) is ho))
        (inside j y hy);
  }
    where
      more : take (i + 1) pairs ≡ take i pairs ++ x ∷ []
      more = take_next pairs i x at

      same_long : length asked ≡ length (take i pairs)
      same_long = before.each

      inside : (j : ℕ) (y : SignalPair) → slice_get (take (i + 1) pairs) j ≡ Some y → j < length asked + 1
      inside j y h =
          let k = slice_get_within (take i pairs ++ x ∷ []) j y (subst (λ (ps : List SignalPair). slice_get ps j ≡ Some y) more h) in
          let e = length-push (take i pairs) x in
          omega (arith, k, e, same_long)

      long : length (take i pairs) ≡ i
      long = length-take-le i pairs (let g = slice_get_within pairs i x at in omega (arith, g))

      go : (j : ℕ) (y : SignalPair) (m k : Unfolded) (p : Obligation) → slice_get left j ≡ Some m → slice_get right j ≡ Some k →
          (slice_get (take i pairs) j ≡ Some y) ⊎ ((length (take i pairs) ≤ j) × Contains (x ∷ []) y) → (slice_get asked j ≡ Some p) ⊎ ((length asked ≤ j) × Contains (o ∷ []) p) → j < length asked + 1 → R y m k p
      go j y m k p hl hr (inl a) (inl b) h = before.are j y m k p a hl hr b
      go j y m k p hl hr (inl a) (inr b) h = absurd (let w = slice_get_within (take i pairs) j y a in omega (arith, w, b.0, same_long))
      go j y m k p hl hr (inr a) (inl b) h = absurd (let w = slice_get_within asked j p b in omega (arith, w, a.0, same_long))
      go j y m k p hl hr (inr a) (inr b) h =
          let e : i ≡ j = omega (arith, a.0, h, same_long, long) in
          let l_is : l ≡ m = same_Some l m (sym left_at ∙ (ap (slice_get left) e ∙ hl)) in
          let r_is : r ≡ k = same_Some r k (sym right_at ∙ (ap (slice_get right) e ∙ hr)) in
          subst (λ (z : SignalPair). R z m k p) (only_one x y a.1)
          (subst (λ (z : Obligation). R x m k z) (only_one o p b.1)
          (subst (λ (z : Unfolded). R x m z o) r_is (subst (λ (z : Unfolded). R x z r o) l_is here)))
