-- The functions of the pairs' signals in a cycle while the graph and the table grow, and what is unfolded besides what was before.
use Rattle.std.proofs.Common.{◌≡◌, ◌∙◌, ◌+◌, ℕ, List, [], ◌∷◌, ◌++◌, take, slice_get, Some, sym, ap, subst, arith, inl, inr}
use Rattle.std.specs.Prelude.{◌⊎◌}
use Rattle.std.specs.List.{AllZip, Contains}
use Rattle.std.proofs.lemmas.List.Elements.{Contains-append_left, Contains-push, Contains-push_cases}
use Rattle.circuit_theory.specs.declared.Side.{Side}
use Rattle.circuit_theory.proofs.Lists.{zip_weaker, of_at, at_of}
use Rattle.base_tables.proofs.TableLemmas.{slice_get-take}
use Rattle.flat_net.specs.View.{NetView, circuit_of}
use Rattle.circuit_laws.specs.reset_laws.Weight.{IsResetOver}
use Rattle.aig.specs.declared.node.Lit.{Lit}
use Rattle.aig.proofs.Lists.{adds_contains}
use Rattle.cbf_unfold.specs.unfold_places.Reach.{Adds}
use Rattle.cbf_unfold.proofs.shift_variables.Assignments.{take_next}
use Rattle.sec_setup.specs.declared.ports.pairs.SignalPair.{SignalPair}
use Rattle.reset_form.specs.reset_unfold.Places.{starts_of}
use Rattle.reset_form.specs.reset_functions.Pairs.{IsTooLarge}
use Rattle.cycle_search.specs.Outputs.{side_of, IsLiteralIn, IsDoneOrIn, HasDoneIn}

-- literals stay those of their signals
pub literals_later : (memo more : List ((ℕ × ℕ) × Lit)) → Adds (λ e. Unit {0}) memo more → (side : Side) (cycle : ℕ) (pairs : List SignalPair) (xs : List Lit) → AllZip (IsLiteralIn memo side cycle) pairs xs → AllZip (IsLiteralIn more side cycle) pairs xs
literals_later memo more adds side cycle pairs xs zip =
    zip_weaker (IsLiteralIn memo side cycle) (IsLiteralIn more side cycle) (λ x lit is. adds_contains (λ e. Unit {0}) memo more ((cycle, side_of side x), lit) adds is) pairs xs zip

nothing : {X : Type 0} {x : X} → Contains [] x → ⊥
nothing h = omega (arith, h.1)

module _ (side : Side) (cycle : ℕ) where
  -- before the first pair
  pub done_first : (pairs : List SignalPair) (old : List (ℕ × ℕ)) → HasDoneIn side (take 0 pairs) cycle old old
  done_first pairs old p = (λ h. inl h, only)
    where
      only : IsDoneOrIn side (take 0 pairs) cycle old p → Contains old p
      only (inl h) = h
      only (inr e) = absurd (nothing e.1.1)

  -- one pair more
  pub done_more : (pairs : List SignalPair) (i : ℕ) (x : SignalPair) → slice_get pairs i ≡ Some x → (old before new : List (ℕ × ℕ)) → HasDoneIn side (take i pairs) cycle old before → new ≡ before ++ (cycle, side_of side x) ∷ [] →
      HasDoneIn side (take (i + 1) pairs) cycle old new
  done_more pairs i x at old before new has is p = (λ h. forth (Contains-push_cases before (cycle, side_of side x) p (subst (λ (l : List (ℕ × ℕ)). Contains l p) is h)), λ h. subst (λ (l : List (ℕ × ℕ)). Contains l p) (sym is) (back h))
    where
      more : take (i + 1) pairs ≡ take i pairs ++ x ∷ []
      more = take_next pairs i x at

      wider : IsDoneOrIn side (take i pairs) cycle old p → IsDoneOrIn side (take (i + 1) pairs) cycle old p
      wider (inl h) = inl h
      wider (inr e) = inr (e.0, (e.1.0, subst (λ (l : List SignalPair). Contains l e.1.0) (sym more) (Contains-append_left (take i pairs) (x ∷ []) e.1.0 e.1.1), e.1.2))

      forth : Contains before p ⊎ ((cycle, side_of side x) ≡ p) → IsDoneOrIn side (take (i + 1) pairs) cycle old p
      forth (inl h) = wider ((has p).0 h)
      forth (inr e) = inr (sym (ap (λ (r : ℕ × ℕ). r.0) e), (x, subst (λ (l : List SignalPair). Contains l x) (sym more) (Contains-push (take i pairs) x), sym (ap (λ (r : ℕ × ℕ). r.1) e)))

      pick : (y : SignalPair) → p.0 ≡ cycle → p.1 ≡ side_of side y → Contains (take i pairs) y ⊎ (x ≡ y) → Contains (before ++ (cycle, side_of side x) ∷ []) p
      pick y e q (inl h) = Contains-append_left before ((cycle, side_of side x) ∷ []) p ((has p).1 (inr (e, (y, h, q))))
      pick y e q (inr same) =
          let other : side_of side x ≡ p.1 = ap (side_of side) same ∙ sym q in
          let here : (cycle, side_of side x) ≡ p = λ j. (sym e j, other j) in
          subst (Contains (before ++ (cycle, side_of side x) ∷ [])) here (Contains-push before (cycle, side_of side x))

      back : IsDoneOrIn side (take (i + 1) pairs) cycle old p → Contains (before ++ (cycle, side_of side x) ∷ []) p
      back (inl h) = Contains-append_left before ((cycle, side_of side x) ∷ []) p ((has p).1 (inl h))
      back (inr e) = pick e.1.0 e.0 e.1.2 (Contains-push_cases (take i pairs) x e.1.0 (subst (λ (l : List SignalPair). Contains l e.1.0) more e.1.1))

  -- what is over with this pair is over with all
  pub over_more : (pairs : List SignalPair) (i : ℕ) (x : SignalPair) → slice_get pairs i ≡ Some x → (n m : NetView) → m ≡ n → (old before : List (ℕ × ℕ)) → HasDoneIn side (take i pairs) cycle old before →
      IsResetOver (circuit_of m) (starts_of (before ++ (cycle, side_of side x) ∷ [])) 2000000 → IsTooLarge n (IsDoneOrIn side pairs cycle old)
  over_more pairs i x at n m net old before has over = (
    before ++ (cycle, side_of side x) ∷ [],
    λ p h. pick p (Contains-push_cases before (cycle, side_of side x) p h),
    subst (λ (k : NetView). IsResetOver (circuit_of k) (starts_of (before ++ (cycle, side_of side x) ∷ [])) 2000000) net over,
  )
    where
      taken : (y : SignalPair) → Contains (take i pairs) y → Contains pairs y
      taken y h = let at = at_of (take i pairs) y h in of_at pairs at.0 y (slice_get-take i pairs at.0 y at.1).1

      wider : (p : ℕ × ℕ) → IsDoneOrIn side (take i pairs) cycle old p → IsDoneOrIn side pairs cycle old p
      wider p (inl h) = inl h
      wider p (inr e) = inr (e.0, (e.1.0, taken e.1.0 e.1.1, e.1.2))

      pick : (p : ℕ × ℕ) → Contains before p ⊎ ((cycle, side_of side x) ≡ p) → IsDoneOrIn side pairs cycle old p
      pick p (inl h) = wider p ((has p).0 h)
      pick p (inr e) = inr (sym (ap (λ (r : ℕ × ℕ). r.0) e), (x, of_at pairs i x at, sym (ap (λ (r : ℕ × ℕ). r.1) e)))
