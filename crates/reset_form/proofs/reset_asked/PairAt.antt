-- The pair at a place, with its functions in each cycle.
use Rattle.std.proofs.Common.{◌≡◌, ℕ, ◌+◌, ◌<◌, ◌≤◌, List, [], ◌∷◌, ◌++◌, length, slice_get, Some, sym, ◌∙◌, ap, subst, arith, inl, inr}
use Rattle.std.specs.Prelude.{◌⊎◌}
use Rattle.std.specs.List.{All, AllZip, Contains}
use Rattle.std.proofs.lemmas.Option.{same_Some, slice_get_within}
use Rattle.circuit_theory.specs.Fits.{IsPairDepth}
use Rattle.circuit_theory.proofs.Lists.{All-from_each, Contains-cases, at_of, zip_right, zip_length}
use Rattle.flat_net.specs.View.{NetView, circuit_of}
use Rattle.flat_net.proofs.Growth.{length-push}
use Rattle.cbf_unfold.specs.declared.unfold_places.signal_function.Unfolded.{Unfolded}
use Rattle.cbf_unfold.proofs.unfold_places.Lists.{append_cases}
use Rattle.pair_decide.specs.declared.query.Query.{Query}
use Rattle.aig.specs.declared.node.Node.{Node}
use Rattle.sec_setup.specs.declared.ports.pairs.SignalPair.{SignalPair}
use Rattle.sec_setup.specs.declared.setup.Setup.{Setup}
use Rattle.cbf_unfold.specs.shift_variables.cycle_variables.Cycles.{AreInCycles}
use Rattle.reset_form.specs.reset_asked.Asked.{IsCycleQuery}
use Rattle.reset_form.specs.reset_functions.Pairs.{AreCyclesOf, IsTopOf}
use Rattle.reset_form.proofs.reset_functions.OwnPairs.{one_pair_depth}
use Rattle.reset_form.proofs.reset_asked.CycleQueries.{in_order}

-- the functions of a pair at its place
module _ (s : Setup) (side : SignalPair → ℕ) (n : NetView) (order : List ℕ) (base : ℕ) (g : List Node) (places : List (ℕ × ℕ)) (pairs : List SignalPair) (tops : List (ℕ × ℕ)) (all : List (List Unfolded)) (are_tops : AllZip (IsTopOf s side) pairs tops)
    (are : AllZip (AreCyclesOf n order base g places) tops all) (i : ℕ) (p : SignalPair) (at : slice_get pairs i ≡ Some p) where
  pub cycles_within : i < length all
  cycles_within =
      let h = slice_get_within pairs i p at in let m = zip_length (IsTopOf s side) pairs tops are_tops in let k = zip_length (AreCyclesOf n order base g places) tops all are in omega (arith, h, m, k)

  pub cycles_here : (size : ℕ) → IsPairDepth (circuit_of s.left.now) (circuit_of s.right.now) p.left.0 p.right.0 size → (us : List Unfolded) → slice_get all i ≡ Some us → AreCyclesOf n order base g places (size, side p) us
  cycles_here size depth us here =
      let top = zip_right (IsTopOf s side) pairs tops are_tops i p at in
      let own = zip_right (AreCyclesOf n order base g places) tops all are i top.0 top.1 in
      let same : own.0 ≡ us = same_Some own.0 us (sym own.1 ∙ here) in
      let size_is : top.0.0 ≡ size = one_pair_depth (circuit_of s.left.now) (circuit_of s.right.now) p.left.0 p.right.0 top.0.0 size top.2.depth depth in
      let top_is : top.0 ≡ (size, side p) = λ j. (size_is j, top.2.signal j) in
      subst (λ (q : ℕ × ℕ). AreCyclesOf n order base g places q us) top_is (subst (AreCyclesOf n order base g places top.0) same own.2)

-- the variables of each function are in order
pub all_in_order : (n : NetView) (order : List ℕ) (base : ℕ) (g : List Node) (places : List (ℕ × ℕ)) (top : ℕ × ℕ) (us : List Unfolded) → AreCyclesOf n order base g places top us → All (λ (u : Unfolded). AreInCycles places u.vars) us
all_in_order n order base g places top us are =
    All-from_each (λ (u : Unfolded). AreInCycles places u.vars) us (λ u h. let at = at_of us u h in in_order n order base g places top.1 at.0 u (are.are at.0 u at.1))

-- one query more
pub query_next : (places : List (ℕ × ℕ)) (left right : List Unfolded) (t : ℕ) (l r : Unfolded) (queries made : List Query) (q : Query) → slice_get left t ≡ Some l → slice_get right t ≡ Some r → length queries ≡ t →
    ((j : ℕ) (x y : Unfolded) (z : Query) → slice_get left j ≡ Some x → slice_get right j ≡ Some y → slice_get queries j ≡ Some z → IsCycleQuery places x y z) → IsCycleQuery places l r q → made ≡ queries ++ q ∷ [] →
    (j : ℕ) (x y : Unfolded) (z : Query) → slice_get left j ≡ Some x → slice_get right j ≡ Some y → slice_get made j ≡ Some z → IsCycleQuery places x y z
query_next places left right t l r queries made q at_left at_right long before is same j x y z hx hy hz = go (append_cases queries (q ∷ []) j z here)
  where
    here : slice_get (queries ++ q ∷ []) j ≡ Some z
    here = subst (λ (l : List Query). slice_get l j ≡ Some z) same hz

    inside : j < length queries + 1
    inside = let k = slice_get_within (queries ++ q ∷ []) j z here in let e = length-push queries q in omega (arith, k, e)

    go : (slice_get queries j ≡ Some z) ⊎ ((length queries ≤ j) × Contains (q ∷ []) z) → IsCycleQuery places x y z
    go (inl old) = before j x y z hx hy old
    go (inr new) =
        let q_is : q ≡ z = elim (Contains-cases q z [] new.1) [ inl e ↦ e | inr k ↦ absurd (omega (arith, k.1)) ] in
        let t_is : t ≡ j = omega (arith, new.0, inside, long) in
        let l_is : l ≡ x = same_Some l x (sym at_left ∙ (ap (slice_get left) t_is ∙ hx)) in
        let r_is : r ≡ y = same_Some r y (sym at_right ∙ (ap (slice_get right) t_is ∙ hy)) in
        subst (λ (v : Query). IsCycleQuery places x y v) q_is (subst (λ (v : Unfolded). IsCycleQuery places x v q) r_is (subst (λ (v : Unfolded). IsCycleQuery places v r q) l_is is))
