-- The inputs among some places, and their numbers in a table.
use Rattle.std.proofs.Common.{◌≡◌, ◌≢◌, ◌+◌, ◌-◌, ◌<◌, ◌≤◌, ℕ, List, [], ◌∷◌, ◌++◌, length, take, map, get_or, slice_get, Some, sym, ap, subst, arith, inl, inr}
use Rattle.std.specs.Prelude.{◌⊎◌, IsPermutation}
use Rattle.std.specs.List.{AllPairs, AllZip, Contains}
use Rattle.std.proofs.lemmas.List.{take_more}
use Rattle.std.proofs.lemmas.List.Elements.{All-push, Contains-append_left, Contains-push, Contains-push_cases}
use Rattle.std.proofs.lemmas.List.Kept.{AllPairs-cons}
use Rattle.std.proofs.lemmas.List.Sorted.{IsPermutation-sym, Contains-permutation}
use Rattle.std.proofs.lemmas.Option.{slice_get-get_or}
use Rattle.circuit_theory.specs.Circuit.{Circuit, IsSingleDriven}
use Rattle.circuit_theory.specs.Tree.{Tree, Unfolds, IsInputNumber}
use Rattle.circuit_theory.specs.Query.{Variable, ShiftBefore, AreVariables}
use Rattle.circuit_laws.proofs.LeafVisits.{VisitsInput, variables_are_visits}
use Rattle.circuit_theory.proofs.Lists.{Contains-head, Contains-tail, Contains-map, Contains-map_from, All-from_each, at_of, zip_push}
use Rattle.circuit_theory.proofs.Numbers.{one_number, one_place}
use Rattle.circuit_theory.proofs.Sums.{AllPairs-head, AllPairs-tail}
use Rattle.flat_net.specs.Table.{AreDistinct}
use Rattle.flat_net.proofs.TableLemmas.{slice_get-take}
use Rattle.cbf_unfold.specs.unfold_places.Places.{PlaceBefore}
use Rattle.cbf_unfold.specs.unfold_places.Reach.{AreInputsOf, AreInputsAt}
use Rattle.aig.proofs.Lists.{pairs_at, pairs_map}
use Rattle.cbf_unfold.proofs.unfold_places.Order.{differ_permuted}
use Rattle.cbf_unfold.proofs.unfold_places.Over.{pairs_differ}

pub place_apart : (p q : ℕ × ℕ) → PlaceBefore p q → p ≡ q → ⊥
place_apart p q (inl below) e = omega (arith, ap (λ r. r.0) e, below)
place_apart p q (inr k) e = omega (arith, ap (λ r. r.1) e, k.1)

-- one element more behind the others
pub pairs_push : {X : Type 0} (R : X → X → Type 0) (xs : List X) (x : X) → AllPairs R xs → ((y : X) → Contains xs y → R y x) → AllPairs R (xs ++ x ∷ [])
pairs_push R [] x h before = λ i j d l m. absurd (omega arith)
pairs_push R (y ∷ ys) x h before =
    AllPairs-cons R y (ys ++ x ∷ []) (All-push (R y) ys x (All-from_each (R y) ys (λ z k. AllPairs-head R y ys h z k)) (before y (Contains-head y ys)))
    (pairs_push R ys x (AllPairs-tail R y ys h) (λ z k. before z (Contains-tail y z ys k)))

-- a pair of lists with one element more each
pub zip_more : {X Y : Type 0} (R : X → Y → Type 0) (xs : List X) (ys : List Y) (i : ℕ) (d : Y) (x : X) → i < length ys → AllZip R xs (take i ys) → R x (get_or ys i d) → AllZip R (xs ++ x ∷ []) (take (i + 1) ys)
zip_more R xs ys i d x inside zip here = subst (AllZip R (xs ++ x ∷ [])) (sym (take_more ys i d inside)) (zip_push R xs (take i ys) x (get_or ys i d) zip here)

module _ (c : Circuit ℕ) (order : List ℕ) (places : List (ℕ × ℕ)) where
  more : (i : ℕ) (d : ℕ × ℕ) → i < length places → take i places ++ get_or places i d ∷ [] ≡ take (i + 1) places
  more i d inside = sym (take_more places i d inside)

  -- no place has been looked at
  pub inputs_none : (found : List (ℕ × ℕ)) → found ≡ [] → AreInputsOf c order (take 0 places) found
  inputs_none found none = subst (AreInputsOf c order (take 0 places)) (sym none) (record {
    from = λ x h. absurd (omega (arith, h.1));
    all = λ p number h is. absurd (omega (arith, h.1));
    differ = λ i j d below within. absurd (omega (arith, within));
  })

  module _ (i : ℕ) (d : ℕ × ℕ) (found : List (ℕ × ℕ)) (inside : i < length places) (are : AreInputsOf c order (take i places) found) where
    -- one place more that no input drives
    pub inputs_skip : ((number : ℕ) → IsInputNumber c order (get_or places i d).1 number → ⊥) → AreInputsOf c order (take (i + 1) places) found
    inputs_skip none = subst (λ ps. AreInputsOf c order ps found) (more i d inside) (record {
      from = λ x h. let f = are.from x h in (f.0, Contains-append_left (take i places) (get_or places i d ∷ []) (x.0, f.0) f.1, f.2);
      all = λ p number h is. pick p number is (Contains-push_cases (take i places) (get_or places i d) p h);
      differ = are.differ;
    })
      where
        pick : (p : ℕ × ℕ) (number : ℕ) → IsInputNumber c order p.1 number → Contains (take i places) p ⊎ (get_or places i d ≡ p) → Contains found (p.0, number)
        pick p number is (inl h) = are.all p number h is
        pick p number is (inr e) = absurd (none number (subst (λ (q : ℕ × ℕ). IsInputNumber c order q.1 number) (sym e) is))

    -- one place more that an input drives
    pub inputs_push : AllPairs (λ p q. p ≢ q) places → AreDistinct order → AllPairs (λ k m. k.place ≢ m.place) c.inputs → (number : ℕ) → IsInputNumber c order (get_or places i d).1 number →
        AreInputsOf c order (take (i + 1) places) (found ++ ((get_or places i d).0, number) ∷ [])
    inputs_push apart_all distinct inputs_differ number is = subst (λ ps. AreInputsOf c order ps (found ++ ((get_or places i d).0, number) ∷ [])) (more i d inside) (record {
      from = λ x h. back x (Contains-push_cases found ((get_or places i d).0, number) x h);
      all = λ p n h k. on p n k (Contains-push_cases (take i places) (get_or places i d) p h);
      differ = pairs_push (λ x y. x ≢ y) found ((get_or places i d).0, number) are.differ (λ y h e. apart y h e);
    })
      where
        there : slice_get places i ≡ Some (get_or places i d)
        there = slice_get-get_or places i d inside

        Back : ℕ × ℕ → Type 0
        Back x = (p : ℕ) × Contains (take i places ++ get_or places i d ∷ []) (x.0, p) × IsInputNumber c order p x.1

        back : (x : ℕ × ℕ) → Contains found x ⊎ (((get_or places i d).0, number) ≡ x) → Back x
        back x (inl h) = let f = are.from x h in (f.0, Contains-append_left (take i places) (get_or places i d ∷ []) (x.0, f.0) f.1, f.2)
        back x (inr e) = subst Back e ((get_or places i d).1, Contains-push (take i places) (get_or places i d), is)

        on : (p : ℕ × ℕ) (n : ℕ) → IsInputNumber c order p.1 n → Contains (take i places) p ⊎ (get_or places i d ≡ p) → Contains (found ++ ((get_or places i d).0, number) ∷ []) (p.0, n)
        on p n k (inl h) = Contains-append_left found (((get_or places i d).0, number) ∷ []) (p.0, n) (are.all p n h k)
        on p n k (inr e) =
            let same : number ≡ n = one_number c.inputs order inputs_differ (get_or places i d).1 number n is (subst (λ (q : ℕ × ℕ). IsInputNumber c order q.1 n) (sym e) k) in
            subst (Contains (found ++ ((get_or places i d).0, number) ∷ [])) (λ j. ((e j).0, same j)) (Contains-push found ((get_or places i d).0, number))

        apart : (y : ℕ × ℕ) → Contains found y → y ≡ ((get_or places i d).0, number) → ⊥
        apart y h e =
            let f = are.from y h in
            let at = at_of (take i places) (y.0, f.0) f.1 in
            let before = slice_get-take i places at.0 (y.0, f.0) at.1 in
            let cycle : y.0 ≡ (get_or places i d).0 = ap (λ r. r.0) e in
            let one : f.0 ≡ (get_or places i d).1 = one_place c.inputs order (pairs_differ order distinct) f.0 (get_or places i d).1 number (subst (IsInputNumber c order f.0) (ap (λ r. r.1) e) f.2) is in
            pairs_at (λ (p q : ℕ × ℕ). p ≢ q) places at.0 i (y.0, f.0) (get_or places i d) apart_all before.0 before.1 there (λ j. (cycle j, one j))

  -- the same inputs in another order
  pub inputs_permuted : (found sorted : List (ℕ × ℕ)) → IsPermutation found sorted → AreInputsOf c order places found → AreInputsOf c order places sorted
  inputs_permuted found sorted moved are = record {
    from = λ x h. are.from x (Contains-permutation sorted found x (IsPermutation-sym found sorted moved) h);
    all = λ p number h is. Contains-permutation found sorted (p.0, number) moved (are.all p number h is);
    differ = differ_permuted found sorted moved are.differ;
  }

-- an input at a cycle as a variable
abbrev pub variable_of : ℕ → ℕ × ℕ → Variable ℕ
variable_of last x = record { input = x.1; at = last - x.0 }

-- the inputs that are visited are the variables of the tree
pub inputs_are_variables : (c : Circuit ℕ) (order : List ℕ) (s last : ℕ) (found : List (ℕ × ℕ)) → IsSingleDriven c → AllPairs (λ k m. k.place ≢ m.place) c.inputs → AreInputsAt c order s last found → AllPairs PlaceBefore found →
    (depth : ℕ) (tree : Tree ℕ) → Unfolds c order s 0 depth tree → AreVariables ShiftBefore (tree ∷ []) (map (variable_of last) found)
inputs_are_variables c order s last found single differ are ordered depth tree unfolds =
    variables_are_visits c order s 0 single (λ p i j l r. one_number c.inputs order differ p i j l r) depth tree unfolds ShiftBefore (map (variable_of last) found)
    (pairs_map (variable_of last) PlaceBefore ShiftBefore found (λ x y hx hy before. shifts x y (are.from x hx).2 (are.from y hy).2 before) ordered)
    (λ v. (λ h. to v h, λ h. from v h))
  where
    shifts : (x y : ℕ × ℕ) → x.0 ≤ last → y.0 ≤ last → PlaceBefore x y → ShiftBefore (variable_of last x) (variable_of last y)
    shifts x y hx hy (inl below) = inl (omega arith)
    shifts x y hx hy (inr k) = inr (ap (λ t. last - t) k.0, k.1)

    to : (v : Variable ℕ) → Contains (map (variable_of last) found) v → VisitsInput c order s 0 v
    to v h =
        let x = Contains-map_from (variable_of last) found v h in
        let f = are.from x.0 x.1 in
        subst (VisitsInput c order s 0) x.2 (f.0, f.1, f.3)

    from : (v : Variable ℕ) → VisitsInput c order s 0 v → Contains (map (variable_of last) found) v
    from v h =
        let all = are.all h.0 v.input v.at h.2 h.1 in
        let there = Contains-map (variable_of last) found (last - v.at, v.input) all.1 in
        let shift : last - (last - v.at) ≡ v.at = omega (arith, all.0) in
        subst (λ (k : ℕ). Contains (map (variable_of last) found) (record { input = v.input; at = k })) shift there
