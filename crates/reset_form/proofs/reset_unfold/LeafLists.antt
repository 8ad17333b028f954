-- The leaves among some places, and that they are the variables of the tree.
use Rattle.std.proofs.Common.{◌≡◌, ◌≢◌, ◌+◌, ◌<◌, ℕ, suc, List, [], ◌∷◌, ◌++◌, length, take, get_or, slice_get, Some, refl, sym, ap, subst, arith, inl, inr}
use Rattle.std.specs.Prelude.{◌⊎◌, IsPermutation}
use Rattle.std.specs.List.{AllPairs, Contains}
use Rattle.std.proofs.lemmas.List.{take_more}
use Rattle.std.proofs.lemmas.List.Elements.{Contains-append_left, Contains-push, Contains-push_cases}
use Rattle.std.proofs.lemmas.List.Sorted.{IsPermutation-sym, Contains-permutation}
use Rattle.std.proofs.lemmas.Option.{slice_get-get_or}
use Rattle.circuit_theory.specs.Circuit.{Circuit}
use Rattle.circuit_theory.specs.Query.{Variable}
use Rattle.circuit_theory.proofs.Lists.{at_of}
use Rattle.base_tables.proofs.TableLemmas.{slice_get-take}
use Rattle.circuit_laws.specs.reset_laws.Weight.{ResetVisits}
use Rattle.cbf_unfold.specs.unfold_places.Places.{PlaceBefore}
use Rattle.cbf_unfold.specs.unfold_places.Reach.{IsThere}
use Rattle.cbf_unfold.proofs.unfold_places.InputLists.{place_apart, pairs_push}
use Rattle.cbf_unfold.proofs.unfold_places.Lists.{pairs_at}
use Rattle.cbf_unfold.proofs.unfold_places.Order.{differ_permuted}
use Rattle.reset_form.specs.reset_unfold.Places.{IsLeafAt}
use Rattle.reset_form.specs.reset_unfold.Reach.{AreVisited, AreLeavesOf, AreLeavesAt}

module _ (c : Circuit ℕ) (order : List ℕ) (base : ℕ) (places : List (ℕ × ℕ)) where
  more : (i : ℕ) (d : ℕ × ℕ) → i < length places → take i places ++ get_or places i d ∷ [] ≡ take (i + 1) places
  more i d inside = sym (take_more places i d inside)

  -- no place has been looked at
  pub leaves_none : (found : List (ℕ × ℕ)) → found ≡ [] → AreLeavesOf c order base (take 0 places) found
  leaves_none found none = subst (AreLeavesOf c order base (take 0 places)) (sym none) (record {
    from = λ x h. absurd (omega (arith, h.1));
    all = λ p number h is. absurd (omega (arith, h.1));
    differ = λ i j d below within. absurd (omega (arith, within));
  })

  module _ (i : ℕ) (d : ℕ × ℕ) (found : List (ℕ × ℕ)) (inside : i < length places) (are : AreLeavesOf c order base (take i places) found) where
    -- one place more, for which no variable stands
    pub leaves_skip : ((number : ℕ) → IsLeafAt c order base (get_or places i d) number → ⊥) → AreLeavesOf c order base (take (i + 1) places) found
    leaves_skip none = subst (λ ps. AreLeavesOf c order base ps found) (more i d inside) (record {
      from = λ x h. let f = are.from x h in (f.0, Contains-append_left (take i places) (get_or places i d ∷ []) (x.0, f.0) f.1, f.2);
      all = λ p number h is. pick p number is (Contains-push_cases (take i places) (get_or places i d) p h);
      differ = are.differ;
    })
      where
        pick : (p : ℕ × ℕ) (number : ℕ) → IsLeafAt c order base p number → Contains (take i places) p ⊎ (get_or places i d ≡ p) → Contains found (p.0, number)
        pick p number is (inl h) = are.all p number h is
        pick p number is (inr e) = absurd (none number (subst (λ (q : ℕ × ℕ). IsLeafAt c order base q number) (sym e) is))

    -- one place more, for which a variable stands
    pub leaves_push : AllPairs PlaceBefore places → ((p : ℕ × ℕ) (x y : ℕ) → IsLeafAt c order base p x → IsLeafAt c order base p y → x ≡ y) →
        ((p q : ℕ × ℕ) (x : ℕ) → IsLeafAt c order base p x → IsLeafAt c order base q x → p.1 ≡ q.1) → (number : ℕ) → IsLeafAt c order base (get_or places i d) number →
        AreLeavesOf c order base (take (i + 1) places) (found ++ ((get_or places i d).0, number) ∷ [])
    leaves_push ordered one signal number is = subst (λ ps. AreLeavesOf c order base ps (found ++ ((get_or places i d).0, number) ∷ [])) (more i d inside) (record {
      from = λ x h. back x (Contains-push_cases found ((get_or places i d).0, number) x h);
      all = λ p n h k. on p n k (Contains-push_cases (take i places) (get_or places i d) p h);
      differ = pairs_push (λ x y. x ≢ y) found ((get_or places i d).0, number) are.differ (λ y h e. apart y h e);
    })
      where
        there : slice_get places i ≡ Some (get_or places i d)
        there = slice_get-get_or places i d inside

        Back : ℕ × ℕ → Type 0
        Back x = (p : ℕ) × Contains (take i places ++ get_or places i d ∷ []) (x.0, p) × IsLeafAt c order base (x.0, p) x.1

        back : (x : ℕ × ℕ) → Contains found x ⊎ (((get_or places i d).0, number) ≡ x) → Back x
        back x (inl h) = let f = are.from x h in (f.0, Contains-append_left (take i places) (get_or places i d ∷ []) (x.0, f.0) f.1, f.2)
        back x (inr e) = subst Back e ((get_or places i d).1, Contains-push (take i places) (get_or places i d), is)

        on : (p : ℕ × ℕ) (n : ℕ) → IsLeafAt c order base p n → Contains (take i places) p ⊎ (get_or places i d ≡ p) → Contains (found ++ ((get_or places i d).0, number) ∷ []) (p.0, n)
        on p n k (inl h) = Contains-append_left found (((get_or places i d).0, number) ∷ []) (p.0, n) (are.all p n h k)
        on p n k (inr e) =
            let same : number ≡ n = one (get_or places i d) number n is (subst (λ (q : ℕ × ℕ). IsLeafAt c order base q n) (sym e) k) in
            subst (Contains (found ++ ((get_or places i d).0, number) ∷ [])) (λ j. ((e j).0, same j)) (Contains-push found ((get_or places i d).0, number))

        apart : (y : ℕ × ℕ) → Contains found y → y ≡ ((get_or places i d).0, number) → ⊥
        apart y h e =
            let f = are.from y h in
            let at = at_of (take i places) (y.0, f.0) f.1 in
            let before = slice_get-take i places at.0 (y.0, f.0) at.1 in
            let cycle : y.0 ≡ (get_or places i d).0 = ap (λ r. r.0) e in
            let same : f.0 ≡ (get_or places i d).1 = signal (y.0, f.0) (get_or places i d) number (subst (IsLeafAt c order base (y.0, f.0)) (ap (λ r. r.1) e) f.2) is in
            place_apart (y.0, f.0) (get_or places i d) (pairs_at PlaceBefore places at.0 i (y.0, f.0) (get_or places i d) ordered before.0 before.1 there) (λ j. (cycle j, same j))

  -- the same leaves in another order
  pub leaves_permuted : (found sorted : List (ℕ × ℕ)) → IsPermutation found sorted → AreLeavesOf c order base places found → AreLeavesOf c order base places sorted
  leaves_permuted found sorted moved are = record {
    from = λ x h. are.from x (Contains-permutation sorted found x (IsPermutation-sym found sorted moved) h);
    all = λ p number h is. Contains-permutation found sorted (p.0, number) moved (are.all p number h is);
    differ = differ_permuted found sorted moved are.differ;
  }

-- where nothing has been met, each place stands in the list
stands : (places : List (ℕ × ℕ)) (p : ℕ × ℕ) → IsThere [] places p → Contains places p
stands places p (inl h) = h
stands places p (inr m) = absurd (omega (arith, m.1.1))

-- the closed list has all that is visited
pub reach_all : (c : Circuit ℕ) (size : ℕ) (s : ℕ × ℕ) (places : List (ℕ × ℕ)) → AreVisited c size s places → {q j : ℕ} → ResetVisits c s.1 s.0 q j → Contains places (j, q)
reach_all c size s places are ResetVisits.itself = stands places s are.root
reach_all c size s places are (ResetVisits.reads {q = q} {r = r} {j = j} visits reads) = stands places (j, r) (are.closed (j, q) (j, r) (reach_all c size s places are visits) (inl (refl, reads)))
reach_all c size s places are (ResetVisits.back {q = q} {next = next} {j = j} {name = name} visits latch) =
    stands places (j, next) (are.closed (suc j, q) (j, next) (reach_all c size s places are visits) (inr (omega arith, name, latch)))

-- the leaves among all places that are visited
pub leaves_at : (c : Circuit ℕ) (size : ℕ) (order : List ℕ) (base : ℕ) (s : ℕ × ℕ) (places found : List (ℕ × ℕ)) → AreVisited c size s places → AreLeavesOf c order base places found → AreLeavesAt c order base s found
leaves_at c size order base s places found visited are = record {
  from = λ x h. let f = are.from x h in (f.0, f.2, visited.visited (x.0, f.0) f.1);
  all = λ p number j visits leaf. are.all (j, p) number (reach_all c size s places visited visits) leaf;
}

-- a leaf as a variable
abbrev pub variable_of : ℕ × ℕ → Variable ℕ
variable_of x = record { input = x.1; at = x.0 }
