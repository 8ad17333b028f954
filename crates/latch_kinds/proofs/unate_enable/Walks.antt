-- Signals that are reached, sorted.
use Rattle.std.proofs.Common.{◌≡◌, ◌<◌, ◌==◌, ℕ, List, length, Contains, subst}
use Rattle.std.specs.List.{IsDistinct}
use Rattle.std.specs.List.Sorted.{IsPermutation, IsSorted}
use Rattle.std.specs.Ordering.{nat_cmp}
use Rattle.std.proofs.lemmas.List.Sorted.{Contains-permutation, IsPermutation-sym, IsNonDecreasingBy-from_sort}
use Rattle.std.proofs.lemmas.Map.Keys.{IsStrictlyIncreasing-from_distinct, IsDistinct-IsPermutation}
use Rattle.circuit_theory.specs.Circuit.{Circuit, Reads, Reaches}
use Rattle.circuit_theory.proofs.Lists.{All-from_each, at_of}
use Rattle.flat_net.specs.View.{NetView, circuit_of}
use Rattle.signal_graph.specs.inner_cone.latch_cone.Cones.{AreReached as AreAllReached}
use Rattle.signal_graph.proofs.inner_cone.Inner.{eqb-swap, some_distinct}
use Rattle.latch_kinds.specs.unate_enable.Walks.{AreReached}

-- what is reached goes on to what that reads
pub reaches_on : (c : Circuit ℕ) (p s q : ℕ) → Reaches c p s → Reads c s q → Reaches c p q
reaches_on c p s q Reaches.here r = Reaches.there r Reaches.here
reaches_on c p s q (Reaches.there {q = m} first rest) r = Reaches.there first (reaches_on c m s q rest r)

-- all that is reached, each once, sorted
pub reached_sorted : (n : NetView) (from : ℕ) (seen items sorted : List ℕ) → AreAllReached n from seen → items ≡ seen → IsPermutation items sorted → IsSorted nat_cmp sorted →
    AreReached (circuit_of n) (length n.drivers) from sorted
reached_sorted n from seen items sorted all is same order =
    let moved : IsPermutation seen sorted = subst (λ (xs : List ℕ). IsPermutation xs sorted) is same in
    let apart : IsDistinct (λ x y. x == y) sorted = IsDistinct-IsPermutation (λ x y. x == y) eqb-swap seen sorted moved (some_distinct n from seen all.some) in
    record {
      increasing = IsStrictlyIncreasing-from_distinct sorted (IsNonDecreasingBy-from_sort (λ x. x) sorted order) apart;
      within = All-from_each (λ s. s < length n.drivers) sorted (λ s h. within s (back s moved h));
      exactly = λ s. (λ h. reached s (back s moved h), λ r. Contains-permutation seen sorted s moved (all.all s r));
    }
  where
    back : (s : ℕ) → IsPermutation seen sorted → Contains sorted s → Contains seen s
    back s moved h = Contains-permutation sorted seen s (IsPermutation-sym seen sorted moved) h

    within : (s : ℕ) → Contains seen s → s < length n.drivers
    within s h = let at = at_of seen s h in all.some.within at.0 s at.1

    reached : (s : ℕ) → Contains seen s → Reaches (circuit_of n) from s
    reached s h = let at = at_of seen s h in all.some.each at.0 s at.1
