-- The variables of an output's tree in a cycle: inputs with columns, or latches.
use Rattle.std.proofs.Common.{ℕ, suc, ◌<◌, ◌≤◌, List, length, arith, inl, inr, ◌⊎◌}
use Rattle.std.specs.List.{Contains}
use Rattle.circuit_theory.specs.Circuit.{Circuit}
use Rattle.circuit_theory.specs.Tree.{Tree}
use Rattle.circuit_theory.specs.Query.{Variable, HasLeaf}
use Rattle.circuit_theory.specs.Sizes.{Visits}
use Rattle.flat_net.specs.View.{NetView, circuit_of}
use Rattle.circuit_laws.specs.reset_laws.Reset.{ResetUnfolds}
use Rattle.circuit_laws.specs.reset_laws.Weight.{ResetVisits}
use Rattle.reset_form.specs.reset_unfold.Places.{IsLeafAt}
use Rattle.reset_form.proofs.reset_unfold.TreeLeaves.{leaf_visits}
use Rattle.sec_setup.specs.ports.Pairs.{outputs_of}
use Rattle.sec_setup.specs.Setup.{AreColumns}
use Rattle.sec_setup.proofs.ReadInputs.{visited_is_column}

-- what is visited in some cycle is visited at some shift
at_some_shift : (c : Circuit ℕ) (s t : ℕ) {q j : ℕ} → ResetVisits c s t q j → (k : ℕ) × Visits c s 0 q k
at_some_shift c s t ResetVisits.itself = (0, Visits.itself)
at_some_shift c s t (ResetVisits.reads visits reads) = let above = at_some_shift c s t visits in (above.0, Visits.reads above.1 reads)
at_some_shift c s t (ResetVisits.back visits latch) = let above = at_some_shift c s t visits in (suc above.0, Visits.back above.1 latch)

module _ (n : NetView) (columns : List (List ℕ)) (order others : List ℕ) (are : AreColumns n columns order others) (base : ℕ) where
  pub leaf_is : (s t : ℕ) (tree : Tree ℕ) → Contains (outputs_of n) s → ResetUnfolds (circuit_of n) order base s t tree → (y : Variable ℕ) → HasLeaf y tree → (y.input < length columns) ⊎ (base ≤ y.input)
  leaf_is s t tree shown unfolds y is_leaf = go (leaf_visits (circuit_of n) order base s t y unfolds ResetVisits.itself is_leaf)
    where
      go : (p : ℕ) × IsLeafAt (circuit_of n) order base (y.at, p) y.input × ResetVisits (circuit_of n) s t p y.at → (y.input < length columns) ⊎ (base ≤ y.input)
      go (p, inl number, visits) = let k = at_some_shift (circuit_of n) s t visits in inl (visited_is_column n columns order others are s k.0 p y.input shown k.1 number)
      go (p, inr free, visits) = inr (omega (arith, free.4))
