-- What is found over the circuits of cut nets is found over the cut circuits.
use Rattle.std.proofs.Common.{ℕ, Bool, List}
use Rattle.circuit_theory.specs.Circuit.{Circuit}
use Rattle.circuit_theory.specs.Agree.{cut}
use Rattle.flat_net.specs.Cut.{IsCutCircuit}
use Rattle.sec_setup.proofs.CutNets.{same_as_cut}
use Rattle.sec_setup.proofs.SameEquations.{same_tree}
use Rattle.assume_laws.specs.Assume.{Assumption, HaveEqualFunctionsUnder}
use Rattle.assume_laws.specs.Sequences.{IsWitnessUnder}

module _ (c : Assumption) (names : List (List ℕ)) (a b m k : Circuit ℕ) (left_is : IsCutCircuit names a m) (right_is : IsCutCircuit names b k) (left right : List ℕ) where
  -- equal functions
  pub cut_functions_under : (p q : ℕ) → HaveEqualFunctionsUnder c m k left right p q → HaveEqualFunctionsUnder c (cut names a) (cut names b) left right p q
  cut_functions_under p q e = record {
    left_tree = e.left_tree;
    right_tree = e.right_tree;
    left_unfolds = (e.left_unfolds.0, same_tree m (cut names a) (same_as_cut names a m left_is) e.left_unfolds.1);
    right_unfolds = (e.right_unfolds.0, same_tree k (cut names b) (same_as_cut names b k right_is) e.right_unfolds.1);
    same = e.same;
  }

  -- and what stands behind a sequence
  pub cut_witness_under : (p q count : ℕ) (meeting : ℕ → Bool) (rows : List (List Bool)) (last : ℕ) (l r : Bool) → IsWitnessUnder c m k left right p q count meeting rows last l r →
      IsWitnessUnder c (cut names a) (cut names b) left right p q count meeting rows last l r
  cut_witness_under p q count meeting rows last l r w = record {
    left_depth = w.left_depth;
    right_depth = w.right_depth;
    left_tree = w.left_tree;
    right_tree = w.right_tree;
    left_unfolds = same_tree m (cut names a) (same_as_cut names a m left_is) w.left_unfolds;
    right_unfolds = same_tree k (cut names b) (same_as_cut names b k right_is) w.right_unfolds;
    last_is = w.last_is;
    sides = w.sides;
    variables = w.variables;
    bits = w.bits;
    difference = w.difference;
    inputs = w.inputs;
    meeting_is = w.meeting_is;
    rows_are = w.rows_are;
    left_value = w.left_value;
    right_value = w.right_value;
  }
