-- The query of a latch.
use Rattle.std.proofs.Common.{◌≡◌, ◌∙◌, ◌*◌, ◌<◌, ◌≤◌, ℕ, false, true, List, length, get_or, slice_get, Some, refl, sym, arith}
use Rattle.std.specs.Prelude.{◌≢◌}
use Rattle.std.specs.List.{AllPairs}
use Rattle.std.proofs.lemmas.Option.{get_or_from_slice_get}
use Rattle.circuit_theory.proofs.Lists.{of_at}
use Rattle.aig.specs.declared.node.Lit.{Lit}
use Rattle.aig.specs.declared.node.Node.{Node}
use Rattle.aig.specs.declared.node.Node.TheVariants.{Input}
use Rattle.aig.specs.Graph.{Grows, vars_of}
use Rattle.aig.proofs.Insert.{vars_of-member}
use Rattle.aig.proofs.Growth.{Grows-length}
use Rattle.aig.proofs.Meaning.{value-grows}
use Rattle.flat_net.specs.View.{NetView, circuit_of}
use Rattle.latch_kinds.specs.unate_enable.Cones.{out_of_latch, data_of_latch}
use Rattle.latch_kinds.specs.unate_enable.Recovery.{IsQueryOf}
use Rattle.latch_kinds.specs.unate_enable.Building.{HasTree, HasValue}
use Rattle.latch_kinds.proofs.unate_enable.Literals.{tree_grows}

apart : (vars : List ℕ) (n : ℕ) → length vars ≡ n → ((k : ℕ) → k < n → slice_get vars k ≡ Some k) → AllPairs (λ u v. u ≢ v) vars
apart vars n count each i j d below inside same =
    let first : get_or vars i d ≡ i = get_or_from_slice_get vars i i d (each i (omega (arith, count))) in
    let second : get_or vars j d ≡ j = get_or_from_slice_get vars j j d (each j (omega (arith, count))) in
    omega (arith, first, second, same)

-- both sides on one graph: the first was made on the smaller one
pub query_from : (n : NetView) (j : ℕ) (places : List ℕ) (g h : List Node) (low high : Lit) (vars : List ℕ) → Grows g h → vars_of h ≤ length places → low.0 < 2 * length g → high.0 < 2 * length h →
    HasTree (circuit_of n) (out_of_latch n j) false places g (data_of_latch n j) low.0 → HasTree (circuit_of n) (out_of_latch n j) true places h (data_of_latch n j) high.0 →
    HasValue (circuit_of n) (out_of_latch n j) false places g (data_of_latch n j) low.0 → HasValue (circuit_of n) (out_of_latch n j) true places h (data_of_latch n j) high.0 →
    length vars ≡ length places → ((k : ℕ) → k < length places → slice_get vars k ≡ Some k) → IsQueryOf n j places h (record { left = low; right = high; care = low; vars = vars })
query_from n j places g h low high vars grows few low_within high_within low_tree high_tree low_is high_is each are = record {
  query = record {
    left = small;
    right = high_within;
    care = small;
    distinct = apart vars (length places) each are;
    covers = λ m v reach at. of_at vars v v (are v (omega (arith, few, vars_of-member h m (Input v) at)));
  };
  low = record { within = small; tree = tree_grows (circuit_of n) (out_of_latch n j) false places g h grows (data_of_latch n j) low.0 low_tree; is = λ a v case. low_is a v case ∙ sym (value-grows g h grows a low.0 low_within) };
  high = record { within = high_within; tree = high_tree; is = high_is };
  care = refl;
  each = each;
  variables = are;
}
  where
    small : low.0 < 2 * length h
    small = omega (arith, low_within, Grows-length g h grows)
