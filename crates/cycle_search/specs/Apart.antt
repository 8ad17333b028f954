-- The functions of the pairs' signals in a cycle, pair by pair.
use Rattle.std.specs.Prelude.{◌≡◌, ℕ, List, length, slice_get, Some}
use Rattle.aig.specs.declared.node.Node.{Node}
use Rattle.cbf_unfold.specs.declared.unfold_places.signal_function.Unfolded.{Unfolded}
use Rattle.sec_setup.specs.declared.ports.pairs.SignalPair.{SignalPair}
use Rattle.reset_form.specs.reset_unfold.View.{ResetView}
use Rattle.cycle_search.specs.Outputs.{IsApart}
use Rattle.cycle_search.specs.declared.apart.CycleFunctions.{CycleFunctions}

-- both functions of a pair; where they have one literal, no variables need be listed
pub record AreTwo (u v : ResetView) (g : List Node) (places : List (ℕ × ℕ)) (cycle : ℕ) (x : SignalPair) (l r : Unfolded) : Type 0 where
  pub left : IsApart u.net u.order u.base g places x.left.0 cycle r.lit.0 l
  pub right : IsApart v.net v.order v.base g places x.right.0 cycle l.lit.0 r

-- the same of each pair, in order
pub record AreApart (u v : ResetView) (g : List Node) (places : List (ℕ × ℕ)) (cycle : ℕ) (pairs : List SignalPair) (f : CycleFunctions) : Type 0 where
  pub left_each : length f.left.items ≡ length pairs
  pub right_each : length f.right.items ≡ length pairs
  pub are : (i : ℕ) (x : SignalPair) (l r : Unfolded) → slice_get pairs i ≡ Some x → slice_get f.left.items i ≡ Some l → slice_get f.right.items i ≡ Some r → AreTwo u v g places cycle x l r
