-- An unfolded signal's function is a tree's, and each variable in the cone of its literal is one of its variables.
use Rattle.std.proofs.Common.{◌≡◌, ◌≢◌, ℕ, List, [], ◌∷◌, slice_get, Some}
use Rattle.std.specs.List.{AllPairs, Contains}
use Rattle.circuit_theory.specs.Query.{ShiftBefore}
use Rattle.base_tables.specs.Table.{AreDistinct}
use Rattle.flat_net.specs.View.{NetView}
use Rattle.aig.specs.declared.node.Node.{Node}
use Rattle.aig.specs.declared.node.Node.TheVariants.{Input}
use Rattle.aig.specs.Graph.{IsGraph}
use Rattle.aig.specs.Cone.{IsReached}
use Rattle.cbf_unfold.specs.Unfolded.{IsUnfolded}
use Rattle.cbf_unfold.proofs.unfold_places.Cone.{numbers_differ}
use Rattle.cbf_unfold.proofs.shift_variables.TwoFunctions.{IsTreeFunction, function_covers}

abbrev pub unfolded_function : {n : NetView} {order : List ℕ} {g : List Node} {places : List (ℕ × ℕ)} {s x : ℕ} {vars : List ℕ} → IsUnfolded n order g places s x vars → IsTreeFunction ShiftBefore g places x vars
unfolded_function u = record { tree = u.tree; builds = u.builds; within = u.within; variables = u.variables; are_variables = u.are_variables; numbered = u.numbered }

pub covers_cone : (n : NetView) (order : List ℕ) (g : List Node) (places : List (ℕ × ℕ)) (s x : ℕ) (vars : List ℕ) → IsGraph g → AreDistinct places → IsUnfolded n order g places s x vars →
    AllPairs (λ u v. u ≢ v) vars × ((k v : ℕ) → IsReached g (x ∷ []) k → slice_get g k ≡ Some (Input v) → Contains vars v)
covers_cone n order g places s x vars graph distinct u = (numbers_differ places vars u.variables u.numbered u.are_variables.in_order, function_covers (unfolded_function u) graph distinct)
