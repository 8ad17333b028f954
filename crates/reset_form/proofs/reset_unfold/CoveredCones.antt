-- An unfolded signal's function is a tree's, and each variable in the cone of its literal is one of its leaves.
use Rattle.std.proofs.Common.{◌≡◌, ◌≢◌, ℕ, List, [], ◌∷◌, slice_get, Some}
use Rattle.std.specs.List.{AllPairs, Contains}
use Rattle.circuit_laws.specs.reset_laws.Reset.{CycleBefore}
use Rattle.base_tables.specs.Table.{AreDistinct}
use Rattle.flat_net.specs.View.{NetView}
use Rattle.aig.specs.declared.node.Node.{Node}
use Rattle.aig.specs.declared.node.Node.TheVariants.{Input}
use Rattle.aig.specs.Graph.{IsGraph}
use Rattle.aig.specs.Cone.{IsReached}
use Rattle.cbf_unfold.proofs.unfold_places.Cone.{numbers_apart}
use Rattle.cbf_unfold.proofs.shift_variables.TwoFunctions.{IsTreeFunction, function_covers}
use Rattle.cbf_unfold.proofs.shift_variables.cycle_variables.CycleOrder.{cycle_apart}
use Rattle.reset_form.specs.reset_unfold.Unfolded.{IsResetUnfolded}

abbrev pub reset_function : {n : NetView} {order : List ℕ} {base : ℕ} {g : List Node} {places : List (ℕ × ℕ)} {s cycle x : ℕ} {vars : List ℕ} → IsResetUnfolded n order base g places s cycle x vars → IsTreeFunction CycleBefore g places x vars
reset_function u = record { tree = u.tree; builds = u.builds; within = u.within; variables = u.variables; are_variables = u.are_variables; numbered = u.numbered }

pub covers_cone : (n : NetView) (order : List ℕ) (base : ℕ) (g : List Node) (places : List (ℕ × ℕ)) (s cycle x : ℕ) (vars : List ℕ) → IsGraph g → AreDistinct places → IsResetUnfolded n order base g places s cycle x vars →
    AllPairs (λ u v. u ≢ v) vars × ((k v : ℕ) → IsReached g (x ∷ []) k → slice_get g k ≡ Some (Input v) → Contains vars v)
covers_cone n order base g places s cycle x vars graph distinct u = (numbers_apart CycleBefore cycle_apart places vars u.variables u.numbered u.are_variables.in_order, function_covers (reset_function u) graph distinct)
