-- A place of two event circuits unfolds to one tree.
use Rattle.std.proofs.Common.{◌≡◌, ℕ, List, [], length, None}
use Rattle.circuit_theory.specs.Joined.{Either}
use Rattle.circuit_theory.specs.Run.{IsEnabled}
use Rattle.circuit_theory.specs.Tree.{Tree}
use Rattle.circuit_theory.specs.Frame.{EventUnfolds}
use Rattle.circuit_laws.proofs.JoinedParts.{joined_number_once, joined_single}
use Rattle.circuit_laws.proofs.event_laws.EventTrees.{one_event_tree}
use Rattle.flat_net.specs.View.{circuit_of}
use Rattle.flat_net.proofs.Nets.{sound_is_net}
use Rattle.edbf_unfold.specs.class_queries.Enables.{both_of}
use Rattle.edbf_unfold.proofs.class_queries.Meaning.{numbered}
use Rattle.event_nodes.specs.View.{EventCircuitView}
use Rattle.event_setup.specs.event_meaning.event_names.event_fits.Circuits.{IsReadyCircuit}

module _ (a b : EventCircuitView) (left_ready : IsReadyCircuit a) (right_ready : IsReadyCircuit b) where
  pub one_tree : (p : Either ℕ ℕ) (l r : Tree (List ℕ)) → EventUnfolds (both_of a b) (IsEnabled (both_of a b).circuit) None p [] l → EventUnfolds (both_of a b) (IsEnabled (both_of a b).circuit) None p [] r → l ≡ r
  one_tree p l r h k =
      let na = sound_is_net a.net left_ready.sound in
      let nb = sound_is_net b.net right_ready.sound in
      one_event_tree (both_of a b) (IsEnabled (both_of a b).circuit) (joined_single (circuit_of a.net) (circuit_of b.net) (length a.net.drivers) (length b.net.drivers) na nb)
      (λ q i j x y. joined_number_once (circuit_of a.net) (circuit_of b.net) (length a.net.drivers) (length b.net.drivers) na nb a.order b.order (numbered a left_ready.marked) q i j x y) tt h k
