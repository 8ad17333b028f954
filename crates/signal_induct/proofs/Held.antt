-- Ties that an inductive invariant gives hold in every cycle.
use Rattle.std.proofs.Common.{◌≡◌, ◌∙◌, ℕ, Bool, List, length, map, sym, subst}
use Rattle.circuit_theory.specs.Circuit.{Named}
use Rattle.circuit_theory.specs.Joined.{Either, beside}
use Rattle.circuit_theory.specs.Interface.{AreNumbersOf, AreOrders, shared_inputs}
use Rattle.circuit_theory.proofs.Lists.{length-map, map-map}
use Rattle.circuit_theory.proofs.Numbers.{numbers_are}
use Rattle.flat_net.specs.View.{NetView, named, circuit_of, ports_of}
use Rattle.circuit_laws.specs.declared.signal_laws.anchor.Anchor.{Anchor}
use Rattle.circuit_laws.specs.signal_laws.Ties.{side_at}
use Rattle.signal_induct.specs.Tied.{AreHeld}
use Rattle.signal_induct.proofs.Holding.{holds_where}
use Rattle.signal_refine.specs.declared.nets.SignalNets.{SignalNets}
use Rattle.signal_refine.specs.Showing.{AreTiedNodes, AreInductiveTies}

names_are : (n : NetView) → (ports_of n).inputs ≡ map (λ (i : Named ℕ). i.name) (circuit_of n).inputs
names_are n = sym (map-map (λ (i : Named ℕ). i.name) named n.inputs)

module _ (met : (Either ℕ ℕ → Bool) → Type 0) (nets : SignalNets) (anchors : List Anchor) (is : AreInductiveTies met nets anchors) (own : AreOrders (ports_of nets.left.now) (ports_of nets.right.now) nets.orders.now.left nets.orders.now.right) where
  abbrev a : NetView
  a = nets.left.now

  abbrev b : NetView
  b = nets.right.now

  abbrev left : List ℕ
  left = nets.orders.now.left

  abbrev right : List ℕ
  right = nets.orders.now.right

  abbrev shared : List (List ℕ)
  shared = shared_inputs (ports_of a) (ports_of b)

  left_numbers : AreNumbersOf (map (λ (i : Named ℕ). i.name) (circuit_of a).inputs) shared left right
  left_numbers = subst (λ (names : List (List ℕ)). AreNumbersOf names shared left right) (names_are a) own.left_is

  right_numbers : AreNumbersOf (map (λ (i : Named ℕ). i.name) (circuit_of b).inputs) shared right left
  right_numbers = subst (λ (names : List (List ℕ)). AreNumbersOf names shared right left) (names_are b) own.right_is

  pub ties_held : AreHeld met (circuit_of a) (circuit_of b) (length a.drivers) anchors
  ties_held n l r alike meets t h p k at =
      let good = holds_where (circuit_of a) (circuit_of b) left right (numbers_are (circuit_of a) (circuit_of b) shared left right left_numbers right_numbers) (left_numbers.each ∙ length-map (λ (i : Named ℕ). i.name) (circuit_of a).inputs)
      n l r alike met (AreTiedNodes nets is.first is.base is.nodes) is.inductive meets t h in
      is.told p k at is.base good.0 (λ q. beside (l t) (r t) (side_at (length a.drivers) q)) good.2 (is.are_lits.2 good.0 (beside (l t) (r t)) good.1)
