-- Equal outputs over the blocks agree in every cycle.
use Rattle.std.proofs.Common.{◌≡◌, ◌∙◌, ℕ, List, length, map, sym, subst}
use Rattle.circuit_theory.specs.Circuit.{Named}
use Rattle.circuit_theory.specs.Interface.{AreNumbersOf}
use Rattle.circuit_theory.proofs.Lists.{length-map, map-map}
use Rattle.circuit_theory.proofs.Numbers.{numbers_are}
use Rattle.circuit_laws.proofs.reset_laws.induct_laws.Runs.{equal_over_blocks_agree}
use Rattle.flat_net.specs.View.{NetView, named, circuit_of, ports_of}
use Rattle.block_refine.specs.latch_blocks.Partitions.{block_of}
use Rattle.block_refine.specs.Laws.{OutputsAgree}

names_are : (n : NetView) → (ports_of n).inputs ≡ map (λ (i : Named ℕ). i.name) (circuit_of n).inputs
names_are n = sym (map-map (λ (i : Named ℕ). i.name) named n.inputs)

pub outputs_agree : OutputsAgree
outputs_agree a b shared orders blocks left right is each =
    let left_numbers : AreNumbersOf (map (λ (i : Named ℕ). i.name) (circuit_of a).inputs) shared orders.left orders.right = subst (λ (names : List (List ℕ)). AreNumbersOf names shared orders.left orders.right) (names_are a) left in
    let right_numbers : AreNumbersOf (map (λ (i : Named ℕ). i.name) (circuit_of b).inputs) shared orders.right orders.left = subst (λ (names : List (List ℕ)). AreNumbersOf names shared orders.right orders.left) (names_are b) right in
    let long : length orders.left ≡ length (circuit_of a).inputs = left_numbers.each ∙ length-map (λ (i : Named ℕ). i.name) (circuit_of a).inputs in
    equal_over_blocks_agree (circuit_of a) (circuit_of b) orders.left orders.right (block_of a b blocks) (numbers_are (circuit_of a) (circuit_of b) shared orders.left orders.right left_numbers right_numbers) long is.coarsest.inductive
    (λ p q pair x meets constant. each p q pair x (meets, constant))
