-- Outputs that are all equal over the coarsest inductive partition.
use Rattle.std.proofs.Common.{◌≡◌, ◌∙◌, ℕ, List, [], Some, slice_get, sym, ap, subst, arith}
use Rattle.std.specs.List.{All, AllZip, Contains}
use Rattle.circuit_theory.specs.Circuit.{Named}
use Rattle.circuit_theory.specs.Joined.{Left, Right}
use Rattle.circuit_theory.specs.Agree.{IsPair, place_named}
use Rattle.circuit_theory.proofs.Lists.{Contains-map_from, at_of, zip_right}
use Rattle.circuit_theory.proofs.Numbers.{slice_get-map}
use Rattle.flat_net.specs.declared.parts.Port.{Port}
use Rattle.flat_net.specs.Comparable.{IsComparable}
use Rattle.flat_net.specs.View.{NetView, named, circuit_of}
use Rattle.flat_net.proofs.Places.{All-at}
use Rattle.sec_setup.proofs.ports.Paired.{names_of, place_named-at}
use Rattle.sec_setup.proofs.ports.Shared.{some_is}
use Rattle.block_refine.specs.declared.block_graph.nets.BlockNets.{BlockNets}
use Rattle.block_refine.specs.declared.block_graph.graph.BlockGraph.{BlockGraph}
use Rattle.block_refine.specs.block_graph.Comparing.{AgreeOver}
use Rattle.block_refine.proofs.Agreeing.{outputs_agree}
use Rattle.induct.specs.declared.block_outputs.answer.OutputAnswer.{OutputAnswer}
use Rattle.induct.specs.declared.block_outputs.answer.OutputAnswer.TheVariants as answer
use Rattle.induct.specs.declared.block_outputs.outputs.OutputPair.{OutputPair}
use Rattle.induct.specs.block_outputs.Answers.{IsAnswer, IsOutputAnswer}
use Rattle.induct.specs.block_outputs.Laws.{EqualOutputsAgree}

-- the output of B that a pair names
named_place : (b : NetView) (name : List ℕ) (q : ℕ) → IsComparable b → Contains (circuit_of b).outputs (record { name = name; place = q }) → place_named (circuit_of b).outputs name ≡ Some q
named_place b name q right there =
    let found = Contains-map_from named b.outputs (record { name = name; place = q }) there in
    let at = at_of b.outputs found.0 found.1 in
    let own : slice_get (names_of b.outputs) at.0 ≡ Some name = slice_get-map (λ (p : Port). p.name) b.outputs at.0 found.0 at.1 ∙ ap (λ (m : Named ℕ). Some m.name) found.2 in
    place_named-at b.outputs name at.0 found.0 right.distinct own at.1 ∙ ap (λ (m : Named ℕ). Some m.place) found.2

module _ (n : BlockNets) (g : BlockGraph) (conflicts : ℕ) (pairs : List OutputPair) (right : IsComparable n.right.now) (each : AllZip (IsOutputAnswer n g conflicts) n.left.now.outputs pairs) (equal : All (λ pair. pair.answer ≡ answer.Equal) pairs) where
  agree_named : (name : List ℕ) (p q : ℕ) → Contains (circuit_of n.left.now).outputs (record { name = name; place = p }) → Contains (circuit_of n.right.now).outputs (record { name = name; place = q }) → AgreeOver n (Left p) (Right q)
  agree_named name p q own other =
      let found = Contains-map_from named n.left.now.outputs (record { name = name; place = p }) own in
      let at = at_of n.left.now.outputs found.0 found.1 in
      let pair = zip_right (IsOutputAnswer n g conflicts) n.left.now.outputs pairs each at.0 found.0 at.1 in
      let is = pair.2 in
      let agreed : AgreeOver n (Left found.0.signal.0) (Right is.other) =
      subst (λ (a : OutputAnswer). IsAnswer n g conflicts (Left found.0.signal.0) (Right is.other) a) (All-at (λ (r : OutputPair). r.answer ≡ answer.Equal) pairs at.0 pair.0 pair.1 equal) is.answer_is in
      let name_same : found.0.name ≡ name = ap (λ (m : Named ℕ). m.name) found.2 in
      let left_same : found.0.signal.0 ≡ p = ap (λ (m : Named ℕ). m.place) found.2 in
      let right_same : is.other ≡ q = some_is (sym is.other_is ∙ (ap (place_named (circuit_of n.right.now).outputs) name_same ∙ named_place n.right.now name q right other)) in
      subst (λ z. AgreeOver n (Left p) (Right z)) right_same (subst (λ y. AgreeOver n (Left y) (Right is.other)) left_same agreed)

  pub pair_agrees : (p q : ℕ) → IsPair [] (circuit_of n.left.now) (circuit_of n.right.now) p q → AgreeOver n (Left p) (Right q)
  pair_agrees p q (IsPair.outputs {name} own other) = agree_named name p q own other
  pair_agrees p q (IsPair.nexts listed first second) = absurd (omega (arith, listed.1))

pub equal_outputs_agree : EqualOutputsAgree
equal_outputs_agree n g shared conflicts pairs right left_numbers right_numbers coarsest each equal =
    outputs_agree n.left.now n.right.now shared n.orders.now n.blocks.now left_numbers right_numbers coarsest (λ p q pair. pair_agrees n g conflicts pairs right each equal p q pair)
