-- The graph of both nets is as it should be.
use Rattle.std.proofs.Common.{◌≡◌, ◌∙◌, ◌+◌, ◌-◌, ◌<◌, ◌≤◌, ◌^◌, ℕ, List, length, map, take, drop, slice_get, Some, sym, ap, subst, arith, length-drop}
use Rattle.std.specs.List.{All}
use Rattle.std.proofs.lemmas.List.{take_all, length-take-le}
use Rattle.std.proofs.lemmas.List.Elements.{All-take, All-drop}
use Rattle.base_tables.proofs.TableLemmas.{slice_get-take}
use Rattle.flat_net.specs.View.{NetView}
use Rattle.flat_net.specs.Sound.{IsSound}
use Rattle.aig.specs.declared.node.Node.{Node}
use Rattle.aig.specs.Graph.{IsGraph, Grows}
use Rattle.block_refine.specs.declared.latch_blocks.variables.Variables.{Variables}
use Rattle.block_refine.specs.latch_blocks.Signals.{AreVariables}
use Rattle.block_refine.proofs.latch_blocks.Growing.{lits_grow}
use Rattle.block_refine.specs.declared.block_graph.nets.BlockNets.{BlockNets}
use Rattle.block_refine.specs.declared.block_graph.graph.NetLits.{NetLits}
use Rattle.block_refine.specs.declared.block_graph.graph.BlockGraph.{BlockGraph}
use Rattle.block_refine.specs.block_graph.Graph.{AreReady, AreOn, AreBelow, IsBlockGraph}
use Rattle.block_refine.proofs.block_graph.Numbered.{blocks_below, blocks_small, light_few, at_drop, side_variables, side_latches, side_below}

-- literals stay those of the net while the graph grows
pub on_grows : (n : NetView) (g h : List Node) → IsGraph g → Grows g h → (on : NetLits) → AreOn n g on → AreOn n h on
on_grows n g h graph grows on are = record { variables = are.variables; each = are.each; lits = lits_grow n on.variables g h graph grows on.lits.items are.lits }

module _ (n : BlockNets) (ready : AreReady n) (sound_a : IsSound n.left.now) (sound_b : IsSound n.right.now) where
  -- there are few latches
  pub blocks_few : length n.blocks.now ≤ 4000000
  blocks_few =
      let left = light_few n.left.now sound_a in
      let right = light_few n.right.now sound_b in
      omega (arith, left, right, ready.each, ready.left_light, ready.right_light, sound_a.few_latches, sound_b.few_latches)

  module _ (first : ℕ) (high : first ≤ 2 ^ 31) (count : ℕ) (count_is : count ≡ length n.left.now.latches) where
    inside : count ≤ length n.blocks.now
    inside = omega (arith, count_is, ready.each)

    -- the blocks of B's latches
    rest : take (length n.blocks.now - count) (drop count n.blocks.now) ≡ drop count n.blocks.now
    rest = take_all (length n.blocks.now - count) (drop count n.blocks.now) (let long = length-drop count n.blocks.now in omega (arith, long))

    pub left_blocks : All (λ k. first + k < 2 ^ 32) (take count n.blocks.now)
    left_blocks = All-take (λ k. first + k < 2 ^ 32) count n.blocks.now (blocks_small n.blocks.now ready.in_order first high blocks_few)

    pub right_blocks : All (λ k. first + k < 2 ^ 32) (take (length n.blocks.now - count) (drop count n.blocks.now))
    right_blocks = subst (All (λ k. first + k < 2 ^ 32)) (sym rest) (All-drop (λ k. first + k < 2 ^ 32) count n.blocks.now (blocks_small n.blocks.now ready.in_order first high blocks_few))

    left_part : All (λ k. k < length n.blocks.now) (take count n.blocks.now)
    left_part = All-take (λ k. k < length n.blocks.now) count n.blocks.now (blocks_below n.blocks.now ready.in_order)

    right_part : All (λ k. k < length n.blocks.now) (take (length n.blocks.now - count) (drop count n.blocks.now))
    right_part = subst (All (λ k. k < length n.blocks.now)) (sym rest) (All-drop (λ k. k < length n.blocks.now) count n.blocks.now (blocks_below n.blocks.now ready.in_order))

    module _ (w : Variables) where
      pub left_variables : w.inputs ≡ n.orders.now.left → w.latches ≡ map (λ k. first + k) (take count n.blocks.now) → AreVariables n.left.now w
      left_variables inputs latches =
          side_variables n.blocks.now first n.left.now w n.orders.now.left (take count n.blocks.now) inputs latches ready.left_long (length-take-le count n.blocks.now inside ∙ count_is) ready.left_small left_part high blocks_few

      pub right_variables : w.inputs ≡ n.orders.now.right → w.latches ≡ map (λ k. first + k) (take (length n.blocks.now - count) (drop count n.blocks.now)) → AreVariables n.right.now w
      right_variables inputs latches =
          side_variables n.blocks.now first n.right.now w n.orders.now.right (take (length n.blocks.now - count) (drop count n.blocks.now)) inputs latches ready.right_long
          (ap length rest ∙ length-drop count n.blocks.now ∙ (let z : length n.blocks.now - count ≡ length n.right.now.latches = omega (arith, count_is, ready.each) in z)) ready.right_small right_part high blocks_few

    pub is_block_graph : (g : BlockGraph) → All (λ i. i < first) n.orders.now.left → All (λ i. i < first) n.orders.now.right → g.left.variables.inputs ≡ n.orders.now.left → g.left.variables.latches ≡ map (λ k. first + k) (take count n.blocks.now) →
        g.right.variables.inputs ≡ n.orders.now.right → g.right.variables.latches ≡ map (λ k. first + k) (take (length n.blocks.now - count) (drop count n.blocks.now)) → g.limit ≡ first + length n.blocks.now → IsGraph g.aig → AreOn n.left.now g.aig g.left → AreOn n.right.now g.aig g.right → IsBlockGraph n g
    is_block_graph g above_left above_right left_inputs left_latches right_inputs right_latches limit graph left_on right_on = record {
      first = first;
      first_small = high;
      limit_is = limit;
      is_graph = graph;
      variables = record {
        left_inputs = left_inputs;
        right_inputs = right_inputs;
        left_latches = side_latches n.blocks.now first n.left.now g.left.variables n.orders.now.left (take count n.blocks.now) left_inputs left_latches (λ j. j) (λ j x at. (slice_get-take count n.blocks.now j x at).1);
        right_latches = side_latches n.blocks.now first n.right.now g.right.variables n.orders.now.right (take (length n.blocks.now - count) (drop count n.blocks.now)) right_inputs right_latches (λ j. length n.left.now.latches + j)
            (λ j x at. subst (λ k. slice_get n.blocks.now (k + j) ≡ Some x) count_is (at_drop count n.blocks.now j x (slice_get-take (length n.blocks.now - count) (drop count n.blocks.now) j x at).1));
        above_left = above_left;
        above_right = above_right;
      };
      left_on = left_on;
      right_on = right_on;
      left_below = subst (λ k. AreBelow k g.left.variables) (sym limit) (side_below n.blocks.now first n.left.now g.left.variables n.orders.now.left (take count n.blocks.now) left_inputs left_latches above_left left_part);
      right_below = subst (λ k. AreBelow k g.right.variables) (sym limit) (side_below n.blocks.now first n.right.now g.right.variables n.orders.now.right (take (length n.blocks.now - count) (drop count n.blocks.now)) right_inputs right_latches above_right right_part);
      left_long = ready.left_long;
      right_long = ready.right_long;
    }
