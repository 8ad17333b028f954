-- What is told of two nets, by its parts.
use Rattle.std.proofs.Common.{◌≡◌, ◌∙◌, ◌+◌, ℕ, List, [], length, map, None, refl, sym, ap, subst}
use Rattle.std.specs.List.{AllZip}
use Rattle.sec_base.specs.declared.basics.Orders.{Orders}
use Rattle.sec_base.specs.declared.basics.Tag.{Tag}
use Rattle.circuit_theory.specs.Interface.{shared_inputs, first_mismatch}
use Rattle.circuit_laws.specs.reset_laws.Reset.{AgreeFromReset}
use Rattle.flat_net.specs.Comparable.{IsComparable}
use Rattle.flat_net.specs.Sound.{IsSound}
use Rattle.flat_net.specs.View.{NetView, circuit_of, ports_of}
use Rattle.block_refine.specs.declared.block_graph.nets.BlockNets.{BlockNets}
use Rattle.block_refine.specs.declared.block_graph.graph.BlockGraph.{BlockGraph}
use Rattle.block_refine.specs.block_graph.Graph.{IsBlockGraph}
use Rattle.block_refine.specs.declared.refinement.SplitLimit.{SplitLimit}
use Rattle.block_refine.specs.Refining.{AreCoarsest, IsSplitLimit}
use Rattle.induct.specs.declared.block_outputs.outputs.OutputPair.{OutputPair}
use Rattle.induct.specs.block_outputs.Answers.{IsOutputAnswer}
use Rattle.induct.specs.declared.induction.Induction.{Induction}
use Rattle.induct.specs.declared.induction.InductVerdict.TheVariants as verdict
use Rattle.induct.specs.Inductions.{AreOwnNumbers, tag_at, AreMembers, pair_told, first_limit, first_shown, verdict_of, TellsInside, IsOver, IsSplitLimitOf}
use Rattle.induct.proofs.OverBlocks.{all_equal, equal_agree}
use Rattle.induct.proofs.ToldInside.{tells_inside}

-- at a limit while blocks were split
pub split_told : (a b : NetView) (own : Orders) (conflicts : ℕ) (limit : SplitLimit) → IsSplitLimit a b own conflicts limit → (count : ℕ) → count ≡ length a.latches → (made : Induction) (left right : Tag) →
    AreMembers count limit.blocks made.blocks → made.pairs ≡ [] → left ≡ tag_at count limit.left → right ≡ tag_at count limit.right → made.verdict ≡ verdict.SplitLimit left right limit.proof → IsSplitLimitOf a b own conflicts made
split_told a b own conflicts limit is count count_is made left right members pairs left_is right_is told = record {
  limit = limit;
  is = is;
  members = subst (λ k. AreMembers k limit.blocks made.blocks) count_is members;
  no_pairs = pairs;
  verdict_is = told
      ∙ (ap (λ (t : Tag). verdict.SplitLimit t right limit.proof) (left_is ∙ ap (λ k. tag_at k limit.left) count_is)
      ∙ ap (λ (t : Tag). verdict.SplitLimit (tag_at (length a.latches) limit.left) t limit.proof) (right_is ∙ ap (λ k. tag_at k limit.right) count_is));
}

-- over the coarsest inductive partition
module _ (n : BlockNets) (g : BlockGraph) (conflicts : ℕ) (outputs : List OutputPair) (is : IsBlockGraph n g) (coarsest : AreCoarsest n.left.now n.right.now n.orders.now n.blocks.now) (own : AreOwnNumbers n.left.now n.right.now n.orders.now)
    (answered : AllZip (IsOutputAnswer n g conflicts) n.left.now.outputs outputs) (first count : ℕ) (made : Induction) (told : made.verdict ≡ verdict_of first count (first_limit outputs) (first_shown outputs)) where
  pub over_told : IsSound n.left.now → IsSound n.right.now → first_mismatch (ports_of n.left.now) (ports_of n.right.now) ≡ None → first ≡ is.first → count ≡ length (shared_inputs (ports_of n.left.now) (ports_of n.right.now)) →
      (latches : ℕ) → latches ≡ length n.left.now.latches → AreMembers latches n.blocks.now made.blocks → made.pairs ≡ map pair_told outputs → IsOver n.left.now n.right.now n.orders.now conflicts made
  over_told sound_a sound_b matches first_is count_is latches latches_are members pairs = record {
    n = n;
    left_is = refl;
    right_is = refl;
    own_is = refl;
    coarsest = coarsest;
    members = subst (λ k. AreMembers k n.blocks.now made.blocks) latches_are members;
    g = g;
    graph = is;
    outputs = outputs;
    answered = answered;
    pairs_are = pairs;
    verdict_is = verdict_here;
    inside = subst (TellsInside (length (shared_inputs (ports_of n.left.now) (ports_of n.right.now)) + length made.blocks)) (sym verdict_here)
        (tells_inside n g is sound_a sound_b own matches coarsest.each (length made.blocks) members.enough conflicts outputs answered);
  }
    where
      verdict_here : made.verdict ≡ verdict_of is.first (length (shared_inputs (ports_of n.left.now) (ports_of n.right.now))) (first_limit outputs) (first_shown outputs)
      verdict_here = told
          ∙ (ap (λ k. verdict_of k count (first_limit outputs) (first_shown outputs)) first_is ∙ ap (λ k. verdict_of is.first k (first_limit outputs) (first_shown outputs)) count_is)

  -- a verdict that is equal says that all outputs agree from the initial values on
  pub told_agree : IsComparable n.right.now → made.verdict ≡ verdict.Equal → AgreeFromReset (circuit_of n.left.now) (circuit_of n.right.now)
  told_agree right e = equal_agree n g conflicts outputs answered right own coarsest (all_equal first count outputs (sym told ∙ e))
