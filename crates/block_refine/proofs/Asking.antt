-- What the answer to a query says of the two latches.
use Rattle.std.proofs.Common.{◌≡◌, ◌≢◌, ◌∙◌, ℕ, Bool, List, map, sym, ap, subst}
use Rattle.std.proofs.lemmas.Option.{same_Some}
use Rattle.circuit_theory.specs.Joined.{Either}
use Rattle.flat_net.specs.Sound.{IsSound}
use Rattle.aig.specs.declared.node.Lit.{Lit}
use Rattle.aig.specs.Graph.{IsGraph}
use Rattle.aig.specs.Values.{value}
use Rattle.aig.proofs.CoverMeaning.{value-one}
use Rattle.pair_decide.specs.declared.query.SameBy.{SameBy}
use Rattle.pair_decide.specs.declared.query.SameBy.TheVariants as same
use Rattle.pair_decide.specs.declared.query.Proof.{Proof}
use Rattle.pair_decide.specs.declared.query.Decision.TheVariants as decision
use Rattle.pair_decide.specs.Queries.{IsSame, assigned_to}
use Rattle.pair_decide.specs.Answers.{Decides, IsDifference}
use Rattle.block_refine.specs.latch_blocks.Partitions.{nexts_of}
use Rattle.block_refine.specs.declared.block_graph.nets.BlockNets.{BlockNets}
use Rattle.block_refine.specs.declared.block_graph.graph.BlockGraph.{BlockGraph}
use Rattle.block_refine.specs.declared.block_graph.compare.Comparison.{Comparison}
use Rattle.block_refine.specs.block_graph.Graph.{IsBlockGraph}
use Rattle.block_refine.specs.block_graph.Comparing.{IsLitIn, IsComparison, AreOwn, AgreeOver, AreReadBy}
use Rattle.block_refine.proofs.block_graph.OnGraph.{same_agree, read_by}
use Rattle.block_refine.specs.Asking.{IsNext, TakeOneValue, TellApart, IsLimitAt}

module _ (n : BlockNets) (i j : ℕ) (l r : Either ℕ ℕ) (l_is : IsNext n i l) (r_is : IsNext n j r) where
  one_next : (k : ℕ) (a b : Either ℕ ℕ) → IsNext n k a → IsNext n k b → a ≡ b
  one_next k a b h m = same_Some a b (sym h ∙ m)

  pub take_one : AgreeOver n l r → TakeOneValue n i j
  take_one agree p q p_is q_is x constant = ap x (one_next i p l p_is l_is) ∙ agree x constant ∙ ap x (one_next j r q r_is q_is)

  module _ (g : BlockGraph) (is : IsBlockGraph n g) (sound_a : IsSound n.left.now) (sound_b : IsSound n.right.now) (graph : IsGraph g.aig) where
    -- signals with one literal agree
    pub one_literal : (x y : Lit) → IsLitIn g l x → IsLitIn g r y → x.0 ≡ y.0 → TakeOneValue n i j
    one_literal x y at_l at_r e = take_one (same_agree n g is sound_a sound_b l r x y at_l at_r (λ v. ap (value g.aig v) e))

    module _ (conflicts : ℕ) (c : Comparison) (asked : IsComparison n g l r conflicts c) where
      sides_same : (by : SameBy) → Decides g.aig asked.query conflicts (decision.Same by) → IsSame g.aig asked.query
      sides_same same.Literal d = d.1
      sides_same same.Table d = d.1
      sides_same (same.Refuted proof) d = d.1

      pub answer_same : (by : SameBy) → c.decision ≡ decision.Same by → TakeOneValue n i j
      answer_same by e =
          let whole = sides_same by (subst (Decides g.aig asked.query conflicts) e asked.decided) in
          take_one (same_agree n g is sound_a sound_b l r asked.query.left asked.query.right asked.left asked.right (λ v. whole v (ap (value g.aig v) asked.care ∙ value-one g.aig graph v)))

      pub difference : (bits : List Bool) → c.decision ≡ decision.Differs bits → IsDifference g.aig asked.query bits
      difference bits e = subst (Decides g.aig asked.query conflicts) e asked.decided

      pub answer_differs : (bits made : List Bool) → c.decision ≡ decision.Differs bits → ((x : Either ℕ ℕ → Bool) → AreReadBy n g (assigned_to c.vars bits) x → made ≡ map x (nexts_of n.left.now n.right.now)) → TellApart n i j made
      answer_differs bits made e all =
          let v = assigned_to c.vars bits in
          let read = read_by n g is sound_a sound_b v in
          let x = read.0 in
          let differ : value g.aig v asked.query.left.0 ≢ value g.aig v asked.query.right.0 =
          subst (λ (vars : List ℕ). value g.aig (assigned_to vars bits) asked.query.left.0 ≢ value g.aig (assigned_to vars bits) asked.query.right.0) asked.vars (difference bits e).distinguishes.differ in
          record {
            x = x;
            constant = read.1.constant;
            bits_are = all x read.1;
            apart = λ p q p_is q_is same. differ
                (sym (read.1.lits l asked.query.left asked.left) ∙ ap x (one_next i l p l_is p_is) ∙ same ∙ ap x (one_next j q r q_is r_is) ∙ read.1.lits r asked.query.right asked.right);
          }

      pub answer_limit : (proof : Proof) → c.decision ≡ decision.Limit proof → IsLimitAt n g conflicts i j proof
      answer_limit proof e = record {
        p = l;
        q = r;
        p_is = l_is;
        q_is = r_is;
        query = asked.query;
        left = asked.left;
        right = asked.right;
        care = asked.care;
        own = subst (AreOwn n g l r) (sym asked.vars) asked.own;
        limit = subst (Decides g.aig asked.query conflicts) e asked.decided;
      }
