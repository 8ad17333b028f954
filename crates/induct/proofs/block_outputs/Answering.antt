-- What the answer to the query of two signals says of them.
use Rattle.std.proofs.Common.{◌≡◌, ◌≢◌, ◌∙◌, ◌*◌, ◌<◌, ℕ, Bool, true, false, List, [], ◌∷◌, length, refl, sym, ap, subst, arith}
use Rattle.std.specs.List.{AllPairs, Contains}
use Rattle.std.proofs.lemmas.List.Kept.{AllPairs-from_increasing}
use Rattle.std.proofs.lemmas.Option.{same_Some}
use Rattle.circuit_theory.specs.Joined.{Either, Left, Right}
use Rattle.circuit_theory.proofs.Lists.{Contains-head}
use Rattle.flat_net.specs.Sound.{IsSound}
use Rattle.aig.specs.declared.node.Lit.{Lit}
use Rattle.aig.specs.Graph.{IsGraph}
use Rattle.aig.specs.Values.{value}
use Rattle.aig.proofs.CoverMeaning.{value-one}
use Rattle.aig.specs.lane_eval.Tables.{Covers}
use Rattle.pair_decide.specs.declared.query.SameBy.{SameBy}
use Rattle.pair_decide.specs.declared.query.SameBy.TheVariants as same
use Rattle.pair_decide.specs.declared.query.Proof.{Proof}
use Rattle.pair_decide.specs.declared.query.Decision.TheVariants as decision
use Rattle.pair_decide.specs.Queries.{IsQuery, IsSame, roots_of, assigned_to}
use Rattle.pair_decide.specs.Answers.{Decides, IsDifference}
use Rattle.block_refine.specs.latch_blocks.Readings.{AreRead}
use Rattle.block_refine.proofs.latch_blocks.Readings.{readings_are_values}
use Rattle.aig.proofs.Supports.{reached_among}
use Rattle.block_refine.specs.declared.block_graph.nets.BlockNets.{BlockNets}
use Rattle.block_refine.specs.declared.block_graph.graph.BlockGraph.{BlockGraph}
use Rattle.block_refine.specs.declared.block_graph.compare.Comparison.{Comparison}
use Rattle.block_refine.specs.block_graph.Graph.{IsBlockGraph}
use Rattle.block_refine.specs.block_graph.Comparing.{IsLitIn, IsComparison, AreOwn, AgreeOver}
use Rattle.block_refine.proofs.block_graph.OnGraph.{same_agree}
use Rattle.block_refine.proofs.block_graph.Queries.{is_query}
use Rattle.induct.specs.declared.block_outputs.answer.Shown.{Shown}
use Rattle.induct.specs.block_outputs.Answers.{IsQueryOf, IsShown, IsLimit}

other_is : (a b c : Bool) → a ≢ b → c ≢ a → c ≡ b
other_is true true c h k = absurd (h refl)
other_is true false true h k = absurd (k refl)
other_is true false false h k = refl
other_is false true true h k = refl
other_is false true false h k = absurd (k refl)
other_is false false c h k = absurd (h refl)

one_lit : (g : BlockGraph) (p : Either ℕ ℕ) (l m : Lit) → IsLitIn g p l → IsLitIn g p m → l ≡ m
one_lit g (Left s) l m h k = same_Some l m (sym h ∙ k)
one_lit g (Right s) l m h k = same_Some l m (sym h ∙ k)

module _ (n : BlockNets) (g : BlockGraph) (is : IsBlockGraph n g) (sound_a : IsSound n.left.now) (sound_b : IsSound n.right.now) (graph : IsGraph g.aig) where
  -- read by an assignment, each signal has its literal's value
  read_value : (v : ℕ → Bool) (x : Either ℕ ℕ → Bool) → AreRead n.left.now n.right.now g.left.variables g.right.variables v x → (p : Either ℕ ℕ) (l : Lit) → IsLitIn g p l → x p ≡ value g.aig v l.0
  read_value v x read (Left s) l at = (is.left_on.lits s l at).values v (λ t. x (Left t)) read.0
  read_value v x read (Right s) l at = (is.right_on.lits s l at).values v (λ t. x (Right t)) read.1

  module _ (conflicts : ℕ) (p q : Either ℕ ℕ) (c : Comparison) (asked : IsComparison n g p q conflicts c) where
    sides_same : (by : SameBy) → Decides g.aig asked.query conflicts (decision.Same by) → IsSame g.aig asked.query
    sides_same same.Literal d = d.1
    sides_same same.Table d = d.1
    sides_same (same.Refuted proof) d = d.1

    pub answer_same : (by : SameBy) → c.decision ≡ decision.Same by → AgreeOver n p q
    answer_same by e =
        let whole = sides_same by (subst (Decides g.aig asked.query conflicts) e asked.decided) in
        same_agree n g is sound_a sound_b p q asked.query.left asked.query.right asked.left asked.right (λ v. whole v (ap (value g.aig v) asked.care ∙ value-one g.aig graph v))

    own : AreOwn n g p q asked.query.vars
    own = subst (AreOwn n g p q) (sym asked.vars) asked.own

    query_of : IsQueryOf n g p q asked.query
    query_of = record { left = asked.left; right = asked.right; care = asked.care; own = own }

    pub answer_limit : (proof : Proof) → c.decision ≡ decision.Limit proof → IsLimit n g conflicts p q proof
    answer_limit proof e = record { query = asked.query; asked = query_of; limit = subst (Decides g.aig asked.query conflicts) e asked.decided }

    pub difference : (bits : List Bool) → c.decision ≡ decision.Differs bits → IsDifference g.aig asked.query bits
    difference bits e = subst (Decides g.aig asked.query conflicts) e asked.decided

    pub bits_each : (bits : List Bool) → c.decision ≡ decision.Differs bits → length bits ≡ length c.vars
    bits_each bits e = (difference bits e).each ∙ ap length asked.vars

    pub vars_distinct : AllPairs (λ u v. u ≢ v) c.vars
    vars_distinct i j d l m e = let pair = AllPairs-from_increasing c.vars asked.own.increasing i j d l m in omega (arith, pair, e)

    whole_query : IsQuery g.aig asked.query
    whole_query = is_query n g is graph asked.query p q asked.left asked.right asked.care own

    module _ (l : Lit) (at : IsLitIn g p l) where
      number_is : asked.query.left.0 ≡ l.0
      number_is = ap (λ (y : Lit). y.0) (one_lit g p asked.query.left l asked.left at)

      pub lit_within : l.0 < 2 * length g.aig
      lit_within = subst (λ y. y < 2 * length g.aig) number_is whole_query.left

      pub lit_covered : Covers g.aig (l.0 ∷ []) c.vars
      lit_covered m v reached here =
          let member : Contains (roots_of asked.query) l.0 = subst (Contains (roots_of asked.query)) number_is (Contains-head asked.query.left.0 (asked.query.right.0 ∷ asked.query.care.0 ∷ [])) in
          subst (λ (vs : List ℕ). Contains vs v) asked.vars (whole_query.covers m v (reached_among g.aig l.0 (roots_of asked.query) member reached) here)

      pub answer_differs : (bits : List Bool) (s : Shown) → c.decision ≡ decision.Differs bits → s.vars ≡ c.vars → s.bits ≡ bits → s.left ≡ value g.aig (assigned_to c.vars bits) l.0 → s.right ≢ s.left → IsShown n g p q s
      answer_differs bits s e vars_are bits_are left_is apart =
          let v : ℕ → Bool = assigned_to s.vars s.bits in
          let read = readings_are_values n.left.now n.right.now sound_a sound_b n.orders.now is.left_long is.right_long is.first n.blocks.now g.left.variables g.right.variables is.variables v in
          let x = read.0 in
          let same_vars : assigned_to c.vars bits ≡ v = ap (λ (vs : List ℕ). assigned_to vs bits) (sym vars_are) ∙ ap (assigned_to s.vars) (sym bits_are) in
          let asked_vars : assigned_to asked.query.vars bits ≡ v = ap (λ (vs : List ℕ). assigned_to vs bits) asked.vars ∙ same_vars in
          let differ : value g.aig v asked.query.left.0 ≢ value g.aig v asked.query.right.0 =
          subst (λ (w : ℕ → Bool). value g.aig w asked.query.left.0 ≢ value g.aig w asked.query.right.0) asked_vars (difference bits e).distinguishes.differ in
          let one : s.left ≡ value g.aig v asked.query.left.0 = left_is ∙ (ap (λ (w : ℕ → Bool). value g.aig w l.0) same_vars ∙ ap (value g.aig v) (sym number_is)) in
          let other : s.right ≡ value g.aig v asked.query.right.0 = other_is (value g.aig v asked.query.left.0) (value g.aig v asked.query.right.0) s.right differ (λ h. apart (h ∙ sym one)) in
          record {
            x = x;
            constant = (read.1, read.2);
            read = read.3;
            left = read_value v x read.3 p asked.query.left asked.left ∙ sym one;
            right = read_value v x read.3 q asked.query.right asked.right ∙ sym other;
            differ = λ h. apart (sym h);
            query = asked.query;
            asked = query_of;
            vars = asked.vars ∙ sym vars_are;
            difference = subst (IsDifference g.aig asked.query) (sym bits_are) (difference bits e);
          }
