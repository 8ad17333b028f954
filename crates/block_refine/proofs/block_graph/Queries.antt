-- The query of two signals.
use Rattle.std.proofs.Common.{◌≡◌, ◌∙◌, ◌⊎◌, ◌*◌, ◌<◌, ◌/◌, ℕ, List, [], ◌∷◌, length, slice_get, Option, Some, None, sym, ap, subst, arith, inl, inr}
use Rattle.std.specs.Prelude.{option_and_then}
use Rattle.std.specs.List.{Contains}
use Rattle.std.proofs.lemmas.List.Kept.{AllPairs-from_increasing}
use Rattle.std.proofs.lemmas.Option.{slice_get_within}
use Rattle.circuit_theory.specs.Joined.{Either, Left, Right}
use Rattle.circuit_theory.proofs.Lists.{Contains-cases, All-from_each, only}
use Rattle.flat_net.specs.declared.parts.Driver.{Driver}
use Rattle.flat_net.specs.declared.parts.Driver.TheVariants as driver
use Rattle.flat_net.specs.View.{NetView}
use Rattle.flat_net.proofs.Places.{All-at, one_at}
use Rattle.aig.specs.declared.node.Lit.{Lit}
use Rattle.aig.specs.declared.node.Node.{Node}
use Rattle.aig.specs.declared.node.Node.TheVariants.{Constant, Input}
use Rattle.aig.specs.Graph.{IsGraph}
use Rattle.aig.specs.Cone.{IsReached, Reads}
use Rattle.pair_decide.specs.declared.query.Query.{Query}
use Rattle.pair_decide.specs.Queries.{IsQuery, roots_of}
use Rattle.block_refine.specs.declared.latch_blocks.variables.Variables.{Variables}
use Rattle.block_refine.specs.latch_blocks.Signals.{variable_of, variable_at, AreMerged}
use Rattle.aig.proofs.Supports.{reached_one}
use Rattle.block_refine.specs.declared.block_graph.nets.BlockNets.{BlockNets}
use Rattle.block_refine.specs.declared.block_graph.graph.BlockGraph.{BlockGraph}
use Rattle.block_refine.specs.block_graph.Graph.{AreBelow, IsBlockGraph}
use Rattle.block_refine.specs.block_graph.Comparing.{IsLitIn, IsVariableOf, AreOwn, AreLeavesOf}

-- from the literal 1 the constant alone is reached
constant_reached : (g : List Node) → IsGraph g → (k : ℕ) → IsReached g (1 ∷ []) k → k ≡ 0
constant_reached g graph k (IsReached.root y h) = sym (ap (λ z. z / 2) (only 1 y h))
constant_reached g graph k (IsReached.operand n y node reached at reads) =
    let zero = constant_reached g graph n reached in
    let same : Constant ≡ node = one_at g 0 Constant node graph.constant (subst (λ m. slice_get g m ≡ Some node) zero at) in
    absurd (subst (λ (z : Node). Reads z y) (sym same) reads)

variable_below : (m : NetView) (w : Variables) (limit : ℕ) → AreBelow limit w → (s k : ℕ) → variable_at m w s ≡ Some k → k < limit
variable_below m w limit below s k h = go (slice_get m.drivers s) h
  where
    go : (o : Option Driver) → option_and_then (variable_of w) o ≡ Some k → k < limit
    go None e = absurd (let no : ⊥ = cc in no)
    go (Some (driver.Input i)) e = All-at (λ v. v < limit) w.inputs i k e below.inputs
    go (Some (driver.Gate j)) e = absurd (let no : ⊥ = cc in no)
    go (Some (driver.Latch j)) e = All-at (λ v. v < limit) w.latches j k e below.latches

module _ (n : BlockNets) (g : BlockGraph) (is : IsBlockGraph n g) where
  own_below : (p : Either ℕ ℕ) (k : ℕ) → IsVariableOf n g p k → k < g.limit
  own_below (Left s) k leaf = variable_below n.left.now g.left.variables g.limit is.left_below leaf.0 k leaf.2
  own_below (Right s) k leaf = variable_below n.right.now g.right.variables g.limit is.right_below leaf.0 k leaf.2

  -- the variables of two signals as one list
  pub own_is : (p q : Either ℕ ℕ) (left right all : List ℕ) → AreLeavesOf n g p left → AreLeavesOf n g q right → AreMerged left right all → AreOwn n g p q all
  own_is p q left right all own other merged = record {
    increasing = merged.increasing;
    each = λ k. ((λ h. from k ((merged.each k).0 h)), (λ h. (merged.each k).1 (to k h)));
    below = All-from_each (λ k. k < g.limit) all (λ k h. low k (from k ((merged.each k).0 h)));
  }
    where
      from : (k : ℕ) → Contains left k ⊎ Contains right k → IsVariableOf n g p k ⊎ IsVariableOf n g q k
      from k (inl h) = inl ((own k).0 h)
      from k (inr h) = inr ((other k).0 h)

      to : (k : ℕ) → IsVariableOf n g p k ⊎ IsVariableOf n g q k → Contains left k ⊎ Contains right k
      to k (inl h) = inl ((own k).1 h)
      to k (inr h) = inr ((other k).1 h)

      low : (k : ℕ) → IsVariableOf n g p k ⊎ IsVariableOf n g q k → k < g.limit
      low k (inl h) = own_below p k h
      low k (inr h) = own_below q k h

  within : (p : Either ℕ ℕ) (l : Lit) → IsLitIn g p l → l.0 < 2 * length g.aig
  within (Left s) l at = (is.left_on.lits s l at).within
  within (Right s) l at = (is.right_on.lits s l at).within

  reads : (p : Either ℕ ℕ) (l : Lit) → IsLitIn g p l → (m k : ℕ) → IsReached g.aig (l.0 ∷ []) m → slice_get g.aig m ≡ Some (Input k) → IsVariableOf n g p k
  reads (Left s) l at = (is.left_on.lits s l at).reads
  reads (Right s) l at = (is.right_on.lits s l at).reads

  pub is_query : IsGraph g.aig → (q : Query) (p r : Either ℕ ℕ) → IsLitIn g p q.left → IsLitIn g r q.right → q.care.0 ≡ 1 → AreOwn n g p r q.vars → IsQuery g.aig q
  is_query graph q p r at_p at_r care own = record {
    left = within p q.left at_p;
    right = within r q.right at_r;
    care = let some = slice_get_within g.aig 0 Constant graph.constant in omega (arith, some, care);
    distinct = λ i j d l m e. let pair = AllPairs-from_increasing q.vars own.increasing i j d l m in omega (arith, pair, e);
    covers = λ m k reached at. let one = reached_one g.aig (roots_of q) m reached in covered m k at one.0 (Contains-cases q.left.0 one.0 (q.right.0 ∷ q.care.0 ∷ []) one.1) one.2;
  }
    where
      none : (m k : ℕ) → slice_get g.aig m ≡ Some (Input k) → IsReached g.aig (1 ∷ []) m → ⊥
      none m k at reached =
          let zero = constant_reached g.aig graph m reached in
          let same : Constant ≡ Input k = one_at g.aig 0 Constant (Input k) graph.constant (subst (λ z. slice_get g.aig z ≡ Some (Input k)) zero at) in
          let no : ⊥ = cc in no

      third : (m k x : ℕ) → slice_get g.aig m ≡ Some (Input k) → (q.right.0 ≡ x) ⊎ Contains (q.care.0 ∷ []) x → IsReached g.aig (x ∷ []) m → Contains q.vars k
      third m k x at (inl e) reached = (own.each k).1 (inr (reads r q.right at_r m k (subst (λ z. IsReached g.aig (z ∷ []) m) (sym e) reached) at))
      third m k x at (inr h) reached = absurd (none m k at (subst (λ z. IsReached g.aig (z ∷ []) m) (sym (only q.care.0 x h) ∙ care) reached))

      covered : (m k : ℕ) → slice_get g.aig m ≡ Some (Input k) → (x : ℕ) → (q.left.0 ≡ x) ⊎ Contains (q.right.0 ∷ q.care.0 ∷ []) x → IsReached g.aig (x ∷ []) m → Contains q.vars k
      covered m k at x (inl e) reached = (own.each k).1 (inl (reads p q.left at_p m k (subst (λ z. IsReached g.aig (z ∷ []) m) (sym e) reached) at))
      covered m k at x (inr h) reached = third m k x at (Contains-cases q.right.0 x (q.care.0 ∷ []) h) reached
