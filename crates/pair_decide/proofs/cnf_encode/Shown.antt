-- The clauses of a query are met exactly where its difference is shown.
use Rattle.std.proofs.Common.{◌≡◌, ◌≢◌, ℕ, ◌+◌, ◌*◌, ◌/◌, ◌%◌, ◌<◌, Bool, true, List, ◌++◌, length, get_or, slice_get, Some, sym, ◌∙◌, ap, subst, arith}
use Rattle.std.specs.Prelude.{◌↔◌}
use Rattle.std.proofs.lemmas.Option.{same_Some, slice_get_within, slice_get-get_or}
use Rattle.aig.proofs.circuit_theory.Lists.{of_at}
use Rattle.proof_check.specs.Literals.{Literal, literal_value}
use Rattle.proof_check.specs.Clauses.{Satisfies}
use Rattle.aig.specs.declared.node.Node.{Node}
use Rattle.aig.specs.declared.node.Node.TheVariants.{Constant, Input, And}
use Rattle.aig.specs.Graph.{IsGraph}
use Rattle.aig.specs.Values.{value}
use Rattle.aig.specs.Cone.{IsPlacedLit, IsPlacedNode}
use Rattle.aig.proofs.Parts.{stands_once}
use Rattle.aig.specs.declared.cone_graph.Cones.{Cones}
use Rattle.aig.specs.Cones.{AreConesOf}
use Rattle.pair_decide.specs.cnf_encode.Encoding.{literal_of, part_clauses, query_clauses, AreClausesOf, ShowsDifference}
use Rattle.pair_decide.proofs.cnf_encode.Meeting.{NodeHolds, met-from, met-to, met-front, met-back, met-both, part-from, part-to, query-from, query-to}
use Rattle.pair_decide.proofs.cnf_encode.Places.{var_bit, var_bit-at, same-lit, places-held, node-meets}

module _ (g : List Node) (graph : IsGraph g) (left right care : ℕ) (c : Cones) (cones : AreConesOf g left right care c) where
  input-of : (nodes : List ℕ) (node p : Node) (u : ℕ) → IsPlacedNode nodes node p → p ≡ Input u → node ≡ Input u
  input-of nodes Constant p u placed e = absurd (let h : Constant ≡ Input u = sym placed ∙ e in cc)
  input-of nodes (Input t) p u placed e = sym placed ∙ e
  input-of nodes (And l r) p u (s, t, f, first, second) e = absurd (let h : And s t ≡ Input u = sym f ∙ e in cc)

  -- the node behind an input's place
  input-node : (k u : ℕ) → slice_get c.part k ≡ Some (Input u) → (n : ℕ) × (slice_get c.nodes k ≡ Some n) × (slice_get g n ≡ Some (Input u))
  input-node k u has =
      let inside : k < length c.nodes = omega (arith, slice_get_within c.part k (Input u) has, cones.part_is.each) in
      let here = slice_get-get_or c.nodes k 0 inside in
      let there = slice_get-get_or g (get_or c.nodes k 0) Constant (cones.closed.within (get_or c.nodes k 0) (of_at c.nodes k (get_or c.nodes k 0) here)) in
      let (p, is_p, placed) = cones.part_is.placed k (get_or c.nodes k 0) (get_or g (get_or c.nodes k 0) Constant) here there in
      (get_or c.nodes k 0, here, there ∙ ap Some (input-of c.nodes (get_or g (get_or c.nodes k 0) Constant) p u placed (same_Some p (Input u) (sym is_p ∙ has))))

  -- a variable has one place
  input-once : (i j u : ℕ) → slice_get c.part i ≡ Some (Input u) → slice_get c.part j ≡ Some (Input u) → i ≡ j
  input-once i j u at other =
      let (n, here, is_n) = input-node i u at in
      let (m, there, is_m) = input-node j u other in
      stands_once c.nodes cones.nodes_are.increasing i j n here (there ∙ ap Some (sym (graph.once n m (Input u) is_n is_m)))

  even-placed : (k n : ℕ) → slice_get c.nodes k ≡ Some n → IsPlacedLit c.nodes (2 * n) (2 * k)
  even-placed k n at =
      let signs : 2 * k % 2 ≡ 2 * n % 2 = omega arith in
      let half : 2 * k / 2 ≡ k = omega arith in
      let whole : n ≡ 2 * n / 2 = omega arith in
      (signs, ap (slice_get c.nodes) half ∙ at ∙ ap Some whole)

  node-there : (k n : ℕ) → slice_get c.nodes k ≡ Some n → slice_get c.part k ≡ Some (get_or c.part k Constant)
  node-there k n at = slice_get-get_or c.part k Constant (omega (arith, slice_get_within c.nodes k n at, cones.part_is.each))

  module _ (v : ℕ → Bool) (clauses : List (List Literal)) (are : AreClausesOf (part_clauses 0 c.part ++ query_clauses c.left.0 c.right.0 c.care.0) clauses) where
    -- values that meet them show a difference
    shows : Satisfies v clauses → ShowsDifference g left right care c.nodes v
    shows met =
        record { bits = bits; values = λ k n at. held k n at ∙ cones.values bits (2 * n) (2 * k) (even-placed k n at); care_holds = sym (lit care c.care.0 cones.care_is) ∙ both.0; differ = λ e. both.1 (lit left c.left.0 cones.left_is ∙ e ∙ sym (lit right c.right.0 cones.right_is)) }
      where
        all : Satisfies v (part_clauses 0 c.part ++ query_clauses c.left.0 c.right.0 c.care.0)
        all = met-from v (part_clauses 0 c.part ++ query_clauses c.left.0 c.right.0 c.care.0) clauses are met

        each : (k : ℕ) (node : Node) → slice_get c.part k ≡ Some node → NodeHolds v k node
        each k node at = let same : 0 + k ≡ k = omega arith in subst (λ (i : ℕ). NodeHolds v i node) same (part-from v 0 c.part (met-front v (part_clauses 0 c.part) (query_clauses c.left.0 c.right.0 c.care.0) all) k node at)

        both : (literal_value v (literal_of c.care.0) ≡ true) × (literal_value v (literal_of c.left.0) ≢ literal_value v (literal_of c.right.0))
        both = query-from v c.left.0 c.right.0 c.care.0 (met-back v (part_clauses 0 c.part) (query_clauses c.left.0 c.right.0 c.care.0) all)

        bits : ℕ → Bool
        bits = var_bit 0 c.part (λ k. v (k + 1))

        held : (k n : ℕ) → slice_get c.nodes k ≡ Some n → v (k + 1) ≡ value c.part bits (2 * k)
        held k n at =
            places-held c.part cones.ordered v bits each (λ j u there. var_bit-at 0 c.part (λ i. v (i + 1)) u j there (λ i other. input-once i j u other there) ∙ ap (λ (i : ℕ). v (i + 1)) (let same : 0 + j ≡ j = omega arith in same)) k (get_or c.part k Constant) (node-there k n at)

        lit : (x y : ℕ) → IsPlacedLit c.nodes x y → literal_value v (literal_of y) ≡ value g bits x
        lit x y placed = same-lit c.part cones.ordered v bits y (held (y / 2) (x / 2) placed.1) ∙ cones.values bits x y placed

    -- and values that show one meet them
    meets : ShowsDifference g left right care c.nodes v → Satisfies v clauses
    meets shown =
        met-to v (part_clauses 0 c.part ++ query_clauses c.left.0 c.right.0 c.care.0) clauses are
        (met-both v (part_clauses 0 c.part) (query_clauses c.left.0 c.right.0 c.care.0)
        (part-to v 0 c.part (λ j node at. let same : j ≡ 0 + j = omega arith in subst (λ (i : ℕ). NodeHolds v i node) same (node-meets c.part cones.ordered v shown.bits of_node j node at)))
        (query-to v c.left.0 c.right.0 c.care.0 (lit care c.care.0 cones.care_is ∙ shown.care_holds) (λ e. shown.differ (sym (lit left c.left.0 cones.left_is) ∙ e ∙ lit right c.right.0 cones.right_is))))
      where
        held : (k n : ℕ) → slice_get c.nodes k ≡ Some n → v (k + 1) ≡ value c.part shown.bits (2 * k)
        held k n at = shown.values k n at ∙ sym (cones.values shown.bits (2 * n) (2 * k) (even-placed k n at))

        of_node : (k : ℕ) (node : Node) → slice_get c.part k ≡ Some node → v (k + 1) ≡ value c.part shown.bits (2 * k)
        of_node k node at = held k (get_or c.nodes k 0) (slice_get-get_or c.nodes k 0 (omega (arith, slice_get_within c.part k node at, cones.part_is.each)))

        lit : (x y : ℕ) → IsPlacedLit c.nodes x y → literal_value v (literal_of y) ≡ value g shown.bits x
        lit x y placed = same-lit c.part cones.ordered v shown.bits y (held (y / 2) (x / 2) placed.1) ∙ cones.values shown.bits x y placed

    pub shown-exactly : Satisfies v clauses ↔ ShowsDifference g left right care c.nodes v
    shown-exactly = (shows, meets)
