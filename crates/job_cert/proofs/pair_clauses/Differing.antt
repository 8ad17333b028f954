-- The clauses of two functions can be met exactly where these differ.
use Rattle.std.proofs.Common.{◌≡◌, ◌≢◌, ℕ, zero, suc, ◌+◌, ◌-◌, ◌*◌, ◌≤◌, ◌^◌, Bool, true, false, cond, ◌&&◌, List, [], ◌∷◌, length, get_or, slice_get, Some, None, refl, sym, ◌∙◌, ap, ap₂, arith, inl, inr}
use Rattle.std.specs.Prelude.{◌⊎◌, nat_eq}
use Rattle.std.proofs.lemmas.Bool.{cases_eq, eq-eqb, ne_eqb}
use Rattle.std.proofs.lemmas.Option.{get_or_from_slice_get}
use Rattle.circuit_theory.specs.Net.{IsNet}
use Rattle.circuit_theory.specs.Asked.{HaveEqualFunctions}
use Rattle.circuit_theory.specs.Tree.{Tree, tree_value}
use Rattle.circuit_theory.proofs.Numbers.{one_number}
use Rattle.circuit_laws.proofs.OneTree.{one_tree}
use Rattle.base_tables.specs.Table.{AreDistinct}
use Rattle.flat_net.specs.View.{NetView, circuit_of}
use Rattle.aig.specs.declared.node.Node.{Node}
use Rattle.aig.specs.Graph.{IsGraph}
use Rattle.aig.specs.Values.{value}
use Rattle.aig.specs.Builds.{HasTreeValues}
use Rattle.aig.proofs.CoverMeaning.{value-one}
use Rattle.cbf_unfold.specs.Unfolded.{IsLiteralOf}
use Rattle.tree_graph.specs.Numbering.{IsGraphOf}
use Rattle.proof_check.specs.Clauses.{Unsatisfiable}
use Rattle.pair_decide.specs.declared.cnf_encode.cnf.Cnf.{Cnf}
use Rattle.pair_decide.specs.cnf_encode.Encoding.{MeansDifference, ShowsDifference, IsSmall, IsEncoding}
use Rattle.plain_asked.specs.outcome_fits.Outcome.{HaveDifferentFunctions}
use Rattle.job_cert.specs.pair_clauses.Clauses.{CanBeMet, TellDifference, AreEncoded}

-- the bit of the variable that stands for an input at a shift
by_place : (ℕ → Bool) → List (ℕ × ℕ) → ℕ → ℕ → ℕ → Bool
by_place bits [] n i j = false
by_place bits (p ∷ places) n i j = cond (nat_eq p.0 i && nat_eq p.1 j) (bits n) (by_place bits places (suc n) i j)

later_distinct : (p : ℕ × ℕ) (places : List (ℕ × ℕ)) → AreDistinct (p ∷ places) → AreDistinct places
later_distinct p places d i j x h k = let e : suc i ≡ suc j = d (suc i) (suc j) x h k in omega (arith, e)

placed : (bits : ℕ → Bool) (places : List (ℕ × ℕ)) (n v : ℕ) (p : ℕ × ℕ) → AreDistinct places → slice_get places v ≡ Some p → bits (n + v) ≡ by_place bits places n p.0 p.1
unfolding by_place
placed bits [] n v p d at = absurd (let z : None ≡ Some p = at in cc)
placed bits (q ∷ places) n zero p d at =
    let same : q ≡ p = let e : Some q ≡ Some p = at in cc in
    let here : (nat_eq q.0 p.0 && nat_eq q.1 p.1) ≡ true = ap₂ (λ x y. x && y) (eq-eqb q.0 p.0 (ap (λ (z : ℕ × ℕ). z.0) same)) (eq-eqb q.1 p.1 (ap (λ (z : ℕ × ℕ). z.1) same)) in
    ap bits (let e : n + 0 ≡ n = omega arith in e) ∙ sym (ap (λ b. cond b (bits n) (by_place bits places (suc n) p.0 p.1)) here)
placed bits (q ∷ places) n (suc v) p d at =
    ap bits (let e : n + suc v ≡ suc n + v = omega arith in e)
    ∙ (placed bits places (suc n) v p (later_distinct q places d) at ∙ sym (ap (λ b. cond b (bits n) (by_place bits places (suc n) p.0 p.1)) other))
  where
    apart : q ≡ p → ⊥
    apart e = let z : 0 ≡ suc v = d 0 (suc v) p (ap Some e) at in omega (arith, z)

    other : (nat_eq q.0 p.0 && nat_eq q.1 p.1) ≡ false
    other = go (cases_eq q.0 p.0) (cases_eq q.1 p.1)
      where
        right : (x y : Bool) → y ≡ false → (x && y) ≡ false
        right true y e = e
        right false y e = refl

        go : (q.0 ≡ p.0) ⊎ (q.0 ≡ p.0 → ⊥) → (q.1 ≡ p.1) ⊎ (q.1 ≡ p.1 → ⊥) → (nat_eq q.0 p.0 && nat_eq q.1 p.1) ≡ false
        go (inr n) s = ap (λ x. x && nat_eq q.1 p.1) (ne_eqb q.0 p.0 n)
        go (inl e) (inr n) = right (nat_eq q.0 p.0) (nat_eq q.1 p.1) (ne_eqb q.1 p.1 n)
        go (inl e) (inl f) = absurd (apart (λ i. (e i, f i)))

same_or_not : (x y : Bool) → (x ≡ y) ⊎ (x ≢ y)
same_or_not true true = inl refl
same_or_not true false = inr (λ e. cc)
same_or_not false true = inr (λ e. cc)
same_or_not false false = inl refl

module _ (a b : NetView) (left right : List ℕ) (g : List Node) (places : List (ℕ × ℕ)) (s t : ℕ) (l r : ℕ) (net_a : IsNet (circuit_of a) (length a.drivers)) (net_b : IsNet (circuit_of b) (length b.drivers))
    (graph : IsGraph g) (distinct : AreDistinct places) (values : HasTreeValues g) (left_is : IsLiteralOf a left g places s l) (right_is : IsLiteralOf b right g places t r)
    (cnf : Cnf) (means : MeansDifference g l r 1 cnf) where
  abbrev Takes : (ℕ → ℕ → Bool) → (ℕ → Bool) → Type 0
  Takes bits y = (v : ℕ) (p : ℕ × ℕ) → slice_get places v ≡ Some p → y v ≡ bits p.0 p.1

  left_value : (bits : ℕ → ℕ → Bool) (y : ℕ → Bool) → Takes bits y → value g y l ≡ tree_value bits left_is.tree
  left_value bits y takes = values places bits y left_is.tree l takes left_is.builds

  right_value : (bits : ℕ → ℕ → Bool) (y : ℕ → Bool) → Takes bits y → value g y r ≡ tree_value bits right_is.tree
  right_value bits y takes = values places bits y right_is.tree r takes right_is.builds

  from_met : CanBeMet cnf.clauses → HaveDifferentFunctions (circuit_of a) (circuit_of b) left right s t
  from_met met =
      let d = (means met.0).0 met.1 in
      let bits : ℕ → ℕ → Bool = λ i j. by_place d.bits places 0 i j in
      let takes : Takes bits d.bits = λ v p at. ap d.bits (let e : v ≡ 0 + v = omega arith in e) ∙ placed d.bits places 0 v p distinct at in
      record {
        left_tree = left_is.tree;
        right_tree = right_is.tree;
        left_unfolds = (left_is.depth, left_is.unfolds);
        right_unfolds = (right_is.depth, right_is.unfolds);
        bits = bits;
        care = tt;
        differ = λ e. d.differ (left_value bits d.bits takes ∙ (e ∙ sym (right_value bits d.bits takes)));
      }

  -- an assignment of the inputs at shifts under which the trees differ meets the clauses
  to_met : (bits : ℕ → ℕ → Bool) → tree_value bits left_is.tree ≢ tree_value bits right_is.tree → CanBeMet cnf.clauses
  to_met bits differ =
      let y : ℕ → Bool = λ v. bits (get_or places v (0, 0)).0 (get_or places v (0, 0)).1 in
      let takes : Takes bits y = λ v p at. ap (λ (z : ℕ × ℕ). bits z.0 z.1) (get_or_from_slice_get places v p (0, 0) at) in
      let v : ℕ → Bool = λ n. value g y (2 * get_or cnf.nodes (n - 1) 0) in
      let shown : ShowsDifference g l r 1 cnf.nodes v = record {
        bits = y;
        values = λ k n at. ap (λ m. value g y (2 * m)) (ap (λ j. get_or cnf.nodes j 0) (let e : k + 1 - 1 ≡ k = omega arith in e) ∙ get_or_from_slice_get cnf.nodes k n 0 at);
        care_holds = value-one g graph y;
        differ = λ e. differ (sym (left_value bits y takes) ∙ (e ∙ right_value bits y takes));
      } in
      (v, (means v).1 shown)

  one_left : (d : ℕ) (tree : Tree ℕ) → Rattle.circuit_theory.specs.Tree.Unfolds (circuit_of a) left s 0 d tree → tree ≡ left_is.tree
  one_left d tree u = (one_tree (circuit_of a) left net_a.single (λ p i j x y. one_number a_inputs left net_a.inputs p i j x y) u left_is.unfolds).0
    where
      a_inputs : List (Rattle.circuit_theory.specs.Circuit.Named ℕ)
      a_inputs = (circuit_of a).inputs

  one_right : (d : ℕ) (tree : Tree ℕ) → Rattle.circuit_theory.specs.Tree.Unfolds (circuit_of b) right t 0 d tree → tree ≡ right_is.tree
  one_right d tree u = (one_tree (circuit_of b) right net_b.single (λ p i j x y. one_number b_inputs right net_b.inputs p i j x y) u right_is.unfolds).0
    where
      b_inputs : List (Rattle.circuit_theory.specs.Circuit.Named ℕ)
      b_inputs = (circuit_of b).inputs

  to_met_by : HaveDifferentFunctions (circuit_of a) (circuit_of b) left right s t → CanBeMet cnf.clauses
  to_met_by h =
      let p = one_left h.left_unfolds.0 h.left_tree h.left_unfolds.1 in
      let q = one_right h.right_unfolds.0 h.right_tree h.right_unfolds.1 in
      to_met h.bits (λ e. h.differ (ap (tree_value h.bits) p ∙ (e ∙ sym (ap (tree_value h.bits) q))))

  never_met : Unsatisfiable cnf.clauses → HaveEqualFunctions (circuit_of a) (circuit_of b) left right s t
  never_met none = record {
    left_tree = left_is.tree;
    right_tree = right_is.tree;
    left_unfolds = (left_is.depth, left_is.unfolds);
    right_unfolds = (right_is.depth, right_is.unfolds);
    same = λ bits care. same bits;
  }
    where
      same : (bits : ℕ → ℕ → Bool) → tree_value bits left_is.tree ≡ tree_value bits right_is.tree
      same bits = go (same_or_not (tree_value bits left_is.tree) (tree_value bits right_is.tree))
        where
          go : (tree_value bits left_is.tree ≡ tree_value bits right_is.tree) ⊎ (tree_value bits left_is.tree ≢ tree_value bits right_is.tree) → tree_value bits left_is.tree ≡ tree_value bits right_is.tree
          go (inl e) = e
          go (inr n) = let met = to_met bits n in absurd (none met.0 met.1)

  pub told : IsSmall cnf → length cnf.clauses ≤ 2 ^ 30 → TellDifference (circuit_of a) (circuit_of b) left right s t cnf
  told small few = record { exactly = (from_met, to_met_by); equal = never_met; small = small; few = few }

  pub encoded : IsGraphOf left_is.tree right_is.tree places g l r → IsEncoding g l r 1 cnf → AreEncoded (circuit_of a) (circuit_of b) left right s t cnf
  encoded numbered is = record {
    left_depth = left_is.depth;
    right_depth = right_is.depth;
    left_tree = left_is.tree;
    right_tree = right_is.tree;
    left_unfolds = left_is.unfolds;
    right_unfolds = right_is.unfolds;
    graph = g;
    places = places;
    is_graph = graph;
    distinct = distinct;
    left_lit = l;
    right_lit = r;
    left_within = left_is.within;
    right_within = right_is.within;
    numbered = numbered;
    left_built = left_is.builds;
    right_built = right_is.builds;
    clauses = is;
  }
