-- Event nodes and their places in an order of nodes.
use Rattle.std.proofs.Common.{◌≡◌, ◌∙◌, ℕ, zero, suc, ◌+◌, ◌-◌, ◌<◌, ◌≤◌, List, ◌∷◌, length, reverse, get_or, slice_get, Option, Some, None, refl, sym, ap, subst, arith, inl, inr}
use Rattle.std.specs.Prelude.{◌⊎◌}
use Rattle.std.proofs.lemmas.List.{length-replicate}
use Rattle.std.proofs.lemmas.Option.{same_Some, get_or_from_slice_get}
use Rattle.circuit_theory.specs.Names.{ListBefore}
use Rattle.circuit_theory.specs.Query.{Variable}
use Rattle.circuit_theory.proofs.Lists.{map_at}
use Rattle.circuit_theory.specs.Frame.{NodeBefore}
use Rattle.flat_net.proofs.Nets.{some_at}
use Rattle.circuit_laws.specs.reset_laws.Reset.{CycleBefore}
use Rattle.base_tables.specs.Table.{AreDistinct}
use Rattle.event_nodes.specs.Nodes.{IsTree, path_of}
use Rattle.event_nodes.proofs.OnePath.{one_node}
use Rattle.event_nodes.specs.event_variables.Variables.{PathBefore}
use Rattle.event_nodes.proofs.event_variables.Climbing.{root_path, parent_child}
use Rattle.event_nodes.proofs.event_variables.NodeOrder.{node_trans}
use Rattle.event_nodes.specs.event_variables.ranked_nodes.Ranks.{AreRanked}
use Rattle.event_nodes.specs.declared.event_variables.ranked_nodes.ranks.RankedNodes.{RankedNodes}
use Rattle.event_nodes.proofs.event_variables.ranked_nodes.Zeros.{nodes_apart, path_irreflexive}
use Rattle.event_nodes.specs.event_variables.ranked_nodes.Named.{path_by, path_at, named_ranks}

-- a path has no more steps than there are entries
module _ (es : List (ℕ × ℕ)) (tree : IsTree es) where
  path_low : (R n : ℕ) → n < R → n ≤ length es → length (path_of es n) ≤ n
  path_low zero n low inside = absurd (omega (arith, low))
  path_low (suc R) zero low inside = let e = root_path es 0 (omega arith) in omega (arith, ap length e)
  path_low (suc R) (suc m) low inside =
      let x = some_at es m (omega (arith, inside)) in
      let back : suc m - 1 ≡ m = omega arith in
      let up : path_of es (suc m) ≡ x.0.1 ∷ path_of es x.0.0 = parent_child es tree (suc m) x.0 (omega arith) (ap (slice_get es) back ∙ x.1) in
      let below : x.0.0 ≤ m = tree m x.0.0 x.0.1 x.1 in
      let rest = path_low R x.0.0 (omega (arith, below, low)) (omega (arith, below, inside)) in
      omega (arith, ap length up, rest, below)

  pub path_short : (n : ℕ) → n ≤ length es → length (path_of es n) ≤ length es
  path_short n inside = let h = path_low (suc n) n (omega arith) inside in omega (arith, h, inside)

-- two paths don't go before each other
pub path_antisymmetric : (p q : List ℕ) → PathBefore p q → PathBefore q p → ⊥
path_antisymmetric p q first second = path_irreflexive p (back (node_trans x y x (forth p q first) (forth q p second)))
  where
    x : Variable (List ℕ)
    x = record { input = 0; at = p }

    y : Variable (List ℕ)
    y = record { input = 0; at = q }

    forth : (a b : List ℕ) → PathBefore a b → NodeBefore (record { input = 0; at = a }) (record { input = 0; at = b })
    forth a b (inl h) = inl h
    forth a b (inr h) = inr (h.0, inl h.1)

    back : NodeBefore (record { input = 0; at = p }) (record { input = 0; at = p }) → PathBefore p p
    back (inl h) = inl h
    back (inr (e, inl h)) = inr (e, h)
    back (inr (e, inr h)) = absurd (let low = h.1 in omega (arith, low))

module _ (children : List (ℕ × ℕ)) (r : RankedNodes) (k : AreRanked children r) where
  abbrev pub rank : ℕ → ℕ
  rank n = get_or r.ranks.items n 0

  pub rank_node : (n : ℕ) → n ≤ length children → slice_get r.nodes (rank n) ≡ Some n
  rank_node n inside = let t = k.there n inside in ap (slice_get r.nodes) (get_or_from_slice_get r.ranks.items n t.0 0 t.1) ∙ t.2

  pub path_rank : (n : ℕ) → n ≤ length children → path_at children r.nodes (rank n) ≡ path_of children n
  path_rank n inside = ap (path_by children (rank n)) (rank_node n inside)

  pub rank_one : (m n : ℕ) → m ≤ length children → n ≤ length children → rank m ≡ rank n → m ≡ n
  rank_one m n inside also e = same_Some m n (sym (rank_node m inside) ∙ (ap (slice_get r.nodes) e ∙ rank_node n also))

  -- a node of a lower place goes before
  pub lower_before : (m n : ℕ) → m ≤ length children → n ≤ length children → rank m < rank n → PathBefore (path_of children m) (path_of children n)
  lower_before m n inside also low = k.in_order (rank m) (rank n) m n low (rank_node m inside) (rank_node n also)

  -- what goes before has the lower place
  pub before_lower : (m n i j : ℕ) → m ≤ length children → n ≤ length children → NodeBefore (record { input = i; at = path_of children m }) (record { input = j; at = path_of children n }) → CycleBefore (record { input = i; at = rank m }) (record { input = j; at = rank n })
  before_lower m n i j inside also before = go (order (rank m) (rank n)) before
    where
      order : (a b : ℕ) → (a < b) ⊎ ((b < a) ⊎ (a ≡ b))
      order a b = grind arith

      same : rank m ≡ rank n → NodeBefore (record { input = i; at = path_of children m }) (record { input = j; at = path_of children n }) → i < j
      same e h = by (ap (path_of children) (rank_one m n inside also e)) h
        where
          by : path_of children m ≡ path_of children n → NodeBefore (record { input = i; at = path_of children m }) (record { input = j; at = path_of children n }) → i < j
          by q (inl longer) = absurd (let l = ap length q in omega (arith, longer, l))
          by q (inr (l, inl lists)) = absurd (path_irreflexive (path_of children m) (inr (refl, subst (λ (z : List ℕ). ListBefore (reverse (path_of children m)) (reverse z)) (sym q) lists)))
          by q (inr (l, inr low)) = low.1

      wrong : rank n < rank m → NodeBefore (record { input = i; at = path_of children m }) (record { input = j; at = path_of children n }) → ⊥
      wrong low (inl longer) = path_antisymmetric (path_of children m) (path_of children n) (inl longer) (lower_before n m also inside low)
      wrong low (inr (l, inl lists)) = path_antisymmetric (path_of children m) (path_of children n) (inr (l, lists)) (lower_before n m also inside low)
      wrong low (inr (l, inr h)) = path_irreflexive (path_of children n) (subst (λ (z : List ℕ). PathBefore (path_of children n) z) h.0 (lower_before n m also inside low))

      go : (rank m < rank n) ⊎ ((rank n < rank m) ⊎ (rank m ≡ rank n)) → NodeBefore (record { input = i; at = path_of children m }) (record { input = j; at = path_of children n }) → CycleBefore (record { input = i; at = rank m }) (record { input = j; at = rank n })
      go (inl low) h = inl low
      go (inr (inl high)) h = absurd (wrong high h)
      go (inr (inr e)) h = inr (e, same e h)

  -- and the other way round
  pub lower_goes : (m n i j : ℕ) → m ≤ length children → n ≤ length children → CycleBefore (record { input = i; at = rank m }) (record { input = j; at = rank n }) → NodeBefore (record { input = i; at = path_of children m }) (record { input = j; at = path_of children n })
  lower_goes m n i j inside also (inl low) = wider (lower_before m n inside also low)
    where
      wider : PathBefore (path_of children m) (path_of children n) → NodeBefore (record { input = i; at = path_of children m }) (record { input = j; at = path_of children n })
      wider (inl h) = inl h
      wider (inr h) = inr (h.0, inl h.1)
  lower_goes m n i j inside also (inr h) =
      let q : path_of children m ≡ path_of children n = ap (path_of children) (rank_one m n inside also h.0) in
      inr (ap length q, inr (q, h.1))

  module _ (tree : IsTree children) (once : AreDistinct children) where
    -- no two places have one path
    pub path_one : (i j : ℕ) → path_at children r.nodes i ≡ path_at children r.nodes j → i ≡ j
    path_one i j e = go (slice_get r.nodes i) (slice_get r.nodes j) refl refl e
      where
        far : (o : ℕ) → length (path_by children o None) ≡ length children + 1 + o
        far o = length-replicate (length children + 1 + o) 0

        go : (o p : Option ℕ) → slice_get r.nodes i ≡ o → slice_get r.nodes j ≡ p → path_by children i o ≡ path_by children j p → i ≡ j
        go (Some m) (Some n) at_i at_j same =
            let one : m ≡ n = one_node children tree once m n (k.within i m at_i) (k.within j n at_j) same in
            nodes_apart children r.nodes k.in_order i j n (at_i ∙ ap Some one) at_j
        go (Some m) None at_i at_j same = absurd (let low = path_short children tree m (k.within i m at_i) in omega (arith, low, ap length same, far j))
        go None (Some n) at_i at_j same = absurd (let low = path_short children tree n (k.within j n at_j) in omega (arith, low, ap length same, far i))
        go None None at_i at_j same = omega (arith, ap length same, far i, far j)

    -- so a table without doubles has none by paths
    pub named_apart : (table : List (ℕ × ℕ)) → AreDistinct table → AreDistinct (named_ranks children r.nodes table)
    named_apart table distinct i j x first second =
        let name : ℕ × ℕ → ℕ × List ℕ = λ p. (p.0, path_at children r.nodes p.1) in
        let p = map_at name table i x first in
        let q = map_at name table j x second in
        let both : name p.0 ≡ name q.0 = p.2 ∙ sym q.2 in
        let input : p.0.0 ≡ q.0.0 = ap (λ (z : ℕ × List ℕ). z.0) both in
        let node : p.0.1 ≡ q.0.1 = path_one p.0.1 q.0.1 (ap (λ (z : ℕ × List ℕ). z.1) both) in
        let same : p.0 ≡ q.0 = λ l. (input l, node l) in
        distinct i j p.0 p.1 (subst (λ (z : ℕ × ℕ). slice_get table j ≡ Some z) (sym same) q.1)
