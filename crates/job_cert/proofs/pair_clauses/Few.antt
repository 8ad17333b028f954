-- How many clauses a small graph has.
use Rattle.std.proofs.Common.{◌≡◌, ℕ, zero, suc, ◌+◌, ◌*◌, ◌<◌, ◌≤◌, ◌^◌, List, [], ◌∷◌, length, subst, arith, inl, inr}
use Rattle.std.specs.Prelude.{slice_index, ◌⊎◌}
use Rattle.std.specs.List.{Contains}
use Rattle.std.specs.List.Sorted.{IsStrictlyIncreasing}
use Rattle.circuit_theory.proofs.Lists.{Contains-cases}
use Rattle.aig.specs.declared.node.Node.{Node}
use Rattle.aig.specs.Graph.{IsGraph}
use Rattle.pair_decide.specs.declared.cnf_encode.cnf.Cnf.{Cnf}
use Rattle.pair_decide.specs.cnf_encode.Encoding.{IsEncoding, IsSmall}
use Rattle.pair_decide.proofs.Reached.{reached-within}
use Rattle.tree_graph.specs.declared.covers.TheConstants.{MOST_NODES}
use Rattle.std.proofs.lemmas.List.{get_or_default}
use Rattle.std.proofs.lemmas.Option.{slice_get_within}

-- of increasing numbers each is at least its place
at_least : (xs : List ℕ) → IsStrictlyIncreasing xs → (k : ℕ) → k < length xs → k ≤ slice_index xs k
at_least xs h zero lt = omega arith
at_least xs h (suc k) lt =
    let a = at_least xs h k (omega arith) in
    let e : k + 1 ≡ suc k = omega arith in
    let b = subst (λ j. slice_index xs k < slice_index xs j) e (h k (omega arith)) in
    omega (arith, a, b)

increasing_few : (n : ℕ) (xs : List ℕ) → IsStrictlyIncreasing xs → ((x : ℕ) → Contains xs x → x < n) → length xs ≤ n
increasing_few n [] h within = omega arith
increasing_few n (x ∷ xs) h within =
    let last = at_least (x ∷ xs) h (length xs) (omega arith) in
    let below = within (slice_index (x ∷ xs) (length xs)) (length xs, omega arith, same) in
    omega (arith, last, below)
  where
    same : Rattle.std.specs.Prelude.slice_index_or (x ∷ xs) (length xs) (slice_index (x ∷ xs) (length xs)) ≡ slice_index (x ∷ xs) (length xs)
    same = get_or_default (x ∷ xs) (length xs) (slice_index (x ∷ xs) (length xs)) 0 (omega arith)

-- the nodes of the cone are those of the graph
pub cone_within : (g : List Node) (left right : ℕ) (cnf : Cnf) → IsGraph g → left < 2 * length g → right < 2 * length g → IsEncoding g left right 1 cnf → (n : ℕ) → Contains cnf.nodes n → n < length g
cone_within g left right cnf graph l r is n h = reached-within g graph.ordered (left ∷ right ∷ 1 ∷ []) roots (is.nodes_are.reached n h)
  where
    some : 0 < length g
    some = slice_get_within g 0 _ graph.constant

    roots : (x : ℕ) → Contains (left ∷ right ∷ 1 ∷ []) x → x < 2 * length g
    roots x h = first (Contains-cases left x (right ∷ 1 ∷ []) h)
      where
        third : (1 ≡ x) ⊎ Contains [] x → x < 2 * length g
        third (inl e) = omega (arith, e, some)
        third (inr z) = absurd (omega (arith, z.1))

        second : (right ≡ x) ⊎ Contains (1 ∷ []) x → x < 2 * length g
        second (inl e) = omega (arith, e, r)
        second (inr k) = third (Contains-cases 1 x [] k)

        first : (left ≡ x) ⊎ Contains (right ∷ 1 ∷ []) x → x < 2 * length g
        first (inl e) = omega (arith, e, l)
        first (inr k) = second (Contains-cases right x (1 ∷ []) k)

-- the clauses of two literals of a graph of so many nodes
pub clauses_few : (g : List Node) (left right : ℕ) (cnf : Cnf) → IsGraph g → left < 2 * length g → right < 2 * length g → length g ≤ MOST_NODES → IsEncoding g left right 1 cnf → IsSmall cnf → length cnf.clauses ≤ 2 ^ 30
clauses_few g left right cnf graph l r few is small =
    let nodes : length cnf.nodes ≤ length g = increasing_few (length g) cnf.nodes is.nodes_are.increasing (cone_within g left right cnf graph l r is) in
    omega (arith, nodes, few, is.variables_are, small.clauses)

-- the literal that is true
pub true_within : (g : List Node) → IsGraph g → 1 < 2 * length g
true_within g graph = let some = slice_get_within g 0 _ graph.constant in omega (arith, some)
