-- How many clauses an encoding has, and of which variables.
use Rattle.std.proofs.Common.{◌≡◌, ℕ, suc, ◌+◌, ◌*◌, ◌/◌, ◌<◌, ◌≤◌, ◌^◌, inl, inr, List, [], ◌∷◌, ◌++◌, length, slice_get, Some, refl, sym, ap, subst, arith}
use Rattle.std.specs.List.{All}
use Rattle.std.proofs.lemmas.List.{length-append}
use Rattle.std.proofs.lemmas.List.Elements.{All-nil, All-cons, All-head, All-tail, All-append, All-contains}
use Rattle.std.proofs.lemmas.Option.{slice_get_within}
use Rattle.aig.proofs.circuit_theory.Lists.{All-from_each}
use Rattle.proof_check.specs.Literals.{Literal, negation}
use Rattle.proof_check.specs.Clauses.{IsClauseOf}
use Rattle.aig.specs.declared.node.Node.{Node}
use Rattle.aig.specs.declared.node.Node.TheVariants.{Constant, Input, And}
use Rattle.aig.specs.Graph.{IsOrdered, IsAbove}
use Rattle.aig.specs.Cone.{IsPlacedLit}
use Rattle.pair_decide.specs.declared.cnf_encode.cnf.Cnf.{Cnf}
use Rattle.pair_decide.specs.cnf_encode.Encoding.{literal_of, literal_at, and_clauses, node_clauses, part_clauses, query_clauses, AreClausesOf, IsSmall}

pub few-clauses : (xs cs : List (List Literal)) → AreClausesOf xs cs → length cs ≤ length xs
few-clauses [] cs h = omega (arith, ap length h)
few-clauses (x ∷ xs) cs (inl (both, h)) = omega (arith, few-clauses xs cs h)
few-clauses (x ∷ xs) cs (inr (c, others, is, h, e)) = omega (arith, few-clauses xs others h, ap length e)

node-few : (k : ℕ) (node : Node) → length (node_clauses k node) ≤ 3
node-few k Constant = omega arith
node-few k (Input u) = omega arith
node-few k (And l r) = omega arith

pub part-few : (k : ℕ) (part : List Node) → length (part_clauses k part) ≤ 3 * length part
part-few k [] = omega arith
part-few k (node ∷ part) = omega (arith, length-append (node_clauses k node) (part_clauses (suc k) part), node-few k node, part-few (suc k) part)

module _ (n : ℕ) where
  -- the literal's variable is from 1 to n
  abbrev pub IsIn : Literal → Type 0
  IsIn l = (0 < l.variable) × (l.variable ≤ n)

  abbrev pub AllIn : List Literal → Type 0
  AllIn c = All IsIn c

  clause-in : (literals c : List Literal) → IsClauseOf literals c → AllIn literals → AllIn c
  clause-in literals c is all = All-from_each IsIn c (λ l there. All-contains IsIn literals l all ((is.1 l).0 there))

  -- clauses are of the variables that their literals are of
  pub clauses-in : (xs cs : List (List Literal)) → AreClausesOf xs cs → All AllIn xs → All AllIn cs
  clauses-in [] cs h all = subst (All AllIn) (sym h) (All-nil AllIn)
  clauses-in (x ∷ xs) cs (inl (both, h)) all = clauses-in xs cs h (All-tail AllIn x xs all)
  clauses-in (x ∷ xs) cs (inr (c, others, is, h, e)) all =
      subst (All AllIn) (sym e) (All-cons AllIn c others (clause-in x c is (All-head AllIn x xs all)) (clauses-in xs others h (All-tail AllIn x xs all)))

  one-in : (l : Literal) → IsIn l → AllIn (l ∷ [])
  one-in l a = All-cons IsIn l [] a (All-nil IsIn)

  two-in : (l m : Literal) → IsIn l → IsIn m → AllIn (l ∷ m ∷ [])
  two-in l m a b = All-cons IsIn l (m ∷ []) a (one-in m b)

  and-in : (at left right : Literal) → IsIn at → IsIn left → IsIn right → All AllIn (and_clauses at left right)
  and-in at left right a b c =
      All-cons AllIn (negation at ∷ left ∷ []) ((negation at ∷ right ∷ []) ∷ (at ∷ negation left ∷ negation right ∷ []) ∷ []) (two-in (negation at) left a b)
      (All-cons AllIn (negation at ∷ right ∷ []) ((at ∷ negation left ∷ negation right ∷ []) ∷ []) (two-in (negation at) right a c)
      (All-cons AllIn (at ∷ negation left ∷ negation right ∷ []) [] (All-cons IsIn at (negation left ∷ negation right ∷ []) a (two-in (negation left) (negation right) b c)) (All-nil AllIn)))

  node-in : (k : ℕ) (node : Node) → k < n → IsAbove k node → All AllIn (node_clauses k node)
  node-in k Constant inside above = All-cons AllIn (negation (literal_at k) ∷ []) [] (one-in (negation (literal_at k)) (omega arith, omega arith)) (All-nil AllIn)
  node-in k (Input u) inside above = All-nil AllIn
  node-in k (And l r) inside (lesser, greater) = and-in (literal_at k) (literal_of l.0) (literal_of r.0) (omega arith, omega arith) (omega arith, omega arith) (omega arith, omega arith)

  pub part-in : (k : ℕ) (part : List Node) → k + length part ≤ n → ((j : ℕ) (node : Node) → slice_get part j ≡ Some node → IsAbove (k + j) node) → All AllIn (part_clauses k part)
  part-in k [] within above = All-nil AllIn
  part-in k (node ∷ part) within above =
      let here : k + 0 ≡ k = omega arith in
      All-append AllIn (node_clauses k node) (part_clauses (suc k) part) (node-in k node (omega arith) (subst (λ (i : ℕ). IsAbove i node) here (above 0 node refl)))
      (part-in (suc k) part (omega arith) (λ j p at. let later : k + suc j ≡ suc k + j = omega arith in subst (λ (i : ℕ). IsAbove i p) later (above (suc j) p at)))

  pub query-in : (left right care : ℕ) → left / 2 < n → right / 2 < n → care / 2 < n → All AllIn (query_clauses left right care)
  query-in left right care a b c =
      All-cons AllIn (literal_of care ∷ []) ((literal_of left ∷ literal_of right ∷ []) ∷ (negation (literal_of left) ∷ negation (literal_of right) ∷ []) ∷ []) (one-in (literal_of care) (omega arith, omega arith))
      (All-cons AllIn (literal_of left ∷ literal_of right ∷ []) ((negation (literal_of left) ∷ negation (literal_of right) ∷ []) ∷ []) (two-in (literal_of left) (literal_of right) (omega arith, omega arith) (omega arith, omega arith))
      (All-cons AllIn (negation (literal_of left) ∷ negation (literal_of right) ∷ []) [] (two-in (negation (literal_of left)) (negation (literal_of right)) (omega arith, omega arith) (omega arith, omega arith)) (All-nil AllIn)))

  pub all-in : (part : List Node) (left right care : ℕ) → length part ≡ n → IsOrdered part → left / 2 < n → right / 2 < n → care / 2 < n → All AllIn (part_clauses 0 part ++ query_clauses left right care)
  all-in part left right care each ordered a b c =
      All-append AllIn (part_clauses 0 part) (query_clauses left right care) (part-in 0 part (omega (arith, each)) (λ j p at. let same : j ≡ 0 + j = omega arith in subst (λ (i : ℕ). IsAbove i p) same (ordered j p at))) (query-in left right care a b c)

-- the size of the whole encoding
pub small-of : (e : Cnf) (part : List Node) (l r care left right at_care : ℕ) → e.variables ≡ length part → length part ≡ length e.nodes → length e.nodes < 2 ^ 30 → IsOrdered part
    → IsPlacedLit e.nodes l left → IsPlacedLit e.nodes r right → IsPlacedLit e.nodes care at_care → AreClausesOf (part_clauses 0 part ++ query_clauses left right at_care) e.clauses → IsSmall e
small-of e part l r care left right at_care each same few ordered a b c are = record {
  variables = omega (arith, each, same, few);
  clauses = omega (arith, each, few-clauses (part_clauses 0 part ++ query_clauses left right at_care) e.clauses are, length-append (part_clauses 0 part) (query_clauses left right at_care), part-few 0 part, three);
  range = clauses-in e.variables (part_clauses 0 part ++ query_clauses left right at_care) e.clauses are (all-in e.variables part left right at_care (sym each) ordered (inside l left a) (inside r right b) (inside care at_care c));
}
  where
    three : length (query_clauses left right at_care) ≡ 3
    three = refl

    inside : (x y : ℕ) → IsPlacedLit e.nodes x y → y / 2 < e.variables
    inside x y placed = omega (arith, each, same, slice_get_within e.nodes (y / 2) (x / 2) placed.1)
