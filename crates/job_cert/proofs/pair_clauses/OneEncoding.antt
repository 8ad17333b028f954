-- Two literals of a graph have one list of clauses.
use Rattle.std.proofs.Common.{◌≡◌, ℕ, suc, ◌/◌, ◌%◌, ◌<◌, inl, inr, List, [], ◌∷◌, ◌++◌, length, slice_get, Some, refl, sym, ap, subst, ◌∙◌, arith}
use Rattle.std.specs.List.{Contains}
use Rattle.std.specs.List.Sorted.{IsStrictlyIncreasing}
use Rattle.std.proofs.lemmas.List.Kept.{AllPairs-from_increasing}
use Rattle.std.proofs.lemmas.Option.{slice_get_within}
use Rattle.circuit_theory.proofs.Lists.{of_at}
use Rattle.flat_net.proofs.Nets.{some_at}
use Rattle.flat_net.proofs.Places.{one_at}
use Rattle.proof_check.specs.Literals.{Literal}
use Rattle.proof_check.specs.Clauses.{IsClauseOf}
use Rattle.aig.specs.declared.node.Lit.{Lit}
use Rattle.aig.specs.declared.node.Node.{Node}
use Rattle.aig.specs.declared.node.Node.TheVariants.{Constant, Input, And}
use Rattle.aig.specs.Cone.{IsConeOf, IsPartOf, IsPlacedNode, IsPlacedLit}
use Rattle.aig.proofs.Parts.{stands_once}
use Rattle.pair_decide.specs.declared.cnf_encode.cnf.Cnf.{Cnf}
use Rattle.pair_decide.specs.cnf_encode.Encoding.{IsEncoding, AreClausesOf, part_clauses, query_clauses}
use Rattle.tree_graph.proofs.Ordered.{ordered_one}
use Rattle.tree_graph.proofs.OneGraph.{have_one_graph}
use Rattle.tree_graph.specs.Numbering.{IsGraphOf}
use Rattle.circuit_theory.specs.Circuit.{Circuit}
use Rattle.circuit_theory.specs.Tree.{Tree}
use Rattle.circuit_theory.proofs.Numbers.{one_number}
use Rattle.circuit_laws.proofs.OneTree.{one_tree}
use Rattle.flat_net.specs.View.{circuit_of}
use Rattle.job_cert.specs.pair_clauses.Clauses.{AreEncoded, HaveOneEncoding}
use Rattle.job_cert.proofs.pair_clauses.Few.{cone_within}

lower_first : (m n : ℕ) → m < n → n < m → ⊥
lower_first m n h k = omega (arith, h, k)

-- a cone has one list of numbers
nodes_one : (g : List Node) (roots l r : List ℕ) → IsConeOf g roots l → IsConeOf g roots r → l ≡ r
nodes_one g roots l r a b =
    ordered_one (λ m n. m < n) lower_first l r (AllPairs-from_increasing l a.increasing) (AllPairs-from_increasing r b.increasing) (λ n h. b.all n (a.reached n h)) (λ n h. a.all n (b.reached n h))

-- a literal stands at one place
placed_one : (nodes : List ℕ) → IsStrictlyIncreasing nodes → (x y z : ℕ) → IsPlacedLit nodes x y → IsPlacedLit nodes x z → y ≡ z
placed_one nodes rises x y z h k =
    let half : y / 2 ≡ z / 2 = stands_once nodes rises (y / 2) (z / 2) (x / 2) h.1 k.1 in
    let rest : y % 2 ≡ z % 2 = h.0 ∙ sym k.0 in
    omega (arith, half, rest)

one_lit : (s t : Lit) → s.0 ≡ t.0 → s ≡ t
one_lit s t e = ap (λ (n : ℕ). let x : Lit = record { 0 = n } in x) e

placed_node_one : (nodes : List ℕ) → IsStrictlyIncreasing nodes → (node p q : Node) → IsPlacedNode nodes node p → IsPlacedNode nodes node q → p ≡ q
placed_node_one nodes rises Constant p q h k = h ∙ sym k
placed_node_one nodes rises (Input v) p q h k = h ∙ sym k
placed_node_one nodes rises (And l r) p q (s, t, e, left, right) (u, v, d, also, other) =
    let first : s ≡ u = one_lit s u (placed_one nodes rises l.0 s.0 u.0 left also) in
    let second : t ≡ v = one_lit t v (placed_one nodes rises r.0 t.0 v.0 right other) in
    e ∙ ap (λ (x : Lit). And x t) first ∙ ap (λ (x : Lit). And u x) second ∙ sym d

-- lists of one length that have the same at each place
same_each : {X : Type 0} (xs ys : List X) → length xs ≡ length ys → ((k : ℕ) (x y : X) → slice_get xs k ≡ Some x → slice_get ys k ≡ Some y → x ≡ y) → xs ≡ ys
same_each [] [] e same = refl
same_each [] (y ∷ ys) e same = absurd (omega (arith, e))
same_each (x ∷ xs) [] e same = absurd (omega (arith, e))
same_each (x ∷ xs) (y ∷ ys) e same = ap (λ z. z ∷ xs) (same 0 x y refl refl) ∙ ap (λ zs. y ∷ zs) (same_each xs ys (omega (arith, e)) (λ k u v at other. same (suc k) u v at other))

part_one : (g : List Node) (nodes : List ℕ) (p q : List Node) → IsStrictlyIncreasing nodes → ((n : ℕ) → Contains nodes n → n < length g) → IsPartOf g nodes p → IsPartOf g nodes q → p ≡ q
part_one g nodes p q rises within a b = same_each p q (a.each ∙ sym b.each) same
  where
    same : (k : ℕ) (x y : Node) → slice_get p k ≡ Some x → slice_get q k ≡ Some y → x ≡ y
    same k x y at other =
        let inside : k < length nodes = omega (arith, slice_get_within p k x at, a.each) in
        let n = some_at nodes k inside in
        let node = some_at g n.0 (within n.0 (of_at nodes k n.0 n.1)) in
        let left = a.placed k n.0 node.0 n.1 node.1 in
        let right = b.placed k n.0 node.0 n.1 node.1 in
        one_at p k x left.0 at left.1 ∙ placed_node_one nodes rises node.0 left.0 right.0 left.2 right.2 ∙ one_at q k right.0 y right.1 other

variable_first : (l m : Literal) → l.variable < m.variable → m.variable < l.variable → ⊥
variable_first l m h k = omega (arith, h, k)

clause_one : (literals c d : List Literal) → IsClauseOf literals c → IsClauseOf literals d → c ≡ d
clause_one literals c d a b = ordered_one (λ (l m : Literal). l.variable < m.variable) variable_first c d a.0 b.0 (λ l h. (b.1 l).1 ((a.1 l).0 h)) (λ l h. (a.1 l).1 ((b.1 l).0 h))

clauses_one : (literals c d : List (List Literal)) → AreClausesOf literals c → AreClausesOf literals d → c ≡ d
clauses_one [] c d a b = a ∙ sym b
clauses_one (ls ∷ rest) c d (inl (t, a)) (inl (s, b)) = clauses_one rest c d a b
clauses_one (ls ∷ rest) c d (inl (t, a)) (inr (x, others, is, b, e)) = absurd (is.2 t)
clauses_one (ls ∷ rest) c d (inr (x, others, is, a, e)) (inl (t, b)) = absurd (is.2 t)
clauses_one (ls ∷ rest) c d (inr (x, others, is, a, e)) (inr (y, more, also, b, f)) =
    e ∙ ap (λ (z : List Literal). z ∷ others) (clause_one ls x y is also) ∙ ap (λ (zs : List (List Literal)). y ∷ zs) (clauses_one rest others more a b) ∙ sym f

-- two encodings are one
pub record AreOneCnf (c d : Cnf) : Type 0 where
  pub variables : c.variables ≡ d.variables
  pub clauses : c.clauses ≡ d.clauses

pub encoding_one : (g : List Node) (left right care : ℕ) (c d : Cnf) → ((n : ℕ) → Contains c.nodes n → n < length g) → IsEncoding g left right care c → IsEncoding g left right care d → AreOneCnf c d
encoding_one g left right care c d within a b =
    let nodes : c.nodes ≡ d.nodes = nodes_one g (left ∷ right ∷ care ∷ []) c.nodes d.nodes a.nodes_are b.nodes_are in
    let rises = a.nodes_are.increasing in
    let part : a.part ≡ b.part = part_one g c.nodes a.part b.part rises within a.part_is (subst (λ ns. IsPartOf g ns b.part) (sym nodes) b.part_is) in
    let l : a.left_at ≡ b.left_at = placed_one c.nodes rises left a.left_at b.left_at a.left_is (subst (λ ns. IsPlacedLit ns left b.left_at) (sym nodes) b.left_is) in
    let r : a.right_at ≡ b.right_at = placed_one c.nodes rises right a.right_at b.right_at a.right_is (subst (λ ns. IsPlacedLit ns right b.right_at) (sym nodes) b.right_is) in
    let k : a.care_at ≡ b.care_at = placed_one c.nodes rises care a.care_at b.care_at a.care_is (subst (λ ns. IsPlacedLit ns care b.care_at) (sym nodes) b.care_is) in
    let all : (part_clauses 0 a.part ++ query_clauses a.left_at a.right_at a.care_at) ≡ (part_clauses 0 b.part ++ query_clauses b.left_at b.right_at b.care_at) =
    ap (λ (p : List Node). part_clauses 0 p ++ query_clauses a.left_at a.right_at a.care_at) part ∙ ap (λ (x : ℕ). part_clauses 0 b.part ++ query_clauses x a.right_at a.care_at) l
    ∙ ap (λ (x : ℕ). part_clauses 0 b.part ++ query_clauses b.left_at x a.care_at) r ∙ ap (λ (x : ℕ). part_clauses 0 b.part ++ query_clauses b.left_at b.right_at x) k in
    record {
      variables = a.variables_are ∙ ap length nodes ∙ sym b.variables_are;
      clauses = clauses_one (part_clauses 0 a.part ++ query_clauses a.left_at a.right_at a.care_at) c.clauses d.clauses a.clauses_are (subst (λ ls. AreClausesOf ls d.clauses) (sym all) b.clauses_are);
    }

-- two encodings of the same two trees are one
module _ {a b m k : Circuit ℕ} {left right more others : List ℕ} {p q s t : ℕ} (c d : Cnf) (x : AreEncoded a b left right p q c) (y : AreEncoded m k more others s t d) (l : x.left_tree ≡ y.left_tree)
    (r : x.right_tree ≡ y.right_tree) where
  numbered_too : IsGraphOf x.left_tree x.right_tree y.places y.graph y.left_lit y.right_lit
  numbered_too =
      subst (λ (t : Tree ℕ). IsGraphOf t x.right_tree y.places y.graph y.left_lit y.right_lit) (sym l) (subst (λ (t : Tree ℕ). IsGraphOf y.left_tree t y.places y.graph y.left_lit y.right_lit) (sym r) y.numbered)

  pub trees_one_encoding : AreOneCnf c d
  trees_one_encoding =
      let one = have_one_graph x.left_tree x.right_tree x.places y.places x.graph y.graph x.left_lit x.right_lit y.left_lit y.right_lit x.numbered numbered_too in
      let clauses : IsEncoding x.graph x.left_lit x.right_lit 1 d =
      subst (λ (g : List Node). IsEncoding g x.left_lit x.right_lit 1 d) (sym one.1) (subst (λ (z : ℕ). IsEncoding y.graph z x.right_lit 1 d) (sym one.2) (subst (λ (z : ℕ). IsEncoding y.graph y.left_lit z 1 d) (sym one.3) y.clauses)) in
      encoding_one x.graph x.left_lit x.right_lit 1 c d (cone_within x.graph x.left_lit x.right_lit c x.is_graph x.left_within x.right_within x.clauses) x.clauses clauses

-- two places have one list of clauses
pub have_one_encoding : HaveOneEncoding
have_one_encoding a b left right p q c d net_a net_b x y =
    let l : x.left_tree ≡ y.left_tree = (one_tree (circuit_of a) left net_a.single (λ s i j u v. one_number (circuit_of a).inputs left net_a.inputs s i j u v) x.left_unfolds y.left_unfolds).0 in
    let r : x.right_tree ≡ y.right_tree = (one_tree (circuit_of b) right net_b.single (λ s i j u v. one_number (circuit_of b).inputs right net_b.inputs s i j u v) x.right_unfolds y.right_unfolds).0 in
    let same = trees_one_encoding c d x y l r in
    (same.variables, same.clauses)
