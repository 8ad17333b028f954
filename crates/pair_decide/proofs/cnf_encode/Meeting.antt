-- Which values meet the clauses of literals, of nodes and of a query.
use Rattle.std.proofs.Common.{◌≡◌, ◌≢◌, ℕ, zero, suc, ◌+◌, inl, inr, Bool, true, false, List, [], ◌∷◌, ◌++◌, slice_get, Some, refl, sym, ◌∙◌, ap, subst, arith}
use Rattle.std.specs.Prelude.{not, ◌&&◌, ◌||◌, if◌then◌else◌}
use Rattle.std.proofs.lemmas.List.Elements.{All-nil, All-cons, All-head, All-tail, All-append, All-contains, Contains-append_left, Contains-append_right}
use Rattle.std.proofs.lemmas.Option.{none-some, same_Some}
use Rattle.aig.proofs.circuit_theory.Lists.{All-from_each}
use Rattle.proof_check.specs.Literals.{Literal, negation, literal_value}
use Rattle.proof_check.specs.Clauses.{IsClauseOf, IsTautology, Satisfies, clause_value}
use Rattle.proof_check.proofs.Sound.{true_literal, true_clause}
use Rattle.aig.specs.declared.node.Node.{Node}
use Rattle.aig.specs.declared.node.Node.TheVariants.{Constant, Input, And}
use Rattle.pair_decide.specs.cnf_encode.Encoding.{literal_of, literal_at, and_clauses, node_clauses, part_clauses, query_clauses, AreClausesOf}

module _ (v : ℕ → Bool) where
  negation-value : (l : Literal) → literal_value v (negation l) ≡ not (literal_value v l)
  negation-value l = by l.positive (v l.variable)
    where
      by : (s b : Bool) → (if not s then b else not b) ≡ not (if s then b else not b)
      by true true = refl
      by true false = refl
      by false true = refl
      by false false = refl

  -- literals that hold both signs of a variable are met
  tautology-true : (literals : List Literal) → IsTautology literals → clause_value v literals ≡ true
  tautology-true literals (l, one, other) = by (literal_value v l) refl
    where
      by : (b : Bool) → literal_value v l ≡ b → clause_value v literals ≡ true
      by true e = true_clause v literals l one e
      by false e = true_clause v literals (negation l) other (negation-value l ∙ ap not e)

  clause-from : (literals c : List Literal) → IsClauseOf literals c → clause_value v c ≡ true → clause_value v literals ≡ true
  clause-from literals c is e = let (l, there, holds) = true_literal v c e in true_clause v literals l ((is.1 l).0 there) holds

  clause-to : (literals c : List Literal) → IsClauseOf literals c → clause_value v literals ≡ true → clause_value v c ≡ true
  clause-to literals c is e = let (l, there, holds) = true_literal v literals e in true_clause v c l ((is.1 l).1 there) holds

  -- the clauses of literals are met exactly where the literals are
  pub met-from : (xs cs : List (List Literal)) → AreClausesOf xs cs → Satisfies v cs → Satisfies v xs
  met-from [] cs h met = All-nil (λ (c : List Literal). clause_value v c ≡ true)
  met-from (x ∷ xs) cs (inl (both, h)) met = All-cons (λ (c : List Literal). clause_value v c ≡ true) x xs (tautology-true x both) (met-from xs cs h met)
  met-from (x ∷ xs) cs (inr (c, others, is, h, e)) met =
      let all : Satisfies v (c ∷ others) = subst (Satisfies v) e met in
      All-cons (λ (d : List Literal). clause_value v d ≡ true) x xs (clause-from x c is (All-head (λ (d : List Literal). clause_value v d ≡ true) c others all)) (met-from xs others h (All-tail (λ (d : List Literal). clause_value v d ≡ true) c others all))

  pub met-to : (xs cs : List (List Literal)) → AreClausesOf xs cs → Satisfies v xs → Satisfies v cs
  met-to [] cs h met = subst (Satisfies v) (sym h) (All-nil (λ (c : List Literal). clause_value v c ≡ true))
  met-to (x ∷ xs) cs (inl (both, h)) met = met-to xs cs h (All-tail (λ (c : List Literal). clause_value v c ≡ true) x xs met)
  met-to (x ∷ xs) cs (inr (c, others, is, h, e)) met =
      subst (Satisfies v) (sym e) (All-cons (λ (d : List Literal). clause_value v d ≡ true) c others (clause-to x c is (All-head (λ (d : List Literal). clause_value v d ≡ true) x xs met)) (met-to xs others h (All-tail (λ (d : List Literal). clause_value v d ≡ true) x xs met)))

  pub met-front : (xs ys : List (List Literal)) → Satisfies v (xs ++ ys) → Satisfies v xs
  met-front xs ys met = All-from_each (λ (c : List Literal). clause_value v c ≡ true) xs (λ c there. All-contains (λ (d : List Literal). clause_value v d ≡ true) (xs ++ ys) c met (Contains-append_left xs ys c there))

  pub met-back : (xs ys : List (List Literal)) → Satisfies v (xs ++ ys) → Satisfies v ys
  met-back xs ys met = All-from_each (λ (c : List Literal). clause_value v c ≡ true) ys (λ c there. All-contains (λ (d : List Literal). clause_value v d ≡ true) (xs ++ ys) c met (Contains-append_right xs ys c there))

  pub met-both : (xs ys : List (List Literal)) → Satisfies v xs → Satisfies v ys → Satisfies v (xs ++ ys)
  met-both xs ys first second = All-append (λ (c : List Literal). clause_value v c ≡ true) xs ys first second

  met-three : (a b c : List Literal) → clause_value v a ≡ true → clause_value v b ≡ true → clause_value v c ≡ true → Satisfies v (a ∷ b ∷ c ∷ [])
  met-three a b c p q r =
      All-cons (λ (d : List Literal). clause_value v d ≡ true) a (b ∷ c ∷ []) p (All-cons (λ (d : List Literal). clause_value v d ≡ true) b (c ∷ []) q (All-cons (λ (d : List Literal). clause_value v d ≡ true) c [] r (All-nil (λ (d : List Literal). clause_value v d ≡ true))))

  three-met : (a b c : List Literal) → Satisfies v (a ∷ b ∷ c ∷ []) → (clause_value v a ≡ true) × (clause_value v b ≡ true) × (clause_value v c ≡ true)
  three-met a b c met =
      let rest : Satisfies v (b ∷ c ∷ []) = All-tail (λ (d : List Literal). clause_value v d ≡ true) a (b ∷ c ∷ []) met in
      let last : Satisfies v (c ∷ []) = All-tail (λ (d : List Literal). clause_value v d ≡ true) b (c ∷ []) rest in
      (All-head (λ (d : List Literal). clause_value v d ≡ true) a (b ∷ c ∷ []) met, All-head (λ (d : List Literal). clause_value v d ≡ true) b (c ∷ []) rest, All-head (λ (d : List Literal). clause_value v d ≡ true) c [] last)

  -- the clauses of an and are met exactly where the literal is the and of the others
  and-from : (at left right : Literal) → Satisfies v (and_clauses at left right) → literal_value v at ≡ (literal_value v left && literal_value v right)
  and-from at left right met =
      let (p, q, r) = three-met (negation at ∷ left ∷ []) (negation at ∷ right ∷ []) (at ∷ negation left ∷ negation right ∷ []) met in
      by (literal_value v at) (literal_value v left) (literal_value v right) (literal_value v (negation at)) (literal_value v (negation left)) (literal_value v (negation right)) (negation-value at) (negation-value left) (negation-value right) p q r
    where
      by : (a x y na nx ny : Bool) → na ≡ not a → nx ≡ not x → ny ≡ not y → (na || (x || false)) ≡ true → (na || (y || false)) ≡ true → (a || (nx || (ny || false))) ≡ true → a ≡ (x && y)
      by true true true na nx ny e f g p q r = refl
      by true true false na nx ny e f g p q r = absurd (let h : false ≡ true = sym (ap (λ (b : Bool). b || (false || false)) e) ∙ q in cc)
      by true false y na nx ny e f g p q r = absurd (let h : false ≡ true = sym (ap (λ (b : Bool). b || (false || false)) e) ∙ p in cc)
      by false true true na nx ny e f g p q r = absurd (let h : false ≡ true = sym (ap (λ (b : Bool). b || (ny || false)) f ∙ ap (λ (b : Bool). b || false) g) ∙ r in cc)
      by false true false na nx ny e f g p q r = refl
      by false false y na nx ny e f g p q r = refl

  and-to : (at left right : Literal) → literal_value v at ≡ (literal_value v left && literal_value v right) → Satisfies v (and_clauses at left right)
  and-to at left right is =
      let h = by (literal_value v at) (literal_value v left) (literal_value v right) (literal_value v (negation at)) (literal_value v (negation left)) (literal_value v (negation right)) (negation-value at) (negation-value left) (negation-value right) is in
      met-three (negation at ∷ left ∷ []) (negation at ∷ right ∷ []) (at ∷ negation left ∷ negation right ∷ []) h.0 h.1 h.2
    where
      by : (a x y na nx ny : Bool) → na ≡ not a → nx ≡ not x → ny ≡ not y → a ≡ (x && y) → ((na || (x || false)) ≡ true) × ((na || (y || false)) ≡ true) × ((a || (nx || (ny || false))) ≡ true)
      by true true true na nx ny e f g is = (or-true na, or-true na, refl)
        where
          or-true : (b : Bool) → (b || true) ≡ true
          or-true true = refl
          or-true false = refl
      by true true false na nx ny e f g is = absurd (let h : true ≡ false = is in cc)
      by true false y na nx ny e f g is = absurd (let h : true ≡ false = is in cc)
      by false true true na nx ny e f g is = absurd (let h : false ≡ true = is in cc)
      by false true false na nx ny e f g is = (ap (λ (b : Bool). b || true) e, ap (λ (b : Bool). b || (false || false)) e, ap (λ (b : Bool). b || (ny || false)) f ∙ ap (λ (b : Bool). false || (b || false)) g)
      by false false y na nx ny e f g is = (ap (λ (b : Bool). b || (false || false)) e, ap (λ (b : Bool). b || (y || false)) e, ap (λ (b : Bool). false || (b || (ny || false))) f)

  -- what the clauses of a node say
  abbrev pub NodeHolds : ℕ → Node → Type 0
  NodeHolds k Constant = v (k + 1) ≡ false
  NodeHolds k (Input u) = Unit {0}
  NodeHolds k (And l r) = v (k + 1) ≡ (literal_value v (literal_of l.0) && literal_value v (literal_of r.0))

  pub node-from : (k : ℕ) (node : Node) → Satisfies v (node_clauses k node) → NodeHolds k node
  node-from k Constant met = by (v (k + 1)) (All-head (λ (d : List Literal). clause_value v d ≡ true) (negation (literal_at k) ∷ []) [] met)
    where
      by : (b : Bool) → (not b || false) ≡ true → b ≡ false
      by true e = absurd (let h : false ≡ true = e in cc)
      by false e = refl
  node-from k (Input u) met = tt
  node-from k (And l r) met = and-from (literal_at k) (literal_of l.0) (literal_of r.0) met

  pub node-to : (k : ℕ) (node : Node) → NodeHolds k node → Satisfies v (node_clauses k node)
  node-to k Constant is = All-cons (λ (d : List Literal). clause_value v d ≡ true) (negation (literal_at k) ∷ []) [] (ap (λ (b : Bool). not b || false) is) (All-nil (λ (d : List Literal). clause_value v d ≡ true))
  node-to k (Input u) is = All-nil (λ (d : List Literal). clause_value v d ≡ true)
  node-to k (And l r) is = and-to (literal_at k) (literal_of l.0) (literal_of r.0) is

  -- those of all nodes
  pub part-from : (k : ℕ) (part : List Node) → Satisfies v (part_clauses k part) → (j : ℕ) (node : Node) → slice_get part j ≡ Some node → NodeHolds (k + j) node
  part-from k [] met j node at = absurd (none-some node at)
  part-from k (x ∷ part) met zero node at =
      let here : k ≡ k + 0 = omega arith in
      subst (λ (i : ℕ). NodeHolds i node) here (subst (NodeHolds k) (same_Some x node at) (node-from k x (met-front (node_clauses k x) (part_clauses (suc k) part) met)))
  part-from k (x ∷ part) met (suc j) node at =
      let later : suc k + j ≡ k + suc j = omega arith in
      subst (λ (i : ℕ). NodeHolds i node) later (part-from (suc k) part (met-back (node_clauses k x) (part_clauses (suc k) part) met) j node at)

  pub part-to : (k : ℕ) (part : List Node) → ((j : ℕ) (node : Node) → slice_get part j ≡ Some node → NodeHolds (k + j) node) → Satisfies v (part_clauses k part)
  part-to k [] each = All-nil (λ (d : List Literal). clause_value v d ≡ true)
  part-to k (x ∷ part) each =
      let here : k + 0 ≡ k = omega arith in
      met-both (node_clauses k x) (part_clauses (suc k) part) (node-to k x (subst (λ (i : ℕ). NodeHolds i x) here (each 0 x refl)))
      (part-to (suc k) part (λ j node at. let later : k + suc j ≡ suc k + j = omega arith in subst (λ (i : ℕ). NodeHolds i node) later (each (suc j) node at)))

  -- those of the query
  pub query-from : (left right care : ℕ) → Satisfies v (query_clauses left right care) → (literal_value v (literal_of care) ≡ true) × (literal_value v (literal_of left) ≢ literal_value v (literal_of right))
  query-from left right care met =
      let (p, q, r) = three-met (literal_of care ∷ []) (literal_of left ∷ literal_of right ∷ []) (negation (literal_of left) ∷ negation (literal_of right) ∷ []) met in (
        only (literal_value v (literal_of care)) p,
        by (literal_value v (literal_of left)) (literal_value v (literal_of right)) (literal_value v (negation (literal_of left))) (literal_value v (negation (literal_of right))) (negation-value (literal_of left)) (negation-value (literal_of right)) q r,
      )
    where
      only : (b : Bool) → (b || false) ≡ true → b ≡ true
      only true e = refl
      only false e = e

      by : (x y nx ny : Bool) → nx ≡ not x → ny ≡ not y → (x || (y || false)) ≡ true → (nx || (ny || false)) ≡ true → x ≢ y
      by true true nx ny e f p q same = let h : false ≡ true = sym (ap (λ (b : Bool). b || (ny || false)) e ∙ ap (λ (b : Bool). b || false) f) ∙ q in cc
      by true false nx ny e f p q same = let h : true ≡ false = same in cc
      by false true nx ny e f p q same = let h : false ≡ true = same in cc
      by false false nx ny e f p q same = let h : false ≡ true = p in cc

  pub query-to : (left right care : ℕ) → literal_value v (literal_of care) ≡ true → literal_value v (literal_of left) ≢ literal_value v (literal_of right) → Satisfies v (query_clauses left right care)
  query-to left right care holds differ =
      let h = by (literal_value v (literal_of left)) (literal_value v (literal_of right)) (literal_value v (negation (literal_of left))) (literal_value v (negation (literal_of right))) (negation-value (literal_of left)) (negation-value (literal_of right)) differ in
      met-three (literal_of care ∷ []) (literal_of left ∷ literal_of right ∷ []) (negation (literal_of left) ∷ negation (literal_of right) ∷ []) (ap (λ (b : Bool). b || false) holds) h.0 h.1
    where
      by : (x y nx ny : Bool) → nx ≡ not x → ny ≡ not y → x ≢ y → ((x || (y || false)) ≡ true) × ((nx || (ny || false)) ≡ true)
      by true true nx ny e f apart = absurd (apart refl)
      by true false nx ny e f apart = (refl, ap (λ (b : Bool). b || (ny || false)) e ∙ ap (λ (b : Bool). b || false) f)
      by false true nx ny e f apart = (refl, ap (λ (b : Bool). b || (ny || false)) e)
      by false false nx ny e f apart = absurd (apart refl)
