-- Clauses that are put behind others.
use Rattle.std.proofs.Common.{◌≡◌, ℕ, suc, ◌+◌, inl, inr, List, [], ◌∷◌, ◌++◌, length, take, slice_get, Some, Result, Ok, Err, OnOk, refl, sym, ◌∙◌, ap, subst, arith, append_assoc}
use Rattle.std.proofs.lemmas.List.{length-take-le}
use Rattle.std.proofs.lemmas.Option.{slice_get_within}
use Rattle.aig.proofs.TableLemmas.{take-push}
use Rattle.proof_check.specs.Literals.{Literal, negation}
use Rattle.proof_check.specs.Clauses.{IsClauseOf, IsTautology}
use Rattle.aig.specs.declared.node.Lit.{Lit}
use Rattle.aig.specs.declared.node.Node.{Node}
use Rattle.aig.specs.declared.node.Node.TheVariants.{Constant, And}
use Rattle.pair_decide.specs.cnf_encode.Encoding.{literal_of, literal_at, and_clauses, node_clauses, part_clauses, query_clauses, AreClausesOf, Adds}

nil : {X : Type 0} (xs : List X) → xs ++ [] ≡ xs
nil [] = refl
nil (x ∷ xs) = ap (λ ys. x ∷ ys) (nil xs)

AreClausesOf-append : (xs cs ys ds : List (List Literal)) → AreClausesOf xs cs → AreClausesOf ys ds → AreClausesOf (xs ++ ys) (cs ++ ds)
AreClausesOf-append [] cs ys ds h k = subst (λ (es : List (List Literal)). AreClausesOf ys (es ++ ds)) (sym h) k
AreClausesOf-append (x ∷ xs) cs ys ds (inl (both, h)) k = inl (both, AreClausesOf-append xs cs ys ds h k)
AreClausesOf-append (x ∷ xs) cs ys ds (inr (c, others, is, h, e)) k = inr (c, others ++ ds, is, AreClausesOf-append xs others ys ds h k, ap (λ (es : List (List Literal)). es ++ ds) e)

-- one list after the other
pub Adds-join : (xs ys a b c : List (List Literal)) → Adds xs a b → Adds ys b c → Adds (xs ++ ys) a c
Adds-join xs ys a b c (first, h, e) (second, k, f) = (first ++ second, AreClausesOf-append xs first ys second h k, f ∙ ap (λ (ds : List (List Literal)). ds ++ second) e ∙ append_assoc a first second)

-- the clause of the literals is put
pub Adds-clause : (literals c : List Literal) (old new : List (List Literal)) → IsClauseOf literals c → new ≡ old ++ c ∷ [] → Adds (literals ∷ []) old new
Adds-clause literals c old new is e = (c ∷ [], inr (c, [], is, refl, refl), e)

-- it is left out
pub Adds-tautology : (literals : List Literal) (old : List (List Literal)) → IsTautology literals → Adds (literals ∷ []) old old
Adds-tautology literals old both = ([], inl (both, refl), sym (nil old))

-- behind nothing
pub Adds-all : (xs old new : List (List Literal)) → old ≡ [] → Adds xs old new → AreClausesOf xs new
Adds-all xs old new e (more, h, f) = subst (AreClausesOf xs) (sym (f ∙ ap (λ (ds : List (List Literal)). ds ++ more) e)) h

part_clauses-push : (k : ℕ) (part : List Node) (node : Node) → part_clauses k (part ++ node ∷ []) ≡ part_clauses k part ++ node_clauses (k + length part) node
part_clauses-push k [] node = nil (node_clauses k node) ∙ ap (λ (j : ℕ). node_clauses j node) here
  where
    here : k ≡ k + 0
    here = omega arith
part_clauses-push k (first ∷ part) node =
    ap (λ (rest : List (List Literal)). node_clauses k first ++ rest) (part_clauses-push (suc k) part node ∙ ap (λ (j : ℕ). part_clauses (suc k) part ++ node_clauses j node) later)
    ∙ sym (append_assoc (node_clauses k first) (part_clauses (suc k) part) (node_clauses (k + suc (length part)) node))
  where
    later : suc k + length part ≡ k + suc (length part)
    later = omega arith

-- one node more
pub part_clauses-more : (part : List Node) (k : ℕ) (node : Node) → slice_get part k ≡ Some node → part_clauses 0 (take (k + 1) part) ≡ part_clauses 0 (take k part) ++ node_clauses k node
part_clauses-more part k node at =
    ap (part_clauses 0) (sym (take-push part k node at)) ∙ part_clauses-push 0 (take k part) node ∙ ap (λ (j : ℕ). part_clauses 0 (take k part) ++ node_clauses j node) place
  where
    place : 0 + length (take k part) ≡ k
    place = omega (arith, length-take-le k part (let inside = slice_get_within part k node at in omega arith))

-- what follows where a call succeeds
pub OnOk-then : {T E : Type 0} (r : Result T E) (P Q : Type 0) → (P → Q) → OnOk r P → OnOk r Q
OnOk-then (Ok x) P Q f h = f h
OnOk-then (Err e) P Q f h = tt

-- the clauses of an and, put one after the other
pub and-added : (at left right m n p q : Literal) (a b c d : List (List Literal)) → m ≡ negation at → n ≡ negation at → p ≡ negation left → q ≡ negation right
    → Adds ((m ∷ left ∷ []) ∷ []) a b → Adds ((n ∷ right ∷ []) ∷ []) b c → Adds ((at ∷ p ∷ q ∷ []) ∷ []) c d → Adds (and_clauses at left right) a d
and-added at left right m n p q a b c d e f g h first second third =
    Adds-join ((negation at ∷ left ∷ []) ∷ []) ((negation at ∷ right ∷ []) ∷ (at ∷ negation left ∷ negation right ∷ []) ∷ []) a b d (subst (λ (l : Literal). Adds ((l ∷ left ∷ []) ∷ []) a b) e first)
    (Adds-join ((negation at ∷ right ∷ []) ∷ []) ((at ∷ negation left ∷ negation right ∷ []) ∷ []) b c d (subst (λ (l : Literal). Adds ((l ∷ right ∷ []) ∷ []) b c) f second)
    (subst (λ (l : Literal). Adds ((at ∷ l ∷ negation right ∷ []) ∷ []) c d) g (subst (λ (l : Literal). Adds ((at ∷ p ∷ l ∷ []) ∷ []) c d) h third)))

-- those of the query
pub query-added : (left right care : ℕ) (x y z p q : Literal) (a b c d : List (List Literal)) → x ≡ literal_of left → y ≡ literal_of right → z ≡ literal_of care → p ≡ negation x → q ≡ negation y
    → Adds ((z ∷ []) ∷ []) a b → Adds ((x ∷ y ∷ []) ∷ []) b c → Adds ((p ∷ q ∷ []) ∷ []) c d → Adds (query_clauses left right care) a d
query-added left right care x y z p q a b c d e f g h i first second third =
    Adds-join ((literal_of care ∷ []) ∷ []) ((literal_of left ∷ literal_of right ∷ []) ∷ (negation (literal_of left) ∷ negation (literal_of right) ∷ []) ∷ []) a b d (subst (λ (l : Literal). Adds ((l ∷ []) ∷ []) a b) g first)
    (Adds-join ((literal_of left ∷ literal_of right ∷ []) ∷ []) ((negation (literal_of left) ∷ negation (literal_of right) ∷ []) ∷ []) b c d
    (subst (λ (l : Literal). Adds ((l ∷ literal_of right ∷ []) ∷ []) b c) e (subst (λ (l : Literal). Adds ((x ∷ l ∷ []) ∷ []) b c) f second))
    (subst (λ (l : Literal). Adds ((l ∷ negation (literal_of right) ∷ []) ∷ []) c d) (h ∙ ap negation e) (subst (λ (l : Literal). Adds ((p ∷ l ∷ []) ∷ []) c d) (i ∙ ap negation f) third)))

-- those of a node
pub constant-added : (k : ℕ) (node : Node) (at m : Literal) (a b : List (List Literal)) → node ≡ Constant → at ≡ literal_at k → m ≡ negation at → Adds ((m ∷ []) ∷ []) a b → Adds (node_clauses k node) a b
constant-added k node at m a b e f g h = subst (λ (n : Node). Adds (node_clauses k n) a b) (sym e) (subst (λ (l : Literal). Adds ((l ∷ []) ∷ []) a b) (g ∙ ap negation f) h)

pub node-added : (k : ℕ) (node : Node) (l r : Lit) (at left right : Literal) (a b : List (List Literal)) → node ≡ And l r → at ≡ literal_at k → left ≡ literal_of l.0 → right ≡ literal_of r.0 → Adds (and_clauses at left right) a b → Adds (node_clauses k node) a b
node-added k node l r at left right a b e f g h added =
    subst (λ (n : Node). Adds (node_clauses k n) a b) (sym e)
    (subst (λ (x : Literal). Adds (and_clauses x (literal_of l.0) (literal_of r.0)) a b) f (subst (λ (x : Literal). Adds (and_clauses at x (literal_of r.0)) a b) g (subst (λ (x : Literal). Adds (and_clauses at left x) a b) h added)))
