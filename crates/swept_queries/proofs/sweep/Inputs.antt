-- The inputs of a graph that grows.
use Rattle.std.proofs.Common.{◌≡◌, ◌⊎◌, inl, inr, ℕ, zero, suc, length, Bool, true, false, List, [], ◌∷◌, ◌++◌, slice_get, Option, Some, None, Result, Ok, Err, Contains, if◌then◌else◌, subst, ap, sym, ◌∙◌}
use Rattle.std.specs.Prelude.{nat_lt, MatchResult, OnOk}
use Rattle.std.proofs.lemmas.Option.{none-some, same_Some}
use Rattle.circuit_theory.proofs.Lists.{of_at, at_of}
use Rattle.base_tables.specs.unique_table.Places.{IsWith}
use Rattle.aig.specs.declared.node.Lit.{Lit}
use Rattle.aig.specs.declared.node.Node.{Node}
use Rattle.aig.specs.declared.node.Node.TheVariants.{Constant, Input, And}
use Rattle.aig.specs.Rules.{simple_and, and_node, IsWithAndBy, IsWithAnd}
use Rattle.aig.proofs.Insert.{push-cases}
use Rattle.swept_queries.specs.sweep.Swept.{HasNoOtherInputs}

-- an input of the graph with a node more is one of the graph's, or it is that node
inputs_with : (g h : List Node) (node : Node) → IsWith g node h → (v : ℕ) → Contains h (Input v) → Contains g (Input v) ⊎ (node ≡ Input v)
inputs_with g h node (inl (there, e)) v has = inl (subst (λ (k : List Node). Contains k (Input v)) e has)
inputs_with g h node (inr (new, e)) v has = by (push-cases g node at.0 (Input v) at.1)
  where
    at : (n : ℕ) × (slice_get (g ++ node ∷ []) n ≡ Some (Input v))
    at = at_of (g ++ node ∷ []) (Input v) (subst (λ (k : List Node). Contains k (Input v)) e has)

    by : (slice_get g at.0 ≡ Some (Input v)) ⊎ ((at.0 ≡ length g) × (Input v ≡ node)) → Contains g (Input v) ⊎ (node ≡ Input v)
    by (inl old) = inl (of_at g at.0 (Input v) old)
    by (inr (n, same)) = inr (sym same)

and_is_no_input : (l r v : ℕ) {X : Type 0} → and_node l r ≡ Input v → X
and_is_no_input l r v {X} = by (nat_lt r l)
  where
    by : (b : Bool) → (if b then And (record { 0 = r }) (record { 0 = l }) else And (record { 0 = l }) (record { 0 = r })) ≡ Input v → X
    by true e = cc
    by false e = cc

module _ {E : Type 0} (old g h : List Node) where
  -- an input more that the old graph has
  pub inputs_input : (made : Result Lit E) (n v : ℕ) → slice_get old n ≡ Some (Input v) → MatchResult made (λ l. IsWith g (Input v) h) (λ e. h ≡ g) → OnOk made (HasNoOtherInputs old g → HasNoOtherInputs old h)
  inputs_input (Ok x) n v at with = λ are u has. by u (are u) (inputs_with g h (Input v) with u has)
    where
      by : (u : ℕ) → (Contains g (Input u) → Contains old (Input u)) → Contains g (Input u) ⊎ (Input v ≡ Input u) → Contains old (Input u)
      by u here (inl there) = here there
      by u here (inr same) = of_at old n (Input u) (at ∙ ap Some same)
  inputs_input (Err e) n v at with = tt

  -- an and more
  pub inputs_and : (made : Result Lit E) (l r : ℕ) → MatchResult made (λ x. IsWithAnd g l r h) (λ e. h ≡ g) → OnOk made (HasNoOtherInputs old g → HasNoOtherInputs old h)
  inputs_and (Ok x) l r with = λ are u has. by (simple_and l r) with are u has
    where
      by : (o : Option ℕ) → IsWithAndBy g l r o h → HasNoOtherInputs old g → (u : ℕ) → Contains h (Input u) → Contains old (Input u)
      by None made are u has = last (inputs_with g h (and_node l r) made u has)
        where
          last : Contains g (Input u) ⊎ (and_node l r ≡ Input u) → Contains old (Input u)
          last (inl there) = are u there
          last (inr same) = and_is_no_input l r u same
      by (Some y) same are u has = are u (subst (λ (k : List Node). Contains k (Input u)) same has)
  inputs_and (Err e) l r with = tt

-- the graph of the constant has none
pub inputs_none : (old h : List Node) → h ≡ Constant ∷ [] → HasNoOtherInputs old h
inputs_none old h e v has = by at.0 at.1
  where
    at : (n : ℕ) × (slice_get (Constant ∷ []) n ≡ Some (Input v))
    at = at_of (Constant ∷ []) (Input v) (subst (λ (k : List Node). Contains k (Input v)) e has)

    by : (n : ℕ) → slice_get (Constant ∷ []) n ≡ Some (Input v) → Contains old (Input v)
    by zero same = let e : Constant ≡ Input v = same_Some Constant (Input v) same in cc
    by (suc n) none = absurd (none-some (Input v) none)
