-- The clauses of the query.
use Rattle.std.proofs.Common.{◌≡◌, ◌≢◌, ◌∙◌, ℕ, zero, suc, ◌/◌, ◌<◌, Bool, true, false, List, [], ◌∷◌, ◌++◌, slice_get, Some, refl, sym, ap, subst, arith, inl, inr}
use Rattle.std.specs.Prelude.{◌⊎◌, ◌↔◌}
use Rattle.std.specs.List.{AllPairs, AllZip, Contains}
use Rattle.std.specs.List.Sorted.{IsStrictlyIncreasing}
use Rattle.std.proofs.lemmas.Option.{same_Some}
use Rattle.circuit_theory.proofs.Lists.{at_of}
use Rattle.circuit_theory.proofs.Numbers.{distinct_at}
use Rattle.clause_base.specs.Clauses.{IsClause, IsClauseOf, IsTautology}
use Rattle.clause_base.specs.Literals.{Literal, negation}
use Rattle.event_nodes.specs.aig.Node.{Node}
use Rattle.event_nodes.specs.aig.Node.TheVariants.{Constant, Input}
use Rattle.pair_decide.specs.aig.Cone.{IsConeOf, IsPartOf, IsPlacedNode, IsReached, Reads}
use Rattle.pair_decide.specs.cnf_encode.Encoding.{AreClausesOf, IsEncoding, part_clauses, query_clauses}
use Rattle.call_rows.proofs.circuit_samples.Each.{Each, EachPair, each_at, each_pair}
use Rattle.premise_rows.specs.event_limit_premises.AtLimit.{is, isnt, undecided}
use Rattle.premise_rows.specs.event_limit_premises.Chosen.{chosen_nodes}
use Rattle.premise_rows.specs.event_pair_premises.Held.{and_of}
use Rattle.premise_rows.proofs.block_premises.TurningNets.{each}

-- Literals in order are the clause of these in any order.
differs_from_negation : (b : Bool) (l : Literal) → l.positive ≡ b → l ≡ negation l → ⊥
differs_from_negation true l is same = let sign = ap (λ (m : Literal). m.positive) same in cc
differs_from_negation false l is same = let sign = ap (λ (m : Literal). m.positive) same in cc

one_sign : (c : List Literal) → IsClause c → IsTautology c → ⊥
one_sign c ordered (l, h, k) =
    let i = at_of c l h in
    let j = at_of c (negation l) k in
    let place : i.0 ≡ j.0 = distinct_at (λ (m : Literal). m.variable) c apart i.0 j.0 l (negation l) i.1 j.1 refl in
    differs_from_negation l.positive l refl (same_Some l (negation l) (sym i.1 ∙ (ap (slice_get c) place ∙ j.1)))
  where
    apart : AllPairs (λ (m n : Literal). m.variable ≢ n.variable) c
    apart m n d less within e = let before = ordered m n d less within in omega (arith, before, e)

module _ (literals c : List Literal) (ordered : EachPair (λ (l m : Literal). l.variable < m.variable) c) (of : Each (λ (l : Literal). Contains literals l) c) (all : Each (λ (l : Literal). Contains c l) literals) where
  clause_is : IsClause c
  clause_is = each_pair (λ (l m : Literal). l.variable < m.variable) c ordered

  same_literals : (l : Literal) → Contains c l ↔ Contains literals l
  same_literals l = (λ h. each_at (λ (m : Literal). Contains literals m) c of l h, λ h. each_at (λ (m : Literal). Contains c m) literals all l h)

  pub clause_of : IsClauseOf literals c
  clause_of = (clause_is, same_literals, λ t. one_sign c clause_is (t.0, (same_literals t.0).1 t.1, (same_literals (negation t.0)).1 t.2))

pub unit : (x : Literal) → IsClauseOf (x ∷ []) (x ∷ [])
unit x = clause_of (x ∷ []) (x ∷ []) (tt, tt) ((0, omega arith, refl), tt) ((0, omega arith, refl), tt)

pub swapped : (x y : Literal) → x.variable < y.variable → IsClauseOf (y ∷ x ∷ []) (x ∷ y ∷ [])
swapped x y l = clause_of (y ∷ x ∷ []) (x ∷ y ∷ []) ((l, tt), (tt, tt)) ((1, omega arith, refl), ((0, omega arith, refl), tt)) ((1, omega arith, refl), ((0, omega arith, refl), tt))

turned : (x y z : Literal) → x.variable < y.variable → y.variable < z.variable → IsClauseOf (z ∷ x ∷ y ∷ []) (x ∷ y ∷ z ∷ [])
turned x y z l m =
    clause_of (z ∷ x ∷ y ∷ []) (x ∷ y ∷ z ∷ []) ((l, (omega (arith, l, m), tt)), ((m, tt), (tt, tt)))
    ((1, omega arith, refl), ((2, omega arith, refl), ((0, omega arith, refl), tt)))
    ((2, omega arith, refl), ((0, omega arith, refl), ((1, omega arith, refl), tt)))

pub each_clause : (literals clauses : List (List Literal)) → AllZip IsClauseOf literals clauses → AreClausesOf literals clauses
each_clause [] [] all = refl
each_clause [] (c ∷ clauses) all = absurd all
each_clause (ls ∷ literals) [] all = absurd all
each_clause (ls ∷ literals) (c ∷ clauses) all = inr (c, clauses, all.0, each_clause literals clauses all.1, refl)

-- the cone
abbrev roots : List ℕ
roots = 41 ∷ 2 ∷ 1 ∷ []

abbrev nodes : List ℕ
nodes = 0 ∷ 1 ∷ 2 ∷ 18 ∷ 19 ∷ 20 ∷ []

abbrev Reached : ℕ → Type 0
Reached n = IsReached chosen_nodes roots n

neither : Reached 20
neither = IsReached.root 41 (0, omega arith, refl)

with_b : Reached 18
with_b = IsReached.operand 20 37 (and_of 37 39) neither refl (inl refl)

without_b : Reached 19
without_b = IsReached.operand 20 39 (and_of 37 39) neither refl (inr refl)

b_reached : Reached 2
b_reached = IsReached.operand 18 4 (and_of 2 4) with_b refl (inr refl)

increasing : IsStrictlyIncreasing nodes
increasing zero l = omega arith
increasing (suc zero) l = omega arith
increasing (suc (suc zero)) l = omega arith
increasing (suc (suc (suc zero))) l = omega arith
increasing (suc (suc (suc (suc zero)))) l = omega arith
increasing (suc (suc (suc (suc (suc k))))) l = absurd (omega (arith, l))

-- what a node of these reads is one of these
abbrev ReadsThese : ℕ → Type 0
ReadsThese n = (node : Node) (x : ℕ) → slice_get chosen_nodes n ≡ Some node → Reads node x → Contains nodes (x / 2)

module _ (n l r : ℕ) (stands : slice_get chosen_nodes n ≡ Some (and_of l r)) (left : Contains nodes (l / 2)) (right : Contains nodes (r / 2)) where
  reads_and : ReadsThese n
  reads_and node x at reads = go (subst (λ (m : Node). Reads m x) (same_Some node (and_of l r) (sym at ∙ stands)) reads)
    where
      go : (x ≡ l) ⊎ (x ≡ r) → Contains nodes (x / 2)
      go (inl e) = subst (λ y. Contains nodes (y / 2)) (sym e) left
      go (inr e) = subst (λ y. Contains nodes (y / 2)) (sym e) right

module _ (n : ℕ) (leaf : Node) (stands : slice_get chosen_nodes n ≡ Some leaf) (none : (x : ℕ) → Reads leaf x → ⊥) where
  reads_none : ReadsThese n
  reads_none node x at reads = absurd (none x (subst (λ (m : Node). Reads m x) (same_Some node leaf (sym at ∙ stands)) reads))

closed : (n : ℕ) → Contains nodes n → ReadsThese n
closed n h =
    each_at ReadsThese nodes (
      reads_none 0 Constant refl (λ x none. none),
      (
        reads_none 1 (Input 0) refl (λ x none. none),
        (
          reads_none 2 (Input 1) refl (λ x none. none),
          (
            reads_and 18 2 4 refl (1, omega arith, refl) (2, omega arith, refl),
            (reads_and 19 2 5 refl (1, omega arith, refl) (2, omega arith, refl), (reads_and 20 37 39 refl (3, omega arith, refl) (4, omega arith, refl), tt)),
          ),
        ),
      ),
    ) n h

all_reached : (n : ℕ) → Reached n → Contains nodes n
all_reached n (IsReached.root x h) = each_at (λ y. Contains nodes (y / 2)) roots ((5, omega arith, refl), ((1, omega arith, refl), ((0, omega arith, refl), tt))) x h
all_reached n (IsReached.operand m x node reached at reads) = closed m (all_reached m reached) node x at reads

cone : IsConeOf chosen_nodes roots nodes
cone = record {
  increasing = increasing;
  reached = λ n h. each_at Reached nodes (IsReached.root 1 (2, omega arith, refl), (IsReached.root 2 (1, omega arith, refl), (b_reached, (with_b, (without_b, (neither, tt)))))) n h;
  all = all_reached;
}

-- its nodes, by their places
abbrev part : List Node
part = Constant ∷ Input 0 ∷ Input 1 ∷ and_of 2 4 ∷ and_of 2 5 ∷ and_of 7 9 ∷ []

abbrev PlacedAt : ℕ → ℕ → Type 0
PlacedAt k n = (node : Node) → slice_get chosen_nodes n ≡ Some node → (p : Node) × (slice_get part k ≡ Some p) × IsPlacedNode nodes node p

module _ (k n : ℕ) (node placed : Node) (stands : slice_get chosen_nodes n ≡ Some node) (at_place : slice_get part k ≡ Some placed) (is_placed : IsPlacedNode nodes node placed) where
  placed_at : PlacedAt k n
  placed_at other at = subst (λ (m : Node). (p : Node) × (slice_get part k ≡ Some p) × IsPlacedNode nodes m p) (same_Some node other (sym stands ∙ at)) (placed, at_place, is_placed)

part_is : IsPartOf chosen_nodes nodes part
part_is = record { each = refl; placed = λ k n node h at. placed k n h node at }
  where
    placed : (k n : ℕ) → slice_get nodes k ≡ Some n → PlacedAt k n
    placed = each PlacedAt nodes (
      placed_at 0 0 Constant Constant refl refl refl,
      (
        placed_at 1 1 (Input 0) (Input 0) refl refl refl,
        (
          placed_at 2 2 (Input 1) (Input 1) refl refl refl,
          (
            placed_at 3 18 (and_of 2 4) (and_of 2 4) refl refl (_, _, refl, (refl, refl), (refl, refl)),
            (
              placed_at 4 19 (and_of 2 5) (and_of 2 5) refl refl (_, _, refl, (refl, refl), (refl, refl)),
              (placed_at 5 20 (and_of 37 39) (and_of 7 9) refl refl (_, _, refl, (refl, refl), (refl, refl)), tt),
            ),
          ),
        ),
      ),
    )

pub encoding : IsEncoding chosen_nodes 41 2 1 undecided.cnf
encoding = record {
  nodes_are = cone;
  variables_are = refl;
  part = part;
  part_is = part_is;
  left_at = 11;
  right_at = 2;
  care_at = 1;
  left_is = (refl, refl);
  right_is = (refl, refl);
  care_is = (refl, refl);
  clauses_are = each_clause (part_clauses 0 part ++ query_clauses 11 2 1) undecided.cnf.clauses (
    unit (isnt 1),
    (
      swapped (is 2) (isnt 4) (omega arith),
      (
        swapped (is 3) (isnt 4) (omega arith),
        (
          turned (isnt 2) (isnt 3) (is 4) (omega arith) (omega arith),
          (
            swapped (is 2) (isnt 5) (omega arith),
            (
              swapped (isnt 3) (isnt 5) (omega arith),
              (
                turned (isnt 2) (is 3) (is 5) (omega arith) (omega arith),
                (
                  swapped (isnt 4) (isnt 6) (omega arith),
                  (
                    swapped (isnt 5) (isnt 6) (omega arith),
                    (
                      turned (is 4) (is 5) (is 6) (omega arith) (omega arith),
                      (unit (isnt 1), (swapped (is 2) (isnt 6) (omega arith), (swapped (isnt 2) (is 6) (omega arith), tt))),
                    ),
                  ),
                ),
              ),
            ),
          ),
        ),
      ),
    ),
  );
}
