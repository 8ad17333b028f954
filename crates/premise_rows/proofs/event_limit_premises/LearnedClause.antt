-- The chain derives its clause, and unit propagation doesn't.
use Rattle.std.proofs.Common.{◌≡◌, ◌≢◌, ℕ, ◌<◌, Bool, true, false, List, [], ◌∷◌, refl, sym, ap, arith, inl, inr}
use Rattle.std.specs.Prelude.{◌⊎◌}
use Rattle.std.specs.List.{Contains}
use Rattle.std.proofs.lemmas.List.Elements.{All-from_recursion}
use Rattle.circuit_theory.proofs.Lists.{only}
use Rattle.clause_base.specs.Literals.{Literal, negation}
use Rattle.clause_base.specs.New.{HasTwoFree, IsClosed, IsFree, IsMet, IsNew}
use Rattle.proof_check.specs.Chains.{ChainDerives}
use Rattle.proof_check.specs.Resolution.{HoldOpposite, IsResolvent}
use Rattle.call_rows.proofs.circuit_samples.Each.{Each, EachPair, each_at, each_pair}
use Rattle.premise_rows.specs.event_limit_premises.AtLimit.{is, isnt, undecided}
use Rattle.premise_rows.specs.event_limit_premises.OneConflict.{a_is_zero}

abbrev known : List (List Literal)
known = undecided.cnf.clauses

-- a resolvent by its literals, one by one
abbrev Rises : List Literal → Type 0
Rises c = EachPair (λ (l m : Literal). l.variable < m.variable) c

module _ (a b c : List Literal) (pivot : ℕ) (left : Rises a) (right : Rises b) (ordered : Rises c) (opposite : HoldOpposite a b pivot) (of : Each (λ (l : Literal). (l.variable ≢ pivot) × (Contains a l ⊎ Contains b l)) c)
    (from_left : Each (λ (l : Literal). (l.variable ≢ pivot) → Contains c l) a) (from_right : Each (λ (l : Literal). (l.variable ≢ pivot) → Contains c l) b) where
  back : (l : Literal) → (l.variable ≢ pivot) × (Contains a l ⊎ Contains b l) → Contains c l
  back l (n, inl h) = each_at (λ (m : Literal). (m.variable ≢ pivot) → Contains c m) a from_left l h n
  back l (n, inr h) = each_at (λ (m : Literal). (m.variable ≢ pivot) → Contains c m) b from_right l h n

  resolves : IsResolvent a b pivot c
  resolves = record {
    left = each_pair (λ (l m : Literal). l.variable < m.variable) a left;
    right = each_pair (λ (l m : Literal). l.variable < m.variable) b right;
    opposite = opposite;
    ordered = each_pair (λ (l m : Literal). l.variable < m.variable) c ordered;
    members = λ l. (λ h. each_at (λ (m : Literal). (m.variable ≢ pivot) × (Contains a m ⊎ Contains b m)) c of l h, back l);
  }

two_rise : (x y : Literal) → x.variable < y.variable → Rises (x ∷ y ∷ [])
two_rise x y l = ((l, tt), (tt, tt))

three_rise : (x y z : Literal) → x.variable < y.variable → y.variable < z.variable → Rises (x ∷ y ∷ z ∷ [])
three_rise x y z l m = ((l, (omega (arith, l, m), tt)), ((m, tt), (tt, tt)))

on_five : IsResolvent (isnt 2 ∷ is 3 ∷ is 5 ∷ []) (isnt 5 ∷ isnt 6 ∷ []) 5 (isnt 2 ∷ is 3 ∷ isnt 6 ∷ [])
on_five =
    resolves (isnt 2 ∷ is 3 ∷ is 5 ∷ []) (isnt 5 ∷ isnt 6 ∷ []) (isnt 2 ∷ is 3 ∷ isnt 6 ∷ []) 5 (three_rise (isnt 2) (is 3) (is 5) (omega arith) (omega arith)) (two_rise (isnt 5) (isnt 6) (omega arith)) (three_rise (isnt 2) (is 3) (isnt 6) (omega arith) (omega arith))
    (is 5, refl, (2, omega arith, refl), (0, omega arith, refl))
    ((λ e. omega (arith, e), inl (0, omega arith, refl)), ((λ e. omega (arith, e), inl (1, omega arith, refl)), ((λ e. omega (arith, e), inr (1, omega arith, refl)), tt)))
    ((λ n. (0, omega arith, refl)), ((λ n. (1, omega arith, refl)), ((λ n. absurd (n refl)), tt)))
    ((λ n. absurd (n refl)), ((λ n. (2, omega arith, refl)), tt))

on_three : IsResolvent (isnt 2 ∷ is 3 ∷ isnt 6 ∷ []) (isnt 2 ∷ isnt 3 ∷ is 4 ∷ []) 3 (isnt 2 ∷ is 4 ∷ isnt 6 ∷ [])
on_three =
    resolves (isnt 2 ∷ is 3 ∷ isnt 6 ∷ []) (isnt 2 ∷ isnt 3 ∷ is 4 ∷ []) (isnt 2 ∷ is 4 ∷ isnt 6 ∷ []) 3 (three_rise (isnt 2) (is 3) (isnt 6) (omega arith) (omega arith)) (three_rise (isnt 2) (isnt 3) (is 4) (omega arith) (omega arith)) (three_rise (isnt 2) (is 4) (isnt 6) (omega arith) (omega arith))
    (is 3, refl, (1, omega arith, refl), (1, omega arith, refl))
    ((λ e. omega (arith, e), inl (0, omega arith, refl)), ((λ e. omega (arith, e), inr (2, omega arith, refl)), ((λ e. omega (arith, e), inl (2, omega arith, refl)), tt)))
    ((λ n. (0, omega arith, refl)), ((λ n. absurd (n refl)), ((λ n. (2, omega arith, refl)), tt)))
    ((λ n. (0, omega arith, refl)), ((λ n. absurd (n refl)), ((λ n. (1, omega arith, refl)), tt)))

on_four : IsResolvent (isnt 2 ∷ is 4 ∷ isnt 6 ∷ []) (isnt 4 ∷ isnt 6 ∷ []) 4 (isnt 2 ∷ isnt 6 ∷ [])
on_four =
    resolves (isnt 2 ∷ is 4 ∷ isnt 6 ∷ []) (isnt 4 ∷ isnt 6 ∷ []) (isnt 2 ∷ isnt 6 ∷ []) 4 (three_rise (isnt 2) (is 4) (isnt 6) (omega arith) (omega arith)) (two_rise (isnt 4) (isnt 6) (omega arith)) (two_rise (isnt 2) (isnt 6) (omega arith))
    (is 4, refl, (1, omega arith, refl), (0, omega arith, refl))
    ((λ e. omega (arith, e), inl (0, omega arith, refl)), ((λ e. omega (arith, e), inl (2, omega arith, refl)), tt))
    ((λ n. (0, omega arith, refl)), ((λ n. absurd (n refl)), ((λ n. (1, omega arith, refl)), tt)))
    ((λ n. absurd (n refl)), ((λ n. (1, omega arith, refl)), tt))

on_six : IsResolvent (isnt 2 ∷ isnt 6 ∷ []) (isnt 2 ∷ is 6 ∷ []) 6 (isnt 2 ∷ [])
on_six =
    resolves (isnt 2 ∷ isnt 6 ∷ []) (isnt 2 ∷ is 6 ∷ []) (isnt 2 ∷ []) 6 (two_rise (isnt 2) (isnt 6) (omega arith)) (two_rise (isnt 2) (is 6) (omega arith)) (tt, tt)
    (isnt 6, refl, (1, omega arith, refl), (1, omega arith, refl))
    ((λ e. omega (arith, e), inl (0, omega arith, refl)), tt)
    ((λ n. (0, omega arith, refl)), ((λ n. absurd (n refl)), tt))
    ((λ n. (0, omega arith, refl)), ((λ n. absurd (n refl)), tt))

pub derives : ChainDerives known a_is_zero (isnt 2 ∷ [])
derives = (
  isnt 2 ∷ is 3 ∷ is 5 ∷ [],
  refl,
  (
    isnt 2 ∷ is 3 ∷ isnt 6 ∷ [],
    (isnt 5 ∷ isnt 6 ∷ [], refl, on_five),
    (isnt 2 ∷ is 4 ∷ isnt 6 ∷ [], (isnt 2 ∷ isnt 3 ∷ is 4 ∷ [], refl, on_three), (isnt 2 ∷ isnt 6 ∷ [], (isnt 4 ∷ isnt 6 ∷ [], refl, on_four), (isnt 2 ∷ [], (isnt 2 ∷ is 6 ∷ [], refl, on_six), refl))),
  ),
)

-- unit propagation forces that the constant is 0, and no more
abbrev forced : List Literal
forced = isnt 1 ∷ []

abbrev IsOpen : List Literal → Type 0
IsOpen c = IsMet forced c ⊎ HasTwoFree forced c

free : (l : Literal) → 1 < l.variable → IsFree forced l
free l above = (
  λ h. (let same = ap (λ (m : Literal). m.variable) (only (isnt 1) l h) in omega (arith, same, above)),
  λ h. (let same = ap (λ (m : Literal). m.variable) (only (isnt 1) (negation l) h) in omega (arith, same, above)),
)

two_free : (l m : Literal) (rest : List Literal) → 1 < l.variable → l.variable < m.variable → IsOpen (l ∷ m ∷ rest)
two_free l m rest above less =
    inr (l, m, (λ e. (let same = ap (λ (x : Literal). x.variable) e in omega (arith, same, less))), (0, omega arith, refl), (1, omega arith, refl), free l above, free m (omega (arith, above, less)))

constant_met : IsOpen (isnt 1 ∷ [])
constant_met = inl (isnt 1, (0, omega arith, refl), (0, omega arith, refl))

consistent : (l : Literal) → Contains forced l → Contains forced (negation l) → ⊥
consistent l h k = go l.positive refl
  where
    first : false ≡ l.positive
    first = ap (λ (m : Literal). m.positive) (only (isnt 1) l h)

    second : isnt 1 ≡ negation l
    second = only (isnt 1) (negation l) k

    go : (b : Bool) → l.positive ≡ b → ⊥
    go true e = let signs = first in cc
    go false e = let signs = ap (λ (m : Literal). m.positive) second in cc

closed : IsClosed forced known
closed = record {
  consistent = consistent;
  closed = All-from_recursion IsOpen known (
    constant_met,
    (
      two_free (is 2) (isnt 4) [] (omega arith) (omega arith),
      (
        two_free (is 3) (isnt 4) [] (omega arith) (omega arith),
        (
          two_free (isnt 2) (isnt 3) (is 4 ∷ []) (omega arith) (omega arith),
          (
            two_free (is 2) (isnt 5) [] (omega arith) (omega arith),
            (
              two_free (isnt 3) (isnt 5) [] (omega arith) (omega arith),
              (
                two_free (isnt 2) (is 3) (is 5 ∷ []) (omega arith) (omega arith),
                (
                  two_free (isnt 4) (isnt 6) [] (omega arith) (omega arith),
                  (
                    two_free (isnt 5) (isnt 6) [] (omega arith) (omega arith),
                    (
                      two_free (is 4) (is 5) (is 6 ∷ []) (omega arith) (omega arith),
                      (constant_met, (two_free (is 2) (isnt 6) [] (omega arith) (omega arith), (two_free (isnt 2) (is 6) [] (omega arith) (omega arith), tt))),
                    ),
                  ),
                ),
              ),
            ),
          ),
        ),
      ),
    ),
  );
}

pub is_new : IsNew known (isnt 2 ∷ [])
is_new = record { literal = isnt 2; set = forced; is_there = (0, omega arith, refl); closed = closed; others_false = λ m h n. absurd (n (sym (only (isnt 2) m h))); free = free (isnt 2) (omega arith) }
