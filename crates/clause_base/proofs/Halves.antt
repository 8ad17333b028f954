-- The clause of two halves.
use Rattle.std.proofs.Common.{◌≡◌, ◌⊎◌, ℕ, ◌<◌, List, ◌++◌, length, take, drop, refl, sym, ◌∙◌, ap, subst, arith, inl, inr, Option, Some, None, Result, Ok, Err}
use Rattle.std.specs.Prelude.{◌↔◌}
use Rattle.std.specs.Option.{ok_or}
use Rattle.std.specs.Result.{IfOk}
use Rattle.sec_base.specs.NoMemory.{NoMemory}
use Rattle.std.specs.List.{Contains}
use Rattle.std.proofs.lemmas.List.{take-append-drop}
use Rattle.std.proofs.lemmas.List.Elements.{Contains-append_left, Contains-append_right, Contains-append_cases}
use Rattle.clause_base.specs.Literals.{Literal, negation}
use Rattle.clause_base.specs.Clauses.{IsClause, IsTautology, IsClauseOf, IsSorted, IsClauseAnswer}
use Rattle.clause_base.specs.Merging.{IsUnion, IsUnited, AreBothSorted}
use Rattle.clause_base.specs.declared.disjunction.ClauseError.TheVariants as clause_error
use Rattle.clause_base.proofs.Members.{one_of_variable, not_same_sign}

no_tautology : (literals c : List Literal) → IsClause c → ((l : Literal) → Contains c l ↔ Contains literals l) → IsTautology literals → ⊥
no_tautology literals c clause members w =
    let same = one_of_variable c w.0 (negation w.0) clause ((members w.0).1 w.1) ((members (negation w.0)).1 w.2) refl in
    not_same_sign w.0.positive (ap (λ (l : Literal). l.positive) same)

-- the clause of two halves
pub clause_of_halves : (literals front back l r c : List Literal) → literals ≡ front ++ back → IsClauseOf front l → IsClauseOf back r → IsUnion l r None c → IsClauseOf literals c
clause_of_halves literals front back l r c whole lf rb union =
    subst (λ (ls : List Literal). IsClauseOf ls c) (sym whole) (union.ordered, members, no_tautology (front ++ back) c union.ordered members)
  where
    members : (k : Literal) → Contains c k ↔ Contains (front ++ back) k
    members k = (λ h. there (((union.members k).0 h).1), λ h. (union.members k).1 (tt, here (Contains-append_cases front back k h)))
      where
        there : Contains l k ⊎ Contains r k → Contains (front ++ back) k
        there (inl h) = Contains-append_left front back k ((lf.1 k).0 h)
        there (inr h) = Contains-append_right front back k ((rb.1 k).0 h)

        here : Contains front k ⊎ Contains back k → Contains l k ⊎ Contains r k
        here (inl h) = inl ((lf.1 k).1 h)
        here (inr h) = inr ((rb.1 k).1 h)

-- a clash of two halves
pub tautology_of_halves : (literals front back l r : List Literal) → literals ≡ front ++ back → IsClauseOf front l → IsClauseOf back r → ((k : Literal) × Contains l k × Contains r (negation k)) → IsTautology literals
tautology_of_halves literals front back l r whole lf rb w =
    subst IsTautology (sym whole) (w.0, Contains-append_left front back w.0 ((lf.1 w.0).0 w.1), Contains-append_right front back (negation w.0) ((rb.1 (negation w.0)).0 w.2))

pub front_tautology : (literals front back : List Literal) → literals ≡ front ++ back → IsTautology front → IsTautology literals
front_tautology literals front back whole w =
    subst IsTautology (sym whole) (w.0, Contains-append_left front back w.0 w.1, Contains-append_left front back (negation w.0) w.2)

pub back_tautology : (literals front back : List Literal) → literals ≡ front ++ back → IsTautology back → IsTautology literals
back_tautology literals front back whole w =
    subst IsTautology (sym whole) (w.0, Contains-append_right front back w.0 w.1, Contains-append_right front back (negation w.0) w.2)

pub sorted_of_united : (left right : Option (List Literal)) (l r : List Literal) (x : Result (Option (List Literal)) NoMemory) → left ≡ Some l → right ≡ Some r → IfOk x (IsUnited l r) → IfOk x (AreBothSorted left right)
sorted_of_united left right l r (Ok made) is_l is_r h = subst (λ (o : Option (List Literal)). AreBothSorted o right made) (sym is_l) (subst (λ (o : Option (List Literal)). AreBothSorted (Some l) o made) (sym is_r) (go made h))
  where
    go : (made : Option (List Literal)) → IsUnited l r made → AreBothSorted (Some l) (Some r) made
    go (Some c) u = λ front back lf rb. clause_of_halves (front ++ back) front back l r c refl lf rb u
    go None w = λ front back lf rb. tautology_of_halves (front ++ back) front back l r refl lf rb w
sorted_of_united left right l r (Err e) is_l is_r h = h

-- an option that is no clause is none
pub none_there : (o : Option (List Literal)) → ((c : List Literal) → o ≡ Some c → ⊥) → o ≡ None
none_there None h = refl
none_there (Some c) h = absurd (h c refl)

-- a half without a clause
pub none_of_left : (left right : Option (List Literal)) → left ≡ None → AreBothSorted left right None
none_of_left left right is = λ front back w other. front_tautology (front ++ back) front back refl (subst (IsSorted front) is w)

pub none_of_right : (left right : Option (List Literal)) → right ≡ None → AreBothSorted left right None
none_of_right left right is = λ front back other w. back_tautology (front ++ back) front back refl (subst (IsSorted back) is w)

-- the clause of both halves is that of the whole
pub sorted_of_halves : (literals front back : List Literal) (left right : Option (List Literal)) (x : Result (Option (List Literal)) NoMemory) → literals ≡ front ++ back → IsSorted front left → IsSorted back right → IfOk x (AreBothSorted left right) → IfOk x (IsSorted literals)
sorted_of_halves literals front back left right (Ok made) whole lf rb h = subst (λ (ls : List Literal). IsSorted ls made) (sym whole) (h front back lf rb)
sorted_of_halves literals front back left right (Err e) whole lf rb h = h

-- the two halves are the whole
pub halves : (literals front back : List Literal) (n : ℕ) → front ≡ take n literals → back ≡ drop n literals → literals ≡ front ++ back
halves literals front back n e f = sym (take-append-drop n literals) ∙ ap (λ x. x ++ drop n literals) (sym e) ∙ ap (λ x. front ++ x) (sym f)

-- at most one literal is a clause
pub short_clause : (literals : List Literal) → length literals < 2 → IsClauseOf literals literals
short_clause literals h =
    let ordered : IsClause literals = λ i j d lt within. absurd (omega arith) in
    (ordered, λ l. (λ k. k, λ k. k), no_tautology literals literals ordered (λ l. (λ k. k, λ k. k)))

pub clause_answer : (literals : List Literal) (o : Option (List Literal)) → IsSorted literals o → IsClauseAnswer literals (ok_or o clause_error.Tautology)
clause_answer literals (Some c) h = h
clause_answer literals None h = h
