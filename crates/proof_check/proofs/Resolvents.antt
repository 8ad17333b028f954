-- What resolvents hold.
use Rattle.std.proofs.Common.{◌≡◌, ◌≢◌, ℕ, not, List, refl, sym, ◌∙◌, ap, subst, inl, inr}
use Rattle.std.specs.List.{Contains}
use Rattle.clause_base.specs.Literals.{Literal, negation}
use Rattle.clause_base.specs.Clauses.{IsClause}
use Rattle.proof_check.specs.Resolution.{HoldOpposite, Clash, IsResolvent}
use Rattle.clause_base.proofs.Members.{same_literal, not_same_sign, other_sign, one_of_variable, clause_unique}

-- what decides whether two clauses hold a variable with opposite signs
pub no_left : (a b : List Literal) (pivot : ℕ) → ((l : Literal) → Contains a l → l.variable ≢ pivot) → HoldOpposite a b pivot → ⊥
no_left a b pivot none w = none w.0 w.2 w.1

pub no_right : (a b : List Literal) (pivot : ℕ) → ((l : Literal) → Contains b l → l.variable ≢ pivot) → HoldOpposite a b pivot → ⊥
no_right a b pivot none w = none (negation w.0) w.3 w.1

-- a resolvent is determined
pub resolvent_unique : (a b : List Literal) (pivot : ℕ) (c d : List Literal) → IsResolvent a b pivot c → IsResolvent a b pivot d → c ≡ d
resolvent_unique a b pivot c d p q = clause_unique c d p.ordered q.ordered (λ l. (λ h. (q.members l).1 ((p.members l).0 h), λ h. (p.members l).1 ((q.members l).0 h)))

-- where there is a resolvent, the two clauses don't clash
pub resolvent_no_clash : (a b : List Literal) (pivot : ℕ) (c : List Literal) → IsResolvent a b pivot c → Clash a b pivot → ⊥
resolvent_no_clash a b pivot c is clash =
    let l = clash.0 in
    let first = (is.members l).1 (clash.1, inl clash.2) in
    let second = (is.members (negation l)).1 (clash.1, inr clash.3) in
    let same = one_of_variable c l (negation l) is.ordered first second refl in
    not_same_sign l.positive (ap (λ (k : Literal). k.positive) same)
