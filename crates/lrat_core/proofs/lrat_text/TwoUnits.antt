-- The refutation of a variable and its negation.
use Rattle.std.proofs.Common.{◌≡◌, [], ◌∷◌, true, refl, sym, inl, inr, arith}
use Rattle.std.specs.List.{Contains}
use Rattle.circuit_theory.proofs.Lists.{Contains-head, Contains-cases}
use Rattle.proof_check.specs.Literals.{Literal}
use Rattle.lrat_core.specs.Hints.{IsUnit, HintsGive}
use Rattle.lrat_core.specs.Sequences.{AdditionGives}
use Rattle.lrat_core.specs.lrat_text.Laws.{TwoUnitsAreRefuted}
use Rattle.lrat_core.specs.lrat_text.Verdicts.{TextGives}

abbrev one : Literal
one = record { variable = 1; positive = true }

nothing_in : (l : Literal) → Contains [] l → ⊥
nothing_in l h = omega (arith, h.1)

alone : (l : Literal) → Contains (one ∷ []) l → l ≡ one
alone l h = elim (Contains-cases one l [] h) [ inl e ↦ sym e | inr k ↦ absurd (nothing_in l k) ]

unit : IsUnit [] (one ∷ []) one
unit = record { there = Contains-head one []; outside = nothing_in one; only = λ m there outside. alone m there }

pub two_units_are_refuted : TwoUnitsAreRefuted
two_units_are_refuted =
    TextGives.last refl (AdditionGives.above (omega arith) (HintsGive.unit refl unit (HintsGive.conflict refl (λ l h. h)))) refl
