-- An assumption under which two of the samples are equal, and aren't without it.
use Rattle.std.specs.Prelude.{ℕ, List, [], ◌∷◌, codes}
use Rattle.circuit_theory.specs.Circuit.{Circuit, Gate}
use Rattle.circuit_theory.specs.Joined.{Either, Left, Right}
use Rattle.circuit_theory.specs.Agree.{IsPair}
use Rattle.circuit_theory.specs.EventFits.{side_by_side}
use Rattle.assume_laws.specs.Assume.{Assumption, HaveEqualEventsUnder}
use Rattle.call_rows.specs.circuit_samples.event_samples.Samples.{same_cover}

-- a is 1
abbrev pub a_is_one : Assumption
a_is_one = record {
  circuit = record {
    inputs = record { name = codes "a"; place = 0 } ∷ [];
    outputs = record { name = codes "ok"; place = 1 } ∷ [];
    equations = Gate 1 (0 ∷ []) same_cover ∷ [];
    starts = [];
  };
  order = 2 ∷ [];
  output = 1;
}

-- the functions of each pair are equal in each frame with care for both that meets the assumption
abbrev pub PairsAreEqualUnder : Assumption → List (List ℕ) → Circuit ℕ → Circuit ℕ → Circuit ℕ → Circuit ℕ → List ℕ → List ℕ → (Either ℕ ℕ → ℕ) → Type 0
PairsAreEqualUnder c names a b cut_a cut_b left right class = (p q : ℕ) → IsPair names a b p q → HaveEqualEventsUnder c (side_by_side cut_a cut_b left right class) (Left p) (Right q)
