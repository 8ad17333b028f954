-- A latch that never loads, against the constant 0.
use Rattle.std.specs.Prelude.{ℕ, false, List, [], ◌∷◌, codes}
use Rattle.circuit_theory.specs.Circuit.{Circuit, Latch}
use Rattle.circuit_theory.specs.Query.{Query}
use Rattle.circuit_theory.specs.Joined.{Either, joined}
use Rattle.circuit_theory.specs.Frame.{EventSide}
use Rattle.circuit_theory.specs.EventFits.{side_by_side}
use Rattle.call_rows.specs.circuit_samples.event_samples.Always.{nothing}

-- 0 a; 1 q, which takes over itself, so that it is enabled and its enable is 0; y is q
abbrev pub never_loads : Circuit ℕ
never_loads = record {
  inputs = record { name = codes "a"; place = 0 } ∷ [];
  outputs = record { name = codes "y"; place = 1 } ∷ [];
  equations = Latch (codes "q") 1 1 ∷ [];
  starts = [];
}

abbrev pub never_both : Circuit (Either ℕ ℕ)
never_both = joined never_loads nothing

-- q is of class 1
abbrev pub one_class : Either ℕ ℕ → ℕ
one_class u = 1

abbrev pub never_side : EventSide (Either ℕ ℕ)
never_side = side_by_side never_loads nothing (0 ∷ []) (0 ∷ []) one_class

-- what the pair is asked: 0, as q is read, against 0, with care in no frame
abbrev pub never_query : Query (List ℕ)
never_query = record { left = λ bits. false; right = λ bits. false; care = λ bits. false }
