-- A latch that loads in every cycle though it reads itself, against the constant 0: they differ, without an assumption and under one.
use Rattle.std.specs.Prelude.{◌==◌, ℕ, Bool, true, false, List, [], ◌∷◌, codes}
use Rattle.circuit_theory.specs.Cover.{Cover}
use Rattle.circuit_theory.specs.Circuit.{Circuit, Gate, Latch}
use Rattle.circuit_theory.specs.Tree.{Tree, Leaf, Branch, Nil, Cons}
use Rattle.circuit_theory.specs.Query.{Query, Variable}
use Rattle.circuit_theory.specs.Joined.{Either, joined}
use Rattle.circuit_theory.specs.Frame.{EventSide}
use Rattle.circuit_theory.specs.EventFits.{side_by_side}
use Rattle.assume_laws.specs.Assume.{Assumption}
use Rattle.call_rows.specs.circuit_samples.event_samples.Samples.{same_cover}

-- the first fan-in, whatever the second is
abbrev pub first_cover : Cover
first_cover = record { width = 2; rows = codes "1-" ∷ []; on = true }

abbrev pub nothing_cover : Cover
nothing_cover = record { width = 0; rows = []; on = true }

-- 0 a; 1 q, which takes over 2, and that is a but reads q too; 3 y, which is q
abbrev pub always_loads : Circuit ℕ
always_loads = record {
  inputs = record { name = codes "a"; place = 0 } ∷ [];
  outputs = record { name = codes "y"; place = 3 } ∷ [];
  equations = Gate 2 (0 ∷ 1 ∷ []) first_cover ∷ Gate 3 (1 ∷ []) same_cover ∷ Latch (codes "q") 1 2 ∷ [];
  starts = [];
}

-- 0 a; 1 y, the constant 0
abbrev pub nothing : Circuit ℕ
nothing = record {
  inputs = record { name = codes "a"; place = 0 } ∷ [];
  outputs = record { name = codes "y"; place = 1 } ∷ [];
  equations = Gate 1 [] nothing_cover ∷ [];
  starts = [];
}

abbrev pub always_both : Circuit (Either ℕ ℕ)
always_both = joined always_loads nothing

-- q is of class 0
abbrev pub no_class : Either ℕ ℕ → ℕ
no_class u = 0

abbrev pub always_side : EventSide (Either ℕ ℕ)
always_side = side_by_side always_loads nothing (0 ∷ []) (0 ∷ []) no_class

-- what the pair is asked: a, one event ago, against 0
abbrev pub always_query : Query (List ℕ)
always_query = record { left = λ bits. bits 0 (0 ∷ []); right = λ bits. false; care = λ bits. true }

abbrev pub always_variables : List (Variable (List ℕ))
always_variables = record { input = 0; at = 0 ∷ [] } ∷ []

-- the assumption that a is 1
abbrev pub one_always : Assumption
one_always = record {
  circuit = record {
    inputs = record { name = codes "a"; place = 0 } ∷ [];
    outputs = record { name = codes "ok"; place = 1 } ∷ [];
    equations = Gate 1 (0 ∷ []) same_cover ∷ [];
    starts = [];
  };
  order = 0 ∷ [];
  output = 1;
}

-- what the pair is asked under it
abbrev pub assumed_query : Query (List ℕ)
assumed_query = record { left = λ bits. bits 0 (0 ∷ []); right = λ bits. false; care = λ bits. bits 0 (0 ∷ []) }

-- a row that meets it, and is 0 elsewhere
abbrev pub meeting_row : ℕ → Bool
meeting_row i = i == 0

-- an assumption that no row meets
abbrev pub never : Assumption
never = record {
  circuit = record {
    inputs = record { name = codes "a"; place = 0 } ∷ [];
    outputs = record { name = codes "ok"; place = 1 } ∷ [];
    equations = Gate 1 [] nothing_cover ∷ [];
    starts = [];
  };
  order = 0 ∷ [];
  output = 1;
}

-- the trees of both at one place
abbrev pub ok_tree : Tree ℕ
ok_tree = Branch same_cover (Cons (Leaf 0 0) Nil)

abbrev pub never_tree : Tree ℕ
never_tree = Branch nothing_cover Nil
