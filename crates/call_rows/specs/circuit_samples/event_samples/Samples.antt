-- Pairs of circuits with two load enables and a latch that has none.
use Rattle.std.specs.Prelude.{◌==◌, ℕ, if◌then◌else◌, List, [], ◌∷◌, codes, true}
use Rattle.circuit_theory.specs.Cover.{Cover}
use Rattle.circuit_theory.specs.Circuit.{Circuit, Gate, Latch}
use Rattle.circuit_theory.specs.Joined.{Either, Left, Right, joined}
use Rattle.circuit_theory.specs.Frame.{EventSide}
use Rattle.circuit_theory.specs.EventFits.{side_by_side}

-- the value of the one fan-in
abbrev pub same_cover : Cover
same_cover = record { width = 1; rows = codes "1" ∷ []; on = true }

-- its complement
abbrev pub not_cover : Cover
not_cover = record { width = 1; rows = codes "0" ∷ []; on = true }

-- 1 where all three are
abbrev pub all_cover : Cover
all_cover = record { width = 3; rows = codes "111" ∷ []; on = true }

-- the second fan-in where the first is 1, else the third
abbrev pub load_cover : Cover
load_cover = record { width = 3; rows = codes "11-" ∷ codes "0-1" ∷ []; on = true }

-- the complement of the second fan-in where the first is 1, else the third
abbrev pub load_not_cover : Cover
load_not_cover = record { width = 3; rows = codes "10-" ∷ codes "0-1" ∷ []; on = true }

-- 0 e, 1 f, 2 a; 3 q, which loads a under e, 4 what it takes over; 5 r, which loads a under f, 6 what it takes over; 7 t, which
-- takes over its complement 8; 9 z, made of q; 10 y, which is 1 where z, r and t are
abbrev pub held : Cover → Cover → Circuit ℕ
held load out = record {
  inputs = record { name = codes "e"; place = 0 } ∷ record { name = codes "f"; place = 1 } ∷ record { name = codes "a"; place = 2 } ∷ [];
  outputs = record { name = codes "y"; place = 10 } ∷ record { name = codes "z"; place = 9 } ∷ [];
  equations =
      Gate 4 (0 ∷ 2 ∷ 3 ∷ []) load ∷ Gate 6 (1 ∷ 2 ∷ 5 ∷ []) load_cover ∷ Gate 8 (7 ∷ []) not_cover ∷ Gate 9 (3 ∷ []) out ∷ Gate 10 (9 ∷ 5 ∷ 7 ∷ []) all_cover
      ∷ Latch (codes "q") 3 4 ∷ Latch (codes "r") 5 6 ∷ Latch (codes "t") 7 8 ∷ [];
  starts = [];
}

-- q loads the complement of a, and z is q
abbrev pub before : Circuit ℕ
before = held load_not_cover same_cover

-- q loads a, and z is its complement
abbrev pub behind : Circuit ℕ
behind = held load_cover not_cover

-- t is cut open
abbrev pub exposed : List (List ℕ)
exposed = codes "t" ∷ []

-- then it is an input of its own, and its complement an output
abbrev pub opened : Cover → Cover → Circuit ℕ
opened load out = record {
  inputs =
      record { name = codes "e"; place = 0 } ∷ record { name = codes "f"; place = 1 } ∷ record { name = codes "a"; place = 2 } ∷ record { name = codes "t"; place = 7 } ∷ [];
  outputs = record { name = codes "y"; place = 10 } ∷ record { name = codes "z"; place = 9 } ∷ record { name = codes "t"; place = 8 } ∷ [];
  equations =
      Gate 4 (0 ∷ 2 ∷ 3 ∷ []) load ∷ Gate 6 (1 ∷ 2 ∷ 5 ∷ []) load_cover ∷ Gate 8 (7 ∷ []) not_cover ∷ Gate 9 (3 ∷ []) out ∷ Gate 10 (9 ∷ 5 ∷ 7 ∷ []) all_cover
      ∷ Latch (codes "q") 3 4 ∷ Latch (codes "r") 5 6 ∷ [];
  starts = [];
}

-- the inputs' numbers in the opened circuits
abbrev pub numbers : List ℕ
numbers = 0 ∷ 1 ∷ 2 ∷ 3 ∷ []

-- q is of class 1 and r of class 2
abbrev pub class_at : ℕ → ℕ
class_at p = if p == 3 then 1 else if p == 5 then 2 else 0

abbrev pub class_of : Either ℕ ℕ → ℕ
class_of (Left p) = class_at p
class_of (Right q) = class_at q

abbrev pub opened_before : Circuit ℕ
opened_before = opened load_not_cover same_cover

abbrev pub opened_behind : Circuit ℕ
opened_behind = opened load_cover not_cover

-- the opened circuits side by side
abbrev pub opened_both : Circuit (Either ℕ ℕ)
opened_both = joined opened_before opened_behind

abbrev pub opened_side : EventSide (Either ℕ ℕ)
opened_side = side_by_side opened_before opened_behind numbers numbers class_of

-- 0 where the first fan-in is 1, else the third
abbrev pub load_zero_cover : Cover
load_zero_cover = record { width = 3; rows = codes "0-1" ∷ []; on = true }

-- q loads 0, and z is q
abbrev pub cleared : Circuit ℕ
cleared = held load_zero_cover same_cover

abbrev pub opened_cleared : Circuit ℕ
opened_cleared = opened load_zero_cover same_cover
