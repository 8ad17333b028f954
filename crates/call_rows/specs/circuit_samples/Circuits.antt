-- Small circuits that the computed examples are about.
use Rattle.std.specs.Prelude.{◌==◌, ℕ, Bool, true, false, List, [], ◌∷◌, codes}
use Rattle.circuit_theory.specs.Cover.{Cover}
use Rattle.circuit_theory.specs.Circuit.{Circuit, Gate, Latch, Named}
use Rattle.assume_laws.specs.Assume.{Assumption}

abbrev pub and_cover : Cover
and_cover = record { width = 2; rows = codes "11" ∷ []; on = true }

abbrev pub buffer : Cover
buffer = record { width = 1; rows = codes "1" ∷ []; on = true }

abbrev pub inverter : Cover
inverter = record { width = 1; rows = codes "0" ∷ []; on = true }

abbrev pub constant_one : Cover
constant_one = record { width = 0; rows = [] ∷ []; on = true }

-- the first fan-in chooses the complement of the second, or the third
abbrev pub hold_not_cover : Cover
hold_not_cover = record { width = 3; rows = codes "10-" ∷ codes "0-1" ∷ []; on = true }

abbrev pub input_a : Named ℕ
input_a = record { name = codes "a"; place = 0 }

abbrev pub input_b : Named ℕ
input_b = record { name = codes "b"; place = 1 }

-- 0 a, 1 b, 2 their and, 3 y: the latch stands behind the gate
abbrev pub late : Circuit ℕ
late = record {
  inputs = input_a ∷ input_b ∷ [];
  outputs = record { name = codes "y"; place = 3 } ∷ [];
  equations = Gate 2 (0 ∷ 1 ∷ []) and_cover ∷ Latch (codes "y") 3 2 ∷ [];
  starts = [];
}

-- 0 a, 1 b, 2 p, 3 q, 4 y: the latches stand before the gate
abbrev pub early : Circuit ℕ
early = record {
  inputs = input_a ∷ input_b ∷ [];
  outputs = record { name = codes "y"; place = 4 } ∷ [];
  equations = Gate 4 (2 ∷ 3 ∷ []) and_cover ∷ Latch (codes "p") 2 0 ∷ Latch (codes "q") 3 1 ∷ [];
  starts = [];
}

-- 0 a, 1 y: one latch
abbrev pub one : Circuit ℕ
one = record {
  inputs = input_a ∷ [];
  outputs = record { name = codes "y"; place = 1 } ∷ [];
  equations = Latch (codes "y") 1 0 ∷ [];
  starts = [];
}

-- 0 a, 1 p, 2 y: two latches in a row
abbrev pub two : Circuit ℕ
two = record {
  inputs = input_a ∷ [];
  outputs = record { name = codes "y"; place = 2 } ∷ [];
  equations = Latch (codes "p") 1 0 ∷ Latch (codes "y") 2 1 ∷ [];
  starts = [];
}

-- 0 the constant 1, 1 y, a latch of it
abbrev pub constant_latch : Circuit ℕ
constant_latch = record {
  inputs = [];
  outputs = record { name = codes "y"; place = 1 } ∷ [];
  equations = Gate 0 [] constant_one ∷ Latch (codes "y") 1 0 ∷ [];
  starts = [];
}

-- 0 q, 1 its complement, which q takes over, 2 y
abbrev pub toggle : Circuit ℕ
toggle = record {
  inputs = [];
  outputs = record { name = codes "y"; place = 2 } ∷ [];
  equations = Gate 1 (0 ∷ []) inverter ∷ Gate 2 (0 ∷ []) buffer ∷ Latch (codes "q") 0 1 ∷ [];
  starts = [];
}

-- 0 e, 1 a, 2 q, 3 what q takes over, 4 y: with e the latch loads the complement of a, else it holds
abbrev pub hold_not : Circuit ℕ
hold_not = record {
  inputs = record { name = codes "e"; place = 0 } ∷ record { name = codes "a"; place = 1 } ∷ [];
  outputs = record { name = codes "y"; place = 4 } ∷ [];
  equations = Gate 3 (0 ∷ 1 ∷ 2 ∷ []) hold_not_cover ∷ Gate 4 (2 ∷ []) buffer ∷ Latch (codes "q") 2 3 ∷ [];
  starts = [];
}

-- 0 a, 1 y, which is a
abbrev pub only_a : Assumption
only_a = record {
  circuit = record {
    inputs = record { name = codes "a"; place = 0 } ∷ [];
    outputs = record { name = codes "y"; place = 1 } ∷ [];
    equations = Gate 1 (0 ∷ []) buffer ∷ [];
    starts = [];
  };
  order = 0 ∷ [];
  output = 1;
}

abbrev pub zero_cover : Cover
zero_cover = record { width = 0; rows = []; on = true }

-- 0 a, 1 y, the constant 0
abbrev pub nil_a : Circuit ℕ
nil_a = record {
  inputs = record { name = codes "a"; place = 0 } ∷ [];
  outputs = record { name = codes "y"; place = 1 } ∷ [];
  equations = Gate 1 [] zero_cover ∷ [];
  starts = [];
}

-- the latch, from 0 and from 1
abbrev pub one_from : Bool → Circuit ℕ
one_from bit = record one { starts = record { place = 1; bit = bit } ∷ [] }

-- a latch behind a gate, and latches before it, all from 0
abbrev pub late_from_zero : Circuit ℕ
late_from_zero = record late { starts = record { place = 3; bit = false } ∷ [] }

abbrev pub early_from_zero : Circuit ℕ
early_from_zero = record early { starts = record { place = 2; bit = false } ∷ record { place = 3; bit = false } ∷ [] }

-- 0 a, 1 the constant 1, 2 y, a latch of it from 0
abbrev pub constant_from_zero : Circuit ℕ
constant_from_zero = record {
  inputs = input_a ∷ [];
  outputs = record { name = codes "y"; place = 2 } ∷ [];
  equations = Gate 1 [] constant_one ∷ Latch (codes "y") 2 1 ∷ [];
  starts = record { place = 2; bit = false } ∷ [];
}

-- the first fan-in, whatever the second is
abbrev pub first_cover : Cover
first_cover = record { width = 2; rows = codes "1-" ∷ []; on = true }

-- 0 a, 1 q, which takes over its complement 2, and 3 y, made of q and a
abbrev pub toggle_with : Cover → Circuit ℕ
toggle_with cover = record {
  inputs = input_a ∷ [];
  outputs = record { name = codes "y"; place = 3 } ∷ [];
  equations = Gate 2 (1 ∷ []) inverter ∷ Gate 3 (1 ∷ 0 ∷ []) cover ∷ Latch (codes "q") 1 2 ∷ [];
  starts = [];
}

-- the name of its latch
abbrev pub toggled : List (List ℕ)
toggled = codes "q" ∷ []

-- three cycles in which a is 1
abbrev pub ones : List (List Bool)
ones = (true ∷ []) ∷ (true ∷ []) ∷ (true ∷ []) ∷ []

-- a row that is 1 in a alone
abbrev pub only_first : ℕ → Bool
only_first i = i == 0
