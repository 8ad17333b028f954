-- A computed test that a design without clocks has no fault.
use Rattle.std.specs.Prelude.{ℕ, nat_lt, ◌+◌, ◌&&◌, not, Bool, true, false, if◌then◌else◌, List, [], ◌∷◌, ◌++◌, Option, Some, None}
use Rattle.std.specs.List.{list_all}
use Rattle.circuit_theory.specs.Names.{same_name, is_among}
use Rattle.blif_read.specs.declared.design.BlifModel.{BlifModel}
use Rattle.elaborate.specs.Flat.{FlatDesign, FlatOf, Kind, gate, latch, port, flat_design_of}
use Rattle.elaborate.specs.Walking.{design_walk_fault}
use Rattle.flatten.specs.connectivity.Wiring.{wiring_of}
use Rattle.flatten.specs.connectivity.Faults.{driven, clock_signals}

-- the name's place in the order, counted from 1; 0 for a name that isn't there
abbrev pub rank_from : ℕ → List (List ℕ) → List ℕ → ℕ
rank_from k [] name = 0
rank_from k (n ∷ order) name = if same_name n name then k else rank_from (k + 1) order name

abbrev pub rank_in : List (List ℕ) → List ℕ → ℕ
rank_in order name = rank_from 1 order name

abbrev pub is_empty : {X : Type 0} → List X → Bool
is_empty [] = true
is_empty (x ∷ xs) = false

abbrev pub is_none : {X : Type 0} → Option X → Bool
is_none None = true
is_none (Some x) = false

-- none of the names stands among those before it
abbrev pub are_new : List (List ℕ) → List (List ℕ) → Bool
are_new before [] = true
are_new before (name ∷ names) = not (is_among before name) && are_new (before ++ name ∷ []) names

abbrev pub is_quick : {P : Type 0} → Kind P → Bool
is_quick (gate cover) = true
is_quick (latch edge control init) = false
is_quick port = true

-- a gate or a port stands behind what it reads
abbrev pub is_behind : (List ℕ → ℕ) → FlatOf (List ℕ) → Bool
is_behind rank s = if is_quick s.kind then list_all (λ name. nat_lt (rank name) (rank s.out)) s.reads else true

-- each signal is driven once, what is read is driven, there is no clock and no edge, and the order has gates and ports behind what
-- they read
abbrev pub is_wired_well : List (List ℕ) → FlatDesign (List ℕ) → Bool
is_wired_well order d =
    are_new ((wiring_of d).inputs ++ (wiring_of d).clocks) (wiring_of d).outs
    && (list_all (is_among (driven (wiring_of d))) ((wiring_of d).reads ++ (wiring_of d).outputs)
    && (is_empty (clock_signals (wiring_of d))
    && (is_empty (wiring_of d).typed && list_all (is_behind (rank_in order)) d.statements)))

-- the walk meets no fault, and the wiring has none
abbrev pub has_no_fault : List (List ℕ) → List BlifModel → Bool
has_no_fault order models = is_none (design_walk_fault models) && is_wired_well order (flat_design_of models)
