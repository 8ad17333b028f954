-- What the names of a stimulus are to two circuits.
use Rattle.std.specs.Prelude.{◌≡◌, ℕ, Bool, ◌&&◌, ◌||◌, not, List, Option, Some, None, Result, Ok, Err}
use Rattle.std.specs.List.{filter, find}
use Rattle.circuit_theory.specs.Interface.{first_missing, shared_inputs}
use Rattle.base_tables.specs.Table.{is_among}
use Rattle.flat_net.specs.View.{NetView, ports_of}
use Rattle.sec_setup.specs.ports.name_tables.Names.{input_names, latch_names}
use Rattle.job_circuit.specs.declared.replay.replay_header.error.ReplayError.{ReplayError}
use Rattle.job_circuit.specs.declared.replay.replay_header.error.ReplayError.TheVariants as refused

-- one of the circuits has an input of this name
abbrev pub is_input : NetView → NetView → List ℕ → Bool
is_input a b name = is_among (input_names a) name || is_among (input_names b) name

-- one of the circuits has an input of this name, or both have a latch of it
abbrev pub is_known : NetView → NetView → List ℕ → Bool
is_known a b name = is_input a b name || (is_among (latch_names a) name && is_among (latch_names b) name)

-- the first name of a header that is neither an input of one of the circuits nor a latch of both
abbrev pub first_unknown : NetView → NetView → List (List ℕ) → Option (List ℕ)
first_unknown a b header = find (λ name. not (is_known a b name)) header

-- the first input that both circuits have, in A's order, that a header lacks
abbrev pub first_lacking : NetView → NetView → List (List ℕ) → Option (List ℕ)
first_lacking a b header = first_missing (shared_inputs (ports_of a) (ports_of b)) header

-- A latch of this name is cut open: the header names it, and it is no input.
abbrev pub is_opened : NetView → NetView → List (List ℕ) → List ℕ → Bool
is_opened a b header name = is_among header name && not (is_input a b name)

-- the names of the latches that are cut open, in A's order of latches
abbrev pub opened : NetView → NetView → List (List ℕ) → List (List ℕ)
opened a b header = filter (is_opened a b header) (latch_names a)

-- the header fits both circuits
pub record FitsBoth (a b : NetView) (header : List (List ℕ)) : Type 0 where
  pub known : first_unknown a b header ≡ None
  pub complete : first_lacking a b header ≡ None

-- the header fits both circuits, or this is the first name that doesn't
abbrev pub FitsOr : NetView → NetView → List (List ℕ) → Result (Unit {0}) ReplayError → Type 0
FitsOr a b header (Ok done) = FitsBoth a b header
FitsOr a b header (Err (refused.Unknown name)) = first_unknown a b header ≡ Some name
FitsOr a b header (Err (refused.Missing name)) = (first_unknown a b header ≡ None) × (first_lacking a b header ≡ Some name)
FitsOr a b header (Err refused.NoMemory) = Unit {0}

-- the header fits both circuits, and these latches are cut open; or this is the first name that doesn't fit
abbrev pub Opens : NetView → NetView → List (List ℕ) → Result (List (List ℕ)) ReplayError → Type 0
Opens a b header (Ok names) = FitsBoth a b header × (names ≡ opened a b header)
Opens a b header (Err (refused.Unknown name)) = FitsOr a b header (Err (refused.Unknown name))
Opens a b header (Err (refused.Missing name)) = FitsOr a b header (Err (refused.Missing name))
Opens a b header (Err refused.NoMemory) = Unit {0}
