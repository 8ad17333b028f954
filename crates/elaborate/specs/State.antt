-- What the walk has found.
use Rattle.std.specs.Prelude.{◌≡◌, ℕ, ◌+◌, ◌≤◌, Bool, true, false, List, [], ◌∷◌, ◌++◌, map, length, Option, Some, Ok, slice_get}
use Rattle.std.specs.List.{list_all}
use Rattle.circuit_theory.specs.Interface.{◌or_else◌}
use Rattle.blif_read.specs.sec_base.TheConstants.{MAX_PLACES, MAX_STATEMENTS}
use Rattle.base_tables.specs.Table.{is_among}
use Rattle.blif_read.specs.declared.design.BlifModel.{BlifModel}
use Rattle.blif_read.specs.declared.design.Pair.{Pair}
use Rattle.blif_read.specs.Design.{main_walk}
use Rattle.elaborate.specs.declared.error.FlatError.{FlatError}
use Rattle.elaborate.specs.declared.error.FlatError.TheVariants as flat
use Rattle.elaborate.specs.declared.flat.FlatStatement.{FlatStatement}
use Rattle.elaborate.specs.declared.flat.Flat.{Flat}
use Rattle.elaborate.specs.declared.walked.Walked.{Walked}
use Rattle.elaborate.specs.Within.{is_within}
use Rattle.elaborate.specs.Flat.{FlatOf, port, named, named_statement, statement_of, view_of, name_at}
use Rattle.elaborate.specs.Walking.{when, is_too_many, main_name}
use Rattle.elaborate.specs.Steps.{Sofar, visits}

-- each number of a name stays its number
abbrev pub Keeps : List (List ℕ) → List (List ℕ) → Type 0
Keeps before now = (k : ℕ) (name : List ℕ) → slice_get before k ≡ Some name → slice_get now k ≡ Some name

-- the numbers are those of the names
abbrev pub AreNamed : List (List ℕ) → List ℕ → List (List ℕ) → Type 0
AreNamed table numbers names = map (slice_get table) numbers ≡ map Some names

-- numbered statements over their names
abbrev pub spelled_in : List (List ℕ) → List BlifModel → List FlatStatement → List (FlatOf (List ℕ))
spelled_in names models statements = map (λ s. named_statement (name_at names) (statement_of models s)) statements

-- what was counted, and the flat statements over their names
abbrev pub state : List BlifModel → Walked → Sofar
state models w = record { count = w.count; places = w.places; spelled = spelled_in w.names models w.statements }

-- each number is one of a name, and not too much was counted
pub record IsKept (w : Walked) : Type 0 where
  pub within : list_all (is_within (length w.names)) w.statements ≡ true
  pub few : w.count ≤ MAX_STATEMENTS
  pub few_places : w.places ≤ MAX_PLACES

-- flat statements go last
abbrev pub with_flats : Sofar → List (FlatOf (List ℕ)) → Sofar
with_flats s flats = record { count = s.count; places = s.places; spelled = s.spelled ++ flats }

-- these flat statements go last; the covers are those of the models
pub record Adds (flats : List BlifModel → List (FlatOf (List ℕ))) (before now : Walked) : Type 0 where
  pub kept : IsKept now
  pub same : (models : List BlifModel) → state models now ≡ with_flats (state models before) (flats models)

-- the fault of a gate or a latch that writes so many places, behind so many statements and places
abbrev pub plain_fault : ℕ → ℕ → ℕ → Bool → Option FlatError
plain_fault count places more is_long = when (is_too_many (count + 1) (places + more)) flat.TooMany or_else when is_long flat.LongName

-- an input pair drives the inner formal, an output pair the outer actual
abbrev pub port_between : Bool → List ℕ → List ℕ → FlatOf (List ℕ)
port_between true outer inner = record { out = inner; reads = outer ∷ []; kind = port }
port_between false outer inner = record { out = outer; reads = inner ∷ []; kind = port }

-- the port of a pair, where the model has these input formals
abbrev pub pair_between : List (List ℕ) → List ℕ → List ℕ → Pair → FlatOf (List ℕ)
pair_between inputs outer inner pair = port_between (is_among inputs pair.formal) (outer ++ pair.actual) (inner ++ pair.formal)

-- the statements with the ports of the main model
pub record IsWithPorts (main : BlifModel) (w : Walked) (flat : Flat) : Type 0 where
  pub statements : flat.statements ≡ w.statements
  pub same : (models : List BlifModel) → named (name_at flat.names) (view_of models flat) ≡ record { inputs = main.inputs; clocks = main.clocks; outputs = main.outputs; statements = spelled_in w.names models w.statements }

-- the main model's ports have these numbers, and each number of a name before stays its number
pub record ArePortNumbers (main : BlifModel) (before now : List (List ℕ)) (inputs clocks outputs : List ℕ) : Type 0 where
  pub of_inputs : AreNamed now inputs main.inputs
  pub of_clocks : AreNamed now clocks main.clocks
  pub of_outputs : AreNamed now outputs main.outputs
  pub keeps : Keeps before now

-- nothing was found yet
abbrev pub nothing_yet : Sofar
nothing_yet = record { count = 0; places = 0; spelled = [] }

-- what the walk over the models leaves, where it meets no fault
pub record HasWalked (models : List BlifModel) (w : Walked) : Type 0 where
  pub kept : IsKept w
  pub found : visits (main_name models) nothing_yet (main_walk models) ≡ Ok (state models w)
