-- What the models of a text keep.
use Rattle.std.specs.Prelude.{ℕ, ◌==◌, ◌&&◌, not, map, Bool, true, List, [], ◌∷◌, ◌++◌, length, Option, Some, None}
use Rattle.std.specs.List.{list_all}
use Rattle.blif_read.specs.blif_lines.Lines.{is_hash}
use Rattle.blif_read.specs.declared.design.BlifModel.{BlifModel}
use Rattle.blif_read.specs.declared.design.Pair.{Pair}
use Rattle.blif_read.specs.declared.design.Statement.{Statement}
use Rattle.blif_read.specs.declared.design.Statement.TheVariants.{Names, Latch, Subckt}
use Rattle.blif_read.specs.Fault.{repeats}

abbrev pub names_in_option : Option (List ℕ) → List (List ℕ)
names_in_option None = []
names_in_option (Some name) = name ∷ []

abbrev pub names_in_pairs : List Pair → List (List ℕ)
names_in_pairs [] = []
names_in_pairs (pair ∷ pairs) = pair.formal ∷ pair.actual ∷ names_in_pairs pairs

abbrev pub names_in : Statement → List (List ℕ)
names_in (Names line fanins out cover) = fanins ++ out ∷ []
names_in (Latch line input output edge control start) = input ∷ output ∷ names_in_option control
names_in (Subckt line model pairs) = model ∷ names_in_pairs pairs

abbrev pub names_in_all : List Statement → List (List ℕ)
names_in_all [] = []
names_in_all (s ∷ statements) = names_in s ++ names_in_all statements

-- the names that a model writes, each as often as it is written
abbrev pub names_in_model : BlifModel → List (List ℕ)
names_in_model m = m.name ∷ (m.inputs ++ (m.outputs ++ (m.clocks ++ names_in_all m.statements)))

-- the names that a design writes
abbrev pub written_names : List BlifModel → List (List ℕ)
written_names [] = []
written_names (m ∷ models) = names_in_model m ++ written_names models

-- no byte of the name is `#`
abbrev pub is_plain : List ℕ → Bool
is_plain name = list_all (λ b. not (is_hash b)) name

-- the cover has one column for each fan-in
abbrev pub cover_fits : Statement → Bool
cover_fits (Names line fanins out cover) = cover.width == length fanins
cover_fits other = true

abbrev pub covers_fit : BlifModel → Bool
covers_fit m = list_all cover_fits m.statements

-- no input is written twice, and no output
abbrev pub ports_distinct : BlifModel → Bool
ports_distinct m = not (repeats [] m.inputs) && not (repeats [] m.outputs)

abbrev pub model_names : List BlifModel → List (List ℕ)
model_names models = map (λ m. m.name) models
