-- A hierarchical design as equations over places.
use Rattle.std.specs.Prelude.{◌≡◌, ℕ, zero, suc, ◌+◌, ◌<◌, Bool, true, false, not, List, [], ◌∷◌, ◌++◌, map, length, Option, Some, None, codes, bytes_eq, refl}
use Rattle.std.specs.List.{filter, filter_map, find, All, Contains}
use Rattle.std.specs.Fmt.{decimal, digits}
use Rattle.circuit_theory.specs.Circuit.{Circuit, Equation, Gate, Port, Named, Started, Latch as Register}
use Rattle.circuit_theory.specs.Flattened.{Follows}
use Rattle.blif_read.specs.blif_lines.sec_base.Init.{Init}
use Rattle.blif_read.specs.blif_lines.sec_base.Init.TheVariants as init
use Rattle.base_tables.specs.Table.{is_among}
use Rattle.blif_read.specs.declared.design.BlifModel.{BlifModel}
use Rattle.blif_read.specs.declared.design.Pair.{Pair}
use Rattle.blif_read.specs.declared.design.Statement.{Statement}
use Rattle.blif_read.specs.declared.design.Statement.TheVariants.{Names, Latch, Subckt}

-- a step into an instance: its model, and its number among the instances of the model around it
pub record Inside : Type 0 where
  pub model : List ℕ
  pub instance : ℕ

-- a signal's name under a path of instances, the outermost first
pub record Place : Type 0 where
  pub path : List Inside
  pub name : List ℕ

abbrev pub place_at : List Inside → List ℕ → Place
place_at path name = record { path = path; name = name }

-- the name after `m#k#` for each instance on the path
abbrev pub flat_name : List Inside → List ℕ → List ℕ
flat_name [] name = name
flat_name (s ∷ path) name = s.model ++ 35 ∷ (decimal s.instance ++ 35 ∷ flat_name path name)

abbrev pub name_of : Place → List ℕ
name_of p = flat_name p.path p.name

abbrev pub model_named : List BlifModel → List ℕ → Option BlifModel
model_named models name = find (λ m. bytes_eq name m.name) models

-- what the walk visits: a gate or latch statement at a path, an instance at a path with the path inside it, or a pair between the two
pub data Item : Type 0 where
  At : (path : List Inside) (statement : Statement) → Item
  Enter : (path inner : List Inside) (model : Option BlifModel) (name : List ℕ) (pairs : List Pair) → Item
  Pairing : (outer inner : List Inside) (model : Option BlifModel) (pair : Pair) → Item

abbrev pub entered : (List Inside → BlifModel → List Item) → Option BlifModel → List Inside → List Item
entered within None inner = []
entered within (Some m) inner = within inner m

abbrev pub step_into : List Inside → List ℕ → ℕ → List Inside
step_into path model k = path ++ record { model = model; instance = k } ∷ []

-- the statements in order; at an instance its pairs first, then what `within` visits in its model
abbrev pub visited : (List Inside → BlifModel → List Item) → List BlifModel → List Inside → ℕ → List Statement → List Item
visited within models path k [] = []
visited within models path k (Names line fanins out cover ∷ rest) = At path (Names line fanins out cover) ∷ visited within models path k rest
visited within models path k (Latch line input output edge control start ∷ rest) = At path (Latch line input output edge control start) ∷ visited within models path k rest
visited within models path k (Subckt line name pairs ∷ rest) =
    Enter path (step_into path name k) (model_named models name) name pairs
    ∷ (map (Pairing path (step_into path name k) (model_named models name)) pairs
    ++ (entered within (model_named models name) (step_into path name k) ++ visited within models path (k + 1) rest))

-- the walk below a path, through at most so many levels
unfoldable pub walk : ℕ → List BlifModel → List Inside → BlifModel → List Item
walk zero models path m = []
walk (suc levels) models path m = visited (walk levels models) models path 0 m.statements

-- an input formal is an input or a clock
abbrev pub input_formals : BlifModel → List (List ℕ)
input_formals m = m.inputs ++ m.clocks

abbrev pub is_input_formal : Option BlifModel → List ℕ → Bool
is_input_formal None name = false
is_input_formal (Some m) name = is_among (input_formals m) name

-- an input pair drives the inner formal, an output pair the outer actual
abbrev pub port_of : Bool → Place → Place → Equation Place
port_of true outer inner = Port inner outer
port_of false outer inner = Port outer inner

abbrev pub equation_of : Item → Option (Equation Place)
equation_of (At path (Names line fanins out cover)) = Some (Gate (place_at path out) (map (place_at path) fanins) cover)
equation_of (At path (Latch line input output edge control start)) = Some (Register (flat_name path output) (place_at path output) (place_at path input))
equation_of (At path (Subckt line name pairs)) = None
equation_of (Enter path inner m name pairs) = None
equation_of (Pairing outer inner m pair) = Some (port_of (is_input_formal m pair.formal) (place_at outer pair.actual) (place_at inner pair.formal))

abbrev pub start_at : Place → Init → Option (Started Place)
start_at place init.Zero = Some (record { place = place; bit = false })
start_at place init.One = Some (record { place = place; bit = true })
start_at place other = None

abbrev pub start_of : Item → Option (Started Place)
start_of (At path (Latch line input output edge control start)) = start_at (place_at path output) start
start_of other = None

-- a signal of the main model
abbrev pub top : List ℕ → Place
top name = place_at [] name

abbrev pub at_top : List ℕ → Named Place
at_top name = record { name = name; place = top name }

abbrev pub is_clock : Option (List ℕ) → List ℕ → Bool
is_clock None name = false
is_clock (Some c) name = bytes_eq c name

-- the walk of the whole design: 64 levels, of which the main model is the first
abbrev pub main_walk : List BlifModel → List Item
main_walk [] = []
main_walk (main ∷ others) = walk 64 (main ∷ others) [] main

abbrev pub main_inputs : List BlifModel → List (List ℕ)
main_inputs [] = []
main_inputs (main ∷ others) = main.inputs

abbrev pub main_outputs : List BlifModel → List (List ℕ)
main_outputs [] = []
main_outputs (main ∷ others) = main.outputs

abbrev pub main_clocks : List BlifModel → List (List ℕ)
main_clocks [] = []
main_clocks (main ∷ others) = main.clocks

-- The design's circuit, where the clock net comes from the main model's signal of this name. That is no input.
unfoldable pub circuit_of_design : List BlifModel → Option (List ℕ) → Circuit Place
circuit_of_design models clock = record {
  inputs = map at_top (filter (λ n. not (is_clock clock n)) (main_inputs models));
  outputs = map at_top (main_outputs models);
  equations = filter_map equation_of (main_walk models);
  starts = filter_map start_of (main_walk models);
}

abbrev pub control_at : List Inside → Option (List ℕ) → Option Place
control_at path None = None
control_at path (Some control) = Some (place_at path control)

-- the control of a latch
abbrev pub control_place : Item → Option Place
control_place (At path (Latch line input output edge control start)) = control_at path control
control_place other = None

-- the main model's clock names, then the controls of all latches
abbrev pub clock_places : List BlifModel → List Place
clock_places models = map top (main_clocks models) ++ filter_map control_place (main_walk models)

-- There is no clock exactly where nothing is clocked; else it is a main input or clock to which each
-- clock name and each control leads back through ports.
abbrev pub IsClock : List BlifModel → Option (List ℕ) → Type 0
IsClock models None = clock_places models ≡ []
IsClock models (Some c) =
    (0 < length (clock_places models))
    × Contains (main_inputs models ++ main_clocks models) c
    × All (λ p. Follows (circuit_of_design models None) p (top c)) (clock_places models)

-- the hierarchical and: its latch reads what the instance gives
hier_example : circuit_of_design
    (record {
      name = codes "top";
      inputs = codes "a" ∷ codes "b" ∷ [];
      outputs = codes "y" ∷ [];
      clocks = [];
      statements =
          Subckt 4 (codes "g") (record { formal = codes "u"; actual = codes "a" } ∷ record { formal = codes "v"; actual = codes "b" } ∷ record { formal = codes "w"; actual = codes "n" } ∷ [])
          ∷ Latch 5 (codes "n") (codes "y") None None init.One ∷ [];
    }
    ∷ record {
      name = codes "g";
      inputs = codes "u" ∷ codes "v" ∷ [];
      outputs = codes "w" ∷ [];
      clocks = [];
      statements =
          Names 10 (codes "u" ∷ codes "v" ∷ []) (codes "w") (record { width = 2; rows = codes "11" ∷ []; on = true }) ∷ [];
    } ∷ []) None
    ≡ (let inner : List Inside = record { model = codes "g"; instance = 0 } ∷ [] in
    record {
      inputs = at_top (codes "a") ∷ at_top (codes "b") ∷ [];
      outputs = at_top (codes "y") ∷ [];
      equations =
          Port (place_at inner (codes "u")) (top (codes "a"))
          ∷ Port (place_at inner (codes "v")) (top (codes "b"))
          ∷ Port (top (codes "n")) (place_at inner (codes "w"))
          ∷ Gate (place_at inner (codes "w")) (place_at inner (codes "u") ∷ place_at inner (codes "v") ∷ []) (record { width = 2; rows = codes "11" ∷ []; on = true })
          ∷ Register (codes "y") (top (codes "y")) (top (codes "n")) ∷ [];
      starts = record { place = top (codes "y"); bit = true } ∷ [];
    })
unfolding circuit_of_design walk
hier_example = refl

inner_name : name_of (place_at (record { model = codes "g"; instance = 0 } ∷ record { model = codes "h"; instance = 12 } ∷ []) (codes "w")) ≡ codes "g#0#h#12#w"
unfolding digits
inner_name = refl
