-- Where the walk stands.
use Rattle.std.specs.Prelude.{◌≡◌, ℕ, ◌-◌, ◌<◌, ◌&&◌, nat_lt, ◌+◌, Bool, All, List, [], ◌∷◌, ◌++◌, map, length, Option, Some, None, slice_get}
use Rattle.std.specs.Fmt.{decimal}
use Rattle.std.specs.List.{list_any}
use Rattle.blif_read.specs.sec_base.TheConstants.{MAX_NAME_BYTES}
use Rattle.base_tables.specs.Table.{is_among}
use Rattle.blif_read.specs.declared.design.BlifModel.{BlifModel}
use Rattle.blif_read.specs.declared.design.Statement.{Statement}
use Rattle.blif_read.specs.declared.design.Pair.{Pair}
use Rattle.blif_read.specs.declared.design.Statement.TheVariants.{Names, Latch, Subckt}
use Rattle.blif_read.specs.Kept.{model_names}
use Rattle.blif_read.specs.Design.{Inside, Item, Enter, Pairing, input_formals, step_into, model_named}
use Rattle.elaborate.specs.declared.scope.Step.{Step}
use Rattle.elaborate.specs.declared.scope.Scope.{Scope}
use Rattle.elaborate.specs.declared.tables.Formals.{Formals}
use Rattle.elaborate.specs.declared.tables.Tables.{Tables}
use Rattle.elaborate.specs.Flat.{name_at}
use Rattle.elaborate.specs.Walking.{formals_of}
use Rattle.elaborate.specs.Steps.{below}

-- a step, by the name of its model
abbrev pub inside_at : List (List ℕ) → Step → Inside
inside_at names s = record { model = name_at names s.model; instance = s.instance }

-- the path that leads to the scope
abbrev pub path_of : List (List ℕ) → Scope → List Inside
path_of names scope = map (inside_at names) scope.steps.items

-- what stands before the names of the signals under a path
abbrev pub prefix_of : List Inside → List ℕ
prefix_of [] = []
prefix_of (s ∷ path) = s.model ++ 35 ∷ (decimal s.instance ++ 35 ∷ prefix_of path)

-- a scope of the design, on one of 64 levels
pub record IsScope (models : List BlifModel) (scope : Scope) : Type 0 where
  pub known : scope.model < length models
  pub steps_known : All (λ (s : Step). s.model < length models) scope.steps.items
  pub prefix_is : scope.prefix ≡ prefix_of (path_of (model_names models) scope)
  pub levels : length scope.steps.items < 64

-- the scope of an instance of the model of this name
pub record IsInside (models : List BlifModel) (outer : Scope) (instance : ℕ) (name : List ℕ) (inner : Scope) : Type 0 where
  pub is_scope : IsScope models inner
  pub path_is : path_of (model_names models) inner ≡ step_into (path_of (model_names models) outer) name instance
  pub deeper : length inner.steps.items ≡ length outer.steps.items + 1
  pub model_is : model_named models name ≡ slice_get models inner.model

-- where the walk goes on at a statement
abbrev pub GoesInside : List BlifModel → Scope → ℕ → Statement → Option Scope → Type 0
GoesInside models scope k (Names line fanins out cover) inside = inside ≡ None
GoesInside models scope k (Latch line input output edge control start) inside = inside ≡ None
GoesInside models scope k (Subckt line name pairs) inside = (inner : Scope) × (inside ≡ Some inner) × IsInside models scope k name inner

-- a name behind so many bytes has more than 4,096 bytes
abbrev pub is_long_behind : ℕ → List ℕ → Bool
is_long_behind prefix name = nat_lt MAX_NAME_BYTES (prefix + length name)

-- so much room, which is one more than the longest name, or 0 without a name, is too much behind so many bytes
abbrev pub exceeds : ℕ → ℕ → Bool
exceeds prefix room = nat_lt 0 room && nat_lt 4097 (prefix + room)

-- the tables of a model's ports
pub record AreFormals (m : BlifModel) (f : Formals) : Type 0 where
  pub inputs : (name : List ℕ) → is_among f.inputs name ≡ is_among (input_formals m) name
  pub outputs : (name : List ℕ) → is_among f.outputs name ≡ is_among m.outputs name
  pub longest : (prefix : ℕ) → list_any (is_long_behind prefix) (formals_of m) ≡ exceeds prefix f.room

-- the tables of the models
pub record AreTables (models : List BlifModel) (t : Tables) : Type 0 where
  pub names : t.names ≡ model_names models
  pub as_many : length t.formals.items ≡ length models
  pub each : (k : ℕ) (m : BlifModel) (f : Formals) → slice_get models k ≡ Some m → slice_get t.formals.items k ≡ Some f → AreFormals m f

-- all that is visited below a scope
abbrev pub below_scope : List BlifModel → Scope → List Item
below_scope models scope = below (64 - length scope.steps.items) models (path_of (model_names models) scope) (slice_get models scope.model)

-- the visit of an instance at a scope
abbrev pub instance_at : List BlifModel → Scope → ℕ → List ℕ → List Pair → Item
instance_at models scope k name pairs = Enter (path_of (model_names models) scope) (step_into (path_of (model_names models) scope) name k) (model_named models name) name pairs

-- the visits of its pairs
abbrev pub pairs_at : List BlifModel → Scope → ℕ → List ℕ → List Pair → List Item
pairs_at models scope k name pairs = map (Pairing (path_of (model_names models) scope) (step_into (path_of (model_names models) scope) name k) (model_named models name)) pairs
