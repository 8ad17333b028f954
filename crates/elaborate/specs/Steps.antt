-- The walk item by item, over what was found before.
use Rattle.std.specs.Prelude.{ℕ, ◌+◌, List, [], ◌∷◌, ◌++◌, map, Option, Some, None, option_map, Result, Ok, Err}
use Rattle.std.specs.Option.{option_to_list}
use Rattle.blif_read.specs.declared.design.BlifModel.{BlifModel}
use Rattle.blif_read.specs.declared.design.Statement.{Statement}
use Rattle.blif_read.specs.declared.design.Statement.TheVariants.{Names, Latch, Subckt}
use Rattle.blif_read.specs.Design.{Inside, Item, At, Enter, Pairing, name_of, step_into, model_named, walk}
use Rattle.elaborate.specs.declared.error.FlatError.{FlatError}
use Rattle.elaborate.specs.Flat.{FlatOf, named_statement, flat_of}
use Rattle.elaborate.specs.Walking.{statements_in, places_in, item_fault}

-- how many statements and places were counted, and the flat statements over flat names
pub record Sofar : Type 0 where
  pub count : ℕ
  pub places : ℕ
  pub spelled : List (FlatOf (List ℕ))

-- the flat statement of a visit over flat names, if it has one
abbrev pub spelled_of : Item → List (FlatOf (List ℕ))
spelled_of item = option_to_list (option_map (named_statement name_of) (flat_of item))

-- what is found behind a visit without a fault
abbrev pub after : Sofar → Item → Sofar
after s item = record { count = s.count + statements_in item; places = s.places + places_in item; spelled = s.spelled ++ spelled_of item }

-- a fault ends the walk
abbrev pub ends : Option FlatError → Sofar → Result Sofar FlatError
ends None s = Ok s
ends (Some e) s = Err e

-- the walk goes on where no fault ended it
abbrev pub onward : (Sofar → Result Sofar FlatError) → Result Sofar FlatError → Result Sofar FlatError
onward next (Ok s) = next s
onward next (Err e) = Err e

-- what is found behind the items, or the first fault
unfoldable pub visits : List ℕ → Sofar → List Item → Result Sofar FlatError
visits main s [] = Ok s
visits main s (item ∷ items) = onward (λ t. visits main t items) (ends (item_fault main s.count s.places item) (after s item))

-- what is visited at a statement before the walk goes inside
abbrev pub heads : List BlifModel → List Inside → ℕ → Statement → List Item
heads models path k (Names line fanins out cover) = At path (Names line fanins out cover) ∷ []
heads models path k (Latch line input output edge control start) = At path (Latch line input output edge control start) ∷ []
heads models path k (Subckt line name pairs) = Enter path (step_into path name k) (model_named models name) name pairs ∷ map (Pairing path (step_into path name k) (model_named models name)) pairs

-- what is visited below a path in a model
abbrev pub below : ℕ → List BlifModel → List Inside → Option BlifModel → List Item
below levels models path None = []
below levels models path (Some m) = walk levels models path m
