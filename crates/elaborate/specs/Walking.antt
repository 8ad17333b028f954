-- The faults that the walk meets, statement by statement.
use Rattle.std.specs.Prelude.{◌≡◌, ℕ, ◌+◌, ◌*◌, nat_lt, nat_le, ◌||◌, not, Bool, true, false, List, [], ◌∷◌, ◌++◌, map, length, Option, Some, None, codes, refl}
use Rattle.std.specs.List.{list_any, find}
use Rattle.circuit_theory.specs.Interface.{◌or_else◌}
use Rattle.blif_read.specs.sec_base.TheConstants.{MAX_NAME_BYTES, MAX_PLACES, MAX_STATEMENTS}
use Rattle.base_tables.specs.Table.{is_among}
use Rattle.blif_read.specs.declared.design.BlifModel.{BlifModel}
use Rattle.blif_read.specs.declared.design.Pair.{Pair}
use Rattle.blif_read.specs.declared.design.Statement.TheVariants.{Subckt}
use Rattle.blif_read.specs.Kept.{names_in}
use Rattle.blif_read.specs.Design.{Inside, Item, At, Enter, Pairing, flat_name, input_formals, walk, main_walk}
use Rattle.elaborate.specs.declared.error.FlatError.{FlatError}
use Rattle.elaborate.specs.declared.error.FlatError.TheVariants as flat

-- the fault, where the test holds
abbrev pub when : Bool → FlatError → Option FlatError
when true e = Some e
when false e = None

-- the fault of a name, if there is one
abbrev pub named_fault : (List ℕ → FlatError) → Option (List ℕ) → Option FlatError
named_fault fault None = None
named_fault fault (Some name) = Some (fault name)

-- a statement counts one, and each pair of an instance one more
abbrev pub statements_in : Item → ℕ
statements_in (At path s) = 1
statements_in (Enter path inner m name pairs) = 1 + length pairs
statements_in (Pairing outer inner m pair) = 0

-- each written name of a signal is a place, so a pair has two
abbrev pub places_in : Item → ℕ
places_in (At path s) = length (names_in s)
places_in (Enter path inner m name pairs) = 2 * length pairs
places_in (Pairing outer inner m pair) = 0

-- more than 400,000 statements or 4,000,000 places
abbrev pub is_too_many : ℕ → ℕ → Bool
is_too_many statements places = nat_lt MAX_STATEMENTS statements || nat_lt MAX_PLACES places

-- inputs, clocks and outputs
abbrev pub formals_of : BlifModel → List (List ℕ)
formals_of m = input_formals m ++ m.outputs

-- pair by pair: a formal that isn't known, and one that an earlier pair has
abbrev pub pairs_fault : (List ℕ → Bool) → List (List ℕ) → List Pair → Option FlatError
pairs_fault is_known seen [] = None
pairs_fault is_known seen (pair ∷ pairs) =
    when (not (is_known pair.formal)) (flat.UnknownFormal pair.formal)
    or_else when (is_among seen pair.formal) (flat.FormalTwice pair.formal)
    or_else pairs_fault is_known (seen ++ pair.formal ∷ []) pairs

-- the first of the names that is not among the others
abbrev pub first_outside : List (List ℕ) → List (List ℕ) → Option (List ℕ)
first_outside others names = find (λ name. not (is_among others name)) names

-- the pairs in turn; then the first input or clock without a pair
abbrev pub ports_fault : BlifModel → List Pair → Option FlatError
ports_fault m pairs = pairs_fault (is_among (formals_of m)) [] pairs or_else named_fault flat.OpenInput (first_outside (map (λ p. p.formal) pairs) (input_formals m))

-- the flat name has more than 4,096 bytes
abbrev pub is_long_at : List Inside → List ℕ → Bool
is_long_at path name = nat_lt MAX_NAME_BYTES (length (flat_name path name))

-- an actual's flat name is long, or that of a formal of the model, also of one without a pair
abbrev pub has_long : List Inside → List Inside → BlifModel → List Pair → Bool
has_long path inner m pairs = list_any (λ p. is_long_at path p.actual) pairs || list_any (is_long_at inner) (formals_of m)

-- there is no such model; or it stands on the path, where the main model stands too; or the instance would be at level 65
abbrev pub entry_fault : List ℕ → List Inside → Option BlifModel → List ℕ → Option FlatError
entry_fault main path None name = Some (flat.UnknownModel name)
entry_fault main path (Some m) name = when (is_among (main ∷ map (λ s. s.model) path) name) (flat.Recursive name) or_else when (nat_le 63 (length path)) (flat.TooDeep name)

-- the pairs, and then the flat names
abbrev pub inner_fault : List Inside → List Inside → Option BlifModel → List Pair → Option FlatError
inner_fault path inner None pairs = None
inner_fault path inner (Some m) pairs = ports_fault m pairs or_else when (has_long path inner m pairs) flat.LongName

-- the fault of a visit, but for its count
abbrev pub found_fault : List ℕ → Item → Option FlatError
found_fault main (At path s) = when (list_any (is_long_at path) (names_in s)) flat.LongName
found_fault main (Enter path inner m name pairs) = entry_fault main path m name or_else inner_fault path inner m pairs
found_fault main (Pairing outer inner m pair) = None

-- the first fault of a statement, behind so many statements and places
abbrev pub item_fault : List ℕ → ℕ → ℕ → Item → Option FlatError
item_fault main statements places item = when (is_too_many (statements + statements_in item) (places + places_in item)) flat.TooMany or_else found_fault main item

-- the first fault of the first statement that has one
abbrev pub walk_fault : List ℕ → ℕ → ℕ → List Item → Option FlatError
walk_fault main statements places [] = None
walk_fault main statements places (item ∷ items) = item_fault main statements places item or_else walk_fault main (statements + statements_in item) (places + places_in item) items

-- the name of the main model
abbrev pub main_name : List BlifModel → List ℕ
main_name [] = []
main_name (main ∷ others) = main.name

-- the first fault that the walk over a design meets
abbrev pub design_walk_fault : List BlifModel → Option FlatError
design_walk_fault models = walk_fault (main_name models) 0 0 (main_walk models)

-- a model inside itself
inside_itself : design_walk_fault (record { name = codes "m"; inputs = []; outputs = []; clocks = []; statements = Subckt 2 (codes "m") [] ∷ [] } ∷ []) ≡ Some (flat.Recursive (codes "m"))
unfolding walk
inside_itself = refl

-- a clock is a formal too
open_clock : design_walk_fault
    (record { name = codes "m"; inputs = codes "a" ∷ []; outputs = []; clocks = []; statements = Subckt 3 (codes "g") (record { formal = codes "u"; actual = codes "a" } ∷ []) ∷ [] }
    ∷ record { name = codes "g"; inputs = codes "u" ∷ []; outputs = []; clocks = codes "k" ∷ []; statements = [] } ∷ [])
    ≡ Some (flat.OpenInput (codes "k"))
unfolding walk
open_clock = refl
