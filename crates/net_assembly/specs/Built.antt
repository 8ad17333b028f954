-- A net under construction over numbered signals.
use Rattle.std.specs.Prelude.{◌≡◌, ℕ, ◌<◌, List, [], ◌∷◌, ◌++◌, map, length, slice_get, Option, Some, All, not}
use Rattle.std.specs.List.{filter}
use Rattle.circuit_theory.specs.Cover.{Cover}
use Rattle.base_tables.specs.Table.{AreDistinct}
use Rattle.elaborate.specs.blif_read.BlifModel.{BlifModel}
use Rattle.flat_net.specs.declared.signals.Signal.{Signal}
use Rattle.flat_net.specs.Makes.{with_input, with_latch}
use Rattle.elaborate.specs.declared.flat.Flat.{Flat}
use Rattle.elaborate.specs.declared.flat.FlatStatement.{FlatStatement}
use Rattle.elaborate.specs.declared.flat.FlatKind.{FlatKind}
use Rattle.elaborate.specs.declared.flat.FlatKind.TheVariants as kind
use Rattle.flat_net.specs.View.{NetView}
use Rattle.elaborate.specs.Flat.{name_at, cover_at, is_number}

-- The net's signals are driven at these distinct numbers and have their names, and each of the numbers has its signal.
pub record IsBuilt (names : List (List ℕ)) (made : List ℕ) (net : NetView) (signals : List Signal) : Type 0 where
  pub size : length signals ≡ length names
  pub named : net.names ≡ map (name_at names) made
  pub drivers : length net.drivers ≡ length made
  pub once : AreDistinct made
  pub within : All (λ n. n < length names) made
  pub placed : (s n : ℕ) → slice_get made s ≡ Some n → slice_get signals n ≡ Some (record { 0 = s })

-- the covers are those of these statements
abbrev pub AreCovers : List BlifModel → List (ℕ × ℕ) → List Cover → Type 0
AreCovers models places covers = covers ≡ map (λ p. cover_at models p.0 p.1) places

-- the numbers but the clock's
abbrev pub unclocked : Option ℕ → List ℕ → List ℕ
unclocked clock ns = filter (λ n. not (is_number clock n)) ns

-- the net with one input more for each of the numbers
abbrev pub with_inputs : List (List ℕ) → List ℕ → NetView → NetView
with_inputs names [] net = net
with_inputs names (n ∷ ns) net = with_inputs names ns (with_input net (name_at names n))

-- what the statement drives, where it is a latch
abbrev pub latch_out : FlatKind → ℕ → List ℕ
latch_out (kind.Gate model statement) out = []
latch_out (kind.Latch edge control init) out = out ∷ []
latch_out kind.Port out = []

-- what the latches drive, in their order
abbrev pub latch_outs : List FlatStatement → List ℕ
latch_outs [] = []
latch_outs (s ∷ ss) = latch_out s.kind s.out ++ latch_outs ss

-- the net is driven at these numbers, and each latch drives another one
pub record CanTakeLatches (flat : Flat) (made : List ℕ) (net : NetView) (signals : List Signal) : Type 0 where
  pub built : IsBuilt flat.names made net signals
  pub distinct : AreDistinct (made ++ latch_outs flat.statements)

-- the net with one latch more, where the statement is one
abbrev pub with_latch_of : List (List ℕ) → FlatKind → ℕ → NetView → NetView
with_latch_of names (kind.Gate model statement) out net = net
with_latch_of names (kind.Latch edge control init) out net = with_latch net (name_at names out) init
with_latch_of names kind.Port out net = net

-- the net with one latch more for each that is among the statements
abbrev pub with_latches : List (List ℕ) → List FlatStatement → NetView → NetView
with_latches names [] net = net
with_latches names (s ∷ ss) net = with_latches names ss (with_latch_of names s.kind s.out net)
