-- The gates of a net under construction, in an order of evaluation.
use Rattle.std.specs.Prelude.{◌≡◌, ℕ, suc, ◌<◌, ◌≤◌, ◌==◌, cond, List, [], ◌∷◌, ◌++◌, map, length, take, Option, Some, None, slice_get}
use Rattle.std.specs.List.{All, Contains, filter}
use Rattle.circuit_theory.specs.Circuit.{Equation}
use Rattle.circuit_theory.specs.Joined.{moved}
use Rattle.base_tables.specs.Table.{AreDistinct}
use Rattle.blif_read.specs.declared.design.BlifModel.{BlifModel}
use Rattle.flat_net.specs.declared.signals.Signal.{Signal}
use Rattle.flat_net.specs.declared.parts.Gate.{Gate}
use Rattle.flat_net.specs.View.{NetView, equation_of_gate}
use Rattle.flat_net.specs.Makes.{MakerView}
use Rattle.elaborate.specs.declared.flat.Flat.{Flat}
use Rattle.elaborate.specs.declared.flat.FlatStatement.{FlatStatement}
use Rattle.elaborate.specs.declared.flat.FlatKind.TheVariants as kind
use Rattle.elaborate.specs.Flat.{name_at, statement_of, equation_in}
use Rattle.flatten.specs.declared.connectivity.source.Source.{Source}
use Rattle.flatten.specs.declared.connectivity.source.Source.TheVariants as source
use Rattle.flatten.specs.connectivity.Wired.{WiredView}
use Rattle.net_assembly.specs.Built.{IsBuilt, AreCovers, unclocked, latch_outs}
use Rattle.flatten.specs.Graph.{IsSourceWithin, graph_of, is_gate_out}
use Rattle.net_assembly.specs.Order.{IsOrder}

-- the place of a number in a list
abbrev pub place_of : List ℕ → ℕ → ℕ
place_of [] n = 0
place_of (m ∷ ms) n = cond (m == n) 0 (suc (place_of ms n))

abbrev pub net_or : ℕ → Option (Option ℕ) → ℕ
net_or n None = n
net_or n (Some None) = n
net_or n (Some (Some m)) = m

-- the net of a number; itself where it has none
abbrev pub net_of : List (Option ℕ) → ℕ → ℕ
net_of nets n = net_or n (slice_get nets n)

-- what the inputs but the clock and the latches drive
abbrev pub first_made : Flat → WiredView → List ℕ
first_made flat wired = unclocked wired.clock flat.inputs ++ latch_outs flat.statements

abbrev pub gates_in : Flat → WiredView → List ℕ → List ℕ
gates_in flat wired ns = filter (is_gate_out flat.statements wired.sources) ns

-- where the net's signals are driven: the inputs, the latches, and the gates in their order
abbrev pub made_by : Flat → WiredView → List ℕ → List ℕ
made_by flat wired order = first_made flat wired ++ gates_in flat wired order

-- the signal of a number is that of its net
abbrev pub spot : Flat → WiredView → List ℕ → ℕ → ℕ
spot flat wired order n = place_of (made_by flat wired order) (net_of wired.nets n)

-- the number's net is driven at a signal of the net
abbrev pub HasSpot : Flat → WiredView → List ℕ → ℕ → Type 0
HasSpot flat wired order n = Contains (made_by flat wired order) (net_of wired.nets n)

-- What an order of evaluation and tables of drivers and nets keep: a port is of the net that it reads, what no port drives
-- is its own net, no port drives inputs or what latches drive, and gates read what has a signal.
pub record IsLaid (flat : Flat) (wired : WiredView) (order : List ℕ) : Type 0 where
  pub is_order : IsOrder (graph_of flat.statements wired.sources) order
  pub once : AreDistinct (made_by flat wired order)
  pub size : length wired.sources ≡ length flat.names
  pub within : All (IsSourceWithin (length flat.statements)) wired.sources
  pub out : (n k : ℕ) (s : FlatStatement) → slice_get wired.sources n ≡ Some (source.Statement k) → slice_get flat.statements k ≡ Some s → s.out ≡ n
  pub through : (n k from : ℕ) (s : FlatStatement) → slice_get wired.sources n ≡ Some (source.Statement k) → slice_get flat.statements k ≡ Some s → s.kind ≡ kind.Port → Contains s.reads from → net_of wired.nets from ≡ net_of wired.nets n
  pub own : (n : ℕ) → n < length flat.names → ((k : ℕ) (s : FlatStatement) → slice_get wired.sources n ≡ Some (source.Statement k) → slice_get flat.statements k ≡ Some s → s.kind ≡ kind.Port → ⊥) → net_of wired.nets n ≡ n
  pub first : (n k : ℕ) (s : FlatStatement) → Contains (first_made flat wired) n → slice_get wired.sources n ≡ Some (source.Statement k) → slice_get flat.statements k ≡ Some s → s.kind ≡ kind.Port → ⊥
  pub read : (n k m c r : ℕ) (s : FlatStatement) → slice_get wired.sources n ≡ Some (source.Statement k) → slice_get flat.statements k ≡ Some s → s.kind ≡ kind.Gate m c → Contains s.reads r → HasSpot flat wired order r

abbrev pub statement_or : ℕ → Option FlatStatement → FlatStatement
statement_or n None = record { out = n; reads = []; kind = kind.Port }
statement_or n (Some s) = s

abbrev pub driver_by : List FlatStatement → ℕ → Option Source → FlatStatement
driver_by statements n None = statement_or n None
driver_by statements n (Some source.Open) = statement_or n None
driver_by statements n (Some source.Input) = statement_or n None
driver_by statements n (Some (source.Statement k)) = statement_or n (slice_get statements k)

-- the statement that drives the number
abbrev pub driver_of : Flat → WiredView → ℕ → FlatStatement
driver_of flat wired n = driver_by flat.statements n (slice_get wired.sources n)

-- the equation of a statement over the net's signals
abbrev pub net_equation : List BlifModel → Flat → WiredView → List ℕ → FlatStatement → Equation ℕ
net_equation models flat wired order s = moved (spot flat wired order) (equation_in (name_at flat.names) (statement_of models s))

-- The net has the gates among the first i numbers of the order, and each of these numbers whose net is driven has its signal.
pub record HasGates (models : List BlifModel) (flat : Flat) (wired : WiredView) (order : List ℕ) (net : NetView) (signals : List Signal) (covers : List (ℕ × ℕ)) (i : ℕ) : Type 0 where
  pub built : IsBuilt flat.names (first_made flat wired ++ gates_in flat wired (take i order)) net signals
  pub spots : (j n : ℕ) → j < i → slice_get order j ≡ Some n → HasSpot flat wired order n → (slice_get signals n ≡ Some (record { 0 = spot flat wired order n })) × (spot flat wired order n < length net.drivers)
  pub numbered : AreCovers models covers net.covers
  pub few : length covers ≤ i
  pub known : All (λ (g : Gate). g.cover < length net.covers) net.gates
  pub gates : map (equation_of_gate net.covers) net.gates ≡ map (λ n. net_equation models flat wired order (driver_of flat wired n)) (gates_in flat wired (take i order))

-- all but signals, gates and covers is as before
pub record IsRest (before after : MakerView) : Type 0 where
  pub set : after.set ≡ before.set
  pub inputs : after.net.inputs ≡ before.net.inputs
  pub outputs : after.net.outputs ≡ before.net.outputs
  pub latches : after.net.latches ≡ before.net.latches
  pub clock : after.net.clock ≡ before.net.clock

-- the second list begins with the first
abbrev pub IsGrown : {X : Type 0} → List X → List X → Type 0
IsGrown xs ys = take (length xs) ys ≡ xs
