-- What a contract sees of a net: its lists, and the circuit that they are.
use Rattle.std.specs.Prelude.{ℕ, true, false, List, [], ◌++◌, map, slice_get, unwrap_or, Option, Some, None, ◌||◌, ◌==◌, Bool}
use Rattle.std.specs.List.{filter, filter_map, list_any}
use Rattle.circuit_theory.specs.Interface.{Ports}
use Rattle.flat_net.specs.declared.signals.Signal.{Signal}
use Rattle.circuit_theory.specs.Cover.{Cover}
use Rattle.circuit_theory.specs.Circuit.{Circuit, Equation, Gate as gate_equation, Latch as latch_equation, Named, Started}
use Rattle.sec_base.specs.declared.basics.Init.{Init}
use Rattle.sec_base.specs.declared.basics.Init.TheVariants as init
use Rattle.flat_net.specs.declared.parts.Port.{Port}
use Rattle.flat_net.specs.declared.parts.Gate.{Gate}
use Rattle.flat_net.specs.declared.parts.LatchAt.{LatchAt}
use Rattle.flat_net.specs.declared.parts.Driver.{Driver}

pub record NetView : Type 0 where
  pub inputs : List Port
  pub outputs : List Port
  pub gates : List Gate
  pub latches : List LatchAt
  pub covers : List Cover
  -- for each signal what drives it
  pub drivers : List Driver
  -- for each signal its name
  pub names : List (List ℕ)
  pub clock : Option (List ℕ)

-- a port as a name at a place
abbrev pub named : Port → Named ℕ
named port = record { name = port.name; place = port.signal.0 }

-- the constant 0
abbrev pub no_cover : Cover
no_cover = record { width = 0; rows = []; on = true }

-- the gate's cover; each gate of a net names one
abbrev pub cover_of : List Cover → Gate → Cover
cover_of covers g = unwrap_or (slice_get covers g.cover) no_cover

abbrev pub equation_of_gate : List Cover → Gate → Equation ℕ
equation_of_gate covers g = gate_equation g.out.0 (map (λ f. f.0) g.fanins) (cover_of covers g)

abbrev pub equation_of_latch : LatchAt → Equation ℕ
equation_of_latch l = latch_equation l.name l.out.0 l.next.0

-- the initial value of a latch that starts with 0 or 1
abbrev pub start_of : ℕ → Init → Option (Started ℕ)
start_of place init.Zero = Some (record { place = place; bit = false })
start_of place init.One = Some (record { place = place; bit = true })
start_of place init.DontCare = None
start_of place init.Unknown = None

-- the circuit over the signals' numbers
abbrev pub circuit_of : NetView → Circuit ℕ
circuit_of n = record {
  inputs = map named n.inputs;
  outputs = map named n.outputs;
  equations = map (equation_of_gate n.covers) n.gates ++ map equation_of_latch n.latches;
  starts = filter_map (λ l. start_of l.out.0 l.init) n.latches;
}

-- some gate, latch or output reads the signal
abbrev pub is_read : NetView → Signal → Bool
is_read n s =
    list_any (λ g. list_any (λ f. f.0 == s.0) g.fanins) n.gates
    || list_any (λ l. l.next.0 == s.0) n.latches
    || list_any (λ port. port.signal.0 == s.0) n.outputs

-- what the interface of the net looks at
abbrev pub ports_of : NetView → Ports
ports_of n = record {
  inputs = map (λ port. port.name) n.inputs;
  outputs = map (λ port. port.name) n.outputs;
  clock = n.clock;
  read = map (λ port. port.name) (filter (λ port. is_read n port.signal) n.inputs);
}
