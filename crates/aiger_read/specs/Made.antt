-- A net of a file while it is made.
use Rattle.std.specs.Prelude.{◌≡◌, ◌≢◌, ◌*◌, ◌+◌, ◌^◌, ◌<◌, ◌≤◌, ℕ, true, List, [], ◌∷◌, map, length, take, slice_get, slice_index_or, Some, None, All}
use Rattle.std.specs.List.{filter}
use Rattle.circuit_theory.specs.Circuit.{Named as Port}
use Rattle.circuit_theory.specs.Joined.{moved, moved_name}
use Rattle.base_tables.specs.Table.{AreDistinct}
use Rattle.sec_base.specs.declared.basics.Init.{Init}
use Rattle.flat_net.specs.declared.signals.Signal.{Signal}
use Rattle.flat_net.specs.declared.parts.Port.{Port as NetPort}
use Rattle.flat_net.specs.declared.parts.Gate.{Gate as NetGate}
use Rattle.flat_net.specs.declared.parts.LatchAt.{LatchAt}
use Rattle.flat_net.specs.View.{NetView, named, equation_of_gate}
use Rattle.aiger_read.specs.aiger_file.aiger_graph.net_assembly.Order.{IsOrder}
use Rattle.aiger_read.specs.aiger_records.Driven.{all_driven}
use Rattle.aiger_read.specs.declared.aiger_file.symbol.Named.{Named}
use Rattle.aiger_read.specs.aiger_file.Names.{name_of}
use Rattle.aiger_read.specs.aiger_file.aiger_graph.Circuit.{LatchLine, circuit_of_file, ports_from, input_literals, latches_in}
use Rattle.aiger_read.specs.declared.aiger_file.file.AigerFile.{AigerFile}
use Rattle.aiger_read.specs.aiger_file.Files.{IsKept}
use Rattle.aiger_read.specs.aiger_file.aiger_graph.Literals.{gate_at, graph_of}
use Rattle.aiger_read.specs.SignalNames.{sources_of, signal_name, init_of}
use Rattle.aiger_read.specs.Signals.{all_covers, all_literals, literal_at, is_gate}

-- what else a file without a fault keeps: what it reads is driven, inputs and latches have distinct names, none of which begins
-- with `#`, the names of outputs are distinct, and there are few
pub record IsFaultless (f : AigerFile) : Type 0 where
  pub driven : all_driven f.records ≡ true
  pub sources : AreDistinct (map (λ (p : Port ℕ). p.name) (sources_of f))
  pub apart : All (λ (p : Port ℕ). slice_get p.name 0 ≢ Some 35) (sources_of f)
  pub shown : AreDistinct (map (λ (p : Port ℕ). p.name) (circuit_of_file f).outputs)
  pub few : length (circuit_of_file f).outputs ≤ 2 ^ 22

-- What a net is made by: a file without a fault, what its literals read, and an order of them.
pub record IsPlan (f : AigerFile) (graph : List (List ℕ)) (order : List ℕ) : Type 0 where
  pub kept : IsKept f
  pub faultless : IsFaultless f
  pub graph_is : graph ≡ graph_of f.records (2 * f.header.greatest + 2)
  pub order_is : IsOrder (graph_of f.records (2 * f.header.greatest + 2)) order

-- the net's signals stand for the first literals, each of which has its signal
abbrev pub IsPlaced : List ℕ → NetView → List Signal → Type 0
IsPlaced literals net signals = (s l : ℕ) → s < length net.drivers → slice_get literals s ≡ Some l → slice_get signals l ≡ Some (record { 0 = s })

-- the next signal is to stand for this literal
abbrev pub IsNext : List ℕ → NetView → ℕ → Type 0
IsNext literals net l = slice_get literals (length net.drivers) ≡ Some l

-- a latch without what it takes over
pub record LatchHead : Type 0 where
  pub name : List ℕ
  pub literal : ℕ
  pub init : Init

abbrev pub heads_from : Named → ℕ → List LatchLine → List LatchHead
heads_from symbols k [] = []
heads_from symbols k (l ∷ ls) = record { name = name_of symbols 108 k; literal = l.literal; init = init_of l.reset } ∷ heads_from symbols (k + 1) ls

abbrev pub head_at : List ℕ → LatchAt → LatchHead
head_at literals l = record { name = l.name; literal = literal_at literals l.out.0; init = l.init }

-- The net so far has these inputs, latches, gates and outputs, each signal read as the literal that it stands for.
pub record IsMade (f : AigerFile) (order ins : List ℕ) (lats : List LatchLine) (gates outs : List ℕ) (net : NetView) (signals : List Signal) : Type 0 where
  pub size : length signals ≡ 2 * f.header.greatest + 2
  pub placed : IsPlaced (all_literals f.records order) net signals
  pub names_are : net.names ≡ take (length net.drivers) (map (signal_name f) (all_literals f.records order))
  pub count : length net.drivers ≡ length ins + length lats + length gates
  pub inputs : map (λ (p : NetPort). moved_name (literal_at (all_literals f.records order)) (named p)) net.inputs ≡ ports_from f.symbols 105 0 ins
  pub latches : map (head_at (all_literals f.records order)) net.latches ≡ heads_from f.symbols 0 lats
  pub gates_are : map (λ (g : NetGate). moved (literal_at (all_literals f.records order)) (equation_of_gate all_covers g)) net.gates ≡ map (gate_at f.records) gates
  pub outputs : map (λ (p : NetPort). moved_name (literal_at (all_literals f.records order)) (named p)) net.outputs ≡ ports_from f.symbols 111 0 outs
  pub covers : net.covers ≡ all_covers
  pub clock : net.clock ≡ None

abbrev pub signal_at : List Signal → ℕ → Signal
signal_at signals l = slice_index_or signals l (record { 0 = 0 })

-- what the latches take over
abbrev pub nexts_of : List Signal → List LatchLine → List Signal
nexts_of signals lats = map (λ (l : LatchLine). signal_at signals l.next) lats

-- the net so far has all inputs and latches of the file and these gates and outputs
abbrev pub HasGates : AigerFile → List ℕ → List ℕ → List ℕ → NetView → List Signal → Type 0
HasGates f order gates outs net signals = IsMade f order (input_literals f.records) (latches_in f.records) gates outs net signals

-- the net so far has all signals of the file, and these outputs
abbrev pub HasOutputs : AigerFile → List ℕ → List ℕ → NetView → List Signal → Type 0
HasOutputs f order outs net signals = HasGates f order (filter (is_gate f.records) order) outs net signals
