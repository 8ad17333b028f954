-- Loops of gates.
use Rattle.std.specs.Prelude.{◌≡◌, ℕ, suc, ◌+◌, ◌*◌, ◌-◌, ◌<◌, List, length, slice_get, Some}
use Rattle.circuit_theory.specs.Circuit.{Circuit, Reads}
use Rattle.net_assembly.specs.Order.{IsOrder}
use Rattle.aiger_read.specs.declared.aiger_file.file.AigerFile.{AigerFile}
use Rattle.aiger_read.specs.aiger_file.aiger_graph.Circuit.{circuit_of_file}
use Rattle.aiger_read.specs.aiger_file.aiger_graph.Literals.{graph_of}

-- places each of which is read by the gate that drives the next, and the last by that of the first
pub record IsLoop (c : Circuit ℕ) (places : List ℕ) : Type 0 where
  pub some : 0 < length places
  pub next : (i p q : ℕ) → slice_get places i ≡ Some p → slice_get places (suc i) ≡ Some q → Reads c q p
  pub closes : (first last : ℕ) → slice_get places 0 ≡ Some first → slice_get places (length places - 1) ≡ Some last → Reads c first last

-- gates read each other in a loop
abbrev pub HasLoop : AigerFile → Type 0
HasLoop f = (literals : List ℕ) × IsLoop (circuit_of_file f) literals

-- the graph has what each literal of the file reads, the order has all literals, each behind what it reads, and no gates read each other in a loop
pub record IsOrdered (f : AigerFile) (graph : List (List ℕ)) (order : List ℕ) : Type 0 where
  pub graph_is : graph ≡ graph_of f.records (2 * f.header.greatest + 2)
  pub order_is : IsOrder (graph_of f.records (2 * f.header.greatest + 2)) order
  pub no_loop : HasLoop f → ⊥
