-- The circuit of an AIGER file has no ports.
use Rattle.std.proofs.Common.{◌≡◌, ℕ, List, [], inl, inr, ◌⊎◌, Option, Some, None, arith}
use Rattle.std.specs.List.{Contains}
use Rattle.std.proofs.lemmas.List.Elements.{Contains-append_cases}
use Rattle.circuit_theory.specs.Circuit.{Equation, Port, Gate as gate_equation}
use Rattle.circuit_theory.specs.Cover.{Cover}
use Rattle.circuit_theory.proofs.Lists.{only}
use Rattle.aiger_read.specs.declared.aiger_records.record.Record.{Record}
use Rattle.aiger_read.specs.declared.aiger_records.record.Record.TheVariants.{Input, Latch, Output, Gate, Packed}
use Rattle.aiger_read.specs.aiger_records.Faults.{defined_by}
use Rattle.aiger_read.specs.declared.aiger_file.file.AigerFile.{AigerFile}
use Rattle.aiger_read.specs.aiger_file.aiger_graph.Circuit.{constants, zero_cover, one_cover, gate_of, inverter_of, gates_in, latches_from, latches_in, circuit_of_file}
use Rattle.aiger_read.proofs.aiger_file.aiger_graph.NoLoops.{equation_cases, constant_cases, no_latch_port}
use Rattle.aiger_read.proofs.aiger_file.aiger_graph.ReadLiterals.{gates_from, inverter_from}

nothing : (e : Equation ℕ) → Contains [] e → ⊥
nothing e h = omega (arith, h.1)

no_gate : (o : ℕ) (fanins : List ℕ) (cover : Cover) (out from : ℕ) → gate_equation o fanins cover ≡ Port out from → ⊥
no_gate o fanins cover out from e = cc

-- a gate and an inverter are no ports
gate_portless : (r : Record) (out from : ℕ) → Contains (gate_of r) (Port out from) → ⊥
gate_portless (Input literal) out from h = nothing (Port out from) h
gate_portless (Latch literal next reset) out from h = nothing (Port out from) h
gate_portless (Output literal) out from h = nothing (Port out from) h
gate_portless (Gate literal left right) out from h = no_gate _ _ _ out from (only _ (Port out from) h)
gate_portless (Packed literal first second) out from h = no_gate _ _ _ out from (only _ (Port out from) h)

inverter_portless : (file : List Record) (o : Option ℕ) (out from : ℕ) → Contains (inverter_of file o) (Port out from) → ⊥
inverter_portless file None out from h = nothing (Port out from) h
inverter_portless file (Some literal) out from h = no_gate _ _ _ out from (inverter_from file literal (Port out from) h).1

pub file_portless : (f : AigerFile) (out from : ℕ) → Contains (circuit_of_file f).equations (Port out from) → ⊥
file_portless f out from h = go (equation_cases f (Port out from) h)
  where
    gate : (r : Record) → Contains (gate_of r) (Port out from) ⊎ Contains (inverter_of f.records (defined_by r)) (Port out from) → ⊥
    gate r (inl k) = gate_portless r out from k
    gate r (inr k) = inverter_portless f.records (defined_by r) out from k

    constant : (gate_equation 0 [] zero_cover ≡ Port out from) ⊎ (gate_equation 1 [] one_cover ≡ Port out from) → ⊥
    constant (inl e) = no_gate _ _ _ out from e
    constant (inr e) = no_gate _ _ _ out from e

    go : Contains constants (Port out from) ⊎ (Contains (gates_in f.records) (Port out from) ⊎ Contains (latches_from f.symbols 0 (latches_in f.records)) (Port out from)) → ⊥
    go (inl k) = constant (constant_cases (Port out from) k)
    go (inr (inl k)) = let x = gates_from f.records f.records (Port out from) k in gate x.1 (Contains-append_cases (gate_of x.1) (inverter_of f.records (defined_by x.1)) (Port out from) x.3)
    go (inr (inr k)) = no_latch_port f.symbols 0 (latches_in f.records) out from k
