-- What is said of the nets of two texts is said of the circuits that the texts spell.
use Rattle.std.proofs.Common.{ℕ, List, length, Option, sym, subst}
use Rattle.circuit_theory.specs.declared.Mode.TheVariants.{Plain}
use Rattle.circuit_theory.specs.Agree.{Agree, AgreeOnward, IsMinimalCut}
use Rattle.circuit_theory.specs.Circuit.{Circuit}
use Rattle.blif_read.specs.Design.{Place, top}
use Rattle.blif_read.specs.Reading.{spelled}
use Rattle.flat_net.specs.View.{NetView, circuit_of}
use Rattle.job_base.specs.design_laws.flatten.DesignFaults.{IsClocked}
use Rattle.job_base.proofs.design_laws.FlatOnward.{minimal_up, onward_up}
use Rattle.job_base.proofs.design_laws.FlatParts.{FlatDesign}
use Rattle.job_base.proofs.design_laws.Kept.{flat_design}
use Rattle.witness_report.specs.declared.witness.Witness.{Witness}
use Rattle.witness_report.specs.Shown.{MakesDiffer, MakesCutsDiffer, AgreeFrom}
use Rattle.job_base.specs.sec_files.Named.{named_circuit}
use Rattle.job_base.proofs.sec_files.NamedNets.{index_in, named_flat, named_single}
use Rattle.aiger_read.specs.declared.aiger_file.file.AigerFile.{AigerFile}
use Rattle.aiger_read.specs.aiger_file.aiger_graph.Circuit.{circuit_of_file}
use Rattle.job_base.specs.sec_files.aiger_read.Nets.{IsNetOf}
use Rattle.job_base.specs.sec_files.aiger_read.SignalNames.{signal_name}
use Rattle.job_base.specs.sec_files.Formats.{Format, Blif, Aiger, format_of, circuit_of_aiger, circuit_in, IsNetIn}
use Rattle.job_base.specs.sec_files.Loading.{Loads, circuit_of_text}
use Rattle.job_base.proofs.sec_files.Portless.{file_portless}
use Rattle.job_base.proofs.design_laws.text_circuits.CutDesigns.{cuts_differ_up}
use Rattle.job_base.proofs.design_laws.text_circuits.Designs.{agree_up, differ_up, from_up}

-- the net of a file is one of the circuit over the names of its signals
file_design : (f : AigerFile) (net : NetView) (clocked : Place → Type 0) → IsNetOf f net → FlatDesign (named_circuit (signal_name f) (circuit_of_file f)) (circuit_of net) clocked
file_design f net clocked n = record {
  size = length net.drivers;
  origin = λ s. top (signal_name f (n.origin s));
  signal = λ p. index_in net.names p.name;
  single = named_single (circuit_of_file f) net (signal_name f) n.origin n.signal (file_portless f) n.sound n.circuit n.names;
  circuit = named_flat (circuit_of_file f) net (signal_name f) n.origin n.signal (file_portless f) n.sound n.circuit n.names clocked;
}

module _ (text : List ℕ) (net : NetView) where
  abbrev IsFlatIn : Circuit Place → Type 0
  IsFlatIn d = FlatDesign d (circuit_of net) (IsClocked d net.clock)

  design_in : (format : Format) → IsNetIn format text net → IsFlatIn (circuit_in format text net.clock)
  design_in Blif n = flat_design (spelled text) net n
  design_in Aiger n =
      subst (λ (o : Option AigerFile). IsFlatIn (circuit_of_aiger o)) (sym n.1)
      (file_design n.0 net (IsClocked (named_circuit (signal_name n.0) (circuit_of_file n.0)) net.clock) n.2)

  -- its circuit is that of the text without ports
  pub text_design : Loads text net → FlatDesign (circuit_of_text text net.clock) (circuit_of net) (IsClocked (circuit_of_text text net.clock) net.clock)
  text_design loads = design_in (format_of text) loads.flat

module _ (x y : List ℕ) (a b : NetView) (left : Loads x a) (right : Loads y b) where
  pub texts_agree_by : Agree Plain (circuit_of a) (circuit_of b) → Agree Plain (circuit_of_text x a.clock) (circuit_of_text y b.clock)
  texts_agree_by agree = agree_up (text_design x a left) (text_design y b right) agree

  pub texts_agree_from : (from : ℕ) (names : List (List ℕ)) → AgreeFrom from names (circuit_of a) (circuit_of b) → AgreeFrom from names (circuit_of_text x a.clock) (circuit_of_text y b.clock)
  texts_agree_from from names agree = from_up (text_design x a left) (text_design y b right) from names agree

  pub texts_differ_by : (w : Witness) → MakesDiffer (circuit_of a) (circuit_of b) w → MakesDiffer (circuit_of_text x a.clock) (circuit_of_text y b.clock) w
  texts_differ_by w shows = differ_up (text_design x a left) (text_design y b right) w shows

  module _ (names : List (List ℕ)) where
    pub texts_minimal : IsMinimalCut Plain (circuit_of a) (circuit_of b) names → IsMinimalCut Plain (circuit_of_text x a.clock) (circuit_of_text y b.clock) names
    texts_minimal m = minimal_up (text_design x a left) (text_design y b right) names m

    pub texts_onward : AgreeOnward Plain names (circuit_of a) (circuit_of b) → AgreeOnward Plain names (circuit_of_text x a.clock) (circuit_of_text y b.clock)
    texts_onward agree = onward_up (text_design x a left) (text_design y b right) names agree

    pub texts_cuts_differ : (w : Witness) → MakesCutsDiffer names (circuit_of a) (circuit_of b) w → MakesCutsDiffer names (circuit_of_text x a.clock) (circuit_of_text y b.clock) w
    texts_cuts_differ w shows = cuts_differ_up (text_design x a left) (text_design y b right) names w shows
