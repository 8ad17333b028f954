-- An AIGER file without a fault isn't refused.
use Rattle.std.proofs.Common.{◌≡◌, ◌∙◌, ℕ, List, Some, None, sym}
use Rattle.std.proofs.lemmas.Option.{none-some}
use Rattle.aiger_read.specs.declared.aiger_records.error.AigerKind.{AigerKind}
use Rattle.aiger_read.specs.declared.aiger_file.file.AigerFile.{AigerFile}
use Rattle.aiger_read.specs.aiger_file.Files.{fault_of_text}
use Rattle.aiger_read.specs.aiger_file.Reading.{spelled}
use Rattle.aiger_read.specs.aiger_file.aiger_graph.Loops.{HasLoop}
use Rattle.aiger_read.specs.Nets.{HasFault}

module _ (text : List ℕ) (none : fault_of_text text ≡ None) (sound : (f : AigerFile) → spelled text ≡ Some f → HasLoop f → ⊥) where
  pub no_record_fault : {place : ℕ} {k : AigerKind} → HasFault text place k → ⊥
  no_record_fault (HasFault.early fault) = none-some _ (sym none ∙ fault)
  no_record_fault (HasFault.looped {f = f} file) = sound f file.is_file file.loop
