-- What the reader answers, from what it was told of the file.
use Rattle.std.proofs.Common.{◌≡◌, ℕ, ◌+◌, ◌*◌, List, sym, ◌∙◌, subst}
use Rattle.std.specs.Prelude.{Ok, Err}
use Rattle.flat_net.specs.View.{NetView}
use Rattle.aiger_read.specs.aiger_file.aiger_graph.net_assembly.Order.{IsOrder}
use Rattle.aiger_read.specs.aiger_file.aiger_graph.Literals.{graph_of}
use Rattle.aiger_read.specs.declared.aiger_records.error.AigerError.{AigerError}
use Rattle.aiger_read.specs.declared.aiger_records.error.AigerError.TheVariants as aiger
use Rattle.aiger_read.specs.declared.aiger_records.error.AigerKind.TheVariants as kind
use Rattle.aiger_read.specs.declared.aiger_file.file.AigerFile.{AigerFile}
use Rattle.aiger_read.specs.aiger_file.Files.{IsKept, ReadsFile}
use Rattle.aiger_read.specs.aiger_file.aiger_graph.Loops.{HasLoop, IsOrdered}
use Rattle.aiger_read.specs.Made.{IsPlan}
use Rattle.aiger_read.specs.Nets.{IsNetOf, HasFault, ReadsNet}
use Rattle.aiger_read.proofs.Faultless.{faultless}

pub planned : (text : List ℕ) (f : AigerFile) (graph g : List (List ℕ)) (order o : List ℕ) → IsKept f → ReadsFile text (Ok f) → IsOrdered f graph order → g ≡ graph → o ≡ order → IsPlan f g o
planned text f graph g order o kept reads ordered graph_is order_is =
    record { kept = kept; faultless = faultless text f kept reads.0 reads.1; graph_is = graph_is ∙ ordered.graph_is; order_is = subst (IsOrder (graph_of f.records (2 * f.header.greatest + 2))) (sym order_is) ordered.order_is }

pub reads_net : (text : List ℕ) (f : AigerFile) (graph : List (List ℕ)) (order : List ℕ) (net : NetView) → ReadsFile text (Ok f) → IsOrdered f graph order → IsNetOf f net → ReadsNet text (Ok net)
reads_net text f graph order net reads ordered is = (f, record { faultless = reads.0; is_file = reads.1; no_loop = ordered.no_loop }, is)

pub reads_loop : (text : List ℕ) (f : AigerFile) → ReadsFile text (Ok f) → HasLoop f → ReadsNet text (Err (aiger.At 0 kind.Loop))
reads_loop text f reads loop = HasFault.looped {f = f} (record { faultless = reads.0; is_file = reads.1; loop = loop })

pub reads_fault : (text : List ℕ) (e : AigerError) → ReadsFile text (Err e) → ReadsNet text (Err e)
reads_fault text aiger.NoMemory reads = tt
reads_fault text (aiger.At place k) reads = HasFault.early reads
