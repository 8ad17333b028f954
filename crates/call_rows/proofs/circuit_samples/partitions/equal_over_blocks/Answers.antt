use Rattle.call_rows.proofs.circuit_samples.PartitionExample.{outputs_equal, from_reset, equal_latches, queries}
use Rattle.call_rows.proofs.circuit_samples.partitions.equal_over_blocks.Goals as goal

pub returns : goal.returns
returns c = record { equal = outputs_equal; agree = from_reset; runs = equal_latches; queries = queries }
