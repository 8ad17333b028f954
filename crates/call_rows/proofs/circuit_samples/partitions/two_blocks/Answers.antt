use Rattle.call_rows.proofs.circuit_samples.PartitionExample.{distinct_latches, left_net, right_net, left_starts, right_starts, numbered, initial, first_is_coarser, tell_apart, coarsest}
use Rattle.call_rows.proofs.circuit_samples.partitions.two_blocks.Goals as goal

pub returns : goal.returns
returns c = record { left_net = left_net; right_net = right_net; latches = distinct_latches; left_starts = left_starts; right_starts = right_starts; numbered = numbered; initial = initial; coarser = first_is_coarser; split = tell_apart; coarsest = coarsest }
