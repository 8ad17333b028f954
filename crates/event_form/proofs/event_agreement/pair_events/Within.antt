-- What was counted is within its numbers.
use Rattle.std.proofs.Common.{arith}
use Rattle.event_nodes.specs.Nodes.{paths_of}
use Rattle.event_nodes.proofs.Paths.{paths_length}
use Rattle.event_nodes.proofs.Totals.{counted_weight}
use Rattle.event_form.specs.event_agreement.pair_events.Within.{CountedIsWithin}
use Rattle.event_form.proofs.event_agreement.pair_events.Sides.{all_made}

pub is_within : CountedIsWithin
is_within e left right kept once limits k = record {
  few = record {
    nodes = paths_of e.events.children;
    all = all_made e kept e.events.children left right k.left_nodes k.right_nodes;
    total = omega (arith, limits.nodes, paths_length e.events.children);
  };
  left = e.left_count.weight;
  left_is = counted_weight e.left e.events left e.left_count kept.left_sound kept.events once.left k.left_counted;
  left_small = limits.left.small;
  right = e.right_count.weight;
  right_is = counted_weight e.right e.events right e.right_count kept.right_sound kept.events once.right k.right_counted;
  right_small = limits.right.small;
}
