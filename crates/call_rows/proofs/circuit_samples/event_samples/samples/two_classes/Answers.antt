use Rattle.call_rows.proofs.circuit_samples.event_samples.TwoClasses.{event_sides, two_classes, pairs_equal, opened_agree}
use Rattle.call_rows.proofs.circuit_samples.event_samples.samples.two_classes.Goals as goal

pub returns : goal.returns
returns c = record { sides = event_sides; classes = two_classes; equal = pairs_equal; agree = opened_agree }
