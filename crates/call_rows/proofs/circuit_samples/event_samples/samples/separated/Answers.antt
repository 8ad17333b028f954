use Rattle.call_rows.proofs.circuit_samples.event_samples.Separated.{separation, separation_from_always}
use Rattle.call_rows.proofs.circuit_samples.event_samples.samples.separated.Goals as goal

pub returns : goal.returns
returns c = record { classes = separation; always = separation_from_always }
