use Rattle.std.proofs.Common.{take}
use Rattle.std.specs.List.{AllZip}
use Rattle.event_setup.specs.event_meaning.event_names.event_fits.Named.{NamesSpot}
use Rattle.event_setup.proofs.event_meaning.event_names.names.named_frame.Given as goal

abbrev pub invariant-loop-bit : goal.invariant-loop-bit
invariant-loop-bit l = AllZip (NamesSpot l.columns) (take l.bit-index l.bits) l.spots
