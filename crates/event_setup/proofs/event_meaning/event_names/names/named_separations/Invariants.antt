use Rattle.std.proofs.Common.{take}
use Rattle.std.specs.List.{AllZip}
use Rattle.event_setup.specs.event_meaning.event_names.event_fits.Named.{NamesSeparation}
use Rattle.event_setup.proofs.event_meaning.event_names.names.named_separations.Given as goal

abbrev pub invariant-loop-x : goal.invariant-loop-x
invariant-loop-x l = AllZip (NamesSeparation l.names.left l.names.right l.names.columns) (take l.x-index l.told) l.apart
