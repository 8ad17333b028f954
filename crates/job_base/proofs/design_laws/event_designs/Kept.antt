-- What a design shares with its nets in the event mode.
use Rattle.job_base.proofs.design_laws.Kept.{flat_design}
use Rattle.job_base.specs.design_laws.event_designs.Laws.{EnabledAreKept, EventCyclesAreKept, EventCutsAreKept, EventAgreementIsKept}
use Rattle.job_base.proofs.design_laws.event_designs.FlatEnabled.{enabled_down, enabled_up}
use Rattle.job_base.proofs.design_laws.event_designs.FlatEventAgree.{agree_up, minimal_down, minimal_up, onward_up}
use Rattle.job_base.proofs.design_laws.event_designs.FlatEventCycles.{cycle_down, cycle_up}

pub enabled_are_kept : EnabledAreKept
enabled_are_kept models net f = (enabled_down (flat_design models net f), enabled_up (flat_design models net f))

pub event_cycles_are_kept : EventCyclesAreKept
event_cycles_are_kept models net f removed = (cycle_down (flat_design models net f) removed, cycle_up (flat_design models net f) removed)

pub event_cuts_are_kept : EventCutsAreKept
event_cuts_are_kept left right a b f g names = (minimal_down (flat_design left a f) (flat_design right b g) names, minimal_up (flat_design left a f) (flat_design right b g) names)

pub event_agreement_is_kept : EventAgreementIsKept
event_agreement_is_kept left right a b f g names = (agree_up (flat_design left a f) (flat_design right b g), onward_up (flat_design left a f) (flat_design right b g) names)
