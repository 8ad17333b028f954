-- The list of the places of q and r says that the same latches are enabled as the event mode does.
use Rattle.std.proofs.Common.{[], arith}
use Rattle.circuit_theory.specs.declared.Mode.TheVariants.{Event}
use Rattle.latch_kinds.specs.enable_laws.Enabled.{Enabling, CountTheSame}
use Rattle.latch_kinds.proofs.enable_laws.Depending.{cycles_depend, marks_depend}
use Rattle.call_rows.specs.circuit_samples.event_samples.Samples.{before, exposed, load_not_cover, same_cover}
use Rattle.call_rows.specs.circuit_samples.event_samples.Places.{loading, CountByPlaces}
use Rattle.call_rows.proofs.circuit_samples.event_samples.ExposedPair.{held_enabled, held_cycle, held_free, held_z_marked}
use Rattle.call_rows.proofs.circuit_samples.event_samples.Opened.{holds_not, loads_not}

event : CountTheSame before (Enabling.in_mode Event) (Enabling.at_places loading)
event = held_enabled load_not_cover same_cover holds_not loads_not

pub count_by_places : CountByPlaces
count_by_places = record {
  event = event;
  plain = λ name u next latch. ((λ h. absurd h), (λ h. absurd (omega (arith, h.1))));
  cycle = (cycles_depend before (Enabling.in_mode Event) (Enabling.at_places loading) event []).0.0 (held_cycle load_not_cover same_cover holds_not loads_not);
  free = λ h. held_free load_not_cover same_cover holds_not loads_not ((cycles_depend before (Enabling.in_mode Event) (Enabling.at_places loading) event exposed).0.1 h);
  marks = λ n run is_run t l e. (marks_depend before (Enabling.in_mode Event) (Enabling.at_places loading) event run _ _).0 (held_z_marked load_not_cover same_cover holds_not loads_not n run is_run t l e);
}
