-- What tells the class from `always` meets the premises, and so it stays.
use Rattle.std.proofs.Common.{◌<◌, [], ◌∷◌, refl, arith}
use Rattle.std.proofs.lemmas.List.Elements.{All-from_recursion}
use Rattle.class_search.specs.event_order.Order.{place_of}
use Rattle.event_form.proofs.event_findings.unshown_pairs.class_events.Telling.{apart_stays}
use Rattle.premise_rows.specs.event_apart_premises.OneClass.{q_apart, TellsFromAlways, OneClassMeetsPremises}
use Rattle.premise_rows.specs.event_pair_premises.Differing.{at_root}
use Rattle.premise_rows.specs.event_pair_premises.Held.{loads_a, loads_not_a, both_held, at_load}
use Rattle.premise_rows.proofs.event_pair_premises.Differing.{root_kept}
use Rattle.premise_rows.proofs.event_pair_premises.HeldCompared.{from_always, grows}
use Rattle.premise_rows.proofs.event_pair_premises.HeldPair.{classes, order}

apart : TellsFromAlways at_root
apart = record { within = All-from_recursion (λ v. v < 2) (0 ∷ 1 ∷ []) (omega arith, (omega arith, tt)); separates = (refl, refl, refl, from_always); least = λ few. (0, refl, λ m below. absurd (omega (arith, below))) }

pub meets_premises : OneClassMeetsPremises
meets_premises = record {
  classes = classes;
  is_graph = root_kept;
  grows = grows;
  apart = apart;
  apart_later = apart_stays both_held at_root at_load (place_of loads_a.net loads_not_a.net) order 0 1 q_apart root_kept grows apart;
}
