-- The enables of both latches are counted, one after the other.
use Rattle.std.proofs.Common.{◌≡◌, ◌≢◌, ◌∙◌, ℕ, ◌+◌, ◌≤◌, [], ◌∷◌, slice_get, Some, refl, sym, ap, arith}
use Rattle.std.specs.Prelude.{◌==◌, if◌then◌else◌}
use Rattle.std.proofs.lemmas.Option.{none-some}
use Rattle.circuit_theory.specs.Joined.{Either, Left, Right}
use Rattle.base_tables.specs.Table.{AreDistinct}
use Rattle.flat_net.specs.View.{circuit_of}
use Rattle.edbf_unfold.specs.class_queries.Enables.{class_map}
use Rattle.circuit_laws.specs.reset_laws.class_extension.Laws.{IsNextGiven}
use Rattle.class_search.proofs.class_fits.class_joining.Classes.{class_kept}
use Rattle.event_classes.specs.event_functions.class_totals.Laws.{nothing}
use Rattle.event_classes.specs.event_functions.class_totals.Totals.{HaveCounted}
use Rattle.event_classes.proofs.event_functions.class_totals.Going.{totals_begin, totals_stay, totals_go_on}
use Rattle.event_classes.proofs.event_functions.class_totals.Over.{totals_are_within, few_nodes_are_within}
use Rattle.call_rows.specs.circuit_samples.event_samples.Samples.{load_cover, load_not_cover, same_cover, not_cover}
use Rattle.premise_rows.specs.event_pair_premises.Differing.{at_root}
use Rattle.premise_rows.specs.event_pair_premises.Held.{loads_a, loads_not_a}
use Rattle.premise_rows.specs.event_class_premises.ClassMap.{a_of, b_of, both_latches}
use Rattle.premise_rows.specs.event_class_premises.Totals.{q_latch, of_enable, TotalsMeetPremises}
use Rattle.premise_rows.proofs.block_premises.TurningNets.{each}
use Rattle.premise_rows.proofs.event_pair_premises.Differing.{root_kept}
use Rattle.premise_rows.proofs.event_pair_premises.HeldPair.{kept, left_net, right_net, depths}
use Rattle.premise_rows.proofs.event_class_premises.ClassMap.{begins as map_begins, goes_on as map_goes_on}
use Rattle.premise_rows.proofs.event_class_premises.Visited as visited

no_entry : (k n class : ℕ) → slice_get {X = ℕ × ℕ} [] k ≡ Some (n, class) → n ≤ 0
no_entry k n class h = absurd (none-some (n, class) h)

left_given : IsNextGiven (circuit_of loads_a.net) (circuit_of loads_not_a.net) 5 5 loads_a.order loads_not_a.order (class_map (a_of 0) (b_of 0)) (class_map (a_of 1) (b_of 0)) [] (Right 2 ∷ []) (Left 2)
left_given = record { left_net = left_net; right_net = right_net; depths = depths; map = map_begins; others = others }
  where
    others : (u : Either ℕ ℕ) → u ≢ Left 2 → class_map (a_of 0) (b_of 0) u ≡ class_map (a_of 1) (b_of 0) u
    others (Left p) apart = sym (class_kept loads_a.net.latches (0 ∷ []) 0 1 q_latch p refl (λ e. apart (ap Left (sym e))))
    others (Right q) apart = refl

right_given : IsNextGiven (circuit_of loads_a.net) (circuit_of loads_not_a.net) 5 5 loads_a.order loads_not_a.order (class_map (a_of 1) (b_of 0)) (class_map (a_of 1) (b_of 1)) (Left 2 ∷ []) [] (Right 2)
right_given = record { left_net = left_net; right_net = right_net; depths = depths; map = map_goes_on; others = others }
  where
    others : (u : Either ℕ ℕ) → u ≢ Right 2 → class_map (a_of 1) (b_of 0) u ≡ class_map (a_of 1) (b_of 1) u
    others (Left p) apart = refl
    others (Right q) apart = sym (class_kept loads_not_a.net.latches (0 ∷ []) 0 1 q_latch q refl (λ e. apart (ap Right (sym e))))

with_left : HaveCounted (a_of 0) (b_of 0) [] (Left 2 ∷ []) of_enable nothing
with_left = (totals_go_on (a_of 0) (b_of 0) [] [] [] 0 q_latch nothing nothing of_enable kept.left_sound kept.right_sound no_entry (totals_begin (a_of 0) (b_of 0))).0 refl (visited.counting load_cover same_cover 0) (visited.counted load_cover same_cover 0 refl)

left_stays : HaveCounted (a_of 1) (b_of 0) [] (Left 2 ∷ []) of_enable nothing
left_stays = totals_stay (a_of 0) (b_of 0) (1 ∷ []) (0 ∷ []) [] [] (Right 2 ∷ []) (Left 2) of_enable nothing left_given with_left

with_right : HaveCounted (a_of 1) (b_of 0) [] both_latches of_enable of_enable
with_right = (totals_go_on (a_of 1) (b_of 0) [] [] (Left 2 ∷ []) 0 q_latch of_enable nothing of_enable kept.left_sound kept.right_sound no_entry left_stays).1 refl (visited.counting load_not_cover not_cover 0) (visited.counted load_not_cover not_cover 0 refl)

right_stays : HaveCounted (a_of 1) (b_of 1) [] both_latches of_enable of_enable
right_stays = totals_stay (a_of 1) (b_of 0) (1 ∷ []) (1 ∷ []) [] (Left 2 ∷ []) [] (Right 2) of_enable of_enable right_given with_right

distinct : AreDistinct of_enable.places
distinct i j p h k = sym (place i p h) ∙ place j p k
  where
    place : (n : ℕ) (q : ℕ × ℕ) → slice_get of_enable.places n ≡ Some q → (if q.1 == 3 then 0 else (q.1 + 1)) ≡ n
    place = each (λ n (q : ℕ × ℕ). (if q.1 == 3 then 0 else (q.1 + 1)) ≡ n) of_enable.places (refl, (refl, (refl, (refl, tt))))

pub totals_meet_premises : TotalsMeetPremises
totals_meet_premises = record {
  left_sound = kept.left_sound;
  right_sound = kept.right_sound;
  left_at = refl;
  right_at = refl;
  begins = totals_begin (a_of 0) (b_of 0);
  left_counting = visited.counting load_cover same_cover 0;
  left_counted = visited.counted load_cover same_cover 0 refl;
  with_left = with_left;
  left_given = left_given;
  left_stays = left_stays;
  right_counting = visited.counting load_not_cover not_cover 0;
  right_counted = visited.counted load_not_cover not_cover 0 refl;
  with_right = with_right;
  right_given = right_given;
  right_stays = right_stays;
  events = root_kept;
  distinct = distinct;
  within = totals_are_within (a_of 1) (b_of 1) at_root both_latches of_enable of_enable kept.left_sound kept.right_sound root_kept distinct distinct (omega arith) right_stays;
  none_made = visited.none_made load_not_cover not_cover 0;
  no_node = visited.no_node load_not_cover not_cover 0;
  root_alone = visited.root_alone load_not_cover not_cover 0;
  few = (few_nodes_are_within (a_of 1) (b_of 0) [] [] (Left 2 ∷ []) 0 q_latch of_enable nothing kept.left_sound kept.right_sound no_entry (visited.none_made load_not_cover not_cover 0) (omega arith) left_stays).1 refl (visited.no_node load_not_cover not_cover 0) (visited.root_alone load_not_cover not_cover 0);
}
