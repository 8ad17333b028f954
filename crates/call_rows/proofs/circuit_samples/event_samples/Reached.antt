-- What the outputs of the opened circuits reach, and their class map on the way.
use Rattle.std.proofs.Common.{◌≡◌, ℕ, List, [], ◌∷◌, ◌++◌, refl, sym, ◌∙◌, ap, subst, arith, append_assoc}
use Rattle.std.specs.Prelude.{codes, None}
use Rattle.std.specs.List.{Contains}
use Rattle.circuit_theory.specs.Circuit.{IsLatch, Reads, Reaches}
use Rattle.circuit_theory.specs.Run.{IsEnabled, IsDetermined}
use Rattle.circuit_theory.specs.Joined.{Either, Left, Right}
use Rattle.circuit_theory.specs.Frame.{ReachedAt, IsEnable}
use Rattle.circuit_theory.specs.Classes.{IsLatchOrder}
use Rattle.circuit_theory.specs.EventSizes.{Start}
use Rattle.circuit_theory.specs.EventTotals.{StartLatches, IsMapSoFar}
use Rattle.circuit_theory.specs.Reached.{LatchAtNode, IsClosed}
use Rattle.circuit_theory.proofs.Lists.{only}
use Rattle.circuit_laws.proofs.NetLaws.{net_determined}
use Rattle.circuit_laws.proofs.Parts.{determined_up, reaches_from}
use Rattle.circuit_laws.proofs.JoinedParts.{left_part, replace_left, joined_same, left_is_not_right}
use Rattle.circuit_laws.specs.event_laws.ClassSteps.{IsFirstFit, HaveTwinEnables}
use Rattle.circuit_laws.proofs.event_laws.ClassSteps.{class_map_goes_on_in_nets}
use Rattle.circuit_laws.proofs.event_laws.Twins.{twins_fit_in_nets}
use Rattle.circuit_laws.proofs.event_laws.FrameExist.{frame_values_exist_in_nets}
use Rattle.circuit_laws.proofs.event_laws.ReachedLatches.{closed_lists_are_reached}
use Rattle.call_rows.specs.circuit_samples.event_samples.Samples.{numbers, class_of}
use Rattle.call_rows.specs.circuit_samples.event_samples.Events.{FramesHaveValues, HasMapsSoFar, HasFirstFit, HasTwin, HasReachedList, start_y, reached_y}
use Rattle.call_rows.proofs.circuit_samples.Each.{each_at, each_latch}
use Rattle.call_rows.proofs.circuit_samples.event_samples.HoldCells.{no_others, hold_enable, hold_enable_is, enable_care}
use Rattle.call_rows.proofs.circuit_samples.event_samples.TwoClasses.{left_side, right_side, whole, side, left_net, right_net, single, number_once, all_hold, depths, latch_order, class_map, order, left_q, right_q, right_q_latch, left_q_latch, left_r_latch, left_y_reads}

pub frames_have_values : FramesHaveValues
frames_have_values bits = frame_values_exist_in_nets left_side right_side 11 11 numbers numbers class_of left_net right_net refl refl depths bits

-- as far as some latches are taken, the map is that of all
so_far : (taken rest : List (Either ℕ ℕ)) → order ≡ taken ++ rest → IsMapSoFar side taken rest
so_far taken rest e = record {
  is_order = subst (IsLatchOrder side) e latch_order;
  plain = class_map.plain;
  each = λ front after v d. class_map.each front (after ++ rest) v (e ∙ (ap (λ xs. xs ++ rest) d ∙ append_assoc front (v ∷ after) rest));
}

pub maps_so_far : HasMapsSoFar
maps_so_far = (so_far (Left 3 ∷ []) (Left 5 ∷ Right 3 ∷ Right 5 ∷ []) refl, so_far (Left 3 ∷ Left 5 ∷ []) (Right 3 ∷ Right 5 ∷ []) refl)

-- the class of the second latch is its first fit beside the first one, so the map goes on
fit : IsFirstFit side (Left 3 ∷ []) (Left 5) (class_of (Left 5))
fit =
    let first = class_map.each (Left 3 ∷ []) (Right 3 ∷ Right 5 ∷ []) (Left 5) refl in
    record { not_past_next = first.not_past_next; joins = first.joins; not_earlier = first.not_earlier }

pub first_fit : HasFirstFit
first_fit = (
  fit,
  (class_map_goes_on_in_nets left_side right_side 11 11 numbers numbers class_of left_net right_net depths).1 class_of (Left 3 ∷ []) (Right 3 ∷ Right 5 ∷ []) (Left 5) (so_far (Left 3 ∷ []) (Left 5 ∷ Right 3 ∷ Right 5 ∷ []) refl) fit (λ u other. refl),
)

-- q of both circuits is loaded by the first input, and its enable needs no care
twins : HaveTwinEnables side (Right 3) (Left 3)
twins = record {
  care_to = λ bits care. enable_care side joined_same single number_once all_hold bits (Left 3);
  care_back = λ bits care. enable_care side joined_same single number_once all_hold bits (Right 3);
  to = λ bits x care at. subst (IsEnable side (IsEnabled whole) bits (Left 3) []) (sym (hold_enable_is side joined_same single number_once (codes "q") (Right 3) (Right 4) right_q_latch right_q bits [] x at))
      (hold_enable side joined_same single number_once (codes "q") (Left 3) (Left 4) left_q_latch left_q bits []);
  back = λ bits x care at. subst (IsEnable side (IsEnabled whole) bits (Right 3) []) (sym (hold_enable_is side joined_same single number_once (codes "q") (Left 3) (Left 4) left_q_latch left_q bits [] x at))
      (hold_enable side joined_same single number_once (codes "q") (Right 3) (Right 4) right_q_latch right_q bits []);
}

pub twin_fits : HasTwin
twin_fits = (
  twins,
  twins_fit_in_nets left_side right_side 11 11 numbers numbers class_of left_net right_net refl (Left 3 ∷ Left 5 ∷ []) (Right 3 ∷ Right 5 ∷ []) (Right 3) (Left 3) (so_far (Left 3 ∷ Left 5 ∷ []) (Right 3 ∷ Right 5 ∷ []) refl)
      (0, omega arith, refl) twins,
)

At : LatchAtNode (Either ℕ ℕ) → Type 0
At = Contains reached_y

closed : IsClosed side (IsEnabled whole) (StartLatches side start_y) reached_y
closed = record { roots = λ v h. root v h; children = λ u v node h others. absurd (no_others side joined_same single number_once all_hold u v others) }
  where
    -- nothing of the other side
    none : (q : ℕ) → Reaches whole (Left 10) (Right q) → ⊥
    none q r = let x = reaches_from left_side whole Left (replace_left left_side right_side) (left_part left_side right_side) r 10 refl in left_is_not_right x.0 q x.1

    Listed : Either ℕ ℕ → Type 0
    Listed v = Reaches whole (Left 10) v → Contains reached_y (record { latch = v; node = [] })

    listed : (name : List ℕ) (v next : Either ℕ ℕ) → IsLatch whole name v next → Listed v
    listed name v next latch =
        each_latch (λ m u to. Listed u) whole.equations ((λ r. (0, omega arith, refl)), ((λ r. (1, omega arith, refl)), ((λ r. absurd (none 3 r)), ((λ r. absurd (none 5 r)), tt)))) name v next latch

    root : (v : Either ℕ ℕ) → StartLatches side start_y v → Contains reached_y (record { latch = v; node = [] })
    root v h =
        let e : ◌≡◌ {A = Start (Either ℕ ℕ)} (record { place = Left 10; left_out = None }) h.0 = only (record { place = Left 10; left_out = None }) h.0 h.1 in
        listed h.2.0 v h.2.1 h.2.2 (subst (λ (x : Start (Either ℕ ℕ)). Reaches whole x.place v) (sym e) h.2.3)

sound : (x : LatchAtNode (Either ℕ ℕ)) → Contains reached_y x → ReachedAt side (IsEnabled whole) (StartLatches side start_y) x.node x.latch
sound x h = each_at (λ (y : LatchAtNode (Either ℕ ℕ)). ReachedAt side (IsEnabled whole) (StartLatches side start_y) y.node y.latch) reached_y (q, (r, tt)) x h
  where
    y_reads_r : Reaches whole (Left 10) (Left 5)
    y_reads_r = Reaches.there (Reads.by_gate {fanins = Left 9 ∷ Left 5 ∷ Left 7 ∷ []} (4, omega arith, refl) (1, omega arith, refl)) Reaches.here

    q : StartLatches side start_y (Left 3)
    q = (record { place = Left 10; left_out = None }, (0, omega arith, refl), (codes "q", Left 4, left_q_latch, left_y_reads), tt)

    r : StartLatches side start_y (Left 5)
    r = (record { place = Left 10; left_out = None }, (0, omega arith, refl), (codes "r", Left 6, left_r_latch, y_reads_r), tt)

pub reached_list : HasReachedList
reached_list = record {
  determined = λ x h. let e : ◌≡◌ {A = Start (Either ℕ ℕ)} (record { place = Left 10; left_out = None }) x = only (record { place = Left 10; left_out = None }) x h in
      subst (λ (y : Start (Either ℕ ℕ)). IsDetermined whole y.place) e (determined_up left_side whole Left (replace_left left_side right_side) (left_part left_side right_side) (net_determined left_side 11 left_net 10 (omega arith)));
  closed = closed;
  reached = closed_lists_are_reached side start_y reached_y closed sound;
}
