-- The opened circuits side by side have two classes besides `always`, and their outputs have equal event functions.
use Rattle.std.proofs.Common.{◌≡◌, ℕ, Bool, true, false, List, [], ◌∷◌, refl, subst}
use Rattle.std.specs.Prelude.{codes}
use Rattle.circuit_theory.specs.declared.Mode.TheVariants.{Event}
use Rattle.circuit_theory.specs.Cover.{cover_value}
use Rattle.circuit_theory.specs.Circuit.{Circuit, IsLatch, IsSingleDriven, Reaches}
use Rattle.circuit_theory.specs.Run.{IsEnabled}
use Rattle.circuit_theory.specs.Net.{IsNet}
use Rattle.circuit_theory.specs.Depth.{LatchesHaveDepths}
use Rattle.circuit_theory.specs.Tree.{AreNumbered, IsInputNumber, tree_value}
use Rattle.circuit_theory.specs.Joined.{Either, Left, Right, joined}
use Rattle.circuit_theory.specs.Agree.{Agree, IsPair}
use Rattle.circuit_theory.specs.Frame.{EventSide}
use Rattle.circuit_theory.specs.Classes.{IsClassMap, IsLatchOrder, HasClasses}
use Rattle.circuit_theory.specs.EventFits.{side_by_side, HaveEqualEvents}
use Rattle.circuit_laws.proofs.event_laws.EventAgreement.{events_agree}
use Rattle.call_rows.specs.circuit_samples.event_samples.Samples.{opened_before, opened_behind, load_cover, load_not_cover, same_cover, not_cover, numbers, class_of}
use Rattle.call_rows.specs.circuit_samples.event_samples.Premises.{AreEventSides}
use Rattle.call_rows.specs.circuit_samples.event_samples.Events.{HasTwoClasses}
use Rattle.call_rows.proofs.circuit_samples.event_samples.Opened
use Rattle.call_rows.proofs.circuit_samples.event_samples.Opened.{LoadPair, holds_load, loads_load, holds_not, loads_not}
use Rattle.call_rows.proofs.circuit_samples.event_samples.HoldCells.{IsHold}

abbrev pub pair : LoadPair
pair = record { la = load_not_cover; oa = same_cover; lb = load_cover; ob = not_cover; holds_a = holds_not; loads_a = loads_not; holds_b = holds_load; loads_b = loads_load }

abbrev pub left_side : Circuit ℕ
left_side = opened_before

abbrev pub right_side : Circuit ℕ
right_side = opened_behind

abbrev pub whole : Circuit (Either ℕ ℕ)
whole = joined left_side right_side

abbrev pub side : EventSide (Either ℕ ℕ)
side = side_by_side left_side right_side numbers numbers class_of

abbrev pub order : List (Either ℕ ℕ)
order = Left 3 ∷ Left 5 ∷ Right 3 ∷ Right 5 ∷ []

pub left_net : IsNet left_side 11
left_net = Opened.left_net pair

pub right_net : IsNet right_side 11
right_net = Opened.right_net pair

pub numbered : AreNumbered left_side right_side numbers numbers
numbered = Opened.numbered pair

pub single : IsSingleDriven whole
single = Opened.single pair

pub number_once : (p : Either ℕ ℕ) (i j : ℕ) → IsInputNumber whole side.order p i → IsInputNumber whole side.order p j → i ≡ j
number_once = Opened.number_once pair

abbrev pub left_q : IsHold side (Left 3) (Left 4)
left_q = Opened.left_q pair

abbrev pub left_r : IsHold side (Left 5) (Left 6)
left_r = Opened.left_r pair

abbrev pub right_q : IsHold side (Right 3) (Right 4)
right_q = Opened.right_q pair

abbrev pub right_r : IsHold side (Right 5) (Right 6)
right_r = Opened.right_r pair

pub left_q_latch : IsLatch whole (codes "q") (Left 3) (Left 4)
left_q_latch = Opened.left_q_latch pair

pub left_r_latch : IsLatch whole (codes "r") (Left 5) (Left 6)
left_r_latch = Opened.left_r_latch pair

pub right_q_latch : IsLatch whole (codes "q") (Right 3) (Right 4)
right_q_latch = Opened.right_q_latch pair

pub right_r_latch : IsLatch whole (codes "r") (Right 5) (Right 6)
right_r_latch = Opened.right_r_latch pair

pub all_hold : (name : List ℕ) (u next : Either ℕ ℕ) → IsLatch whole name u next → IsHold side u next
all_hold = Opened.all_hold pair

pub depths : LatchesHaveDepths whole (IsEnabled whole)
depths = Opened.depths pair

pub class_map : IsClassMap side order
class_map = Opened.class_map pair

pub latch_order : IsLatchOrder side order
latch_order = Opened.latch_order pair

pub classes : HasClasses side
classes = Opened.classes pair

pub two_classes : HasTwoClasses
two_classes = Opened.two_classes pair

pub event_sides : AreEventSides left_side right_side 11 11 numbers numbers class_of
event_sides = Opened.event_sides pair

pub left_z_reads : Reaches whole (Left 9) (Left 3)
left_z_reads = Opened.left_z_reads pair

pub left_y_reads : Reaches whole (Left 10) (Left 3)
left_y_reads = Opened.left_y_reads pair

pub joined_q_enabled : IsEnabled whole (Left 3)
joined_q_enabled = Opened.joined_q_enabled pair

z_same : (a : Bool) → cover_value same_cover (cover_value load_not_cover (true ∷ a ∷ false ∷ []) ∷ []) ≡ cover_value not_cover (cover_value load_cover (true ∷ a ∷ false ∷ []) ∷ [])
unfolding cover_value
z_same true = refl
z_same false = refl

z_values : (bits : ℕ → List ℕ → Bool) → true ≡ bits 0 (1 ∷ []) → tree_value bits (Opened.left_z pair) ≡ tree_value bits (Opened.right_z pair)
unfolding tree_value
z_values bits e =
    subst (λ b. cover_value same_cover (cover_value load_not_cover (b ∷ bits 2 (1 ∷ []) ∷ false ∷ []) ∷ []) ≡ cover_value not_cover (cover_value load_cover (b ∷ bits 2 (1 ∷ []) ∷ false ∷ []) ∷ [])) e (z_same (bits 2 (1 ∷ [])))

pub z_equal : HaveEqualEvents side (Left 9) (Right 9)
z_equal = record {
  left_tree = Opened.left_z pair;
  right_tree = Opened.right_z pair;
  left_unfolds = Opened.left_z_unfolds pair;
  right_unfolds = Opened.right_z_unfolds pair;
  same = λ bits care. z_values bits (Opened.e_is_on pair bits (Left 9) left_z_reads care.0);
}

pub y_equal : HaveEqualEvents side (Left 10) (Right 10)
y_equal = record {
  left_tree = Opened.y_of pair (Opened.left_z pair);
  right_tree = Opened.y_of pair (Opened.right_z pair);
  left_unfolds = Opened.left_y_unfolds pair;
  right_unfolds = Opened.right_y_unfolds pair;
  same = λ bits care. Opened.y_values pair bits (Opened.left_z pair) (Opened.right_z pair) (z_values bits (Opened.e_is_on pair bits (Left 10) left_y_reads care.0));
}

pub t_equal : HaveEqualEvents side (Left 8) (Right 8)
t_equal = record { left_tree = Opened.t_tree pair; right_tree = Opened.t_tree pair; left_unfolds = Opened.left_t_unfolds pair; right_unfolds = Opened.right_t_unfolds pair; same = λ bits care. refl }

pub pairs_equal : (p q : ℕ) → IsPair [] left_side right_side p q → HaveEqualEvents side (Left p) (Right q)
pairs_equal = Opened.at_outputs pair (λ p q. HaveEqualEvents side (Left p) (Right q)) y_equal z_equal t_equal

pub opened_agree : Agree Event left_side right_side
opened_agree = events_agree left_side right_side 11 11 numbers numbers class_of left_net right_net numbered refl refl classes depths pairs_equal
