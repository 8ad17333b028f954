-- Both circuits with two enabled latches side by side: they have two classes besides `always`.
use Rattle.std.proofs.Common.{◌≡◌, ◌≢◌, ℕ, zero, suc, ◌+◌, ◌<◌, ◌≤◌, List, [], ◌∷◌, refl, subst, arith, inl, inr}
use Rattle.std.specs.Prelude.{codes}
use Rattle.std.specs.List.{AllPairs, Contains}
use Rattle.std.proofs.lemmas.List.Elements.{All-from_recursion}
use Rattle.circuit_theory.specs.Circuit.{Circuit, IsLatch, IsSingleDriven}
use Rattle.circuit_theory.specs.Classes.{HasClasses, IsClassMap, IsInFirstClass, IsLatchOrder, classes_of}
use Rattle.circuit_theory.specs.Depth.{LatchesHaveDepths}
use Rattle.circuit_theory.specs.Joined.{Either, Left, Right, joined}
use Rattle.circuit_theory.specs.Net.{IsNet}
use Rattle.circuit_theory.specs.Run.{IsEnabled}
use Rattle.circuit_theory.specs.Tree.{AreNumbered, IsInputNumber, StandsBeside}
use Rattle.circuit_theory.proofs.Inputs.{beside_is_input}
use Rattle.circuit_theory.proofs.Numbers.{one_place}
use Rattle.circuit_laws.proofs.JoinedParts.{joined_same, joined_single, joined_number_once}
use Rattle.sec_base.specs.Cover.{IsPlace, IsCube, IsCoverSound}
use Rattle.flat_net.specs.View.{circuit_of}
use Rattle.call_rows.specs.circuit_samples.Circuits.{and_cover}
use Rattle.call_rows.specs.circuit_samples.event_samples.Samples.{load_cover}
use Rattle.call_rows.proofs.circuit_samples.Each.{Each, each_at, each_latch, each_pair, each_split}
use Rattle.call_rows.proofs.circuit_samples.NetTest.{numbers_distinct-sound}
use Rattle.call_rows.proofs.circuit_samples.event_samples.HoldCells.{IsHold, hold_enabled, hold_depths, in_first, in_their_order}
use Rattle.call_rows.proofs.circuit_samples.event_samples.Opened.{holds_load, loads_load}
use Rattle.premise_rows.specs.event_apart_premises.TwoLoads.{or_cover, shows_and, shows_or, both_loading, joining}
use Rattle.premise_rows.proofs.event_apart_premises.TwoSide as side

pub and_sound : IsCoverSound and_cover
and_sound = record { cubes = All-from_recursion (IsCube 2) (codes "11" ∷ []) ((refl, All-from_recursion IsPlace (codes "11") (inr (inl refl), (inr (inl refl), tt))), tt); empty_is_on = λ e. refl }

pub or_sound : IsCoverSound or_cover
or_sound = record {
  cubes = All-from_recursion (IsCube 2) (codes "1-" ∷ codes "-1" ∷ []) (
    (refl, All-from_recursion IsPlace (codes "1-") (inr (inl refl), (inr (inr refl), tt))),
    ((refl, All-from_recursion IsPlace (codes "-1") (inr (inr refl), (inr (inl refl), tt))), tt),
  );
  empty_is_on = λ e. refl;
}

abbrev pub left_circuit : Circuit ℕ
left_circuit = circuit_of shows_and.net

abbrev pub right_circuit : Circuit ℕ
right_circuit = circuit_of shows_or.net

abbrev pub whole : Circuit (Either ℕ ℕ)
whole = joined left_circuit right_circuit

left_net : IsNet left_circuit 8
left_net = side.is_net and_cover and_sound refl

right_net : IsNet right_circuit 8
right_net = side.is_net or_cover or_sound refl

pub single : IsSingleDriven whole
single = joined_single left_circuit right_circuit 8 8 left_net right_net

pub number_once : (p : Either ℕ ℕ) (i j : ℕ) → IsInputNumber whole both_loading.order p i → IsInputNumber whole both_loading.order p j → i ≡ j
number_once p i j h k = joined_number_once left_circuit right_circuit 8 8 left_net right_net (0 ∷ 1 ∷ 2 ∷ []) (0 ∷ 1 ∷ 2 ∷ []) refl p i j h k

pub numbered : AreNumbered left_circuit right_circuit (0 ∷ 1 ∷ 2 ∷ []) (0 ∷ 1 ∷ 2 ∷ [])
numbered = record {
  left_once = λ p q i h k. once p q i h k;
  right_once = λ p q i h k. once p q i h k;
  shared = λ p q i h k. let n = beside_is_input left_circuit.inputs (0 ∷ 1 ∷ 2 ∷ []) p i h in (n.0, n.1, subst (λ z. Contains right_circuit.inputs (record { name = n.0; place = z })) (once p q i h k) n.1);
}
  where
    once : (p q i : ℕ) → StandsBeside left_circuit.inputs (0 ∷ 1 ∷ 2 ∷ []) p i → StandsBeside left_circuit.inputs (0 ∷ 1 ∷ 2 ∷ []) q i → p ≡ q
    once p q i h k = one_place left_circuit.inputs (0 ∷ 1 ∷ 2 ∷ []) (numbers_distinct-sound (0 ∷ 1 ∷ 2 ∷ []) refl) p q i h k

-- the four latches
abbrev pub left_q : IsHold both_loading (Left 3) (Left 5)
left_q = record { e = Left 0; a = Left 2; i = 0; j = 2; load = load_cover; gate = (0, omega arith, refl); e_is = inl (refl, refl); a_is = inr (inr (inl (refl, refl))); holds = holds_load; loads = loads_load }

abbrev pub left_r : IsHold both_loading (Left 4) (Left 6)
left_r = record { e = Left 1; a = Left 2; i = 1; j = 2; load = load_cover; gate = (1, omega arith, refl); e_is = inr (inl (refl, refl)); a_is = inr (inr (inl (refl, refl))); holds = holds_load; loads = loads_load }

abbrev pub right_q : IsHold both_loading (Right 3) (Right 5)
right_q = record { e = Right 0; a = Right 2; i = 0; j = 2; load = load_cover; gate = (5, omega arith, refl); e_is = inr (inr (inr (inl (refl, refl)))); a_is = inr (inr (inr (inr (inr (inl (refl, refl)))))); holds = holds_load; loads = loads_load }

abbrev pub right_r : IsHold both_loading (Right 4) (Right 6)
right_r = record { e = Right 1; a = Right 2; i = 1; j = 2; load = load_cover; gate = (6, omega arith, refl); e_is = inr (inr (inr (inr (inl (refl, refl))))); a_is = inr (inr (inr (inr (inr (inl (refl, refl)))))); holds = holds_load; loads = loads_load }

pub left_q_latch : IsLatch whole (codes "q") (Left 3) (Left 5)
left_q_latch = (3, omega arith, refl)

pub left_r_latch : IsLatch whole (codes "r") (Left 4) (Left 6)
left_r_latch = (4, omega arith, refl)

pub right_q_latch : IsLatch whole (codes "q") (Right 3) (Right 5)
right_q_latch = (8, omega arith, refl)

pub right_r_latch : IsLatch whole (codes "r") (Right 4) (Right 6)
right_r_latch = (9, omega arith, refl)

-- each latch is one of them: it loads a under e or f, and is of the class after that input's number
abbrev pub LoadsOne : List ℕ → Either ℕ ℕ → Either ℕ ℕ → Type 0
LoadsOne name u next = (h : IsHold both_loading u next) × (both_loading.class u ≡ suc h.i) × (h.j ≡ 2) × (h.i < 2)

pub loads_one : (name : List ℕ) (u next : Either ℕ ℕ) → IsLatch whole name u next → LoadsOne name u next
loads_one name u next latch = each_latch LoadsOne whole.equations ((left_q, refl, refl, omega arith), ((left_r, refl, refl, omega arith), ((right_q, refl, refl, omega arith), ((right_r, refl, refl, omega arith), tt)))) name u next latch

pub all_hold : (name : List ℕ) (u next : Either ℕ ℕ) → IsLatch whole name u next → IsHold both_loading u next
all_hold name u next latch = (loads_one name u next latch).0

class_is : (name : List ℕ) (u next : Either ℕ ℕ) (latch : IsLatch whole name u next) → both_loading.class u ≡ suc (all_hold name u next latch).i
unfolding all_hold
class_is name u next latch = (loads_one name u next latch).1

pub depths : LatchesHaveDepths whole (IsEnabled whole)
depths = hold_depths both_loading joined_same single number_once all_hold

abbrev LatchAt : Either ℕ ℕ → Type 0
LatchAt u = (name : List ℕ) × (next : Either ℕ ℕ) × IsLatch whole name u next

lq : LatchAt (Left 3)
lq = (codes "q", Left 5, left_q_latch)

lr : LatchAt (Left 4)
lr = (codes "r", Left 6, left_r_latch)

rq : LatchAt (Right 3)
rq = (codes "q", Right 5, right_q_latch)

rr : LatchAt (Right 4)
rr = (codes "r", Right 6, right_r_latch)

-- r of either side comes after A's q, which founds class 1
after_q : (front : List (Either ℕ ℕ)) → Contains front (Left 3) → (k : ℕ) → suc k < 2 → (u : Either ℕ ℕ) × Contains front u × (both_loading.class u ≡ suc k)
after_q front h zero l = (Left 3, h, refl)
after_q front h (suc k) l = absurd (omega arith)

none_before : (front : List (Either ℕ ℕ)) → (k : ℕ) → suc k < 1 → (u : Either ℕ ℕ) × Contains front u × (both_loading.class u ≡ suc k)
none_before front k l = absurd (omega arith)

first_class : (front : List (Either ℕ ℕ)) (v : Either ℕ ℕ) → LatchAt v → Each LatchAt front → both_loading.class v ≤ classes_of both_loading front + 1 →
    ((k : ℕ) → suc k < both_loading.class v → (u : Either ℕ ℕ) × Contains front u × (both_loading.class u ≡ suc k)) → IsInFirstClass both_loading front v
first_class front v at latches most earlier = in_first both_loading joined_same single number_once all_hold class_is front v at (λ u h. each_at LatchAt front latches u h) most earlier

pub class_map : IsClassMap both_loading joining
class_map = record {
  plain = λ name u next latch off. absurd (off (hold_enabled both_loading joined_same single number_once name u next latch (all_hold name u next latch)));
  each = λ front after v e. each_split (IsInFirstClass both_loading) joining splits front after v e;
}
  where
    splits : IsInFirstClass both_loading [] (Left 3) × (IsInFirstClass both_loading (Left 3 ∷ []) (Left 4) × (IsInFirstClass both_loading (Left 3 ∷ Left 4 ∷ []) (Right 3) × (IsInFirstClass both_loading (Left 3 ∷ Left 4 ∷ Right 3 ∷ []) (Right 4) × Unit {0})))
    splits = (
      first_class [] (Left 3) lq tt (omega arith) (none_before []),
      (
        first_class (Left 3 ∷ []) (Left 4) lr (lq, tt) (omega arith) (after_q (Left 3 ∷ []) (0, omega arith, refl)),
        (
          first_class (Left 3 ∷ Left 4 ∷ []) (Right 3) rq (lq, (lr, tt)) (omega arith) (none_before (Left 3 ∷ Left 4 ∷ [])),
          (first_class (Left 3 ∷ Left 4 ∷ Right 3 ∷ []) (Right 4) rr (lq, (lr, (rq, tt))) (omega arith) (after_q (Left 3 ∷ Left 4 ∷ Right 3 ∷ []) (0, omega arith, refl)), tt),
        ),
      ),
    )

pub latch_order : IsLatchOrder both_loading joining
latch_order = in_their_order both_loading joined_same single number_once all_hold class_is apart (λ u h. each_at LatchAt joining (lq, (lr, (rq, (rr, tt)))) u h)
    (λ name u next latch. each_latch (λ m v to. Contains joining v) whole.equations ((0, omega arith, refl), ((1, omega arith, refl), ((2, omega arith, refl), ((3, omega arith, refl), tt)))) name u next latch)
  where
    apart : AllPairs (λ u v. u ≢ v) joining
    apart = each_pair (λ u v. u ≢ v) joining (((λ e. cc), ((λ e. cc), ((λ e. cc), tt))), (((λ e. cc), ((λ e. cc), tt)), (((λ e. cc), tt), (tt, tt))))

abbrev pub classes : HasClasses both_loading
classes = record { numbered = refl; order = joining; is_order = latch_order; is_map = class_map }
