-- Circuits with the same inputs and equations have the same event functions, depths and class maps, whatever their initial values and outputs.
use Rattle.std.proofs.Common.{◌≡◌, ◌∙◌, ℕ, zero, suc, Bool, false, List, [], length, slice_get, None, refl, sym, ap, subst, inl}
use Rattle.std.specs.Prelude.{◌↔◌}
use Rattle.std.specs.List.{All, Contains}
use Rattle.std.proofs.lemmas.List.{map-id}
use Rattle.circuit_theory.specs.Circuit.{Circuit, Equation, Gate, Latch, Port, Named, Holds, Meets, IsLatch}
use Rattle.circuit_theory.specs.Cone.{latches_of}
use Rattle.circuit_theory.specs.Depth.{IsDepth, LatchesHaveDepths}
use Rattle.circuit_theory.specs.Joined.{moved}
use Rattle.circuit_theory.specs.Run.{IsEnabled}
use Rattle.circuit_theory.specs.Tree.{StandsBeside, IsInputNumber}
use Rattle.circuit_laws.proofs.Parts.{IsPart, enabled_up, enabled_from}
use Rattle.circuit_theory.specs.Classes.{AlwaysEnabled, EnableAtRoot, EnableCare, EnablesEqual, EqualsMembers, DiffersFromMember, HasClasses, IsInFirstClass}
use Rattle.circuit_theory.specs.EventFits.{HaveEqualEvents}
use Rattle.circuit_theory.specs.Frame.{EventSide}
use Rattle.circuit_laws.proofs.event_laws.SideParts.{depth_up}
use Rattle.circuit_laws.proofs.event_laws.SideTrees.{tree_same, care_same, enable_same}
use Rattle.edbf_unfold.proofs.class_queries.BothCares.{enable_care_same}

-- the inputs and the equations are the same
pub record AreSame {P : Type 0} (c d : Circuit P) : Type 0 where
  pub inputs : c.inputs ≡ d.inputs
  pub equations : c.equations ≡ d.equations

moved_same : {P : Type 0} (e : Equation P) → moved (λ (p : P). p) e ≡ e
moved_same (Gate out fanins cover) = ap (λ fs. Gate out fs cover) (map-id fanins)
moved_same (Latch name out next) = refl
moved_same (Port out from) = refl

-- each is the whole of the other
pub same_part : {P : Type 0} (c d : Circuit P) → AreSame c d → IsPart c d (λ p. p) (λ y v. v)
same_part {P} c d same = record {
  one = λ p q e. e;
  equation = λ e h. subst (Contains d.equations) (sym (moved_same e)) (subst (λ (es : List (Equation P)). Contains es e) same.equations h);
  equation_from = λ e h p out. (e, subst (λ (es : List (Equation P)). Contains es e) (sym same.equations) h, moved_same e);
  input = λ name p h. subst (λ (is : List (Named P)). Contains is (record { name = name; place = p })) same.inputs h;
  input_from = λ name p h. subst (λ (is : List (Named P)). Contains is (record { name = name; place = p })) (sym same.inputs) h;
  inside = λ y v p. refl;
  outside = λ y v r. inl (r, refl);
  meets = λ y v on own. subst (λ (es : List (Equation P)). All (Holds v) es) same.equations own;
  meets_from = λ y on. subst (λ (es : List (Equation P)). All (Holds y) es) (sym same.equations) on;
}

module _ {P : Type 0} (c d : Circuit P) (same : AreSame c d) (some : P → Bool) (meets : Meets d some) (order : List ℕ) (class : P → ℕ) where
  abbrev s : EventSide P
  s = record { circuit = c; order = order; class = class }

  abbrev t : EventSide P
  t = record { circuit = d; order = order; class = class }

  abbrev itself : P → P
  itself p = p

  abbrev second : (P → Bool) → (P → Bool) → P → Bool
  second y v = v

  part : IsPart c d itself second
  part = same_part c d same

  turned : IsPart d c itself second
  turned = same_part d c (record { inputs = sym same.inputs; equations = sym same.equations })

  meets_back : Meets c some
  meets_back = subst (λ (es : List (Equation P)). All (Holds some) es) (sym same.equations) meets

  number_up : (p : P) (i : ℕ) → IsInputNumber c order p i → IsInputNumber d order p i
  number_up p i h = subst (λ (is : List (Named P)). StandsBeside is order p i) same.inputs h

  number_down : (p : P) (i : ℕ) → IsInputNumber d order p i → IsInputNumber c order p i
  number_down p i h = subst (λ (is : List (Named P)). StandsBeside is order p i) (sym same.inputs) h

  -- equal event functions are equal in both
  pub same_events : (p q : P) → HaveEqualEvents s p q → HaveEqualEvents t p q
  same_events p q k = record {
    left_tree = k.left_tree;
    right_tree = k.right_tree;
    left_unfolds = (tree_same c d itself second part some meets order order class number_up number_down None p [] k.left_tree).0 k.left_unfolds;
    right_unfolds = (tree_same c d itself second part some meets order order class number_up number_down None q [] k.right_tree).0 k.right_unfolds;
    same = λ bits cares. k.same bits ((care_same c d itself second part some meets order order class number_up number_down p bits).1 cares.0, (care_same c d itself second part some meets order order class number_up number_down q bits).1 cares.1);
  }

  -- so is the care of an enable, and the enable itself
  care : (bits : ℕ → List ℕ → Bool) (u : P) → EnableCare s bits u ↔ EnableCare t bits u
  care bits u = enable_care_same c d itself second part some meets order order class (enable_same c d itself second part some meets order order class number_up number_down) u bits

  root : (bits : ℕ → List ℕ → Bool) (u : P) (x : Bool) → EnableAtRoot s bits u x ↔ EnableAtRoot t bits u x
  root bits u x = enable_same c d itself second part some meets order order class number_up number_down bits u [] x

  always : (v : P) → AlwaysEnabled s v → AlwaysEnabled t v
  always v h bits x cared at = h bits x ((care bits v).1 cared) ((root bits v x).1 at)

  equal : (u v : P) → EnablesEqual s u v → EnablesEqual t u v
  equal u v h bits x y left right at_u at_v = h bits x y ((care bits u).1 left) ((care bits v).1 right) ((root bits u x).1 at_u) ((root bits v y).1 at_v)

  members : (before : List P) (k : ℕ) (v : P) → EqualsMembers s before k v → EqualsMembers t before k v
  members before zero v h = always v h
  members before (suc k) v h = λ u m e. equal u v (h u m e)

  differs : (before : List P) (k : ℕ) (v : P) → DiffersFromMember s before k v → DiffersFromMember t before k v
  differs before zero v h = record { bits = h.bits; care = (care h.bits v).0 h.care; off = (root h.bits v false).0 h.off }
  differs before (suc k) v h =
      let e = h.3 in (
        h.0,
        h.1,
        h.2,
        record {
          bits = e.bits;
          left = e.left;
          right = e.right;
          left_care = (care e.bits h.0).0 e.left_care;
          right_care = (care e.bits v).0 e.right_care;
          left_is = (root e.bits h.0 e.left).0 e.left_is;
          right_is = (root e.bits v e.right).0 e.right_is;
          differ = e.differ;
        },
      )

  first_class : (before : List P) (v : P) → IsInFirstClass s before v → IsInFirstClass t before v
  first_class before v k = record { not_past_next = k.not_past_next; joins = λ low. members before (class v) v (k.joins low); not_earlier = λ i below. differs before i v (k.not_earlier i below) }

  latch_back : (name : List ℕ) (u next : P) → IsLatch d name u next → IsLatch c name u next
  latch_back name u next h = subst (λ (es : List (Equation P)). Contains es (Latch name u next)) (sym same.equations) h

  depth_back : (u : P) (n : ℕ) → IsDepth d (IsEnabled d) u n → IsDepth c (IsEnabled c) u n
  depth_back u n h = depth_up d c itself second turned some meets_back u n h

  latches_back : latches_of d ≡ latches_of c
  latches_back = ap (λ (es : List (Equation P)). latches_of (record c { equations = es })) (sym same.equations)

  -- depths of latches are depths in both
  pub same_depths : LatchesHaveDepths c (IsEnabled c) → LatchesHaveDepths d (IsEnabled d)
  same_depths depths name u next latch = let k = depths name u next (latch_back name u next latch) in (k.0, depth_up c d itself second part some meets u k.0 k.1)

  -- the class map of the one is the other's
  pub same_classes : HasClasses s → HasClasses t
  same_classes h = record {
    numbered = h.numbered ∙ ap length same.inputs;
    order = h.order;
    is_order = record {
      all = λ u on. h.is_order.all u (enabled_from c d itself second part some meets u on);
      enabled = λ u m. enabled_up c d itself second part u (h.is_order.enabled u m);
      in_order = λ i j x low inside. (λ m n k l at_m at_n place_k place_l.
          h.is_order.in_order i j x low inside m n k l (depth_back _ m at_m) (depth_back _ n at_n) (sym (ap (λ (us : List P). slice_get us k) latches_back) ∙ place_k) (sym (ap (λ (us : List P). slice_get us l) latches_back) ∙ place_l));
    };
    is_map = record {
      plain = λ name u next latch off. h.is_map.plain name u next (latch_back name u next latch) (λ on. off (enabled_up c d itself second part u on));
      each = λ before after v split. first_class before v (h.is_map.each before after v split);
    };
  }
