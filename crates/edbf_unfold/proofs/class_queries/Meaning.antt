-- What literals, and queries of them, say of enables.
use Rattle.std.proofs.Common.{◌≡◌, ◌∙◌, ℕ, Bool, true, false, List, [], length, refl, sym, subst}
use Rattle.std.specs.Prelude.{◌↔◌, ◌&&◌}
use Rattle.circuit_theory.specs.Joined.{Either}
use Rattle.circuit_theory.specs.Run.{IsEnabled}
use Rattle.circuit_theory.proofs.Lists.{length-map}
use Rattle.circuit_laws.proofs.JoinedParts.{joined_single, joined_number_once}
use Rattle.circuit_theory.specs.Frame.{EventSide}
use Rattle.circuit_theory.specs.Classes.{EnableCare, EnableAtRoot, EnablesEqual, EnablesDiffer, SometimesOff}
use Rattle.edbf_unfold.specs.ClassSteps.{HaveTwinEnables}
use Rattle.edbf_unfold.proofs.EventTrees.{one_enable}
use Rattle.event_nodes.specs.flat_net.View.{circuit_of, named}
use Rattle.event_nodes.proofs.flat_net.Nets.{sound_is_net}
use Rattle.aig.specs.Values.{value}
use Rattle.aig.proofs.CoverMeaning.{value-and, value-one}
use Rattle.edbf_unfold.specs.Nodes.{EventGraphView}
use Rattle.edbf_unfold.specs.View.{EventCircuitView, IsEventCircuit}
use Rattle.edbf_unfold.proofs.CareMeaning.{care_value}
use Rattle.edbf_unfold.proofs.EventLiterals.{enable_value}
use Rattle.edbf_unfold.specs.class_queries.Enables.{both_of, class_map, IsEnableFunction, AsksEnables, IsSame, Distinguishes}
use Rattle.edbf_unfold.specs.class_queries.Laws.{AreKept, EnableLitsAreFunctions, EqualLitsAreTwins, SameIsEqual, DifferenceTellsApart, SameIsAlways, DifferenceIsOff}
use Rattle.edbf_unfold.proofs.class_queries.BothCares.{left_enable_care, right_enable_care, left_enable, right_enable}
use Rattle.edbf_unfold.proofs.class_queries.Frames.{assignment_of, takes_frame, frame_by, frame_takes}

-- each input has a number
pub numbered : (e : EventCircuitView) → IsEventCircuit e → length e.order ≡ length (circuit_of e.net).inputs
numbered e is = is.each_order ∙ sym (length-map named e.net.inputs)

pub lits_are_functions : EnableLitsAreFunctions
lits_are_functions a b w kept = (
  λ j l enable care at on lit cared. record {
    enable_within = lit.within;
    care_within = cared.within;
    enable_is = λ bits x fits. left_enable (circuit_of a.net) (circuit_of b.net) (length a.net.drivers) (length b.net.drivers) (sound_is_net a.net kept.left_sound) (sound_is_net b.net kept.right_sound) a.order b.order (numbered a kept.left) (class_map a b) bits l.out.0 [] (value w.graph x enable)
        (enable_value a w [] j l enable kept.left_sound kept.events at on lit bits x fits);
    care_is = λ bits x fits. through ((care_value a w care kept.left_sound kept.left kept.events bits x fits).1 j l at on cared) (left_enable_care (circuit_of a.net) (circuit_of b.net) (length a.net.drivers) (length b.net.drivers) (sound_is_net a.net kept.left_sound) (sound_is_net b.net kept.right_sound) a.order b.order (numbered a kept.left) (class_map a b) l.out.0 bits);
  },
  λ j l enable care at on lit cared. record {
    enable_within = lit.within;
    care_within = cared.within;
    enable_is = λ bits x fits. right_enable (circuit_of a.net) (circuit_of b.net) (length a.net.drivers) (length b.net.drivers) (sound_is_net a.net kept.left_sound) (sound_is_net b.net kept.right_sound) a.order b.order (numbered a kept.left) (class_map a b) bits l.out.0 [] (value w.graph x enable)
        (enable_value b w [] j l enable kept.right_sound kept.events at on lit bits x fits);
    care_is = λ bits x fits. through ((care_value b w care kept.right_sound kept.right kept.events bits x fits).1 j l at on cared) (right_enable_care (circuit_of a.net) (circuit_of b.net) (length a.net.drivers) (length b.net.drivers) (sound_is_net a.net kept.left_sound) (sound_is_net b.net kept.right_sound) a.order b.order (numbered a kept.left) (class_map a b) l.out.0 bits);
  },
)
  where
    through : {X Y Z : Type 0} → X ↔ Y → Y ↔ Z → X ↔ Z
    through p q = (λ x. q.0 (p.0 x), λ z. p.1 (q.1 z))

both_true : (b c : Bool) → b && c ≡ true → (b ≡ true) × (c ≡ true)
both_true true c h = (refl, h)
both_true false c h = absurd (no h)
  where
    no : false ≡ true → ⊥
    no q = cc

module _ (a b : EventCircuitView) (w : EventGraphView) (kept : AreKept a b w) where
  abbrev s : EventSide (Either ℕ ℕ)
  s = both_of a b

  -- an enable has one value at the root
  one : (bits : ℕ → List ℕ → Bool) (u : Either ℕ ℕ) (x y : Bool) → EnableAtRoot s bits u x → EnableAtRoot s bits u y → x ≡ y
  one bits u x y p q =
      let na = sound_is_net a.net kept.left_sound in
      let nb = sound_is_net b.net kept.right_sound in
      one_enable s (IsEnabled s.circuit) (joined_single (circuit_of a.net) (circuit_of b.net) (length a.net.drivers) (length b.net.drivers) na nb)
      (λ r k l h g. joined_number_once (circuit_of a.net) (circuit_of b.net) (length a.net.drivers) (length b.net.drivers) na nb a.order b.order (numbered a kept.left) r k l h g) bits u [] x y p q

  pub twins : (u v : Either ℕ ℕ) (enable care : ℕ) → IsEnableFunction s w u enable care → IsEnableFunction s w v enable care → HaveTwinEnables s v u
  twins u v enable care f g = record {
    care_to = λ bits c. (f.care_is bits (assignment_of w bits) (takes_frame w bits)).0 ((g.care_is bits (assignment_of w bits) (takes_frame w bits)).1 c);
    care_back = λ bits c. (g.care_is bits (assignment_of w bits) (takes_frame w bits)).0 ((f.care_is bits (assignment_of w bits) (takes_frame w bits)).1 c);
    to = λ bits y c at. subst (EnableAtRoot s bits u) (one bits v _ y (g.enable_is bits (assignment_of w bits) (takes_frame w bits)) at) (f.enable_is bits (assignment_of w bits) (takes_frame w bits));
    back = λ bits y c at. subst (EnableAtRoot s bits v) (one bits u _ y (f.enable_is bits (assignment_of w bits) (takes_frame w bits)) at) (g.enable_is bits (assignment_of w bits) (takes_frame w bits));
  }

  pub equal : (u v : Either ℕ ℕ) (left right care : ℕ) → AsksEnables s w u v left right care → IsSame w left right care → EnablesEqual s u v
  equal u v left right care asks same bits y z cu cv at_u at_v =
      let x = assignment_of w bits in
      let fits = takes_frame w bits in
      let cared : value w.graph x care ≡ true = value-and w.graph kept.events.is_graph x asks.left_care asks.right_care care asks.both ∙ (λ i. (asks.left_is.care_is bits x fits).1 cu i && (asks.right_is.care_is bits x fits).1 cv i) in
      one bits u y (value w.graph x left) at_u (asks.left_is.enable_is bits x fits) ∙ (same x cared ∙ one bits v (value w.graph x right) z (asks.right_is.enable_is bits x fits) at_v)

  pub apart : (u v : Either ℕ ℕ) (left right care : ℕ) (x : ℕ → Bool) → AsksEnables s w u v left right care → Distinguishes w left right care x → EnablesDiffer s u v
  apart u v left right care x asks d =
      let fits = frame_takes w kept.events x in
      let cares = both_true (value w.graph x asks.left_care) (value w.graph x asks.right_care) (sym (value-and w.graph kept.events.is_graph x asks.left_care asks.right_care care asks.both) ∙ d.cared) in
      record {
        bits = frame_by w x;
        left = value w.graph x left;
        right = value w.graph x right;
        left_care = (asks.left_is.care_is (frame_by w x) x fits).0 cares.0;
        right_care = (asks.right_is.care_is (frame_by w x) x fits).0 cares.1;
        left_is = asks.left_is.enable_is (frame_by w x) x fits;
        right_is = asks.right_is.enable_is (frame_by w x) x fits;
        differ = d.differ;
      }

  pub always : (v : Either ℕ ℕ) (enable care : ℕ) → IsEnableFunction s w v enable care → IsSame w enable 1 care → (bits : ℕ → List ℕ → Bool) (y : Bool) → EnableCare s bits v → EnableAtRoot s bits v y → y ≡ true
  always v enable care is same bits y has at =
      let x = assignment_of w bits in
      let fits = takes_frame w bits in
      one bits v y (value w.graph x enable) at (is.enable_is bits x fits) ∙ (same x ((is.care_is bits x fits).1 has) ∙ value-one w.graph kept.events.is_graph x)

  pub off : (v : Either ℕ ℕ) (enable care : ℕ) (x : ℕ → Bool) → IsEnableFunction s w v enable care → Distinguishes w enable 1 care x → SometimesOff s v
  off v enable care x is d =
      let fits = frame_takes w kept.events x in
      record {
        bits = frame_by w x;
        care = (is.care_is (frame_by w x) x fits).0 d.cared;
        off = subst (EnableAtRoot s (frame_by w x) v) (other (value w.graph x enable) (λ e. d.differ (e ∙ sym (value-one w.graph kept.events.is_graph x)))) (is.enable_is (frame_by w x) x fits);
      }
    where
      other : (c : Bool) → (c ≡ true → ⊥) → c ≡ false
      other true wrong = absurd (wrong refl)
      other false wrong = refl

pub twins_law : EqualLitsAreTwins
twins_law a b w kept u v enable care f g = twins a b w kept u v enable care f g

pub equal_law : SameIsEqual
equal_law a b w kept u v left right care asks same = equal a b w kept u v left right care asks same

pub apart_law : DifferenceTellsApart
apart_law a b w kept u v left right care x asks d = apart a b w kept u v left right care x asks d

pub always_law : SameIsAlways
always_law a b w kept v enable care is same = always a b w kept v enable care is same

pub off_law : DifferenceIsOff
off_law a b w kept v enable care x is d = off a b w kept v enable care x is d
