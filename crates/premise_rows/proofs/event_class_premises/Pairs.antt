-- Two circuits side by side with one latch each, which loads under an input: how their class map goes on, and their enables as literals.
use Rattle.std.proofs.Common.{◌≡◌, ◌∙◌, ℕ, zero, suc, ◌<◌, Bool, true, List, [], ◌∷◌, length, slice_get, Some, sym, ap, subst, arith}
use Rattle.std.specs.Prelude.{◌*◌, codes}
use Rattle.std.specs.List.{Contains}
use Rattle.circuit_theory.specs.Circuit.{IsLatch, IsSingleDriven}
use Rattle.circuit_theory.specs.Joined.{Either, Left, Right}
use Rattle.circuit_theory.specs.Run.{IsEnabled}
use Rattle.circuit_theory.specs.Tree.{IsInputNumber}
use Rattle.circuit_theory.specs.Classes.{DiffersFromMember, EnablesEqual, EqualsMembers, IsInFirstClass, IsLatchOrder}
use Rattle.circuit_theory.specs.EventTotals.{IsMapSoFar}
use Rattle.circuit_theory.specs.Frame.{EventSide, IsEnable}
use Rattle.circuit_theory.proofs.Lists.{only}
use Rattle.circuit_laws.specs.event_laws.ClassSteps.{IsFirstFit}
use Rattle.circuit_laws.proofs.JoinedParts.{joined_same}
use Rattle.event_nodes.specs.aig.Values.{value}
use Rattle.event_nodes.specs.Nodes.{EventGraphView, named_places}
use Rattle.edbf_unfold.specs.class_queries.Enables.{IsEnableFunction}
use Rattle.call_rows.proofs.circuit_samples.Each.{each_split}
use Rattle.call_rows.proofs.circuit_samples.event_samples.HoldCells.{IsHold, hold_enable, hold_enable_is, hold_enabled, enable_care, sometimes_off}

module _ (s : EventSide (Either ℕ ℕ)) (single : IsSingleDriven s.circuit) (once : (p : Either ℕ ℕ) (i j : ℕ) → IsInputNumber s.circuit s.order p i → IsInputNumber s.circuit s.order p j → i ≡ j)
    (left : IsHold s (Left 2) (Left 3)) (right : IsHold s (Right 2) (Right 3)) (left_latch : IsLatch s.circuit (codes "q") (Left 2) (Left 3)) (right_latch : IsLatch s.circuit (codes "q") (Right 2) (Right 3))
    (all : (name : List ℕ) (u next : Either ℕ ℕ) → IsLatch s.circuit name u next → IsHold s u next) (order : IsLatchOrder s (Left 2 ∷ Right 2 ∷ [])) where
  -- each latch is enabled
  plain : (name : List ℕ) (u next : Either ℕ ℕ) → IsLatch s.circuit name u next → (IsEnabled s.circuit u → ⊥) → s.class u ≡ 0
  plain name u next latch off = absurd (off (hold_enabled s joined_same single once name u next latch (all name u next latch)))

  -- and not always 1
  pub not_always : (before : List (Either ℕ ℕ)) (name : List ℕ) (u next : Either ℕ ℕ) → IsLatch s.circuit name u next → (k : ℕ) → k < 1 → DiffersFromMember s before k u
  not_always before name u next latch zero h = sometimes_off s joined_same single once all name u next latch
  not_always before name u next latch (suc k) h = absurd (omega (arith, h))

  pub left_first : s.class (Left 2) ≡ 1 → IsInFirstClass s [] (Left 2)
  left_first one = record {
    not_past_next = omega (arith, one);
    joins = λ l. absurd (omega (arith, l, one));
    not_earlier = λ k h. not_always [] (codes "q") (Left 2) (Left 3) left_latch k (let l : k < 1 = omega (arith, h, one) in l);
  }

  pub map_none : IsMapSoFar s [] (Left 2 ∷ Right 2 ∷ [])
  map_none = record { is_order = order; plain = plain; each = λ before after v e. each_split (IsInFirstClass s) [] tt before after v e }

  pub map_one : s.class (Left 2) ≡ 1 → IsMapSoFar s (Left 2 ∷ []) (Right 2 ∷ [])
  map_one one = record { is_order = order; plain = plain; each = λ before after v e. each_split (IsInFirstClass s) (Left 2 ∷ []) (left_first one, tt) before after v e }

  -- the first of them founds class 1
  pub founds_first : IsFirstFit s [] (Left 2) 1
  founds_first = record { not_past_next = omega arith; joins = λ l. absurd (omega (arith, l)); not_earlier = λ k h. not_always [] (codes "q") (Left 2) (Left 3) left_latch k h }

  -- latches that load under one input have equal enables
  pub equal : left.i ≡ right.i → EnablesEqual s (Left 2) (Right 2)
  equal e bits x y cx cy ax ay =
      hold_enable_is s joined_same single once (codes "q") (Left 2) (Left 3) left_latch left bits [] x ax
      ∙ (ap (λ (k : ℕ). bits k []) e ∙ sym (hold_enable_is s joined_same single once (codes "q") (Right 2) (Right 3) right_latch right bits [] y ay))

  pub equals_members : left.i ≡ right.i → (u : Either ℕ ℕ) → Contains (Left 2 ∷ []) u → s.class u ≡ 1 → EnablesEqual s u (Right 2)
  equals_members e u h class_is = subst (λ (v : Either ℕ ℕ). EnablesEqual s v (Right 2)) (only (Left 2) u h) (equal e)

  -- and the second joins
  pub joins_first : left.i ≡ right.i → IsFirstFit s (Left 2 ∷ []) (Right 2) 1
  joins_first e = record { not_past_next = omega arith; joins = λ l. equals_members e; not_earlier = λ k h. not_always (Left 2 ∷ []) (codes "q") (Right 2) (Right 3) right_latch k h }

  pub map_two : left.i ≡ right.i → s.class (Left 2) ≡ 1 → s.class (Right 2) ≡ 1 → IsMapSoFar s (Left 2 ∷ Right 2 ∷ []) []
  map_two e one other = record { is_order = order; plain = plain; each = λ before after v e. each_split (IsInFirstClass s) (Left 2 ∷ Right 2 ∷ []) (left_first one, (second, tt)) before after v e }
    where
      second : IsInFirstClass s (Left 2 ∷ []) (Right 2)
      second = record {
        not_past_next = omega (arith, other);
        joins = λ l. subst (λ (m : ℕ). EqualsMembers s (Left 2 ∷ []) m (Right 2)) (sym other) (equals_members e);
        not_earlier = λ k h. not_always (Left 2 ∷ []) (codes "q") (Right 2) (Right 3) right_latch k (let l : k < 1 = omega (arith, h, other) in l);
      }

  -- the enable is the variable of its input at the root, and has the care 1
  pub function : (w : EventGraphView) (name : List ℕ) (u next : Either ℕ ℕ) → IsLatch s.circuit name u next → (h : IsHold s u next) (lit v : ℕ) → slice_get (named_places w) v ≡ Some (h.i, []) → ((a : ℕ → Bool) → value w.graph a lit ≡ a v) → ((a : ℕ → Bool) → value w.graph a 1 ≡ true) → lit < 2 * length w.graph → 1 < 2 * length w.graph →
      IsEnableFunction s w u lit 1
  function w name u next latch h lit v at is one inside few = record {
    enable_within = inside;
    care_within = few;
    enable_is = λ bits a takes. subst (IsEnable s (IsEnabled s.circuit) bits u []) (sym (is a ∙ takes v (h.i, []) at)) (hold_enable s joined_same single once name u next latch h bits []);
    care_is = λ bits a takes. (λ e. enable_care s joined_same single once all bits u, λ c. one a);
  }
