-- The care of an enable is the same where its circuit stands beside another.
use Rattle.std.proofs.Common.{◌≡◌, ◌∙◌, ℕ, Bool, true, false, List, [], ◌∷◌, ◌++◌, length, refl, sym, ap, subst}
use Rattle.std.specs.Prelude.{◌↔◌}
use Rattle.circuit_theory.specs.Circuit.{Circuit, IsLatch, Meets}
use Rattle.circuit_theory.specs.Joined.{Either, Left, Right, joined, beside}
use Rattle.circuit_theory.specs.Net.{IsNet}
use Rattle.circuit_theory.specs.Run.{IsEnabled}
use Rattle.circuit_laws.proofs.NetLaws.{net_value, net_value-extends}
use Rattle.circuit_laws.proofs.Parts.{IsPart, latch_up, latch_from, reaches_up, reaches_from, enabled_up, enabled_from}
use Rattle.circuit_laws.proofs.JoinedParts.{left_part, right_part, replace_left, replace_right, meets_both}
use Rattle.circuit_theory.specs.Frame.{EventSide, ConeLatches, ConeOthers, ReachedAt, IsEnable}
use Rattle.circuit_theory.specs.Classes.{EnableCare}
use Rattle.circuit_theory.specs.EventFits.{side_by_side}
use Rattle.edbf_unfold.proofs.SideTrees.{sides_unfold_in_nets}

module _ {P R : Type 0} (c : Circuit P) (j : Circuit R) (f : P → R) (replace : (R → Bool) → (P → Bool) → R → Bool) (part : IsPart c j f replace) (some : R → Bool) (meets : Meets j some) (order orders : List ℕ) (class : R → ℕ) where
  abbrev own : EventSide P
  own = record { circuit = c; order = order; class = λ p. class (f p) }

  abbrev whole : EventSide R
  whole = record { circuit = j; order = orders; class = class }

  module _ (enables : (bits : ℕ → List ℕ → Bool) (u : P) (node : List ℕ) (bit : Bool) → IsEnable own (IsEnabled c) bits u node bit ↔ IsEnable whole (IsEnabled j) bits (f u) node bit) where
    on_up : (u : P) → IsEnabled c u → IsEnabled j (f u)
    on_up u = enabled_up c j f replace part u

    on_from : (u : P) → IsEnabled j (f u) → IsEnabled c u
    on_from u = enabled_from c j f replace part some meets u

    cone_from : (p : P) (r : R) → ConeLatches j (f p) r → (v : P) × (f v ≡ r) × ConeLatches c p v
    cone_from p r cone =
        let v = reaches_from c j f replace part cone.3 p refl in
        let l = latch_from c j f replace part cone.0 v.0 cone.1 (subst (λ (s : R). IsLatch j cone.0 s cone.1) (sym v.1) cone.2) in
        (v.0, v.1, (cone.0, l.0, l.1, v.2))

    cone_up : (p v : P) → ConeLatches c p v → ConeLatches j (f p) (f v)
    cone_up p v cone = (cone.0, f cone.1, latch_up c j f replace part cone.0 v cone.1 cone.2, reaches_up c j f replace part cone.3)

    others_from : (u : P) (r : R) → ConeOthers j (IsEnabled j) (f u) r → (v : P) × (f v ≡ r) × ConeOthers c (IsEnabled c) u v
    others_from u r others =
        let l = latch_from c j f replace part others.0 u others.1 others.2 in
        let v = cone_from l.0 r (subst (λ (s : R). ConeLatches j s r) (sym l.2) others.3) in
        (v.0, v.1, (others.0, l.0, l.1, v.2, λ on e. others.4 (on_up u on) (sym v.1 ∙ ap f e)))

    others_up : (u v : P) → ConeOthers c (IsEnabled c) u v → ConeOthers j (IsEnabled j) (f u) (f v)
    others_up u v others = (others.0, f others.1, latch_up c j f replace part others.0 u others.1 others.2, cone_up others.1 v others.3, λ on e. others.4 (on_from u on) (part.one v u e))

    reached_from : (u : P) (node : List ℕ) (r : R) → ReachedAt whole (IsEnabled j) (ConeOthers j (IsEnabled j) (f u)) node r → (v : P) × (f v ≡ r) × ReachedAt own (IsEnabled c) (ConeOthers c (IsEnabled c) u) node v
    reached_from u [] r h = others_from u r h
    reached_from u (k ∷ node) r h =
        let t = reached_from u node h.0 h.1 in
        let v = others_from t.0 r (subst (λ (s : R). ConeOthers j (IsEnabled j) s r) (sym t.1) h.3) in
        (v.0, v.1, (t.0, t.2, ap class t.1 ∙ h.2, v.2))

    reached_up : (u : P) (node : List ℕ) (v : P) → ReachedAt own (IsEnabled c) (ConeOthers c (IsEnabled c) u) node v → ReachedAt whole (IsEnabled j) (ConeOthers j (IsEnabled j) (f u)) node (f v)
    reached_up u [] v h = others_up u v h
    reached_up u (k ∷ node) v h = (f h.0, reached_up u node h.0 h.1, h.2, others_up h.0 v h.3)

    pub enable_care_same : (u : P) (bits : ℕ → List ℕ → Bool) → EnableCare own bits u ↔ EnableCare whole bits (f u)
    enable_care_same u bits = (
      λ care node r h. let v = reached_from u node r h in subst (λ (s : R). IsEnable whole (IsEnabled j) bits s (class s ∷ node) true) v.1 ((enables bits v.0 (class (f v.0) ∷ node) true).0 (care node v.0 v.2)),
      λ care node v h. (enables bits v (class (f v) ∷ node) true).1 (care node (f v) (reached_up u node v h)),
    )

module _ (a b : Circuit ℕ) (m n : ℕ) (na : IsNet a m) (nb : IsNet b n) (left right : List ℕ) (long : length left ≡ length a.inputs) (class : Either ℕ ℕ → ℕ) where
  some : Either ℕ ℕ → Bool
  some = beside (net_value a (λ p. false)) (net_value b (λ q. false))

  meets : Meets (joined a b) some
  unfolding some
  meets = meets_both a b (net_value a (λ p. false)) (net_value b (λ q. false)) (net_value-extends a m na (λ p. false)).meets (net_value-extends b n nb (λ q. false)).meets

  pub left_enable_care : (u : ℕ) (bits : ℕ → List ℕ → Bool) → EnableCare (record { circuit = a; order = left; class = λ p. class (Left p) }) bits u ↔ EnableCare (side_by_side a b left right class) bits (Left u)
  left_enable_care = enable_care_same a (joined a b) Left (replace_left a b) (left_part a b) some meets left (left ++ right) class (sides_unfold_in_nets a b m n left right class na nb long).0.enables

  pub right_enable_care : (u : ℕ) (bits : ℕ → List ℕ → Bool) → EnableCare (record { circuit = b; order = right; class = λ q. class (Right q) }) bits u ↔ EnableCare (side_by_side a b left right class) bits (Right u)
  right_enable_care = enable_care_same b (joined a b) Right (replace_right a b) (right_part a b) some meets right (left ++ right) class (sides_unfold_in_nets a b m n left right class na nb long).1.enables

  pub left_enable : (bits : ℕ → List ℕ → Bool) (u : ℕ) (node : List ℕ) (bit : Bool) → IsEnable (record { circuit = a; order = left; class = λ p. class (Left p) }) (IsEnabled a) bits u node bit → IsEnable (side_by_side a b left right class) (IsEnabled (joined a b)) bits (Left u) node bit
  left_enable bits u node bit = ((sides_unfold_in_nets a b m n left right class na nb long).0.enables bits u node bit).0

  pub right_enable : (bits : ℕ → List ℕ → Bool) (u : ℕ) (node : List ℕ) (bit : Bool) → IsEnable (record { circuit = b; order = right; class = λ q. class (Right q) }) (IsEnabled b) bits u node bit → IsEnable (side_by_side a b left right class) (IsEnabled (joined a b)) bits (Right u) node bit
  right_enable bits u node bit = ((sides_unfold_in_nets a b m n left right class na nb long).1.enables bits u node bit).0
