-- The literal of a care is 1 in exactly the frames that have care.
use Rattle.std.proofs.Common.{◌≡◌, ◌∙◌, ℕ, Bool, true, false, List, [], ◌∷◌, Some, None, refl, sym, ap, subst, arith, inl, inr}
use Rattle.std.specs.Prelude.{◌⊎◌, ◌↔◌, ◌&&◌}
use Rattle.std.specs.List.{Contains}
use Rattle.circuit_theory.specs.Circuit.{IsLatch}
use Rattle.circuit_theory.proofs.Lists.{Contains-head, Contains-tail, Contains-cases}
use Rattle.circuit_theory.proofs.Numbers.{one_number}
use Rattle.circuit_theory.specs.Frame.{IsEnable, ConeLatches, ConeOthers, ReachedAt, HasCare}
use Rattle.circuit_theory.specs.EventSizes.{Start}
use Rattle.circuit_laws.proofs.event_laws.EventTrees.{one_enable}
use Rattle.edbf_unfold.specs.event_literals.Sound.{IsSound}
use Rattle.edbf_unfold.specs.event_literals.View.{circuit_of}
use Rattle.edbf_unfold.proofs.event_literals.Nets.{sound_is_net}
use Rattle.event_nodes.specs.Node.{Node}
use Rattle.event_nodes.specs.Graph.{IsGraph}
use Rattle.event_nodes.specs.Values.{value}
use Rattle.event_nodes.proofs.CoverMeaning.{value-and, value-one}
use Rattle.event_nodes.specs.Nodes.{EventGraphView, IsEventGraph}
use Rattle.event_nodes.specs.View.{EventCircuitView, IsEventCircuit, side_of, Enabled}
use Rattle.event_nodes.specs.Reach.{IsBegun}
use Rattle.edbf_unfold.specs.Care.{IsEnableOnward, IsAndOfAll, IsCareLit}
use Rattle.edbf_unfold.specs.Laws.{TakesFrame, CareLiteralIsCare}
use Rattle.event_nodes.proofs.Bits.{kind_of}
use Rattle.event_nodes.proofs.flat_net.Drivers.{latch_next, latch_equation_stands}
use Rattle.edbf_unfold.proofs.EventLiterals.{enable_value}

both_true : (b c : Bool) → b && c ≡ true → (b ≡ true) × (c ≡ true)
both_true true c h = (refl, h)
both_true false c h = absurd (no h)
  where
    no : false ≡ true → ⊥
    no q = cc

module _ (g : List Node) (graph : IsGraph g) (a : ℕ → Bool) where
  -- the and of literals is 1 exactly where each of them is
  all_true : (ys : List ℕ) (x : ℕ) → IsAndOfAll g ys x → value g a x ≡ true → (y : ℕ) → Contains ys y → value g a y ≡ true
  all_true [] x h one y k = absurd (omega (arith, k.1))
  all_true (z ∷ ys) x h one y k = pick (both_true (value g a h.0) (value g a z) (sym (value-and g graph a h.0 z x h.2) ∙ one)) (Contains-cases z y ys k) (λ e m. all_true ys h.0 h.1 e y m)
    where
      pick : (value g a h.0 ≡ true) × (value g a z ≡ true) → (z ≡ y) ⊎ Contains ys y → (value g a h.0 ≡ true → Contains ys y → value g a y ≡ true) → value g a y ≡ true
      pick both (inl e) later = ap (value g a) (sym e) ∙ both.1
      pick both (inr m) later = later both.0 m

  true_all : (ys : List ℕ) (x : ℕ) → IsAndOfAll g ys x → ((y : ℕ) → Contains ys y → value g a y ≡ true) → value g a x ≡ true
  true_all [] x h each = ap (value g a) h ∙ value-one g graph a
  true_all (z ∷ ys) x h each =
      value-and g graph a h.0 z x h.2
      ∙ (ap (λ (b : Bool). b && value g a z) (true_all ys h.0 h.1 (λ y m. each y (Contains-tail z y ys m))) ∙ each z (Contains-head z ys))

module _ (e : EventCircuitView) (w : EventGraphView) (sound : IsSound e.net) (circuit : IsEventCircuit e) (is : IsEventGraph w) (bits : ℕ → List ℕ → Bool) (a : ℕ → Bool) (fits : TakesFrame w bits a) where
  -- the enable of a latch at the child by its class has its literal's value
  onward_value : (node : List ℕ) (v lit : ℕ) → IsEnableOnward e w node v lit → IsEnable (side_of e) (Enabled e) bits v ((side_of e).class v ∷ node) (value w.graph a lit)
  onward_value node v lit k =
      subst (λ (u : ℕ). IsEnable (side_of e) (Enabled e) bits u ((side_of e).class v ∷ node) (value w.graph a lit)) k.out
      (enable_value e w ((side_of e).class v ∷ node) k.position k.latch lit sound is k.at (subst (Enabled e) (sym k.out) k.enabled) k.enable bits a fits)

  -- what starts at one of two is reached from the other too
  reached_from : (S T : ℕ → Type 0) → ((v : ℕ) → S v → T v) → (node : List ℕ) (v : ℕ) → ReachedAt (side_of e) (Enabled e) S node v → ReachedAt (side_of e) (Enabled e) T node v
  reached_from S T to [] v r = to v r
  reached_from S T to (k ∷ node) v r = (r.0, reached_from S T to node r.0 r.1, r.2, r.3)

  module _ (x : Start ℕ) (lit : ℕ) (care : IsCareLit e w x lit) where
    abbrev Cared : Type 0
    Cared = HasCare (side_of e) (Enabled e) (IsBegun (circuit_of e.net) x) bits

    -- what is reached is a latch
    latch_of : (node : List ℕ) (v : ℕ) → ReachedAt (side_of e) (Enabled e) (IsBegun (circuit_of e.net) x) node v → (name : List ℕ) × (next : ℕ) × IsLatch (circuit_of e.net) name v next
    latch_of [] v r = let cone = r.0 in (cone.0, cone.1, cone.2)
    latch_of (k ∷ node) v r = let cone = r.3.3 in (cone.0, cone.1, cone.2)

    to_care : value w.graph a lit ≡ true → Cared
    to_care one node v r = go (kind_of e sound circuit (latch_of node v r).0 v (latch_of node v r).1 (latch_of node v r).2)
      where
        go : Enabled e v ⊎ (Enabled e v → ⊥) → IsEnable (side_of e) (Enabled e) bits v ((side_of e).class v ∷ node) true
        go (inr off) = IsEnable.always off refl
        go (inl on) =
            let y = care.all node v r on in
            subst (IsEnable (side_of e) (Enabled e) bits v ((side_of e).class v ∷ node)) (all_true w.graph is.is_graph a care.enables lit care.is one y.0 y.1) (onward_value node v y.0 y.2)

    from_care : Cared → value w.graph a lit ≡ true
    from_care has = true_all w.graph is.is_graph a care.enables lit care.is (λ y h. at_place y (care.each y h))
      where
        at_place : (y : ℕ) → (path : List ℕ) × (v : ℕ) × ReachedAt (side_of e) (Enabled e) (IsBegun (circuit_of e.net) x) path v × IsEnableOnward e w path v y → value w.graph a y ≡ true
        at_place y k =
            one_enable (side_of e) (Enabled e) (sound_is_net e.net sound).single (λ p m n h g. one_number (circuit_of e.net).inputs e.order (sound_is_net e.net sound).inputs p m n h g) bits k.1
            ((side_of e).class k.1 ∷ k.0) (value w.graph a y) true (onward_value k.0 k.1 y k.3) (has k.0 k.1 k.2)

    pub care_meaning : (T : ℕ → Type 0) → ((v : ℕ) → T v → IsBegun (circuit_of e.net) x v) → ((v : ℕ) → IsBegun (circuit_of e.net) x v → T v) → (value w.graph a lit ≡ true) ↔ HasCare (side_of e) (Enabled e) T bits
    care_meaning T to back = (
      λ one node v r. to_care one node v (reached_from T (IsBegun (circuit_of e.net) x) to node v r),
      λ has. from_care (λ node v r. has node v (reached_from (IsBegun (circuit_of e.net) x) T back node v r)),
    )

pub care_value : CareLiteralIsCare
care_value e w lit sound circuit is bits a fits = (
  λ s care. care_meaning e w sound circuit is bits a fits (record { place = s; left_out = None }) lit care (ConeLatches (circuit_of e.net) s) (λ v h. (h, tt)) (λ v h. h.0),
  λ j l at on care.
      let owner = (sound.latches j l at).owner in
      care_meaning e w sound circuit is bits a fits (record { place = l.next.0; left_out = Some l.out.0 }) lit care (ConeOthers (circuit_of e.net) (Enabled e) l.out.0)
      (λ v h. (subst (λ (q : ℕ). ConeLatches (circuit_of e.net) q v) (sym (latch_next e.net sound l.out.0 j owner l at h.0 h.1 h.2)) h.3, h.4 on))
      (λ v h. (l.name, l.next.0, latch_equation_stands e.net sound l.out.0 j owner l at, h.0, λ en. h.1)),
)
