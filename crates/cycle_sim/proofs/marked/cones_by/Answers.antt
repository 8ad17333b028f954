-- One latch more has the parts of its cone.
use Rattle.std.proofs.Common.{◌≡◌, ◌∙◌, ℕ, true, false, List, [], ◌∷◌, ◌++◌, length, get_or, slice_get, Some, ap, subst, arith, length-append, inl, inr, ◌⊎◌}
use Rattle.std.proofs.lemmas.Option.{get_or_from_slice_get, slice_get_within}
use Rattle.flat_net.specs.declared.parts.LatchAt.{LatchAt}
use Rattle.flat_net.proofs.Growth.{slice_get-push_cases}
use Rattle.signal_graph.specs.declared.inner_cone.parts.InnerParts.{InnerParts}
use Rattle.signal_graph.specs.inner_cone.Sides.{AreSides}
use Rattle.signal_graph.specs.inner_cone.Gates.{AreInnerGates}
use Rattle.cycle_sim.proofs.marked.cones_by.Goals as goal

pub overflow_cast-j : goal.overflow_cast-j
overflow_cast-j c = let s = c.keeps.ensures.sound in omega (arith, c.loop-j-test.true, c.requires.enabled, s.few_latches, s.few)

pub loop-j-init : goal.loop-j-init
loop-j-init c =
    let size = ap length c.in_ok-cones.ensures.items in record {
      each = size;
      sides = λ k m cone at bit there. absurd (omega (arith, size, slice_get_within c.in_ok-cones.cones.items k cone there));
      gates = λ k m cone at bit there. absurd (omega (arith, size, slice_get_within c.in_ok-cones.cones.items k cone there));
    }

pub loop-j-preserved : goal.loop-j-preserved
loop-j-preserved c =
    let made = c.in_ok-cone_where.field-0 in
    let grown : c.push.new.self.items ≡ c.loop-j.cones.items ++ made ∷ [] = c.in_ok-push.ensures.items in
    let size = ap length grown in record {
      each = omega (arith, size, length-append c.loop-j.cones.items (made ∷ []), c.loop-j.invariant.each);
      sides = λ k m cone at bit there. sides k m cone at bit (slice_get-push_cases c.loop-j.cones.items made k cone (subst (λ (z : List InnerParts). slice_get z k ≡ Some cone) grown there));
      gates = λ k m cone at bit there. gates k m cone at bit (slice_get-push_cases c.loop-j.cones.items made k cone (subst (λ (z : List InnerParts). slice_get z k ≡ Some cone) grown there));
    }
  where
    asked : (k : ℕ) → slice_get c.args.enabled.now k ≡ Some true → k ≡ c.loop-j.j → get_or c.args.enabled.now c.loop-j.j false ≡ true
    asked k bit place = subst (λ z. get_or c.args.enabled.now z false ≡ true) place (get_or_from_slice_get c.args.enabled.now k true false bit)

    sides : (k : ℕ) (m : LatchAt) (cone : InnerParts) → slice_get c.args.net.now.latches k ≡ Some m → slice_get c.args.enabled.now k ≡ Some true →
        (slice_get c.loop-j.cones.items k ≡ Some cone) ⊎ ((k ≡ length c.loop-j.cones.items) × (c.in_ok-cone_where.field-0 ≡ cone)) → AreSides c.args.net.now m.next.0 m.out.0 cone.sides
    sides k m cone at bit (inl h) = c.loop-j.invariant.sides k m cone at bit h
    sides k m cone at bit (inr h) =
        let place : k ≡ c.loop-j.j = h.0 ∙ c.loop-j.invariant.each in
        subst (λ (z : InnerParts). AreSides c.args.net.now m.next.0 m.out.0 z.sides) h.1 (c.in_ok-cone_where.ensures.sides (asked k bit place) m (subst (λ z. slice_get c.args.net.now.latches z ≡ Some m) place at))

    gates : (k : ℕ) (m : LatchAt) (cone : InnerParts) → slice_get c.args.net.now.latches k ≡ Some m → slice_get c.args.enabled.now k ≡ Some true →
        (slice_get c.loop-j.cones.items k ≡ Some cone) ⊎ ((k ≡ length c.loop-j.cones.items) × (c.in_ok-cone_where.field-0 ≡ cone)) → AreInnerGates c.args.net.now m cone.gates
    gates k m cone at bit (inl h) = c.loop-j.invariant.gates k m cone at bit h
    gates k m cone at bit (inr h) =
        let place : k ≡ c.loop-j.j = h.0 ∙ c.loop-j.invariant.each in
        subst (λ (z : InnerParts). AreInnerGates c.args.net.now m z.gates) h.1 (c.in_ok-cone_where.ensures.gates (asked k bit place) m (subst (λ z. slice_get c.args.net.now.latches z ≡ Some m) place at))
