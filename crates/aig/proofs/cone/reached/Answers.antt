use Rattle.std.proofs.Common.{◌≡◌, ℕ, ◌+◌, ◌/◌, ◌<◌, ◌*◌, ◌⊎◌, inl, inr, List, length, map, get_or, slice_get, Some, Contains, arith, sym, ap, subst, ◌∙◌}
use Rattle.std.proofs.lemmas.Option.{slice_get-get_or, slice_get_within, same_Some}
use Rattle.sec_base.proofs.circuit_theory.Lists.{Contains-map, of_at}
use Rattle.aig.specs.declared.node.Lit.{Lit}
use Rattle.aig.specs.declared.node.Node.{Node}
use Rattle.aig.specs.Cone.{IsReached, IsSeen, with_number}
use Rattle.aig.proofs.ConeWalks.{seen-none, seen-number, walk-begun, with_number-has, with_number-keeps}
use Rattle.aig.proofs.cone.reached.Goals as goal

pub loop-i-init : goal.loop-i-init
loop-i-init c = record {
  sound = subst (IsSeen c.args.nodes.now (map (λ x. x.0) c.args.roots.now)) (sym c.new-seen.ensures) (seen-none c.args.nodes.now (map (λ x. x.0) c.args.roots.now));
  rooted = λ j x below at. absurd (omega arith);
}

-- one root more
root-step : (g : List Node) (roots : List Lit) (seen new : List ℕ) (i : ℕ) (l : Lit) → slice_get roots i ≡ Some l → l.0 < 2 * length g → new ≡ with_number seen (l.0 / 2) → IsSeen g (map (λ x. x.0) roots) seen
    → ((j : ℕ) (x : Lit) → j < i → slice_get roots j ≡ Some x → Contains seen (x.0 / 2)) → IsSeen g (map (λ x. x.0) roots) new × ((j : ℕ) (x : Lit) → j < i + 1 → slice_get roots j ≡ Some x → Contains new (x.0 / 2))
root-step g roots seen new i l here small is sound rooted =
    let reach : IsReached g (map (λ x. x.0) roots) (l.0 / 2) = IsReached.root l.0 (Contains-map (λ x. x.0) roots l (of_at roots i l here)) in
    (subst (IsSeen g (map (λ x. x.0) roots)) (sym is) (seen-number g (map (λ x. x.0) roots) seen (l.0 / 2) sound (omega arith) reach), λ j x below at. subst (λ (s : List ℕ). Contains s (x.0 / 2)) (sym is) (by j x (before j below) at))
  where
    before : (j : ℕ) → j < i + 1 → (j < i) ⊎ (j ≡ i)
    before j below = grind arith

    by : (j : ℕ) (x : Lit) → (j < i) ⊎ (j ≡ i) → slice_get roots j ≡ Some x → Contains (with_number seen (l.0 / 2)) (x.0 / 2)
    by j x (inl below) at = with_number-keeps seen (l.0 / 2) (x.0 / 2) (rooted j x below at)
    by j x (inr e) at =
        let one : l ≡ x = same_Some l x (sym here ∙ ap (slice_get roots) (sym e) ∙ at) in
        subst (λ (k : Lit). Contains (with_number seen (l.0 / 2)) (k.0 / 2)) one (with_number-has seen (l.0 / 2))

pub loop-i-preserved : goal.loop-i-preserved
loop-i-preserved c =
    let g = c.args.nodes.now in
    let l = get_or c.args.roots.now c.loop-i.i (record { 0 = 0 }) in
    let here = slice_get-get_or c.args.roots.now c.loop-i.i (record { 0 = 0 }) c.loop-i-test.true in
    let small : (get_or c.args.roots.now c.loop-i.i (record { 0 = 0 })).0 < 2 * length g = c.requires.within c.loop-i.i (record { 0 = 0 }) c.loop-i-test.true in
    let step = root-step g c.args.roots.now c.loop-i.seen c.see.new.seen c.loop-i.i l here small (c.in_ok-see.ensures ∙ ap (with_number c.loop-i.seen) c.node.ensures) c.loop-i.invariant.sound c.loop-i.invariant.rooted in
    record { sound = step.0; rooted = step.1 }

pub walk-requires-clause-begun : goal.walk-requires-clause-begun
walk-requires-clause-begun c =
    (map (λ x. x.0) c.args.roots.now, walk-begun c.args.nodes.now c.args.roots.now c.loop-i.seen c.loop-i.invariant.sound (λ j l at. c.loop-i.invariant.rooted j l (omega (arith, slice_get_within c.args.roots.now j l at, c.loop-i-test.false)) at))

pub returns : goal.returns
returns c =
    let roots = map (λ (x : Lit). x.0) c.args.roots.now in
    c.in_ok-walk.ensures roots (walk-begun c.args.nodes.now c.args.roots.now c.loop-i.seen c.loop-i.invariant.sound (λ j l at. c.loop-i.invariant.rooted j l (omega (arith, slice_get_within c.args.roots.now j l at, c.loop-i-test.false)) at))
