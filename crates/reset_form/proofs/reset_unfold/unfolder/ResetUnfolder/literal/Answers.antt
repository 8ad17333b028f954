-- What drives the signal says which literal its place has.
use Rattle.std.proofs.Common.{◌∙◌, ℕ, List, length, get_or, slice_get, Some, sym, ap, subst, arith, ◌*◌, ◌<◌, IfOk}
use Rattle.std.specs.List.{Contains}
use Rattle.std.proofs.lemmas.Option.{slice_get_within, slice_get-get_or}
use Rattle.flat_net.specs.declared.parts.Driver.TheVariants as driver
use Rattle.flat_net.specs.View.{NetView, circuit_of}
use Rattle.flat_net.specs.Sound.{IsSound}
use Rattle.aig.specs.declared.node.Lit.{Lit}
use Rattle.flat_net.specs.Weights.{driver_weight, gate_weight, weight_at}
use Rattle.cbf_unfold.specs.unfold_places.Places.{Steps}
use Rattle.cbf_unfold.specs.unfold_places.Reach.{IsMet}
use Rattle.cbf_unfold.specs.unfold_places.Literals.{IsGateLit}
use Rattle.flat_net.proofs.Drivers.{driven_gate}
use Rattle.cbf_unfold.proofs.unfold_places.Growing.{gate_grown, grown_as}
use Rattle.cbf_unfold.proofs.unfold_places.PlaceLits.{gate_met, gate_counts}
use Rattle.reset_form.proofs.reset_unfold.PlaceLits.{input_is, gate_is}
use Rattle.reset_form.proofs.reset_unfold.unfolder.ResetUnfolder.literal.Goals as goal

pub bounds-order-i : goal.bounds-order-i
bounds-order-i c =
    let u = c.args.self.now in
    let sound : IsSound u.net = subst IsSound c.net-net.ensures c.keeps.ensures.sound in
    let drives = ap (λ (n : NetView). slice_get n.drivers c.args.place.1) (sym c.net-net.ensures) ∙ c.driver.ensures ∙ ap Some c.in-Input.is in
    let port = sound.drivers c.args.place.1 (driver.Input c.in-Input.i) drives in
    let inside = slice_get_within u.net.inputs c.in-Input.i port.0 port.1 in
    omega (arith, inside, c.keeps-2.ensures.unfolder.order.each, ap length c.order.ensures)

pub variable-requires-clause-nodes : goal.variable-requires-clause-nodes
variable-requires-clause-nodes c =
    let u = c.args.self.now in
    let drives = ap (λ (n : NetView). slice_get n.drivers c.args.place.1) (sym c.net-net.ensures) ∙ c.driver.ensures ∙ ap Some c.in-Input.is in
    let counts = ap (driver_weight u.net) drives in
    omega (arith, counts, c.requires.nodes)

pub gate_literal-requires-clause-gate : goal.gate_literal-requires-clause-gate
gate_literal-requires-clause-gate c =
    let n = c.net-net.result.now in
    let g = driven_gate n c.keeps.ensures.sound c.args.place.1 c.in-Gate.j (c.driver.ensures ∙ ap Some c.in-Gate.is) in
    slice_get_within n.gates c.in-Gate.j g.0 g.1

pub gate_literal-requires-clause-met : goal.gate_literal-requires-clause-met
gate_literal-requires-clause-met c =
    let n = c.net-net.result.now in
    let u = c.args.self.now in
    gate_met n c.keeps.ensures.sound c.args.place c.in-Gate.j (c.driver.ensures ∙ ap Some c.in-Gate.is) c.memo.result.now
    (subst (λ (m : List ((ℕ × ℕ) × Lit)). (q : ℕ × ℕ) → Steps (circuit_of n) c.args.place q → IsMet m q) (sym c.memo.ensures)
    (subst (λ (k : NetView). (q : ℕ × ℕ) → Steps (circuit_of k) c.args.place q → IsMet u.memo q) (sym c.net-net.ensures) c.requires.ready.read))

pub gate_literal-requires-clause-within : goal.gate_literal-requires-clause-within
gate_literal-requires-clause-within c =
    subst (λ (m : List ((ℕ × ℕ) × Lit)). (p : ℕ × ℕ) (x : Lit) → Contains m (p, x) → x.0 < 2 * length c.args.aig.now) (sym c.memo.ensures) (λ p x h. (c.requires.known p x h).within)

pub gate_literal-requires-clause-nodes : goal.gate_literal-requires-clause-nodes
gate_literal-requires-clause-nodes c =
    let n = c.net-net.result.now in
    let counts = gate_counts n c.keeps.ensures.sound c.args.place c.in-Gate.j (c.driver.ensures ∙ ap Some c.in-Gate.is) in
    let same = ap (λ (k : NetView). weight_at k c.args.place.1) c.net-net.ensures in
    omega (arith, counts, same, c.requires.nodes)

pub latch_literal-requires-clause-drives : goal.latch_literal-requires-clause-drives
latch_literal-requires-clause-drives c = ap (λ (n : NetView). slice_get n.drivers c.args.place.1) (sym c.net-net.ensures) ∙ c.driver.ensures ∙ ap Some c.in-Latch.is

pub latch_literal-requires-clause-nodes : goal.latch_literal-requires-clause-nodes
latch_literal-requires-clause-nodes c =
    let u = c.args.self.now in
    let drives = ap (λ (n : NetView). slice_get n.drivers c.args.place.1) (sym c.net-net.ensures) ∙ c.driver.ensures ∙ ap Some c.in-Latch.is in
    let counts = ap (driver_weight u.net) drives in
    omega (arith, counts, c.requires.nodes)

pub returns-in-Input : goal.returns-in-Input
returns-in-Input c =
    let u = c.args.self.now in
    let sound : IsSound u.net = subst IsSound c.net-net.ensures c.keeps.ensures.sound in
    let drives = ap (λ (n : NetView). slice_get n.drivers c.args.place.1) (sym c.net-net.ensures) ∙ c.driver.ensures ∙ ap Some c.in-Input.is in
    let port = sound.drivers c.args.place.1 (driver.Input c.in-Input.i) drives in
    let few = slice_get_within u.net.inputs c.in-Input.i port.0 port.1 in
    let inside : c.in-Input.i < length c.order.result.now = omega (arith, few, c.keeps-2.ensures.unfolder.order.each, ap length c.order.ensures) in
    let number = get_or c.order.result.now c.in-Input.i 0 in
    let at = ap (λ (l : List ℕ). slice_get l c.in-Input.i) (sym c.order.ensures) ∙ slice_get-get_or c.order.result.now c.in-Input.i 0 inside in
    record {
      known = input_is u sound c.args.place c.in-Input.i number c.variable.new.aig c.variable.new.places c.variable.result drives at c.variable.ensures.here;
      grown = grown_as c.args.aig.now c.variable.new.aig c.args.places.now c.variable.new.places 1 (weight_at u.net c.args.place.1) (ap (driver_weight u.net) drives) c.variable.ensures.grown;
    }

pub returns-in-Gate : goal.returns-in-Gate
returns-in-Gate c =
    let n = c.net-net.result.now in
    let u = c.args.self.now in
    let sound : IsSound u.net = subst IsSound c.net-net.ensures c.keeps.ensures.sound in
    let drives = ap (λ (k : NetView). slice_get k.drivers c.args.place.1) (sym c.net-net.ensures) ∙ c.driver.ensures ∙ ap Some c.in-Gate.is in
    let counts = gate_counts n c.keeps.ensures.sound c.args.place c.in-Gate.j (c.driver.ensures ∙ ap Some c.in-Gate.is) in
    let here =
    subst (λ (k : NetView). IfOk c.gate_literal.result (λ x. IsGateLit k u.memo c.args.place.0 c.in-Gate.j c.gate_literal.new.aig x.0)) c.net-net.ensures
    (subst (λ (m : List ((ℕ × ℕ) × Lit)). IfOk c.gate_literal.result (λ x. IsGateLit n m c.args.place.0 c.in-Gate.j c.gate_literal.new.aig x.0)) c.memo.ensures c.gate_literal.ensures.here) in
    record {
      known = gate_is u sound c.args.place c.in-Gate.j c.args.aig.now c.gate_literal.new.aig c.args.places.now c.gate_literal.result drives c.requires.known c.gate_literal.ensures.grows here;
      grown = gate_grown c.args.aig.now c.gate_literal.new.aig c.args.places.now (gate_weight n.covers (slice_get n.gates c.in-Gate.j)) (weight_at u.net c.args.place.1) (ap (λ (k : NetView). weight_at k c.args.place.1) (sym c.net-net.ensures) ∙ counts)
          c.gate_literal.ensures.grows c.gate_literal.ensures.few;
    }

pub returns-in-Latch : goal.returns-in-Latch
returns-in-Latch c =
    let u = c.args.self.now in
    let drives = ap (λ (n : NetView). slice_get n.drivers c.args.place.1) (sym c.net-net.ensures) ∙ c.driver.ensures ∙ ap Some c.in-Latch.is in
    record {
      known = c.latch_literal.ensures.known;
      grown = grown_as c.args.aig.now c.latch_literal.new.aig c.args.places.now c.latch_literal.new.places 1 (weight_at u.net c.args.place.1) (ap (driver_weight u.net) drives) c.latch_literal.ensures.grown;
    }
