-- What drives the signal says which literal its place has.
use Rattle.std.proofs.Common.{◌≡◌, ◌∙◌, ◌-◌, ℕ, List, length, get_or, slice_get, Some, refl, sym, ap, subst, arith, ◌*◌, ◌<◌, IfOk}
use Rattle.std.specs.List.{Contains}
use Rattle.std.proofs.lemmas.Option.{slice_get_within, slice_get-get_or}
use Rattle.std.proofs.lemmas.Result.{IfOk-weaker}
use Rattle.flat_net.specs.declared.parts.Driver.TheVariants as driver
use Rattle.flat_net.specs.View.{NetView, circuit_of}
use Rattle.flat_net.specs.Sound.{IsSound}
use Rattle.aig.specs.declared.node.Lit.{Lit}
use Rattle.aig.specs.declared.node.Node.{Node}
use Rattle.flat_net.specs.Weights.{driver_weight, gate_weight, weight_at}
use Rattle.cbf_unfold.specs.unfold_places.Places.{Steps}
use Rattle.cbf_unfold.specs.unfold_places.Reach.{IsMet}
use Rattle.cbf_unfold.specs.unfold_places.Growing.{HasGrown}
use Rattle.cbf_unfold.specs.Unfolded.{IsKnown}
use Rattle.cbf_unfold.specs.unfold_places.Literals.{IsGateLit}
use Rattle.flat_net.proofs.Drivers.{driven_gate, driven_latch}
use Rattle.cbf_unfold.proofs.unfold_places.PlaceLits.{gate_met, gate_counts}
use Rattle.cbf_unfold.proofs.PlaceLits.{input_is, gate_is, gate_grown, grown_as, grown_none, latch_met, latch_is}
use Rattle.cbf_unfold.proofs.unfolder.Unfolder.literal.Goals as goal

pub bounds-order-i : goal.bounds-order-i
bounds-order-i c =
    let u = c.args.self.now in
    let sound : IsSound u.net = subst IsSound c.net-net.ensures c.keeps.ensures.sound in
    let drives = ap (λ (n : NetView). slice_get n.drivers c.args.place.1) (sym c.net-net.ensures) ∙ c.driver.ensures ∙ ap Some c.in-Input.is in
    let port = sound.drivers c.args.place.1 (driver.Input c.in-Input.i) drives in
    let inside = slice_get_within u.net.inputs c.in-Input.i port.0 port.1 in
    omega (arith, inside, c.keeps-2.ensures.unfolder.order.each, ap length c.order.ensures)

pub variable-requires-clause-nodes : goal.variable-requires-clause-nodes
variable-requires-clause-nodes c =
    let drives = c.driver.ensures ∙ ap Some c.in-Input.is in
    let counts = ap (driver_weight c.net-net.result.now) drives in
    let same = ap (λ (k : NetView). weight_at k c.args.place.1) c.net-net.ensures in
    omega (arith, counts, same, c.requires.nodes)

pub gate_literal-requires-clause-gate : goal.gate_literal-requires-clause-gate
gate_literal-requires-clause-gate c =
    let n = c.net-net.result.now in
    let g = driven_gate n c.keeps.ensures.sound c.args.place.1 c.in-Gate.j (c.driver.ensures ∙ ap Some c.in-Gate.is) in
    slice_get_within n.gates c.in-Gate.j g.0 g.1

pub gate_literal-requires-clause-met : goal.gate_literal-requires-clause-met
gate_literal-requires-clause-met c =
    let n = c.net-net.result.now in
    let u = c.args.self.now in
    gate_met n c.keeps.ensures.sound c.args.place c.in-Gate.j (c.driver.ensures ∙ ap Some c.in-Gate.is) c.memo.result.now
    (subst (λ (m : List ((ℕ × ℕ) × Lit)). (q : ℕ × ℕ) → Steps (circuit_of n) c.args.place q → IsMet m q) (sym c.memo.ensures)
    (subst (λ (k : NetView). (q : ℕ × ℕ) → Steps (circuit_of k) c.args.place q → IsMet u.memo q) (sym c.net-net.ensures) c.requires.ready.read))

pub gate_literal-requires-clause-within : goal.gate_literal-requires-clause-within
gate_literal-requires-clause-within c =
    subst (λ (m : List ((ℕ × ℕ) × Lit)). (p : ℕ × ℕ) (x : Lit) → Contains m (p, x) → x.0 < 2 * length c.args.aig.now) (sym c.memo.ensures) (λ p x h. (c.requires.known p x h).within)

pub gate_literal-requires-clause-nodes : goal.gate_literal-requires-clause-nodes
gate_literal-requires-clause-nodes c =
    let n = c.net-net.result.now in
    let counts = gate_counts n c.keeps.ensures.sound c.args.place c.in-Gate.j (c.driver.ensures ∙ ap Some c.in-Gate.is) in
    let same = ap (λ (k : NetView). weight_at k c.args.place.1) c.net-net.ensures in
    omega (arith, counts, same, c.requires.nodes)

pub latch_of-requires : goal.latch_of-requires
latch_of-requires c =
    let n = c.net-net.result.now in
    let l = driven_latch n c.keeps.ensures.sound c.args.place.1 c.in-Latch.j (c.driver.ensures ∙ ap Some c.in-Latch.is) in
    slice_get_within n.latches c.in-Latch.j l.0 l.1

pub met-requires : goal.met-requires
met-requires c =
    let u = c.args.self.now in
    let sound : IsSound u.net = subst IsSound c.net-net.ensures c.keeps.ensures.sound in
    let drives = ap (λ (n : NetView). slice_get n.drivers c.args.place.1) (sym c.net-net.ensures) ∙ c.driver.ensures ∙ ap Some c.in-Latch.is in
    let at = ap (λ (n : NetView). slice_get n.latches c.in-Latch.j) (sym c.net-net.ensures) ∙ c.latch_of.ensures.there in
    latch_met u sound c.keeps-2.ensures.unfolder.order c.args.place c.in-Latch.j c.latch_of.result.now drives at c.requires.ready

pub returns-in-Input : goal.returns-in-Input
returns-in-Input c =
    let u = c.args.self.now in
    let sound : IsSound u.net = subst IsSound c.net-net.ensures c.keeps.ensures.sound in
    let drives = ap (λ (n : NetView). slice_get n.drivers c.args.place.1) (sym c.net-net.ensures) ∙ c.driver.ensures ∙ ap Some c.in-Input.is in
    let port = sound.drivers c.args.place.1 (driver.Input c.in-Input.i) drives in
    let few = slice_get_within u.net.inputs c.in-Input.i port.0 port.1 in
    let inside : c.in-Input.i < length c.order.result.now = omega (arith, few, c.keeps-2.ensures.unfolder.order.each, ap length c.order.ensures) in
    let number = get_or c.order.result.now c.in-Input.i 0 in
    let at = ap (λ (l : List ℕ). slice_get l c.in-Input.i) (sym c.order.ensures) ∙ slice_get-get_or c.order.result.now c.in-Input.i 0 inside in
    record {
      known = input_is u sound c.keeps-2.ensures.unfolder.order c.args.place c.in-Input.i number (c.cap.result - c.args.place.0) c.variable.new.aig c.variable.new.places c.variable.result drives at (ap (λ (k : ℕ). k - c.args.place.0) c.cap.ensures) c.variable.ensures.here;
      grown = grown_as c.args.aig.now c.variable.new.aig c.args.places.now c.variable.new.places 1 (weight_at u.net c.args.place.1) (ap (driver_weight u.net) drives) c.variable.ensures.grown;
    }

pub returns-in-Gate : goal.returns-in-Gate
returns-in-Gate c =
    let n = c.net-net.result.now in
    let u = c.args.self.now in
    let sound : IsSound u.net = subst IsSound c.net-net.ensures c.keeps.ensures.sound in
    let drives = ap (λ (k : NetView). slice_get k.drivers c.args.place.1) (sym c.net-net.ensures) ∙ c.driver.ensures ∙ ap Some c.in-Gate.is in
    let counts = gate_counts n c.keeps.ensures.sound c.args.place c.in-Gate.j (c.driver.ensures ∙ ap Some c.in-Gate.is) in
    let here =
    subst (λ (k : NetView). IfOk c.gate_literal.result (λ x. IsGateLit k u.memo c.args.place.0 c.in-Gate.j c.gate_literal.new.aig x.0)) c.net-net.ensures
    (subst (λ (m : List ((ℕ × ℕ) × Lit)). IfOk c.gate_literal.result (λ x. IsGateLit n m c.args.place.0 c.in-Gate.j c.gate_literal.new.aig x.0)) c.memo.ensures c.gate_literal.ensures.here) in
    record {
      known = gate_is u sound c.keeps-2.ensures.unfolder.order c.args.place c.in-Gate.j c.args.aig.now c.gate_literal.new.aig c.args.places.now c.gate_literal.result drives c.requires.known c.gate_literal.ensures.grows here;
      grown = gate_grown c.args.aig.now c.gate_literal.new.aig c.args.places.now (gate_weight n.covers (slice_get n.gates c.in-Gate.j)) (weight_at u.net c.args.place.1) (ap (λ (k : NetView). weight_at k c.args.place.1) (sym c.net-net.ensures) ∙ counts)
          c.gate_literal.ensures.grows c.gate_literal.ensures.few;
    }

pub returns-in-Latch : goal.returns-in-Latch
returns-in-Latch c =
    let u = c.args.self.now in
    let sound : IsSound u.net = subst IsSound c.net-net.ensures c.keeps.ensures.sound in
    let drives = ap (λ (n : NetView). slice_get n.drivers c.args.place.1) (sym c.net-net.ensures) ∙ c.driver.ensures ∙ ap Some c.in-Latch.is in
    let at = ap (λ (n : NetView). slice_get n.latches c.in-Latch.j) (sym c.net-net.ensures) ∙ c.latch_of.ensures.there in
    let g : List Node = c.args.aig.now in
    let known : List Node → Lit → Type 0 = λ h x. IsKnown u.net u.order u.cap h c.args.places.now c.args.place x.0 in
    let here : known g c.met.result =
    latch_is u sound c.keeps-2.ensures.unfolder.order c.args.place c.in-Latch.j c.latch_of.result.now c.met.result g c.args.places.now drives at c.requires.ready c.requires.known c.met.ensures in
    record {
      known = subst (λ (h : List Node). IfOk c.marked.result (known h)) (sym c.marked.ensures.same)
          (IfOk-weaker c.marked.result (λ (x : Lit). x ≡ c.met.result) (known g) (λ x e. subst (known g) (sym e) here) c.marked.ensures.is);
      grown = subst (λ (h : List Node). HasGrown g h c.args.places.now c.args.places.now (weight_at u.net c.args.place.1)) (sym c.marked.ensures.same)
          (grown_none g c.args.places.now c.args.places.now (weight_at u.net c.args.place.1) refl);
    }
