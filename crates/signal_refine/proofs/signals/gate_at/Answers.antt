-- The gate and its fan-ins.
use Rattle.std.proofs.Common.{◌≡◌, ◌∙◌, ◌-◌, ◌<◌, ◌≤◌, List, length, take, drop, length-drop, slice_get, Some, Option, sym, ap, subst, arith}
use Rattle.std.specs.Prelude.{IfSome}
use Rattle.std.specs.List.{All}
use Rattle.std.proofs.lemmas.List.Elements.{All-contains}
use Rattle.std.proofs.lemmas.List.{take_all}
use Rattle.std.proofs.lemmas.Option.{slice_get_within}
use Rattle.circuit_theory.proofs.Lists.{All-from_each}
use Rattle.flat_net.specs.declared.signals.Signal.{Signal}
use Rattle.flat_net.specs.declared.parts.Gate.{Gate}
use Rattle.flat_net.proofs.Drivers.{driven_gate}
use Rattle.aig.specs.declared.node.Lit.{Lit}
use Rattle.signal_refine.proofs.signals.gate_at.Goals as goal

pub gate_literal-requires-clause-gate : goal.gate_literal-requires-clause-gate
gate_literal-requires-clause-gate c =
    let g = driven_gate c.args.spot.now.net.now c.keeps.ensures.sound c.args.spot.now.signal.0 c.args.j c.requires.drives in
    slice_get_within c.args.spot.now.net.now.gates c.args.j g.0 g.1

pub gate_literal-requires-clause-known : goal.gate_literal-requires-clause-known
gate_literal-requires-clause-known c =
    let g = driven_gate c.args.spot.now.net.now c.keeps.ensures.sound c.args.spot.now.signal.0 c.args.j c.requires.drives in
    let long = length-drop c.args.spot.now.offset c.args.lits.now in
    let whole : take (length c.args.lits.now - c.args.spot.now.offset) (drop c.args.spot.now.offset c.args.lits.now) ≡ drop c.args.spot.now.offset c.args.lits.now =
    take_all (length c.args.lits.now - c.args.spot.now.offset) (drop c.args.spot.now.offset c.args.lits.now) (omega (arith, long)) in
    subst (λ (l : List Lit). IfSome (slice_get c.args.spot.now.net.now.gates c.args.j) (λ k. All (λ f. f.0 < length l) k.fanins)) (sym whole)
    (subst (λ (o : Option Gate). IfSome o (λ k. All (λ f. f.0 < length (drop c.args.spot.now.offset c.args.lits.now)) k.fanins)) (sym g.1)
    (All-from_each (λ (f : Signal). f.0 < length (drop c.args.spot.now.offset c.args.lits.now)) g.0.fanins
    (λ f h. let above = All-contains (λ (k : Signal). k.0 < g.0.out.0) g.0.fanins f (c.keeps.ensures.sound.gates c.args.j g.0 g.1).above h in omega (arith, above, g.2, c.requires.each, long))))
