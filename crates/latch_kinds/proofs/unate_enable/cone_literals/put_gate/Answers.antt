-- A gate's literal, or none.
use Rattle.std.proofs.Common.{◌∙◌, nat_eq, ap, subst, sym, Some, Option}
use Rattle.std.specs.Prelude.{IfSome}
use Rattle.std.specs.List.{All}
use Rattle.std.proofs.lemmas.Option.{slice_get_within}
use Rattle.indexmap.specs.IndexMap.{get}
use Rattle.circuit_theory.proofs.Lists.{All-from_each}
use Rattle.flat_net.specs.declared.signals.Signal.{Signal}
use Rattle.flat_net.specs.declared.parts.Gate.{Gate}
use Rattle.flat_net.specs.View.{circuit_of}
use Rattle.flat_net.specs.Weights.{driver_weight}
use Rattle.latch_kinds.specs.unate_enable.Building.{IsKnown, HasGrown}
use Rattle.flat_net.proofs.Drivers.{driven_gate, gate_reads_to, no_gate_source}
use Rattle.latch_kinds.proofs.unate_enable.Literals.{learns_none, learns_put, gate_tree, gate_value, grown_none}
use Rattle.latch_kinds.proofs.unate_enable.cone_literals.put_gate.Goals as goal

pub gate_lit-requires-clause-gate : goal.gate_lit-requires-clause-gate
gate_lit-requires-clause-gate c =
    let g = driven_gate c.args.net.now c.keeps.ensures.sound c.args.s.0 c.in-Gate.j (c.driver.ensures ∙ ap Some c.in-Gate.is) in
    slice_get_within _ _ g.0 g.1

pub gate_lit-requires-clause-known : goal.gate_lit-requires-clause-known
gate_lit-requires-clause-known c =
    let drives = c.driver.ensures ∙ ap Some c.in-Gate.is in
    let g = driven_gate c.args.net.now c.keeps.ensures.sound c.args.s.0 c.in-Gate.j drives in
    subst (λ (o : Option Gate). IfSome o (λ k. All (λ f. IsKnown (get nat_eq c.args.known.now) f.0) k.fanins)) (sym g.1)
    (All-from_each (λ (f : Signal). IsKnown (get nat_eq c.args.known.now) f.0) g.0.fanins (λ f h. c.requires.ready f.0 (gate_reads_to c.args.net.now c.keeps.ensures.sound c.args.s.0 c.in-Gate.j drives g.0 g.1 f h)))

pub returns-in_ok-put-in-Gate : goal.returns-in_ok-put-in-Gate
returns-in_ok-put-in-Gate c =
    let drives = c.driver.ensures ∙ ap Some c.in-Gate.is in
    let lit = c.in_ok-lit-in-Gate.ensures in
    record {
      learns = λ u bit places.
          learns_put (circuit_of c.args.net.now) u bit places c.args.aig.now c.gate_lit.new.aig (get nat_eq c.args.known.now) (get nat_eq c.put.new.known) c.args.s.0 c.in_ok-lit-in-Gate.lit lit.grown.grows c.requires.lits c.in_ok-put-in-Gate.ensures
          lit.here.within
          (gate_tree c.args.net.now c.keeps.ensures.sound u bit places (get nat_eq c.args.known.now) c.args.aig.now c.gate_lit.new.aig lit.grown.grows c.args.s.0 c.in-Gate.j c.in_ok-lit-in-Gate.lit.0 drives lit.here)
          (gate_value c.args.net.now c.keeps.ensures.sound u bit places (get nat_eq c.args.known.now) c.args.aig.now c.gate_lit.new.aig c.args.s.0 c.in-Gate.j c.in_ok-lit-in-Gate.lit.0 drives lit.here);
      known = (c.in_ok-lit-in-Gate.lit, c.in_ok-put-in-Gate.ensures.here);
      grown = subst (λ w. HasGrown c.args.aig.now c.gate_lit.new.aig w 0) (sym (ap (driver_weight c.args.net.now) drives)) lit.grown;
    }

pub returns-in_default : goal.returns-in_default
returns-in_default c = record {
  learns = λ u bit places. learns_none (circuit_of c.args.net.now) u bit places c.args.aig.now (get nat_eq c.args.known.now) c.requires.lits;
  known = c.requires.source (no_gate_source c.args.net.now c.keeps.ensures.sound c.args.s.0 c.driver.result c.driver.ensures (λ j e. c.in_default.not-Gate j e));
  grown = grown_none c.args.aig.now _ 0;
}
