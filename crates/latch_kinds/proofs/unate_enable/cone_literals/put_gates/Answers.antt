-- One signal more.
use Rattle.std.proofs.Common.{◌<◌, ℕ, List, false, [], length, get_or, nat_eq, subst, arith}
use Rattle.std.specs.List.{sum_by}
use Rattle.std.proofs.lemmas.List.{take_all}
use Rattle.std.proofs.lemmas.List.Elements.{All-get_or, Contains-get_or}
use Rattle.std.proofs.lemmas.List.Sums.{sum_by_more, sum_by_more_le}
use Rattle.std.proofs.lemmas.Option.{slice_get-get_or, slice_get_within}
use Rattle.indexmap.specs.IndexMap.{get}
use Rattle.circuit_theory.proofs.Lists.{at_of, All-from_each}
use Rattle.flat_net.specs.View.{circuit_of}
use Rattle.flat_net.specs.Weights.{weight_at}
use Rattle.latch_kinds.specs.unate_enable.Building.{IsKnown, HasGrown}
use Rattle.flat_net.proofs.Drivers.{reads_lower}
use Rattle.latch_kinds.proofs.unate_enable.Literals.{learns_none, learns_trans, grown_none, grown_trans, stands_before, known_more}
use Rattle.latch_kinds.proofs.unate_enable.cone_literals.put_gates.Goals as goal

pub loop-s-init : goal.loop-s-init
loop-s-init c = record {
  learns = λ u bit places. learns_none (circuit_of c.args.net.now) u bit places c.args.aig.now (get nat_eq c.args.known.now) c.requires.lits;
  known = λ k s below. absurd (omega arith);
  grown = grown_none c.args.aig.now _ 0;
}

pub put_gate-requires-clause-signal : goal.put_gate-requires-clause-signal
put_gate-requires-clause-signal c = All-get_or (λ s. s < length c.args.net.now.drivers) c.args.signals.now c.loop-s.s-index _ c.loop-s-test.true c.requires.within

pub put_gate-requires-clause-ready : goal.put_gate-requires-clause-ready
put_gate-requires-clause-ready c = λ q reads.
    let s = get_or c.args.signals.now c.loop-s.s-index 0 in
    let here = slice_get-get_or c.args.signals.now c.loop-s.s-index 0 c.loop-s-test.true in
    let at = at_of c.args.signals.now q (c.requires.closed s q (Contains-get_or c.args.signals.now c.loop-s.s-index 0 c.loop-s-test.true) reads) in
    c.loop-s.invariant.known at.0 q (stands_before c.args.signals.now c.requires.increasing c.loop-s.s-index at.0 s q here at.1 (reads_lower c.args.net.now c.keeps.ensures.sound s q reads)) at.1

pub put_gate-requires-clause-source : goal.put_gate-requires-clause-source
put_gate-requires-clause-source c = λ source.
    let s = get_or c.args.signals.now c.loop-s.s-index 0 in
    (c.loop-s.invariant.learns 0 false []).stays s (c.requires.sources s (Contains-get_or c.args.signals.now c.loop-s.s-index 0 c.loop-s-test.true) source)

pub put_gate-requires-clause-lits : goal.put_gate-requires-clause-lits
put_gate-requires-clause-lits c = (c.loop-s.invariant.learns 0 false []).within

pub put_gate-requires-clause-room : goal.put_gate-requires-clause-room
put_gate-requires-clause-room c =
    let more = sum_by_more_le (weight_at c.args.net.now) c.args.signals.now c.loop-s.s-index 0 c.loop-s-test.true in
    omega (arith, more, c.loop-s.invariant.grown.nodes, c.requires.room)

pub loop-s-preserved : goal.loop-s-preserved
loop-s-preserved c =
    let s = get_or c.args.signals.now c.loop-s.s-index 0 in
    let more = sum_by_more (weight_at c.args.net.now) c.args.signals.now c.loop-s.s-index 0 c.loop-s-test.true in
    record {
      learns = λ u bit places.
          learns_trans (circuit_of c.args.net.now) u bit places c.args.aig.now c.loop-s.aig c.put_gate.new.aig (get nat_eq c.args.known.now) (get nat_eq c.loop-s.known) (get nat_eq c.put_gate.new.known)
          (c.loop-s.invariant.learns u bit places) (c.in_ok-put_gate.ensures.learns u bit places);
      known = λ k p below at.
          known_more c.args.signals.now c.loop-s.s-index (get nat_eq c.loop-s.known) (get nat_eq c.put_gate.new.known) s (slice_get-get_or c.args.signals.now c.loop-s.s-index 0 c.loop-s-test.true)
          c.loop-s.invariant.known (c.in_ok-put_gate.ensures.learns 0 false []).stays c.in_ok-put_gate.ensures.known k p below at;
      grown = grown_trans c.args.aig.now c.loop-s.aig c.put_gate.new.aig _ _ _ 0 0 0 c.loop-s.invariant.grown c.in_ok-put_gate.ensures.grown (omega (arith, more)) (omega arith) (omega arith);
    }

pub returns : goal.returns
returns c = record {
  learns = c.loop-s.invariant.learns;
  known = All-from_each (IsKnown (get nat_eq c.loop-s.known)) c.args.signals.now (λ s h.
      let at = at_of c.args.signals.now s h in
      let inside = slice_get_within c.args.signals.now at.0 s at.1 in
      c.loop-s.invariant.known at.0 s (omega (arith, inside, c.loop-s-test.false)) at.1);
  grown = subst (λ (l : List ℕ). HasGrown c.args.aig.now c.loop-s.aig (sum_by (weight_at c.args.net.now) l) 0) (take_all c.loop-s.s-index c.args.signals.now c.loop-s-test.false) c.loop-s.invariant.grown;
}
