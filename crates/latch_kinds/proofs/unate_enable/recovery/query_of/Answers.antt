-- Both sides of the query, and its variables.
use Rattle.std.proofs.Common.{false, true, Contains, sym, subst, arith}
use Rattle.circuit_theory.specs.Circuit.{Reaches}
use Rattle.flat_net.specs.View.{circuit_of}
use Rattle.flat_net.specs.declared.parts.LatchAt.{LatchAt}
use Rattle.latch_kinds.specs.unate_enable.Building.{AreClosed, HasTree, HasValue}
use Rattle.latch_kinds.specs.unate_enable.Cones.{data_of_latch}
use Rattle.latch_kinds.proofs.unate_enable.Queries.{query_from}
use Rattle.latch_kinds.proofs.unate_enable.recovery.query_of.Goals as goal

pub lit_with-requires : goal.lit_with-requires
lit_with-requires c = record {
  increasing = c.requires.reached.increasing;
  within = c.requires.reached.within;
  closed = subst (λ (l : LatchAt). AreClosed (circuit_of c.args.net.now) l.out.0 c.args.places.now c.args.signals.now) (sym c.latch_of-at.ensures.is) c.requires.closed;
  among = subst (λ (l : LatchAt). Contains c.args.signals.now l.next.0) (sym c.latch_of-at.ensures.is) ((c.requires.reached.exactly (data_of_latch c.args.net.now c.args.latch)).1 Reaches.here);
  few = omega (arith, c.requires.few);
  room = omega (arith, c.requires.few, c.requires.light, c.requires.small);
}

pub lit_with-requires-2 : goal.lit_with-requires-2
lit_with-requires-2 c = record {
  increasing = c.requires.reached.increasing;
  within = c.requires.reached.within;
  closed = subst (λ (l : LatchAt). AreClosed (circuit_of c.args.net.now) l.out.0 c.args.places.now c.args.signals.now) (sym c.latch_of-at.ensures.is) c.requires.closed;
  among = subst (λ (l : LatchAt). Contains c.args.signals.now l.next.0) (sym c.latch_of-at.ensures.is) ((c.requires.reached.exactly (data_of_latch c.args.net.now c.args.latch)).1 Reaches.here);
  few = omega (arith, c.requires.few);
  room = omega (arith, c.in_ok-low.ensures.grown.nodes, c.requires.few, c.requires.light, c.requires.small);
}

pub returns : goal.returns
returns c =
    let low = c.in_ok-low.ensures in
    let high = c.in_ok-high.ensures in
    query_from c.args.net.now c.args.latch c.args.places.now c.lit_with.new.aig c.lit_with-2.new.aig c.in_ok-low.low c.in_ok-high.high c.in_ok-vars.vars high.grown.grows (omega (arith, low.grown.vars, high.grown.vars, c.requires.empty)) low.within high.within
    (subst (λ (l : LatchAt). HasTree (circuit_of c.args.net.now) l.out.0 false c.args.places.now c.lit_with.new.aig l.next.0 c.in_ok-low.low.0) c.latch_of-at.ensures.is low.tree)
    (subst (λ (l : LatchAt). HasTree (circuit_of c.args.net.now) l.out.0 true c.args.places.now c.lit_with-2.new.aig l.next.0 c.in_ok-high.high.0) c.latch_of-at.ensures.is high.tree)
    (subst (λ (l : LatchAt). HasValue (circuit_of c.args.net.now) l.out.0 false c.args.places.now c.lit_with.new.aig l.next.0 c.in_ok-low.low.0) c.latch_of-at.ensures.is low.value)
    (subst (λ (l : LatchAt). HasValue (circuit_of c.args.net.now) l.out.0 true c.args.places.now c.lit_with-2.new.aig l.next.0 c.in_ok-high.high.0) c.latch_of-at.ensures.is high.value)
    c.in_ok-vars.ensures.each c.in_ok-vars.ensures.are
