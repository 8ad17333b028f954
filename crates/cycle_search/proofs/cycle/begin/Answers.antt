-- Nothing is unfolded.
use Rattle.std.proofs.Common.{◌≡◌, length, ap, arith}
use Rattle.circuit_theory.specs.declared.Side.TheVariants.{A, B}
use Rattle.reset_form.proofs.reset_functions.Parts.{is_order}
use Rattle.cycle_search.proofs.Sides.{none_before}
use Rattle.cycle_search.proofs.cycle.begin.Goals as goal

pub new-requires-2-clause-order : goal.new-requires-2-clause-order
new-requires-2-clause-order c =
    let s = c.args.setup.now in
    is_order s.right.now s.columns s.orders.right s.orders.left c.requires.setup.right_columns

pub returns : goal.returns
returns c =
    let s = c.args.setup.now in
    let l = c.in_ok-left.ensures in
    let r = c.in_ok-right.ensures in
    let few : length c.in_ok-aig.aig ≡ 1 = ap length c.in_ok-aig.ensures in
    let none : length c.new-places.result ≡ 0 = ap length c.new-places.ensures in
    record {
      left_net = l.net;
      left_order = l.order;
      left_base = l.base;
      right_net = r.net;
      right_order = r.order;
      right_base = r.base;
      left_fits = l.fits _ _;
      right_fits = r.fits _ _;
      left_done = none_before A s.pairs _ l.none;
      right_done = none_before B s.pairs _ r.none;
      merged = c.in_ok-merged.ensures _;
      nodes = omega (arith, few, l.weight, r.weight);
      entries = omega (arith, none);
    }
