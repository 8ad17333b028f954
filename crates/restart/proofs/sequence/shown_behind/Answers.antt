-- Both outputs are known in the last cycle, and differ.
use Rattle.std.proofs.Common.{◌≡◌, ◌-◌, length, ap, arith}
use Rattle.witness_report.specs.declared.witness.PairName.TheVariants as pair
use Rattle.restart.proofs.Shown.{shows, knows_same, bits_apart}
use Rattle.restart.proofs.sequence.shown_behind.Goals as goal

pub returns-clause-shown : goal.returns-clause-shown
returns-clause-shown c =
    let s = c.in_ok-stimulus.stimulus in
    let size = c.in_ok-stimulus.ensures.size in
    let last : c.in-Ok.count - 1 ≡ length s.rows - 1 = omega (arith, c.in-Ok.ensures, c.len-2.ensures) in
    let l =
    shows c.args.a.now s.names s.rows s.fit c.args.name.now c.in_ok-left.left c.in-Some-Some.left (c.in-Ok.count - 1) last
    (knows_same c.args.a.now _ s.names _ s.rows _ c.args.name.now c.in_ok-left.left c.in_ok-names.ensures c.as_slice.ensures c.as_slice-2.ensures c.in_ok-left.ensures) c.in-Some-Some.is-0 in
    let r =
    shows c.args.b.now s.names s.rows s.fit c.args.name.now c.in_ok-right.right c.in-Some-Some.right (c.in-Ok.count - 1) last
    (knows_same c.args.b.now _ s.names _ s.rows _ c.args.name.now c.in_ok-right.right c.in_ok-names.ensures c.as_slice-3.ensures c.as_slice-4.ensures c.in_ok-right.ensures) c.in-Some-Some.is-1 in
    record {
      begins = c.in_ok-stimulus.ensures.rows;
      behind = omega (arith, size, c.len.ensures, c.if-len-eq0.false, c.in-Ok.ensures, c.len-2.ensures);
      differ = record {
        name = c.args.name.now;
        left_place = l.0;
        right_place = r.0;
        named = ap pair.Output c.in_ok-copy.ensures;
        left_output = l.1;
        right_output = r.1;
        differ = bits_apart c.in-Some-Some.left c.in-Some-Some.right c.if-left-right.false;
        left_shows = l.2;
        right_shows = r.2;
      };
    }

pub returns-clause-goes_on : goal.returns-clause-goes_on
returns-clause-goes_on c = record {
  names_are = c.in_ok-stimulus.ensures.names;
  rows_are = c.in_ok-stimulus.ensures.behind;
  cycle_is = omega (arith, c.in_ok-stimulus.ensures.size, c.len.ensures, c.if-len-eq0.false, c.in-Ok.ensures, c.len-2.ensures);
}
