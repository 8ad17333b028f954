-- A's numbers begin above all inputs and columns, and B's above A's.
use Rattle.std.proofs.Common.{◌<◌, length, ap, subst, arith}
use Rattle.std.specs.List.{All}
use Rattle.std.proofs.lemmas.List.Elements.{All-weaker}
use Rattle.reset_form.proofs.reset_functions.bases.bases_of.Goals as goal

pub returns : goal.returns
returns c =
    let left = c.greater-left.result in
    let long = ap length c.latches.ensures in
    let other = ap length c.latches-2.ensures in
    record {
      left_inputs = subst (All (λ i. i < left)) c.as_slice.ensures (All-weaker (λ i. i < c.above-left.result) (λ i. i < left) (λ i h. omega (arith, h, c.greater-inputs.ensures, c.greater-left.ensures)) c.as_slice.result.now c.above-left.ensures);
      right_inputs = subst (All (λ i. i < left)) c.as_slice-2.ensures (All-weaker (λ i. i < c.above-right.result) (λ i. i < left) (λ i h. omega (arith, h, c.greater-inputs.ensures, c.greater-left.ensures)) c.as_slice-2.result.now c.above-right.ensures);
      columns = omega (arith, c.len.ensures, c.greater-left.ensures);
      right_is = omega (arith, long, other);
      room = omega (arith, long, other);
    }
