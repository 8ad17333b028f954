use Rattle.std.proofs.Common.{◌≡◌, ◌∙◌, length, get_or, slice_get, Some, refl, ap, arith, inr}
use Rattle.std.proofs.lemmas.List.{length-set}
use Rattle.std.proofs.lemmas.Option.{slice_get-get_or}
use Rattle.circuit_theory.proofs.Lists.{of_at}
use Rattle.flat_net.proofs.Nets.{some_at}
use Rattle.cycle_sim.proofs.SomeGates.{some_more, some_all, others_more}
use Rattle.cycle_sim.proofs.flip.put_some.Goals as goal

pub loop-j-init : goal.loop-j-init
loop-j-init c = record {
  size = c.requires.values;
  put = λ m v are meets inputs latches aside. record { inputs = inputs; latches = latches; aside = aside; some = λ k j g h. absurd (omega (arith, h)) };
  others = λ p. inr refl;
}

pub put_gate-requires-clause-place : goal.put_gate-requires-clause-place
put_gate-requires-clause-place c = c.requires.places c.loop-j.j-index _ (slice_get-get_or c.args.gates.now c.loop-j.j-index 0 c.loop-j-test.true)

pub loop-j-preserved : goal.loop-j-preserved
loop-j-preserved c =
    let n = c.args.net.now in
    let gates = c.args.gates.now in
    let i = c.loop-j.j-index in
    let j = get_or gates i 0 in
    let at_j : slice_get gates i ≡ Some j = slice_get-get_or gates i 0 c.loop-j-test.true in
    let g = some_at n.gates j (c.requires.places i j at_j) in
    let is = c.put_gate.ensures g.0 g.1 in record {
      size = ap length is ∙ (length-set _ _ _ ∙ c.loop-j.invariant.size);
      put = λ m v are meets inputs latches aside. some_more n c.keeps.ensures.sound m gates are v meets c.loop-j.values c.put_gate.new.values i j g.0 at_j g.1 c.loop-j.invariant.size is (c.loop-j.invariant.put m v are meets inputs latches aside);
      others = others_more n gates j g.0 c.args.values.now c.loop-j.values c.put_gate.new.values _ (of_at gates i j at_j) g.1 is c.loop-j.invariant.others;
    }

pub returns-clause-put : goal.returns-clause-put
returns-clause-put c = λ l v are meets inputs latches aside.
    let have = c.loop-j.invariant.put l v are meets inputs latches aside in
    some_all c.args.net.now c.keeps.ensures.sound l c.args.gates.now are v meets c.loop-j.values
    (record { inputs = have.inputs; latches = have.latches; aside = have.aside; some = λ k j g low at_j at. have.some k j g (omega (arith, low, c.loop-j-test.false)) at_j at })
