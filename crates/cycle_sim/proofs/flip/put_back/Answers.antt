use Rattle.std.proofs.Common.{◌≡◌, ◌∙◌, length, get_or, slice_get, Some, ap, arith}
use Rattle.std.proofs.lemmas.List.{length-set}
use Rattle.std.proofs.lemmas.Option.{slice_get-get_or}
use Rattle.flat_net.proofs.Nets.{some_at}
use Rattle.cycle_sim.proofs.SomeGates.{back_more, all_back}
use Rattle.cycle_sim.proofs.flip.put_back.Goals as goal

pub loop-j-init : goal.loop-j-init
loop-j-init c = record {
  size = c.requires.tried;
  back = record { kept = λ p same. same; put = λ k j g h. absurd (omega (arith, h)) };
}

pub take_back-requires-clause-place : goal.take_back-requires-clause-place
take_back-requires-clause-place c = c.requires.places c.loop-j.j-index _ (slice_get-get_or c.args.gates.now c.loop-j.j-index 0 c.loop-j-test.true)

pub loop-j-preserved : goal.loop-j-preserved
loop-j-preserved c =
    let n = c.args.net.now in
    let gates = c.args.gates.now in
    let i = c.loop-j.j-index in
    let j = get_or gates i 0 in
    let at_j : slice_get gates i ≡ Some j = slice_get-get_or gates i 0 c.loop-j-test.true in
    let g = some_at n.gates j (c.requires.places i j at_j) in
    let is = c.take_back.ensures g.0 g.1 in record {
      size = ap length is ∙ (length-set _ _ _ ∙ c.loop-j.invariant.size);
      back = back_more n c.keeps.ensures.sound gates c.args.values.now c.args.tried.now c.loop-j.tried c.take_back.new.tried i j g.0 at_j g.1 c.requires.values c.loop-j.invariant.size is c.loop-j.invariant.back;
    }

pub returns-clause-back : goal.returns-clause-back
returns-clause-back c = λ have.
    let back = c.loop-j.invariant.back in
    all_back c.args.net.now c.args.gates.now c.args.values.now c.args.tried.now c.loop-j.tried
    (record { kept = back.kept; put = λ k j g low at_j at. back.put k j g (omega (arith, low, c.loop-j-test.false)) at_j at }) have
