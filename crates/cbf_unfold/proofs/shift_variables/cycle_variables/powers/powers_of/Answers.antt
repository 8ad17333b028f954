-- One latch more.
use Rattle.std.proofs.Common.{◌≡◌, ◌∙◌, ◌+◌, ◌<◌, List, [], ◌∷◌, ◌++◌, length, slice_get, Some, sym, ap, subst, arith}
use Rattle.std.proofs.lemmas.Option.{slice_get_within}
use Rattle.flat_net.specs.declared.parts.LatchAt.{LatchAt}
use Rattle.flat_net.specs.View.{circuit_of}
use Rattle.flat_net.proofs.Growth.{length-push}
use Rattle.cbf_unfold.proofs.shift_variables.Reading.{item_at}
use Rattle.cbf_unfold.specs.shift_variables.cycle_variables.Cycles.{IsPowerUp}
use Rattle.cbf_unfold.proofs.shift_variables.cycle_variables.PowerUps.{power_next, power_up_is}
use Rattle.cbf_unfold.proofs.shift_variables.cycle_variables.powers.powers_of.Goals as goal

pub loop-j-preserved : goal.loop-j-preserved
loop-j-preserved c =
    let ls : List LatchAt = c.args.net.now.latches in
    let own : List LatchAt = c.latches-latches.result.now in
    let l : LatchAt = c.index-latches-j.result in
    let inside : c.loop-j.j < length own = omega (arith, c.loop-j-test.true) in
    let at : slice_get ls c.loop-j.j ≡ Some l = item_at ls own c.loop-j.j l c.latches-latches.ensures inside c.index-latches-j.is in
    record {
      long = ap length c.in_ok-push.ensures.items ∙ (length-push c.loop-j.power.items c.start_or.result ∙ ap (λ k. k + 1) c.loop-j.invariant.long);
      each = power_next ls c.args.free.now c.loop-j.power.items c.loop-j.j l c.push.new.self.items at c.loop-j.invariant.long (c.in_ok-push.ensures.items ∙ ap (λ b. c.loop-j.power.items ++ b ∷ []) c.start_or.ensures) c.loop-j.invariant.each;
    }

pub returns : goal.returns
returns c =
    let n = c.args.net.now in
    let all : c.loop-j.j ≡ length n.latches = omega (arith, c.loop-j-test.false, c.loop-j.auto.j-end, ap length c.latches-latches.ensures) in
    subst (IsPowerUp (circuit_of n) c.args.free.now) (sym c.from_vec.ensures)
    (power_up_is n c.keeps.ensures.sound c.args.free.now c.loop-j.power.items (c.loop-j.invariant.long ∙ all) (λ k m here. c.loop-j.invariant.each k m (let inside = slice_get_within n.latches k m here in omega (arith, inside, all)) here))
