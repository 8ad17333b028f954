-- One signal more.
use Rattle.std.proofs.Common.{◌∙◌, ◌+◌, ◌<◌, ◌≤◌, [], ◌∷◌, length, sym, ap, subst, arith}
use Rattle.std.proofs.Math.ListN.{length-append}
use Rattle.std.proofs.lemmas.Option.{slice_get_within}
use Rattle.aig.proofs.Growth.{Grows-refl, Grows-trans}
use Rattle.block_refine.specs.latch_blocks.Signals.{AreSignalLits}
use Rattle.block_refine.proofs.latch_blocks.Growing.{lits_push}
use Rattle.block_refine.proofs.latch_blocks.Weights.{weight_step, weight_room, weight_all}
use Rattle.block_refine.proofs.latch_blocks.literals.signal_literals.Goals as goal

pub loop-s-init : goal.loop-s-init
loop-s-init c = record {
  each = ap length c.new-lits.ensures.items;
  lits = λ s x at. absurd (let inside = slice_get_within c.new-lits.result.items s x at in omega (arith, inside, ap length c.new-lits.ensures.items));
  grows = Grows-refl c.args.aig.now;
  few = omega arith;
}

pub literal-requires-clause-signal : goal.literal-requires-clause-signal
literal-requires-clause-signal c = omega (arith, c.loop-s-test.true, c.size-s-end.ensures)

pub literal-requires-clause-before : goal.literal-requires-clause-before
literal-requires-clause-before c = ap length c.deref.ensures.value ∙ c.loop-s.invariant.each

pub literal-requires-clause-lits : goal.literal-requires-clause-lits
literal-requires-clause-lits c = subst (AreSignalLits c.args.net.now c.args.variables.now c.loop-s.aig) (sym c.deref.ensures.value) c.loop-s.invariant.lits

pub literal-requires-clause-room : goal.literal-requires-clause-room
literal-requires-clause-room c =
    let inside : c.loop-s.s < length c.args.net.now.drivers = omega (arith, c.loop-s-test.true, c.size-s-end.ensures) in
    let more = weight_room c.args.net.now c.loop-s.s inside in
    omega (arith, more, c.loop-s.invariant.few, c.requires.room)

pub loop-s-preserved : goal.loop-s-preserved
loop-s-preserved c =
    let inside : c.loop-s.s < length c.args.net.now.drivers = omega (arith, c.loop-s-test.true, c.size-s-end.ensures) in
    let more = weight_step c.args.net.now c.loop-s.s inside in
    record {
      each = ap length c.in_ok-push.ensures.items ∙ length-append c.loop-s.lits.items (c.in_ok-lit.lit ∷ []) ∙ ap (λ k. k + 1) c.loop-s.invariant.each;
      lits =
          subst (AreSignalLits c.args.net.now c.args.variables.now c.literal.new.aig) (sym c.in_ok-push.ensures.items)
          (lits_push c.args.net.now c.args.variables.now c.literal.new.aig c.loop-s.lits.items c.loop-s.s c.in_ok-lit.lit c.loop-s.invariant.each c.in_ok-lit.ensures.here
          (subst (AreSignalLits c.args.net.now c.args.variables.now c.literal.new.aig) c.deref.ensures.value c.in_ok-lit.ensures.stay));
      grows = Grows-trans c.args.aig.now c.loop-s.aig c.literal.new.aig c.loop-s.invariant.grows c.literal.ensures.grows;
      few = omega (arith, c.loop-s.invariant.few, c.literal.ensures.few, more);
    }

pub returns : goal.returns
returns c =
    let past : length c.args.net.now.drivers ≤ c.loop-s.s = omega (arith, c.loop-s-test.false, c.size-s-end.ensures) in
    let all = weight_all c.args.net.now c.loop-s.s past in
    record {
      each = omega (arith, c.loop-s.invariant.each, past, c.loop-s.auto.s-end, c.size-s-end.ensures);
      lits = c.loop-s.invariant.lits;
      grows = c.loop-s.invariant.grows;
      few = omega (arith, c.loop-s.invariant.few, all);
    }

pub returns-in_err-lit-clause-grows : goal.returns-in_err-lit-clause-grows
returns-in_err-lit-clause-grows c = Grows-trans c.args.aig.now c.loop-s.aig c.literal.new.aig c.loop-s.invariant.grows c.literal.ensures.grows

pub returns-in_err-lit-clause-few : goal.returns-in_err-lit-clause-few
returns-in_err-lit-clause-few c =
    let inside : c.loop-s.s < length c.args.net.now.drivers = omega (arith, c.loop-s-test.true, c.size-s-end.ensures) in
    let more = weight_room c.args.net.now c.loop-s.s inside in
    omega (arith, c.loop-s.invariant.few, c.literal.ensures.few, more)

pub returns-in_err-push-clause-grows : goal.returns-in_err-push-clause-grows
returns-in_err-push-clause-grows c = Grows-trans c.args.aig.now c.loop-s.aig c.literal.new.aig c.loop-s.invariant.grows c.literal.ensures.grows

pub returns-in_err-push-clause-few : goal.returns-in_err-push-clause-few
returns-in_err-push-clause-few c =
    let inside : c.loop-s.s < length c.args.net.now.drivers = omega (arith, c.loop-s-test.true, c.size-s-end.ensures) in
    let more = weight_room c.args.net.now c.loop-s.s inside in
    omega (arith, c.loop-s.invariant.few, c.literal.ensures.few, more)
