-- One bit more.
use Rattle.std.proofs.Common.{◌<◌, false, length, get_or, sym, arith}
use Rattle.std.proofs.lemmas.List.{get_or_default}
use Rattle.event_form.proofs.Telling.{frame_more}
use Rattle.event_form.proofs.frames.frame_of.Goals as goal

pub loop-i-preserved : goal.loop-i-preserved
loop-i-preserved c =
    let in_vars : c.loop-i.i < length c.args.vars.now = omega (arith, c.loop-i-test.true) in
    let in_bits : c.loop-i.i < length c.args.bits.now = omega (arith, c.loop-i-test.true, c.requires.each) in
    frame_more c.args.events.now c.args.vars.now c.args.bits.now c.loop-i.i c.loop-i.frame.items c.push.new.self.items (get_or c.args.vars.now c.loop-i.i 0) (get_or c.args.bits.now c.loop-i.i false) c.in_ok-told.told in_vars in_bits
    (sym (get_or_default c.args.vars.now c.loop-i.i (get_or c.args.vars.now c.loop-i.i 0) 0 in_vars)) (sym (get_or_default c.args.bits.now c.loop-i.i (get_or c.args.bits.now c.loop-i.i false) false in_bits)) c.in_ok-push.ensures.items c.in_ok-told.ensures.variable c.in_ok-told.ensures.bit c.loop-i.invariant
