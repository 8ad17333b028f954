-- The rule of a latch that counts as enabled, or that of any other.
use Rattle.std.proofs.Common.{◌≡◌, ◌∙◌, true, false, length, slice_get, Some, refl, sym, ap, subst, arith, add-one}
use Rattle.std.proofs.lemmas.Option.{slice_get-get_or, slice_get_read}
use Rattle.flat_net.proofs.Places.{one_at}
use Rattle.cycle_sim.specs.View.{IsMark}
use Rattle.cycle_sim.proofs.Marks.{data_next}
use Rattle.cycle_sim.proofs.next_marks.next_mark.Goals as goal

pub held_next-requires-clause-sides : goal.held_next-requires-clause-sides
held_next-requires-clause-sides c = λ l at.
    let bit : slice_get c.args.enabled.now c.args.latch ≡ Some true = slice_get-get_or c.args.enabled.now c.args.latch false (omega (arith, c.requires.latch, c.requires.enabled)) ∙ ap Some c.if-enabled-latch.true in
    let cone = slice_get_read c.args.cones.now (length c.args.cones.now) c.args.latch c.index-cones-latch.result refl (omega (arith, c.requires.latch, c.requires.cones.each)) c.index-cones-latch.is in
    c.requires.cones.sides c.args.latch l c.index-cones-latch.result at bit cone

pub held_next-requires-clause-gates : goal.held_next-requires-clause-gates
held_next-requires-clause-gates c = λ l at.
    let bit : slice_get c.args.enabled.now c.args.latch ≡ Some true = slice_get-get_or c.args.enabled.now c.args.latch false (omega (arith, c.requires.latch, c.requires.enabled)) ∙ ap Some c.if-enabled-latch.true in
    let cone = slice_get_read c.args.cones.now (length c.args.cones.now) c.args.latch c.index-cones-latch.result refl (omega (arith, c.requires.latch, c.requires.cones.each)) c.index-cones-latch.is in
    c.requires.cones.gates c.args.latch l c.index-cones-latch.result at bit cone

pub returns-then-enabled-latch-clause-mark : goal.returns-then-enabled-latch-clause-mark
returns-then-enabled-latch-clause-mark c = λ run t l at meets have marks.
    let bit : slice_get c.args.enabled.now c.args.latch ≡ Some true = slice_get-get_or c.args.enabled.now c.args.latch false (omega (arith, c.requires.latch, c.requires.enabled)) ∙ ap Some c.if-enabled-latch.true in
    subst (λ k. IsMark c.args.net.now c.args.enabled.now run k l.out.0 c.held_next.result) (sym (add-one t)) (c.held_next.ensures.mark c.args.enabled.now run t l at bit meets have marks)

pub returns-else-enabled-latch-clause-mark : goal.returns-else-enabled-latch-clause-mark
returns-else-enabled-latch-clause-mark c = λ run t l at meets have marks.
    let bit : slice_get c.args.enabled.now c.args.latch ≡ Some false = slice_get-get_or c.args.enabled.now c.args.latch false (omega (arith, c.requires.latch, c.requires.enabled)) ∙ ap Some c.if-enabled-latch.false in
    let mark = marks l.next.0 (c.keeps.ensures.sound.latches c.args.latch l at).within in
    let same : mark.0 ≡ c.data_mark.result = one_at c.args.marks.now l.next.0 mark.0 c.data_mark.result mark.1 (c.data_mark.ensures l at) in
    subst (λ k. IsMark c.args.net.now c.args.enabled.now run k l.out.0 c.data_mark.result) (sym (add-one t))
    (data_next c.args.net.now c.keeps.ensures.sound c.args.enabled.now run t c.args.latch l c.data_mark.result at bit (subst (IsMark c.args.net.now c.args.enabled.now run t l.next.0) same mark.2))
