use Rattle.std.proofs.Common.{◌+◌, ◌<◌, ◌≤◌, length, arith, ap, ◌∙◌}
use Rattle.lrat_core.specs.Marks.{AreMarks}
use Rattle.lrat_core.proofs.Marking.{longer_marks, longer_reaches, same_marks, one_marked}
use Rattle.lrat_core.proofs.falsified.Falsified.push.Goals as goal
use Rattle.lrat_core.proofs.falsified.Falsified.push.Goals.{then-len-place+in_ok-resize, else-len-place}

pub invariant_of-self-in_err-push : goal.invariant_of-self-in_err-push
invariant_of-self-in_err-push c = elim c.if-len-place.branch [
  | then-len-place+in_ok-resize w ↦ longer_marks c.self.inside.marks.items c.if-len-place.self-inside.marks.items (c.mark_of-place.result + 1) _ c.self.inside.trail.items c.push.new.self.items (omega (arith, w.if-len-place.true, c.len.ensures))
      (ap (λ s. s.marks.items) w.self-inside-is ∙ w.in_ok-resize.ensures.items) (c.in_err-push.ensures.items ∙ ap (λ s. s.trail.items) w.self-inside-is) c.self.invariant
  | else-len-place w ↦ same_marks c.self.inside.marks.items c.if-len-place.self-inside.marks.items c.self.inside.trail.items c.push.new.self.items (ap (λ s. s.marks.items) w.self-inside-is) (c.in_err-push.ensures.items ∙ ap (λ s. s.trail.items) w.self-inside-is) c.self.invariant
]

pub invariant_of-self-2 : goal.invariant_of-self-2
invariant_of-self-2 c =
    let inside = c.if-len-place.self-inside in
    let marked : AreMarks inside.marks.items inside.trail.items = elim c.if-len-place.branch [
      | then-len-place+in_ok-resize w ↦ longer_marks c.self.inside.marks.items c.if-len-place.self-inside.marks.items (c.mark_of-place.result + 1) _ c.self.inside.trail.items c.if-len-place.self-inside.trail.items (omega (arith, w.if-len-place.true, c.len.ensures))
          (ap (λ s. s.marks.items) w.self-inside-is ∙ w.in_ok-resize.ensures.items) (ap (λ s. s.trail.items) w.self-inside-is) c.self.invariant
      | else-len-place w ↦ same_marks c.self.inside.marks.items c.if-len-place.self-inside.marks.items c.self.inside.trail.items c.if-len-place.self-inside.trail.items (ap (λ s. s.marks.items) w.self-inside-is) (ap (λ s. s.trail.items) w.self-inside-is) c.self.invariant
    ] in
    let within : c.mark_of-place.result < length inside.marks.items = elim c.if-len-place.branch [
      | then-len-place+in_ok-resize w ↦ (let reach : c.mark_of-place.result + 1 ≤ length inside.marks.items = longer_reaches c.self.inside.marks.items inside.marks.items (c.mark_of-place.result + 1) _ (omega (arith, w.if-len-place.true, c.len.ensures))
          (ap (λ s. s.marks.items) w.self-inside-is ∙ w.in_ok-resize.ensures.items) (omega (arith, w.if-len-place.true, c.len.ensures)) in omega (arith, reach))
      | else-len-place w ↦ (let same = ap (λ s. length s.marks.items) w.self-inside-is in omega (arith, same, w.if-len-place.false, c.len.ensures))
    ] in
    one_marked inside.marks.items inside.trail.items c.push.new.self.items c.args.literal c.mark_of-place.result marked c.mark_of-place.ensures within c.in_ok-push.ensures.items
