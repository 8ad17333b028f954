-- The list is what was written over all of it.
use Rattle.std.proofs.Common.{◌≡◌, ◌∙◌, ◌≤◌, List, Bool, length, sym, ap, subst, arith}
use Rattle.class_search.specs.class_separations.cone_values.Bits.{HasBits}
use Rattle.class_search.proofs.class_separations.cone_values.Assigned.{written_over}
use Rattle.class_search.proofs.class_separations.cone_values.value.assignment_of.Goals as goal

pub returns-clause-size : goal.returns-clause-size
returns-clause-size c =
    let made = c.in_ok-made.made in
    let new = c.assign.new.assignment in
    let long : length new ≡ length made.items = c.assign.ensures.size ∙ ap length c.as_mut_slice.ensures.value in
    let fits : length new ≤ made.len = omega (arith, long, made.ok) in
    let size : length new ≡ c.args.size = omega (arith, long, made.ok, c.in_ok-made.ensures.len) in
    ap length (written_over made.items new made.len long fits) ∙ size

pub returns-clause-bits : goal.returns-clause-bits
returns-clause-bits c =
    let made = c.in_ok-made.made in
    let new = c.assign.new.assignment in
    let long : length new ≡ length made.items = c.assign.ensures.size ∙ ap length c.as_mut_slice.ensures.value in
    let fits : length new ≤ made.len = omega (arith, long, made.ok) in
    subst (λ (l : List Bool). HasBits c.args.vars.now c.args.bits.now (length c.args.vars.now) l) (sym (written_over made.items new made.len long fits)) c.assign.ensures.bits
