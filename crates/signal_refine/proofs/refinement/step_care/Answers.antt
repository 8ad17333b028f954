-- The care of the next cycle.
use Rattle.std.proofs.Common.{◌≡◌, ◌∙◌, ◌*◌, ◌<◌, ◌≤◌, ℕ, Bool, true, length, arith}
use Rattle.aig.specs.Values.{value}
use Rattle.aig.proofs.Growth.{Grows-length, Grows-trans}
use Rattle.aig.proofs.Meaning.{value-grows}
use Rattle.signal_refine.proofs.Framing.{within_grows, values_grow}
use Rattle.signal_refine.proofs.refinement.step_care.Goals as goal

pub met_literal-requires-2-clause-leaves : goal.met_literal-requires-2-clause-leaves
met_literal-requires-2-clause-leaves c = within_grows c.args.aig.now c.met_literal.new.aig c.in_ok-here.ensures.grows c.args.next.now c.requires.next

pub and_both-requires-clause-left : goal.and_both-requires-clause-left
and_both-requires-clause-left c =
    let more = Grows-length c.met_literal.new.aig c.met_literal-2.new.aig c.in_ok-later.ensures.grows in
    omega (arith, more, c.in_ok-here.ensures.within)

pub returns-clause-care : goal.returns-clause-care
returns-clause-care c =
    let g0 = c.args.aig.now in
    let g1 = c.met_literal.new.aig in
    let g2 = c.met_literal-2.new.aig in
    let here = c.in_ok-here.here in
    λ a m d at next holds onward.
    let first : value g2 a here.0 ≡ true = value-grows g1 g2 c.in_ok-later.ensures.grows a here.0 c.in_ok-here.ensures.within ∙ c.in_ok-here.ensures.value a m at holds in
    c.in_ok-met.ensures.value a first (c.in_ok-later.ensures.value a d (values_grow d g0 g1 c.in_ok-here.ensures.grows a c.args.next.now c.requires.next next) onward)

pub returns-clause-grows : goal.returns-clause-grows
returns-clause-grows c =
    let g0 = c.args.aig.now in
    let g1 = c.met_literal.new.aig in
    let g2 = c.met_literal-2.new.aig in
    let g3 = c.and_both.new.aig in
    Grows-trans g0 g1 g3 c.in_ok-here.ensures.grows (Grows-trans g1 g2 g3 c.in_ok-later.ensures.grows c.in_ok-met.ensures.grows)
