-- The latch is free in cycle 0 where it has no initial value.
use Rattle.std.proofs.Common.{[], arith}
use Rattle.std.proofs.lemmas.Option.{slice_get_within}
use Rattle.flat_net.proofs.Drivers.{driven_latch}
use Rattle.reset_form.proofs.reset_unfold.Numbers.{free_here, started_none}
use Rattle.reset_form.proofs.reset_unfold.leaves.free_number.Goals as goal

pub latch_of-requires : goal.latch_of-requires
latch_of-requires c =
    let l = driven_latch c.args.net.now c.keeps.ensures.sound c.args.place.1 c.args.j c.requires.drives in
    slice_get_within c.args.net.now.latches c.args.j l.0 l.1

pub returns-then-place-gt0-clause-none : goal.returns-then-place-gt0-clause-none
returns-then-place-gt0-clause-none c = λ number free. omega (arith, free.0)

pub returns-in-Some-clause-none : goal.returns-in-Some-clause-none
returns-in-Some-clause-none c = started_none c.args.net.now c.keeps.ensures.sound [] c.args.base c.args.place c.args.j c.requires.drives _ c.latch_of.ensures.there _ c.in-Some.ensures.here

pub overflow_add-result : goal.overflow_add-result
overflow_add-result c =
    let l = driven_latch c.args.net.now c.keeps.ensures.sound c.args.place.1 c.args.j c.requires.drives in
    let inside = slice_get_within c.args.net.now.latches c.args.j l.0 l.1 in
    omega (arith, inside, c.requires.room)

pub returns-in-None-clause-here : goal.returns-in-None-clause-here
returns-in-None-clause-here c = free_here c.args.net.now c.keeps.ensures.sound [] c.args.base c.args.place c.args.j c.requires.drives _ c.latch_of.ensures.there c.in-None.ensures.none (omega arith)
