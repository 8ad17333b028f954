-- The literal stands behind an equal one, or is taken too.
use Rattle.std.proofs.Common.{get_or}
use Rattle.std.proofs.lemmas.Option.{slice_get-get_or}
use Rattle.edbf_unfold.proofs.Caring.{and_made, and_again}
use Rattle.edbf_unfold.proofs.event_literals.Lits.{grown_none}
use Rattle.edbf_unfold.proofs.unfolder.care.and_next.Goals as goal

pub returns-then-is_repeated-clause-here : goal.returns-then-is_repeated-clause-here
returns-then-is_repeated-clause-here c =
    let was = c.is_repeated.ensures c.if-is_repeated.true in
    and_again c.args.events.now.graph c.args.lits.now c.args.i (get_or c.args.lits.now c.args.i 0) (slice_get-get_or c.args.lits.now c.args.i 0 c.requires.place) c.args.care.0 was.0 was.1 was.2 c.requires.before

pub returns-then-is_repeated-clause-grown : goal.returns-then-is_repeated-clause-grown
returns-then-is_repeated-clause-grown c = grown_none c.args.events.now 1

pub and-requires-clause-left : goal.and-requires-clause-left
and-requires-clause-left c = c.requires.before.within

pub returns-clause-here : goal.returns-clause-here
returns-clause-here c = and_made c.args.events.now.graph c.args.lits.now c.args.i (get_or c.args.lits.now c.args.i 0) (slice_get-get_or c.args.lits.now c.args.i 0 c.requires.place) c.and.new.self.graph c.and.ensures.grows.graph c.args.care.0 c.and.result c.requires.before c.and.ensures.here c.and.ensures.within
