-- What the sequence shows that was found at first.
use Rattle.job_after.proofs.LeftOut.{shown_as_found}
use Rattle.job_after.proofs.shown.shown_of.Goals as goal

pub returns-then-is_some-clause-shown : goal.returns-then-is_some-clause-shown
returns-then-is_some-clause-shown g c =
    let s = c.args.start.now.stimulus.now in
    shown_as_found (g.S.NetSearch.finds c.args.search.now) c.args.a.now c.args.b.now s.names s.rows c.args.searched.now c.requires.searched c.in_ok-shown.shown c.in_ok-shown.ensures.shown c.in_ok-shown.ensures.goes_on
