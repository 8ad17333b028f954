-- What the sequence shows that this search found.
use Rattle.job_base.proofs.sec_files.job_files.Reading.{if_told}
use Rattle.job_after.proofs.LeftOut.{shown_as_found}
use Rattle.job_after.proofs.shown.shown_anew.Goals as goal

pub returns-then-is_some : goal.returns-then-is_some
returns-then-is_some g c =
    let s = c.args.start.now.stimulus.now in
    let finds = g.S.NetSearch.finds c.args.search.now in
    let found = c.in-Some.searched in
    shown_as_found finds c.args.a.now c.args.b.now s.names s.rows found (if_told _ finds found c.in-Some.is c.in_ok-searched.ensures) c.in_ok-shown.shown c.in_ok-shown.ensures.shown c.in_ok-shown.ensures.goes_on
