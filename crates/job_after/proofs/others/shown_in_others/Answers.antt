-- The nets that are left can be compared, and what the sequence shows that a search of them found.
use Rattle.job_base.proofs.sec_files.job_files.Reading.{if_told}
use Rattle.job_after.specs.declared.others.Others.{Others}
use Rattle.job_after.specs.Shown.{AreWithout}
use Rattle.job_after.proofs.LeftOut.{shown_as_found, without_comparable}
use Rattle.job_after.proofs.others.shown_in_others.Goals as goal

pub loop-init : goal.loop-init
loop-init g c =
    let a = c.args.a.now in
    let b = c.args.b.now in
    let others = c.in-Some.others in
    without_comparable a b others.left others.right (if_told _ (λ (both : Others). AreWithout a b both.left both.right) others c.in-Some.is c.in_ok-others.ensures) c.requires.left c.requires.right

pub loop-preserved : goal.loop-preserved
loop-preserved g c =
    let l = c.loop.others.left in
    let r = c.loop.others.right in
    let fewer = c.in-Some-3.fewer in
    without_comparable l r fewer.left fewer.right (if_told _ (λ (both : Others). AreWithout l r both.left both.right) fewer c.in-Some-3.is c.in_ok-fewer.ensures) c.loop.invariant.0 c.loop.invariant.1

pub returns-then-is_some : goal.returns-then-is_some
returns-then-is_some g c =
    let s = c.args.start.now.stimulus.now in
    let finds = g.S.NetSearch.finds c.args.search.now in
    let found = c.in-Some-2.found in
    shown_as_found finds c.args.a.now c.args.b.now s.names s.rows found (if_told _ finds found c.in-Some-2.is c.in_ok-found.ensures) c.in_ok-shown.shown c.in_ok-shown.ensures.shown c.in_ok-shown.ensures.goes_on
