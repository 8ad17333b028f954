use Rattle.std.proofs.Common.{◌∙◌, sym}
use Rattle.job_settles.proofs.Firsts.{idle_found, idle_passed, no_idle}
use Rattle.job_settles.proofs.report.first_idle.Goals as goal

pub returns-in-Some : goal.returns-in-Some
returns-in-Some c = sym (idle_found c.args.cares.now c.loop-care.care-index c.care-item.result c.loop-care.invariant c.loop-care-test.true c.care-item.is c.in-Some.latch.now (sym c.in-Some.ensures))

pub loop-care-preserved : goal.loop-care-preserved
loop-care-preserved c = idle_passed c.args.cares.now c.loop-care.care-index c.care-item.result c.loop-care.invariant c.loop-care-test.true c.care-item.is (sym c.in_default.ensures)

pub returns : goal.returns
returns c = sym (no_idle c.args.cares.now c.loop-care.care-index c.loop-care.invariant c.loop-care-test.false)
