use Rattle.std.proofs.Common.{◌≡◌, true, false, refl, sym, ap}
use Rattle.event_settles.specs.declared.cares.Care.{Care}
use Rattle.event_settles.specs.declared.cares.Care.TheVariants as care
use Rattle.job_settles.specs.Report.{is_never}
use Rattle.job_settles.proofs.Firsts.{found, passed, none_found}
use Rattle.job_settles.proofs.report.first_never.Goals as goal

pub returns-in-Never : goal.returns-in-Never
returns-in-Never c =
    let here : is_never c.care-item.result ≡ true = ap (λ (x : Care). is_never (record { name = c.care-item.result.name; care = x })) c.in-Never.is in
    sym (found is_never c.args.cares.now c.loop-care.care-index c.care-item.result c.loop-care.invariant c.loop-care-test.true c.care-item.is here)

pub loop-care-preserved : goal.loop-care-preserved
loop-care-preserved c = passed is_never c.args.cares.now c.loop-care.care-index c.care-item.result c.loop-care.invariant c.loop-care-test.true c.care-item.is (other c.care-item.result.care refl)
  where
    other : (x : Care) → c.care-item.result.care ≡ x → is_never c.care-item.result ≡ false
    other care.Met e = ap (λ (y : Care). is_never (record { name = c.care-item.result.name; care = y })) e
    other (care.Never idle) e = absurd (c.in_default.not-Never idle e)
    other (care.Limit proof) e = ap (λ (y : Care). is_never (record { name = c.care-item.result.name; care = y })) e

pub returns : goal.returns
returns c = sym (none_found is_never c.args.cares.now c.loop-care.care-index c.loop-care.invariant c.loop-care-test.false)
