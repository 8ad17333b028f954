use Rattle.std.proofs.Common.{◌≡◌, true, false, refl, sym, ap}
use Rattle.event_settles.specs.declared.cares.Care.{Care}
use Rattle.event_settles.specs.declared.cares.Care.TheVariants as care
use Rattle.job_settles.specs.Report.{is_limit}
use Rattle.job_settles.proofs.Firsts.{found, passed, none_found}
use Rattle.job_settles.proofs.report.first_limit.Goals as goal

pub returns-in-Limit : goal.returns-in-Limit
returns-in-Limit c =
    let here : is_limit c.care-item.result ≡ true = ap (λ (x : Care). is_limit (record { name = c.care-item.result.name; care = x })) c.in-Limit.is in
    sym (found is_limit c.args.cares.now c.loop-care.care-index c.care-item.result c.loop-care.invariant c.loop-care-test.true c.care-item.is here)

pub loop-care-preserved : goal.loop-care-preserved
loop-care-preserved c = passed is_limit c.args.cares.now c.loop-care.care-index c.care-item.result c.loop-care.invariant c.loop-care-test.true c.care-item.is (other c.care-item.result.care refl)
  where
    other : (x : Care) → c.care-item.result.care ≡ x → is_limit c.care-item.result ≡ false
    other care.Met e = ap (λ (y : Care). is_limit (record { name = c.care-item.result.name; care = y })) e
    other (care.Never idle) e = ap (λ (y : Care). is_limit (record { name = c.care-item.result.name; care = y })) e
    other (care.Limit proof) e = absurd (c.in_default.not-Limit proof e)

pub returns : goal.returns
returns c = sym (none_found is_limit c.args.cares.now c.loop-care.care-index c.loop-care.invariant c.loop-care-test.false)
