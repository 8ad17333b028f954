-- By the verdict.
use Rattle.std.proofs.Common.{◌≡◌, ◌++◌, OnOk, sym, subst}
use Rattle.obligations.specs.declared.outcome.verdict.Verdict.{Verdict}
use Rattle.obligations.specs.outcome.Report.{verdict_text}
use Rattle.obligations.proofs.outcome.text.put_verdict.Goals as goal

pub returns-in-Equal : goal.returns-in-Equal
returns-in-Equal c = subst (λ (v : Verdict). OnOk c.put.result (c.put.new.text.items ≡ c.args.text.now.items ++ verdict_text c.args.conflicts v)) (sym c.in-Equal.is) c.put.ensures.ok

pub returns-in-Different : goal.returns-in-Different
returns-in-Different c = subst (λ (v : Verdict). OnOk c.put_witness.result (c.put_witness.new.text.items ≡ c.args.text.now.items ++ verdict_text c.args.conflicts v)) (sym c.in-Different.is) c.put_witness.ensures

pub returns-in-DifferentFrom : goal.returns-in-DifferentFrom
returns-in-DifferentFrom c = subst (λ (v : Verdict). OnOk c.put_reset_witness.result (c.put_reset_witness.new.text.items ≡ c.args.text.now.items ++ verdict_text c.args.conflicts v)) (sym c.in-DifferentFrom.is) c.put_reset_witness.ensures

pub returns-in-Limit : goal.returns-in-Limit
returns-in-Limit c = subst (λ (v : Verdict). OnOk c.put_limit.result (c.put_limit.new.text.items ≡ c.args.text.now.items ++ verdict_text c.args.conflicts v)) (sym c.in-Limit.is) c.put_limit.ensures
