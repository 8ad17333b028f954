-- By the place.
use Rattle.std.proofs.Common.{◌≡◌, ◌++◌, codes, OnOk, sym, subst}
use Rattle.obligations.specs.declared.outcome.verdict.LimitAt.{LimitAt}
use Rattle.obligations.specs.outcome.Report.{limit_text}
use Rattle.obligations.proofs.outcome.text.put_limit_at.Goals as goal

pub returns-in-Assume : goal.returns-in-Assume
returns-in-Assume c = subst (λ (at : LimitAt). OnOk c.put.result (c.put.new.text.items ≡ c.args.text.now.items ++ (codes "verdict limit " ++ limit_text at))) (sym c.in-Assume.is) c.put.ensures.ok

pub returns-in-Recover : goal.returns-in-Recover
returns-in-Recover c = subst (λ (at : LimitAt). OnOk c.put_latch.result (c.put_latch.new.text.items ≡ c.args.text.now.items ++ (codes "verdict limit " ++ limit_text at))) (sym c.in-Recover.is) c.put_latch.ensures

pub returns-in-Class : goal.returns-in-Class
returns-in-Class c = subst (λ (at : LimitAt). OnOk c.put_latch-in-Class.result (c.put_latch-in-Class.new.text.items ≡ c.args.text.now.items ++ (codes "verdict limit " ++ limit_text at))) (sym c.in-Class.is) c.put_latch-in-Class.ensures

pub returns-in-Pair : goal.returns-in-Pair
returns-in-Pair c = subst (λ (at : LimitAt). OnOk c.put_pair_name.result (c.put_pair_name.new.text.items ≡ c.args.text.now.items ++ (codes "verdict limit " ++ limit_text at))) (sym c.in-Pair.is) c.put_pair_name.ensures
