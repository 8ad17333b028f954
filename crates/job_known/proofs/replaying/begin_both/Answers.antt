-- Both nets begin, and so it is told.
use Rattle.std.specs.Prelude.{OnOk}
use Rattle.std.proofs.Common.{◌∙◌, Bool, List, length, ap, Option, Result, Ok, Err}
use Rattle.job_after.proofs.Starts.{long}
use Rattle.job_known.proofs.replaying.begin_both.Goals as goal

on_ok : {E : Type 0} {P Q : Type 0} (r : Result (Unit {0}) E) → (P → Q) → OnOk r P → OnOk r Q
on_ok (Ok u) f h = f h
on_ok (Err e) f h = tt

pub put_begun-requires-clause-left : goal.put_begun-requires-clause-left
put_begun-requires-clause-left c = ap (λ (known : List (Option Bool)). length known) c.deref.ensures.value ∙ long c.args.a.now _ _ c.in_ok-left.left.items c.begin.new.net c.in_ok-left.ensures

pub put_begun-requires-clause-right : goal.put_begun-requires-clause-right
put_begun-requires-clause-right c = ap (λ (known : List (Option Bool)). length known) c.deref-2.ensures.value ∙ long c.args.b.now _ _ c.in_ok-right.right.items c.begin-2.new.net c.in_ok-right.ensures
