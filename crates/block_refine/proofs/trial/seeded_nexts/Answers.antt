-- As many bits as there are variables.
use Rattle.std.proofs.Common.{ap, length, length-append, arith}
use Rattle.std.proofs.lemmas.Result.{IfOk-weaker}
use Rattle.pair_decide.specs.Queries.{assigned_to}
use Rattle.block_refine.proofs.trial.seeded_nexts.Goals as goal

pub loop-n-preserved : goal.loop-n-preserved
loop-n-preserved c = let long = ap length c.in_ok-push.ensures.ok in grind (arith, length-append, long, c.loop-n.invariant)

pub next_bits-requires-clause-each : goal.next_bits-requires-clause-each
next_bits-requires-clause-each c = let long = ap length c.as_slice.ensures in omega (arith, long, c.loop-n.invariant, c.loop-n-test.false, c.loop-n.auto._n-end)

pub returns : goal.returns
returns c = IfOk-weaker c.next_bits.result _ _ (λ made all. (assigned_to c.args.vars.now c.as_slice.result.now, all)) c.next_bits.ensures
