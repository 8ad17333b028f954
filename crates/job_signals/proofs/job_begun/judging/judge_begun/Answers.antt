-- By ties, or by blocks.
use Rattle.std.proofs.Common.{Bool, true, false, sym, subst, Result}
use Rattle.job_after.specs.declared.fault.AfterFault.{AfterFault}
use Rattle.job_after.specs.declared.judging.Judged.{Judged}
use Rattle.job_signals.specs.job_begun.Ends.{IsToldBy}
use Rattle.job_signals.proofs.job_begun.Judgements.{ties_told, blocks_told}
use Rattle.job_signals.proofs.job_begun.judging.judge_begun.Goals as goal

pub returns-then-signals : goal.returns-then-signals
returns-then-signals c =
    subst (λ (s : Bool). IsToldBy s c.args.conflicts c.args.a.now c.args.b.now c.by_ties.result) (sym c.if-signals.true)
    (subst (λ (r : Result Judged AfterFault). IsToldBy true c.args.conflicts c.args.a.now c.args.b.now r) (sym c.by_ties.ensures) (ties_told c.args.conflicts c.args.a.now c.args.b.now c.judge_nets.result c.judge_nets.ensures))

pub returns : goal.returns
returns c =
    subst (λ (s : Bool). IsToldBy s c.args.conflicts c.args.a.now c.args.b.now c.by_blocks.result) (sym c.if-signals.false)
    (subst (λ (r : Result Judged AfterFault). IsToldBy false c.args.conflicts c.args.a.now c.args.b.now r) (sym c.by_blocks.ensures) (blocks_told c.args.conflicts c.args.a.now c.args.b.now c.judge_nets-2.result c.judge_nets-2.ensures))
