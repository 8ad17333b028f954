-- What is taken, and the outcome where that wasn't decided.
use Rattle.std.proofs.Common.{ℕ, List, sym, subst, arith, Err, inl}
use Rattle.sec_setup.proofs.ports.Numbering.{few_shared}
use Rattle.plain_check.specs.declared.under_base.compare_base.error.CompareError.{CompareError}
use Rattle.assume_queries.specs.assume_sequences.assume_taken.Premises.{IsTaken}
use Rattle.plain_check.specs.under_base.Taken.{IsUndecidedBy}
use Rattle.plain_check.specs.under_base.Compared.{ComparedUnder}
use Rattle.plain_check.proofs.under_base.Refusals.{untaken_under}
use Rattle.job_check.proofs.compare_under.CutOutcomes.{limit_of}
use Rattle.job_check.proofs.compare_under.comparison.compare_matching.Goals as goal

pub take-requires-clause-few : goal.take-requires-clause-few
take-requires-clause-few c =
    let x = c.args.circuits.now in
    let shared = few_shared x.nets.left.now x.nets.right.now x.shared.now c.requires.matched.shared in
    let left = c.requires.matched.left.few in
    let assumed = c.requires.matched.assumed.few in
    omega (arith, shared, left, assumed)

pub returns-in_ok-undecided-in-Ok-Limit : goal.returns-in_ok-undecided-in-Ok-Limit
returns-in_ok-undecided-in-Ok-Limit c =
    let x = c.args.circuits.now in
    let proof = c.in-Ok-Limit.proof in
    let limit : IsUndecidedBy x.shared.now x.assumed.now c.args.settings.now.conflicts proof = rw c.in-Ok-Limit.field-0-is at c.in-Ok-Limit.ensures in
    inl (limit_of x.nets.left.now x.nets.right.now x.assumed.now c.args.settings.now.conflicts x.shared.now proof c.requires.matched.matches c.requires.matched.shared limit c.keeps.ensures.sound c.keeps-2.ensures.sound
    c.in_ok-undecided-in-Ok-Limit.field-0 c.in_ok-undecided-in-Ok-Limit.ensures)

pub returns-in-Err : goal.returns-in-Err
returns-in-Err c =
    let x = c.args.circuits.now in
    subst (λ (e : CompareError). ComparedUnder x.nets.left.now x.nets.right.now x.assumed.now c.args.settings.now (Err e)) (sym c.refusal_of.ensures)
    (untaken_under x.nets.left.now x.nets.right.now x.assumed.now c.args.settings.now c.in-Err.error c.requires.matched.matches
    (subst (λ (names : List (List ℕ)). IsTaken names x.assumed.now c.args.settings.now.conflicts (Err c.in-Err.error)) c.requires.matched.shared c.in-Err.ensures))
