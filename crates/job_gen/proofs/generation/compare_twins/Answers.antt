use Rattle.std.proofs.Common.{false, refl, subst, Result}
use Rattle.circuit_theory.specs.declared.Side.TheVariants.{A, B}
use Rattle.job_gen.specs.pair_gen.Words.{words_of}
use Rattle.job_gen.proofs.pair_gen.Whole.{twin_comparable}
use Rattle.obligations.specs.declared.outcome.verdict.Outcome.{Outcome}
use Rattle.plain_check.specs.declared.under_base.compare_base.error.CompareError.{CompareError}
use Rattle.plain_check.specs.under_base.compare_base.Compared.{Compared}
use Rattle.job_gen.specs.gen_meaning.Found.{settings_of}
use Rattle.job_gen.proofs.gen_meaning.Never.{never_refused}
use Rattle.job_gen.proofs.generation.compare_twins.Goals as goal

pub compare_plainly-requires-clause-uncut : goal.compare_plainly-requires-clause-uncut
compare_plainly-requires-clause-uncut c e = refl

pub compare_plainly-requires-clause-left : goal.compare_plainly-requires-clause-left
compare_plainly-requires-clause-left c = twin_comparable A false (words_of c.args.generation.now.seed) c.args.twins.now.a c.requires.twins.left

pub compare_plainly-requires-clause-right : goal.compare_plainly-requires-clause-right
compare_plainly-requires-clause-right c = twin_comparable B c.args.generation.now.regroup (words_of c.args.generation.now.seed) c.args.twins.now.b c.requires.twins.right

pub stop_of-requires : goal.stop_of-requires
stop_of-requires c =
    never_refused c.args.generation.now c.args.twins.now.a c.args.twins.now.b c.requires.twins c.keeps.ensures.sound c.keeps-2.ensures.sound c.in-Err.error
    (subst (λ (r : Result Outcome CompareError). Compared c.args.twins.now.a c.args.twins.now.b (settings_of c.args.generation.now) r) c.in-Err.is c.compare_plainly.ensures)
