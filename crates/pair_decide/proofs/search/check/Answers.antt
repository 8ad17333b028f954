-- A refutation has no fault.
use Rattle.std.proofs.Common.{subst}
use Rattle.pair_decide.specs.cnf_encode.proof_check.Chains.{CheckFails}
use Rattle.pair_decide.proofs.Searched.{no-fault}
use Rattle.pair_decide.proofs.search.check.Goals as goal

pub unreachable-requires : goal.unreachable-requires
unreachable-requires c =
    no-fault c.args.clauses.now c.args.log.now c.in-Err-Chain.field-0-0 c.in-Err-Chain.field-0-1 c.requires.refutation
    (subst (CheckFails c.args.clauses.now c.args.log.now) c.in-Err-Chain.field-0-is c.in-Err-Chain.ensures.err)
