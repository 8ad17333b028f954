use Rattle.std.proofs.Common.{arith, eq-eqb}
use Rattle.blif_read.proofs.Pairs.{place_found, place_none}
use Rattle.blif_read.proofs.statements.equals_place.Goals as goal

pub returns-then-byte-eq61-clause-place : goal.returns-then-byte-eq61-clause-place
returns-then-byte-eq61-clause-place c =
    place_found _ c.args.token.now c.loop-place.place (omega arith) c.loop-place.invariant (eq-eqb _ _ c.if-byte-eq61.true)

pub returns-clause-place : goal.returns-clause-place
returns-clause-place c = place_none _ c.args.token.now (λ k h. c.loop-place.invariant k (omega arith))
