use Rattle.std.proofs.Common.{arith, eq-eqb}
use Rattle.aiger_read.proofs.aiger_records.Words.{place_found, place_none}
use Rattle.aiger_read.proofs.aiger_records.cuts.place_of.Goals as goal

pub returns-then-b-byte-clause-place : goal.returns-then-b-byte-clause-place
returns-then-b-byte-clause-place c =
    place_found _ c.args.bytes.now c.loop-place.place (omega arith) c.loop-place.invariant (eq-eqb _ _ c.if-b-byte.true)

pub returns-clause-place : goal.returns-clause-place
returns-clause-place c = place_none _ c.args.bytes.now (λ k h. c.loop-place.invariant k (omega arith))
