-- The variables of the query are all that each side reads.
use Rattle.event_form.proofs.event_findings.event_witness.Covering.{left_covered, right_covered}
use Rattle.event_under.proofs.event_under_form.event_witness_under.sides.sides_of.Goals as goal

pub side_of-requires-clause-covers : goal.side_of-requires-clause-covers
side_of-requires-clause-covers c = left_covered c.args.aig.now c.args.query.now c.requires.query

pub side_of-requires-2-clause-covers : goal.side_of-requires-2-clause-covers
side_of-requires-2-clause-covers c = right_covered c.args.aig.now c.args.query.now c.requires.query
