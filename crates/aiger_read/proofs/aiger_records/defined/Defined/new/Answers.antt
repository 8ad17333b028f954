use Rattle.aiger_read.proofs.aiger_records.DefinedOnce.{none_marked}
use Rattle.aiger_read.proofs.aiger_records.defined.Defined.new.Goals as goal

pub invariant_of-result-clause-small : goal.invariant_of-result-clause-small
invariant_of-result-clause-small c = c.requires

pub invariant_of-result-clause-marked : goal.invariant_of-result-clause-marked
invariant_of-result-clause-marked c = none_marked c.args.header c.new.result c.in_ok-vec.field-0.items c.new.ensures (c.in_ok-vec.ensures.items_if_clones_equal (λ y e. e))
