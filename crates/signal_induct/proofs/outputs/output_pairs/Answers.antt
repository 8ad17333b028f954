use Rattle.signal_induct.proofs.Empty.{none_at, outputs_alone}
use Rattle.signal_induct.proofs.outputs.output_pairs.Goals as goal

pub pairs_of-requires-clause-left_named : goal.pairs_of-requires-clause-left_named
pairs_of-requires-clause-left_named c = none_at c.args.a.now _ _ c.new-names.ensures c.new-left.ensures

pub pairs_of-requires-clause-right_named : goal.pairs_of-requires-clause-right_named
pairs_of-requires-clause-right_named c = none_at c.args.b.now _ _ c.new-names.ensures c.new-right.ensures

pub returns : goal.returns
returns c = outputs_alone c.args.a.now c.args.b.now _ _ _ c.in_ok-pairs.pairs c.new-names.ensures c.in_ok-pairs.ensures
