-- All variables are below the limit.
use Rattle.block_refine.proofs.pass.Pass.try_seeded.Goals as goal

pub try_bits-requires-clause-graph : goal.try_bits-requires-clause-graph
try_bits-requires-clause-graph c = c.requires.graph

pub try_bits-requires-clause-pass : goal.try_bits-requires-clause-pass
try_bits-requires-clause-pass c = c.loop-n.invariant

pub try_bits-requires-clause-increasing : goal.try_bits-requires-clause-increasing
try_bits-requires-clause-increasing c = c.in_ok-vars.ensures.increasing

pub try_bits-requires-clause-below : goal.try_bits-requires-clause-below
try_bits-requires-clause-below c = c.in_ok-vars.ensures.below
