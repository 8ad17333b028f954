use Rattle.std.proofs.Common.{◌∙◌}
use Rattle.aig.proofs.lane_eval.root_classes.narrow.firsts_of.Goals as goal

pub classes-requires-clause-roots : goal.classes-requires-clause-roots
classes-requires-clause-roots c = c.requires.roots

pub classes-requires-clause-covers : goal.classes-requires-clause-covers
classes-requires-clause-covers c = c.as_mut_slice.ensures.len ∙ c.in_ok-assignment.ensures.len ∙ c.vars.ensures

pub classes-requires-clause-places : goal.classes-requires-clause-places
classes-requires-clause-places c = c.as_mut_slice-2.ensures.len ∙ c.in_ok-scratch.ensures.len ∙ c.size.ensures

pub classes-requires-clause-each : goal.classes-requires-clause-each
classes-requires-clause-each c = c.as_mut_slice-3.ensures.len ∙ c.in_ok-bits.ensures.len

pub classes-requires-clause-vars : goal.classes-requires-clause-vars
classes-requires-clause-vars c = c.requires.vars

pub classes-requires-clause-few : goal.classes-requires-clause-few
classes-requires-clause-few c = c.requires.few
