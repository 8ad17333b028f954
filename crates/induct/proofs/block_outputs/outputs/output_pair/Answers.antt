-- The output's name, and the answer of its query.
use Rattle.std.proofs.Common.{◌≡◌, List, ℕ, Some, sym, subst}
use Rattle.std.specs.List.{Contains}
use Rattle.circuit_theory.specs.Agree.{place_named}
use Rattle.flat_net.specs.View.{circuit_of}
use Rattle.induct.proofs.block_outputs.outputs.output_pair.Goals as goal

pub output_named-requires-clause-there : goal.output_named-requires-clause-there
output_named-requires-clause-there c = subst (λ (name : List ℕ). Contains c.args.names.now name) (sym c.as_slice.ensures) c.requires.there

pub returns : goal.returns
returns c = record {
  name_is = c.in_ok-name.ensures;
  other = c.output_named.result.0;
  other_is = subst (λ (name : List ℕ). place_named (circuit_of c.args.nets.now.right.now).outputs name ≡ Some c.output_named.result.0) c.as_slice.ensures c.output_named.ensures.named;
  answer_is = c.in_ok-answer.ensures;
}
