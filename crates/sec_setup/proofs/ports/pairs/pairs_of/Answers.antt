-- One exposed latch more, behind all outputs.
use Rattle.std.proofs.Common.{◌∙◌, List, [], ◌∷◌, ◌++◌, ap, arith}
use Rattle.std.proofs.lemmas.List.{append_assoc}
use Rattle.sec_setup.specs.declared.ports.pairs.SignalPair.{SignalPair}
use Rattle.sec_setup.proofs.ports.NamedPairs.{next_more, all_pairs}
use Rattle.sec_setup.proofs.ports.pairs.pairs_of.Goals as goal

pub loop-k-preserved : goal.loop-k-preserved
loop-k-preserved c =
    let before = c.loop-k.invariant in
    let p : SignalPair = c.in_ok-next_pair.field-0 in
    record {
      outputs = before.outputs;
      nexts = before.nexts ++ p ∷ [];
      pairs_are = c.in_ok-push.ensures.ok ∙ (ap (λ (ps : List SignalPair). ps ++ p ∷ []) before.pairs_are ∙ append_assoc before.outputs before.nexts (p ∷ []));
      outputs_are = before.outputs_are;
      nexts_are = next_more c.args.a.now c.args.b.now c.args.names.now c.args.left.now c.args.right.now c.loop-k.k before.nexts p before.nexts_are c.in_ok-next_pair.ensures;
    }

pub returns : goal.returns
returns c = all_pairs c.args.a.now c.args.b.now c.args.names.now c.args.left.now c.args.right.now c.requires.left_named c.requires.right_named c.loop-k.k c.loop-k.pairs
    (omega (arith, c.loop-k-test.false, c.len-k-end.ensures)) c.loop-k.invariant
