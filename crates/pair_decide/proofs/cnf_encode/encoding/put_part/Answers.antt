use Rattle.std.proofs.Common.{List, get_or, take, sym, subst, arith}
use Rattle.std.proofs.lemmas.List.{take_all}
use Rattle.std.proofs.lemmas.Option.{slice_get-get_or}
use Rattle.proof_check.specs.Literals.{Literal}
use Rattle.aig.specs.declared.node.Node.{Node}
use Rattle.aig.specs.declared.node.Node.TheVariants.{Constant}
use Rattle.pair_decide.specs.cnf_encode.Encoding.{node_clauses, part_clauses, Adds}
use Rattle.pair_decide.proofs.cnf_encode.Added.{Adds-join, part_clauses-more}
use Rattle.pair_decide.proofs.cnf_encode.encoding.put_part.Goals as goal

pub loop-k-preserved : goal.loop-k-preserved
loop-k-preserved c =
    let k = c.loop-k.k in
    let node = get_or c.args.part.now c.loop-k.k Constant in
    let at = slice_get-get_or c.args.part.now c.loop-k.k Constant c.loop-k-test.true in
    subst (λ (xs : List (List Literal)). Adds xs c.args.clauses.now c.put_node.new.clauses) (sym (part_clauses-more c.args.part.now k node at))
    (Adds-join (part_clauses 0 (take k c.args.part.now)) (node_clauses k node) c.args.clauses.now c.loop-k.clauses c.put_node.new.clauses c.loop-k.invariant c.in_ok-put_node.ensures)

pub put_node-requires-clause-few : goal.put_node-requires-clause-few
put_node-requires-clause-few c = omega (arith, c.loop-k-test.true, c.requires.few)

pub put_node-requires-clause-above : goal.put_node-requires-clause-above
put_node-requires-clause-above c = c.requires.ordered c.loop-k.k (get_or c.args.part.now c.loop-k.k Constant) (slice_get-get_or c.args.part.now c.loop-k.k Constant c.loop-k-test.true)

pub returns : goal.returns
returns c =
    subst (λ (nodes : List Node). Adds (part_clauses 0 nodes) c.args.clauses.now c.loop-k.clauses) (take_all c.loop-k.k c.args.part.now (omega (arith, c.loop-k-test.false, c.loop-k.auto.k-end))) c.loop-k.invariant
