-- The nodes are renamed one after the other.
use Rattle.std.proofs.Common.{◌≡◌, ◌+◌, List, get_or, take, sym, subst, arith}
use Rattle.std.specs.List.{AllZip}
use Rattle.std.proofs.lemmas.List.{take_all}
use Rattle.std.proofs.lemmas.List.Elements.{all_zip_more}
use Rattle.std.proofs.lemmas.Option.{slice_get-get_or, get_or_from_slice_get}
use Rattle.aig.specs.declared.node.Node.{Node}
use Rattle.aig.specs.declared.node.Node.TheVariants.{Constant}
use Rattle.aig.specs.lane_eval.Renaming.{IsRenamed}
use Rattle.aig.proofs.lane_eval.places.renamed.Goals as goal

pub loop-node-preserved : goal.loop-node-preserved
loop-node-preserved c =
    let i = c.loop-node.node-index in
    let x = get_or c.args.nodes.now i Constant in
    let here : x ≡ get_or c.args.nodes.now i x = sym (get_or_from_slice_get c.args.nodes.now i x x (slice_get-get_or c.args.nodes.now i Constant c.loop-node-test.true)) in
    subst (λ (new : List Node). AllZip (IsRenamed c.args.vars.now) (take (i + 1) c.args.nodes.now) new) (sym c.in_ok-push.ensures.items)
    (all_zip_more (IsRenamed c.args.vars.now) c.args.nodes.now c.loop-node.new.items i x c.renamed_node.result c.loop-node-test.true here c.loop-node.invariant c.renamed_node.ensures)

pub renamed_node-requires-clause-covered : goal.renamed_node-requires-clause-covered
renamed_node-requires-clause-covered c =
    let i = c.loop-node.node-index in
    c.requires.covered i (get_or c.args.nodes.now i Constant) (slice_get-get_or c.args.nodes.now i Constant c.loop-node-test.true)

pub returns : goal.returns
returns c =
    subst (λ (nodes : List Node). AllZip (IsRenamed c.args.vars.now) nodes c.loop-node.new.items) (take_all c.loop-node.node-index c.args.nodes.now (omega (arith, c.loop-node-test.false))) c.loop-node.invariant
