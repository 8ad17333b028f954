-- The assignment has a bit for each variable.
use Rattle.std.proofs.Common.{◌≡◌, ◌∙◌, ◌<◌, ℕ, Bool, false, List, length, get_or, sym, ap, subst, arith}
use Rattle.std.proofs.lemmas.List.Elements.{All-weaker}
use Rattle.std.proofs.lemmas.List.Kept.{AllPairs-from_increasing}
use Rattle.aig.specs.declared.node.Node.{Node}
use Rattle.aig.specs.Graph.{vars_of, IsOrdered}
use Rattle.aig.specs.Values.{node_bits, assigned}
use Rattle.aig.proofs.Meaning.{length-node_bits}
use Rattle.aig.proofs.lane_eval.Signed.{whole}
use Rattle.pair_decide.specs.Queries.{assigned_to}
use Rattle.block_refine.proofs.block_graph.graph.BlockGraph.node_values.Goals as goal

pub bits_at-requires-clause-within : goal.bits_at-requires-clause-within
bits_at-requires-clause-within c = All-weaker (λ (k : ℕ). k < c.args.self.now.limit) (λ (k : ℕ). k < c.max-size.result) (λ k l. omega (arith, l, c.max-size.ensures)) c.args.vars.now c.requires.below

pub bits_at-requires-clause-distinct : goal.bits_at-requires-clause-distinct
bits_at-requires-clause-distinct c = λ i j d l m e. let pair = AllPairs-from_increasing c.args.vars.now c.requires.increasing i j d l m in omega (arith, pair, e)

pub node_bits-requires-clause-ordered : goal.node_bits-requires-clause-ordered
node_bits-requires-clause-ordered c = subst IsOrdered (sym c.nodes-nodes.ensures.nodes) c.nodes-nodes.ensures.graph.ordered

pub node_bits-requires-clause-covers : goal.node_bits-requires-clause-covers
node_bits-requires-clause-covers c =
    let same = ap vars_of c.nodes-nodes.ensures.nodes in
    let long = ap length c.as_slice.ensures.value in
    omega (arith, same, long, c.vars.ensures, c.max-size.ensures, c.in_ok-assignment.ensures.size)

pub returns : goal.returns
returns c =
    let nodes : c.nodes-nodes.result.now ≡ c.args.self.now.aig = c.nodes-nodes.ensures.nodes in
    let given : assigned c.as_slice.result.now ≡ assigned_to c.args.vars.now c.args.bits.now = λ i n. (ap (λ (bs : List Bool). get_or bs n false) c.as_slice.ensures.value ∙ c.in_ok-assignment.ensures.bits n) i in
    let made : c.node_bits.new.scratch ≡ node_bits c.nodes-nodes.result.now (assigned c.as_slice.result.now) = c.node_bits.ensures in
    let size : length c.node_bits.new.scratch ≡ length c.nodes-nodes.result.now = ap length made ∙ length-node_bits c.nodes-nodes.result.now (assigned c.as_slice.result.now) in
    let new_len : length c.node_bits.new.scratch ≡ c.in_ok-values.values.len = omega (arith, size, c.in_ok-values.ensures.len) in
    let old_len : length c.in_ok-values.values.items ≡ c.in_ok-values.values.len = omega (arith, c.in_ok-values.ensures.len) in
    whole c.in_ok-values.values.len c.node_bits.new.scratch c.in_ok-values.values.items new_len old_len
    ∙ (made
    ∙ (ap (λ (g : List Node). node_bits g (assigned c.as_slice.result.now)) nodes
    ∙ ap (node_bits c.args.self.now.aig) given))
