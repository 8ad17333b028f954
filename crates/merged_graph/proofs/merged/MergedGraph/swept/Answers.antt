-- What is tried and what is kept are literals of the graph.
use Rattle.std.proofs.Common.{◌*◌, ◌<◌, List, [], length, sym, subst}
use Rattle.std.specs.List.{All}
use Rattle.std.proofs.lemmas.Option.{none-some}
use Rattle.aig.specs.declared.node.Lit.{Lit}
use Rattle.aig.specs.declared.node.Node.{Node}
use Rattle.swept_queries.specs.node_agreement.Standing.{AreStandIns}
use Rattle.merged_graph.proofs.Standing.{lits_within, front_within}
use Rattle.merged_graph.proofs.merged.MergedGraph.swept.Goals as goal

Within : List Node → List Lit → Type 0
Within h lits = All (λ (x : Lit). x.0 < 2 * length h) lits

pub sweep_across-requires-clause-tried : goal.sweep_across-requires-clause-tried
unfolding Within
sweep_across-requires-clause-tried c =
    let g = c.requires.0 in
    let h = c.args.self.now.graph in
    let stand : AreStandIns g h c.as_slice-lits.result.now = subst (λ (lits : List Lit). AreStandIns g h lits) (sym c.as_slice-lits.ensures) c.requires.1.stand in
    let none : Within h c.new-tried.result.items = subst (Within h) (sym c.new-tried.ensures.items) (lits_within g h [] (λ n y at. absurd (none-some y at))) in
    subst (Within h) (sym c.as_slice.ensures.value) (c.in_ok-put_open.ensures g h stand none)

pub sweep_across-requires-clause-kept : goal.sweep_across-requires-clause-kept
unfolding Within
sweep_across-requires-clause-kept c =
    let g = c.requires.0 in
    let h = c.args.self.now.graph in
    let stand : AreStandIns g h c.as_slice-lits.result.now = subst (λ (lits : List Lit). AreStandIns g h lits) (sym c.as_slice-lits.ensures) c.requires.1.stand in
    let front : Within h c.in_ok-kept.kept.items = subst (Within h) (sym c.in_ok-kept.ensures.items) (front_within g h c.as_slice-lits.result.now stand _) in
    subst (Within h) (sym c.as_slice-2.ensures.value) (c.in_ok-put_open-2.ensures g h stand front)
