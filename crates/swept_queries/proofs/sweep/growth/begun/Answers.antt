use Rattle.std.proofs.Common.{◌≡◌, ◌∙◌, List, [], ◌∷◌, ◌++◌, length, sym, subst, ap, arith}
use Rattle.aig.specs.declared.node.Lit.{Lit}
use Rattle.aig.specs.Graph.{IsGraph, vars_of}
use Rattle.swept_queries.proofs.sweep.Whole.{begun-stand, begun-vars}
use Rattle.swept_queries.proofs.sweep.Inputs.{inputs_none}
use Rattle.swept_queries.proofs.sweep.growth.begun.Goals as goal

pub returns : goal.returns
returns c =
    let items : c.note.new.self.map.items ≡ record { 0 = 0 } ∷ [] =
    c.note.ensures.map ∙ c.in_ok-push.ensures.items ∙ ap (λ (lits : List Lit). lits ++ record { 0 = 0 } ∷ []) c.new-map.ensures.items in
    record {
      each = ap length items;
      stand = begun-stand c.args.old.now c.note.new.self.graph c.keeps.ensures.graph (subst IsGraph (sym c.note.ensures.graph) c.keeps-2.ensures.graph) c.note.new.self.map.items items;
      chosen = c.in_ok-note.ensures.chosen;
      few = omega (arith, ap length c.note.ensures.graph, ap length c.in_ok-graph.ensures);
      vars = ap vars_of c.note.ensures.graph ∙ ap vars_of c.in_ok-graph.ensures ∙ begun-vars c.args.old.now c.keeps.ensures.graph;
      inputs = inputs_none c.args.old.now c.note.new.self.graph (c.note.ensures.graph ∙ c.in_ok-graph.ensures);
    }
