use Rattle.std.proofs.Common.{◌≡◌, ◌*◌, ◌<◌, List, [], ◌∷◌, ◌++◌, length, ap, sym, subst, arith}
use Rattle.aig.specs.declared.node.Lit.{Lit}
use Rattle.aig.specs.declared.node.Node.{Node}
use Rattle.swept_queries.specs.node_agreement.Standing.{AreChosen}
use Rattle.swept_queries.specs.sweep.Swept.{HasNoOtherInputs}
use Rattle.swept_queries.proofs.sweep.Whole.{stand-step, each-step, vars-step}
use Rattle.swept_queries.proofs.sweep.growth.Growth.put.Goals as goal

pub returns : goal.returns
returns c =
    let graph = c.note.new.self.graph in
    let y = c.follow-y.result in
    let stands =
    c.follow-y.ensures graph (subst (AreChosen graph) (sym c.as_slice-2.ensures.value) c.in_ok-note.ensures.chosen)
    (subst (λ (g : List Node). c.in_ok-x.x.0 < 2 * length g) (sym c.note.ensures.graph) c.in_ok-x.ensures.stands.within) in
    let longer = subst (λ (lits : List Lit). c.push.new.self.items ≡ lits ++ y ∷ []) c.note.ensures.map c.in_ok-push.ensures.items in
    record {
      each = each-step c.args.self.now.map.items c.push.new.self.items c.args.n y c.requires.grown.each longer;
      stand = stand-step c.args.old.now c.args.self.now.graph c.put_node.new.graph graph c.args.self.now.map.items c.args.n c.in_ok-x.x y
          c.requires.grown.stand c.requires.grown.each c.put_node.ensures.older c.put_node.ensures.more c.in_ok-x.ensures.stands c.note.ensures.graph stands c.push.new.self.items longer;
      chosen = c.in_ok-note.ensures.chosen;
      few = omega (arith, ap length c.note.ensures.graph, c.put_node.ensures.few, c.requires.grown.few);
      vars = vars-step c.args.old.now c.args.self.now.graph c.put_node.new.graph graph c.args.n c.requires.node c.requires.grown.vars c.in_ok-x.ensures.vars c.note.ensures.graph;
      inputs = subst (HasNoOtherInputs c.args.old.now) (sym c.note.ensures.graph) (c.in_ok-x.ensures.inputs c.requires.grown.inputs);
    }
