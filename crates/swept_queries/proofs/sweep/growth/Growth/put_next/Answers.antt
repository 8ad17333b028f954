-- What is noted besides changes nothing of what has grown.
use Rattle.std.proofs.Common.{◌≡◌, ◌∙◌, ℕ, List, length, ap, sym, subst, arith}
use Rattle.aig.specs.declared.node.Lit.{Lit}
use Rattle.aig.specs.declared.node.Node.{Node}
use Rattle.aig.specs.Graph.{vars_of}
use Rattle.swept_queries.specs.declared.sweep.growth.Growth.{Growth}
use Rattle.swept_queries.specs.node_agreement.Standing.{AreStandIns, AreChosen}
use Rattle.swept_queries.specs.sweep.Grown.{IsGrown}
use Rattle.swept_queries.specs.sweep.Swept.{HasNoOtherInputs}
use Rattle.swept_queries.proofs.sweep.growth.Growth.put_next.Goals as goal

grown-same : (g : List Node) (w v : Growth) (n : ℕ) → v.graph ≡ w.graph → v.map.items ≡ w.map.items → v.chosen.items ≡ w.chosen.items → IsGrown g w n → IsGrown g v n
grown-same g w v n graph map chosen is = record {
  each = ap length map ∙ is.each;
  stand = subst (λ (h : List Node). AreStandIns g h v.map.items) (sym graph) (subst (λ (lits : List Lit). AreStandIns g w.graph lits) (sym map) is.stand);
  chosen = subst (λ (h : List Node). AreChosen h v.chosen.items) (sym graph) (subst (λ (lits : List Lit). AreChosen w.graph lits) (sym chosen) is.chosen);
  few = omega (arith, ap length graph, is.few);
  vars = ap vars_of graph ∙ is.vars;
  inputs = subst (HasNoOtherInputs g) (sym graph) is.inputs;
}

pub returns : goal.returns
returns c = grown-same c.args.old.now c.put.new.self c.note_end.new.self _ c.note_end.ensures.graph c.note_end.ensures.map c.note_end.ensures.chosen c.in_ok-put.ensures
