-- One literal more.
use Rattle.std.proofs.Common.{List, length, sym, ap, subst, arith}
use Rattle.std.proofs.lemmas.Option.{none-some}
use Rattle.aig.specs.declared.node.Lit.{Lit}
use Rattle.swept_queries.specs.node_agreement.Standing.{AreStandIns}
use Rattle.swept_queries.proofs.node_agreement.Stood.{AreStandIns-push}
use Rattle.merged_graph.proofs.stand_ins.with_literal.Goals as goal

pub loop-n-init : goal.loop-n-init
loop-n-init c = record {
  each = ap length c.new-made.ensures.items;
  stand = λ g h are s. subst (λ (made : List Lit). AreStandIns g h made) (sym c.new-made.ensures.items) (λ n y at. absurd (none-some y at));
}

pub loop-n-preserved : goal.loop-n-preserved
loop-n-preserved c = record {
  each = omega (arith, c.in_ok-push.ensures.len, c.loop-n.invariant.each);
  stand = λ g h are s.
      subst (λ (made : List Lit). AreStandIns g h made) (sym c.in_ok-push.ensures.items)
      (AreStandIns-push g h c.loop-n.made.items c.loop-n.n c.literal_of.result (sym c.loop-n.invariant.each) (c.loop-n.invariant.stand g h are s) (c.literal_of.ensures g h are s));
}
