-- The left side's literal takes the place of the right side's, which agrees with it.
use Rattle.std.proofs.Common.{List, length, sym, subst, ap, arith}
use Rattle.aig.specs.declared.node.Lit.{Lit}
use Rattle.swept_queries.specs.node_agreement.Standing.{AreStandIns}
use Rattle.merged_graph.proofs.Standing.{stands_too}
use Rattle.merged_graph.proofs.merged.MergedGraph.decide_pair.Goals as goal

pub agree-requires-clause-x : goal.agree-requires-clause-x
agree-requires-clause-x c =
    let g = c.args._other.now in
    let h = c.args.self.now.graph in
    (c.in-Some-Some.ensures g h (subst (λ (lits : List Lit). AreStandIns g h lits) (sym c.as_slice-lits.ensures) c.requires.merged.stand)).within

pub agree-requires-clause-y : goal.agree-requires-clause-y
agree-requires-clause-y c =
    let g = c.args._other.now in
    let h = c.args.self.now.graph in
    (c.in-Some-Some.ensures' g h (subst (λ (lits : List Lit). AreStandIns g h lits) (sym c.as_slice-lits.ensures) c.requires.merged.stand)).within

pub returns-in_ok-made-in-Agree : goal.returns-in_ok-made-in-Agree
returns-in_ok-made-in-Agree c =
    let g = c.args._other.now in
    let h = c.args.self.now.graph in
    let stand : AreStandIns g h c.as_slice-lits.result.now = subst (λ (lits : List Lit). AreStandIns g h lits) (sym c.as_slice-lits.ensures) c.requires.merged.stand in
    let x = c.in-Some-Some.ensures g h stand in
    let y = c.in-Some-Some.ensures' g h stand in
    let right = stands_too g h c.args.right.0 c.in-Some-Some.x.0 c.in-Some-Some.y.0 x.within (c.in_ok-agree.ensures c.in-Agree.is) y in
    record {
      few = omega (arith, c.requires.merged.few, c.in_ok-made-in-Agree.ensures.each, ap length c.from_vec.ensures, ap length c.as_slice-lits.ensures);
      stand = subst (λ (lits : List Lit). AreStandIns g h lits) (sym c.from_vec.ensures) (c.in_ok-made-in-Agree.ensures.stand g h stand right);
    }
