-- What stands for the node before it is carried does so in the graph that has grown, and so does the literal that is put.
use Rattle.std.proofs.Common.{◌≡◌, ◌∙◌, ◌*◌, List, ◌∷◌, [], ◌++◌, length, refl, sym, subst, arith}
use Rattle.aig.specs.declared.node.Lit.{Lit}
use Rattle.aig.specs.Values.{KeepsValues}
use Rattle.aig.proofs.Growth.{Grows-length}
use Rattle.aig.proofs.Meaning.{value-grows}
use Rattle.swept_queries.specs.node_agreement.Standing.{StandsFor, plainly}
use Rattle.swept_queries.proofs.node_agreement.Stood.{stands-grows}
use Rattle.swept_queries.proofs.sweep.Whole.{stand-step, each-step}
use Rattle.obligations.proofs.carries.Remade.put_next.Goals as goal

pub returns : goal.returns
returns c =
    let old = c.args.old.now in
    let f = c.args.self.now.aig in
    let h = c.put_node.new.graph in
    let k = c.carried.new.self.aig in
    let x = c.in_ok-own.own in
    let y = c.in_ok-lit.lit in
    let near = Grows-length f h c.put_node.ensures.grows in
    let far = Grows-length h k c.carried.ensures.grows in
    let keeps : KeepsValues f k = λ a z within. value-grows h k c.carried.ensures.grows a z (omega (arith, within, near)) ∙ value-grows f h c.put_node.ensures.grows a z within in
    let longer = subst (λ (lits : List Lit). c.push.new.self.items ≡ lits ++ y ∷ []) c.carried.ensures.lits c.in_ok-push.ensures.items in
    let here = stands-grows plainly old h k (value-grows h k c.carried.ensures.grows) far (2 * c.args.n) x.0 c.in_ok-own.ensures.stands in
    record {
      each = each-step c.args.self.now.lits.items c.push.new.self.items c.args.n y c.requires.remade.each longer;
      stand = stand-step old f k k c.args.self.now.lits.items c.args.n x y c.requires.remade.stand c.requires.remade.each keeps (omega (arith, near, far)) here refl
          (record { within = c.in_ok-lit.ensures.within; same = λ a. sym (c.in_ok-lit.ensures.same a) }) c.push.new.self.items longer;
    }
