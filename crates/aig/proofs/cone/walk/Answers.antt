use Rattle.std.proofs.Common.{◌≡◌, ◌≤◌, ℕ, length, get_or, subst, arith}
use Rattle.std.proofs.lemmas.Option.{slice_get-get_or}
use Rattle.aig.specs.declared.node.Node.TheVariants.{Constant}
use Rattle.aig.specs.Cone.{IsWalk}
use Rattle.aig.proofs.ConeWalks.{walk-step, few-below}
use Rattle.aig.proofs.cone.walk.Goals as goal

pub bounds-nodes-number : goal.bounds-nodes-number
bounds-nodes-number c =
    let walk = c.loop-at.invariant c.requires.begun.0 c.requires.begun.1 in
    walk.sound.within c.loop-at.at c.key-number.result c.key-number.ensures

pub loop-at-smaller : goal.loop-at-smaller
loop-at-smaller c =
    let walk = c.loop-at.invariant c.requires.begun.0 c.requires.begun.1 in
    let few : length c.loop-at.seen ≤ length c.args.nodes.now = few-below c.loop-at.seen (length c.args.nodes.now) walk.sound.distinct walk.sound.within in
    omega (arith, few, c.loop-at-test.true, c.len.ensures)

pub loop-at-preserved : goal.loop-at-preserved
loop-at-preserved c = λ roots begun.
    let walk = c.loop-at.invariant roots begun in
    let n = c.key-number.result in
    let is = slice_get-get_or c.args.nodes.now n Constant (walk.sound.within c.loop-at.at n c.key-number.ensures) in
    walk-step c.args.nodes.now c.requires.graph roots c.loop-at.seen c.loop-at.at n (get_or c.args.nodes.now n Constant) walk c.key-number.ensures is c.see_operands.new.seen c.in_ok-see_operands.ensures

pub returns : goal.returns
returns c = λ roots begun.
    let walk = c.loop-at.invariant roots begun in
    let done : c.loop-at.at ≡ length c.loop-at.seen = omega (arith, walk.front, c.loop-at-test.false, c.len.ensures) in
    subst (λ (k : ℕ). IsWalk c.args.nodes.now roots c.loop-at.seen k) done walk
