use Rattle.std.proofs.Common.{ℕ, length, map, subst, arith}
use Rattle.aig.proofs.Growth.{Grows-length}
use Rattle.aig.specs.Graph.{flip}
use Rattle.aig.specs.declared.node.Lit.{Lit}
use Rattle.aig.specs.Making.{MakesAnd}
use Rattle.tree_graph.proofs.Built.{cube_grown}
use Rattle.tree_graph.proofs.covers.make_row.Goals as goal

pub make_cube-requires-clause-some : goal.make_cube-requires-clause-some
make_cube-requires-clause-some c = omega (arith, c.requires.from)

pub make_and-requires-clause-left : goal.make_and-requires-clause-left
make_and-requires-clause-left c =
    let grows = cube_grown c.args.aig.now c.make_cube.new.aig 1 c.args.row.now (map (λ (f : Lit). f.0) c.args.fanins.now) c.in_ok-cube.cube.0 c.in_ok-cube.ensures.made in
    c.not-left.ensures.within (length c.make_cube.new.aig) (omega (arith, c.requires.from, Grows-length c.args.aig.now c.make_cube.new.aig grows))

pub make_and-requires-clause-right : goal.make_and-requires-clause-right
make_and-requires-clause-right c = c.not-right.ensures.within (length c.make_cube.new.aig) c.in_ok-cube.ensures.within

pub returns-clause-made : goal.returns-clause-made
returns-clause-made c =
    let k = c.make_cube.new.aig in
    let h = c.make_and.new.aig in
    let z = c.in_ok-both.both.0 in
    let and : MakesAnd k (flip c.args.from.0) (flip c.in_ok-cube.cube.0) h z =
    subst (λ (l : ℕ). MakesAnd k l (flip c.in_ok-cube.cube.0) h z) c.not-left.ensures.literal (subst (λ (r : ℕ). MakesAnd k c.not-left.result.0 r h z) c.not-right.ensures.literal c.in_ok-both.ensures.made) in
    (k, c.in_ok-cube.cube.0, z, c.in_ok-cube.ensures.made, and, c.not.ensures.literal)

pub returns-clause-within : goal.returns-clause-within
returns-clause-within c = c.not.ensures.within (length c.make_and.new.aig) c.in_ok-both.ensures.within
