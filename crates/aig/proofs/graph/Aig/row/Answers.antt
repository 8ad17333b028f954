use Rattle.std.proofs.Common.{ℕ, length, map, subst, arith}
use Rattle.aig.specs.Graph.{flip}
use Rattle.aig.specs.Making.{MakesAnd}
use Rattle.aig.proofs.Growth.{Grows-length, Grows-trans}
use Rattle.aig.proofs.Folds.{row-is}
use Rattle.aig.proofs.graph.Aig.row.Goals as goal

pub and-requires-clause-left : goal.and-requires-clause-left
and-requires-clause-left c =
    c.not-left.ensures.within (length c.cube.new.self) (omega (arith, c.requires.from, Grows-length c.args.self.now c.cube.new.self c.cube.ensures.grows))

pub and-requires-clause-right : goal.and-requires-clause-right
and-requires-clause-right c = c.not-right.ensures.within (length c.cube.new.self) c.in_ok-cube.ensures.within

pub returns-clause-here : goal.returns-clause-here
returns-clause-here c =
    row-is c.cube.new.self c.and.new.self c.and.ensures.grows c.args.from.0 c.args.row.now (map (λ f. f.0) c.args.fanins.now) c.in_ok-cube.cube.0 c.not-left.result.0 c.not-right.result.0 c.in_ok-both.both.0 c.not.result.0
    c.in_ok-cube.ensures.here c.not-left.ensures.literal c.not-right.ensures.literal c.in_ok-both.ensures.here c.not.ensures.literal

pub returns-clause-within : goal.returns-clause-within
returns-clause-within c = c.not.ensures.within (length c.and.new.self) c.in_ok-both.ensures.within

pub returns-clause-grows : goal.returns-clause-grows
returns-clause-grows c = Grows-trans c.args.self.now c.cube.new.self c.and.new.self c.cube.ensures.grows c.and.ensures.grows

pub returns-clause-made : goal.returns-clause-made
returns-clause-made c =
    let k = c.cube.new.self in
    let h = c.and.new.self in
    let z = c.in_ok-both.both.0 in
    let own : MakesAnd k c.not-left.result.0 c.not-right.result.0 h z = (c.in_ok-both.ensures.made, c.in_ok-both.ensures.here) in
    let and : MakesAnd k (flip c.args.from.0) (flip c.in_ok-cube.cube.0) h z =
    subst (λ (l : ℕ). MakesAnd k l (flip c.in_ok-cube.cube.0) h z) c.not-left.ensures.literal (subst (λ (r : ℕ). MakesAnd k c.not-left.result.0 r h z) c.not-right.ensures.literal own) in
    (k, c.in_ok-cube.cube.0, z, c.in_ok-cube.ensures.made, and, c.not.ensures.literal)
