use Rattle.std.proofs.Common.{◌≡◌, List, None, subst, sym, arith}
use Rattle.clause_base.specs.Literals.{Literal}
use Rattle.clause_base.specs.Merging.{IsTurn, IsMerged}
use Rattle.clause_base.specs.declared.merge.Merged.{Merged}
use Rattle.clause_base.specs.declared.merge.Places.{Places}
use Rattle.clause_base.specs.declared.merge.Merged.TheVariants.{Union, Clash}
use Rattle.clause_base.proofs.Merges.{start, end}
use Rattle.clause_base.proofs.merge.merge.Goals as goal

-- what a turn comes to, by its answer
turned : (a b out : List Literal) (old new : Places) (m n : Merged) → m ≡ n → IsTurn a b old out new m → IsTurn a b old out new n
turned a b out old new m n is h = subst (IsTurn a b old out new) is h

pub turns-init : goal.turns-init
turns-init c = subst (λ (out : List Literal). IsMerged c.args.left.now c.args.right.now out None 0 0) (sym c.clear.ensures.items) (start c.args.left.now c.args.right.now None)

pub turn-requires-clause-left : goal.turn-requires-clause-left
turn-requires-clause-left c = c.requires.left

pub turn-requires-clause-right : goal.turn-requires-clause-right
turn-requires-clause-right c = c.requires.right

pub turns-preserved : goal.turns-preserved
turns-preserved c = (turned c.args.left.now c.args.right.now c.turn.new.out.items c.turns.at c.turn.new.at c.in_ok-turn.field-0 Union c.in-Union.is c.in_ok-turn.ensures).0

pub turns-smaller : goal.turns-smaller
turns-smaller c =
    let t = turned c.args.left.now c.args.right.now c.turn.new.out.items c.turns.at c.turn.new.at c.in_ok-turn.field-0 Union c.in-Union.is c.in_ok-turn.ensures in
    omega (arith, t.1, t.0.left_in, t.0.right_in)

pub returns-in-Clash : goal.returns-in-Clash
returns-in-Clash c =
    let t = turned c.args.left.now c.args.right.now c.turn.new.out.items c.turns.at c.turn.new.at c.in_ok-turn.field-0 Clash c.in-Clash.is c.in_ok-turn.ensures in
    (t.0, tt, t.1, t.2)

pub returns : goal.returns
returns c = end _ _ _ _ _ _ c.turns.invariant (omega arith) (omega arith)
