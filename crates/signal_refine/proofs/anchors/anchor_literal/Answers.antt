use Rattle.std.proofs.Common.{◌*◌, ◌<◌}
use Rattle.std.proofs.lemmas.List.Elements.{All-get_or}
use Rattle.aig.specs.declared.node.Lit.{Lit}
use Rattle.signal_refine.proofs.anchors.anchor_literal.Goals as goal

pub returns-then-place-lits-clause-within : goal.returns-then-place-lits-clause-within
returns-then-place-lits-clause-within c = λ n all some.
    c.turned.ensures.within n (All-get_or (λ (x : Lit). x.0 < 2 * n) c.args.lits.now c.in-Place.place (record { 0 = 0 }) c.if-place-lits.true all)
