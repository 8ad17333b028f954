-- One position more.
use Rattle.std.proofs.Common.{◌∙◌, ℕ, List, [], ◌∷◌, ◌++◌, get_or, sym, ap}
use Rattle.std.proofs.lemmas.List.{take_all, map_more}
use Rattle.sec_setup.specs.declared.cut_points.expose_pick.pairs.LatchPair.{LatchPair}
use Rattle.sec_setup.specs.cut_points.expose_pick.Pairs.{rights}
use Rattle.sec_setup.proofs.cut_points.expose_pick.pairs.rights_of.Goals as goal

pub loop-pair-preserved : goal.loop-pair-preserved
loop-pair-preserved c =
    let common = c.args.common.now in
    let i = c.loop-pair.pair-index in
    let none : LatchPair = record { left = 0; right = 0 } in
    c.in_ok-push.ensures.items ∙ ap (λ (z : List ℕ). z ++ (get_or common i none).right ∷ []) c.loop-pair.invariant ∙ sym (map_more (λ (q : LatchPair). q.right) common i none c.loop-pair-test.true)

pub returns : goal.returns
returns c = c.loop-pair.invariant ∙ ap rights (take_all c.loop-pair.pair-index c.args.common.now c.loop-pair-test.false)
