-- One block more.
use Rattle.std.proofs.Common.{◌∙◌, ◌+◌, ◌++◌, ℕ, List, [], ◌∷◌, map, take, get_or, sym, ap}
use Rattle.std.proofs.lemmas.List.{map-append, take_more, take_all}
use Rattle.block_refine.proofs.block_graph.numbering.variables_of.Goals as goal

pub loop-block-preserved : goal.loop-block-preserved
loop-block-preserved c =
    let block = get_or c.args.blocks.now c.loop-block.block-index 0 in
    let front = take c.loop-block.block-index c.args.blocks.now in
    c.in_ok-push.ensures.ok
    ∙ (ap (λ (ks : List ℕ). ks ++ (c.args.first + block) ∷ []) c.loop-block.invariant
    ∙ (sym (map-append (λ (k : ℕ). c.args.first + k) front (block ∷ [])) ∙ ap (map (λ (k : ℕ). c.args.first + k)) (sym (take_more c.args.blocks.now c.loop-block.block-index 0 c.loop-block-test.true))))

pub returns-clause-latches : goal.returns-clause-latches
returns-clause-latches c = c.loop-block.invariant ∙ ap (map (λ (k : ℕ). c.args.first + k)) (take_all c.loop-block.block-index c.args.blocks.now c.loop-block-test.false)
