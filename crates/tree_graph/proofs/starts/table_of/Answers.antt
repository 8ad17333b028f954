use Rattle.std.proofs.Common.{ℕ, ◌++◌, [], ◌∷◌, ap, ◌∙◌}
use Rattle.std.specs.Prelude.{slice_index_or}
use Rattle.tree_graph.specs.Rooted.{entries}
use Rattle.tree_graph.proofs.Lists.{next_entry, push_more, push_done}
use Rattle.tree_graph.proofs.starts.table_of.Goals as goal

pub put-requires : goal.put-requires
put-requires c =
    (next_entry c.args.places.now c.args.vars.now c.loop-i.table c.loop-i.i 0 c.pair-entry.result c.keeps.ensures c.requires.within c.requires.differ c.loop-i-test.true c.loop-i.invariant c.pair-entry.ensures).1

pub loop-i-preserved : goal.loop-i-preserved
loop-i-preserved c =
    let places = c.args.places.now in
    let vars = c.args.vars.now in
    let same = (next_entry places vars c.loop-i.table c.loop-i.i 0 c.pair-entry.result c.keeps.ensures c.requires.within c.requires.differ c.loop-i-test.true c.loop-i.invariant c.pair-entry.ensures).0 in
    push_more (λ (v : ℕ). slice_index_or places v (0, 0)) vars (entries places vars) c.loop-i.table c.put.new.self c.loop-i.i 0 c.loop-i-test.true c.loop-i.invariant (c.in_ok-put.ensures.ok ∙ ap (λ (e : ℕ × ℕ). c.loop-i.table ++ e ∷ []) same)

pub returns : goal.returns
returns c = push_done (λ (v : ℕ). slice_index_or c.args.places.now v (0, 0)) c.args.vars.now (entries c.args.places.now c.args.vars.now) c.loop-i.table c.loop-i.i c.loop-i-test.false c.loop-i.invariant
