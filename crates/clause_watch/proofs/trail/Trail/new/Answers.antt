use Rattle.std.proofs.Common.{◌≡◌, arith, ◌∙◌, [], length, ap, sym, None}
use Rattle.clause_watch.proofs.Index.{index_start}
use Rattle.std.proofs.lemmas.List.{replicate_more, length-replicate}
use Rattle.clause_watch.proofs.Visits.{same_trail}
use Rattle.clause_watch.proofs.trail.Trail.new.Goals as goal

pub invariant_of-result : goal.invariant_of-result
invariant_of-result c =
    let same : c.loop-at._at ≡ c.args.variables = omega arith in
    rw (c.new.ensures.items, c.loop-at.invariant, same) (index_start c.args.variables c.requires)

pub loop-at-preserved : goal.loop-at-preserved
loop-at-preserved c = rw (c.in_ok-push.ensures.items, c.loop-at.invariant) (replicate_more c.loop-at._at None)

pub returns : goal.returns
returns c =
    let count : c.loop-at._at ≡ c.args.variables = omega arith in
    let size : length c.loop-at.marks.items ≡ c.args.variables = ap length c.loop-at.invariant ∙ length-replicate c.loop-at._at None ∙ count in
    sym (same_trail (record { variables = c.args.variables; entries = [] }) (record { variables = length c.loop-at.marks.items; entries = c.new.result.items }) [] size c.new.ensures.items)
