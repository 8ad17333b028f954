use Rattle.sat_search.proofs.Searching.{bits_push}
use Rattle.sat_search.proofs.search_state.model.Goals as goal

pub loop-index-preserved : goal.loop-index-preserved
loop-index-preserved c =
    bits_push c.args.trail.now.entries c.loop-index.bits c.push.new.self c.loop-index.index c.is_true.result c.loop-index.invariant c.in_ok-push.ensures.ok c.is_true.ensures
