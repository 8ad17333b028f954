use Rattle.sat_search.proofs.Choosing.{valued_more}
use Rattle.sat_search.proofs.activity.first_free.Goals as goal

pub loop-index-preserved : goal.loop-index-preserved
loop-index-preserved c = let h = c.in-Some in valued_more c.args.trail.now c.loop-index.index _ c.loop-index.invariant c.in-Some.ensures
