use Rattle.clause_watch.proofs.Keeping.{both_undone}
use Rattle.clause_watch.proofs.watchers.Watchers.pop_both.Goals as goal

pub returns : goal.returns
returns c = λ old number m. both_undone old c.args.self.now c.pop.new.self c.pop-2.new.self number c.args.pair.now.first c.args.pair.now.second m c.pop.ensures c.pop-2.ensures
