use Rattle.std.proofs.Common.{List, [], ◌∷◌, ◌++◌, ◌∙◌, ap}
use Rattle.clause_watch.specs.declared.watchers.Watcher.{Watcher}
use Rattle.clause_watch.proofs.Writing.{added}
use Rattle.clause_watch.proofs.watchers.Watchers.add.Goals as goal

pub returns-clause-ok : goal.returns-clause-ok
returns-clause-ok c =
    added c.self.inside.rows.items c.args.self.now c.args.literal c.args.watcher c.index_of.result c.index_mut-row.result.now c.push.new.self.items c.self.view_is c.index_of.ensures c.requires c.index_mut-row.ensures.value
    (c.in_ok-push.ensures.items ∙ ap (λ (ws : List Watcher). ws ++ c.args.watcher ∷ []) c.row.view_is)
