-- The item goes last.
use Rattle.std.proofs.Common.{List, [], ◌∷◌, ◌++◌, ap, ◌∙◌}
use Rattle.base_lists.proofs.list.Seq.push.Goals as goal

pub returns-clause-ok : goal.returns-clause-ok
returns-clause-ok g c = c.in_ok-push.ensures.items ∙ ap (λ (items : List g.row.T.Denot). items ++ c.args.item ∷ []) c.self.view_is
