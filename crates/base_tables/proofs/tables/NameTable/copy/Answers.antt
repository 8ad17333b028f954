-- Each name is new, since none stands twice.
use Rattle.std.proofs.Common.{◌∙◌, ◌++◌, ◌∷◌, [], ap}
use Rattle.base_tables.specs.Table.{is_among}
use Rattle.base_tables.proofs.TableLemmas.{not_before, take-push}
use Rattle.base_tables.proofs.tables.NameTable.copy.Goals as goal

pub put-requires-clause-new : goal.put-requires-clause-new
put-requires-clause-new c =
    ap (λ names. is_among names c.name.result.now) c.loop-id.invariant ∙ not_before c.args.self.now c.loop-id.id c.name.result.now c.keeps.ensures c.name.ensures

pub loop-id-preserved : goal.loop-id-preserved
loop-id-preserved c =
    c.in_ok-put.ensures.ok ∙ ap (λ names. names ++ c.name.result.now ∷ []) c.loop-id.invariant ∙ take-push c.args.self.now c.loop-id.id c.name.result.now c.name.ensures
