use Rattle.std.proofs.Common.{List, length, subst, arith, ap}
use Rattle.clause_watch.specs.Rows.{IsTaken}
use Rattle.clause_watch.specs.declared.watchers.Watcher.{Watcher}
use Rattle.clause_watch.proofs.Writing.{row_within, removed, in_row, taken}
use Rattle.clause_watch.proofs.watchers.Watchers.remove.Goals as goal

pub swap_remove-requires : goal.swap_remove-requires
swap_remove-requires c =
    let within = in_row c.self.inside.rows.items c.args.self.now c.args.literal c.args.place c.index_of.result c.index_mut-row.result.now c.self.view_is c.index_of.ensures c.index_mut-row.ensures.value c.requires in
    omega (arith, ap (λ (ws : List Watcher). length ws) c.row.view_is, within, c.row.inside.watchers.ok.0)

pub returns : goal.returns
returns c =
    let within = in_row c.self.inside.rows.items c.args.self.now c.args.literal c.args.place c.index_of.result c.index_mut-row.result.now c.self.view_is c.index_of.ensures c.index_mut-row.ensures.value c.requires in
    let old = c.row.inside.watchers in
    let new = c.swap_remove.new.self in
    let less : IsTaken old.items c.args.place new.items =
    taken old.items new.items c.args.place old.len new.len (omega (arith, old.ok.0)) (omega (arith, new.ok.0)) (omega (arith, ap (λ (ws : List Watcher). length ws) c.row.view_is, within, old.ok.0)) c.swap_remove.ensures.len c.swap_remove.ensures.by_index in
    removed c.self.inside.rows.items c.args.self.now c.args.literal c.args.place c.index_of.result c.index_mut-row.result.now new.items
    c.self.view_is c.index_of.ensures (row_within c.args.self.now c.args.literal c.args.place c.requires) c.index_mut-row.ensures.value
    (subst (λ (ws : List Watcher). IsTaken ws c.args.place new.items) c.row.view_is less)
