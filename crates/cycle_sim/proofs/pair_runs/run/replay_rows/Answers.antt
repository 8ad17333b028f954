use Rattle.std.proofs.Common.{◌≡◌, ◌∙◌, List, Bool, take, slice_get, Some, refl, sym, ap, subst, arith}
use Rattle.std.proofs.lemmas.List.{length-take-le, take_all}
use Rattle.cycle_sim.proofs.Lists.{item_at}
use Rattle.base_tables.proofs.TableLemmas.{take-push}
use Rattle.cycle_sim.specs.pair_runs.Feeds.{fed, PutsCycles}
use Rattle.cycle_sim.proofs.pair_runs.Fed.{at_first, can_step, places_stay}
use Rattle.cycle_sim.proofs.pair_runs.ShownPairs.{IsAt, at_more}
use Rattle.cycle_sim.proofs.pair_runs.run.replay_rows.Goals as goal

pub loop-row-init : goal.loop-row-init
loop-row-init c = at_first c.args.pairs.now c.args.rows.now c.args.rows.now c.args.left.now c.args.right.now c.args.found.now c.args.firsts.now c.requires.left c.requires.right c.requires.none

pub replay_row-requires-clause-left : goal.replay_row-requires-clause-left
replay_row-requires-clause-left c =
    let rows = c.args.rows.now in
    let i = c.loop-row.row-index in
    let at : slice_get rows i ≡ Some c.row-item.result = item_at rows rows i c.row-item.result refl c.loop-row-test.true c.row-item.is in
    can_step c.args.left.now c.loop-row.left rows (take i rows) i c.as_slice.result.now c.requires.left c.loop-row.invariant.left_is (length-take-le i rows (omega (arith, c.loop-row-test.true)))
    (at ∙ ap Some (sym c.as_slice.ensures)) c.requires.few

pub replay_row-requires-clause-right : goal.replay_row-requires-clause-right
replay_row-requires-clause-right c =
    let rows = c.args.rows.now in
    let i = c.loop-row.row-index in
    let at : slice_get rows i ≡ Some c.row-item.result = item_at rows rows i c.row-item.result refl c.loop-row-test.true c.row-item.is in
    can_step c.args.right.now c.loop-row.right rows (take i rows) i c.as_slice.result.now c.requires.right c.loop-row.invariant.right_is (length-take-le i rows (omega (arith, c.loop-row-test.true)))
    (at ∙ ap Some (sym c.as_slice.ensures)) c.requires.few

pub replay_row-requires-clause-places : goal.replay_row-requires-clause-places
replay_row-requires-clause-places c =
    places_stay c.args.left.now c.args.right.now c.loop-row.left c.loop-row.right _ _ c.args.pairs.now c.loop-row.invariant.left_is c.loop-row.invariant.right_is c.requires.places

pub loop-row-preserved : goal.loop-row-preserved
loop-row-preserved c =
    let rows = c.args.rows.now in
    let pairs = c.args.pairs.now in
    let i = c.loop-row.row-index in
    let row = c.as_slice.result.now in
    let at : slice_get rows i ≡ Some row = item_at rows rows i c.row-item.result refl c.loop-row-test.true c.row-item.is ∙ ap Some (sym c.as_slice.ensures) in
    subst (λ (done : List (List Bool)). IsAt (fed c.args.left.now) (fed c.args.right.now) pairs done c.replay_row.new.left c.replay_row.new.right c.args.found.now c.replay_row.new.found c.replay_row.new.firsts) (take-push rows i row at)
    (at_more (fed c.args.left.now) (fed c.args.right.now) pairs (take i rows) row c.loop-row.left c.loop-row.right c.replay_row.new.left c.replay_row.new.right c.args.found.now c.loop-row.found c.replay_row.new.found c.loop-row.firsts c.replay_row.new.firsts c.requires.places
    c.loop-row.invariant c.in_ok-replay_row.ensures.left c.in_ok-replay_row.ensures.right c.in_ok-replay_row.ensures.found)

pub returns : goal.returns
returns c =
    let rows = c.args.rows.now in
    subst (λ (done : List (List Bool)). PutsCycles (fed c.args.left.now) (fed c.args.right.now) c.args.pairs.now done c.args.found.now c.loop-row.found c.loop-row.firsts) (take_all c.loop-row.row-index rows (omega (arith, c.loop-row-test.false)))
    c.loop-row.invariant.puts
