-- One row more is fed.
use Rattle.std.proofs.Common.{◌≡◌, ◌<◌, ◌≤◌, ◌∙◌, ◌+◌, ◌++◌, ◌∷◌, [], List, Bool, map, take, length, refl, sym, ap, subst, arith}
use Rattle.std.specs.Vec.{with_items}
use Rattle.std.proofs.lemmas.List.{with_items_is, map-append, length-map, length-take-le, take_all}
use Rattle.std.specs.List.{All}
use Rattle.base_tables.proofs.TableLemmas.{take-push}
use Rattle.cycle_sim.specs.View.{HasMarkedRun}
use Rattle.cycle_sim.proofs.Lists.{item_at}
use Rattle.circuit_report.specs.sim_report.Checks.{start_bits}
use Rattle.circuit_report.specs.sim_report.Cycles.{PutsCycles, reordered}
use Rattle.circuit_report.proofs.sim_report.Lines.{IsAt, at_more}
use Rattle.circuit_report.proofs.sim_report.cycles.put_cycles.Goals as goal

pub loop-row-preserved : goal.loop-row-preserved
loop-row-preserved c =
    let n = c.args.net.now in
    let power = start_bits n c.args.power.reset c.args.power.bits in
    let columns = c.args.columns.now in
    let rows = c.args.rows.now in
    let i = c.loop-row.row-index in
    let row = c.row-item.result in
    let at = item_at rows rows i row refl c.loop-row-test.true c.row-item.is in
    let size : length c.reorder.new.bits ≡ c.loop-row.bits.len = omega (arith, c.reorder.auto.bits, c.deref_mut.ensures.len) in
    let written : (with_items c.loop-row.bits c.reorder.new.bits).items ≡ c.reorder.new.bits = with_items_is c.loop-row.bits c.reorder.new.bits size in
    let bits : c.reorder.new.bits ≡ reordered columns row = c.reorder.ensures ∙ ap (reordered columns) c.as_slice.ensures in
    let fed : c.deref.result.now ≡ reordered columns row = c.deref.ensures.value ∙ (written ∙ bits) in
    let more : map (reordered columns) (take i rows) ++ reordered columns row ∷ [] ≡ map (reordered columns) (take (i + 1) rows) =
    sym (map-append (reordered columns) (take i rows) (row ∷ [])) ∙ ap (map (reordered columns)) (take-push rows i row at) in
    let next = at_more n c.args.enabled.now power (map (reordered columns) (take i rows)) (reordered columns row) c.loop-row.sim c.put_next.new.sim c.args.text.now.items c.loop-row.text.items c.put_next.new.text.items
    c.loop-row.invariant.0 c.put_next.ensures.net c.put_next.ensures.enabled
    (λ from before h. subst (λ (r : List Bool). HasMarkedRun c.put_next.new.sim from (before ++ r ∷ [])) fed (c.put_next.ensures.run from before h)) c.in_ok-put_next.ensures.put in (
      subst (λ (done : List (List Bool)). IsAt n c.args.enabled.now power done c.put_next.new.sim c.args.text.now.items c.put_next.new.text.items) more next,
      ap length (written ∙ bits) ∙ length-map columns _,
    )

pub reorder-requires-clause-within : goal.reorder-requires-clause-within
reorder-requires-clause-within c =
    subst (λ (z : List Bool). All (λ k. k < length z) c.args.columns.now) (sym (c.as_slice.ensures ∙ c.row-item.is)) (c.requires.within c.loop-row.row-index c.row-item.result c.loop-row-test.true)

pub put_next-requires-clause-room : goal.put_next-requires-clause-room
put_next-requires-clause-room c =
    let done = map (reordered c.args.columns.now) (take c.loop-row.row-index c.args.rows.now) in
    let gone : length done ≡ length (take c.loop-row.row-index c.args.rows.now) = length-map (take c.loop-row.row-index c.args.rows.now) (reordered c.args.columns.now) in
    let inside : c.loop-row.row-index ≤ length c.args.rows.now = omega (arith, c.loop-row-test.true) in
    let front = length-take-le c.loop-row.row-index c.args.rows.now inside in
    omega (arith, c.loop-row.invariant.0.run.goes.cycles, gone, front, c.loop-row-test.true, c.requires.few)

pub returns : goal.returns
returns c =
    subst (λ (zs : List (List Bool)). PutsCycles c.args.net.now c.args.enabled.now (start_bits c.args.net.now c.args.power.reset c.args.power.bits) (map (reordered c.args.columns.now) zs) c.args.text.now.items c.loop-row.text.items)
    (take_all c.loop-row.row-index c.args.rows.now c.loop-row-test.false) c.loop-row.invariant.0.put
