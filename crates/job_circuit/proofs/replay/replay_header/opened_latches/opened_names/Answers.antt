use Rattle.std.proofs.Common.{◌∙◌, List, [], ◌∷◌, ◌++◌, ℕ, length, sym, ap, arith}
use Rattle.std.specs.List.{filter}
use Rattle.std.proofs.lemmas.List.{take_all}
use Rattle.circuit_theory.proofs.Lists.{length-map}
use Rattle.flat_net.specs.declared.parts.LatchAt.{LatchAt}
use Rattle.std.specs.Prelude.{if◌then◌else◌}
use Rattle.base_tables.specs.Table.{is_among as is_entry}
use Rattle.sec_setup.specs.ports.name_tables.Names.{latch_names}
use Rattle.job_circuit.specs.replay.replay_header.Header.{is_opened}
use Rattle.sec_setup.proofs.ports.name_tables.Names.{item_at, latch_name_at}
use Rattle.job_circuit.proofs.replay.replay_header.Opened.{opened_next, opened_more}
use Rattle.job_circuit.proofs.replay.replay_header.opened_latches.opened_names.Goals as goal

pub loop-latch-preserved-then-not-is_opened : goal.loop-latch-preserved-then-not-is_opened
loop-latch-preserved-then-not-is_opened c =
    let a = c.args.a.now in
    let at = item_at a.latches _ c.loop-latch.latch-index c.latch-item.result c.latches-latch-items.ensures c.loop-latch-test.true c.latch-item.is in
    opened_next a c.args.b.now c.args.header.now c.loop-latch.latch-index c.latch-item.result.name c.loop-latch.names (latch_name_at a c.loop-latch.latch-index c.latch-item.result at)
    (ap (is_opened a c.args.b.now c.args.header.now) (sym c.as_slice-name.ensures) ∙ (sym c.is_opened.ensures ∙ c.if-not-is_opened.true)) c.loop-latch.invariant

pub loop-latch-preserved : goal.loop-latch-preserved
loop-latch-preserved c =
    let a = c.args.a.now in
    let at = item_at a.latches _ c.loop-latch.latch-index c.latch-item.result c.latches-latch-items.ensures c.loop-latch-test.true c.latch-item.is in
    opened_more a c.args.b.now c.keeps.ensures.sound c.args.header.now c.loop-latch.latch-index c.latch-item.result.name c.loop-latch.names c.add.new.self (latch_name_at a c.loop-latch.latch-index c.latch-item.result at)
    (ap (is_opened a c.args.b.now c.args.header.now) (sym c.as_slice-name.ensures) ∙ (sym c.is_opened.ensures ∙ c.if-not-is_opened.false)) c.loop-latch.invariant
    (c.in_ok-add.ensures.ok ∙ ap (λ (name : List ℕ). if is_entry c.loop-latch.names name then c.loop-latch.names else c.loop-latch.names ++ name ∷ []) c.as_slice-name.ensures)

pub returns : goal.returns
returns c =
    let a = c.args.a.now in
    c.loop-latch.invariant ∙ ap (λ ns. filter (is_opened a c.args.b.now c.args.header.now) ns) (take_all c.loop-latch.latch-index (latch_names a) (let e = length-map (λ (l : LatchAt). l.name) a.latches in let s = ap length c.latches-latch-items.ensures in omega (arith, e, s, c.loop-latch-test.false)))
