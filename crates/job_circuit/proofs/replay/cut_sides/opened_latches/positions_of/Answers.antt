use Rattle.std.proofs.Common.{arith}
use Rattle.flat_net.proofs.Places.{All-at}
use Rattle.std.specs.List.{Contains}
use Rattle.base_tables.proofs.TableLemmas.{take-push}
use Rattle.sec_setup.specs.ports.name_tables.Names.{latch_names}
use Rattle.job_circuit.proofs.replay.cut_sides.Opened.{no_latch_absent, position_more, named_at}
use Rattle.job_circuit.proofs.replay.cut_sides.opened_latches.positions_of.Goals as goal

pub unreachable-requires : goal.unreachable-requires
unreachable-requires c =
    no_latch_absent c.args.net.now c.name.result.now (All-at (Contains (latch_names c.args.net.now)) c.args.names.now c.loop-id.id c.name.result.now c.name.ensures c.requires) c.in_default.ensures.absent

pub loop-id-preserved : goal.loop-id-preserved
loop-id-preserved c =
    let names = c.args.names.now in
    position_more c.args.net.now names c.loop-id.id c.name.result.now c.in-Some.position c.loop-id.positions c.push.new.self c.name.ensures (take-push names c.loop-id.id c.name.result.now c.name.ensures) c.loop-id.invariant c.in-Some.ensures.here
    c.in_ok-push.ensures.ok

pub returns : goal.returns
returns c = named_at c.args.net.now c.args.names.now c.loop-id.id c.loop-id.positions c.keeps-2.ensures (omega (arith, c.loop-id-test.false, c.len-id-end.ensures)) c.loop-id.invariant
