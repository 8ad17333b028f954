use Rattle.std.proofs.Common.{ℕ, List, [], subst, arith}
use Rattle.std.specs.List.{filter}
use Rattle.aiger_read.specs.Signals.{is_gate}
use Rattle.aiger_read.specs.Made.{HasGates}
use Rattle.aiger_read.proofs.aiger_file.aiger_graph.net_assembly.Nexts.{take_whole}
use Rattle.aiger_read.proofs.assembly.Assembly.add_gates.Goals as goal

pub returns : goal.returns
returns c =
    subst (λ (ls : List ℕ). HasGates c.args.plan.now.file.now c.args.plan.now.order.now (filter (is_gate c.args.plan.now.file.now.records) ls) [] c.loop-place.self.maker.net c.loop-place.self.signals.items)
    (take_whole c.loop-place.place c.args.plan.now.order.now (λ l. omega (arith, l, c.loop-place-test.false))) c.loop-place.invariant
