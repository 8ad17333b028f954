-- Without a cycle of latches each signal has a depth.
use Rattle.std.proofs.Common.{length, arith}
use Rattle.circuit_theory.specs.declared.Mode.TheVariants.{Plain}
use Rattle.circuit_theory.specs.Run.{NoneEnabled}
use Rattle.sec_setup.specs.ports.flat_net.View.{circuit_of}
use Rattle.latch_graph.proofs.NoDepth.{no_depth_cycle}
use Rattle.latch_graph.proofs.Skipping.{mode_depth, mode_no_depth}
use Rattle.sec_setup.proofs.depth.depth_of.Goals as goal

pub depth-requires : goal.depth-requires
depth-requires c = omega (arith, c.requires.graph.graph.size)

pub unreachable-requires : goal.unreachable-requires
unreachable-requires c =
    let n = c.args.net.now in
    c.requires.acyclic (no_depth_cycle (circuit_of n) NoneEnabled (length n.drivers) c.keeps.ensures.net c.args.s.0
    (mode_no_depth Plain n c.args.graph.now c.requires.graph c.args.s.0 (c.in_default.ensures.none n c.requires.graph.graph)))

pub returns : goal.returns
returns c = mode_depth Plain c.args.net.now c.args.graph.now c.requires.graph c.args.s.0 _ (c.in-Some.ensures.depth c.args.net.now c.requires.graph.graph)
