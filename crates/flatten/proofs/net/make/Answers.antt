use Rattle.std.proofs.Common.{◌++◌, ℕ, Option, sym, subst}
use Rattle.base_tables.specs.Table.{AreDistinct}
use Rattle.net_assembly.specs.Built.{IsBuilt, unclocked, latch_outs}
use Rattle.flatten.specs.Gated.{first_made, gates_in}
use Rattle.flatten.proofs.MadeNets.{distinct_front, begun_at}
use Rattle.flatten.proofs.net.make.Goals as goal

pub begin-requires : goal.begin-requires
begin-requires c =
    subst (λ (o : Option ℕ). AreDistinct (unclocked o c.args.flat.now.inputs ++ latch_outs c.args.flat.now.statements)) (sym c.clock.ensures)
    (distinct_front (first_made c.args.flat.now c.args.wired.now) (gates_in c.args.flat.now c.args.wired.now c.args.order.now) c.requires.laid.once)

pub complete-requires-clause-built : goal.complete-requires-clause-built
complete-requires-clause-built c =
    subst (λ (o : Option ℕ). IsBuilt c.args.flat.now.names (unclocked o c.args.flat.now.inputs ++ latch_outs c.args.flat.now.statements) c.in_ok-assembly.assembly.maker.net c.in_ok-assembly.assembly.signals.items)
    c.clock.ensures c.in_ok-assembly.ensures.built

pub complete-requires-clause-net : goal.complete-requires-clause-net
complete-requires-clause-net c = begun_at c.args.flat.now c.clock.result c.in_ok-assembly.assembly.maker.net c.in_ok-assembly.ensures.net c.args.wired.now.clock c.clock.ensures
