use Rattle.std.proofs.Common.{◌<◌, ℕ, get_or, subst, sym}
use Rattle.net_assembly.proofs.Building.{input_at, input_within, name_in}
use Rattle.net_assembly.proofs.Nexts.{read_at}
use Rattle.net_assembly.proofs.Begun.{outputs_take}
use Rattle.flatten.proofs.assemble.Assembly.add_outputs.Goals as goal

pub loop-output-preserved : goal.loop-output-preserved
loop-output-preserved c =
    let items = c.as_slice-output-items.result.now in
    let n : ℕ = get_or items c.loop-output.output-index 0 in
    let at = input_at c.args.flat.now.outputs items c.loop-output.output-index c.as_slice-output-items.ensures c.loop-output-test.true in
    let low = subst (λ (k : ℕ). n < k) (sym c.requires.size) (input_within c.args.flat.now.names c.args.flat.now.outputs c.loop-output.output-index n at c.args.flat.now.outputs_within) in (
      outputs_take c.args.flat.now.names c.args.self.now.signals.items c.args.flat.now.outputs items c.args.self.now.maker c.loop-output.self.maker c.output.new.self c.loop-output.output-index c.name.result.now c.index-signal.result.now
          c.as_slice-output-items.ensures c.loop-output-test.true c.loop-output.invariant.0 c.in_ok-output.ensures.ok (name_in c.args.flat.now.names n c.name.result.now c.name.ensures)
          (read_at c.loop-output.self.signals.items c.args.self.now.signals.items n c.index-signal.result.now c.loop-output.invariant.1 low c.index-signal.ensures),
      c.loop-output.invariant.1,
    )
