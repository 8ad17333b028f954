use Rattle.std.proofs.Common.{◌∙◌, ap}
use Rattle.flat_net.specs.Makes.{MakerView}
use Rattle.aiger_read.proofs.Finishing.{is_net_of}
use Rattle.aiger_read.proofs.assembly.Assembly.complete.Goals as goal

pub returns : goal.returns
returns c =
    is_net_of c.args.plan.now.file.now c.args.plan.now.graph.now c.args.plan.now.order.now c.requires.plan c.add_outputs.new.self.maker.net c.add_outputs.new.self.signals.items c.keeps.ensures.sound c.in_ok-add_outputs.ensures
    c.finish-net.result (c.finish-net.ensures ∙ ap (λ (m : MakerView). m.net) c.replace.ensures.value ∙ c.set_nexts.ensures.net) c.keeps-2.ensures.sound
