use Rattle.std.proofs.Common.{map}
use Rattle.blif_read.specs.declared.head.Head.TheVariants as head
use Rattle.blif_read.proofs.Taken.{in_head}
use Rattle.blif_read.proofs.open_model.OpenModel.take_in.Goals as goal

pub returns-in-Inputs : goal.returns-in-Inputs
returns-in-Inputs c = in_head c.args.head head.Inputs c.args.number (map (λ a. a.now) c.args.args.now) c.args.self.now c.end_rows.new.self c.add_inputs.new.self c.add_inputs.result c.in-Inputs.is c.in_ok-end_rows.ensures (c.add_inputs.ensures c.args.number)

pub returns-in-Outputs : goal.returns-in-Outputs
returns-in-Outputs c = in_head c.args.head head.Outputs c.args.number (map (λ a. a.now) c.args.args.now) c.args.self.now c.end_rows.new.self c.add_outputs.new.self c.add_outputs.result c.in-Outputs.is c.in_ok-end_rows.ensures (c.add_outputs.ensures c.args.number)

pub returns-in-Clock : goal.returns-in-Clock
returns-in-Clock c = in_head c.args.head head.Clock c.args.number (map (λ a. a.now) c.args.args.now) c.args.self.now c.end_rows.new.self c.add_clocks.new.self c.add_clocks.result c.in-Clock.is c.in_ok-end_rows.ensures (c.add_clocks.ensures c.args.number)

pub returns-in-Names : goal.returns-in-Names
returns-in-Names c = in_head c.args.head head.Names c.args.number (map (λ a. a.now) c.args.args.now) c.args.self.now c.end_rows.new.self c.begin_rows.new.self c.begin_rows.result c.in-Names.is c.in_ok-end_rows.ensures c.begin_rows.ensures

pub returns-in-Latch : goal.returns-in-Latch
returns-in-Latch c = in_head c.args.head head.Latch c.args.number (map (λ a. a.now) c.args.args.now) c.args.self.now c.end_rows.new.self c.add_latch.new.self c.add_latch.result c.in-Latch.is c.in_ok-end_rows.ensures c.add_latch.ensures

pub returns-in-Subckt : goal.returns-in-Subckt
returns-in-Subckt c = in_head c.args.head head.Subckt c.args.number (map (λ a. a.now) c.args.args.now) c.args.self.now c.end_rows.new.self c.add_subckt.new.self c.add_subckt.result c.in-Subckt.is c.in_ok-end_rows.ensures c.add_subckt.ensures
