use Rattle.std.proofs.Common.{◌<◌, length, ap, arith}
use Rattle.aig.specs.lane_eval.root_classes.Inputs.{inputs_of}
use Rattle.aig.proofs.lane_eval.root_classes.Led.{leads-themselves}
use Rattle.aig.proofs.lane_eval.root_classes.leads.leads_of.Goals as goal

pub returns : goal.returns
returns c =
    let many : 16 < length (inputs_of c.args.aig.now) = omega (arith, ap length c.in_ok-vars.ensures, c.if-len-le-MAX_TABLE_VARIABLES.false, c.len.ensures) in
    leads-themselves c.args.aig.now c.args.roots.now c.in_ok-leads.leads.items c.in_ok-leads.ensures.items c.requires.roots many
