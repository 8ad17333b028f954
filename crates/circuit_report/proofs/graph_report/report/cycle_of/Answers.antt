-- The latches at the places that the graph tells.
use Rattle.std.proofs.Common.{◌≡◌, ◌∙◌, false, List, length, replicate, ap}
use Rattle.flat_net.specs.declared.parts.LatchAt.{LatchAt}
use Rattle.circuit_report.proofs.graph_report.Found.{found_in, within_in}
use Rattle.circuit_report.proofs.graph_report.report.cycle_of.Goals as goal

pub returns-clause-within : goal.returns-clause-within
returns-clause-within c = within_in c.args.net.now c.args.graph.now c.requires c.in_ok-found.found c.in_ok-found.ensures.within

pub returns-clause-found : goal.returns-clause-found
returns-clause-found c = λ mode is.
    let n = c.args.net.now in
    let unset : c.in_ok-unset.unset ≡ replicate (length n.latches) false = c.in_ok-unset.ensures ∙ ap (λ (latches : List LatchAt). replicate (length latches) false) c.latches.ensures in
    let told = c.in_ok-found.ensures in
    found_in mode n c.args.graph.now is c.in_ok-unset.unset (length n.latches) unset c.in_ok-found.found told.none told.within told.cycle told.least
