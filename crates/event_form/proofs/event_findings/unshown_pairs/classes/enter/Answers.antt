-- The root isn't entered; another node is by the class of its entry.
use Rattle.std.proofs.Common.{◌<◌, arith}
use Rattle.event_form.proofs.event_findings.unshown_pairs.Entering.{node_entered, root_entered}
use Rattle.event_form.proofs.event_findings.unshown_pairs.classes.enter.Goals as goal

pub returns-then-node-eq0 : goal.returns-then-node-eq0
returns-then-node-eq0 c = root_entered c.args.events.now.children c.args.node c.args.classes.now.items c.if-node-eq0.true

pub returns : goal.returns
returns c = node_entered c.args.events.now.children c.args.node c.step-step.result.0 c.step-step.result.1 c.args.classes.now.items c.push.new.self.items (let low : 0 < c.args.node = omega (arith, c.if-node-eq0.false) in low) c.step-step.ensures c.in_ok-push.ensures.items
