use Rattle.std.proofs.Common.{Bool}
use Rattle.std.specs.Prelude.{IsTrue}
use Rattle.signal_refine.specs.Assuming.{IsMet}
use Rattle.signal_refine.specs.Showing.{Begins, AreInductiveNodes}
use Rattle.signal_refine.proofs.Results.{ok_map}
use Rattle.signal_refine.proofs.refinement.are_shown.Goals as goal

pub returns-then-kept-clause-shown : goal.returns-then-kept-clause-shown
returns-then-kept-clause-shown c =
    ok_map (λ (begun : Bool). IsTrue begun → Begins (IsMet c.args.round.now.assumed c.args.round.now.nets) c.args.round.now.nets c.args.round.now.first c.args.round.now.base.now c.args.nodes.now) (λ (shown : Bool). IsTrue shown → AreInductiveNodes (IsMet c.args.round.now.assumed c.args.round.now.nets) c.args.round.now.nets c.args.round.now.first c.args.round.now.base.now c.args.nodes.now) c.do_begin.result
    (λ begun begins yes. record { begins = begins yes; steps = c.in_ok-kept.ensures.steps c.if-kept.true }) c.do_begin.ensures.begins
