-- The literal takes the place of the one that was kept.
use Rattle.std.proofs.Common.{◌≡◌, ◌∙◌, ◌*◌, ◌/◌, ◌<◌, length, sym, arith}
use Rattle.swept_queries.specs.node_agreement.Standing.{StandsFor, AreChosen, plainly}
use Rattle.merged_graph.proofs.Standing.{back}
use Rattle.signal_refine.proofs.Knowing.{known_set}
use Rattle.signal_refine.proofs.facts.Facts.keep.Goals as goal

pub returns-then-n-len-clause-known : goal.returns-then-n-len-clause-known
returns-then-n-len-clause-known c =
    let g = c.args.self.now.aig in
    known_set g c.args.self.now.kept.items (c.args.from.0 / 2) c.signed.result (omega (arith, c.if-n-len.true, c.len.ensures))
    (back g g c.args.from.0 c.args.to.0 (record { within = c.requires.within; same = λ a. sym (c.requires.agree a) }) c.signed.result.0 c.signed.ensures.is) c.requires.known
