-- The parts fit together.
use Rattle.std.proofs.Common.{List, refl, sym, subst}
use Rattle.aig.specs.declared.node.Node.{Node}
use Rattle.obligations.specs.declared.outcome.verdict.PairResult.{PairResult}
use Rattle.obligations.specs.Asked as graph_level
use Rattle.obligations.specs.Decided.{HaveDecided}
use Rattle.obligations.specs.Verdict.{IsVerdictAt}
use Rattle.event_comparison.specs.Asked.{IsFoundAt}
use Rattle.event_comparison.specs.Shown.{IsShown}
use Rattle.event_comparison.proofs.Showing.{found_at}
use Rattle.event_comparison.proofs.comparison.findings_of.Goals as goal

pub decide_all-requires-clause-asked : goal.decide_all-requires-clause-asked
decide_all-requires-clause-asked c = subst (λ (g : List Node). graph_level.AreAsked g c.args.asked.now) (sym c.aig.ensures) c.requires.queries

pub show-requires-clause-found : goal.show-requires-clause-found
show-requires-clause-found c =
    let w = c.args.events.now.events in
    let d = c.in_ok-decided.decided in
    let at = c.verdict_at-at.result in
    let decided : HaveDecided w.graph c.args.conflicts c.args.asked.now d = subst (λ (g : List Node). HaveDecided g c.args.conflicts c.args.asked.now d) c.aig.ensures c.in_ok-decided.ensures in
    let found : IsVerdictAt d.different d.not_shown d.results at = subst (λ (rs : List PairResult). IsVerdictAt d.different d.not_shown rs at) c.as_slice.ensures c.verdict_at-at.ensures in
    subst (λ (rs : List PairResult). IsFoundAt w c.args.asked.now rs at) (sym c.as_slice-2.ensures) (found_at w c.args.conflicts c.args.asked.now d decided at found)

pub returns-clause-found : goal.returns-clause-found
returns-clause-found c =
    let w = c.args.events.now.events in
    let d = c.in_ok-decided.decided in
    let at = c.verdict_at-at.result in
    record {
      decided = d;
      have = subst (λ (g : List Node). HaveDecided g c.args.conflicts c.args.asked.now d) c.aig.ensures c.in_ok-decided.ensures;
      at = at;
      found = subst (λ (rs : List PairResult). IsVerdictAt d.different d.not_shown rs at) c.as_slice.ensures c.verdict_at-at.ensures;
      results = refl;
      shown = subst (λ (rs : List PairResult). IsShown c.show.new.events c.args.compared.now c.args.asked.now rs at c.in_ok-verdict.verdict) c.as_slice-2.ensures c.in_ok-verdict.ensures.shown;
    }
