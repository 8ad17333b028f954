-- One more within the graph.
use Rattle.std.proofs.Common.{◌*◌, ◌<◌, length, sym, subst}
use Rattle.std.specs.List.{All}
use Rattle.std.proofs.lemmas.List.Elements.{All-push}
use Rattle.aig.specs.declared.node.Lit.{Lit}
use Rattle.merged_graph.proofs.targets.put_literal.Goals as goal

pub returns-in_ok-push : goal.returns-in_ok-push
returns-in_ok-push c = λ g h are old.
    subst (All (λ (x : Lit). x.0 < 2 * length h)) (sym c.in_ok-push.ensures.items) (All-push (λ (x : Lit). x.0 < 2 * length h) c.args.found.now.items c.in-Some.y old (c.in-Some.ensures g h are).within)
