-- The roots are literals of the graph, and what is known follows from what was.
use Rattle.std.proofs.Common.{◌*◌, ◌<◌, ◌∙◌, List, length, refl, sym, ap, subst}
use Rattle.std.specs.List.{All}
use Rattle.std.proofs.lemmas.Option.{slice_get_within}
use Rattle.swept_queries.specs.sweep.aig.Lit.{Lit}
use Rattle.swept_queries.specs.Roots.{AreMade}
use Rattle.swept_queries.proofs.Listed.{roots_for-within, roots_for-length}
use Rattle.swept_queries.proofs.Stand.{moved_to}
use Rattle.swept_queries.proofs.queries.sweep_known.Goals as goal

pub sweep_open-requires-clause-roots : goal.sweep_open-requires-clause-roots
sweep_open-requires-clause-roots c =
    let some = slice_get_within c.args.aig.now 0 _ c.keeps.ensures.graph.constant in
    subst (All (λ (l : Lit). l.0 < 2 * length c.args.aig.now)) (sym c.in_ok-roots.ensures) (roots_for-within c.args.aig.now c.args.known.now some c.requires.within)

pub known_after-requires : goal.known_after-requires
known_after-requires c = ap length c.as_slice.ensures ∙ (c.in_ok-swept.ensures.each ∙ (ap length c.in_ok-roots.ensures ∙ roots_for-length c.args.known.now))

pub returns : goal.returns
returns c =
    moved_to c.args.aig.now c.args.known.now c.in_ok-roots.roots c.in_ok-swept.swept (record { aig = c.in_ok-swept.swept.aig; known = c.in_ok-known.known }) refl c.in_ok-roots.ensures c.in_ok-swept.ensures
    (subst (λ (ls : List Lit). AreMade c.args.known.now ls c.in_ok-known.known.items) c.as_slice.ensures c.in_ok-known.ensures)
