-- The table over the variables' places answers for the graph.
use Rattle.std.proofs.Common.{◌≡◌, ℕ, List, length, refl, sym, subst}
use Rattle.std.specs.List.{AllZip}
use Rattle.aig.specs.declared.node.Node.{Node}
use Rattle.aig.specs.lane_eval.Renaming.{AreCovered, IsRenamed}
use Rattle.aig.proofs.lane_eval.Transported.{part-covered, table-sound, table-answer}
use Rattle.aig.proofs.lane_eval.table.table_of.Goals as goal

covered-at : (vars vars' : List ℕ) (part part' : List Node) → vars' ≡ vars → part' ≡ part → AreCovered vars part → AreCovered vars' part'
covered-at vars vars' part part' e f h = subst (λ (us : List ℕ). AreCovered us part') (sym e) (subst (AreCovered vars) (sym f) h)

renamed-at : (vars vars' : List ℕ) (part part' new : List Node) → vars' ≡ vars → part' ≡ part → AllZip (IsRenamed vars') part' new → AllZip (IsRenamed vars) part new
renamed-at vars vars' part part' new e f h = subst (λ (ns : List Node). AllZip (IsRenamed vars) ns new) f (subst (λ (us : List ℕ). AllZip (IsRenamed us) part' new) e h)

pub renamed-requires-clause-covered : goal.renamed-requires-clause-covered
renamed-requires-clause-covered c =
    covered-at c.args.vars.now c.as_slice-2.result.now c.in_ok-cones.cones.part c.as_slice.result.now c.as_slice-2.ensures c.as_slice.ensures
    (part-covered c.args.aig.now c.args.l.0 c.args.r.0 c.args.care.0 c.args.vars.now c.requires.distinct c.requires.covers c.in_ok-cones.cones c.in_ok-cones.ensures)

pub returns-clause-sound : goal.returns-clause-sound
returns-clause-sound c =
    table-sound c.args.aig.now c.args.l.0 c.args.r.0 c.args.care.0 c.args.vars.now c.requires.distinct c.requires.covers c.in_ok-cones.cones c.in_ok-cones.ensures
    (record { nodes = c.in_ok-nodes.nodes; left = c.in_ok-cones.cones.left; right = c.in_ok-cones.cones.right; care = c.in_ok-cones.cones.care })
    (renamed-at c.args.vars.now c.as_slice-2.result.now c.in_ok-cones.cones.part c.as_slice.result.now c.in_ok-nodes.nodes.items c.as_slice-2.ensures c.as_slice.ensures c.in_ok-nodes.ensures)
    refl refl refl (length c.args.vars.now) refl

pub returns-clause-answers : goal.returns-clause-answers
returns-clause-answers c = λ found least.
    table-answer c.args.aig.now c.args.l.0 c.args.r.0 c.args.care.0 c.args.vars.now c.requires.distinct c.requires.covers c.in_ok-cones.cones c.in_ok-cones.ensures
    (record { nodes = c.in_ok-nodes.nodes; left = c.in_ok-cones.cones.left; right = c.in_ok-cones.cones.right; care = c.in_ok-cones.cones.care })
    (renamed-at c.args.vars.now c.as_slice-2.result.now c.in_ok-cones.cones.part c.as_slice.result.now c.in_ok-nodes.nodes.items c.as_slice-2.ensures c.as_slice.ensures c.in_ok-nodes.ensures)
    refl refl refl found least
