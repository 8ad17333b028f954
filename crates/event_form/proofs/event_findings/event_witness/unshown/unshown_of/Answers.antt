-- The frame, the values and the name are those of the difference.
use Rattle.std.proofs.Common.{◌<◌, ℕ, Bool, List, length, sym, subst}
use Rattle.std.specs.List.{All}
use Rattle.event_nodes.specs.Nodes.{EventGraphView}
use Rattle.event_form.specs.Frames.{TellsFrame}
use Rattle.event_form.specs.event_findings.event_witness.Sequences.{AreSidesOf}
use Rattle.event_form.proofs.event_findings.event_witness.unshown.unshown_of.Goals as goal

pub frame_of-requires-clause-within : goal.frame_of-requires-clause-within
frame_of-requires-clause-within c =
    subst (λ (w : EventGraphView). All (λ v. v < length w.places) c.as_slice-vars.result.now) (sym c.graph.ensures) (subst (All (λ v. v < length c.args.events.now.events.places)) (sym c.as_slice-vars.ensures) c.requires.within)

pub returns : goal.returns
returns c = record {
  pair_is = c.in_ok-pair.ensures;
  sides = subst (λ (bs : List Bool). AreSidesOf c.args.events.now.events c.args.query.now bs c.in_ok-sides.sides) c.as_slice-bits.ensures c.in_ok-sides.ensures;
  frame_is =
      subst (λ (w : EventGraphView). TellsFrame w c.args.query.now.vars c.args.bits.now c.in_ok-frame.frame.items) c.graph.ensures
      (subst (λ (bs : List Bool). TellsFrame c.graph.result.now c.args.query.now.vars bs c.in_ok-frame.frame.items) c.as_slice-bits.ensures (subst (λ (vs : List ℕ). TellsFrame c.graph.result.now vs c.as_slice-bits.result.now c.in_ok-frame.frame.items) c.as_slice-vars.ensures c.in_ok-frame.ensures));
}
