-- What tells the two classes apart stands at its place, and its frame can be told.
use Rattle.std.proofs.Common.{◌≡◌, ◌<◌, ℕ, Bool, List, length, refl, sym, subst}
use Rattle.std.specs.List.{All}
use Rattle.event_nodes.specs.Nodes.{EventGraphView}
use Rattle.event_form.specs.Frames.{TellsFrame}
use Rattle.event_form.proofs.event_findings.unshown_pairs.Standing.{bits_each, place_within, stands_at, vars_within}
use Rattle.event_form.proofs.event_findings.unshown_pairs.separations.tell.Goals as goal

pub bounds-aparts-high : goal.bounds-aparts-high
bounds-aparts-high c = place_within c.args.events.now c.args.aparts.now c.requires.separated c.args.low c.args.high c.requires.below c.requires.few

pub frame_of-requires-clause-within : goal.frame_of-requires-clause-within
frame_of-requires-clause-within c =
    subst (λ (w : EventGraphView). All (λ v. v < length w.places) c.as_slice.result.now) (sym c.graph-graph.ensures)
    (subst (λ (vs : List ℕ). All (λ v. v < length c.args.events.now.events.places) vs) (sym c.as_slice.ensures)
    (vars_within c.args.events.now c.args.aparts.now c.requires.separated c.args.low c.args.high c.requires.below c.requires.few c.index-aparts-high.result c.index-aparts-high.is))

pub frame_of-requires-clause-each : goal.frame_of-requires-clause-each
frame_of-requires-clause-each c =
    subst (λ (vs : List ℕ). length c.as_slice-2.result.now ≡ length vs) (sym c.as_slice.ensures)
    (subst (λ (bs : List Bool). length bs ≡ length c.index-aparts-high.result.vars) (sym c.as_slice-2.ensures)
    (bits_each c.args.events.now c.args.aparts.now c.requires.separated c.args.low c.args.high c.requires.below c.requires.few c.index-aparts-high.result c.index-aparts-high.is))

pub returns : goal.returns
returns c = record {
  apart = c.index-aparts-high.result;
  at = stands_at c.args.events.now c.args.aparts.now c.requires.separated c.args.low c.args.high c.requires.below c.requires.few c.index-aparts-high.result c.index-aparts-high.is;
  low_is = refl;
  high_is = refl;
  low_latch = refl;
  high_latch = refl;
  left = refl;
  right = refl;
  frame =
      subst (λ (w : EventGraphView). TellsFrame w c.index-aparts-high.result.vars c.index-aparts-high.result.bits c.in_ok-frame.frame.items) c.graph-graph.ensures
      (subst (λ (bs : List Bool). TellsFrame c.graph-graph.result.now c.index-aparts-high.result.vars bs c.in_ok-frame.frame.items) c.as_slice-2.ensures
      (subst (λ (vs : List ℕ). TellsFrame c.graph-graph.result.now vs c.as_slice-2.result.now c.in_ok-frame.frame.items) c.as_slice.ensures c.in_ok-frame.ensures));
}
