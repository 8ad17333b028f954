-- The frame is told of the query's variables.
use Rattle.std.proofs.Common.{◌∙◌, ◌<◌, ℕ, Bool, List, length, refl, sym, ap, subst}
use Rattle.std.specs.List.{All}
use Rattle.event_under.specs.event_shown_under.event_form.Frames.{TellsFrame}
use Rattle.event_under.proofs.event_under_form.event_witness_under.frame.frame_of.Goals as goal

pub frame_of-requires-clause-within : goal.frame_of-requires-clause-within
frame_of-requires-clause-within c = subst (All (λ (v : ℕ). v < length c.args.ready.made.events.places)) (sym c.as_slice-vars.ensures.value) c.requires.within

pub frame_of-requires-clause-each : goal.frame_of-requires-clause-each
frame_of-requires-clause-each c = ap length c.as_slice.ensures ∙ (c.requires.each ∙ sym (ap length c.as_slice-vars.ensures.value))

pub returns : goal.returns
returns c = record {
  pair_is = refl;
  left_is = refl;
  right_is = refl;
  told = subst (λ (bs : List Bool). TellsFrame c.args.ready.made.events c.args.ready.made.vars.items bs c.in_ok-frame.frame.items) c.as_slice.ensures (subst (λ (vs : List ℕ). TellsFrame c.args.ready.made.events vs c.as_slice.result.now c.in_ok-frame.frame.items) c.as_slice-vars.ensures.value c.in_ok-frame.ensures);
}
