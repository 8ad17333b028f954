-- A frame without a latch put is its own.
use Rattle.std.proofs.Common.{◌≡◌, slice_get, Some, refl, subst}
use Rattle.edbf_unfold.specs.declared.event_literals.event_walk.frames.Frame.{Frame}
use Rattle.edbf_unfold.specs.declared.event_literals.event_walk.frames.Put.{Put}
use Rattle.event_nodes.proofs.Lists.{adds_none}
use Rattle.edbf_unfold.proofs.event_literals.event_walk.InFrames.{inserted_frame}
use Rattle.edbf_unfold.proofs.event_literals.event_walk.entering.free_frame.Goals as goal

pub returns-in-Free-clause-at : goal.returns-in-Free-clause-at
returns-in-Free-clause-at c = subst (λ (o : Put). slice_get c.args.frames.now c.args.id ≡ Some (record { node = c.args.frame.node; put = o })) c.in-Free.is c.requires.framed

pub returns-in-Free-clause-frames : goal.returns-in-Free-clause-frames
returns-in-Free-clause-frames c = adds_none (λ (g : Frame). Unit {0}) _ _ refl

pub returns-in_err-free-in_default-clause-frames : goal.returns-in_err-free-in_default-clause-frames
returns-in_err-free-in_default-clause-frames c = adds_none (λ (g : Frame). Unit {0}) _ _ c.in_err-free-in_default.ensures.err

pub returns-in_ok-free-in_default-clause-frames : goal.returns-in_ok-free-in_default-clause-frames
returns-in_ok-free-in_default-clause-frames c = (inserted_frame _ _ _ c.in_ok-free-in_default.ensures.ok).0

pub returns-in_ok-free-in_default-clause-few_frames : goal.returns-in_ok-free-in_default-clause-few_frames
returns-in_ok-free-in_default-clause-few_frames c = (inserted_frame _ _ _ c.in_ok-free-in_default.ensures.ok).1
