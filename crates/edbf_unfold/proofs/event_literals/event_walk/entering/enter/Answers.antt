-- The frame is interned, and the place put.
use Rattle.std.proofs.Common.{◌≡◌, ℕ, slice_get, Some, refl, sym, subst}
use Rattle.edbf_unfold.specs.declared.event_literals.event_walk.frames.Frame.{Frame}
use Rattle.event_nodes.proofs.Lists.{adds_none, adds_weaker}
use Rattle.edbf_unfold.proofs.event_literals.event_walk.InFrames.{inserted_frame}
use Rattle.edbf_unfold.proofs.event_literals.event_walk.entering.enter.Goals as goal

pub returns-in_err-id-clause-frames : goal.returns-in_err-id-clause-frames
returns-in_err-id-clause-frames c = adds_none (λ (g : Frame). Unit {0}) _ _ c.in_err-id.ensures.err

pub returns-in_err-id-clause-adds : goal.returns-in_err-id-clause-adds
returns-in_err-id-clause-adds c = adds_none _ _ _ refl

pub returns-in_err-add-clause-frames : goal.returns-in_err-add-clause-frames
returns-in_err-add-clause-frames c = (inserted_frame _ _ _ c.in_ok-id.ensures.ok).0

pub returns-in_err-add-clause-few_frames : goal.returns-in_err-add-clause-few_frames
returns-in_err-add-clause-few_frames c = (inserted_frame _ _ _ c.in_ok-id.ensures.ok).1

pub returns-in_err-add-clause-adds : goal.returns-in_err-add-clause-adds
returns-in_err-add-clause-adds c =
    adds_weaker (λ (q : ℕ × ℕ). q ≡ (c.in_ok-id.id, c.args.signal.0)) (λ (q : ℕ × ℕ). (slice_get c.insert.new.self q.0 ≡ Some c.args.frame) × (q.1 ≡ c.args.signal.0)) _ _
    (λ q e. subst (λ (r : ℕ × ℕ). (slice_get c.insert.new.self r.0 ≡ Some c.args.frame) × (r.1 ≡ c.args.signal.0)) (sym e) (c.in_ok-id.ensures.here, refl)) c.add.ensures.adds

pub returns-clause-frames : goal.returns-clause-frames
returns-clause-frames c = (inserted_frame _ _ _ c.in_ok-id.ensures.ok).0

pub returns-clause-few_frames : goal.returns-clause-few_frames
returns-clause-few_frames c = (inserted_frame _ _ _ c.in_ok-id.ensures.ok).1

pub returns-clause-adds : goal.returns-clause-adds
returns-clause-adds c =
    adds_weaker (λ (q : ℕ × ℕ). q ≡ (c.in_ok-id.id, c.args.signal.0)) (λ (q : ℕ × ℕ). (slice_get c.insert.new.self q.0 ≡ Some c.args.frame) × (q.1 ≡ c.args.signal.0)) _ _
    (λ q e. subst (λ (r : ℕ × ℕ). (slice_get c.insert.new.self r.0 ≡ Some c.args.frame) × (r.1 ≡ c.args.signal.0)) (sym e) (c.in_ok-id.ensures.here, refl)) c.add.ensures.adds
