use Rattle.event_form.proofs.Answers.{frames_of_differences}
use Rattle.event_form.proofs.laws.differences_are_frames.Goals as goal

pub returns : goal.returns
returns c = frames_of_differences
