use Rattle.reset_form.proofs.reset_unfold.CoveredCones.{covers_cone}
use Rattle.reset_form.proofs.reset_unfold.laws.reset_variables_cover_cone.Goals as goal

pub returns : goal.returns
returns c = covers_cone
