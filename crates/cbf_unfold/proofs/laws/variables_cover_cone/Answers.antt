use Rattle.cbf_unfold.proofs.Cone.{covers_cone}
use Rattle.cbf_unfold.proofs.laws.variables_cover_cone.Goals as goal

pub returns : goal.returns
returns c = covers_cone
