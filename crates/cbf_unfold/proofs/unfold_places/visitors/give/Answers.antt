-- The word has the bits more.
use Rattle.cbf_unfold.proofs.unfold_places.Words.{gives_one}
use Rattle.cbf_unfold.proofs.unfold_places.visitors.give.Goals as goal

pub returns : goal.returns
returns c = gives_one c.args.words.now c.args.number c.args.word c.requires
