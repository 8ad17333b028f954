use Rattle.event_form.proofs.event_agreement.CutCircuits.{cut_queries_agree}
use Rattle.event_form.proofs.event_agreement.laws.same_cut_queries_agree.Goals as goal

pub returns : goal.returns
returns c = cut_queries_agree
