use Rattle.event_form.proofs.event_agreement.Agreeing.{queries_agree}
use Rattle.event_form.proofs.event_agreement.laws.same_queries_agree.Goals as goal

pub returns : goal.returns
returns c = queries_agree
