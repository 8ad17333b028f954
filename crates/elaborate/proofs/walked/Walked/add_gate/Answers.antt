use Rattle.std.proofs.Common.{refl}
use Rattle.std.proofs.lemmas.Result.{on_ok_weaker}
use Rattle.elaborate.proofs.Spelled.{gate_added}
use Rattle.elaborate.proofs.walked.Walked.add_gate.Goals as goal

pub returns : goal.returns
returns c =
    on_ok_weaker c.push.result
    (λ is. gate_added c.args.self.now _ c.numbers.new.table c.args.prefix.now c.args.out.now c.args.fanins.now c.args.model c.args.statement c.in_ok-out.out c.in_ok-reads.reads c.requires
    c.in_ok-reads.ensures.keeps c.in_ok-reads.ensures.named c.in_ok-out.ensures.keeps c.in_ok-out.ensures.named is refl refl) c.push.ensures.ok
