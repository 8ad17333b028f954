-- What the decision says.
use Rattle.std.proofs.Common.{◌≡◌, List, ℕ, length, sym, ap, subst, arith}
use Rattle.std.proofs.lemmas.Result.{IfOk-weaker}
use Rattle.flat_net.specs.View.{circuit_of}
use Rattle.latch_kinds.specs.unate_enable.Cones.{out_of_latch, places_of}
use Rattle.latch_kinds.specs.unate_enable.Building.{AreClosed}
use Rattle.latch_kinds.specs.declared.unate_enable.recovery.Recovery.{Recovery}
use Rattle.latch_kinds.specs.unate_enable.Recovery.{IsQueryOf, IsAnswer, recovery_of}
use Rattle.latch_kinds.proofs.unate_enable.Cones.{are_places, are_closed, few_places, own_reached}
use Rattle.latch_kinds.proofs.unate_enable.Unate.{answer_from}
use Rattle.latch_kinds.proofs.unate_enable.recovery.ask_over.Goals as goal

pub query_of-requires-clause-closed : goal.query_of-requires-clause-closed
query_of-requires-clause-closed c =
    subst (λ (l : List ℕ). AreClosed (circuit_of c.args.net.now) (out_of_latch c.args.net.now c.args.latch) l c.args.signals.now) (sym c.requires.places.2)
    (are_closed c.args.net.now c.keeps.ensures.sound c.args.latch c.args.signals.now c.requires.reached c.requires.places.0 c.requires.places.1)

pub query_of-requires-clause-few : goal.query_of-requires-clause-few
query_of-requires-clause-few c =
    let are = are_places c.args.net.now c.keeps.ensures.sound c.args.latch c.args.signals.now c.requires.reached c.requires.places.0 c.requires.places.1 c.requires.latch in
    let few = few_places c.args.net.now c.keeps.ensures.sound c.args.latch c.args.signals.now c.requires.reached (places_of c.args.net.now c.requires.places.0) are in
    omega (arith, few, c.requires.light, ap length c.requires.places.2)

pub returns : goal.returns
returns c =
    let n = c.args.net.now in
    let are = are_places n c.keeps.ensures.sound c.args.latch c.args.signals.now c.requires.reached c.requires.places.0 c.requires.places.1 c.requires.latch in
    let asked = subst (λ (l : List ℕ). IsQueryOf c.args.net.now c.args.latch l c.query_of.new.aig c.in_ok-query.query) c.requires.places.2 c.in_ok-query.ensures in
    let answer = answer_from n c.keeps.ensures.sound c.args.latch c.requires.latch c.args.conflicts c.args.signals.now c.requires.places.0 c.query_of.new.aig c.in_ok-query.query c.in_ok-decision.decision c.requires.places.1 are
    (own_reached n c.keeps.ensures.sound c.args.latch c.args.signals.now c.requires.reached c.requires.own c.requires.latch) c.keeps-2.ensures.graph asked c.in_ok-decision.ensures in
    IfOk-weaker c.recovery_of.result (λ (r : Recovery). r ≡ recovery_of c.in_ok-decision.decision) (IsAnswer c.args.net.now c.args.latch c.args.conflicts)
    (λ r e. subst (IsAnswer c.args.net.now c.args.latch c.args.conflicts) (sym e) answer) c.recovery_of.ensures
