-- One pair more.
use Rattle.std.proofs.Common.{◌≡◌, ℕ, ◌+◌, ◌<◌, ◌≤◌, ◌++◌, ◌∷◌, [], List, length, take, slice_get, Some, sym, subst, arith}
use Rattle.std.proofs.lemmas.List.{take_all}
use Rattle.circuit_theory.proofs.Lists.{zip_push}
use Rattle.outcome_fits.specs.Obligation.{Obligation}
use Rattle.sec_setup.specs.declared.ports.pairs.SignalPair.{SignalPair}
use Rattle.sec_setup.specs.declared.setup.Setup.{Setup}
use Rattle.plain_asked.specs.declared.functions.Functions.{Functions}
use Rattle.plain_asked.specs.Asked.{AskedApart, AreAskedApart}
use Rattle.cbf_unfold.proofs.shift_variables.Assignments.{take_next}
use Rattle.plain_asked.proofs.PairAt.{element}
use Rattle.plain_asked.proofs.questions.ask_apart.Goals as goal

asked_more : (s : Setup) (f : Functions) (pairs : List SignalPair) (i : ℕ) (asked made : List Obligation) (o : Obligation) → i < length pairs → ((p : SignalPair) → slice_get pairs i ≡ Some p → AskedApart s f p o) → made ≡ asked ++ o ∷ [] → AreAskedApart s f (take i pairs) asked → AreAskedApart s f (take (i + 1) pairs) made
asked_more s f pairs i asked made o inside is same are =
    let k = element pairs i inside in
    subst (AreAskedApart s f (take (i + 1) pairs)) (sym same)
    (subst (λ (ps : List SignalPair). AreAskedApart s f ps (asked ++ o ∷ [])) (sym (take_next pairs i k.0 k.1)) (zip_push (AskedApart s f) (take i pairs) asked k.0 o are (is k.0 k.1)))

pub loop-i-preserved : goal.loop-i-preserved
loop-i-preserved c =
    let inside : c.loop-i.i < length c.args.setup.now.pairs = omega arith in
    asked_more c.args.setup.now c.args.functions.now.functions c.args.setup.now.pairs c.loop-i.i c.loop-i.asked.items c.push.new.self.items c.in_ok-obligation.obligation inside c.in_ok-obligation.ensures c.in_ok-push.ensures.items c.loop-i.invariant

pub returns : goal.returns
returns c =
    let pairs = c.args.setup.now.pairs in
    let past : length pairs ≤ c.loop-i.i = omega arith in
    subst (λ (ps : List SignalPair). AreAskedApart c.args.setup.now c.args.functions.now.functions ps c.loop-i.asked.items) (take_all c.loop-i.i pairs past) c.loop-i.invariant
