-- One pair more.
use Rattle.std.proofs.Common.{◌≡◌, ℕ, ◌+◌, ◌<◌, ◌≤◌, ◌++◌, ◌∷◌, [], List, length, take, slice_get, Some, sym, subst, arith}
use Rattle.std.proofs.lemmas.List.{take_all}
use Rattle.circuit_theory.proofs.Lists.{zip_push}
use Rattle.flat_net.proofs.Nets.{some_at}
use Rattle.obligations.specs.declared.obligation.Obligation.{Obligation}
use Rattle.sec_setup.specs.declared.ports.pairs.SignalPair.{SignalPair}
use Rattle.sec_setup.specs.declared.setup.Setup.{Setup}
use Rattle.reset_form.specs.declared.reset_functions.bases.Bases.{Bases}
use Rattle.reset_form.specs.declared.reset_functions.functions.Functions.{Functions}
use Rattle.reset_form.specs.reset_asked.Asked.{AskedOf, AreAsked}
use Rattle.cbf_unfold.proofs.shift_variables.Assignments.{take_next}
use Rattle.reset_form.proofs.reset_asked.questions.ask.Goals as goal

asked_more : (s : Setup) (b : Bases) (f : Functions) (pairs : List SignalPair) (i : ℕ) (asked made : List Obligation) (o : Obligation) → i < length pairs → ((p : SignalPair) → slice_get pairs i ≡ Some p → AskedOf s b f p o) → made ≡ asked ++ o ∷ [] →
    AreAsked s b f (take i pairs) asked → AreAsked s b f (take (i + 1) pairs) made
asked_more s b f pairs i asked made o inside is same are =
    let k = some_at pairs i inside in
    subst (AreAsked s b f (take (i + 1) pairs)) (sym same)
    (subst (λ (ps : List SignalPair). AreAsked s b f ps (asked ++ o ∷ [])) (sym (take_next pairs i k.0 k.1)) (zip_push (AskedOf s b f) (take i pairs) asked k.0 o are (is k.0 k.1)))

pub loop-i-preserved : goal.loop-i-preserved
loop-i-preserved c =
    let inside : c.loop-i.i < length c.args.setup.now.pairs = omega arith in
    asked_more c.args.setup.now c.args.bases c.args.functions.now c.args.setup.now.pairs c.loop-i.i c.loop-i.asked.items c.push.new.self.items c.in_ok-obligation.obligation inside c.in_ok-obligation.ensures c.in_ok-push.ensures.items c.loop-i.invariant

pub returns : goal.returns
returns c =
    let pairs = c.args.setup.now.pairs in
    let past : length pairs ≤ c.loop-i.i = omega arith in
    subst (λ (ps : List SignalPair). AreAsked c.args.setup.now c.args.bases c.args.functions.now ps c.loop-i.asked.items) (take_all c.loop-i.i pairs past) c.loop-i.invariant
