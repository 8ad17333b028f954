-- What is judged of both under the assumption.
use Rattle.std.proofs.Common.{◌≡◌, ◌∙◌, ℕ, ◌*◌, ◌<◌, Bool, List, ◌∷◌, [], length, map, refl, sym, ap, subst, arith, inl, Err}
use Rattle.circuit_theory.specs.Joined.{Either}
use Rattle.flat_net.specs.View.{NetView, circuit_of, ports_of}
use Rattle.assume_queries.specs.assume_sequences.assume_taken.Taken.{assumed_by}
use Rattle.signal_refine.specs.declared.assumed.Assumed.{Assumed}
use Rattle.signal_refine.specs.declared.nets.SignalNets.{SignalNets}
use Rattle.signal_refine.specs.Assuming.{IsMet}
use Rattle.signal_induct.proofs.Everywhere.{stronger, agree_stronger}
use Rattle.cycle_under.specs.declared.found.UnderError.{UnderError}
use Rattle.job_under.specs.ties.Judged.{MeetsBeside, ties_text}
use Rattle.job_under.specs.ties.Found.{TiesRefuse}
use Rattle.job_under.proofs.ties.Judgements.{too_large}
use Rattle.job_under.proofs.ties.Meeting.{met_beside}
use Rattle.job_under.proofs.ties.judging.tie_under.Goals as goal

pub induct_where-requires-clause-assumed : goal.induct_where-requires-clause-assumed
induct_where-requires-clause-assumed c =
    let w = c.assumed_of-assumed.ensures in
    let e = ap length w.graph in
    omega (arith, w.lit, e, c.requires.premise.function.unfolded.within)

pub name_of-requires : goal.name_of-requires
name_of-requires c = let one = ap length c.requires.premise.assumed.shape.outputs in omega (arith, one)

pub returns-in-Err : goal.returns-in-Err
returns-in-Err c =
    subst (λ (e : UnderError). TiesRefuse c.args.conflicts c.args.a.now c.args.b.now c.args.c.now e) (sym c.oversized.ensures)
    (too_large c.args.a.now c.args.b.now c.args.c.now c.args.conflicts c.in-Err.error c.requires.matches c.requires.premise.assumed c.in-Err.ensures.refused)

pub returns : goal.returns
returns c =
    let a : NetView = c.args.a.now in
    let b : NetView = c.args.b.now in
    let n : NetView = c.args.c.now in
    let premise = c.args.premise.now in
    let is = c.requires.premise in
    let w : Assumed = c.assumed_of-assumed.result in
    let told = c.assumed_of-assumed.ensures in
    let nets : SignalNets = record { left = c.args.a; right = c.args.b; orders = c.args.orders } in
    let numbers : w.numbers.now ≡ map (λ (p : ℕ × ℕ). p.0) premise.own.places = told.numbers ∙ (c.deref.ensures.value ∙ c.in_ok-numbers.ensures) in
    let all : (x : Either ℕ ℕ → Bool) → MeetsBeside (assumed_by is.assumed) (circuit_of a) x → IsMet w nets x =
    met_beside a b n premise is c.keeps.ensures.values nets refl c.requires.orders w told.graph told.lit numbers in
    let made = c.in-Ok.made in
    let j = c.in_ok-judged.judged in
    inl (record {
      matches = c.requires.matches;
      assumed = is.assumed;
      light = c.in-Ok.ensures.light;
      made = made;
      is = stronger (IsMet w nets) (MeetsBeside (assumed_by is.assumed) (circuit_of a)) all a b made c.in-Ok.ensures.made;
      agree = λ none. agree_stronger (IsMet w nets) (MeetsBeside (assumed_by is.assumed) (circuit_of a)) all a b (c.in-Ok.ensures.agree none);
      judgement_is = c.in_ok-judged.ensures.judgement;
      proofs_are = c.in_ok-judged.ensures.proofs;
      text_is = subst (λ (name : List ℕ). j.text ≡ ties_text name a b made) (c.name_of.ensures is.assumed.shape.output is.assumed.shape.outputs) c.in_ok-judged.ensures.text;
    })
