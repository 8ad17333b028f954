-- What the answers of a comparison in the event mode under an assumption mean for the three texts.
use Rattle.std.specs.Prelude.{◌≡◌, ◌≢◌, ◌⊎◌, ℕ, Bool, true, List, [], Option, Some, slice_get, Contains}
use Rattle.circuit_theory.specs.declared.Mode.TheVariants.{Event}
use Rattle.circuit_theory.specs.Agree.{IsMinimalCut}
use Rattle.circuit_theory.specs.Circuit.{Circuit}
use Rattle.circuit_theory.specs.Joined.{Left, Right}
use Rattle.base_shelves.specs.Outside.{Takes}
use Rattle.sec_base.specs.declared.basics.PairAnswer.TheVariants as answer
use Rattle.sec_base.specs.declared.settings.Settings.{Settings}
use Rattle.witness_report.specs.declared.witness.Witness.{Witness}
use Rattle.flat_net.specs.View.{NetView, circuit_of}
use Rattle.pair_decide.specs.declared.query.Proof.{Proof}
use Rattle.obligations.specs.declared.outcome.verdict.LimitAt.{LimitAt}
use Rattle.obligations.specs.declared.outcome.verdict.LimitAt.TheVariants as limit_at
use Rattle.obligations.specs.declared.outcome.verdict.Outcome.{Outcome}
use Rattle.obligations.specs.declared.outcome.verdict.PairResult.{PairResult}
use Rattle.obligations.specs.declared.outcome.verdict.Unshown.{Unshown}
use Rattle.obligations.specs.declared.outcome.verdict.Verdict.TheVariants as verdict
use Rattle.obligations.specs.declared.outcome.verdict.Why.TheVariants as why
use Rattle.obligations.specs.outcome.Report.{report_text}
use Rattle.sec_setup.specs.declared.ports.pairs.SignalPair.{SignalPair}
use Rattle.sec_setup.specs.Cuts.{columns_of}
use Rattle.edbf_unfold.specs.class_queries.Enables.{both_of}
use Rattle.assume_laws.specs.Assume.{Assumption}
use Rattle.circuit_theory.specs.EventFrames.{event_pair}
use Rattle.obligations.specs.Fits.{IsUndecided}
use Rattle.assume_laws.specs.Assume.{under}
use Rattle.event_setup.specs.event_meaning.Says.{SaysDifferent, SaysNotShown}
use Rattle.event_setup.specs.event_meaning.event_names.event_fits.Fitting.{IsUnclassed, IsUnrecovered}
use Rattle.event_setup.specs.event_meaning.event_meaning_under.Fitted.{EventOutcomeFitsUnder, IsComparedByPairsUnder}
use Rattle.event_setup.specs.event_meaning.event_meaning_under.Framed.{IsFramedUnder}
use Rattle.event_setup.specs.event_meaning.event_meaning_under.Met.{IsMet}
use Rattle.event_setup.specs.event_meaning.event_meaning_under.Taken.{assumed_by}
use Rattle.pair_texts.specs.assume_texts.Agreement.{AgreeWhereMet, AgreeOnwardWhereMet}
use Rattle.pair_texts.specs.assume_texts.Meets.{SequenceMeetsCircuit}
use Rattle.pair_texts.specs.assume_texts.Texts.{ThreeCircuits}

-- The third net is taken as an assumption on the inputs of the other two, the outcome has the name of its output and fits the two under it, and it is
-- printed behind what was written before.
pub record IsPrintedUnder (a b c : NetView) (settings : Settings) (o : Outcome) (before now : Option (List ℕ)) : Type 0 where
  pub met : IsMet a b c
  pub assumed : o.assumed ≡ Some met.assumed.shape.output.name
  pub fits : EventOutcomeFitsUnder (assumed_by met.assumed) met.assumed.weight met.row a b settings.expose settings.conflicts o
  pub printed : Takes before now (report_text settings o)

-- in the runs that meet the assumption both circuits agree in the event mode, and agree onward over the exposed latches
abbrev pub AgreeInEvents : {P Q R : Type 0} → Circuit R → Circuit P → Circuit Q → List (List ℕ) → Type 0
AgreeInEvents c a b exposed = AgreeWhereMet Event c a b × AgreeOnwardWhereMet Event exposed c a b

-- In the runs that meet the assumption the circuits that the texts of A and of B spell agree in the event mode, and agree onward over the exposed
-- latches that are printed, which are a minimal cut of them. The same is said of the flat nets that the texts load as.
pub record EventTextsAgreeUnder (x y z : List ℕ) (settings : Settings) (before now : Option (List ℕ)) : Type 0 where
  pub spelled : ThreeCircuits x y z
  pub outcome : Outcome
  pub is_printed : IsPrintedUnder spelled.left_net spelled.right_net spelled.assumed_net settings outcome before now
  pub is_verdict : outcome.verdict ≡ verdict.Equal
  pub minimal : IsMinimalCut Event spelled.left spelled.right outcome.exposed
  pub says : AgreeInEvents spelled.assumed spelled.left spelled.right outcome.exposed
  pub nets_say : AgreeInEvents (circuit_of spelled.assumed_net) (circuit_of spelled.left_net) (circuit_of spelled.right_net) outcome.exposed

-- The circuits that the texts of A and of B spell differ in all runs over the sequence that is printed, which meets the assumption in each of its
-- cycles. No latch is cut open.
pub record EventTextsDifferUnder (x y z : List ℕ) (settings : Settings) (before now : Option (List ℕ)) : Type 0 where
  pub spelled : ThreeCircuits x y z
  pub outcome : Outcome
  pub is_printed : IsPrintedUnder spelled.left_net spelled.right_net spelled.assumed_net settings outcome before now
  pub witness : Witness
  pub is_verdict : outcome.verdict ≡ verdict.Different witness
  pub uncut : outcome.exposed ≡ []
  pub says : SaysDifferent Event witness spelled.left spelled.right
  pub meets : SequenceMeetsCircuit spelled.assumed witness.stimulus witness.cycle

-- Latches were to be cut open, and the exposed ones that are printed are some: a minimal cut of the circuits that the texts of A and of B spell. With
-- these cut out the circuits differ in all runs over the sequence that is printed, which meets the assumption in each of its cycles: in a pair of
-- outputs, or in what two exposed latches of one name take over. The same is said of the flat nets that the texts load as.
pub record EventCutsDifferUnder (x y z : List ℕ) (settings : Settings) (before now : Option (List ℕ)) : Type 0 where
  pub spelled : ThreeCircuits x y z
  pub outcome : Outcome
  pub is_printed : IsPrintedUnder spelled.left_net spelled.right_net spelled.assumed_net settings outcome before now
  pub witness : Witness
  pub is_verdict : outcome.verdict ≡ verdict.NotShown (why.Cut witness)
  pub exposes : settings.expose ≡ true
  pub exposed : outcome.exposed ≢ []
  pub minimal : IsMinimalCut Event spelled.left spelled.right outcome.exposed
  pub columns : witness.stimulus.names ≡ columns_of spelled.left_net spelled.right_net outcome.exposed
  pub says : SaysNotShown Event outcome.exposed witness spelled.left spelled.right
  pub meets : SequenceMeetsCircuit spelled.assumed witness.stimulus witness.cycle
  pub nets_say : SaysNotShown Event outcome.exposed witness (circuit_of spelled.left_net) (circuit_of spelled.right_net)
  pub nets_meet : SequenceMeetsCircuit (circuit_of spelled.assumed_net) witness.stimulus witness.cycle

-- The frame that is printed has care for both sides of a pair of the nets of A and of B, which reaches another class than 0, meets the assumption at
-- each event node that it has a variable of, and gives the sides the printed values, which differ.
pub record EventTextsUnshownUnder (x y z : List ℕ) (settings : Settings) (before now : Option (List ℕ)) : Type 0 where
  pub spelled : ThreeCircuits x y z
  pub outcome : Outcome
  pub is_printed : IsPrintedUnder spelled.left_net spelled.right_net spelled.assumed_net settings outcome before now
  pub unshown : Unshown
  pub is_verdict : outcome.verdict ≡ verdict.NotShown (why.Events unshown)
  pub framed : IsFramedUnder (assumed_by is_printed.met.assumed) spelled.left_net spelled.right_net settings.expose outcome unshown

-- a pair isn't shown for either cause
abbrev pub EventTextsNotShownUnder : List ℕ → List ℕ → List ℕ → Settings → Option (List ℕ) → Option (List ℕ) → Type 0
EventTextsNotShownUnder x y z settings before now = EventCutsDifferUnder x y z settings before now ⊎ EventTextsUnshownUnder x y z settings before now

-- The pair is compared under the assumption, its query has more than 16 variables and met the limit, and this is the proof that it keeps.
pub record IsPairUndecidedUnder (c : Assumption) (weight : ℕ) (meeting : ℕ → Bool) (a b : NetView) (settings : Settings) (o : Outcome) (proof : Proof) : Type 0 where
  pub compared : IsComparedByPairsUnder c weight meeting a b settings.expose settings.conflicts o
  pub index : ℕ
  pub place : SignalPair
  pub result : PairResult
  pub place_at : slice_get compared.compared.pairs.now index ≡ Some place
  pub result_at : slice_get o.pairs index ≡ Some result
  pub limit : result.answer ≡ answer.Limit
  pub verdict_is : o.verdict ≡ verdict.Limit (limit_at.Pair result.name)
  pub kept : result.proof ≡ Some proof
  pub undecided : IsUndecided (under c (event_pair (both_of compared.left compared.right) (Left place.left.0) (Right place.right.0))) settings.conflicts proof

-- What met the limit: the query of a latch that is in its own cone, or a class query, which are asked without the assumption; or that of a pair under
-- it. The proof shows it.
abbrev pub IsUndecidedIn : {a b c : NetView} → IsMet a b c → Settings → Outcome → Proof → Type 0
IsUndecidedIn {a} {b} {c} met settings o proof =
    ((k : IsUnrecovered a b settings.conflicts o) × (k.proof ≡ proof))
    ⊎ (((k : IsUnclassed a b settings.expose settings.conflicts o) × (k.proof ≡ proof)) ⊎ IsPairUndecidedUnder (assumed_by met.assumed) met.assumed.weight met.row a b settings o proof)

-- The report names what met the limit first, and one of the proofs that are kept shows it: its clauses, and a log of exactly as many chains as
-- conflicts are allowed.
pub record EventTextsUndecidedUnder (x y z : List ℕ) (settings : Settings) (proofs : List Proof) (before now : Option (List ℕ)) : Type 0 where
  pub spelled : ThreeCircuits x y z
  pub outcome : Outcome
  pub is_printed : IsPrintedUnder spelled.left_net spelled.right_net spelled.assumed_net settings outcome before now
  pub at : LimitAt
  pub is_verdict : outcome.verdict ≡ verdict.Limit at
  pub proof : Proof
  pub kept : Contains proofs proof
  pub undecided : IsUndecidedIn is_printed.met settings outcome proof
