-- What the answers of a comparison in the event mode mean for the two texts, and when they can be compared.
use Rattle.std.specs.Prelude.{◌≡◌, ◌≢◌, ◌⊎◌, ℕ, true, List, [], Option, Some, slice_get, Contains}
use Rattle.circuit_theory.specs.declared.Mode.TheVariants.{Event}
use Rattle.circuit_theory.specs.declared.Side.{Side}
use Rattle.circuit_theory.specs.Agree.{IsMinimalCut}
use Rattle.circuit_theory.specs.Circuit.{Circuit}
use Rattle.circuit_theory.specs.Joined.{Left, Right}
use Rattle.base_shelves.specs.Outside.{Takes}
use Rattle.sec_base.specs.declared.basics.PairAnswer.TheVariants as answer
use Rattle.sec_base.specs.declared.settings.Settings.{Settings}
use Rattle.witness_report.specs.declared.witness.PairName.TheVariants as pair
use Rattle.witness_report.specs.declared.witness.Witness.{Witness}
use Rattle.flat_net.specs.View.{NetView, circuit_of}
use Rattle.blif_read.specs.Design.{Place}
use Rattle.pair_decide.specs.declared.query.Proof.{Proof}
use Rattle.obligations.specs.declared.outcome.verdict.LimitAt.{LimitAt}
use Rattle.obligations.specs.declared.outcome.verdict.LimitAt.TheVariants as limit_at
use Rattle.obligations.specs.declared.outcome.verdict.Outcome.{Outcome}
use Rattle.obligations.specs.declared.outcome.verdict.PairResult.{PairResult}
use Rattle.obligations.specs.declared.outcome.verdict.Unshown.{Unshown}
use Rattle.obligations.specs.declared.outcome.verdict.Verdict.TheVariants as verdict
use Rattle.obligations.specs.declared.outcome.verdict.Why.TheVariants as why
use Rattle.obligations.specs.outcome.Report.{report_text}
use Rattle.sec_setup.specs.declared.ports.pairs.SignalPair.{SignalPair}
use Rattle.sec_setup.specs.Cuts.{columns_of}
use Rattle.sec_setup.specs.Matching.{InterfacesMatch}
use Rattle.edbf_unfold.specs.class_queries.Enables.{both_of}
use Rattle.event_setup.specs.event_meaning.Says.{SaysEqual, SaysDifferent, SaysNotShown}
use Rattle.circuit_theory.specs.EventFrames.{event_pair}
use Rattle.obligations.specs.Fits.{IsUndecided}
use Rattle.event_setup.specs.Choosing.{HaveNoCycles}
use Rattle.event_setup.specs.event_meaning.event_names.event_fits.Compared.{AreTooLargeInEvents, HaveTooManyEvents}
use Rattle.event_setup.specs.event_meaning.event_names.event_fits.Fitting.{EventOutcomeFits, IsComparedByPairs, IsUnclassed, IsUnrecovered}
use Rattle.event_setup.specs.event_meaning.event_names.event_fits.Shown.{IsFramed}
use Rattle.job_base.specs.sec_files.Loading.{IsAccepted, Loads, SpellsCircuit}

-- Both texts load as nets, and spell circuits.
pub record AreRead (x y : List ℕ) : Type 0 where
  pub left_net : NetView
  pub right_net : NetView
  pub left_loads : Loads x left_net
  pub right_loads : Loads y right_net
  pub left : Circuit Place
  pub right : Circuit Place
  pub left_spelled : SpellsCircuit x left_net.clock left
  pub right_spelled : SpellsCircuit y right_net.clock right

-- The outcome fits the nets, and it is printed behind what was written before.
pub record IsPrinted (a b : NetView) (settings : Settings) (o : Outcome) (before now : Option (List ℕ)) : Type 0 where
  pub fits : EventOutcomeFits a b settings.expose settings.conflicts o
  pub printed : Takes before now (report_text settings o)

-- The circuits that the two texts spell agree in the event mode, and agree onward over the exposed latches that are printed, which are a minimal cut
-- of them. The same is said of the flat nets that the texts load as.
pub record EventTextsAgree (x y : List ℕ) (settings : Settings) (before now : Option (List ℕ)) : Type 0 where
  pub read : AreRead x y
  pub outcome : Outcome
  pub is_printed : IsPrinted read.left_net read.right_net settings outcome before now
  pub is_verdict : outcome.verdict ≡ verdict.Equal
  pub minimal : IsMinimalCut Event read.left read.right outcome.exposed
  pub says : SaysEqual Event outcome read.left read.right
  pub nets_say : SaysEqual Event outcome (circuit_of read.left_net) (circuit_of read.right_net)

-- The circuits that the two texts spell differ in all runs over the sequence that is printed. No latch is cut open.
pub record EventTextsDiffer (x y : List ℕ) (settings : Settings) (before now : Option (List ℕ)) : Type 0 where
  pub read : AreRead x y
  pub outcome : Outcome
  pub is_printed : IsPrinted read.left_net read.right_net settings outcome before now
  pub witness : Witness
  pub is_verdict : outcome.verdict ≡ verdict.Different witness
  pub uncut : outcome.exposed ≡ []
  pub says : SaysDifferent Event witness read.left read.right

-- Latches were to be cut open, and the exposed ones that are printed are some: a minimal cut of the circuits that the two texts spell. With these
-- cut out the circuits differ in all runs over the sequence that is printed, in a pair of outputs, or in what two exposed latches of one name take
-- over. The same is said of the flat nets that the texts load as.
pub record EventCutsDiffer (x y : List ℕ) (settings : Settings) (before now : Option (List ℕ)) : Type 0 where
  pub read : AreRead x y
  pub outcome : Outcome
  pub is_printed : IsPrinted read.left_net read.right_net settings outcome before now
  pub witness : Witness
  pub is_verdict : outcome.verdict ≡ verdict.NotShown (why.Cut witness)
  pub exposes : settings.expose ≡ true
  pub exposed : outcome.exposed ≢ []
  pub minimal : IsMinimalCut Event read.left read.right outcome.exposed
  pub columns : witness.stimulus.names ≡ columns_of read.left_net read.right_net outcome.exposed
  pub says : SaysNotShown Event outcome.exposed witness read.left read.right
  pub nets_say : SaysNotShown Event outcome.exposed witness (circuit_of read.left_net) (circuit_of read.right_net)

-- The frame that is printed has care for both sides of a pair of the nets that the texts load as, which reaches another class than 0, and gives them
-- the printed values, which differ.
pub record EventTextsUnshown (x y : List ℕ) (settings : Settings) (before now : Option (List ℕ)) : Type 0 where
  pub read : AreRead x y
  pub outcome : Outcome
  pub is_printed : IsPrinted read.left_net read.right_net settings outcome before now
  pub unshown : Unshown
  pub is_verdict : outcome.verdict ≡ verdict.NotShown (why.Events unshown)
  pub framed : IsFramed read.left_net read.right_net settings.expose outcome unshown

-- a pair isn't shown for either cause
abbrev pub EventTextsNotShown : List ℕ → List ℕ → Settings → Option (List ℕ) → Option (List ℕ) → Type 0
EventTextsNotShown x y settings before now = EventCutsDiffer x y settings before now ⊎ EventTextsUnshown x y settings before now

-- The pair is compared, its query has more than 16 variables and met the limit, and this is the proof that it keeps.
pub record IsPairUndecided (a b : NetView) (settings : Settings) (o : Outcome) (proof : Proof) : Type 0 where
  pub compared : IsComparedByPairs a b settings.expose settings.conflicts o
  pub index : ℕ
  pub place : SignalPair
  pub result : PairResult
  pub place_at : slice_get compared.compared.pairs.now index ≡ Some place
  pub result_at : slice_get o.pairs index ≡ Some result
  pub limit : result.answer ≡ answer.Limit
  pub verdict_is : o.verdict ≡ verdict.Limit (limit_at.Pair result.name)
  pub kept : result.proof ≡ Some proof
  pub undecided : IsUndecided (event_pair (both_of compared.left compared.right) (Left place.left.0) (Right place.right.0)) settings.conflicts proof

-- What met the limit: the query of a latch that is in its own cone, a class query, or that of a pair. The proof shows it.
abbrev pub IsUndecidedBy : NetView → NetView → Settings → Outcome → Proof → Type 0
IsUndecidedBy a b settings o proof =
    ((k : IsUnrecovered a b settings.conflicts o) × (k.proof ≡ proof))
    ⊎ (((k : IsUnclassed a b settings.expose settings.conflicts o) × (k.proof ≡ proof)) ⊎ IsPairUndecided a b settings o proof)

-- The report names what met the limit first, and one of the proofs that are kept shows it: its clauses, and a log of exactly as many chains as
-- conflicts are allowed.
pub record EventTextsUndecided (x y : List ℕ) (settings : Settings) (proofs : List Proof) (before now : Option (List ℕ)) : Type 0 where
  pub read : AreRead x y
  pub outcome : Outcome
  pub is_printed : IsPrinted read.left_net read.right_net settings outcome before now
  pub at : LimitAt
  pub is_verdict : outcome.verdict ≡ verdict.Limit at
  pub proof : Proof
  pub kept : Contains proofs proof
  pub undecided : IsUndecidedBy read.left_net read.right_net settings outcome proof

-- Both texts are accepted, their interfaces match, no cycle is refused, nothing is too large, and no number of events is passed.
pub record AreEventComparable (x y : List ℕ) (settings : Settings) : Type 0 where
  pub left : IsAccepted x
  pub right : IsAccepted y
  pub match : (a b : NetView) → Loads x a → Loads y b → InterfacesMatch a b
  pub broken : (a b : NetView) → Loads x a → Loads y b → HaveNoCycles a b settings.expose
  pub light : (a b : NetView) → Loads x a → Loads y b → (side : Side) → AreTooLargeInEvents a b settings side → ⊥
  pub few : (a b : NetView) → Loads x a → Loads y b → HaveTooManyEvents a b settings → ⊥
