-- What the answers of a comparison under an assumption mean for the three texts, over all power-ups.
use Rattle.std.specs.Prelude.{◌≡◌, ◌≢◌, ℕ, true, List, [], ◌∷◌, Option, Contains}
use Rattle.circuit_theory.specs.declared.Mode.TheVariants.{Plain}
use Rattle.circuit_theory.specs.Circuit.{Circuit}
use Rattle.circuit_theory.specs.Agree.{IsMinimalCut}
use Rattle.circuit_theory.specs.Interface.{AreNumbersOf}
use Rattle.base_shelves.specs.Outside.{Takes}
use Rattle.sec_base.specs.declared.settings.Settings.{Settings}
use Rattle.witness_report.specs.declared.witness.PairName.TheVariants as pair
use Rattle.witness_report.specs.declared.witness.Witness.{Witness}
use Rattle.flat_net.specs.View.{NetView, circuit_of, ports_of}
use Rattle.blif_read.specs.Design.{Place}
use Rattle.pair_decide.specs.declared.query.Proof.{Proof}
use Rattle.obligations.specs.declared.outcome.verdict.LimitAt.TheVariants as limit_at
use Rattle.obligations.specs.declared.outcome.verdict.Verdict.TheVariants as verdict
use Rattle.obligations.specs.declared.outcome.verdict.Why.TheVariants as why
use Rattle.obligations.specs.declared.outcome.verdict.Outcome.{Outcome}
use Rattle.obligations.specs.outcome.Report.{report_text}
use Rattle.sec_setup.specs.ports.Pairs.{NamedPair, named_pairs}
use Rattle.sec_setup.specs.Cuts.{IsChoice, AreCutAt, columns_of}
use Rattle.plain_check.specs.under_base.compare_base.Says.{SaysDifferent, SaysNotShown}
use Rattle.plain_check.specs.under_base.Taken.{IsAssumed, IsUndecidedBy, assumed_by}
use Rattle.circuit_theory.specs.Asked.{plain_pair}
use Rattle.obligations.specs.Fits.{IsUndecided}
use Rattle.assume_laws.specs.Assume.{under}
use Rattle.plain_check.specs.under_base.Met.{shared_by}
use Rattle.job_base.specs.sec_files.Loading.{Loads, SpellsCircuit}
use Rattle.pair_texts.specs.assume_texts.Agreement.{AreEqualWhereMet}
use Rattle.pair_texts.specs.assume_texts.Meets.{SequenceMeetsCircuit}

-- the circuits that the texts of A, of B and of the assumption spell, and nets that these load as
pub record ThreeCircuits (x y z : List ℕ) : Type 0 where
  pub left_clock : Option (List ℕ)
  pub right_clock : Option (List ℕ)
  pub assumed_clock : Option (List ℕ)
  pub left : Circuit Place
  pub right : Circuit Place
  pub assumed : Circuit Place
  pub left_spelled : SpellsCircuit x left_clock left
  pub right_spelled : SpellsCircuit y right_clock right
  pub assumed_spelled : SpellsCircuit z assumed_clock assumed
  pub left_net : NetView
  pub right_net : NetView
  pub assumed_net : NetView
  pub left_loads : Loads x left_net
  pub right_loads : Loads y right_net
  pub assumed_loads : Loads z assumed_net

-- In the runs that meet the assumption the circuits that the texts spell agree, and agree onward over the exposed latches that are printed,
-- which are a minimal cut of them; so in any two such runs with equal inputs in which these are equal from the start up to the printed
-- cycle, they are equal for ever, and the outputs from that cycle on. The same is said of the flat nets that the texts load as.
pub record TextsAgreeUnder (x y z : List ℕ) (settings : Settings) (before now : Option (List ℕ)) : Type 0 where
  pub spelled : ThreeCircuits x y z
  pub outcome : Outcome
  pub is_verdict : outcome.verdict ≡ verdict.Equal
  pub printed : Takes before now (report_text settings outcome)
  pub minimal : IsMinimalCut Plain spelled.left spelled.right outcome.exposed
  pub says : AreEqualWhereMet spelled.assumed spelled.left spelled.right outcome
  pub nets_say : AreEqualWhereMet (circuit_of spelled.assumed_net) (circuit_of spelled.left_net) (circuit_of spelled.right_net) outcome

-- The circuits that the texts of A and of B spell differ in all runs over the sequence that is printed behind what was written before, and
-- the sequence meets the assumption in each of its cycles. No latch is cut open.
pub record TextsDifferUnder (x y z : List ℕ) (settings : Settings) (before now : Option (List ℕ)) : Type 0 where
  pub spelled : ThreeCircuits x y z
  pub outcome : Outcome
  pub witness : Witness
  pub is_verdict : outcome.verdict ≡ verdict.Different witness
  pub uncut : outcome.exposed ≡ []
  pub printed : Takes before now (report_text settings outcome)
  pub says : SaysDifferent Plain witness spelled.left spelled.right
  pub meets : SequenceMeetsCircuit spelled.assumed witness.stimulus witness.cycle

-- Latches were to be cut open, and the exposed ones that are printed are some: a minimal cut of the circuits that the texts of A and of B
-- spell. With these cut out the circuits differ in all runs over the sequence that is printed, which meets the assumption in each of its
-- cycles: in a pair of outputs, or in what two exposed latches of one name take over. The same is said of the flat nets that the texts
-- load as.
pub record TextsNotShownUnder (x y z : List ℕ) (settings : Settings) (before now : Option (List ℕ)) : Type 0 where
  pub spelled : ThreeCircuits x y z
  pub outcome : Outcome
  pub witness : Witness
  pub is_verdict : outcome.verdict ≡ verdict.NotShown (why.Cut witness)
  pub printed : Takes before now (report_text settings outcome)
  pub exposes : settings.expose ≡ true
  pub exposed : outcome.exposed ≢ []
  pub minimal : IsMinimalCut Plain spelled.left spelled.right outcome.exposed
  pub columns : witness.stimulus.names ≡ columns_of spelled.left_net spelled.right_net outcome.exposed
  pub next_exposed : (name : List ℕ) → witness.pair ≡ pair.Next name → Contains outcome.exposed name
  pub says : SaysNotShown Plain outcome.exposed witness spelled.left spelled.right
  pub meets : SequenceMeetsCircuit spelled.assumed witness.stimulus witness.cycle
  pub nets_minimal : IsMinimalCut Plain (circuit_of spelled.left_net) (circuit_of spelled.right_net) outcome.exposed
  pub nets_say : SaysNotShown Plain outcome.exposed witness (circuit_of spelled.left_net) (circuit_of spelled.right_net)
  pub nets_meet : SequenceMeetsCircuit (circuit_of spelled.assumed_net) witness.stimulus witness.cycle

-- The report names a pair of the two circuits' nets, outputs or what exposed latches take over, whose query under the assumption, over the
-- nets with the exposed latches cut out, has more than 16 variables and met the limit, which one of the proofs shows: its clauses, and a log
-- of exactly as many chains as conflicts are allowed. Without latches that are to be cut open none is exposed.
pub record TextsUndecidedUnder (x y z : List ℕ) (settings : Settings) (proofs : List Proof) (before now : Option (List ℕ)) : Type 0 where
  pub left_net : NetView
  pub right_net : NetView
  pub assumed_net : NetView
  pub left_loads : Loads x left_net
  pub right_loads : Loads y right_net
  pub assumed_loads : Loads z assumed_net
  pub assumed : IsAssumed (shared_by left_net right_net) assumed_net
  pub outcome : Outcome
  pub exposed : IsChoice left_net right_net settings.expose outcome.exposed
  pub left_cut : NetView
  pub right_cut : NetView
  pub are_cut : AreCutAt left_net right_net outcome.exposed left_cut right_cut
  pub left : List ℕ
  pub right : List ℕ
  pub left_numbers : AreNumbersOf (ports_of left_cut).inputs (columns_of left_net right_net outcome.exposed) left right
  pub right_numbers : AreNumbersOf (ports_of right_cut).inputs (columns_of left_net right_net outcome.exposed) right left
  pub named : NamedPair ℕ ℕ
  pub is_pair : Contains (named_pairs outcome.exposed (circuit_of left_net) (circuit_of right_net)) named
  pub proof : Proof
  pub kept : Contains proofs proof
  pub undecided : IsUndecided (under (assumed_by assumed) (plain_pair (circuit_of left_cut) (circuit_of right_cut) left right named.left named.right)) settings.conflicts proof
  pub is_verdict : outcome.verdict ≡ verdict.Limit (limit_at.Pair named.name)
  pub printed : Takes before now (report_text settings outcome)

-- The report names the assumption: whether some values of the inputs that both circuits have meet it is a query of more than 16 variables
-- that met the limit, which the one proof shows. No latch is cut open, and no pair is asked about.
pub record AssumptionUndecided (x y z : List ℕ) (settings : Settings) (proofs : List Proof) (before now : Option (List ℕ)) : Type 0 where
  pub left_net : NetView
  pub right_net : NetView
  pub assumed_net : NetView
  pub left_loads : Loads x left_net
  pub right_loads : Loads y right_net
  pub assumed_loads : Loads z assumed_net
  pub outcome : Outcome
  pub uncut : outcome.exposed ≡ []
  pub no_pairs : outcome.pairs ≡ []
  pub proof : Proof
  pub kept : proofs ≡ proof ∷ []
  pub undecided : IsUndecidedBy (shared_by left_net right_net) assumed_net settings.conflicts proof
  pub is_verdict : outcome.verdict ≡ verdict.Limit (limit_at.Assume proof)
  pub printed : Takes before now (report_text settings outcome)
