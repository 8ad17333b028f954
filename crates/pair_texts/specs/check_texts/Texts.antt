-- What the answers of a comparison mean for the two texts, and when they can be compared.
use Rattle.std.specs.Prelude.{◌≡◌, ◌≢◌, ℕ, Bool, true, List, [], Option, Contains}
use Rattle.circuit_theory.specs.declared.Mode.TheVariants.{Plain}
use Rattle.circuit_theory.specs.declared.Side.{Side}
use Rattle.circuit_theory.specs.Circuit.{Circuit}
use Rattle.circuit_theory.specs.Agree.{IsMinimalCut}
use Rattle.circuit_theory.specs.Interface.{AreNumbersOf}
use Rattle.base_shelves.specs.Outside.{Takes}
use Rattle.sec_base.specs.declared.settings.Settings.{Settings}
use Rattle.witness_report.specs.declared.witness.PairName.TheVariants as pair
use Rattle.witness_report.specs.declared.witness.Witness.{Witness}
use Rattle.flat_net.specs.View.{NetView, circuit_of, ports_of}
use Rattle.blif_read.specs.Design.{Place}
use Rattle.pair_decide.specs.declared.query.Proof.{Proof}
use Rattle.obligations.specs.declared.outcome.verdict.LimitAt.TheVariants as limit_at
use Rattle.obligations.specs.declared.outcome.verdict.Verdict.TheVariants as verdict
use Rattle.obligations.specs.declared.outcome.verdict.Why.TheVariants as why
use Rattle.obligations.specs.declared.outcome.verdict.Outcome.{Outcome}
use Rattle.obligations.specs.outcome.Report.{report_text}
use Rattle.sec_setup.specs.ports.Pairs.{NamedPair, named_pairs}
use Rattle.sec_setup.specs.Matching.{InterfacesMatch}
use Rattle.sec_setup.specs.Cycles.{AreBroken}
use Rattle.sec_setup.specs.Cuts.{IsChoice, AreCutAt, columns_of}
use Rattle.circuit_theory.specs.Asked.{plain_pair}
use Rattle.obligations.specs.Fits.{IsUndecided}
use Rattle.plain_check.specs.under_base.compare_base.Says.{SaysEqual, SaysDifferent, SaysNotShown}
use Rattle.plain_check.specs.under_base.compare_base.Compared.{AreTooLarge, ByReset}
use Rattle.plain_check.specs.under_base.compare_base.FromReset.{AreTooLargeFromReset}
use Rattle.job_base.specs.sec_files.Loading.{IsAccepted, Loads, SpellsCircuit}

-- The circuits that the two texts spell agree, and agree onward over the exposed latches that are printed, which are a minimal cut of
-- them; so in any two runs of theirs with equal inputs in which these are equal from the start up to the printed cycle, they are equal
-- for ever, and the outputs from that cycle on. The same is said of the flat nets that the texts load as.
pub record TextsAgree (x y : List ℕ) (settings : Settings) (before now : Option (List ℕ)) : Type 0 where
  pub left_clock : Option (List ℕ)
  pub right_clock : Option (List ℕ)
  pub left : Circuit Place
  pub right : Circuit Place
  pub left_spelled : SpellsCircuit x left_clock left
  pub right_spelled : SpellsCircuit y right_clock right
  pub left_net : NetView
  pub right_net : NetView
  pub left_loads : Loads x left_net
  pub right_loads : Loads y right_net
  pub outcome : Outcome
  pub is_verdict : outcome.verdict ≡ verdict.Equal
  pub printed : Takes before now (report_text settings outcome)
  pub minimal : IsMinimalCut Plain left right outcome.exposed
  pub says : SaysEqual Plain outcome left right
  pub nets_say : SaysEqual Plain outcome (circuit_of left_net) (circuit_of right_net)

-- Both texts load, and the circuits that they spell differ in all runs over the sequence that is printed behind what was written before.
-- No latch is cut open.
pub record TextsDiffer (x y : List ℕ) (settings : Settings) (before now : Option (List ℕ)) : Type 0 where
  pub left_clock : Option (List ℕ)
  pub right_clock : Option (List ℕ)
  pub left : Circuit Place
  pub right : Circuit Place
  pub left_spelled : SpellsCircuit x left_clock left
  pub right_spelled : SpellsCircuit y right_clock right
  pub left_net : NetView
  pub right_net : NetView
  pub left_loads : Loads x left_net
  pub right_loads : Loads y right_net
  pub outcome : Outcome
  pub witness : Witness
  pub is_verdict : outcome.verdict ≡ verdict.Different witness
  pub uncut : outcome.exposed ≡ []
  pub printed : Takes before now (report_text settings outcome)
  pub says : SaysDifferent Plain witness left right

-- Latches were to be cut open, and the exposed ones that are printed are some: a minimal cut of the circuits that the two texts spell.
-- With these cut out the circuits differ in all runs over the sequence that is printed, which is over the shared inputs and the exposed
-- latches: in a pair of outputs, or in what two exposed latches of one name take over. The same is said of the flat nets that the texts
-- load as.
pub record TextsNotShown (x y : List ℕ) (settings : Settings) (before now : Option (List ℕ)) : Type 0 where
  pub left_clock : Option (List ℕ)
  pub right_clock : Option (List ℕ)
  pub left : Circuit Place
  pub right : Circuit Place
  pub left_spelled : SpellsCircuit x left_clock left
  pub right_spelled : SpellsCircuit y right_clock right
  pub left_net : NetView
  pub right_net : NetView
  pub left_loads : Loads x left_net
  pub right_loads : Loads y right_net
  pub outcome : Outcome
  pub witness : Witness
  pub is_verdict : outcome.verdict ≡ verdict.NotShown (why.Cut witness)
  pub printed : Takes before now (report_text settings outcome)
  pub exposes : settings.expose ≡ true
  pub exposed : outcome.exposed ≢ []
  pub minimal : IsMinimalCut Plain left right outcome.exposed
  pub columns : witness.stimulus.names ≡ columns_of left_net right_net outcome.exposed
  pub next_exposed : (name : List ℕ) → witness.pair ≡ pair.Next name → Contains outcome.exposed name
  pub says : SaysNotShown Plain outcome.exposed witness left right
  pub nets_minimal : IsMinimalCut Plain (circuit_of left_net) (circuit_of right_net) outcome.exposed
  pub nets_say : SaysNotShown Plain outcome.exposed witness (circuit_of left_net) (circuit_of right_net)

-- The report names a pair of the two texts' nets, outputs or what exposed latches take over, whose query over the nets with the exposed
-- latches cut out has more than 16 variables and met the limit, which one of the proofs shows: its clauses, and a log of exactly as
-- many chains as conflicts are allowed. Without latches that are to be cut open none is exposed.
pub record TextsUndecided (x y : List ℕ) (settings : Settings) (proofs : List Proof) (before now : Option (List ℕ)) : Type 0 where
  pub left_net : NetView
  pub right_net : NetView
  pub left_loads : Loads x left_net
  pub right_loads : Loads y right_net
  pub outcome : Outcome
  pub exposed : IsChoice left_net right_net settings.expose outcome.exposed
  pub left_cut : NetView
  pub right_cut : NetView
  pub are_cut : AreCutAt left_net right_net outcome.exposed left_cut right_cut
  pub left : List ℕ
  pub right : List ℕ
  pub left_numbers : AreNumbersOf (ports_of left_cut).inputs (columns_of left_net right_net outcome.exposed) left right
  pub right_numbers : AreNumbersOf (ports_of right_cut).inputs (columns_of left_net right_net outcome.exposed) right left
  pub named : NamedPair ℕ ℕ
  pub is_pair : Contains (named_pairs outcome.exposed (circuit_of left_net) (circuit_of right_net)) named
  pub proof : Proof
  pub kept : Contains proofs proof
  pub undecided : IsUndecided (plain_pair (circuit_of left_cut) (circuit_of right_cut) left right named.left named.right) settings.conflicts proof
  pub is_verdict : outcome.verdict ≡ verdict.Limit (limit_at.Pair named.name)
  pub printed : Takes before now (report_text settings outcome)

-- Both texts are accepted, their interfaces match, and no unfolding is too large, from the initial values or not. No latch graph has a
-- cycle; where latches are to be cut open, none is left without the latches that both circuits name.
pub record AreComparable (x y : List ℕ) (expose reset : Bool) : Type 0 where
  pub left : IsAccepted x
  pub right : IsAccepted y
  pub match : (a b : NetView) → Loads x a → Loads y b → InterfacesMatch a b
  pub broken : (a b : NetView) → Loads x a → Loads y b → AreBroken a b expose
  pub light : (a b : NetView) → Loads x a → Loads y b → (side : Side) → ByReset reset (AreTooLarge a b expose side) (AreTooLargeFromReset a b side) → ⊥
