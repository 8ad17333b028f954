-- What the status of a comparison from the latches' initial values says of the texts. No latch is cut open.
use Rattle.std.specs.Prelude.{◌≡◌, ◌≤◌, ℕ, List, [], Option, Contains}
use Rattle.circuit_theory.specs.Circuit.{Circuit}
use Rattle.circuit_theory.specs.Fits.{IsPairDepth}
use Rattle.circuit_theory.specs.Interface.{shared_inputs, AreNumbersOf}
use Rattle.circuit_laws.specs.reset_laws.Reset.{AreBased, AgreeFromReset}
use Rattle.base_shelves.specs.Outside.{Takes}
use Rattle.sec_base.specs.declared.settings.Settings.{Settings}
use Rattle.flat_net.specs.View.{NetView, circuit_of, ports_of}
use Rattle.blif_read.specs.Design.{Place}
use Rattle.pair_decide.specs.declared.query.Proof.{Proof}
use Rattle.obligations.specs.declared.outcome.verdict.LimitAt.TheVariants as limit_at
use Rattle.obligations.specs.declared.outcome.verdict.ResetWitness.{ResetWitness}
use Rattle.obligations.specs.declared.outcome.verdict.Verdict.TheVariants as verdict
use Rattle.obligations.specs.declared.outcome.verdict.Outcome.{Outcome}
use Rattle.obligations.specs.outcome.Report.{report_text}
use Rattle.sec_setup.specs.ports.Pairs.{NamedPair, named_pairs}
use Rattle.circuit_laws.specs.reset_laws.Reset.{reset_pair}
use Rattle.obligations.specs.Fits.{IsUndecided}
use Rattle.plain_check.specs.under_base.compare_base.ResetOutcome.{AgreeBefore}
use Rattle.plain_check.specs.under_base.compare_base.FromReset.{numbered_by}
use Rattle.plain_check.specs.under_base.compare_base.Says.{MakesResetsDiffer}
use Rattle.job_base.specs.sec_files.Loading.{Loads, SpellsCircuit}

-- In any two runs of the circuits that the two texts spell that begin with the initial values and have equal inputs, each output is
-- equal in every cycle. The same is said of the flat nets that the texts load as.
pub record ResetsAgree (x y : List ℕ) (settings : Settings) (before now : Option (List ℕ)) : Type 0 where
  pub left_clock : Option (List ℕ)
  pub right_clock : Option (List ℕ)
  pub left : Circuit Place
  pub right : Circuit Place
  pub left_spelled : SpellsCircuit x left_clock left
  pub right_spelled : SpellsCircuit y right_clock right
  pub left_net : NetView
  pub right_net : NetView
  pub left_loads : Loads x left_net
  pub right_loads : Loads y right_net
  pub outcome : Outcome
  pub is_verdict : outcome.verdict ≡ verdict.Equal
  pub uncut : outcome.exposed ≡ []
  pub printed : Takes before now (report_text settings outcome)
  pub says : AgreeFromReset left right
  pub nets_say : AgreeFromReset (circuit_of left_net) (circuit_of right_net)

-- Both texts load. The sequence and the power-ups that are printed behind what was written before make the circuits that they spell
-- differ: in runs from their initial values, and in no earlier cycle.
pub record ResetsDiffer (x y : List ℕ) (settings : Settings) (before now : Option (List ℕ)) : Type 0 where
  pub left_clock : Option (List ℕ)
  pub right_clock : Option (List ℕ)
  pub left : Circuit Place
  pub right : Circuit Place
  pub left_spelled : SpellsCircuit x left_clock left
  pub right_spelled : SpellsCircuit y right_clock right
  pub left_net : NetView
  pub right_net : NetView
  pub left_loads : Loads x left_net
  pub right_loads : Loads y right_net
  pub outcome : Outcome
  pub witness : ResetWitness
  pub is_verdict : outcome.verdict ≡ verdict.DifferentFrom witness
  pub uncut : outcome.exposed ≡ []
  pub printed : Takes before now (report_text settings outcome)
  pub says : MakesResetsDiffer left right witness

-- The report names a pair of outputs of the two texts' nets. In a cycle up to the pair's depth, before which its functions agree, its
-- query has more than 16 variables and met the limit, which one of the proofs shows: its clauses, and a log of exactly as many chains as
-- conflicts are allowed.
pub record ResetsUndecided (x y : List ℕ) (settings : Settings) (proofs : List Proof) (before now : Option (List ℕ)) : Type 0 where
  pub left_net : NetView
  pub right_net : NetView
  pub left_loads : Loads x left_net
  pub right_loads : Loads y right_net
  pub outcome : Outcome
  pub uncut : outcome.exposed ≡ []
  pub left : List ℕ
  pub right : List ℕ
  pub left_numbers : AreNumbersOf (ports_of left_net).inputs (shared_inputs (ports_of left_net) (ports_of right_net)) left right
  pub right_numbers : AreNumbersOf (ports_of right_net).inputs (shared_inputs (ports_of left_net) (ports_of right_net)) right left
  pub left_base : ℕ
  pub right_base : ℕ
  pub based : AreBased (circuit_of left_net) (circuit_of right_net) left right left_base right_base
  pub named : NamedPair ℕ ℕ
  pub is_pair : Contains (named_pairs [] (circuit_of left_net) (circuit_of right_net)) named
  pub depth : ℕ
  pub is_depth : IsPairDepth (circuit_of left_net) (circuit_of right_net) named.left named.right depth
  pub cycle : ℕ
  pub within : cycle ≤ depth
  pub agree_before : AgreeBefore (numbered_by left_net right_net left right left_base right_base) named.left named.right cycle
  pub proof : Proof
  pub kept : Contains proofs proof
  pub undecided : IsUndecided (reset_pair (circuit_of left_net) (circuit_of right_net) left right left_base right_base named.left named.right cycle) settings.conflicts proof
  pub is_verdict : outcome.verdict ≡ verdict.Limit (limit_at.Pair named.name)
  pub printed : Takes before now (report_text settings outcome)
