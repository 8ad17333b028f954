-- What the status says of two texts whose circuits are compared by ties of signals.
use Rattle.std.specs.Prelude.{◌≡◌, ℕ, List, Option, Some, None}
use Rattle.circuit_theory.specs.Circuit.{Circuit}
use Rattle.circuit_laws.specs.reset_laws.Reset.{AgreeFromReset}
use Rattle.base_shelves.specs.Outside.{Takes}
use Rattle.flat_net.specs.View.{NetView, circuit_of}
use Rattle.blif_read.specs.Design.{Place}
use Rattle.pair_decide.specs.declared.query.Proof.{Proof}
use Rattle.job_base.specs.sec_files.Loading.{Loads, SpellsCircuit}
use Rattle.job_base.specs.declared.status.StatusName.{StatusName}
use Rattle.job_base.specs.declared.status.StatusName.TheVariants as status
use Rattle.signal_induct.specs.declared.induction.SignalInduction.{SignalInduction}
use Rattle.signal_induct.specs.Tied.{first_apart, IsSignalInduction}
use Rattle.signal_induct.specs.signals_report.Report.{signals_text}
use Rattle.job_base.specs.sec_files.job_files.Texts.{OfTexts}

-- The circuits that the two texts spell, and the nets that they load as. Ties of the nets' signals are an inductive invariant of both,
-- outputs are compared by them, and the report of all this, with the ties of the latches among it, is taken behind what was written before.
pub record AreTiedTexts (x y : List ℕ) (before now : Option (List ℕ)) : Type 0 where
  pub left_clock : Option (List ℕ)
  pub right_clock : Option (List ℕ)
  pub left : Circuit Place
  pub right : Circuit Place
  pub left_spelled : SpellsCircuit x left_clock left
  pub right_spelled : SpellsCircuit y right_clock right
  pub left_net : NetView
  pub right_net : NetView
  pub left_loads : Loads x left_net
  pub right_loads : Loads y right_net
  pub made : SignalInduction
  pub is : IsSignalInduction left_net right_net made
  pub printed : Takes before now (signals_text left_net right_net made)

-- Each output is equal by the ties. In any two runs of the circuits that begin with the initial values and have equal inputs, each output
-- is equal in every cycle; the same is said of the nets.
pub record SignalsAgree (x y : List ℕ) (before now : Option (List ℕ)) : Type 0 where
  pub of : AreTiedTexts x y before now
  pub is_verdict : first_apart of.made.pairs ≡ None
  pub says : AgreeFromReset of.left of.right
  pub nets_say : AgreeFromReset (circuit_of of.left_net) (circuit_of of.right_net)

-- The output that is named is the first that the ties don't make equal. Nothing is said of the circuits.
pub record SignalsNotShown (x y : List ℕ) (before now : Option (List ℕ)) : Type 0 where
  pub of : AreTiedTexts x y before now
  pub pair : List ℕ
  pub is_verdict : first_apart of.made.pairs ≡ Some pair

-- What the status says of two texts whose circuits are compared by ties of signals, and of what is written.
abbrev pub SignalsMeans : Option (List ℕ) → Option (List ℕ) → Option (List ℕ) → Option (List ℕ) → List Proof → StatusName → Type 0
SignalsMeans left right before now proofs status.Equal = OfTexts left right (λ x y. SignalsAgree x y before now)
SignalsMeans left right before now proofs status.Different = ⊥
SignalsMeans left right before now proofs status.NotShown = OfTexts left right (λ x y. SignalsNotShown x y before now)
SignalsMeans left right before now proofs status.Limit = ⊥
SignalsMeans left right before now proofs status.Done = ⊥
SignalsMeans left right before now proofs other = Unit {0}
