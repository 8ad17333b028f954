-- What the status says of a generated pair, and how it can end.
use Rattle.std.specs.Prelude.{◌≡◌, ℕ, List, [], Option}
use Rattle.std.specs.List.{Contains}
use Rattle.circuit_theory.specs.declared.Mode.TheVariants.{Plain}
use Rattle.circuit_theory.specs.Interface.{AreNumbersOf}
use Rattle.base_shelves.specs.Outside.{Takes}
use Rattle.flat_net.specs.Sound.{IsSound}
use Rattle.flat_net.specs.View.{NetView, circuit_of, ports_of}
use Rattle.witness_report.specs.declared.witness.Witness.{Witness}
use Rattle.pair_decide.specs.declared.query.Proof.{Proof}
use Rattle.obligations.specs.declared.outcome.verdict.Outcome.{Outcome}
use Rattle.obligations.specs.declared.outcome.verdict.Verdict.{Verdict}
use Rattle.obligations.specs.declared.outcome.verdict.Verdict.TheVariants as verdict
use Rattle.obligations.specs.declared.outcome.verdict.LimitAt.TheVariants as limit_at
use Rattle.sec_setup.specs.Cuts.{AreCutAt, columns_of}
use Rattle.sec_setup.specs.ports.Pairs.{NamedPair, named_pairs}
use Rattle.circuit_theory.specs.Asked.{plain_pair}
use Rattle.obligations.specs.Fits.{IsUndecided}
use Rattle.plain_check.specs.under_base.compare_base.Says.{SaysEqual, SaysDifferent}
use Rattle.job_base.specs.declared.status.StatusName.{StatusName}
use Rattle.job_base.specs.declared.status.StatusName.TheVariants as status
use Rattle.job_gen.specs.declared.gen_meaning.generation.Generation.{Generation}
use Rattle.job_gen.specs.gen_meaning.Found.{AreTwins}
use Rattle.job_gen.specs.gen_meaning.Report.{gen_text}

-- The report of the pair of the number with this verdict is taken behind what was written before. Both circuits of the pair are sound, so
-- they have runs.
pub record TakesReport (g : Generation) (before now : Option (List ℕ)) (v : Verdict) (left right : NetView) : Type 0 where
  pub twins : AreTwins g left right
  pub left_sound : IsSound left
  pub right_sound : IsSound right
  pub printed : Takes before now (gen_text g left right v)

-- the circuits of the pair agree: in any two runs with equal inputs each output is equal in every cycle in which it is settled in both
pub record TwinsAgree (g : Generation) (before now : Option (List ℕ)) : Type 0 where
  pub left : NetView
  pub right : NetView
  pub outcome : Outcome
  pub uncut : outcome.exposed ≡ []
  pub takes : TakesReport g before now verdict.Equal left right
  pub says : SaysEqual Plain outcome (circuit_of left) (circuit_of right)

-- some sequence makes an output of the pair differ in all runs
pub record TwinsDiffer (g : Generation) (before now : Option (List ℕ)) : Type 0 where
  pub left : NetView
  pub right : NetView
  pub witness : Witness
  pub takes : TakesReport g before now (verdict.Different witness) left right
  pub says : SaysDifferent Plain witness (circuit_of left) (circuit_of right)

-- The query of some pair of outputs has more than 16 variables and met the limit, which one of the proofs shows: its clauses, and a log
-- of exactly as many chains as conflicts are allowed.
pub record TwinsUndecided (g : Generation) (proofs : List Proof) (before now : Option (List ℕ)) : Type 0 where
  pub left : NetView
  pub right : NetView
  pub outcome : Outcome
  pub uncut : outcome.exposed ≡ []
  pub left_cut : NetView
  pub right_cut : NetView
  pub are_cut : AreCutAt left right outcome.exposed left_cut right_cut
  pub left_order : List ℕ
  pub right_order : List ℕ
  pub left_numbers : AreNumbersOf (ports_of left_cut).inputs (columns_of left right outcome.exposed) left_order right_order
  pub right_numbers : AreNumbersOf (ports_of right_cut).inputs (columns_of left right outcome.exposed) right_order left_order
  pub named : NamedPair ℕ ℕ
  pub is_pair : Contains (named_pairs outcome.exposed (circuit_of left) (circuit_of right)) named
  pub proof : Proof
  pub kept : Contains proofs proof
  pub undecided : IsUndecided (plain_pair (circuit_of left_cut) (circuit_of right_cut) left_order right_order named.left named.right) g.conflicts proof
  pub takes : TakesReport g before now (verdict.Limit (limit_at.Pair named.name)) left right

-- What the status says of the pair of a number, and of what is written. It is never refused, and no circuit of it is cyclic.
abbrev pub GenMeans : Generation → Option (List ℕ) → Option (List ℕ) → List Proof → StatusName → Type 0
GenMeans g before now proofs status.Done = TwinsAgree g before now
GenMeans g before now proofs status.Different = TwinsDiffer g before now
GenMeans g before now proofs status.Limit = TwinsUndecided g proofs before now
GenMeans g before now proofs status.ReadFault = Unit {0}
GenMeans g before now proofs status.WriteFault = Unit {0}
GenMeans g before now proofs status.NoMemory = Unit {0}
GenMeans g before now proofs other = ⊥

-- a pair can always be made and compared: it is answered, if no write fails
abbrev pub IsGenAnswer : StatusName → Type 0
IsGenAnswer status.Done = Unit {0}
IsGenAnswer status.Different = Unit {0}
IsGenAnswer status.Limit = Unit {0}
IsGenAnswer status.NoMemory = Unit {0}
IsGenAnswer other = ⊥
