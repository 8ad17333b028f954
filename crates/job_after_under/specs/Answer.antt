-- What the status says of four texts, where the circuits of two are searched for a difference behind the rows of the stimulus of the fourth
-- under that of the third, and when they can be.
use Rattle.std.specs.Prelude.{◌≡◌, ◌≢◌, ◌⊎◌, ℕ, ◌≤◌, Bool, List, [], length, Option, Some, None, IfSome, IsSomeAnd, Contains}
use Rattle.circuit_theory.specs.Interface.{shared_inputs}
use Rattle.circuit_theory.specs.declared.Side.{Side}
use Rattle.base_shelves.specs.Outside.{Takes}
use Rattle.flat_net.specs.View.{NetView, circuit_of, ports_of}
use Rattle.pair_decide.specs.declared.query.Proof.{Proof}
use Rattle.obligations.specs.declared.outcome.verdict.ResetWitness.{ResetWitness}
use Rattle.obligations.specs.Fits.{IsUndecided}
use Rattle.outcome_fits.specs.ResetOutcome.{Numbered}
use Rattle.sec_setup.specs.ports.Pairs.{NamedPair, named_pairs}
use Rattle.witness_report.specs.Shown.{MakesDiffer}
use Rattle.witness_report.specs.declared.witness.Witness.{Witness}
use Rattle.assume_queries.specs.assume_sequences.assume_taken.Taken.{assumed_by, IsUndecidedBy}
use Rattle.job_circuit.specs.replay.replay_header.Header.{FitsBoth, opened}
use Rattle.job_base.specs.declared.status.StatusName.{StatusName}
use Rattle.job_base.specs.declared.status.StatusName.TheVariants as status
use Rattle.job_base.specs.sec_files.job_files.Reading.{IsLoaded}
use Rattle.job_base.specs.sec_files.Loading.{IsAccepted, Loads}
use Rattle.job_base.specs.sec_files.Stimuli.{IsStimulus}
use Rattle.pair_texts.specs.assume_texts.Texts.{ThreeCircuits}
use Rattle.cycle_search.specs.declared.found.SearchVerdict.TheVariants as verdict
use Rattle.cycle_search.specs.Searches.{IsNumbering}
use Rattle.cycle_under.specs.declared.found.UnderError.{UnderError}
use Rattle.cycle_under.specs.declared.found.UnderError.TheVariants as refused
use Rattle.cycle_under.specs.Cycles.{pair_under}
use Rattle.job_under.specs.Found.{SearchRefuses}
use Rattle.restart.specs.Agreement.{Each, UpTo, Before}
use Rattle.restart.specs.Sequence.{BeginsWithRows}
use Rattle.job_after.specs.Judged.{Behind}
use Rattle.restart.specs.Behind.{IsBegun}
use Rattle.job_after_under.specs.Judged.{IsBehindUnder}
use Rattle.job_after_under.specs.Report.{behind_text, undecided_behind}
use Rattle.job_after_under.specs.Runs.{AgreeBehindWhereMet, SequenceMeetsFrom}

-- The circuits that three texts spell, the stimulus of the fourth, what was found of the nets that the three load as behind the rows of the
-- stimulus, and that this is written.
pub record AreSearchedBehind (x y u z : List ℕ) (cycles conflicts : ℕ) (before now : Option (List ℕ)) : Type 0 where
  pub spelled : ThreeCircuits x y u
  pub names : List (List ℕ)
  pub rows : List (List Bool)
  pub stimulus : IsStimulus z names rows
  pub of : Behind
  pub is : IsBehindUnder spelled.left_net spelled.right_net spelled.assumed_net names rows cycles conflicts of
  pub printed : Takes before now (behind_text of.left of.right is.searched.assumed.shape.output.name cycles conflicts (length rows) of.left_known of.right_known of.shown of.made)

-- In any two runs of the circuits that begin by the rows, have equal inputs and meet the assumption behind the rows, each output is equal in
-- every cycle behind them.
pub record BehindAgree (x y u z : List ℕ) (cycles conflicts : ℕ) (before now : Option (List ℕ)) : Type 0 where
  pub of : AreSearchedBehind x y u z cycles conflicts before now
  pub is_verdict : of.of.made.verdict ≡ verdict.Equal
  pub says : AgreeBehindWhereMet of.names of.rows Each of.spelled.assumed of.spelled.left of.spelled.right

-- In any two such runs each output is equal in the cycles up to the printed one, of later ones nothing is said; or a pair's functions differ
-- in the printed cycle and no difference is shown, each output being equal in every cycle before it.
pub record BehindAgreeUpTo (x y u z : List ℕ) (cycles conflicts : ℕ) (before now : Option (List ℕ)) : Type 0 where
  pub of : AreSearchedBehind x y u z cycles conflicts before now
  pub says : ((stopped : Option Side) × (of.of.made.verdict ≡ verdict.NoDifference stopped) × AgreeBehindWhereMet of.names of.rows (UpTo of.of.made.last) of.spelled.assumed of.spelled.left of.spelled.right)
      ⊎ ((w : ResetWitness) × (of.of.made.verdict ≡ verdict.Different w) × (of.of.shown ≡ None) × AgreeBehindWhereMet of.names of.rows (Before of.of.made.last) of.spelled.assumed of.spelled.left of.spelled.right)

-- The printed sequence begins with the rows, meets the assumption in each cycle behind them, and makes the circuits differ there in all runs
-- that read it, whatever they power up with.
pub record BehindDiffer (x y u z : List ℕ) (cycles conflicts : ℕ) (before now : Option (List ℕ)) : Type 0 where
  pub of : AreSearchedBehind x y u z cycles conflicts before now
  pub witness : Witness
  pub is_shown : of.of.shown ≡ Some witness
  pub begins : BeginsWithRows of.names of.rows witness.stimulus
  pub behind : length of.rows ≤ witness.cycle
  pub meets : SequenceMeetsFrom (length of.rows) of.spelled.assumed witness.stimulus witness.cycle
  pub says : MakesDiffer of.spelled.left of.spelled.right witness

-- The report names a pair of outputs. In each cycle before the last each output is equal. In the last one the query of this pair under the
-- assumption, of the circuits as they begin behind the rows, has more than 16 variables and met the limit, which one of the proofs shows: its
-- clauses, and a log of exactly as many chains as conflicts are allowed.
pub record BehindUndecided (x y u z : List ℕ) (cycles conflicts : ℕ) (proofs : List Proof) (before now : Option (List ℕ)) : Type 0 where
  pub of : AreSearchedBehind x y u z cycles conflicts before now
  pub says : AgreeBehindWhereMet of.names of.rows (Before of.of.made.last) of.spelled.assumed of.spelled.left of.spelled.right
  pub numbers : Numbered
  pub are_numbers : IsNumbering of.of.left of.of.right numbers
  pub named : NamedPair ℕ ℕ
  pub is_pair : Contains (named_pairs [] (circuit_of of.of.left) (circuit_of of.of.right)) named
  pub is_verdict : of.of.made.verdict ≡ verdict.Limit named.name
  pub proof : Proof
  pub kept : Contains proofs proof
  pub undecided : IsUndecided (pair_under (assumed_by of.is.searched.assumed) numbers named.left named.right of.of.made.last) conflicts proof

-- The report names the assumption: whether some values of the inputs that both circuits have meet it is a query of more than 16 variables
-- that met the limit, which the one proof shows. No pair is asked about.
pub record AssumptionUndecided (x y u z : List ℕ) (conflicts : ℕ) (proofs : List Proof) (before now : Option (List ℕ)) : Type 0 where
  pub spelled : ThreeCircuits x y u
  pub names : List (List ℕ)
  pub rows : List (List Bool)
  pub stimulus : IsStimulus z names rows
  pub left_known : List (Option Bool)
  pub right_known : List (Option Bool)
  pub left : NetView
  pub right : NetView
  pub left_begun : IsBegun spelled.left_net names rows left_known left
  pub right_begun : IsBegun spelled.right_net names rows right_known right
  pub proof : Proof
  pub kept : Contains proofs proof
  pub undecided : IsUndecidedBy (shared_inputs (ports_of left) (ports_of right)) spelled.assumed_net conflicts proof
  pub printed : Takes before now (undecided_behind left right undecided.assumed.shape.output.name conflicts (length rows) left_known right_known)

-- the texts of the circuits and of the assumption load, and this is said of them and of the text of the stimulus
pub record OfFourTexts (left right assumed stimulus : Option (List ℕ)) (P : List ℕ → List ℕ → List ℕ → List ℕ → Type 0) : Type 0 where
  pub left_loads : IsLoaded left
  pub right_loads : IsLoaded right
  pub assumed_loads : IsLoaded assumed
  pub said : IfSome left (λ x. IfSome right (λ y. IfSome assumed (λ u. IfSome stimulus (λ z. P x y u z))))

-- What the status says of four texts, and of what is written.
abbrev pub AfterUnderMeans : ℕ → ℕ → Option (List ℕ) → Option (List ℕ) → Option (List ℕ) → Option (List ℕ) → Option (List ℕ) → Option (List ℕ) → List Proof → StatusName → Type 0
AfterUnderMeans cycles conflicts left right assumed stimulus before now proofs status.Equal = OfFourTexts left right assumed stimulus (λ x y u z. BehindAgree x y u z cycles conflicts before now)
AfterUnderMeans cycles conflicts left right assumed stimulus before now proofs status.Different = OfFourTexts left right assumed stimulus (λ x y u z. BehindDiffer x y u z cycles conflicts before now)
AfterUnderMeans cycles conflicts left right assumed stimulus before now proofs status.NotShown = OfFourTexts left right assumed stimulus (λ x y u z. BehindAgreeUpTo x y u z cycles conflicts before now)
AfterUnderMeans cycles conflicts left right assumed stimulus before now proofs status.Limit =
    OfFourTexts left right assumed stimulus (λ x y u z. BehindUndecided x y u z cycles conflicts proofs before now ⊎ AssumptionUndecided x y u z conflicts proofs before now)
AfterUnderMeans cycles conflicts left right assumed stimulus before now proofs status.Done = ⊥
AfterUnderMeans cycles conflicts left right assumed stimulus before now proofs other = Unit {0}

-- The texts of circuits are accepted, and the fourth is a stimulus that names all inputs that both circuits have, and inputs alone. Nothing is
-- refused of the nets as they begin behind its rows.
pub record CanBeJudgedBehind (Refuses : NetView → NetView → NetView → UnderError → Type 0) (x y u z : List ℕ) : Type 0 where
  pub left : IsAccepted x
  pub right : IsAccepted y
  pub assumed : IsAccepted u
  pub names : List (List ℕ)
  pub rows : List (List Bool)
  pub stimulus : IsStimulus z names rows
  pub fits : (a b : NetView) → Loads x a → Loads y b → FitsBoth a b names × (opened a b names ≡ [])
  pub stands : (a b c : NetView) (names : List (List ℕ)) (rows : List (List Bool)) (l r : NetView) (left_known right_known : List (Option Bool)) → Loads x a → Loads y b → Loads u c → IsStimulus z names rows →
      IsBegun a names rows left_known l → IsBegun b names rows right_known r → (e : UnderError) → e ≢ refused.NoMemory → Refuses l r c e → ⊥

-- the four texts are told, and can be judged so
abbrev pub CanJudgeBehind : (NetView → NetView → NetView → UnderError → Type 0) → Option (List ℕ) → Option (List ℕ) → Option (List ℕ) → Option (List ℕ) → Type 0
CanJudgeBehind Refuses left right assumed stimulus = IsSomeAnd left (λ x. IsSomeAnd right (λ y. IsSomeAnd assumed (λ u. IsSomeAnd stimulus (λ z. CanBeJudgedBehind Refuses x y u z))))

-- They are told, and the search of the nets as they begin behind the rows refuses nothing: their interfaces match, the third is an assumption on
-- shared inputs that some row meets, and no circuit's outputs weigh more than 2,000,000 in the first cycle there.
abbrev pub CanSearchBehind : ℕ → ℕ → Option (List ℕ) → Option (List ℕ) → Option (List ℕ) → Option (List ℕ) → Type 0
CanSearchBehind cycles conflicts left right assumed stimulus = CanJudgeBehind (SearchRefuses cycles conflicts) left right assumed stimulus

-- a verdict, or want of memory
abbrev pub IsAfterUnderAnswer : StatusName → Type 0
IsAfterUnderAnswer status.Equal = Unit {0}
IsAfterUnderAnswer status.Different = Unit {0}
IsAfterUnderAnswer status.NotShown = Unit {0}
IsAfterUnderAnswer status.Limit = Unit {0}
IsAfterUnderAnswer status.NoMemory = Unit {0}
IsAfterUnderAnswer other = ⊥

-- circuits that can be searched so are, if no read and no write fails
abbrev pub IsAfterUnderComplete : ℕ → ℕ → Option (List ℕ) → Option (List ℕ) → Option (List ℕ) → Option (List ℕ) → StatusName → Type 0
IsAfterUnderComplete cycles conflicts left right assumed stimulus name = CanSearchBehind cycles conflicts left right assumed stimulus → IsAfterUnderAnswer name
