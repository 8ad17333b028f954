-- What is found of three texts, what the status says of the circuits of two of them, and when they can be compared.
use Rattle.std.specs.Prelude.{◌≡◌, ◌⊎◌, ℕ, ◌≤◌, Bool, List, [], ◌∷◌, length, Option, Some, None, Err, IfSome, IsSomeAnd, Contains}
use Rattle.circuit_theory.specs.Circuit.{Circuit}
use Rattle.circuit_theory.specs.Interface.{first_mismatch}
use Rattle.circuit_theory.specs.declared.Side.{Side}
use Rattle.base_shelves.specs.Outside.{Takes}
use Rattle.flat_net.specs.View.{NetView, circuit_of, ports_of}
use Rattle.blif_read.specs.Design.{Place}
use Rattle.pair_decide.specs.declared.query.Proof.{Proof}
use Rattle.obligations.specs.declared.outcome.verdict.ResetWitness.{ResetWitness}
use Rattle.obligations.specs.Fits.{IsUndecided}
use Rattle.outcome_fits.specs.ResetOutcome.{Numbered, pair_at}
use Rattle.sec_setup.specs.ports.Pairs.{NamedPair, named_pairs}
use Rattle.sec_setup.specs.Matching.{InterfacesMatch}
use Rattle.witness_report.specs.Shown.{MakesDiffer}
use Rattle.witness_report.specs.declared.witness.Witness.{Witness}
use Rattle.circuit_report.specs.declared.sim_report.refusal.Misfit.TheVariants as misfit
use Rattle.job_circuit.specs.declared.replay.replay_header.error.ReplayError.TheVariants as header
use Rattle.job_circuit.specs.replay.replay_header.Header.{FitsBoth, FitsOr, first_unknown, opened}
use Rattle.job_circuit.specs.job_replay.Replays.{OfReplay, OfCircuit, OfStimulus}
use Rattle.job_base.specs.sec_files.job_files.Reading.{IsLoaded}
use Rattle.job_base.specs.sec_files.Loading.{IsAccepted, Loads, IsTooLong, HasFault, HasDesignFault, HasRecordFault, SpellsCircuit}
use Rattle.job_base.specs.sec_files.Stimuli.{IsStimulus, HasBadHeader, HasBadRow}
use Rattle.job_base.specs.declared.finding.File.TheVariants as file
use Rattle.job_base.specs.declared.finding.LineFault.TheVariants as line_fault
use Rattle.job_base.specs.declared.finding.Refusal.{Refusal}
use Rattle.job_base.specs.declared.finding.Refusal.TheVariants as refusal
use Rattle.job_base.specs.declared.finding.Finding.{Finding}
use Rattle.job_base.specs.declared.finding.Finding.TheVariants as finding
use Rattle.job_base.specs.declared.status.StatusName.{StatusName}
use Rattle.job_base.specs.declared.status.StatusName.TheVariants as status
use Rattle.cycle_search.specs.declared.found.SearchVerdict.TheVariants as verdict
use Rattle.cycle_search.specs.Outputs.{IsOneTooLarge}
use Rattle.cycle_search.specs.Searches.{IsNumbering}
use Rattle.restart.specs.Agreement.{AgreeBehind, Each, UpTo, Before}
use Rattle.sec_setup.specs.Cycles.{IsAcyclic}
use Rattle.job_after.specs.Last.{IsCyclic}
use Rattle.job_after.specs.Report.{after_text}
use Rattle.restart.specs.Sequence.{BeginsWithRows}
use Rattle.job_after.specs.Judged.{Behind, IsBehind, IsJudged}
use Rattle.restart.specs.Behind.{IsBegun}

-- the paths of two circuits and of a stimulus, the last cycle behind its rows where one is named, and the limit of conflicts
pub record AfterJob : Type 0 where
  pub left : List ℕ
  pub right : List ℕ
  pub stimulus : List ℕ
  pub cycles : Option ℕ
  pub conflicts : ℕ

-- the stimulus names this first, and it is no input of one of the circuits
abbrev pub IsUnfit : NetView → NetView → List (List ℕ) → List ℕ → Type 0
IsUnfit a b names name = (first_unknown a b names ≡ Some name) ⊎ ((rest : List (List ℕ)) × FitsBoth a b names × (opened a b names ≡ name ∷ rest))

-- both nets begin behind the rows, and this is true of them there
pub record IsRefusedSearch (a b : NetView) (names : List (List ℕ)) (rows : List (List Bool)) (P : NetView → NetView → Type 0) : Type 0 where
  pub left_known : List (Option Bool)
  pub right_known : List (Option Bool)
  pub left : NetView
  pub right : NetView
  pub left_begun : IsBegun a names rows left_known left
  pub right_begun : IsBegun b names rows right_known right
  pub said : P left right

-- one of the files isn't loaded; the first in the order of the work
abbrev pub IsUnreadRefusal : Option (List ℕ) → Option (List ℕ) → Option (List ℕ) → Refusal → Type 0
IsUnreadRefusal left right stimulus (refusal.TooLong file.S) = OfStimulus left right stimulus file.S IsTooLong
IsUnreadRefusal left right stimulus (refusal.TooLong f) = OfCircuit left right f IsTooLong
IsUnreadRefusal left right stimulus (refusal.Text f line (line_fault.Circuit kind)) = OfCircuit left right f (λ x. HasFault x line kind)
IsUnreadRefusal left right stimulus (refusal.Text f line line_fault.BadHeader) = OfStimulus left right stimulus f (λ z. HasBadHeader z line)
IsUnreadRefusal left right stimulus (refusal.Text f line (line_fault.Clauses kind)) = ⊥
IsUnreadRefusal left right stimulus (refusal.Text f line line_fault.BadRow) = OfStimulus left right stimulus f (λ z. HasBadRow z line)
IsUnreadRefusal left right stimulus (refusal.Design f fault) = OfCircuit left right f (λ x. HasDesignFault x fault)
IsUnreadRefusal left right stimulus (refusal.Record f place kind) = OfCircuit left right f (λ x. HasRecordFault x place kind)
IsUnreadRefusal left right stimulus other = ⊥

-- what is found where one of the files isn't loaded
abbrev pub IsUnread : Option (List ℕ) → Option (List ℕ) → Option (List ℕ) → Finding → Type 0
IsUnread left right stimulus (finding.Refused r) = IsUnreadRefusal left right stimulus r
IsUnread left right stimulus other = ⊥

-- Why the circuits aren't compared; the first cause in the order of the work. What makes one of two circuits too large for the comparison
-- is told of both as they begin behind the rows.
abbrev pub IsBegunRefusal : (NetView → NetView → Side → Type 0) → Option (List ℕ) → Option (List ℕ) → Option (List ℕ) → Refusal → Type 0
IsBegunRefusal TooLarge left right stimulus (refusal.Misfit (misfit.Unknown name)) = OfReplay left right stimulus (λ a b names rows. IsUnfit a b names name)
IsBegunRefusal TooLarge left right stimulus (refusal.Misfit (misfit.Missing name)) = OfReplay left right stimulus (λ a b names rows. FitsOr a b names (Err (header.Missing name)))
IsBegunRefusal TooLarge left right stimulus (refusal.Interface name) = OfReplay left right stimulus (λ a b names rows. IsRefusedSearch a b names rows (λ l r. first_mismatch (ports_of l) (ports_of r) ≡ Some name))
IsBegunRefusal TooLarge left right stimulus (refusal.TooLarge side) = OfReplay left right stimulus (λ a b names rows. IsRefusedSearch a b names rows (λ l r. InterfacesMatch l r × TooLarge l r side))
IsBegunRefusal TooLarge left right stimulus other = IsUnreadRefusal left right stimulus other

-- the unfoldings of this circuit's outputs in the first cycle weigh more than 2,000,000 together
abbrev pub IsWide : NetView → NetView → Side → Type 0
IsWide l r side = IsOneTooLarge l r 0 side

-- what is found of three files
abbrev pub IsAfterFound : Option ℕ → ℕ → Option (List ℕ) → Option (List ℕ) → Option (List ℕ) → Finding → Type 0
IsAfterFound cycles conflicts left right stimulus (finding.Refused r) = IsBegunRefusal IsWide left right stimulus r
IsAfterFound cycles conflicts left right stimulus (finding.Judged j proofs text) = OfReplay left right stimulus (λ a b names rows. IsJudged a b names rows cycles conflicts j proofs text)
IsAfterFound cycles conflicts left right stimulus (finding.Cyclic side latches) = (cycles ≡ None) × OfReplay left right stimulus (λ a b names rows. IsRefusedSearch a b names rows (λ l r. IsCyclic l r side latches))
IsAfterFound cycles conflicts left right stimulus other = ⊥

-- The circuits that two texts spell, the stimulus of the third, the nets that the two load as, what was found of them behind the rows of
-- the stimulus, and that this is written.
pub record AreAfter (x y z : List ℕ) (cycles : Option ℕ) (conflicts : ℕ) (before now : Option (List ℕ)) : Type 0 where
  pub left_clock : Option (List ℕ)
  pub right_clock : Option (List ℕ)
  pub left : Circuit Place
  pub right : Circuit Place
  pub left_spelled : SpellsCircuit x left_clock left
  pub right_spelled : SpellsCircuit y right_clock right
  pub names : List (List ℕ)
  pub rows : List (List Bool)
  pub stimulus : IsStimulus z names rows
  pub left_net : NetView
  pub right_net : NetView
  pub left_loads : Loads x left_net
  pub right_loads : Loads y right_net
  pub of : Behind
  pub is : IsBehind left_net right_net names rows cycles conflicts of
  pub printed : Takes before now (after_text of.left of.right of.cycles conflicts (length rows) of.left_known of.right_known of.shown of.made)

-- In any two runs of the circuits that begin by the rows and have equal inputs, each output is equal in every cycle behind the rows.
pub record AfterAgree (x y z : List ℕ) (cycles : Option ℕ) (conflicts : ℕ) (before now : Option (List ℕ)) : Type 0 where
  pub of : AreAfter x y z cycles conflicts before now
  pub is_verdict : of.of.made.verdict ≡ verdict.Equal
  pub says : AgreeBehind of.names of.rows Each of.left of.right

-- In any two such runs each output is equal in the cycles up to the printed one, of later ones nothing is said; or a pair's functions differ
-- in the printed cycle and no difference is shown, each output being equal in every cycle before it.
pub record AfterAgreeUpTo (x y z : List ℕ) (cycles : Option ℕ) (conflicts : ℕ) (before now : Option (List ℕ)) : Type 0 where
  pub of : AreAfter x y z cycles conflicts before now
  pub says : ((stopped : Option Side) × (of.of.made.verdict ≡ verdict.NoDifference stopped) × AgreeBehind of.names of.rows (UpTo of.of.made.last) of.left of.right)
      ⊎ ((w : ResetWitness) × (of.of.made.verdict ≡ verdict.Different w) × (of.of.shown ≡ None) × AgreeBehind of.names of.rows (Before of.of.made.last) of.left of.right)

-- The printed sequence begins with the rows, and makes the circuits differ behind them in all runs that read it, whatever they power up with.
pub record AfterDiffer (x y z : List ℕ) (cycles : Option ℕ) (conflicts : ℕ) (before now : Option (List ℕ)) : Type 0 where
  pub of : AreAfter x y z cycles conflicts before now
  pub witness : Witness
  pub is_shown : of.of.shown ≡ Some witness
  pub begins : BeginsWithRows of.names of.rows witness.stimulus
  pub behind : length of.rows ≤ witness.cycle
  pub says : MakesDiffer of.left of.right witness

-- The report names a pair of outputs. In each cycle before the last each output is equal. In the last one the query of this pair, of the
-- circuits as they begin behind the rows, has more than 16 variables and met the limit, which one of the proofs shows: its clauses, and a
-- log of exactly as many chains as conflicts are allowed.
pub record AfterUndecided (x y z : List ℕ) (cycles : Option ℕ) (conflicts : ℕ) (proofs : List Proof) (before now : Option (List ℕ)) : Type 0 where
  pub of : AreAfter x y z cycles conflicts before now
  pub says : AgreeBehind of.names of.rows (Before of.of.made.last) of.left of.right
  pub numbers : Numbered
  pub are_numbers : IsNumbering of.of.left of.of.right numbers
  pub named : NamedPair ℕ ℕ
  pub is_pair : Contains (named_pairs [] (circuit_of of.of.left) (circuit_of of.of.right)) named
  pub is_verdict : of.of.made.verdict ≡ verdict.Limit named.name
  pub proof : Proof
  pub kept : Contains proofs proof
  pub undecided : IsUndecided (pair_at numbers named.left named.right of.of.made.last) conflicts proof

-- both texts of circuits load, and this is said of them and of the text of the stimulus
pub record OfThree (left right stimulus : Option (List ℕ)) (P : List ℕ → List ℕ → List ℕ → Type 0) : Type 0 where
  pub left_loads : IsLoaded left
  pub right_loads : IsLoaded right
  pub said : IfSome left (λ x. IfSome right (λ y. IfSome stimulus (λ z. P x y z)))

-- What the status says of three texts, and of what is written.
abbrev pub AfterMeans : Option ℕ → ℕ → Option (List ℕ) → Option (List ℕ) → Option (List ℕ) → Option (List ℕ) → Option (List ℕ) → List Proof → StatusName → Type 0
AfterMeans cycles conflicts left right stimulus before now proofs status.Equal = OfThree left right stimulus (λ x y z. AfterAgree x y z cycles conflicts before now)
AfterMeans cycles conflicts left right stimulus before now proofs status.Different = OfThree left right stimulus (λ x y z. AfterDiffer x y z cycles conflicts before now)
AfterMeans cycles conflicts left right stimulus before now proofs status.NotShown = OfThree left right stimulus (λ x y z. AfterAgreeUpTo x y z cycles conflicts before now)
AfterMeans cycles conflicts left right stimulus before now proofs status.Limit = OfThree left right stimulus (λ x y z. AfterUndecided x y z cycles conflicts proofs before now)
AfterMeans cycles conflicts left right stimulus before now proofs status.Done = ⊥
AfterMeans cycles conflicts left right stimulus before now proofs other = Unit {0}

-- Both texts of circuits are accepted, and the third is a stimulus that names all inputs that both have, and inputs alone. As they begin
-- behind its rows, their interfaces match, and none is too large.
pub record CanBeBegun (TooLarge : NetView → NetView → Side → Type 0) (x y z : List ℕ) : Type 0 where
  pub left : IsAccepted x
  pub right : IsAccepted y
  pub names : List (List ℕ)
  pub rows : List (List Bool)
  pub stimulus : IsStimulus z names rows
  pub fits : (a b : NetView) → Loads x a → Loads y b → FitsBoth a b names × (opened a b names ≡ [])
  pub match : (a b : NetView) (names : List (List ℕ)) (rows : List (List Bool)) (l r : NetView) (left_known right_known : List (Option Bool)) → Loads x a → Loads y b → IsStimulus z names rows →
      IsBegun a names rows left_known l → IsBegun b names rows right_known r → first_mismatch (ports_of l) (ports_of r) ≡ None
  pub light : (a b : NetView) (names : List (List ℕ)) (rows : List (List Bool)) (l r : NetView) (left_known right_known : List (Option Bool)) → Loads x a → Loads y b → IsStimulus z names rows →
      IsBegun a names rows left_known l → IsBegun b names rows right_known r → (side : Side) → TooLarge l r side → ⊥

-- the three texts are told, and can be compared so
abbrev pub CanBegin : (NetView → NetView → Side → Type 0) → Option (List ℕ) → Option (List ℕ) → Option (List ℕ) → Type 0
CanBegin TooLarge left right stimulus = IsSomeAnd left (λ x. IsSomeAnd right (λ y. IsSomeAnd stimulus (λ z. CanBeBegun TooLarge x y z)))

-- the statuses of an answer, and that of want of memory, which has no cause here
abbrev pub IsAfterAnswer : StatusName → Type 0
IsAfterAnswer status.Equal = Unit {0}
IsAfterAnswer status.Different = Unit {0}
IsAfterAnswer status.NotShown = Unit {0}
IsAfterAnswer status.Limit = Unit {0}
IsAfterAnswer status.NoMemory = Unit {0}
IsAfterAnswer other = ⊥

-- no latch of either circuit lies on a cycle
abbrev pub AreAcyclicTexts : List ℕ → List ℕ → Type 0
AreAcyclicTexts x y = (a b : NetView) → Loads x a → Loads y b → IsAcyclic a × IsAcyclic b

-- they can be compared up to the last cycle that is named, or without one in all cycles
abbrev pub CanBeSearchedBehind : Option ℕ → Option (List ℕ) → Option (List ℕ) → Option (List ℕ) → Type 0
CanBeSearchedBehind (Some last) left right stimulus = CanBegin IsWide left right stimulus
CanBeSearchedBehind None left right stimulus = CanBegin IsWide left right stimulus × IsSomeAnd left (λ x. IsSomeAnd right (λ y. AreAcyclicTexts x y))

-- circuits that can be compared so are, if no read and no write fails
abbrev pub IsAfterComplete : Option ℕ → Option (List ℕ) → Option (List ℕ) → Option (List ℕ) → StatusName → Type 0
IsAfterComplete cycles left right stimulus name = CanBeSearchedBehind cycles left right stimulus → IsAfterAnswer name
