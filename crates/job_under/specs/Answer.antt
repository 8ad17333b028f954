-- What the status says of three texts, where the circuits of two are searched for a difference under that of the third, and when they can be.
use Rattle.std.specs.Prelude.{◌≡◌, ◌≢◌, ◌⊎◌, ◌≤◌, ◌<◌, ℕ, Bool, List, [], Option, Err, IsSomeAnd, Contains}
use Rattle.circuit_theory.specs.Agree.{IsPair}
use Rattle.circuit_theory.specs.Circuit.{Circuit}
use Rattle.circuit_theory.specs.Interface.{shared_inputs}
use Rattle.circuit_theory.specs.declared.Side.{Side}
use Rattle.circuit_laws.specs.reset_laws.Reset.{AreAlikeFromReset}
use Rattle.base_shelves.specs.Outside.{Takes}
use Rattle.flat_net.specs.View.{NetView, circuit_of, ports_of}
use Rattle.pair_decide.specs.declared.query.Proof.{Proof}
use Rattle.obligations.specs.declared.outcome.verdict.ResetWitness.{ResetWitness}
use Rattle.obligations.specs.Fits.{IsUndecided}
use Rattle.outcome_fits.specs.ResetOutcome.{Numbered}
use Rattle.sec_setup.specs.ports.Pairs.{NamedPair, named_pairs}
use Rattle.assume_queries.specs.assume_sequences.assume_taken.Taken.{assumed_by, IsUndecidedBy}
use Rattle.job_base.specs.declared.status.StatusName.{StatusName}
use Rattle.job_base.specs.declared.status.StatusName.TheVariants as status
use Rattle.job_base.specs.sec_files.Loading.{IsAccepted, Loads}
use Rattle.pair_texts.specs.assume_texts.Agreement.{AgreeFromResetWhereMet, MakesResetsDifferWhereMet}
use Rattle.pair_texts.specs.assume_texts.Meets.{RunMeetsCircuit, SequenceMeetsCircuit}
use Rattle.pair_texts.specs.assume_texts.Texts.{ThreeCircuits}
use Rattle.job_base.specs.sec_files.job_files.Texts.{OfThreeTexts}
use Rattle.cycle_search.specs.declared.found.Searched.{Searched}
use Rattle.cycle_search.specs.declared.found.SearchVerdict.TheVariants as verdict
use Rattle.cycle_search.specs.Searches.{IsNumbering}
use Rattle.cycle_under.specs.declared.found.UnderError.{UnderError}
use Rattle.cycle_under.specs.declared.found.UnderError.TheVariants as refused
use Rattle.cycle_under.specs.Cycles.{pair_under}
use Rattle.cycle_under.specs.Searches.{AgreeBeforeUnder, AreSearchedUnder}
use Rattle.job_under.specs.Found.{SearchRefuses}
use Rattle.job_under.specs.Report.{searched_text, undecided_text}

-- in any two runs that begin with the initial values, have equal inputs and meet the assumption each output is equal in the cycles up to a
-- last one
abbrev pub AgreeUpToWhereMet : {P Q R : Type 0} → ℕ → Circuit R → Circuit P → Circuit Q → Type 0
AgreeUpToWhereMet {P} {Q} {R} last c a b =
    (n : ℕ) (left : ℕ → P → Bool) (right : ℕ → Q → Bool) → AreAlikeFromReset a b n left right → RunMeetsCircuit c a n left →
    (t : ℕ) (p : P) (q : Q) → t < n → t ≤ last → IsPair [] a b p q → left t p ≡ right t q

-- The circuits that the three texts spell, the nets that they load as, and what was found of the nets and printed.
pub record AreSearchedTexts (x y z : List ℕ) (cycles conflicts : ℕ) (before now : Option (List ℕ)) : Type 0 where
  pub spelled : ThreeCircuits x y z
  pub made : Searched
  pub is : AreSearchedUnder spelled.left_net spelled.right_net spelled.assumed_net cycles conflicts made
  pub printed : Takes before now (searched_text spelled.left_net spelled.right_net is.assumed.shape.output.name cycles conflicts made)

-- In any two runs of the circuits that begin with the initial values, have equal inputs and meet the assumption, each output is equal in
-- every cycle.
pub record UnderAgree (x y z : List ℕ) (cycles conflicts : ℕ) (before now : Option (List ℕ)) : Type 0 where
  pub of : AreSearchedTexts x y z cycles conflicts before now
  pub is_verdict : of.made.verdict ≡ verdict.Equal
  pub says : AgreeFromResetWhereMet of.spelled.assumed of.spelled.left of.spelled.right

-- In any two such runs each output is equal in the cycles up to the printed one. Nothing is said of later cycles.
pub record UnderAgreeUpTo (x y z : List ℕ) (cycles conflicts : ℕ) (before now : Option (List ℕ)) : Type 0 where
  pub of : AreSearchedTexts x y z cycles conflicts before now
  pub stopped : Option Side
  pub is_verdict : of.made.verdict ≡ verdict.NoDifference stopped
  pub says : AgreeUpToWhereMet of.made.last of.spelled.assumed of.spelled.left of.spelled.right

-- The printed sequence and power-ups make the circuits differ, in runs from their initial values, and in no earlier cycle of those that meet
-- the assumption. The sequence meets it in each cycle.
pub record UnderDiffer (x y z : List ℕ) (cycles conflicts : ℕ) (before now : Option (List ℕ)) : Type 0 where
  pub of : AreSearchedTexts x y z cycles conflicts before now
  pub witness : ResetWitness
  pub is_verdict : of.made.verdict ≡ verdict.Different witness
  pub says : MakesResetsDifferWhereMet of.spelled.assumed of.spelled.left of.spelled.right witness
  pub meets : SequenceMeetsCircuit of.spelled.assumed witness.witness.stimulus witness.witness.cycle

-- The report names a pair of outputs. Before the last cycle all pairs agree in each cycle in which the assumption is met so far; in the last
-- one the query of this pair under it has more than 16 variables and met the limit, which one of the proofs shows: its clauses, and a log of
-- exactly as many chains as conflicts are allowed.
pub record UnderUndecided (x y z : List ℕ) (cycles conflicts : ℕ) (proofs : List Proof) (before now : Option (List ℕ)) : Type 0 where
  pub of : AreSearchedTexts x y z cycles conflicts before now
  pub numbers : Numbered
  pub are_numbers : IsNumbering of.spelled.left_net of.spelled.right_net numbers
  pub named : NamedPair ℕ ℕ
  pub is_pair : Contains (named_pairs [] (circuit_of of.spelled.left_net) (circuit_of of.spelled.right_net)) named
  pub is_verdict : of.made.verdict ≡ verdict.Limit named.name
  pub agree_before : (p : NamedPair ℕ ℕ) → Contains (named_pairs [] (circuit_of of.spelled.left_net) (circuit_of of.spelled.right_net)) p → AgreeBeforeUnder (assumed_by of.is.assumed) numbers p.left p.right of.made.last
  pub proof : Proof
  pub kept : Contains proofs proof
  pub undecided : IsUndecided (pair_under (assumed_by of.is.assumed) numbers named.left named.right of.made.last) conflicts proof

-- The report names the assumption: whether some values of the inputs that both circuits have meet it is a query of more than 16 variables
-- that met the limit, which the one proof shows. No pair is asked about.
pub record AssumptionUndecided (x y z : List ℕ) (conflicts : ℕ) (proofs : List Proof) (before now : Option (List ℕ)) : Type 0 where
  pub spelled : ThreeCircuits x y z
  pub proof : Proof
  pub kept : Contains proofs proof
  pub undecided : IsUndecidedBy (shared_inputs (ports_of spelled.left_net) (ports_of spelled.right_net)) spelled.assumed_net conflicts proof
  pub printed : Takes before now (undecided_text spelled.left_net spelled.right_net undecided.assumed.shape.output.name conflicts)

-- What the status says of three texts, and of what is written.
abbrev pub UnderMeans : ℕ → ℕ → Option (List ℕ) → Option (List ℕ) → Option (List ℕ) → Option (List ℕ) → Option (List ℕ) → List Proof → StatusName → Type 0
UnderMeans cycles conflicts left right assumed before now proofs status.Equal = OfThreeTexts left right assumed (λ x y z. UnderAgree x y z cycles conflicts before now)
UnderMeans cycles conflicts left right assumed before now proofs status.Different = OfThreeTexts left right assumed (λ x y z. UnderDiffer x y z cycles conflicts before now)
UnderMeans cycles conflicts left right assumed before now proofs status.NotShown = OfThreeTexts left right assumed (λ x y z. UnderAgreeUpTo x y z cycles conflicts before now)
UnderMeans cycles conflicts left right assumed before now proofs status.Limit =
    OfThreeTexts left right assumed (λ x y z. UnderUndecided x y z cycles conflicts proofs before now ⊎ AssumptionUndecided x y z conflicts proofs before now)
UnderMeans cycles conflicts left right assumed before now proofs status.Done = ⊥
UnderMeans cycles conflicts left right assumed before now proofs other = Unit {0}

-- The three texts are accepted, and nothing is refused of the nets that they load as.
pub record CanBeJudgedBy (Refuses : NetView → NetView → NetView → UnderError → Type 0) (x y z : List ℕ) : Type 0 where
  pub left : IsAccepted x
  pub right : IsAccepted y
  pub assumed : IsAccepted z
  pub stands : (a b c : NetView) → Loads x a → Loads y b → Loads z c → (e : UnderError) → e ≢ refused.NoMemory → Refuses a b c e → ⊥

-- the three texts are told, and can be judged so
abbrev pub CanJudgeBy : (NetView → NetView → NetView → UnderError → Type 0) → Option (List ℕ) → Option (List ℕ) → Option (List ℕ) → Type 0
CanJudgeBy Refuses left right assumed = IsSomeAnd left (λ x. IsSomeAnd right (λ y. IsSomeAnd assumed (λ z. CanBeJudgedBy Refuses x y z)))

-- The three texts are accepted, and the search of the nets that they load as refuses nothing for them: the interfaces match, the third is an
-- assumption on shared inputs that some row meets, and no circuit's outputs weigh more than 2,000,000 in cycle 0.
abbrev pub CanSearchUnder : ℕ → ℕ → Option (List ℕ) → Option (List ℕ) → Option (List ℕ) → Type 0
CanSearchUnder cycles conflicts left right assumed = CanJudgeBy (SearchRefuses cycles conflicts) left right assumed

-- a verdict, or want of memory
abbrev pub IsUnderAnswer : StatusName → Type 0
IsUnderAnswer status.Equal = Unit {0}
IsUnderAnswer status.Different = Unit {0}
IsUnderAnswer status.NotShown = Unit {0}
IsUnderAnswer status.Limit = Unit {0}
IsUnderAnswer status.NoMemory = Unit {0}
IsUnderAnswer other = ⊥

-- circuits that can be searched so are, if no read and no write fails
abbrev pub IsUnderComplete : ℕ → ℕ → Option (List ℕ) → Option (List ℕ) → Option (List ℕ) → StatusName → Type 0
IsUnderComplete cycles conflicts left right assumed name = CanSearchUnder cycles conflicts left right assumed → IsUnderAnswer name
