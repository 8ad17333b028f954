-- What the status says of two texts whose circuits are searched for a difference, and when they can be compared so.
use Rattle.std.specs.Prelude.{◌≡◌, ℕ, List, [], Option, Contains, IsSomeAnd, None}
use Rattle.circuit_theory.specs.Circuit.{Circuit}
use Rattle.circuit_theory.specs.Interface.{first_mismatch}
use Rattle.circuit_theory.specs.declared.Side.{Side}
use Rattle.circuit_laws.specs.reset_laws.Reset.{AgreeFromReset}
use Rattle.circuit_laws.specs.cycle_laws.Bounded.{AgreeUpTo}
use Rattle.base_shelves.specs.Outside.{Takes}
use Rattle.flat_net.specs.View.{NetView, circuit_of, ports_of}
use Rattle.blif_read.specs.Design.{Place}
use Rattle.pair_decide.specs.declared.query.Proof.{Proof}
use Rattle.obligations.specs.declared.outcome.verdict.ResetWitness.{ResetWitness}
use Rattle.obligations.specs.Fits.{IsUndecided}
use Rattle.outcome_fits.specs.ResetOutcome.{Numbered, AgreeBefore, pair_at}
use Rattle.sec_setup.specs.ports.Pairs.{NamedPair, named_pairs}
use Rattle.plain_check.specs.under_base.compare_base.Says.{MakesResetsDiffer}
use Rattle.job_base.specs.declared.status.StatusName.{StatusName}
use Rattle.job_base.specs.declared.status.StatusName.TheVariants as status
use Rattle.job_base.specs.sec_files.Loading.{IsAccepted, Loads, SpellsCircuit}
use Rattle.cycle_search.specs.declared.found.Searched.{Searched}
use Rattle.cycle_search.specs.declared.found.SearchVerdict.TheVariants as verdict
use Rattle.cycle_search.specs.Outputs.{IsOneTooLarge}
use Rattle.cycle_search.specs.search_report.Report.{search_text}
use Rattle.cycle_search.specs.Searches.{IsNumbering, AreSearched}
use Rattle.job_base.specs.sec_files.job_files.Texts.{OfTexts}

-- The report of these nets is taken behind what was written before.
abbrev pub IsPrinted : NetView → NetView → ℕ → ℕ → Searched → Option (List ℕ) → Option (List ℕ) → Type 0
IsPrinted a b cycles conflicts made before now = Takes before now (search_text a b cycles conflicts made)

-- The circuits that the two texts spell, the nets that they load as, and what was found of the nets and printed.
pub record AreSearchedTexts (x y : List ℕ) (cycles conflicts : ℕ) (before now : Option (List ℕ)) : Type 0 where
  pub left_clock : Option (List ℕ)
  pub right_clock : Option (List ℕ)
  pub left : Circuit Place
  pub right : Circuit Place
  pub left_spelled : SpellsCircuit x left_clock left
  pub right_spelled : SpellsCircuit y right_clock right
  pub left_net : NetView
  pub right_net : NetView
  pub left_loads : Loads x left_net
  pub right_loads : Loads y right_net
  pub made : Searched
  pub is : AreSearched left_net right_net cycles conflicts made
  pub printed : IsPrinted left_net right_net cycles conflicts made before now

-- In any two runs of the circuits that begin with the initial values and have equal inputs, each output is equal in every cycle.
pub record CyclesAgree (x y : List ℕ) (cycles conflicts : ℕ) (before now : Option (List ℕ)) : Type 0 where
  pub of : AreSearchedTexts x y cycles conflicts before now
  pub is_verdict : of.made.verdict ≡ verdict.Equal
  pub says : AgreeFromReset of.left of.right

-- In any two such runs each output is equal in the cycles up to the printed one. Nothing is said of later cycles.
pub record CyclesAgreeUpTo (x y : List ℕ) (cycles conflicts : ℕ) (before now : Option (List ℕ)) : Type 0 where
  pub of : AreSearchedTexts x y cycles conflicts before now
  pub stopped : Option Side
  pub is_verdict : of.made.verdict ≡ verdict.NoDifference stopped
  pub says : AgreeUpTo of.made.last of.left of.right

-- The printed sequence and power-ups make the circuits differ, in runs from their initial values, and in no earlier cycle.
pub record CyclesDiffer (x y : List ℕ) (cycles conflicts : ℕ) (before now : Option (List ℕ)) : Type 0 where
  pub of : AreSearchedTexts x y cycles conflicts before now
  pub witness : ResetWitness
  pub is_verdict : of.made.verdict ≡ verdict.Different witness
  pub says : MakesResetsDiffer of.left of.right witness

-- The report names a pair of outputs. Before the last cycle all pairs agree in each cycle; in the last one the query of this pair has more
-- than 16 variables and met the limit, which one of the proofs shows: its clauses, and a log of exactly as many chains as conflicts are
-- allowed.
pub record CyclesUndecided (x y : List ℕ) (cycles conflicts : ℕ) (proofs : List Proof) (before now : Option (List ℕ)) : Type 0 where
  pub of : AreSearchedTexts x y cycles conflicts before now
  pub numbers : Numbered
  pub are_numbers : IsNumbering of.left_net of.right_net numbers
  pub named : NamedPair ℕ ℕ
  pub is_pair : Contains (named_pairs [] (circuit_of of.left_net) (circuit_of of.right_net)) named
  pub is_verdict : of.made.verdict ≡ verdict.Limit named.name
  pub agree_before : (z : NamedPair ℕ ℕ) → Contains (named_pairs [] (circuit_of of.left_net) (circuit_of of.right_net)) z → AgreeBefore numbers z.left z.right of.made.last
  pub proof : Proof
  pub kept : Contains proofs proof
  pub undecided : IsUndecided (pair_at numbers named.left named.right of.made.last) conflicts proof

-- What the status says of two texts whose circuits are searched, and of what is written.
abbrev pub SearchMeans : ℕ → ℕ → Option (List ℕ) → Option (List ℕ) → Option (List ℕ) → Option (List ℕ) → List Proof → StatusName → Type 0
SearchMeans cycles conflicts left right before now proofs status.Equal = OfTexts left right (λ x y. CyclesAgree x y cycles conflicts before now)
SearchMeans cycles conflicts left right before now proofs status.Different = OfTexts left right (λ x y. CyclesDiffer x y cycles conflicts before now)
SearchMeans cycles conflicts left right before now proofs status.NotShown = OfTexts left right (λ x y. CyclesAgreeUpTo x y cycles conflicts before now)
SearchMeans cycles conflicts left right before now proofs status.Limit = OfTexts left right (λ x y. CyclesUndecided x y cycles conflicts proofs before now)
SearchMeans cycles conflicts left right before now proofs status.Done = ⊥
SearchMeans cycles conflicts left right before now proofs other = Unit {0}

-- Both texts are accepted, their interfaces match, and no circuit's outputs weigh more than 2,000,000 in cycle 0.
pub record CanBeSearched (x y : List ℕ) : Type 0 where
  pub left : IsAccepted x
  pub right : IsAccepted y
  pub match : (a b : NetView) → Loads x a → Loads y b → first_mismatch (ports_of a) (ports_of b) ≡ None
  pub light : (a b : NetView) → Loads x a → Loads y b → (side : Side) → IsOneTooLarge a b 0 side → ⊥

-- both texts are told and can be searched
abbrev pub CanSearch : Option (List ℕ) → Option (List ℕ) → Type 0
CanSearch left right = IsSomeAnd left (λ x. IsSomeAnd right (λ y. CanBeSearched x y))

-- a verdict, or want of memory
abbrev pub IsSearchAnswer : StatusName → Type 0
IsSearchAnswer status.Equal = Unit {0}
IsSearchAnswer status.Different = Unit {0}
IsSearchAnswer status.NotShown = Unit {0}
IsSearchAnswer status.Limit = Unit {0}
IsSearchAnswer status.NoMemory = Unit {0}
IsSearchAnswer other = ⊥

-- circuits that can be searched are, if no read and no write fails
abbrev pub IsSearchComplete : Option (List ℕ) → Option (List ℕ) → StatusName → Type 0
IsSearchComplete left right name = CanSearch left right → IsSearchAnswer name
