-- What the status of a replay of what is known says, and when there is one.
use Rattle.std.specs.Prelude.{◌≡◌, ℕ, Bool, true, List, Option, Result, Ok, IsSomeAnd}
use Rattle.base_shelves.specs.Outside.{Takes}
use Rattle.flat_net.specs.View.{NetView}
use Rattle.sec_setup.specs.Matching.{InterfacesMatch}
use Rattle.job_base.specs.sec_files.Loading.{IsAccepted, Loads}
use Rattle.job_base.specs.sec_files.Stimuli.{IsStimulus}
use Rattle.job_base.specs.Written.{judgement_status}
use Rattle.job_base.specs.declared.status.StatusName.{StatusName}
use Rattle.job_base.specs.declared.status.StatusName.TheVariants as status
use Rattle.job_after.specs.declared.fault.AfterFault.{AfterFault}
use Rattle.job_after.specs.declared.judging.Judged.{Judged}
use Rattle.job_after.specs.Ends.{FitsAfter}
use Rattle.job_known.specs.Found.{OfReset, OfBehind}

-- this is judged, with this status, and its whole report is taken
pub record TakesKnown (Of : Result Judged AfterFault → Type 0) (before now : Option (List ℕ)) (name : StatusName) : Type 0 where
  pub judged : Judged
  pub is : Of (Ok judged)
  pub status_is : judgement_status judged.judgement ≡ name
  pub printed : Takes before now judged.text

abbrev pub KnownMeans : (Result Judged AfterFault → Type 0) → Option (List ℕ) → Option (List ℕ) → StatusName → Type 0
KnownMeans Of before now status.Equal = TakesKnown Of before now status.Equal
KnownMeans Of before now status.Different = TakesKnown Of before now status.Different
KnownMeans Of before now status.NotShown = TakesKnown Of before now status.NotShown
KnownMeans Of before now status.Limit = ⊥
KnownMeans Of before now status.Done = ⊥
KnownMeans Of before now other = Unit {0}

-- what it says from initial values, and behind the rows of a stimulus
abbrev pub ResetMeans : Bool → Option (List ℕ) → Option (List ℕ) → Option (List ℕ) → Option (List ℕ) → Option (List ℕ) → StatusName → Type 0
ResetMeans settles left right stimulus earlier now name = KnownMeans (OfReset settles left right stimulus) earlier now name

abbrev pub BehindMeans : Bool → Option (List ℕ) → Option (List ℕ) → Option (List ℕ) → Option (List ℕ) → Option (List ℕ) → Option (List ℕ) → StatusName → Type 0
BehindMeans settles left right before stimulus earlier now name = KnownMeans (OfBehind settles left right before stimulus) earlier now name

-- both circuits' texts are accepted, and their interfaces match
pub record AreBeside (x y : List ℕ) : Type 0 where
  pub left : IsAccepted x
  pub right : IsAccepted y
  pub match : (a b : NetView) → Loads x a → Loads y b → InterfacesMatch a b

-- the text is a stimulus that names all inputs that both have, and inputs alone
pub record IsFor (x y z : List ℕ) : Type 0 where
  pub names : List (List ℕ)
  pub rows : List (List Bool)
  pub stimulus : IsStimulus z names rows
  pub fits : (a b : NetView) → Loads x a → Loads y b → FitsAfter a b names (Ok tt)

abbrev pub CanBeReplayedFrom : List ℕ → List ℕ → List ℕ → Type 0
CanBeReplayedFrom x y z = AreBeside x y × IsFor x y z

abbrev pub CanBeReplayedBehind : List ℕ → List ℕ → List ℕ → List ℕ → Type 0
CanBeReplayedBehind x y u z = AreBeside x y × IsFor x y u × IsFor x y z

-- the statuses of a replay; without `settles` none is not shown
abbrev pub IsKnownAnswer : Bool → StatusName → Type 0
IsKnownAnswer settles status.Equal = Unit {0}
IsKnownAnswer settles status.Different = Unit {0}
IsKnownAnswer settles status.NotShown = settles ≡ true
IsKnownAnswer settles status.NoMemory = Unit {0}
IsKnownAnswer settles other = ⊥

-- where the circuits can be run, they are, if no read and no write fails
abbrev pub IsResetComplete : Bool → Option (List ℕ) → Option (List ℕ) → Option (List ℕ) → StatusName → Type 0
IsResetComplete settles left right stimulus name = IsSomeAnd left (λ x. IsSomeAnd right (λ y. IsSomeAnd stimulus (λ z. CanBeReplayedFrom x y z))) → IsKnownAnswer settles name

abbrev pub IsBehindComplete : Bool → Option (List ℕ) → Option (List ℕ) → Option (List ℕ) → Option (List ℕ) → StatusName → Type 0
IsBehindComplete settles left right before stimulus name =
    IsSomeAnd left (λ x. IsSomeAnd right (λ y. IsSomeAnd before (λ u. IsSomeAnd stimulus (λ z. CanBeReplayedBehind x y u z)))) → IsKnownAnswer settles name
