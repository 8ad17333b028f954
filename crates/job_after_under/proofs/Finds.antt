-- What is found of the nets that are read.
use Rattle.std.specs.Prelude.{IfSome, IsErrOf}
use Rattle.std.proofs.Common.{ℕ, Bool, List, Option, Result, Ok, Err}
use Rattle.flat_net.specs.View.{NetView}
use Rattle.pair_decide.specs.declared.query.Proof.{Proof}
use Rattle.job_base.specs.sec_files.Loading.{Loads}
use Rattle.job_base.specs.sec_files.Stimuli.{IsStimulus}
use Rattle.job_base.specs.declared.finding.Judgement.{Judgement}
use Rattle.job_base.specs.declared.finding.Stop.TheVariants as stop
use Rattle.job_base.specs.Ends.{EndsBy}
use Rattle.job_circuit.specs.declared.replay.replay_header.error.ReplayError.TheVariants as header
use Rattle.cycle_under.specs.declared.found.UnderError.{UnderError}
use Rattle.cycle_under.specs.declared.found.UnderError.TheVariants as under
use Rattle.job_after.specs.declared.judging.Judged.{Judged}
use Rattle.job_after_under.specs.declared.fault.Fault.{Fault}
use Rattle.job_after_under.specs.declared.fault.Fault.TheVariants as fault
use Rattle.job_after_under.specs.Found.{OfFour, IsFoundBy}
use Rattle.job_after_under.specs.Ends.{IsJudgedOr, fault_end}

-- the nets are judged
pub nets_end : (Refuses : NetView → NetView → NetView → UnderError → Type 0) (Judges : NetView → NetView → NetView → List (List ℕ) → List (List Bool) → Judgement → List Proof → List ℕ → Type 0) (left right assumed stimulus : Option (List ℕ)) (failed : Type 0) (a b c : NetView) (names : List (List ℕ)) (rows : List (List Bool)) (judged : Result Judged Fault) → IfSome left (λ x. Loads x a) →
    IfSome right (λ y. Loads y b) → IfSome assumed (λ u. Loads u c) → IfSome stimulus (λ z. IsStimulus z names rows) → IsJudgedOr Refuses Judges a b c names rows judged →
    EndsBy (IsFoundBy Refuses Judges left right assumed stimulus) failed (fault_end judged)
nets_end Refuses Judges left right assumed stimulus failed a b c names rows judged l r u s h = by judged h
  where
    of : (P : NetView → NetView → NetView → List (List ℕ) → List (List Bool) → Type 0) → P a b c names rows → OfFour left right assumed stimulus P
    of P said = record { a = a; b = b; c = c; names = names; rows = rows; left_loads = l; right_loads = r; assumed_loads = u; spells = s; said = said }

    by : (judged : Result Judged Fault) → IsJudgedOr Refuses Judges a b c names rows judged → EndsBy (IsFoundBy Refuses Judges left right assumed stimulus) failed (fault_end judged)
    by (Ok j) k = of _ k
    by (Err (fault.Header (header.Unknown name))) k = of _ k
    by (Err (fault.Header (header.Missing name))) k = of _ k
    by (Err (fault.Header header.NoMemory)) k = tt
    by (Err (fault.Search (under.Interface name))) k = of _ k
    by (Err (fault.Search (under.Assume f))) k = of _ k
    by (Err (fault.Search (under.Vacuous how))) k = (how, of _ k)
    by (Err (fault.Search (under.TooLarge side))) k = of _ k
    by (Err (fault.Search under.NoMemory)) k = tt
    by (Err fault.NoMemory) k = tt

-- a judgement ends with no read fault
pub no_fault_judged : (r : Result Judged Fault) → IsErrOf (fault_end r) stop.ReadFault → ⊥
no_fault_judged (Ok j) h = absurd (cc)
no_fault_judged (Err (fault.Header (header.Unknown name))) h = absurd (cc)
no_fault_judged (Err (fault.Header (header.Missing name))) h = absurd (cc)
no_fault_judged (Err (fault.Header header.NoMemory)) h = absurd (cc)
no_fault_judged (Err (fault.Search (under.Interface name))) h = absurd (cc)
no_fault_judged (Err (fault.Search (under.Assume f))) h = absurd (cc)
no_fault_judged (Err (fault.Search (under.Vacuous how))) h = absurd (cc)
no_fault_judged (Err (fault.Search (under.TooLarge side))) h = absurd (cc)
no_fault_judged (Err (fault.Search under.NoMemory)) h = absurd (cc)
no_fault_judged (Err fault.NoMemory) h = absurd (cc)
