-- What the parts of the work on two files find.
use Rattle.std.specs.Prelude.{IfSome, IsErrOf}
use Rattle.std.proofs.Common.{◌≡◌, ℕ, ◌≤◌, List, [], ◌∷◌, refl, sym, subst, inl, inr, Option, Result, Ok, Err}
use Rattle.base_shelves.specs.Outside.{Rose}
use Rattle.flat_net.specs.View.{NetView}
use Rattle.job_base.specs.sec_files.Loading.{Loads, LoadFails}
use Rattle.job_base.specs.declared.sec_files.loader.LoadError.{LoadError}
use Rattle.job_base.specs.Ends.{EndsBy}
use Rattle.job_base.specs.declared.finding.File.TheVariants as file
use Rattle.job_base.specs.declared.finding.Finding.{Finding}
use Rattle.job_base.specs.declared.finding.Stop.{Stop}
use Rattle.job_base.specs.declared.finding.Stop.TheVariants as stop
use Rattle.job_base.specs.sec_files.job_files.Ends.{load_end}
use Rattle.job_base.specs.sec_files.job_files.Reading.{IsLoaded, Held, ReadFailed}
use Rattle.job_base.proofs.sec_files.job_files.Loading.{load_ends, later_fails}
use Rattle.job_base.proofs.sec_files.job_files.Reading.{first_failed, second_failed, is_loaded}
use Rattle.job_signals.specs.declared.judging.Judged.{Judged}
use Rattle.job_signals.specs.declared.judging.JudgeError.{JudgeError}
use Rattle.job_signals.specs.declared.judging.JudgeError.TheVariants as judge
use Rattle.job_signals.specs.Found.{IsSignalsFound}
use Rattle.job_signals.specs.Ends.{IsJudgedBy, judged_end, SignalsFound, EndsBeside}

-- what is found of both nets
judged_found : (left right : Option (List ℕ)) (failed : Type 0) (a b : NetView) → IfSome left (λ x. Loads x a) → IfSome right (λ y. Loads y b) → (judged : Result Judged JudgeError) →
    IsJudgedBy a b judged → EndsBy (IsSignalsFound left right) failed (judged_end judged)
judged_found left right failed a b l r (Ok j) h = (refl, record { a = a; b = b; left_loads = l; right_loads = r; said = h })
judged_found left right failed a b l r (Err (judge.Interface name)) h = record { a = a; b = b; left_loads = l; right_loads = r; said = h }
judged_found left right failed a b l r (Err (judge.TooLarge side)) h = record { a = a; b = b; left_loads = l; right_loads = r; said = h }
judged_found left right failed a b l r (Err judge.NoMemory) h = tt

-- a judgement ends with no read fault
pub no_fault_judged : (judged : Result Judged JudgeError) → IsErrOf (judged_end judged) stop.ReadFault → ⊥
no_fault_judged (Ok j) h = absurd (cc)
no_fault_judged (Err (judge.Interface name)) h = absurd (cc)
no_fault_judged (Err (judge.TooLarge side)) h = absurd (cc)
no_fault_judged (Err judge.NoMemory) h = absurd (cc)

module _ (held : Held) (before now : List ℕ → ℕ) (left right : List ℕ) where
  abbrev Found : Finding → Type 0
  Found = IsSignalsFound (held left) (held right)

  abbrev Failed : Type 0
  Failed = ReadFailed held before now (left ∷ right ∷ [])

  -- A's file isn't loaded
  pub left_ends : (error : LoadError) → LoadFails (held left) (Rose (before left) (now left)) error → EndsBy Found Failed (load_end file.A error)
  left_ends error h =
      load_ends Found Failed (Rose (before left) (now left)) (held left) file.A (λ long. long) (λ line kind faulty. faulty) (λ fault unsound. unsound) (λ place kind misread. misread)
      (first_failed held before now left (right ∷ [])) error h

  -- B's isn't, beside A's
  right_ends : IsLoaded (held left) → (error : LoadError) → LoadFails (held right) (Rose (before right) (now right)) error → EndsBy Found Failed (load_end file.B error)
  right_ends l error h =
      load_ends Found Failed (Rose (before right) (now right)) (held right) file.B (λ long. (l, long)) (λ line kind faulty. (l, faulty)) (λ fault unsound. (l, unsound)) (λ place kind misread. (l, misread))
      (second_failed held before now left right [] l) error h

  -- what is found beside A's net is found of both files; what is held and the faults of B's are those of a later time
  pub beside_found : (a : NetView) (later : Option (List ℕ)) (middle : ℕ) (r : Result Finding Stop) → IfSome (held left) (λ x. Loads x a) → later ≡ held right → before right ≤ middle →
      EndsBeside later (Rose middle (now right)) a r → SignalsFound held before now left right r
  beside_found a later middle r l same grew (inl h) =
      subst (λ (e : Result Finding Stop). SignalsFound held before now left right e) (sym h.2)
      (right_ends (is_loaded (held left) a l) h.0 (later_fails later (held right) (before right) middle (now right) h.0 same grew h.1))
  beside_found a later middle r l same grew (inr h) =
      subst (λ (e : Result Finding Stop). SignalsFound held before now left right e) (sym h.4)
      (judged_found (held left) (held right) Failed a h.0 l (subst (λ (o : Option (List ℕ)). IfSome o (λ y. Loads y h.0)) same h.2) h.1 h.3)
