-- What the parts of the work on two files find.
use Rattle.std.specs.Prelude.{IfSome, IsErrOf}
use Rattle.std.proofs.Common.{◌≡◌, ℕ, ◌≤◌, List, [], ◌∷◌, refl, sym, subst, inl, inr, Option, Result, Ok, Err}
use Rattle.circuit_theory.specs.declared.Mode.{Mode}
use Rattle.circuit_theory.specs.declared.Mode.TheVariants.{Plain, Event}
use Rattle.base_shelves.specs.Outside.{Rose}
use Rattle.sec_base.specs.declared.settings.Settings.{Settings}
use Rattle.flat_net.specs.View.{NetView}
use Rattle.pair_decide.specs.declared.query.SameBy.{SameBy}
use Rattle.assume_laws.specs.declared.assume_shape.shape.ShapeFault.{ShapeFault}
use Rattle.obligations.specs.declared.outcome.verdict.Outcome.{Outcome}
use Rattle.event_setup.specs.event_meaning.event_meaning_under.CompareError.{CompareError}
use Rattle.event_setup.specs.event_meaning.event_meaning_under.CompareError.TheVariants as compare_error
use Rattle.event_setup.specs.event_meaning.event_names.event_fits.Compared.{ComparedIn}
use Rattle.job_base.specs.sec_files.Loading.{Loads, LoadFails}
use Rattle.job_base.specs.declared.sec_files.loader.LoadError.{LoadError}
use Rattle.job_base.specs.Ends.{EndsBy}
use Rattle.job_base.specs.declared.finding.File.TheVariants as file
use Rattle.job_base.specs.declared.finding.Refusal.TheVariants as refusal
use Rattle.job_base.specs.declared.finding.Finding.{Finding}
use Rattle.job_base.specs.declared.finding.Finding.TheVariants as finding
use Rattle.job_base.specs.declared.finding.Stop.{Stop}
use Rattle.job_base.specs.declared.finding.Stop.TheVariants as stop
use Rattle.job_base.specs.sec_files.job_files.Ends.{load_end}
use Rattle.job_base.specs.sec_files.job_files.Reading.{IsLoaded, Held, ReadFailed}
use Rattle.job_base.proofs.sec_files.job_files.Loading.{load_ends, later_fails}
use Rattle.job_base.proofs.sec_files.job_files.Reading.{first_failed, second_failed, is_loaded}
use Rattle.job_check.specs.check_meaning.check_found.Ends.{compare_end}
use Rattle.job_check.proofs.check_meaning.check_found.Finds.{no_fault_compared}
use Rattle.job_pair.specs.Found.{check_of, IsAnsweredAlone, IsPairFound, LackPair}
use Rattle.job_pair.specs.Ends.{EndsBeside, IsMissing, PairEnds, PairFound}

-- nothing is refused for an assumption where there is none
pub no_assumption : (mode : Mode) (a b : NetView) (settings : Settings) (fault : ShapeFault) → ComparedIn mode a b settings (Err (compare_error.Assume fault)) → ⊥
no_assumption Plain a b settings fault h = h
no_assumption Event a b settings fault h = h

pub not_vacuous : (mode : Mode) (a b : NetView) (settings : Settings) (by : SameBy) → ComparedIn mode a b settings (Err (compare_error.Vacuous by)) → ⊥
not_vacuous Plain a b settings by h = h
not_vacuous Event a b settings by h = h

-- the work on both nets ends with no read fault
pub no_fault : (pair : List ℕ) (settings : Settings) (a b : NetView) (r : Result Finding Stop) → PairEnds pair settings a b r → IsErrOf r stop.ReadFault → ⊥
no_fault pair settings a b r (inl h) e = let f : IsErrOf (Ok (finding.Refused (refusal.Pair pair))) stop.ReadFault = subst (λ (x : Result Finding Stop). IsErrOf x stop.ReadFault) h.1 e in absurd (cc)
no_fault pair settings a b r (inr (inl h)) e = no_fault_compared settings h.0 (subst (λ (x : Result Finding Stop). IsErrOf x stop.ReadFault) h.2 e)
no_fault pair settings a b r (inr (inr h)) e = let f : IsErrOf (Err stop.NoMemory) stop.ReadFault = subst (λ (x : Result Finding Stop). IsErrOf x stop.ReadFault) h e in absurd (cc)

-- a name that both lack ends so
pub missing_ends : (pair : List ℕ) (settings : Settings) (a b : NetView) (r : Result Finding Stop) → LackPair pair a b → IsMissing pair r → PairEnds pair settings a b r
missing_ends pair settings a b r lack (inl h) = inl (lack, h)
missing_ends pair settings a b r lack (inr h) = inr (inr h)

module _ (held : Held) (before now : List ℕ → ℕ) (pair : List ℕ) (settings : Settings) (left right : List ℕ) where
  abbrev Found : Finding → Type 0
  Found = IsPairFound held pair (check_of settings left right)

  abbrev Failed : Type 0
  Failed = ReadFailed held before now (left ∷ right ∷ [])

  -- A's file isn't loaded
  pub left_ends : (error : LoadError) → LoadFails (held left) (Rose (before left) (now left)) error → EndsBy Found Failed (load_end file.A error)
  left_ends error h =
      load_ends Found Failed (Rose (before left) (now left)) (held left) file.A (λ long. long) (λ line kind faulty. faulty) (λ fault unsound. unsound) (λ place kind misread. misread)
      (first_failed held before now left (right ∷ [])) error h

  -- B's isn't, beside A's
  right_ends : IsLoaded (held left) → (error : LoadError) → LoadFails (held right) (Rose (before right) (now right)) error → EndsBy Found Failed (load_end file.B error)
  right_ends l error h =
      load_ends Found Failed (Rose (before right) (now right)) (held right) file.B (λ long. (l, long)) (λ line kind faulty. (l, faulty)) (λ fault unsound. (l, unsound)) (λ place kind misread. (l, misread))
      (second_failed held before now left right [] l) error h

  module _ (a b : NetView) (l : IfSome (held left) (λ x. Loads x a)) (r : IfSome (held right) (λ y. Loads y b)) where
    compared_found : (answer : Result Outcome CompareError) → IsAnsweredAlone pair settings a b answer → EndsBy Found Failed (compare_end settings answer)
    compared_found (Ok o) h = (refl, record { a = a; b = b; left_loads = l; right_loads = r; said = h })
    compared_found (Err (compare_error.Interface name)) h = record { a = a; b = b; left_loads = l; right_loads = r; said = h }
    compared_found (Err (compare_error.Cyclic side names)) h = record { a = a; b = b; left_loads = l; right_loads = r; said = h }
    compared_found (Err (compare_error.Unpaired side names)) h = record { a = a; b = b; left_loads = l; right_loads = r; said = h }
    compared_found (Err (compare_error.TooLarge side)) h = record { a = a; b = b; left_loads = l; right_loads = r; said = h }
    compared_found (Err compare_error.TooManyEvents) h = record { a = a; b = b; left_loads = l; right_loads = r; said = h }
    compared_found (Err (compare_error.Assume fault)) h = absurd (no_assumption settings.mode h.left h.right settings fault h.compared)
    compared_found (Err (compare_error.Vacuous by)) h = absurd (not_vacuous settings.mode h.left h.right settings by h.compared)
    compared_found (Err compare_error.NoMemory) h = tt

    -- what is found of both nets is found of both files
    nets_found : (f : Result Finding Stop) → PairEnds pair settings a b f → EndsBy Found Failed f
    nets_found f (inl h) = subst (EndsBy Found Failed) (sym h.1) (refl, record { a = a; b = b; left_loads = l; right_loads = r; said = h.0 })
    nets_found f (inr (inl h)) = subst (EndsBy Found Failed) (sym h.2) (compared_found h.0 h.1)
    nets_found f (inr (inr h)) = subst (EndsBy Found Failed) (sym h) tt

  -- what is found beside A's net is found of both files; what is held and the faults of B's are those of a later time
  pub beside_found : (a : NetView) (later : Option (List ℕ)) (middle : ℕ) (r : Result Finding Stop) → IfSome (held left) (λ x. Loads x a) → later ≡ held right → before right ≤ middle →
      EndsBeside later (Rose middle (now right)) a pair settings r → PairFound held before now pair settings left right r
  beside_found a later middle r l same grew (inl h) =
      subst (EndsBy Found Failed) (sym h.2) (right_ends (is_loaded (held left) a l) h.0 (later_fails later (held right) (before right) middle (now right) h.0 same grew h.1))
  beside_found a later middle r l same grew (inr h) = nets_found a h.0 l (subst (λ (o : Option (List ℕ)). IfSome o (λ y. Loads y h.0)) same h.1) r h.2
