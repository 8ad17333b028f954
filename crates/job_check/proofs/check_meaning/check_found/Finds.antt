-- What the parts of the work on the files of a comparison find.
use Rattle.std.specs.Prelude.{IfSome, IsErrOf}
use Rattle.std.proofs.Common.{ℕ, List, [], ◌∷◌, refl, sym, subst, inl, inr, Option, Some, None, Result, Ok, Err}
use Rattle.std.proofs.lemmas.List.Elements.{All-nil, All-cons}
use Rattle.circuit_theory.specs.declared.Mode.{Mode}
use Rattle.circuit_theory.specs.declared.Mode.TheVariants.{Plain, Event}
use Rattle.base_shelves.specs.Outside.{Rose, SameHeld, NoneFell}
use Rattle.sec_base.specs.declared.settings.Settings.{Settings}
use Rattle.flat_net.specs.View.{NetView}
use Rattle.pair_decide.specs.declared.query.SameBy.{SameBy}
use Rattle.assume_laws.specs.declared.assume_shape.shape.ShapeFault.{ShapeFault}
use Rattle.obligations.specs.declared.outcome.verdict.Outcome.{Outcome}
use Rattle.job_base.specs.declared.finding.File.TheVariants as file
use Rattle.job_base.specs.declared.finding.Finding.{Finding}
use Rattle.job_base.specs.declared.finding.Stop.{Stop}
use Rattle.job_base.specs.declared.finding.Stop.TheVariants as stop
use Rattle.event_setup.specs.event_meaning.event_meaning_under.CompareError.{CompareError}
use Rattle.event_setup.specs.event_meaning.event_meaning_under.CompareError.TheVariants as compare_error
use Rattle.event_setup.specs.event_meaning.event_names.event_fits.Compared.{ComparedIn}
use Rattle.event_setup.specs.event_meaning.event_meaning_under.Answered.{ComparedUnderIn}
use Rattle.job_base.specs.declared.sec_files.loader.LoadError.{LoadError}
use Rattle.job_base.specs.sec_files.Loading.{Loads, LoadFails, IsTooLong, HasFault, HasDesignFault, HasRecordFault}
use Rattle.job_base.specs.sec_files.job_files.Ends.{load_end}
use Rattle.job_base.specs.sec_files.job_files.Reading.{IsLoaded, Held, ReadFailed}
use Rattle.job_base.proofs.sec_files.job_files.Loading.{load_ends, later_fails}
use Rattle.job_base.proofs.sec_files.job_files.Reading.{first_failed, second_failed, is_loaded}
use Rattle.job_check.specs.check_meaning.check_found.Check.{Check, all_paths}
use Rattle.job_check.specs.check_meaning.check_found.Found.{OfFile, IsAnsweredBy, IsAnsweredByTwo, IsAnsweredByThree, IsAnsweredUnder, IsFoundOf}
use Rattle.job_check.specs.check_meaning.check_found.Ends.{compare_end, EndsBeside, EndsBoth, FoundOf}

-- a comparison ends with no read fault
pub no_fault_compared : (settings : Settings) (r : Result Outcome CompareError) → IsErrOf (compare_end settings r) stop.ReadFault → ⊥
no_fault_compared settings (Ok o) h = absurd (cc)
no_fault_compared settings (Err (compare_error.Interface name)) h = absurd (cc)
no_fault_compared settings (Err (compare_error.Cyclic side names)) h = absurd (cc)
no_fault_compared settings (Err (compare_error.Unpaired side names)) h = absurd (cc)
no_fault_compared settings (Err (compare_error.TooLarge side)) h = absurd (cc)
no_fault_compared settings (Err compare_error.TooManyEvents) h = absurd (cc)
no_fault_compared settings (Err (compare_error.Assume fault)) h = absurd (cc)
no_fault_compared settings (Err (compare_error.Vacuous by)) h = absurd (cc)
no_fault_compared settings (Err compare_error.NoMemory) h = absurd (cc)

-- what is found beside both nets at a later time is found at the earlier
module _ (held later : Held) (before middle now : List ℕ → ℕ) (same : SameHeld held later) (grew : NoneFell before middle) (a : NetView) (settings : Settings) where
  pub both_before : (b : NetView) (assumed : Option (List ℕ)) (r : Result Finding Stop) → EndsBoth later middle now a b settings assumed r → EndsBoth held before now a b settings assumed r
  both_before b None r h = h
  both_before b (Some path) r (inl h) = inl (h.0, later_fails (later path) (held path) (before path) (middle path) (now path) h.0 (same path) (grew path) h.1, h.2)
  both_before b (Some path) r (inr h) = inr (h.0, h.1, subst (λ (o : Option (List ℕ)). IfSome o (λ z. Loads z h.0)) (same path) h.2, h.3, h.4)

  -- so is what is found beside A's
  pub beside_before : (right : List ℕ) (assumed : Option (List ℕ)) (r : Result Finding Stop) → EndsBeside later middle now a right settings assumed r → EndsBeside held before now a right settings assumed r
  beside_before right assumed r (inl h) = inl (h.0, later_fails (later right) (held right) (before right) (middle right) (now right) h.0 (same right) (grew right) h.1, h.2)
  beside_before right assumed r (inr h) = inr (h.0, subst (λ (o : Option (List ℕ)). IfSome o (λ y. Loads y h.0)) (same right) h.1, both_before h.0 assumed r h.2)

-- nothing is refused for an assumption where there is none
no_assumption : (mode : Mode) (a b : NetView) (settings : Settings) (fault : ShapeFault) → ComparedIn mode a b settings (Err (compare_error.Assume fault)) → ⊥
no_assumption Plain a b settings fault h = h
no_assumption Event a b settings fault h = h

not_vacuous : (mode : Mode) (a b : NetView) (settings : Settings) (by : SameBy) → ComparedIn mode a b settings (Err (compare_error.Vacuous by)) → ⊥
not_vacuous Plain a b settings by h = h
not_vacuous Event a b settings by h = h

module _ (held : Held) (before now : List ℕ → ℕ) (left right : List ℕ) (settings : Settings) where
  -- the comparison with this assumption
  abbrev check_with : Option (List ℕ) → Check
  check_with assumed = record { left = left; right = right; settings = settings; assumed = assumed }

  abbrev Failed : Option (List ℕ) → Type 0
  Failed assumed = ReadFailed held before now (all_paths left right assumed)

  abbrev Found : Option (List ℕ) → Result Finding Stop → Type 0
  Found assumed r = FoundOf held before now (check_with assumed) r

  left_failed : (assumed : Option (List ℕ)) → Rose (before left) (now left) → Failed assumed
  left_failed None rose = first_failed held before now left (right ∷ []) rose
  left_failed (Some path) rose = first_failed held before now left (right ∷ path ∷ []) rose

  right_failed : (assumed : Option (List ℕ)) → IsLoaded (held left) → Rose (before right) (now right) → Failed assumed
  right_failed None l rose = second_failed held before now left right [] l rose
  right_failed (Some path) l rose = second_failed held before now left right (path ∷ []) l rose

  third_failed : (path : List ℕ) → IsLoaded (held left) → IsLoaded (held right) → Rose (before path) (now path) → Failed (Some path)
  third_failed path l r rose =
      let P : List ℕ → Type 0 = λ earlier. IsLoaded (held earlier) in
      record { fetch = 2; path = path; is_path = refl; rose = rose; reached = All-cons P left (right ∷ []) l (All-cons P right [] r (All-nil P)) }

  -- A's file isn't loaded
  pub left_ends : (assumed : Option (List ℕ)) (error : LoadError) → LoadFails (held left) (Rose (before left) (now left)) error → Found assumed (load_end file.A error)
  left_ends assumed error h =
      load_ends (IsFoundOf held (check_with assumed)) (Failed assumed) (Rose (before left) (now left)) (held left) file.A (λ long. long) (λ line kind faulty. faulty) (λ fault unsound. unsound) (λ place kind misread. misread)
      (left_failed assumed) error h

  -- A's is, as this net
  module _ (a : NetView) (a_loads : IfSome (held left) (λ x. Loads x a)) where
    of_right : (assumed : Option (List ℕ)) (P : List ℕ → Type 0) → IfSome (held right) P → OfFile held (check_with assumed) file.B P
    of_right assumed P h = (is_loaded (held left) a a_loads, h)

    -- B's isn't
    right_ends : (assumed : Option (List ℕ)) (error : LoadError) → LoadFails (held right) (Rose (before right) (now right)) error → Found assumed (load_end file.B error)
    right_ends assumed error h =
        load_ends (IsFoundOf held (check_with assumed)) (Failed assumed) (Rose (before right) (now right)) (held right) file.B (of_right assumed IsTooLong) (λ line kind. of_right assumed (λ y. HasFault y line kind))
        (λ fault. of_right assumed (λ y. HasDesignFault y fault)) (λ place kind. of_right assumed (λ y. HasRecordFault y place kind)) (right_failed assumed (is_loaded (held left) a a_loads)) error h

    -- B's is, as this net
    module _ (b : NetView) (b_loads : IfSome (held right) (λ y. Loads y b)) where
      of_third : (path : List ℕ) (P : List ℕ → Type 0) → IfSome (held path) P → OfFile held (check_with (Some path)) file.C P
      of_third path P h = (is_loaded (held left) a a_loads, is_loaded (held right) b b_loads, h)

      -- the assumption's isn't
      third_ends : (path : List ℕ) (error : LoadError) → LoadFails (held path) (Rose (before path) (now path)) error → Found (Some path) (load_end file.C error)
      third_ends path error h =
          load_ends (IsFoundOf held (check_with (Some path))) (Failed (Some path)) (Rose (before path) (now path)) (held path) file.C (of_third path IsTooLong) (λ line kind. of_third path (λ z. HasFault z line kind))
          (λ fault. of_third path (λ z. HasDesignFault z fault)) (λ place kind. of_third path (λ z. HasRecordFault z place kind)) (third_failed path (is_loaded (held left) a a_loads) (is_loaded (held right) b b_loads)) error h

      -- both nets are compared
      answered_two : (r : Result Outcome CompareError) → ComparedIn settings.mode a b settings r → IsAnsweredByTwo held (check_with None) r
      answered_two r c = record { a = a; b = b; left_loads = a_loads; right_loads = b_loads; said = c }

      two_end : (r : Result Outcome CompareError) → ComparedIn settings.mode a b settings r → Found None (compare_end settings r)
      two_end (Ok o) c = (refl, answered_two (Ok o) c)
      two_end (Err (compare_error.Interface name)) c = answered_two (Err (compare_error.Interface name)) c
      two_end (Err (compare_error.Cyclic side names)) c = answered_two (Err (compare_error.Cyclic side names)) c
      two_end (Err (compare_error.Unpaired side names)) c = answered_two (Err (compare_error.Unpaired side names)) c
      two_end (Err (compare_error.TooLarge side)) c = answered_two (Err (compare_error.TooLarge side)) c
      two_end (Err compare_error.TooManyEvents) c = answered_two (Err compare_error.TooManyEvents) c
      two_end (Err (compare_error.Assume fault)) c = absurd (no_assumption settings.mode a b settings fault c)
      two_end (Err (compare_error.Vacuous by)) c = absurd (not_vacuous settings.mode a b settings by c)
      two_end (Err compare_error.NoMemory) c = tt

      -- or under the assumption, whose net this is
      module _ (path : List ℕ) (c : NetView) (c_loads : IfSome (held path) (λ z. Loads z c)) where
        answered_under : (r : Result Outcome CompareError) → ComparedUnderIn settings.mode a b c settings r → IsAnsweredByThree held (check_with (Some path)) path r
        answered_under r k = record { a = a; b = b; c = c; left_loads = a_loads; right_loads = b_loads; assumed_loads = c_loads; said = k }

        three_end : (r : Result Outcome CompareError) → ComparedUnderIn settings.mode a b c settings r → Found (Some path) (compare_end settings r)
        three_end (Ok o) k = (refl, answered_under (Ok o) k)
        three_end (Err (compare_error.Interface name)) k = answered_under (Err (compare_error.Interface name)) k
        three_end (Err (compare_error.Cyclic side names)) k = answered_under (Err (compare_error.Cyclic side names)) k
        three_end (Err (compare_error.Unpaired side names)) k = answered_under (Err (compare_error.Unpaired side names)) k
        three_end (Err (compare_error.TooLarge side)) k = answered_under (Err (compare_error.TooLarge side)) k
        three_end (Err compare_error.TooManyEvents) k = answered_under (Err compare_error.TooManyEvents) k
        three_end (Err (compare_error.Assume fault)) k = answered_under (Err (compare_error.Assume fault)) k
        three_end (Err (compare_error.Vacuous by)) k = (by, answered_under (Err (compare_error.Vacuous by)) k)
        three_end (Err compare_error.NoMemory) k = tt

      both_end : (assumed : Option (List ℕ)) (r : Result Finding Stop) → EndsBoth held before now a b settings assumed r → Found assumed r
      both_end None r h = subst (Found None) (sym h.2) (two_end h.0 h.1)
      both_end (Some path) r (inl h) = subst (Found (Some path)) (sym h.2) (third_ends path h.0 h.1)
      both_end (Some path) r (inr h) = subst (Found (Some path)) (sym h.4) (three_end path h.0 h.2 h.1 h.3)

    -- what is found beside A's net is found of the files
    pub beside_end : (assumed : Option (List ℕ)) (r : Result Finding Stop) → EndsBeside held before now a right settings assumed r → Found assumed r
    beside_end assumed r (inl h) = subst (Found assumed) (sym h.2) (right_ends assumed h.0 h.1)
    beside_end assumed r (inr h) = both_end h.0 h.1 assumed r h.2
