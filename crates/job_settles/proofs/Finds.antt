-- What the parts of the work on the files of a comparison with cares find.
use Rattle.std.specs.Prelude.{IfSome, IsErrOf}
use Rattle.std.proofs.Common.{ℕ, List, refl, sym, subst, inl, inr, Option, Some, None, Result, Ok, Err}
use Rattle.base_shelves.specs.Outside.{SameHeld, NoneFell}
use Rattle.sec_base.specs.declared.settings.Settings.{Settings}
use Rattle.flat_net.specs.View.{NetView}
use Rattle.base_shelves.specs.declared.whole_file.FetchError.TheVariants as fetch_error
use Rattle.blif_read.specs.declared.error.ReadError.TheVariants as read_error
use Rattle.aiger_read.specs.declared.aiger_records.error.AigerError.TheVariants as aiger_error
use Rattle.elaborate.specs.declared.error.FlatError.{FlatError}
use Rattle.elaborate.specs.declared.error.FlatError.TheVariants as flat_error
use Rattle.event_check.specs.declared.event_answers.outcomes.Settled.{Settled}
use Rattle.event_setup.specs.event_meaning.event_meaning_under.CompareError.{CompareError}
use Rattle.event_setup.specs.event_meaning.event_meaning_under.CompareError.TheVariants as compare_error
use Rattle.circuit_theory.specs.declared.Mode.{Mode}
use Rattle.circuit_theory.specs.declared.Mode.TheVariants.{Plain, Event}
use Rattle.event_setup.specs.event_meaning.event_names.event_fits.Compared.{ComparedIn}
use Rattle.event_setup.specs.event_meaning.event_meaning_under.Answered.{ComparedUnderIn}
use Rattle.job_base.specs.Ends.{EndsBy}
use Rattle.job_base.specs.declared.finding.File.{File}
use Rattle.job_base.specs.declared.finding.Finding.{Finding}
use Rattle.job_base.specs.declared.finding.Finding.TheVariants as finding
use Rattle.job_base.specs.declared.finding.Stop.{Stop}
use Rattle.job_base.specs.declared.finding.Stop.TheVariants as stop
use Rattle.job_base.specs.declared.sec_files.loader.LoadError.{LoadError}
use Rattle.job_base.specs.declared.sec_files.loader.LoadError.TheVariants as load_error
use Rattle.job_base.specs.sec_files.Loading.{Loads}
use Rattle.job_base.specs.sec_files.job_files.Ends.{load_end}
use Rattle.job_base.specs.sec_files.job_files.Reading.{Held, ReadFailed}
use Rattle.job_base.proofs.sec_files.job_files.Loading.{later_fails}
use Rattle.job_check.specs.check_meaning.check_found.Check.{Check, check_paths}
use Rattle.job_check.specs.check_meaning.check_found.Ends.{compare_end, EndsBeside, FoundOf}
use Rattle.job_check.specs.check_meaning.check_found.Found.{IsFoundOf}
use Rattle.job_check.proofs.check_meaning.check_found.Finds.{beside_end, no_fault_compared}
use Rattle.job_settles.specs.Found.{IsSettledByTwo, IsSettledByThree, IsSettlesFound, IsSettledEnd, SettlesFound, SettlesBeside, SettlesBoth, settled_finding}
use Rattle.job_settles.specs.Settled.{SettledIn, SettledUnderIn}

-- it is no finding of a comparison
abbrev pub IsOther : Result Finding Stop → Type 0
IsOther (Ok (finding.Checked o settings)) = ⊥
IsOther (Ok other) = Unit {0}
IsOther (Err error) = Unit {0}

-- what is found else is found with cares, too
pub other_found : (held : Held) (check : Check) (Failed : Type 0) (r : Result Finding Stop) → IsOther r → EndsBy (IsFoundOf held check) Failed r → EndsBy (IsSettlesFound held check) Failed r
other_found held check Failed (Ok finding.Words) is h = h
other_found held check Failed (Ok (finding.Refused x)) is h = h
other_found held check Failed (Ok (finding.Cyclic side names)) is h = h
other_found held check Failed (Ok (finding.Unpaired side names)) is h = h
other_found held check Failed (Ok (finding.Checked o settings)) is h = absurd is
other_found held check Failed (Ok (finding.Done report)) is h = h
other_found held check Failed (Ok (finding.Generated o report)) is h = h
other_found held check Failed (Ok (finding.Replayed differences)) is h = h
other_found held check Failed (Ok (finding.Undecided side name proof)) is h = h
other_found held check Failed (Ok (finding.Unrefuted u)) is h = h
other_found held check Failed (Ok (finding.Judged j kept text)) is h = absurd h
other_found held check Failed (Err stop.ReadFault) is h = h
other_found held check Failed (Err stop.NoMemory) is h = h

flat_other : (f : File) (e : FlatError) → IsOther (load_end f (load_error.Flat e))
flat_other f (flat_error.UnknownModel name) = tt
flat_other f (flat_error.Recursive name) = tt
flat_other f (flat_error.UnknownFormal name) = tt
flat_other f (flat_error.FormalTwice name) = tt
flat_other f (flat_error.OpenInput name) = tt
flat_other f (flat_error.TwoDrivers name) = tt
flat_other f (flat_error.Undriven name) = tt
flat_other f (flat_error.TwoClocks name) = tt
flat_other f (flat_error.TwoEdges name) = tt
flat_other f (flat_error.GatedClock name) = tt
flat_other f (flat_error.ClockRead name) = tt
flat_other f (flat_error.Loop names) = tt
flat_other f (flat_error.TooDeep name) = tt
flat_other f flat_error.TooMany = tt
flat_other f flat_error.LongName = tt
flat_other f flat_error.NoMemory = tt

pub load_other : (f : File) (e : LoadError) → IsOther (load_end f e)
load_other f (load_error.Fetch fetch_error.Failed) = tt
load_other f (load_error.Fetch fetch_error.TooLong) = tt
load_other f (load_error.Fetch fetch_error.NoMemory) = tt
load_other f (load_error.Read (read_error.At line kind)) = tt
load_other f (load_error.Read read_error.NoMemory) = tt
load_other f (load_error.Flat e) = flat_other f e
load_other f (load_error.Aiger (aiger_error.At place kind)) = tt
load_other f (load_error.Aiger aiger_error.NoMemory) = tt

refused_other : (settings : Settings) (e : CompareError) → IsOther (compare_end settings (Err e))
refused_other settings (compare_error.Interface name) = tt
refused_other settings (compare_error.Cyclic side names) = tt
refused_other settings (compare_error.Unpaired side names) = tt
refused_other settings (compare_error.TooLarge side) = tt
refused_other settings compare_error.TooManyEvents = tt
refused_other settings (compare_error.Assume fault) = tt
refused_other settings (compare_error.Vacuous by) = tt
refused_other settings compare_error.NoMemory = tt

-- a comparison ends with no read fault
pub no_fault_settled : (settings : Settings) (s : Result Settled CompareError) (r : Result Finding Stop) → IsSettledEnd settings s r → IsErrOf r stop.ReadFault → ⊥
no_fault_settled settings (Ok s) r (inl is) h = ok_fault (subst (λ (x : Result Finding Stop). IsErrOf x stop.ReadFault) is h)
  where
    ok_fault : IsErrOf {E = Stop} (Ok (settled_finding settings s)) stop.ReadFault → ⊥
    ok_fault q = absurd (cc)
no_fault_settled settings (Ok s) r (inr is) h = no_fault_compared settings (Err compare_error.NoMemory) (subst (λ (x : Result Finding Stop). IsErrOf x stop.ReadFault) is h)
no_fault_settled settings (Err e) r is h = no_fault_compared settings (Err e) (subst (λ (x : Result Finding Stop). IsErrOf x stop.ReadFault) is h)

-- what is found beside both nets at a later time is found at the earlier
module _ (held later : Held) (before middle now : List ℕ → ℕ) (same : SameHeld held later) (grew : NoneFell before middle) (a : NetView) (settings : Settings) where
  pub both_before : (b : NetView) (assumed : Option (List ℕ)) (r : Result Finding Stop) → SettlesBoth later middle now a b settings assumed r → SettlesBoth held before now a b settings assumed r
  both_before b None r h = h
  both_before b (Some path) r (inl h) = inl (h.0, later_fails (later path) (held path) (before path) (middle path) (now path) h.0 (same path) (grew path) h.1, h.2)
  both_before b (Some path) r (inr h) = inr (h.0, h.1, subst (λ (o : Option (List ℕ)). IfSome o (λ z. Loads z h.0)) (same path) h.2, h.3, h.4)

  -- so is what is found beside A's
  pub beside_before : (right : List ℕ) (assumed : Option (List ℕ)) (r : Result Finding Stop) → SettlesBeside later middle now a right settings assumed r → SettlesBeside held before now a right settings assumed r
  beside_before right assumed r (inl h) = inl (h.0, later_fails (later right) (held right) (before right) (middle right) (now right) h.0 (same right) (grew right) h.1, h.2)
  beside_before right assumed r (inr h) = inr (h.0, subst (λ (o : Option (List ℕ)). IfSome o (λ y. Loads y h.0)) (same right) h.1, both_before h.0 assumed r h.2)

-- an answer that is refused is that of a comparison without cares
refused_in : (mode : Mode) (a b : NetView) (s : Settings) (e : CompareError) → SettledIn mode a b s (Err e) → ComparedIn mode a b s (Err e)
refused_in Plain a b s e h = h
refused_in Event a b s e h = h

refused_under_in : (mode : Mode) (a b c : NetView) (s : Settings) (e : CompareError) → SettledUnderIn mode a b c s (Err e) → ComparedUnderIn mode a b c s (Err e)
refused_under_in Plain a b c s e h = h
refused_under_in Event a b c s e h = h

module _ (held : Held) (before now : List ℕ → ℕ) (left right : List ℕ) (settings : Settings) (a : NetView) (a_loads : IfSome (held left) (λ x. Loads x a)) where
  abbrev check_with : Option (List ℕ) → Check
  check_with assumed = record { left = left; right = right; settings = settings; assumed = assumed }

  abbrev Failed : Option (List ℕ) → Type 0
  Failed assumed = ReadFailed held before now (check_paths (check_with assumed))

  abbrev Found : Option (List ℕ) → Result Finding Stop → Type 0
  Found assumed r = SettlesFound held before now (check_with assumed) r

  -- what ends as without cares
  other_end : (assumed : Option (List ℕ)) (r : Result Finding Stop) → IsOther r → EndsBeside held before now a right settings assumed r → Found assumed r
  other_end assumed r is h = other_found held (check_with assumed) (Failed assumed) r is (beside_end held before now left right settings a a_loads assumed r h)

  module _ (b : NetView) (b_loads : IfSome (held right) (λ y. Loads y b)) where
    two_settled : (s : Settled) → SettledIn settings.mode a b settings (Ok s) → IsSettledByTwo held (check_with None) s.outcome s.cares
    two_settled s h = record { a = a; b = b; left_loads = a_loads; right_loads = b_loads; said = h }

    two_end : (s : Result Settled CompareError) (r : Result Finding Stop) → SettledIn settings.mode a b settings s → IsSettledEnd settings s r → Found None r
    two_end (Ok s) r h (inl is) = subst (Found None) (sym is) (record { outcome = s.outcome; cares = s.cares; settled = two_settled s h; judged = refl; proofs = refl; text_is = refl })
    two_end (Ok s) r h (inr is) = subst (Found None) (sym is) tt
    two_end (Err e) r h is = other_end None r (subst IsOther (sym is) (refused_other settings e)) (inr (b, b_loads, (Err e, refused_in settings.mode a b settings e h, is)))

    module _ (path : List ℕ) (c : NetView) (c_loads : IfSome (held path) (λ z. Loads z c)) where
      three_settled : (s : Settled) → SettledUnderIn settings.mode a b c settings (Ok s) → IsSettledByThree held (check_with (Some path)) path s.outcome s.cares
      three_settled s h = record { a = a; b = b; c = c; left_loads = a_loads; right_loads = b_loads; assumed_loads = c_loads; said = h }

      three_end : (s : Result Settled CompareError) (r : Result Finding Stop) → SettledUnderIn settings.mode a b c settings s → IsSettledEnd settings s r → Found (Some path) r
      three_end (Ok s) r h (inl is) = subst (Found (Some path)) (sym is) (record { outcome = s.outcome; cares = s.cares; settled = three_settled s h; judged = refl; proofs = refl; text_is = refl })
      three_end (Ok s) r h (inr is) = subst (Found (Some path)) (sym is) tt
      three_end (Err e) r h is = other_end (Some path) r (subst IsOther (sym is) (refused_other settings e)) (inr (b, b_loads, inr (c, Err e, c_loads, refused_under_in settings.mode a b c settings e h, is)))

    both_end : (assumed : Option (List ℕ)) (r : Result Finding Stop) → SettlesBoth held before now a b settings assumed r → Found assumed r
    both_end None r h = two_end h.0 r h.1 h.2
    both_end (Some path) r (inl h) = other_end (Some path) r (subst IsOther (sym h.2) (load_other _ h.0)) (inr (b, b_loads, inl h))
    both_end (Some path) r (inr h) = three_end path h.0 h.2 h.1 r h.3 h.4

  -- what is found beside A's net is found of the files
  pub settles_beside_end : (assumed : Option (List ℕ)) (r : Result Finding Stop) → SettlesBeside held before now a right settings assumed r → Found assumed r
  settles_beside_end assumed r (inl h) = other_end assumed r (subst IsOther (sym h.2) (load_other _ h.0)) (inl h)
  settles_beside_end assumed r (inr h) = both_end h.0 h.1 assumed r h.2

-- A's file isn't loaded
pub settles_left_ends : (held : Held) (before now : List ℕ → ℕ) (left right : List ℕ) (settings : Settings) (assumed : Option (List ℕ)) (f : File) (e : LoadError) → FoundOf held before now (record { left = left; right = right; settings = settings; assumed = assumed }) (load_end f e) →
    SettlesFound held before now (record { left = left; right = right; settings = settings; assumed = assumed }) (load_end f e)
settles_left_ends held before now left right settings assumed f e h =
    let check : Check = record { left = left; right = right; settings = settings; assumed = assumed } in
    other_found held check (ReadFailed held before now (check_paths check)) (load_end f e) (load_other f e) h
