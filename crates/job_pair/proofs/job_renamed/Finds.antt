-- What the parts of the work on three files find.
use Rattle.std.specs.Prelude.{IfSome, IsErrOf}
use Rattle.std.proofs.Common.{◌≡◌, ℕ, ◌≤◌, List, [], ◌∷◌, refl, sym, subst, inl, inr, Option, Result, Ok, Err}
use Rattle.std.proofs.lemmas.List.Elements.{All-cons, All-nil}
use Rattle.base_shelves.specs.Outside.{NoneFell, Rose, SameHeld}
use Rattle.base_shelves.specs.declared.whole_file.FetchError.{FetchError}
use Rattle.base_shelves.specs.declared.whole_file.FetchError.TheVariants as fetch_error
use Rattle.sec_base.specs.declared.settings.Settings.{Settings}
use Rattle.flat_net.specs.View.{NetView}
use Rattle.obligations.specs.declared.outcome.verdict.Outcome.{Outcome}
use Rattle.event_setup.specs.event_meaning.event_meaning_under.CompareError.{CompareError}
use Rattle.event_setup.specs.event_meaning.event_meaning_under.CompareError.TheVariants as compare_error
use Rattle.job_base.specs.sec_files.Loading.{IsTooLong, Loads, LoadFails}
use Rattle.job_base.specs.declared.sec_files.loader.LoadError.{LoadError}
use Rattle.job_base.specs.Ends.{EndsBy}
use Rattle.job_base.specs.declared.finding.File.TheVariants as file
use Rattle.job_base.specs.declared.finding.Finding.{Finding}
use Rattle.job_base.specs.declared.finding.Finding.TheVariants as finding
use Rattle.job_base.specs.declared.finding.Stop.{Stop}
use Rattle.job_base.specs.declared.finding.Stop.TheVariants as stop
use Rattle.job_base.specs.sec_files.job_files.Ends.{load_end}
use Rattle.job_base.specs.sec_files.job_files.Reading.{IsLoaded, Held, ReadFailed}
use Rattle.job_base.proofs.sec_files.job_files.Loading.{load_ends, later_fails}
use Rattle.job_base.proofs.sec_files.job_files.Reading.{first_failed, second_failed, is_loaded, rose_before}
use Rattle.job_check.specs.check_meaning.check_found.Ends.{compare_end}
use Rattle.job_check.proofs.check_meaning.check_found.Finds.{no_fault_compared}
use Rattle.job_pair.specs.Found.{check_of}
use Rattle.job_pair.proofs.Finds.{no_assumption, not_vacuous}
use Rattle.job_pair.proofs.Means.{if_some}
use Rattle.job_pair.specs.declared.job_renamed.renamed_net.PairsStop.{PairsStop}
use Rattle.job_pair.specs.declared.job_renamed.renamed_net.PairsStop.TheVariants as pairs_stop
use Rattle.job_pair.specs.job_renamed.Ends.{EndsBeside, EndsWithText, FetchFails, RenamedEnds, RenamedFound, fetch_end, pairs_end}
use Rattle.job_pair.specs.job_renamed.Found.{IsAnsweredUnder, IsRenamedFound, OfThird, renamed_paths}
use Rattle.job_pair.specs.job_renamed.Texts.{PairsFail}

-- the work on both nets and a text ends with no read fault
pub no_fault : (text : List ℕ) (settings : Settings) (a b : NetView) (r : Result Finding Stop) → RenamedEnds text settings a b r → IsErrOf r stop.ReadFault → ⊥
no_fault text settings a b r (inl h) e = by h.0 (subst (λ (x : Result Finding Stop). IsErrOf x stop.ReadFault) h.2 e)
  where
    by : (error : PairsStop) → IsErrOf (pairs_end error) stop.ReadFault → ⊥
    by (pairs_stop.Line line kind) f = absurd (cc)
    by pairs_stop.NoMemory f = absurd (cc)
no_fault text settings a b r (inr h) e = no_fault_compared settings h.0 (subst (λ (x : Result Finding Stop). IsErrOf x stop.ReadFault) h.2 e)

-- a text that wasn't fetched later wasn't by what was held before
later_fetch : (later held : Option (List ℕ)) (a b c : ℕ) (error : FetchError) → later ≡ held → a ≤ b → FetchFails later (Rose b c) error → FetchFails held (Rose a c) error
later_fetch later held a b c fetch_error.Failed same grew h = rose_before a b c grew h
later_fetch later held a b c fetch_error.TooLong same grew h = subst (λ (o : Option (List ℕ)). IfSome o IsTooLong) same h
later_fetch later held a b c fetch_error.NoMemory same grew h = tt

pub later_text : (later held : Option (List ℕ)) (i j k : ℕ) (a b : NetView) (settings : Settings) (r : Result Finding Stop) → later ≡ held → i ≤ j → EndsWithText later (Rose j k) a b settings r → EndsWithText held (Rose i k) a b settings r
later_text later held i j k a b settings r same grew (inl h) = inl (h.0, later_fetch later held i j k h.0 same grew h.1, h.2)
later_text later held i j k a b settings r same grew (inr h) = inr (h.0, subst (λ (o : Option (List ℕ)). IfSome o (λ (z : List ℕ). h.0 ≡ z)) same h.1, h.2)

module _ (held : Held) (before now : List ℕ → ℕ) (settings : Settings) (left right pairs : List ℕ) where
  abbrev Found : Finding → Type 0
  Found = IsRenamedFound held (check_of settings left right) pairs

  abbrev Failed : Type 0
  Failed = ReadFailed held before now (renamed_paths left right pairs)

  third_failed : IsLoaded (held left) → IsLoaded (held right) → Rose (before pairs) (now pairs) → Failed
  third_failed l r rose =
      let P : List ℕ → Type 0 = λ earlier. IsLoaded (held earlier) in
      record { fetch = 2; path = pairs; is_path = refl; rose = rose; reached = All-cons P left (right ∷ []) l (All-cons P right [] r (All-nil P)) }

  -- A's file isn't loaded
  pub left_ends : (error : LoadError) → LoadFails (held left) (Rose (before left) (now left)) error → EndsBy Found Failed (load_end file.A error)
  left_ends error h =
      load_ends Found Failed (Rose (before left) (now left)) (held left) file.A (λ long. long) (λ line kind faulty. faulty) (λ fault unsound. unsound) (λ place kind misread. misread)
      (first_failed held before now left (right ∷ pairs ∷ [])) error h

  -- B's isn't, beside A's
  right_ends : IsLoaded (held left) → (error : LoadError) → LoadFails (held right) (Rose (before right) (now right)) error → EndsBy Found Failed (load_end file.B error)
  right_ends l error h =
      load_ends Found Failed (Rose (before right) (now right)) (held right) file.B (λ long. (l, long)) (λ line kind faulty. (l, faulty)) (λ fault unsound. (l, unsound)) (λ place kind misread. (l, misread))
      (second_failed held before now left right (pairs ∷ []) l) error h

  module _ (a b : NetView) (l : IfSome (held left) (λ x. Loads x a)) (r : IfSome (held right) (λ y. Loads y b)) where
    -- what is said of a text is said of the one that is held
    module _ (text : List ℕ) (told : IfSome (held pairs) (λ (z : List ℕ). text ≡ z)) where
      of_text : (P : List ℕ → NetView → NetView → Type 0) → P text a b → OfThird (held left) (held right) (held pairs) P
      of_text P h = record { a = a; b = b; left_loads = l; right_loads = r; said = if_some (held pairs) (λ z same. subst (λ (t : List ℕ). P t a b) same h) told }

      answered : (answer : Result Outcome CompareError) → IsAnsweredUnder settings text a b answer → OfThird (held left) (held right) (held pairs) (λ z m n. IsAnsweredUnder settings z m n answer)
      answered answer h = of_text (λ z m n. IsAnsweredUnder settings z m n answer) h

      compared_found : (answer : Result Outcome CompareError) → IsAnsweredUnder settings text a b answer → EndsBy Found Failed (compare_end settings answer)
      compared_found (Ok o) h = (refl, answered (Ok o) h)
      compared_found (Err (compare_error.Interface name)) h = answered (Err (compare_error.Interface name)) h
      compared_found (Err (compare_error.Cyclic side names)) h = answered (Err (compare_error.Cyclic side names)) h
      compared_found (Err (compare_error.Unpaired side names)) h = answered (Err (compare_error.Unpaired side names)) h
      compared_found (Err (compare_error.TooLarge side)) h = answered (Err (compare_error.TooLarge side)) h
      compared_found (Err compare_error.TooManyEvents) h = answered (Err compare_error.TooManyEvents) h
      compared_found (Err (compare_error.Assume fault)) h = absurd (no_assumption settings.mode a h.0 settings fault h.2)
      compared_found (Err (compare_error.Vacuous by)) h = absurd (not_vacuous settings.mode a h.0 settings by h.2)
      compared_found (Err compare_error.NoMemory) h = tt

      pairs_found : (error : PairsStop) → PairsFail text a b error → EndsBy Found Failed (pairs_end error)
      pairs_found (pairs_stop.Line line kind) h = of_text (λ z m n. PairsFail z m n (pairs_stop.Line line kind)) h
      pairs_found pairs_stop.NoMemory h = tt

      nets_found : (f : Result Finding Stop) → RenamedEnds text settings a b f → EndsBy Found Failed f
      nets_found f (inl h) = subst (EndsBy Found Failed) (sym h.2) (pairs_found h.0 h.1)
      nets_found f (inr h) = subst (EndsBy Found Failed) (sym h.2) (compared_found h.0 h.1)

    -- the text isn't fetched
    fetch_found : (error : FetchError) → FetchFails (held pairs) (Rose (before pairs) (now pairs)) error → EndsBy Found Failed (fetch_end error)
    fetch_found fetch_error.Failed h = third_failed (is_loaded (held left) a l) (is_loaded (held right) b r) h
    fetch_found fetch_error.TooLong h = (is_loaded (held left) a l, is_loaded (held right) b r, h)
    fetch_found fetch_error.NoMemory h = tt

    -- what is found beside both nets is found of the files
    both_found : (f : Result Finding Stop) → EndsWithText (held pairs) (Rose (before pairs) (now pairs)) a b settings f → EndsBy Found Failed f
    both_found f (inl h) = subst (EndsBy Found Failed) (sym h.2) (fetch_found h.0 h.1)
    both_found f (inr h) = nets_found h.0 h.1 f h.2

  -- what is found beside A's net is found of the files; what is held and the faults are those of a later time
  pub beside_found : (a : NetView) (later : Held) (middle : List ℕ → ℕ) (f : Result Finding Stop) → IfSome (held left) (λ x. Loads x a) → SameHeld held later → NoneFell before middle →
      EndsBeside later middle now a right pairs settings f → RenamedFound held before now settings left right pairs f
  beside_found a later middle f l same grew (inl h) =
      subst (EndsBy Found Failed) (sym h.2) (right_ends (is_loaded (held left) a l) h.0 (later_fails (later right) (held right) (before right) (middle right) (now right) h.0 (same right) (grew right) h.1))
  beside_found a later middle f l same grew (inr h) =
      both_found a h.0 l (subst (λ (o : Option (List ℕ)). IfSome o (λ y. Loads y h.0)) (same right) h.1) f
      (later_text (later pairs) (held pairs) (before pairs) (middle pairs) (now pairs) a h.0 settings f (same pairs) (grew pairs) h.2)
