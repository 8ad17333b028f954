-- What is found where one of the files isn't loaded.
use Rattle.std.proofs.Common.{ℕ, List, [], ◌∷◌, refl, Option, Result, Ok, Err}
use Rattle.std.proofs.lemmas.List.Elements.{All-nil, All-cons}
use Rattle.base_shelves.specs.Outside.{Rose}
use Rattle.job_base.specs.declared.sec_files.loader.LoadError.{LoadError}
use Rattle.job_base.specs.sec_files.Loading.{LoadFails}
use Rattle.flat_net.specs.View.{NetView}
use Rattle.pair_decide.specs.declared.query.Proof.{Proof}
use Rattle.cycle_under.specs.declared.found.UnderError.{UnderError}
use Rattle.job_base.specs.declared.finding.Judgement.{Judgement}
use Rattle.job_base.specs.declared.finding.File.TheVariants as file
use Rattle.job_base.specs.declared.finding.Refusal.{Refusal}
use Rattle.job_base.specs.declared.finding.Refusal.TheVariants as refusal
use Rattle.job_base.specs.declared.finding.Finding.{Finding}
use Rattle.job_base.specs.declared.finding.Finding.TheVariants as finding
use Rattle.job_base.specs.declared.finding.Stop.{Stop}
use Rattle.job_base.specs.declared.finding.Stop.TheVariants as stop
use Rattle.job_base.specs.Ends.{EndsBy}
use Rattle.job_base.specs.sec_files.job_files.Ends.{load_end}
use Rattle.job_base.specs.sec_files.job_files.Reading.{IsLoaded, Held, ReadFailed}
use Rattle.job_base.proofs.sec_files.job_files.Loading.{load_ends}
use Rattle.job_base.proofs.sec_files.job_files.Reading.{first_failed, second_failed}
use Rattle.job_under.specs.Found.{under_paths, IsUnreadRefusal, IsUnread, IsRefusal, IsFoundBy}

module _ (Refuses : NetView → NetView → NetView → UnderError → Type 0) (Judges : NetView → NetView → NetView → Judgement → List Proof → List ℕ → Type 0) (left right assumed : Option (List ℕ)) where
  -- circuits that aren't read aren't compared
  refused_so : (r : Refusal) → IsUnreadRefusal left right assumed r → IsRefusal Refuses left right assumed r
  refused_so (refusal.TooLong f) h = h
  refused_so (refusal.Text f line kind) h = h
  refused_so (refusal.Design f fault) h = h
  refused_so (refusal.Record f place kind) h = h
  refused_so (refusal.Misfit m) h = h
  refused_so (refusal.Interface name) h = absurd h
  refused_so (refusal.TooLarge side) h = absurd h
  refused_so refusal.TooManyEvents h = h
  refused_so (refusal.Assume fault) h = absurd h
  refused_so refusal.Vacuous h = absurd h
  refused_so (refusal.Pair name) h = h
  refused_so (refusal.Pairs fault) h = h

  found_so : (f : Finding) → IsUnread left right assumed f → IsFoundBy Refuses Judges left right assumed f
  found_so finding.Words h = absurd h
  found_so (finding.Refused r) h = refused_so r h
  found_so (finding.Cyclic side names) h = absurd h
  found_so (finding.Unpaired side names) h = absurd h
  found_so (finding.Checked o s) h = absurd h
  found_so (finding.Done text) h = absurd h
  found_so (finding.Generated o report) h = absurd h
  found_so (finding.Replayed differences) h = absurd h
  found_so (finding.Undecided side name proof) h = absurd h
  found_so (finding.Unrefuted u) h = absurd h
  found_so (finding.Judged j proofs text) h = absurd h

  pub unread_ends : (failed : Type 0) (r : Result Finding Stop) → EndsBy (IsUnread left right assumed) failed r → EndsBy (IsFoundBy Refuses Judges left right assumed) failed r
  unread_ends failed (Ok f) h = found_so f h
  unread_ends failed (Err stop.ReadFault) h = h
  unread_ends failed (Err stop.NoMemory) h = tt

module _ (held : Held) (before now : List ℕ → ℕ) (left right assumed : List ℕ) where
  abbrev Found : Finding → Type 0
  Found = IsUnread (held left) (held right) (held assumed)

  abbrev Failed : Type 0
  Failed = ReadFailed held before now (under_paths left right assumed)

  -- A's file isn't loaded
  pub left_ends : (error : LoadError) → LoadFails (held left) (Rose (before left) (now left)) error → EndsBy Found Failed (load_end file.A error)
  left_ends error h =
      load_ends Found Failed (Rose (before left) (now left)) (held left) file.A (λ long. long) (λ line kind faulty. faulty) (λ fault unsound. unsound) (λ place kind misread. misread)
      (first_failed held before now left (right ∷ assumed ∷ [])) error h

  -- B's isn't, beside A's
  pub right_ends : IsLoaded (held left) → (error : LoadError) → LoadFails (held right) (Rose (before right) (now right)) error → EndsBy Found Failed (load_end file.B error)
  right_ends l error h =
      load_ends Found Failed (Rose (before right) (now right)) (held right) file.B (λ long. (l, long)) (λ line kind faulty. (l, faulty)) (λ fault unsound. (l, unsound)) (λ place kind misread. (l, misread))
      (second_failed held before now left right (assumed ∷ []) l) error h

  third_failed : IsLoaded (held left) → IsLoaded (held right) → Rose (before assumed) (now assumed) → Failed
  third_failed l r rose =
      let P : List ℕ → Type 0 = λ earlier. IsLoaded (held earlier) in
      record { fetch = 2; path = assumed; is_path = refl; rose = rose; reached = All-cons P left (right ∷ []) l (All-cons P right [] r (All-nil P)) }

  -- the assumption's isn't, beside both
  pub third_ends : IsLoaded (held left) → IsLoaded (held right) → (error : LoadError) → LoadFails (held assumed) (Rose (before assumed) (now assumed)) error → EndsBy Found Failed (load_end file.C error)
  third_ends l r error h =
      load_ends Found Failed (Rose (before assumed) (now assumed)) (held assumed) file.C (λ long. (l, r, long)) (λ line kind faulty. (l, r, faulty)) (λ fault unsound. (l, r, unsound)) (λ place kind misread. (l, r, misread)) (third_failed l r) error h
