-- What is found where one of the files isn't loaded.
use Rattle.std.proofs.Common.{ℕ, List, [], ◌∷◌, refl, Option, Result, Ok, Err}
use Rattle.std.proofs.lemmas.List.Elements.{All-nil, All-cons}
use Rattle.base_shelves.specs.Outside.{Rose}
use Rattle.flat_net.specs.View.{NetView}
use Rattle.job_base.specs.declared.sec_files.loader.LoadError.{LoadError}
use Rattle.job_base.specs.declared.sec_files.stimuli.StimulusError.{StimulusError}
use Rattle.job_base.specs.sec_files.Loading.{LoadFails}
use Rattle.job_base.specs.sec_files.Stimuli.{StimulusFails}
use Rattle.job_base.specs.declared.finding.File.TheVariants as file
use Rattle.job_base.specs.declared.finding.Refusal.{Refusal}
use Rattle.job_base.specs.declared.finding.Refusal.TheVariants as refusal
use Rattle.job_base.specs.declared.finding.Finding.{Finding}
use Rattle.job_base.specs.declared.finding.Finding.TheVariants as finding
use Rattle.job_base.specs.declared.finding.Stop.{Stop}
use Rattle.job_base.specs.declared.finding.Stop.TheVariants as stop
use Rattle.job_base.specs.Ends.{EndsBy}
use Rattle.job_base.specs.sec_files.job_files.Ends.{load_end, stimulus_end}
use Rattle.job_base.specs.sec_files.job_files.Reading.{IsLoaded, Held, ReadFailed}
use Rattle.job_base.proofs.sec_files.job_files.Loading.{load_ends, stimulus_ends}
use Rattle.job_base.proofs.sec_files.job_files.Reading.{first_failed, second_failed}
use Rattle.circuit_theory.specs.declared.Side.{Side}
use Rattle.job_after.specs.Answer.{IsUnreadRefusal, IsUnread, IsBegunRefusal}

module _ (left right stimulus : Option (List ℕ)) where
  -- circuits that aren't read aren't compared
  unread_begun : (TooLarge : NetView → NetView → Side → Type 0) (r : Refusal) → IsUnreadRefusal left right stimulus r → IsBegunRefusal TooLarge left right stimulus r
  unread_begun TooLarge (refusal.TooLong f) h = h
  unread_begun TooLarge (refusal.Text f line kind) h = h
  unread_begun TooLarge (refusal.Design f fault) h = h
  unread_begun TooLarge (refusal.Record f place kind) h = h
  unread_begun TooLarge (refusal.Misfit m) h = absurd h
  unread_begun TooLarge (refusal.Interface name) h = absurd h
  unread_begun TooLarge (refusal.TooLarge side) h = absurd h
  unread_begun TooLarge refusal.TooManyEvents h = absurd h
  unread_begun TooLarge (refusal.Assume fault) h = absurd h
  unread_begun TooLarge refusal.Vacuous h = absurd h
  unread_begun TooLarge (refusal.Pair name) h = absurd h
  unread_begun TooLarge (refusal.Pairs fault) h = absurd h

  unread_found : (TooLarge : NetView → NetView → Side → Type 0) (P : Finding → Type 0) → ((r : Refusal) → IsBegunRefusal TooLarge left right stimulus r → P (finding.Refused r)) → (f : Finding) → IsUnread left right stimulus f → P f
  unread_found TooLarge P keep finding.Words h = absurd h
  unread_found TooLarge P keep (finding.Refused r) h = keep r (unread_begun TooLarge r h)
  unread_found TooLarge P keep (finding.Cyclic side names) h = absurd h
  unread_found TooLarge P keep (finding.Unpaired side names) h = absurd h
  unread_found TooLarge P keep (finding.Checked o s) h = absurd h
  unread_found TooLarge P keep (finding.Done text) h = absurd h
  unread_found TooLarge P keep (finding.Generated o report) h = absurd h
  unread_found TooLarge P keep (finding.Replayed differences) h = absurd h
  unread_found TooLarge P keep (finding.Undecided side name proof) h = absurd h
  unread_found TooLarge P keep (finding.Unrefuted u) h = absurd h
  unread_found TooLarge P keep (finding.Judged j proofs text) h = absurd h

  -- the work ends so for each job whose findings have these refusals
  pub unread_ends : (TooLarge : NetView → NetView → Side → Type 0) (P : Finding → Type 0) (failed : Type 0) → ((r : Refusal) → IsBegunRefusal TooLarge left right stimulus r → P (finding.Refused r)) → (r : Result Finding Stop) →
      EndsBy (IsUnread left right stimulus) failed r → EndsBy P failed r
  unread_ends TooLarge P failed keep (Ok f) h = unread_found TooLarge P keep f h
  unread_ends TooLarge P failed keep (Err stop.ReadFault) h = h
  unread_ends TooLarge P failed keep (Err stop.NoMemory) h = tt

module _ (held : Held) (before now : List ℕ → ℕ) (left right stimulus : List ℕ) where
  abbrev Found : Finding → Type 0
  Found = IsUnread (held left) (held right) (held stimulus)

  abbrev Failed : Type 0
  Failed = ReadFailed held before now (left ∷ right ∷ stimulus ∷ [])

  -- A's file isn't loaded
  pub left_ends : (error : LoadError) → LoadFails (held left) (Rose (before left) (now left)) error → EndsBy Found Failed (load_end file.A error)
  left_ends error h =
      load_ends Found Failed (Rose (before left) (now left)) (held left) file.A (λ long. long) (λ line kind faulty. faulty) (λ fault unsound. unsound) (λ place kind misread. misread)
      (first_failed held before now left (right ∷ stimulus ∷ [])) error h

  -- B's isn't, beside A's
  pub right_ends : IsLoaded (held left) → (error : LoadError) → LoadFails (held right) (Rose (before right) (now right)) error → EndsBy Found Failed (load_end file.B error)
  right_ends l error h =
      load_ends Found Failed (Rose (before right) (now right)) (held right) file.B (λ long. (l, long)) (λ line kind faulty. (l, faulty)) (λ fault unsound. (l, unsound)) (λ place kind misread. (l, misread))
      (second_failed held before now left right (stimulus ∷ []) l) error h

  -- both circuits are loaded, and the read behind them failed
  third_failed : IsLoaded (held left) → IsLoaded (held right) → Rose (before stimulus) (now stimulus) → Failed
  third_failed l r rose =
      let P : List ℕ → Type 0 = λ earlier. IsLoaded (held earlier) in
      record { fetch = 2; path = stimulus; is_path = refl; rose = rose; reached = All-cons P left (right ∷ []) l (All-cons P right [] r (All-nil P)) }

  -- the stimulus isn't loaded, beside both circuits
  pub over_ends : IsLoaded (held left) → IsLoaded (held right) → (error : StimulusError) → StimulusFails (held stimulus) (Rose (before stimulus) (now stimulus)) error → EndsBy Found Failed (stimulus_end error)
  over_ends l r error h =
      stimulus_ends Found Failed (Rose (before stimulus) (now stimulus)) (held stimulus) (λ long. (l, r, long)) (λ line headless. (l, r, headless)) (λ line rowless. (l, r, rowless)) (third_failed l r) error h
