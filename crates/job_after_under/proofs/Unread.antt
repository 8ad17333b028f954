-- What is found where one of the files isn't loaded.
use Rattle.std.proofs.Common.{◌≡◌, ℕ, zero, suc, Bool, List, [], ◌∷◌, refl, inl, inr, ◌⊎◌, slice_get, Option, Some, Result, Ok, Err}
use Rattle.std.specs.Prelude.{take}
use Rattle.std.specs.List.{All}
use Rattle.std.proofs.lemmas.List.Elements.{All-nil, All-cons}
use Rattle.std.proofs.lemmas.Option.{none-some}
use Rattle.base_shelves.specs.Outside.{Rose}
use Rattle.flat_net.specs.View.{NetView}
use Rattle.pair_decide.specs.declared.query.Proof.{Proof}
use Rattle.cycle_under.specs.declared.found.UnderError.{UnderError}
use Rattle.job_base.specs.declared.sec_files.stimuli.StimulusError.{StimulusError}
use Rattle.job_base.specs.sec_files.Stimuli.{StimulusFails}
use Rattle.job_base.specs.declared.finding.Judgement.{Judgement}
use Rattle.job_base.specs.declared.finding.Refusal.{Refusal}
use Rattle.job_base.specs.declared.finding.Refusal.TheVariants as refusal
use Rattle.job_base.specs.declared.finding.Finding.{Finding}
use Rattle.job_base.specs.declared.finding.Finding.TheVariants as finding
use Rattle.job_base.specs.declared.finding.Stop.{Stop}
use Rattle.job_base.specs.declared.finding.Stop.TheVariants as stop
use Rattle.job_base.specs.Ends.{EndsBy}
use Rattle.job_base.specs.sec_files.job_files.Ends.{stimulus_end}
use Rattle.job_base.specs.sec_files.job_files.Reading.{IsLoaded, Held, ReadFailed}
use Rattle.job_base.proofs.sec_files.job_files.Loading.{stimulus_ends}
use Rattle.job_under.specs.Found.{under_paths}
use Rattle.job_under.specs.Found as three
use Rattle.job_after_under.specs.Found.{after_under_paths, IsUnreadRefusal, IsUnread, IsRefusal, IsFoundBy}

neither : ⊥ ⊎ ⊥ → ⊥
neither (inl h) = h
neither (inr h) = h

module _ (Refuses : NetView → NetView → NetView → UnderError → Type 0) (Judges : NetView → NetView → NetView → List (List ℕ) → List (List Bool) → Judgement → List Proof → List ℕ → Type 0) (left right assumed stimulus : Option (List ℕ)) where
  -- circuits that aren't read aren't compared
  refused_so : (r : Refusal) → IsUnreadRefusal left right assumed stimulus r → IsRefusal Refuses left right assumed stimulus r
  refused_so (refusal.TooLong f) h = h
  refused_so (refusal.Text f line kind) h = h
  refused_so (refusal.Design f fault) h = h
  refused_so (refusal.Record f place kind) h = h
  refused_so (refusal.Misfit m) h = absurd (neither h)
  refused_so (refusal.Interface name) h = absurd (neither h)
  refused_so (refusal.TooLarge side) h = absurd (neither h)
  refused_so refusal.TooManyEvents h = h
  refused_so (refusal.Assume fault) h = absurd (neither h)
  refused_so refusal.Vacuous h = absurd (neither h)
  refused_so (refusal.Pair name) h = h
  refused_so (refusal.Pairs fault) h = h

  found_so : (f : Finding) → IsUnread left right assumed stimulus f → IsFoundBy Refuses Judges left right assumed stimulus f
  found_so finding.Words h = absurd h
  found_so (finding.Refused r) h = refused_so r h
  found_so (finding.Cyclic side names) h = absurd h
  found_so (finding.Unpaired side names) h = absurd h
  found_so (finding.Checked o s) h = absurd h
  found_so (finding.Done text) h = absurd h
  found_so (finding.Generated o report) h = absurd h
  found_so (finding.Replayed differences) h = absurd h
  found_so (finding.Undecided side name proof) h = absurd h
  found_so (finding.Unrefuted u) h = absurd h
  found_so (finding.Judged j proofs text) h = absurd h

  pub unread_ends : (failed : Type 0) (r : Result Finding Stop) → EndsBy (IsUnread left right assumed stimulus) failed r → EndsBy (IsFoundBy Refuses Judges left right assumed stimulus) failed r
  unread_ends failed (Ok f) h = found_so f h
  unread_ends failed (Err stop.ReadFault) h = h
  unread_ends failed (Err stop.NoMemory) h = tt

-- one of the first three isn't read
three_unread : (left right assumed stimulus : Option (List ℕ)) (f : Finding) → three.IsUnread left right assumed f → IsUnread left right assumed stimulus f
three_unread left right assumed stimulus finding.Words h = absurd h
three_unread left right assumed stimulus (finding.Refused r) h = inl h
three_unread left right assumed stimulus (finding.Cyclic side names) h = absurd h
three_unread left right assumed stimulus (finding.Unpaired side names) h = absurd h
three_unread left right assumed stimulus (finding.Checked o s) h = absurd h
three_unread left right assumed stimulus (finding.Done text) h = absurd h
three_unread left right assumed stimulus (finding.Generated o report) h = absurd h
three_unread left right assumed stimulus (finding.Replayed differences) h = absurd h
three_unread left right assumed stimulus (finding.Undecided side name proof) h = absurd h
three_unread left right assumed stimulus (finding.Unrefuted u) h = absurd h
three_unread left right assumed stimulus (finding.Judged j proofs text) h = absurd h

module _ (held : Held) (before now : List ℕ → ℕ) (left right assumed stimulus : List ℕ) where
  abbrev Unread : Finding → Type 0
  Unread = IsUnread (held left) (held right) (held assumed) (held stimulus)

  abbrev Failed : Type 0
  Failed = ReadFailed held before now (after_under_paths left right assumed stimulus)

  -- a read of one of the first three failed
  three_failed : ReadFailed held before now (under_paths left right assumed) → Failed
  three_failed h = go h.fetch h.is_path h.reached
    where
      P : List ℕ → Type 0
      P earlier = IsLoaded (held earlier)

      go : (k : ℕ) → slice_get (left ∷ right ∷ assumed ∷ []) k ≡ Some h.path → All (λ (earlier : List ℕ). IsLoaded (held earlier)) (take k (left ∷ right ∷ assumed ∷ [])) → Failed
      go zero is reached = record { fetch = 0; path = h.path; is_path = is; rose = h.rose; reached = reached }
      go (suc zero) is reached = record { fetch = 1; path = h.path; is_path = is; rose = h.rose; reached = reached }
      go (suc (suc zero)) is reached = record { fetch = 2; path = h.path; is_path = is; rose = h.rose; reached = reached }
      go (suc (suc (suc k))) is reached = absurd (none-some h.path is)

  pub three_end : (r : Result Finding Stop) → EndsBy (three.IsUnread (held left) (held right) (held assumed)) (ReadFailed held before now (under_paths left right assumed)) r → EndsBy Unread Failed r
  three_end (Ok f) h = three_unread (held left) (held right) (held assumed) (held stimulus) f h
  three_end (Err stop.ReadFault) h = three_failed h
  three_end (Err stop.NoMemory) h = tt

  last_failed : IsLoaded (held left) → IsLoaded (held right) → IsLoaded (held assumed) → Rose (before stimulus) (now stimulus) → Failed
  last_failed l r u rose =
      let P : List ℕ → Type 0 = λ earlier. IsLoaded (held earlier) in
      record { fetch = 3; path = stimulus; is_path = refl; rose = rose; reached = All-cons P left (right ∷ assumed ∷ []) l (All-cons P right (assumed ∷ []) r (All-cons P assumed [] u (All-nil P))) }

  -- the stimulus isn't loaded, beside the circuits
  pub last_ends : IsLoaded (held left) → IsLoaded (held right) → IsLoaded (held assumed) → (error : StimulusError) → StimulusFails (held stimulus) (Rose (before stimulus) (now stimulus)) error → EndsBy Unread Failed (stimulus_end error)
  last_ends l r u error h =
      stimulus_ends Unread Failed (Rose (before stimulus) (now stimulus)) (held stimulus) (λ long. inr (l, r, u, long)) (λ line headless. inr (l, r, u, headless)) (λ line rowless. inr (l, r, u, rowless)) (last_failed l r u) error h
