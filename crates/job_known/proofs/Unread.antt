-- What is found where one of the files isn't loaded.
use Rattle.std.proofs.Common.{◌≡◌, ℕ, zero, suc, Bool, List, [], ◌∷◌, refl, inl, inr, slice_get, Option, Some, Result, Ok, Err}
use Rattle.std.specs.Prelude.{take}
use Rattle.std.specs.List.{All}
use Rattle.std.proofs.lemmas.List.Elements.{All-nil, All-cons, All-weaker}
use Rattle.std.proofs.lemmas.Option.{none-some}
use Rattle.base_shelves.specs.Outside.{Rose}
use Rattle.job_base.specs.declared.sec_files.stimuli.StimulusError.{StimulusError}
use Rattle.job_base.specs.sec_files.Stimuli.{StimulusFails}
use Rattle.job_base.specs.declared.finding.Refusal.{Refusal}
use Rattle.job_base.specs.declared.finding.Refusal.TheVariants as refusal
use Rattle.job_base.specs.declared.finding.Finding.{Finding}
use Rattle.job_base.specs.declared.finding.Finding.TheVariants as finding
use Rattle.job_base.specs.declared.finding.Stop.{Stop}
use Rattle.job_base.specs.declared.finding.Stop.TheVariants as stop
use Rattle.job_base.specs.Ends.{EndsBy}
use Rattle.job_base.specs.Reading.{ReadFailedAfter}
use Rattle.job_base.specs.sec_files.job_files.Ends.{stimulus_end}
use Rattle.job_base.specs.sec_files.job_files.Reading.{IsLoaded, Held, ReadFailed}
use Rattle.job_base.proofs.sec_files.job_files.Loading.{stimulus_ends}
use Rattle.job_circuit.specs.SimBehind.{IsSpelled, LetsGoOn}
use Rattle.job_circuit.specs.job_replay.Replays.{replay_paths}
use Rattle.job_after.specs.declared.fault.AfterFault.{AfterFault}
use Rattle.job_after.specs.declared.judging.Judged.{Judged}
use Rattle.job_after.specs.Answer.{IsUnreadRefusal, IsUnread}
use Rattle.job_known.specs.Found.{IsKnownRefusal, IsKnownFound, OfReset, IsResetFound, known_paths, IsUnreadBehind, OfBehind, IsBehindFound}

module _ (Unread : Refusal → Type 0) (Of : Result Judged AfterFault → Type 0) (left right stimulus : Option (List ℕ)) (so : (r : Refusal) → IsUnreadRefusal left right stimulus r → Unread r) where
  refused_so : (r : Refusal) → IsUnreadRefusal left right stimulus r → IsKnownRefusal Unread Of r
  refused_so (refusal.TooLong f) h = so (refusal.TooLong f) h
  refused_so (refusal.Text f line kind) h = so (refusal.Text f line kind) h
  refused_so (refusal.Design f fault) h = so (refusal.Design f fault) h
  refused_so (refusal.Record f place kind) h = so (refusal.Record f place kind) h
  refused_so (refusal.Misfit m) h = absurd h
  refused_so (refusal.Interface name) h = absurd h
  refused_so (refusal.TooLarge side) h = absurd h
  refused_so refusal.TooManyEvents h = absurd h
  refused_so (refusal.Assume fault) h = absurd h
  refused_so refusal.Vacuous h = absurd h
  refused_so (refusal.Pair name) h = absurd h
  refused_so (refusal.Pairs fault) h = absurd h

  -- what isn't read is found so
  pub found_so : (f : Finding) → IsUnread left right stimulus f → IsKnownFound Unread Of f
  found_so finding.Words h = absurd h
  found_so (finding.Refused r) h = refused_so r h
  found_so (finding.Cyclic side names) h = absurd h
  found_so (finding.Unpaired side names) h = absurd h
  found_so (finding.Checked o s) h = absurd h
  found_so (finding.Done text) h = absurd h
  found_so (finding.Generated o report) h = absurd h
  found_so (finding.Replayed differences) h = absurd h
  found_so (finding.Undecided side name proof) h = absurd h
  found_so (finding.Unrefuted u) h = absurd h
  found_so (finding.Judged j proofs text) h = absurd h

-- one of three files isn't loaded
pub three_end : (settles : Bool) (left right stimulus : Option (List ℕ)) (failed : Type 0) (r : Result Finding Stop) → EndsBy (IsUnread left right stimulus) failed r → EndsBy (IsResetFound settles left right stimulus) failed r
three_end settles left right stimulus failed (Ok f) h = found_so (IsUnreadRefusal left right stimulus) (OfReset settles left right stimulus) left right stimulus (λ r k. k) f h
three_end settles left right stimulus failed (Err stop.ReadFault) h = h
three_end settles left right stimulus failed (Err stop.NoMemory) h = tt

module _ (settles : Bool) (held : Held) (earlier now : List ℕ → ℕ) (left right before stimulus : List ℕ) where
  abbrev Failed : Type 0
  Failed = ReadFailedAfter LetsGoOn held earlier now (known_paths left right before stimulus)

  -- a read of one of the first three failed
  three_failed : ReadFailed held earlier now (replay_paths left right before) → Failed
  three_failed h = go h.fetch h.is_path h.reached
    where
      on : (paths : List (List ℕ)) → All (λ (path : List ℕ). IsLoaded (held path)) paths → All (λ (path : List ℕ). LetsGoOn (held path)) paths
      on paths all = All-weaker (λ (path : List ℕ). IsLoaded (held path)) (λ (path : List ℕ). LetsGoOn (held path)) (λ path loaded. inl loaded) paths all

      go : (k : ℕ) → slice_get (left ∷ right ∷ before ∷ []) k ≡ Some h.path → All (λ (path : List ℕ). IsLoaded (held path)) (take k (left ∷ right ∷ before ∷ [])) → Failed
      go zero is reached = record { fetch = 0; path = h.path; is_path = is; rose = h.rose; reached = on [] reached }
      go (suc zero) is reached = record { fetch = 1; path = h.path; is_path = is; rose = h.rose; reached = on (left ∷ []) reached }
      go (suc (suc zero)) is reached = record { fetch = 2; path = h.path; is_path = is; rose = h.rose; reached = on (left ∷ right ∷ []) reached }
      go (suc (suc (suc k))) is reached = absurd (none-some h.path is)

  -- one of the first three isn't loaded
  pub four_end : (r : Result Finding Stop) → EndsBy (IsUnread (held left) (held right) (held before)) (ReadFailed held earlier now (replay_paths left right before)) r →
      EndsBy (IsBehindFound settles (held left) (held right) (held before) (held stimulus)) Failed r
  four_end (Ok f) h = found_so (IsUnreadBehind (held left) (held right) (held before) (held stimulus)) (OfBehind settles (held left) (held right) (held before) (held stimulus)) (held left) (held right) (held before) (λ r k. inl k) f h
  four_end (Err stop.ReadFault) h = three_failed h
  four_end (Err stop.NoMemory) h = tt

  last_failed : IsLoaded (held left) → IsLoaded (held right) → IsSpelled (held before) → Rose (earlier stimulus) (now stimulus) → Failed
  last_failed l r u rose =
      let P : List ℕ → Type 0 = λ path. LetsGoOn (held path) in
      record { fetch = 3; path = stimulus; is_path = refl; rose = rose; reached = All-cons P left (right ∷ before ∷ []) (inl l) (All-cons P right (before ∷ []) (inl r) (All-cons P before [] (inr u) (All-nil P))) }

  -- the last one isn't, beside the others
  pub last_ends : IsLoaded (held left) → IsLoaded (held right) → IsSpelled (held before) → (error : StimulusError) → StimulusFails (held stimulus) (Rose (earlier stimulus) (now stimulus)) error →
      EndsBy (IsBehindFound settles (held left) (held right) (held before) (held stimulus)) Failed (stimulus_end error)
  last_ends l r u error h =
      stimulus_ends (IsBehindFound settles (held left) (held right) (held before) (held stimulus)) Failed (Rose (earlier stimulus) (now stimulus)) (held stimulus) (λ long. inr (l, r, u, long)) (λ line headless. inr (l, r, u, headless))
      (λ line rowless. inr (l, r, u, rowless)) (last_failed l r u) error h
