-- Where two circuits can be compared behind the rows of a stimulus under an assumption, they are.
use Rattle.std.specs.Prelude.{IfSome, IsSomeAnd}
use Rattle.std.proofs.Common.{◌≡◌, ◌∙◌, ◌⊎◌, ℕ, Bool, List, [], ◌∷◌, sym, ap, inl, inr, Option, Some, None}
use Rattle.std.proofs.lemmas.Option.{none-some}
use Rattle.flat_net.specs.View.{NetView}
use Rattle.pair_decide.specs.declared.query.Proof.{Proof}
use Rattle.circuit_report.specs.declared.sim_report.refusal.Misfit.TheVariants as misfit
use Rattle.job_circuit.specs.replay.replay_header.Header.{FitsBoth, first_unknown, first_lacking, opened}
use Rattle.job_base.specs.sec_files.Loading.{Loads}
use Rattle.job_base.specs.sec_files.Stimuli.{IsStimulus}
use Rattle.job_base.specs.declared.finding.File.TheVariants as file
use Rattle.job_base.specs.declared.finding.LineFault.TheVariants as line_fault
use Rattle.job_base.specs.declared.finding.Judgement.{Judgement}
use Rattle.job_base.specs.declared.finding.Judgement.TheVariants as judgement
use Rattle.job_base.specs.declared.finding.Refusal.{Refusal}
use Rattle.job_base.specs.declared.finding.Refusal.TheVariants as refusal
use Rattle.job_base.specs.declared.finding.Finding.{Finding}
use Rattle.job_base.specs.declared.finding.Finding.TheVariants as finding
use Rattle.job_base.specs.Written.{status_of, judgement_status}
use Rattle.job_base.proofs.sec_files.job_files.Accepted.{no_long_stimulus, not_headless, no_row_refused, same_names}
use Rattle.job_base.proofs.sec_files.job_files.Reading.{some_and, if_told}
use Rattle.cycle_under.specs.declared.found.UnderError.{UnderError}
use Rattle.cycle_under.specs.declared.found.UnderError.TheVariants as under
use Rattle.job_under.proofs.Complete.{not_unread}
use Rattle.job_under.specs.Found.{SearchRefuses}
use Rattle.job_after_under.specs.Judged.{IsJudged}
use Rattle.job_after_under.specs.Found.{IsMisread, IsUnreadRefusal, IsRefusedBy, IsRefusal, IsFoundBy, IsAfterUnderFound}
use Rattle.job_after_under.specs.Answer.{CanBeJudgedBehind, CanJudgeBehind, IsAfterUnderAnswer, IsAfterUnderComplete}

module _ (Refuses : NetView → NetView → NetView → UnderError → Type 0) (Judges : NetView → NetView → NetView → List (List ℕ) → List (List Bool) → Judgement → List Proof → List ℕ → Type 0)
    (left right assumed stimulus : Option (List ℕ)) (x y u z : List ℕ) (is : left ≡ Some x) (also : right ≡ Some y) (third : assumed ≡ Some u) (told : stimulus ≡ Some z) (can : CanBeJudgedBehind Refuses x y u z) where
  -- the names of the stimulus are those of the one that fits
  names_are : (names : List (List ℕ)) (rows : List (List Bool)) → IfSome stimulus (λ t. IsStimulus t names rows) → can.names ≡ names
  names_are names rows spells = same_names z can.names names can.rows rows can.stimulus.form (if_told stimulus (λ t. IsStimulus t names rows) z told spells).form

  not_misread : (r : Refusal) → IsMisread left right assumed stimulus r → ⊥
  not_misread (refusal.TooLong file.S) h = no_long_stimulus stimulus z told can.names can.rows can.stimulus h.3
  not_misread (refusal.TooLong file.A) h = h
  not_misread (refusal.TooLong file.B) h = h
  not_misread (refusal.TooLong file.C) h = h
  not_misread (refusal.Text file.S line line_fault.BadHeader) h = not_headless stimulus z told can.names can.rows can.stimulus line h.3
  not_misread (refusal.Text file.S line line_fault.BadRow) h = no_row_refused stimulus z told can.names can.rows can.stimulus line h.3
  not_misread (refusal.Text file.S line (line_fault.Circuit kind)) h = h
  not_misread (refusal.Text file.S line (line_fault.Clauses kind)) h = h
  not_misread (refusal.Text file.A line kind) h = h
  not_misread (refusal.Text file.B line kind) h = h
  not_misread (refusal.Text file.C line kind) h = h
  not_misread (refusal.Design f fault) h = h
  not_misread (refusal.Record f place kind) h = h
  not_misread (refusal.Interface name) h = h
  not_misread (refusal.TooLarge side) h = h
  not_misread (refusal.Assume fault) h = h
  not_misread refusal.Vacuous h = h
  not_misread (refusal.Misfit m) h = h
  not_misread refusal.TooManyEvents h = h
  not_misread (refusal.Pair name) h = h
  not_misread (refusal.Pairs fault) h = h

  read : (r : Refusal) → IsUnreadRefusal left right assumed stimulus r → ⊥
  read r (inl h) = not_unread left right assumed x y u is also third can.left can.right can.assumed r h
  read r (inr h) = not_misread r h

  not_refused : (e : UnderError) → (e ≡ under.NoMemory → ⊥) → IsRefusedBy Refuses left right assumed stimulus e → ⊥
  not_refused e other h =
      can.stands h.a h.b h.c h.names h.rows h.said.left h.said.right h.said.left_known h.said.right_known (if_told left (λ t. Loads t h.a) x is h.left_loads) (if_told right (λ t. Loads t h.b) y also h.right_loads)
      (if_told assumed (λ t. Loads t h.c) u third h.assumed_loads) (if_told stimulus (λ t. IsStimulus t h.names h.rows) z told h.spells) h.said.left_begun h.said.right_begun e other h.said.said

  no_name : (names rest : List (List ℕ)) (name : List ℕ) → names ≡ [] → names ≡ name ∷ rest → ⊥
  no_name names rest name e f = by (sym e ∙ f)
    where
      by : ◌≡◌ {A = List (List ℕ)} [] (name ∷ rest) → ⊥
      by q = cc

  known : (a b : NetView) (names : List (List ℕ)) (name : List ℕ) → FitsBoth a b can.names × (opened a b can.names ≡ []) → can.names ≡ names →
      (first_unknown a b names ≡ Some name) ⊎ ((rest : List (List ℕ)) × FitsBoth a b names × (opened a b names ≡ name ∷ rest)) → ⊥
  known a b names name fits same (inl e) = none-some name (sym fits.0.known ∙ (ap (first_unknown a b) same ∙ e))
  known a b names name fits same (inr e) = no_name (opened a b names) e.0 name (sym (ap (opened a b) same) ∙ fits.1) e.2

  -- nothing is refused
  stands : (r : Refusal) → IsRefusal Refuses left right assumed stimulus r → ⊥
  stands (refusal.TooLong f) h = read (refusal.TooLong f) h
  stands (refusal.Text f line kind) h = read (refusal.Text f line kind) h
  stands (refusal.Design f fault) h = read (refusal.Design f fault) h
  stands (refusal.Record f place kind) h = read (refusal.Record f place kind) h
  stands (refusal.Interface name) h = not_refused (under.Interface name) (λ e. cc) h
  stands (refusal.TooLarge side) h = not_refused (under.TooLarge side) (λ e. cc) h
  stands (refusal.Assume fault) h = not_refused (under.Assume fault) (λ e. cc) h
  stands refusal.Vacuous h = not_refused (under.Vacuous h.0) (λ e. cc) h.1
  stands (refusal.Misfit (misfit.Unknown name)) h =
      known h.a h.b h.names name (can.fits h.a h.b (if_told left (λ t. Loads t h.a) x is h.left_loads) (if_told right (λ t. Loads t h.b) y also h.right_loads)) (names_are h.names h.rows h.spells) h.said
  stands (refusal.Misfit (misfit.Missing name)) h =
      let fits = can.fits h.a h.b (if_told left (λ t. Loads t h.a) x is h.left_loads) (if_told right (λ t. Loads t h.b) y also h.right_loads) in
      none-some name (sym fits.0.complete ∙ (ap (first_lacking h.a h.b) (names_are h.names h.rows h.spells) ∙ h.said.1))
  stands (refusal.Misfit misfit.Power) h = h
  stands refusal.TooManyEvents h = read refusal.TooManyEvents h
  stands (refusal.Pair name) h = read (refusal.Pair name) h
  stands (refusal.Pairs fault) h = read (refusal.Pairs fault) h

  judged : (j : Judgement) → IsAfterUnderAnswer (judgement_status j)
  judged judgement.Equal = tt
  judged judgement.Different = tt
  judged judgement.NotShown = tt
  judged judgement.Limit = tt

  answered : (f : Finding) → IsFoundBy Refuses Judges left right assumed stimulus f → IsAfterUnderAnswer (status_of f)
  answered finding.Words h = absurd h
  answered (finding.Refused r) h = absurd (stands r h)
  answered (finding.Cyclic side names) h = absurd h
  answered (finding.Unpaired side names) h = absurd h
  answered (finding.Checked o s) h = absurd h
  answered (finding.Done text) h = absurd h
  answered (finding.Generated o report) h = absurd h
  answered (finding.Replayed differences) h = absurd h
  answered (finding.Undecided side name proof) h = absurd h
  answered (finding.Unrefuted v) h = absurd h
  answered (finding.Judged j proofs text) h = judged j

-- what is found has the status of a verdict
pub found_complete : (Refuses : NetView → NetView → NetView → UnderError → Type 0) (Judges : NetView → NetView → NetView → List (List ℕ) → List (List Bool) → Judgement → List Proof → List ℕ → Type 0) (left right assumed stimulus : Option (List ℕ)) (f : Finding) → IsFoundBy Refuses Judges left right assumed stimulus f →
    CanJudgeBehind Refuses left right assumed stimulus → IsAfterUnderAnswer (status_of f)
found_complete Refuses Judges left right assumed stimulus f found can =
    let l = some_and left (λ x. IsSomeAnd right (λ y. IsSomeAnd assumed (λ u. IsSomeAnd stimulus (λ z. CanBeJudgedBehind Refuses x y u z)))) can in
    let r = some_and right (λ y. IsSomeAnd assumed (λ u. IsSomeAnd stimulus (λ z. CanBeJudgedBehind Refuses l.0 y u z))) l.2 in
    let m = some_and assumed (λ u. IsSomeAnd stimulus (λ z. CanBeJudgedBehind Refuses l.0 r.0 u z)) r.2 in
    let s = some_and stimulus (λ z. CanBeJudgedBehind Refuses l.0 r.0 m.0 z) m.2 in
    answered Refuses Judges left right assumed stimulus l.0 r.0 m.0 s.0 l.1 r.1 m.1 s.1 s.2 f found

pub after_under_complete : (cycles conflicts : ℕ) (left right assumed stimulus : Option (List ℕ)) (f : Finding) → IsAfterUnderFound cycles conflicts left right assumed stimulus f →
    IsAfterUnderComplete cycles conflicts left right assumed stimulus (status_of f)
after_under_complete cycles conflicts left right assumed stimulus f found =
    found_complete (SearchRefuses cycles conflicts) (λ a b c names rows j proofs text. IsJudged a b c names rows cycles conflicts j proofs text) left right assumed stimulus f found
