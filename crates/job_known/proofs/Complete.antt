-- Where two circuits can be run over a stimulus from what is known of them, they are.
use Rattle.std.specs.Prelude.{IfSome, IsSomeAnd}
use Rattle.std.proofs.Common.{◌≡◌, ◌∙◌, ℕ, Bool, List, [], ◌∷◌, sym, subst, inl, inr, Option, Some, Result, Ok, Err}
use Rattle.std.proofs.lemmas.Option.{none-some}
use Rattle.flat_net.specs.View.{NetView}
use Rattle.circuit_report.specs.declared.sim_report.refusal.Misfit.TheVariants as misfit
use Rattle.job_circuit.specs.declared.replay.replay_header.error.ReplayError.TheVariants as header
use Rattle.job_circuit.specs.replay.replay_header.Header.{FitsOr}
use Rattle.job_base.specs.sec_files.Loading.{IsAccepted, Loads}
use Rattle.job_base.specs.sec_files.Stimuli.{IsStimulus}
use Rattle.job_base.specs.declared.finding.File.TheVariants as file
use Rattle.job_base.specs.declared.finding.LineFault.TheVariants as line_fault
use Rattle.job_base.specs.declared.finding.Refusal.{Refusal}
use Rattle.job_base.specs.declared.finding.Refusal.TheVariants as refusal
use Rattle.job_base.specs.declared.finding.Finding.{Finding}
use Rattle.job_base.specs.declared.finding.Finding.TheVariants as finding
use Rattle.job_base.specs.Written.{status_of, judgement_status}
use Rattle.job_base.proofs.sec_files.job_files.Accepted.{not_long, not_faulty, not_unsound, not_misread, no_long_stimulus, not_headless, no_row_refused, same_names}
use Rattle.job_base.proofs.sec_files.job_files.Reading.{some_and, if_told}
use Rattle.job_after.specs.declared.fault.AfterFault.{AfterFault}
use Rattle.job_after.specs.declared.fault.AfterFault.TheVariants as fault
use Rattle.job_after.specs.declared.judging.Judged.{Judged}
use Rattle.job_after.specs.Answer.{IsUnfit, IsUnreadRefusal}
use Rattle.job_after.specs.Ends.{FitsAfter}
use Rattle.job_known.specs.Judged.{OfEither}
use Rattle.job_known.specs.Found.{IsKnownRefusal, IsKnownFound, OfReset, IsResetFound, IsMisread, IsUnreadBehind, OfBehind, IsBehindFound}
use Rattle.job_known.specs.Answer.{IsFor, CanBeReplayedFrom, CanBeReplayedBehind, IsKnownAnswer, IsResetComplete, IsBehindComplete}
use Rattle.job_known.proofs.Means.{reset_fits, behind_fits}

-- names that fit aren't refused
module _ (a b : NetView) (names : List (List ℕ)) (fits : FitsAfter a b names (Ok tt)) (name : List ℕ) where
  fits_known : IsUnfit a b names name → ⊥
  fits_known (inl e) = none-some name (sym fits.0.known ∙ e)
  fits_known (inr e) = no_name (sym fits.1 ∙ e.2)
    where
      no_name : ◌≡◌ {A = List (List ℕ)} [] (name ∷ e.0) → ⊥
      no_name q = cc

  fits_complete : FitsOr a b names (Err (header.Missing name)) → ⊥
  fits_complete e = none-some name (sym fits.0.complete ∙ e.1)

-- files that are read aren't refused
module _ (left right stimulus : Option (List ℕ)) (x y z : List ℕ) (is : left ≡ Some x) (other : right ≡ Some y) (told : stimulus ≡ Some z) (left_accepted : IsAccepted x) (right_accepted : IsAccepted y)
    (names : List (List ℕ)) (rows : List (List Bool)) (spells : IsStimulus z names rows) where
  read_stands : (r : Refusal) → IsUnreadRefusal left right stimulus r → ⊥
  read_stands (refusal.TooLong file.A) h = not_long left x is left_accepted h
  read_stands (refusal.TooLong file.B) h = not_long right y other right_accepted h.1
  read_stands (refusal.TooLong file.C) h = h
  read_stands (refusal.TooLong file.S) h = no_long_stimulus stimulus z told names rows spells h.2
  read_stands (refusal.Text file.A line (line_fault.Circuit kind)) h = not_faulty left x is left_accepted line kind h
  read_stands (refusal.Text file.B line (line_fault.Circuit kind)) h = not_faulty right y other right_accepted line kind h.1
  read_stands (refusal.Text file.C line (line_fault.Circuit kind)) h = h
  read_stands (refusal.Text file.S line (line_fault.Circuit kind)) h = h
  read_stands (refusal.Text f line (line_fault.Clauses kind)) h = h
  read_stands (refusal.Text file.A line line_fault.BadHeader) h = h
  read_stands (refusal.Text file.B line line_fault.BadHeader) h = h
  read_stands (refusal.Text file.C line line_fault.BadHeader) h = h
  read_stands (refusal.Text file.S line line_fault.BadHeader) h = not_headless stimulus z told names rows spells line h.2
  read_stands (refusal.Text file.A line line_fault.BadRow) h = h
  read_stands (refusal.Text file.B line line_fault.BadRow) h = h
  read_stands (refusal.Text file.C line line_fault.BadRow) h = h
  read_stands (refusal.Text file.S line line_fault.BadRow) h = no_row_refused stimulus z told names rows spells line h.2
  read_stands (refusal.Design file.A fault) h = not_unsound left x is left_accepted fault h
  read_stands (refusal.Design file.B fault) h = not_unsound right y other right_accepted fault h.1
  read_stands (refusal.Design file.C fault) h = h
  read_stands (refusal.Design file.S fault) h = h
  read_stands (refusal.Record file.A place kind) h = not_misread left x is left_accepted place kind h
  read_stands (refusal.Record file.B place kind) h = not_misread right y other right_accepted place kind h.1
  read_stands (refusal.Record file.C place kind) h = h
  read_stands (refusal.Record file.S place kind) h = h
  read_stands (refusal.Interface name) h = h
  read_stands (refusal.TooLarge side) h = h
  read_stands (refusal.Misfit m) h = h
  read_stands refusal.TooManyEvents h = h
  read_stands (refusal.Assume fault) h = h
  read_stands refusal.Vacuous h = h
  read_stands (refusal.Pair name) h = h
  read_stands (refusal.Pairs fault) h = h

-- the last stimulus is one
module _ (left right before stimulus : Option (List ℕ)) (z : List ℕ) (told : stimulus ≡ Some z) (names : List (List ℕ)) (rows : List (List Bool)) (spells : IsStimulus z names rows) where
  last_stands : (r : Refusal) → IsMisread left right before stimulus r → ⊥
  last_stands (refusal.TooLong file.A) h = h
  last_stands (refusal.TooLong file.B) h = h
  last_stands (refusal.TooLong file.C) h = h
  last_stands (refusal.TooLong file.S) h = no_long_stimulus stimulus z told names rows spells h.3
  last_stands (refusal.Text file.A line kind) h = h
  last_stands (refusal.Text file.B line kind) h = h
  last_stands (refusal.Text file.C line kind) h = h
  last_stands (refusal.Text file.S line line_fault.BadHeader) h = not_headless stimulus z told names rows spells line h.3
  last_stands (refusal.Text file.S line line_fault.BadRow) h = no_row_refused stimulus z told names rows spells line h.3
  last_stands (refusal.Text file.S line (line_fault.Circuit kind)) h = h
  last_stands (refusal.Text file.S line (line_fault.Clauses kind)) h = h
  last_stands (refusal.Design f fault) h = h
  last_stands (refusal.Record f place kind) h = h
  last_stands (refusal.Interface name) h = h
  last_stands (refusal.TooLarge side) h = h
  last_stands (refusal.Misfit m) h = h
  last_stands refusal.TooManyEvents h = h
  last_stands (refusal.Assume fault) h = h
  last_stands refusal.Vacuous h = h
  last_stands (refusal.Pair name) h = h
  last_stands (refusal.Pairs fault) h = h

-- what is found where nothing is refused
module _ (Unread : Refusal → Type 0) (Of : Result Judged AfterFault → Type 0) (read : (r : Refusal) → Unread r → ⊥) (known : (name : List ℕ) → Of (Err (fault.Unknown name)) → ⊥) (complete : (name : List ℕ) → Of (Err (fault.Missing name)) → ⊥)
    (match : (name : List ℕ) → Of (Err (fault.Interface name)) → ⊥) where
  unrefused : (r : Refusal) → IsKnownRefusal Unread Of r → ⊥
  unrefused (refusal.Misfit (misfit.Unknown name)) h = known name h
  unrefused (refusal.Misfit (misfit.Missing name)) h = complete name h
  unrefused (refusal.Misfit misfit.Power) h = h
  unrefused (refusal.Interface name) h = match name h
  unrefused (refusal.TooLong f) h = read (refusal.TooLong f) h
  unrefused (refusal.Text f line kind) h = read (refusal.Text f line kind) h
  unrefused (refusal.Design f fault) h = read (refusal.Design f fault) h
  unrefused (refusal.Record f place kind) h = read (refusal.Record f place kind) h
  unrefused (refusal.TooLarge side) h = read (refusal.TooLarge side) h
  unrefused refusal.TooManyEvents h = read refusal.TooManyEvents h
  unrefused (refusal.Assume fault) h = read (refusal.Assume fault) h
  unrefused refusal.Vacuous h = read refusal.Vacuous h
  unrefused (refusal.Pair name) h = read (refusal.Pair name) h
  unrefused (refusal.Pairs fault) h = read (refusal.Pairs fault) h

  answered : (settles : Bool) → ((j : Judged) → Of (Ok j) → IsKnownAnswer settles (judgement_status j.judgement)) → (f : Finding) → IsKnownFound Unread Of f → IsKnownAnswer settles (status_of f)
  answered settles fits finding.Words h = absurd h
  answered settles fits (finding.Refused r) h = absurd (unrefused r h)
  answered settles fits (finding.Cyclic side names) h = absurd h
  answered settles fits (finding.Unpaired side names) h = absurd h
  answered settles fits (finding.Checked o s) h = absurd h
  answered settles fits (finding.Done text) h = absurd h
  answered settles fits (finding.Generated o report) h = absurd h
  answered settles fits (finding.Replayed differences) h = absurd h
  answered settles fits (finding.Undecided side name proof) h = absurd h
  answered settles fits (finding.Unrefuted u) h = absurd h
  answered settles fits (finding.Judged j kept text) h = fits (record { judgement = j; proofs = kept; text = text }) h

-- the names of a stimulus that fits
fits_so : (x y z : List ℕ) (stimulus : Option (List ℕ)) → stimulus ≡ Some z → (can : IsFor x y z) → (a b : NetView) → Loads x a → Loads y b → (names : List (List ℕ)) (rows : List (List Bool)) → IfSome stimulus (λ t. IsStimulus t names rows) → FitsAfter a b names (Ok tt)
fits_so x y z stimulus told can a b l r names rows spells =
    subst (λ (ns : List (List ℕ)). FitsAfter a b ns (Ok tt)) (same_names z can.names names can.rows rows can.stimulus.form (if_told stimulus (λ t. IsStimulus t names rows) z told spells).form) (can.fits a b l r)

pub reset_complete : (settles : Bool) (left right stimulus : Option (List ℕ)) (f : Finding) → IsResetFound settles left right stimulus f → IsResetComplete settles left right stimulus (status_of f)
reset_complete settles left right stimulus f found can =
    let x = some_and left (λ s. IsSomeAnd right (λ t. IsSomeAnd stimulus (λ u. CanBeReplayedFrom s t u))) can in
    let y = some_and right (λ t. IsSomeAnd stimulus (λ u. CanBeReplayedFrom x.0 t u)) x.2 in
    let z = some_and stimulus (λ u. CanBeReplayedFrom x.0 y.0 u) y.2 in
    go x.0 y.0 z.0 x.1 y.1 z.1 z.2
  where
    go : (x y z : List ℕ) → left ≡ Some x → right ≡ Some y → stimulus ≡ Some z → CanBeReplayedFrom x y z → IsKnownAnswer settles (status_of f)
    go x y z is other told k =
        answered (IsUnreadRefusal left right stimulus) (OfReset settles left right stimulus) (read_stands left right stimulus x y z is other told k.0.left k.0.right k.1.names k.1.rows k.1.stimulus)
        (λ name h. fits_known h.a h.b h.names (fits_so x y z stimulus told k.1 h.a h.b (if_told left (λ t. Loads t h.a) x is h.left_loads) (if_told right (λ t. Loads t h.b) y other h.right_loads) h.names h.rows h.spells) name h.said.1)
        (λ name h. fits_complete h.a h.b h.names (fits_so x y z stimulus told k.1 h.a h.b (if_told left (λ t. Loads t h.a) x is h.left_loads) (if_told right (λ t. Loads t h.b) y other h.right_loads) h.names h.rows h.spells) name h.said.1)
        (λ name h. none-some name (sym (k.0.match h.a h.b (if_told left (λ t. Loads t h.a) x is h.left_loads) (if_told right (λ t. Loads t h.b) y other h.right_loads)) ∙ h.said))
        settles (reset_fits settles left right stimulus) f found

-- of either stimulus
either_stands : (a b : NetView) (first names : List (List ℕ)) (P : List (List ℕ) → Type 0) → (P first → ⊥) → (P names → ⊥) → OfEither a b first names P → ⊥
either_stands a b first names P one two (inl h) = one h
either_stands a b first names P one two (inr h) = two h.1

pub behind_complete : (settles : Bool) (left right before stimulus : Option (List ℕ)) (f : Finding) → IsBehindFound settles left right before stimulus f → IsBehindComplete settles left right before stimulus (status_of f)
behind_complete settles left right before stimulus f found can =
    let x = some_and left (λ s. IsSomeAnd right (λ t. IsSomeAnd before (λ u. IsSomeAnd stimulus (λ v. CanBeReplayedBehind s t u v)))) can in
    let y = some_and right (λ t. IsSomeAnd before (λ u. IsSomeAnd stimulus (λ v. CanBeReplayedBehind x.0 t u v))) x.2 in
    let u = some_and before (λ u. IsSomeAnd stimulus (λ v. CanBeReplayedBehind x.0 y.0 u v)) y.2 in
    let z = some_and stimulus (λ v. CanBeReplayedBehind x.0 y.0 u.0 v) u.2 in
    go x.0 y.0 u.0 z.0 x.1 y.1 u.1 z.1 z.2
  where
    go : (x y u z : List ℕ) → left ≡ Some x → right ≡ Some y → before ≡ Some u → stimulus ≡ Some z → CanBeReplayedBehind x y u z → IsKnownAnswer settles (status_of f)
    go x y u z is other first_told told k =
        answered (IsUnreadBehind left right before stimulus) (OfBehind settles left right before stimulus) read
        (λ name h.
        let l = if_told left (λ t. Loads t h.a) x is h.left_loads in
        let r = if_told right (λ t. Loads t h.b) y other h.right_loads in
        either_stands h.a h.b h.first h.names (λ stimulus. IsUnfit h.a h.b stimulus name) (fits_known h.a h.b h.first (fits_so x y u before first_told k.1 h.a h.b l r h.first h.first_rows h.begins) name)
        (fits_known h.a h.b h.names (fits_so x y z stimulus told k.2 h.a h.b l r h.names h.rows h.spells) name) h.said.1)
        (λ name h.
        let l = if_told left (λ t. Loads t h.a) x is h.left_loads in
        let r = if_told right (λ t. Loads t h.b) y other h.right_loads in
        either_stands h.a h.b h.first h.names (λ stimulus. FitsOr h.a h.b stimulus (Err (header.Missing name))) (fits_complete h.a h.b h.first (fits_so x y u before first_told k.1 h.a h.b l r h.first h.first_rows h.begins) name)
        (fits_complete h.a h.b h.names (fits_so x y z stimulus told k.2 h.a h.b l r h.names h.rows h.spells) name) h.said.1)
        (λ name h. none-some name (sym (k.0.match h.a h.b (if_told left (λ t. Loads t h.a) x is h.left_loads) (if_told right (λ t. Loads t h.b) y other h.right_loads)) ∙ h.said))
        settles (behind_fits settles left right before stimulus) f found
      where
        read : (r : Refusal) → IsUnreadBehind left right before stimulus r → ⊥
        read r (inl h) = read_stands left right before x y u is other first_told k.0.left k.0.right k.1.names k.1.rows k.1.stimulus r h
        read r (inr h) = last_stands left right before stimulus z told k.2.names k.2.rows k.2.stimulus r h
