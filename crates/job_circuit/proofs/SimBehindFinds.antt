-- What the parts of the work on a run behind the rows of a stimulus find, what its status means, and when it is done.
use Rattle.std.specs.Prelude.{IfSome, IsSomeAnd}
use Rattle.std.proofs.Common.{◌≡◌, ◌∙◌, ℕ, Bool, List, [], ◌∷◌, refl, sym, ap, subst, inl, inr, ◌⊎◌, Option, Some, None, Result, Ok, Err}
use Rattle.std.proofs.lemmas.Option.{none-some}
use Rattle.std.proofs.lemmas.List.Elements.{All-nil, All-cons}
use Rattle.circuit_theory.specs.declared.Side.TheVariants.{A, B}
use Rattle.base_shelves.specs.Outside.{Rose, Takes}
use Rattle.flat_net.specs.View.{NetView}
use Rattle.pair_decide.specs.declared.query.Proof.{Proof}
use Rattle.circuit_report.specs.declared.sim_report.refusal.Misfit.{Misfit}
use Rattle.circuit_report.specs.declared.graph_report.runs.SimulateError.{SimulateError}
use Rattle.circuit_report.specs.declared.graph_report.runs.SimulateError.TheVariants as simulate_error
use Rattle.circuit_report.specs.sim_report.Checks.{first_misfit}
use Rattle.job_base.specs.declared.finding.File.TheVariants as file
use Rattle.job_base.specs.declared.finding.LineFault.TheVariants as line_fault
use Rattle.job_base.specs.declared.finding.Refusal.{Refusal}
use Rattle.job_base.specs.declared.finding.Refusal.TheVariants as refusal
use Rattle.job_base.specs.declared.finding.Finding.{Finding}
use Rattle.job_base.specs.declared.finding.Finding.TheVariants as finding
use Rattle.job_base.specs.declared.status.StatusName.{StatusName}
use Rattle.job_base.specs.declared.status.StatusName.TheVariants as status
use Rattle.job_base.specs.Ends.{EndsBy}
use Rattle.job_base.specs.Lines.{finding_text}
use Rattle.job_base.specs.Reading.{ReadFailedAfter}
use Rattle.job_base.specs.Written.{status_of, IsWrittenAs}
use Rattle.job_base.proofs.Meaning.{report_means}
use Rattle.job_base.proofs.Reading.{first_read_failed, second_read_failed}
use Rattle.job_base.specs.declared.sec_files.loader.LoadError.{LoadError}
use Rattle.job_base.specs.declared.sec_files.stimuli.StimulusError.{StimulusError}
use Rattle.job_base.specs.sec_files.Loading.{Loads, LoadFails, IsTooLong}
use Rattle.job_base.specs.sec_files.Stimuli.{IsStimulus, HasBadHeader, HasBadRow, StimulusFails}
use Rattle.job_base.specs.sec_files.job_files.Reading.{IsLoaded, Held}
use Rattle.job_base.specs.sec_files.job_files.Ends.{load_end, stimulus_end}
use Rattle.job_base.proofs.sec_files.job_files.Loading.{stimulus_ends}
use Rattle.job_base.proofs.sec_files.job_files.Reading.{is_loaded, if_told, some_and}
use Rattle.job_base.proofs.sec_files.job_files.Accepted.{same_names, no_long_stimulus, not_headless, no_row_refused}
use Rattle.job_circuit.specs.Ends.{sim_end}
use Rattle.job_circuit.specs.Reports.{IsCircuitRefusal}
use Rattle.job_circuit.specs.SimBehind.{behind_paths, IsSpelled, LetsGoOn, IsMisfitBehind, RunsBehind, OfRunBehind, OfStimuli, IsSimBehindRefusal, ReportsBehind, IsSimBehindFound, SimBehindFound, TakesBehind, SimBehindMeans, CanBeRunBehind, IsSimBehindComplete}
use Rattle.job_circuit.proofs.OneCircuit.{circuit_ends}
use Rattle.job_circuit.proofs.CompleteReports.{circuit_stands}

pub is_spelled : (text : Option (List ℕ)) (names : List (List ℕ)) (rows : List (List Bool)) → IfSome text (λ y. IsStimulus y names rows) → IsSpelled text
is_spelled None names rows h = tt
is_spelled (Some y) names rows h = (names, rows, h)

-- a refusal of the circuit is one of the run
behind_circuit : (circuit before stimulus power : Option (List ℕ)) (r : Refusal) → IsCircuitRefusal circuit r → IsSimBehindRefusal circuit before stimulus power r
behind_circuit circuit before stimulus power (refusal.TooLong file.A) h = h
behind_circuit circuit before stimulus power (refusal.TooLong file.B) h = h
behind_circuit circuit before stimulus power (refusal.TooLong file.C) h = h
behind_circuit circuit before stimulus power (refusal.TooLong file.S) h = absurd h
behind_circuit circuit before stimulus power (refusal.Text file.A line fault) h = h
behind_circuit circuit before stimulus power (refusal.Text file.B line fault) h = h
behind_circuit circuit before stimulus power (refusal.Text file.C line fault) h = h
behind_circuit circuit before stimulus power (refusal.Text file.S line fault) h = absurd h
behind_circuit circuit before stimulus power (refusal.Design f fault) h = h
behind_circuit circuit before stimulus power (refusal.Record f place kind) h = h
behind_circuit circuit before stimulus power (refusal.Interface name) h = h
behind_circuit circuit before stimulus power (refusal.TooLarge side) h = h
behind_circuit circuit before stimulus power (refusal.Misfit m) h = absurd h
behind_circuit circuit before stimulus power refusal.TooManyEvents h = h
behind_circuit circuit before stimulus power (refusal.Assume fault) h = h
behind_circuit circuit before stimulus power refusal.Vacuous h = h
behind_circuit circuit before stimulus power (refusal.Pair name) h = h
behind_circuit circuit before stimulus power (refusal.Pairs fault) h = h

module _ (held : Held) (earlier now : List ℕ → ℕ) (circuit before stimulus : List ℕ) (power : Option (List ℕ)) where
  abbrev P : Finding → Type 0
  P f = IsSimBehindFound (held circuit) (held before) (held stimulus) power f

  abbrev Failed : Type 0
  Failed = ReadFailedAfter LetsGoOn held earlier now (behind_paths circuit before stimulus)

  third_failed : LetsGoOn (held circuit) → LetsGoOn (held before) → Rose (earlier stimulus) (now stimulus) → Failed
  third_failed one two rose =
      let G : List ℕ → Type 0 = λ path. LetsGoOn (held path) in
      record { fetch = 2; path = stimulus; is_path = refl; rose = rose; reached = All-cons G circuit (before ∷ []) one (All-cons G before [] two (All-nil G)) }

  -- one of the files isn't loaded
  pub no_circuit : (error : LoadError) → LoadFails (held circuit) (Rose (earlier circuit) (now circuit)) error → EndsBy P Failed (load_end file.A error)
  no_circuit error fails =
      circuit_ends P Failed (Rose (earlier circuit) (now circuit)) (held circuit) error (behind_circuit (held circuit) (held before) (held stimulus) power)
      (first_read_failed LetsGoOn held earlier now circuit (before ∷ stimulus ∷ [])) fails

  pub no_rows : IsLoaded (held circuit) → (error : StimulusError) → StimulusFails (held before) (Rose (earlier before) (now before)) error → EndsBy P Failed (stimulus_end error)
  no_rows loaded error fails =
      stimulus_ends P Failed (Rose (earlier before) (now before)) (held before) (λ h. (loaded, inl h)) (λ line h. (loaded, inl h)) (λ line h. (loaded, inl h))
      (second_read_failed LetsGoOn held earlier now circuit before (stimulus ∷ []) (inl loaded)) error fails

  pub no_stimulus : IsLoaded (held circuit) → IsSpelled (held before) → (error : StimulusError) → StimulusFails (held stimulus) (Rose (earlier stimulus) (now stimulus)) error → EndsBy P Failed (stimulus_end error)
  no_stimulus loaded spelled error fails =
      stimulus_ends P Failed (Rose (earlier stimulus) (now stimulus)) (held stimulus) (λ h. (loaded, inr (spelled, h))) (λ line h. (loaded, inr (spelled, h))) (λ line h. (loaded, inr (spelled, h)))
      (third_failed (inl loaded) (inr spelled)) error fails

  -- all are, and the circuit is run
  pub behind_ends : (net : NetView) (first : List (List ℕ)) (first_rows : List (List Bool)) (names : List (List ℕ)) (rows : List (List Bool)) (r : Result (List ℕ) SimulateError) → IfSome (held circuit) (λ x. Loads x net) →
      IfSome (held before) (λ y. IsStimulus y first first_rows) → IfSome (held stimulus) (λ z. IsStimulus z names rows) → RunsBehind net first first_rows names rows power r → EndsBy P Failed (sim_end r)
  behind_ends net first first_rows names rows (Ok report) loads begins spells run = record { net = net; first = first; first_rows = first_rows; names = names; rows = rows; loads = loads; begins = begins; spells = spells; said = run }
  behind_ends net first first_rows names rows (Err (simulate_error.Misfit m)) loads begins spells run =
      record { net = net; first = first; first_rows = first_rows; names = names; rows = rows; loads = loads; begins = begins; spells = spells; said = run }
  behind_ends net first first_rows names rows (Err simulate_error.TooLarge) loads begins spells run = absurd run
  behind_ends net first first_rows names rows (Err (simulate_error.Limit name proof)) loads begins spells run = absurd run
  behind_ends net first first_rows names rows (Err simulate_error.NoMemory) loads begins spells run = tt

module _ (circuit before stimulus power : Option (List ℕ)) where
  -- what is found is the report, or a refusal
  one_of : (f : Finding) → IsSimBehindFound circuit before stimulus power f → ((report : List ℕ) × (f ≡ finding.Done report) × ReportsBehind circuit before stimulus power report) ⊎ ((r : Refusal) × (f ≡ finding.Refused r) × IsSimBehindRefusal circuit before stimulus power r)
  one_of finding.Words h = absurd h
  one_of (finding.Refused r) h = inr (r, refl, h)
  one_of (finding.Cyclic side names) h = absurd h
  one_of (finding.Unpaired side names) h = absurd h
  one_of (finding.Checked o s) h = absurd h
  one_of (finding.Done report) h = inl (report, refl, h)
  one_of (finding.Generated o report) h = absurd h
  one_of (finding.Replayed differences) h = absurd h
  one_of (finding.Undecided side name proof) h = absurd h
  one_of (finding.Unrefuted u) h = absurd h
  one_of (finding.Judged j kept text) h = absurd h

  pub sim_behind_means : (earlier now : Option (List ℕ)) (f : Finding) (proofs : List Proof) (name : StatusName) → IsSimBehindFound circuit before stimulus power f → IsWrittenAs earlier now f proofs name →
      SimBehindMeans circuit before stimulus power earlier now name
  sim_behind_means earlier now f proofs name found w = go (one_of f found)
    where
      limits : (s : StatusName) → status_of f ≡ s → (s ≡ status.Limit → ⊥) → IsWrittenAs earlier now f proofs status.Limit → ⊥
      limits s is apart written = apart (sym is ∙ written.1)

      go : ((report : List ℕ) × (f ≡ finding.Done report) × ReportsBehind circuit before stimulus power report) ⊎ ((r : Refusal) × (f ≡ finding.Refused r) × IsSimBehindRefusal circuit before stimulus power r) →
          SimBehindMeans circuit before stimulus power earlier now name
      go (inl (report, is, reports)) =
          report_means (TakesBehind circuit before stimulus power earlier now) ⊥ earlier now f proofs name (inl (ap status_of is)) (λ e taken. (report, reports, subst (λ (g : Finding). Takes earlier now (finding_text g)) is taken))
          (limits status.Done (ap status_of is) (λ q. cc)) w
      go (inr (r, is, refuses)) =
          report_means (TakesBehind circuit before stimulus power earlier now) ⊥ earlier now f proofs name (inr (inl (ap status_of is))) (λ e taken. absurd (let q : status.Refused ≡ status.Done = sym (ap status_of is) ∙ e in cc))
          (limits status.Refused (ap status_of is) (λ q. cc)) w

  -- texts that can be run aren't refused
  module _ (x y z : List ℕ) (is : circuit ≡ Some x) (first_told : before ≡ Some y) (told : stimulus ≡ Some z) (can : CanBeRunBehind x y z power) where
    of_stimuli : (Q : List ℕ → Type 0) → (IfSome before Q → ⊥) → (IfSome stimulus Q → ⊥) → OfStimuli circuit before stimulus Q → ⊥
    of_stimuli Q one two (loaded, inl h) = one h
    of_stimuli Q one two (loaded, inr h) = two h.1

    stays : (r : Refusal) → IsCircuitRefusal circuit r → ⊥
    stays r h = circuit_stands circuit x is can.circuit r h

    fits : (m : Misfit) → OfRunBehind circuit before stimulus (λ n first first_rows names rows. IsMisfitBehind n first names power m) → ⊥
    fits m h = go h.said
      where
        loads : Loads x h.net
        loads = if_told circuit (λ t. Loads t h.net) x is h.loads

        first_same : can.first ≡ h.first
        first_same = same_names y can.first h.first can.first_rows h.first_rows can.before.form (if_told before (λ t. IsStimulus t h.first h.first_rows) y first_told h.begins).form

        same : can.names ≡ h.names
        same = same_names z can.names h.names can.rows h.rows can.stimulus.form (if_told stimulus (λ t. IsStimulus t h.names h.rows) z told h.spells).form

        go : IsMisfitBehind h.net h.first h.names power m → ⊥
        go (inl e) = none-some m (sym (can.fits h.net loads).0 ∙ (ap (λ (names : List (List ℕ)). first_misfit h.net names None) first_same ∙ e))
        go (inr e) = none-some m (sym (can.fits h.net loads).1 ∙ (ap (λ (names : List (List ℕ)). first_misfit h.net names power) same ∙ e.1))

    stands : (r : Refusal) → IsSimBehindRefusal circuit before stimulus power r → ⊥
    stands (refusal.TooLong file.A) h = stays (refusal.TooLong file.A) h
    stands (refusal.TooLong file.B) h = stays (refusal.TooLong file.B) h
    stands (refusal.TooLong file.C) h = stays (refusal.TooLong file.C) h
    stands (refusal.TooLong file.S) h = of_stimuli IsTooLong (no_long_stimulus before y first_told can.first can.first_rows can.before) (no_long_stimulus stimulus z told can.names can.rows can.stimulus) h
    stands (refusal.Text file.A line fault) h = stays (refusal.Text file.A line fault) h
    stands (refusal.Text file.B line fault) h = stays (refusal.Text file.B line fault) h
    stands (refusal.Text file.C line fault) h = stays (refusal.Text file.C line fault) h
    stands (refusal.Text file.S line line_fault.BadHeader) h =
        of_stimuli (λ t. HasBadHeader t line) (not_headless before y first_told can.first can.first_rows can.before line) (not_headless stimulus z told can.names can.rows can.stimulus line) h
    stands (refusal.Text file.S line line_fault.BadRow) h =
        of_stimuli (λ t. HasBadRow t line) (no_row_refused before y first_told can.first can.first_rows can.before line) (no_row_refused stimulus z told can.names can.rows can.stimulus line) h
    stands (refusal.Text file.S line (line_fault.Circuit kind)) h = stays (refusal.Text file.S line (line_fault.Circuit kind)) h
    stands (refusal.Text file.S line (line_fault.Clauses kind)) h = stays (refusal.Text file.S line (line_fault.Clauses kind)) h
    stands (refusal.Design f fault) h = stays (refusal.Design f fault) h
    stands (refusal.Record f place kind) h = stays (refusal.Record f place kind) h
    stands (refusal.Interface name) h = h
    stands (refusal.TooLarge side) h = h
    stands (refusal.Misfit m) h = fits m h
    stands refusal.TooManyEvents h = h
    stands (refusal.Assume fault) h = h
    stands refusal.Vacuous h = h
    stands (refusal.Pair name) h = h
    stands (refusal.Pairs fault) h = h

    done : (f : Finding) → IsSimBehindFound circuit before stimulus power f → status_of f ≡ status.Done
    done f found = go (one_of f found)
      where
        go : ((report : List ℕ) × (f ≡ finding.Done report) × ReportsBehind circuit before stimulus power report) ⊎ ((r : Refusal) × (f ≡ finding.Refused r) × IsSimBehindRefusal circuit before stimulus power r) → status_of f ≡ status.Done
        go (inl h) = ap status_of h.1
        go (inr h) = absurd (stands h.0 h.2)

  pub sim_behind_complete : (f : Finding) → IsSimBehindFound circuit before stimulus power f → IsSimBehindComplete circuit before stimulus power (status_of f)
  sim_behind_complete f found can =
      let x = some_and circuit (λ t. IsSomeAnd before (λ y. IsSomeAnd stimulus (λ z. CanBeRunBehind t y z power))) can in
      let y = some_and before (λ t. IsSomeAnd stimulus (λ z. CanBeRunBehind x.0 t z power)) x.2 in
      let z = some_and stimulus (λ t. CanBeRunBehind x.0 y.0 t power) y.2 in
      inl (done x.0 y.0 z.0 x.1 y.1 z.1 z.2 f found)
