-- What the status of a report on one circuit means.
use Rattle.std.proofs.Common.{◌≡◌, ℕ, Bool, List, refl, inl, inr, ◌⊎◌, Option}
use Rattle.circuit_theory.specs.declared.Mode.{Mode}
use Rattle.circuit_theory.specs.declared.Side.TheVariants.{A, B}
use Rattle.base_shelves.specs.Outside.{Takes}
use Rattle.pair_decide.specs.declared.query.Proof.{Proof}
use Rattle.job_base.specs.declared.finding.Finding.{Finding}
use Rattle.job_base.specs.declared.finding.Finding.TheVariants as finding
use Rattle.job_base.specs.declared.status.StatusName.{StatusName}
use Rattle.job_base.specs.declared.status.StatusName.TheVariants as status
use Rattle.job_base.specs.Lines.{finding_text}
use Rattle.job_base.specs.Written.{status_of, IsWrittenAs}
use Rattle.job_base.proofs.Meaning.{report_means}
use Rattle.job_circuit.specs.Reports.{IsGraphFound, IsSimFound, TakesGraph, TakesRun, TakesLimit, GraphMeans, SimMeans}

-- what is found of one circuit is a report, a refusal, or that a query has met the limit
graph_status : (mode : Mode) (circuit : Option (List ℕ)) (f : Finding) → IsGraphFound mode circuit f → (status_of f ≡ status.Done) ⊎ ((status_of f ≡ status.Refused) ⊎ (status_of f ≡ status.Limit))
graph_status mode circuit finding.Words h = absurd h
graph_status mode circuit (finding.Refused r) h = inr (inl refl)
graph_status mode circuit (finding.Cyclic side names) h = absurd h
graph_status mode circuit (finding.Unpaired side names) h = absurd h
graph_status mode circuit (finding.Checked o s) h = absurd h
graph_status mode circuit (finding.Done report) h = inl refl
graph_status mode circuit (finding.Generated o report) h = absurd h
graph_status mode circuit (finding.Replayed differences) h = absurd h
graph_status mode circuit (finding.Unrefuted u) h = absurd h
graph_status mode circuit (finding.Judged j kept text) h = absurd h
graph_status mode circuit (finding.Undecided A name proof) h = inr (inr refl)
graph_status mode circuit (finding.Undecided B name proof) h = absurd h

sim_status : (mode : Mode) (circuit stimulus power : Option (List ℕ)) (reset : Bool) (f : Finding) → IsSimFound mode circuit stimulus power reset f → (status_of f ≡ status.Done) ⊎ ((status_of f ≡ status.Refused) ⊎ (status_of f ≡ status.Limit))
sim_status mode circuit stimulus power reset finding.Words h = absurd h
sim_status mode circuit stimulus power reset (finding.Refused r) h = inr (inl refl)
sim_status mode circuit stimulus power reset (finding.Cyclic side names) h = absurd h
sim_status mode circuit stimulus power reset (finding.Unpaired side names) h = absurd h
sim_status mode circuit stimulus power reset (finding.Checked o s) h = absurd h
sim_status mode circuit stimulus power reset (finding.Done report) h = inl refl
sim_status mode circuit stimulus power reset (finding.Generated o report) h = absurd h
sim_status mode circuit stimulus power reset (finding.Replayed differences) h = absurd h
sim_status mode circuit stimulus power reset (finding.Unrefuted u) h = absurd h
sim_status mode circuit stimulus power reset (finding.Judged j kept text) h = absurd h
sim_status mode circuit stimulus power reset (finding.Undecided A name proof) h = inr (inr refl)
sim_status mode circuit stimulus power reset (finding.Undecided B name proof) h = absurd h

-- the limit of a query of one circuit
graph_limit : (mode : Mode) (circuit before now : Option (List ℕ)) (f : Finding) (proofs : List Proof) → IsGraphFound mode circuit f → IsWrittenAs before now f proofs status.Limit → TakesLimit mode circuit proofs before now
graph_limit mode circuit before now finding.Words proofs h w = absurd h
graph_limit mode circuit before now (finding.Refused r) proofs h w = absurd (let e = w.1 in cc)
graph_limit mode circuit before now (finding.Cyclic side names) proofs h w = absurd h
graph_limit mode circuit before now (finding.Unpaired side names) proofs h w = absurd h
graph_limit mode circuit before now (finding.Checked o s) proofs h w = absurd h
graph_limit mode circuit before now (finding.Done report) proofs h w = absurd (let e = w.1 in cc)
graph_limit mode circuit before now (finding.Generated o report) proofs h w = absurd h
graph_limit mode circuit before now (finding.Replayed differences) proofs h w = absurd h
graph_limit mode circuit before now (finding.Unrefuted u) proofs h w = absurd h
graph_limit mode circuit before now (finding.Judged j kept text) proofs h w = absurd h
graph_limit mode circuit before now (finding.Undecided A name proof) proofs h w = record { name = name; proof = proof; kept = w.0; shown = h; printed = w.2 }
graph_limit mode circuit before now (finding.Undecided B name proof) proofs h w = absurd h

run_limit : (mode : Mode) (circuit stimulus power : Option (List ℕ)) (reset : Bool) (before now : Option (List ℕ)) (f : Finding) (proofs : List Proof) → IsSimFound mode circuit stimulus power reset f → IsWrittenAs before now f proofs status.Limit →
    TakesLimit mode circuit proofs before now
run_limit mode circuit stimulus power reset before now finding.Words proofs h w = absurd h
run_limit mode circuit stimulus power reset before now (finding.Refused r) proofs h w = absurd (let e = w.1 in cc)
run_limit mode circuit stimulus power reset before now (finding.Cyclic side names) proofs h w = absurd h
run_limit mode circuit stimulus power reset before now (finding.Unpaired side names) proofs h w = absurd h
run_limit mode circuit stimulus power reset before now (finding.Checked o s) proofs h w = absurd h
run_limit mode circuit stimulus power reset before now (finding.Done report) proofs h w = absurd (let e = w.1 in cc)
run_limit mode circuit stimulus power reset before now (finding.Generated o report) proofs h w = absurd h
run_limit mode circuit stimulus power reset before now (finding.Replayed differences) proofs h w = absurd h
run_limit mode circuit stimulus power reset before now (finding.Unrefuted u) proofs h w = absurd h
run_limit mode circuit stimulus power reset before now (finding.Judged j kept text) proofs h w = absurd h
run_limit mode circuit stimulus power reset before now (finding.Undecided A name proof) proofs h w =
    record { name = name; proof = proof; kept = w.0; shown = record { net = h.net; loads = h.loads; unknown = h.unknown }; printed = w.2 }
run_limit mode circuit stimulus power reset before now (finding.Undecided B name proof) proofs h w = absurd h

graph_taken : (mode : Mode) (circuit before now : Option (List ℕ)) (f : Finding) → IsGraphFound mode circuit f → status_of f ≡ status.Done → Takes before now (finding_text f) → TakesGraph mode circuit before now
graph_taken mode circuit before now finding.Words h e taken = absurd h
graph_taken mode circuit before now (finding.Refused r) h e taken = absurd (cc)
graph_taken mode circuit before now (finding.Cyclic side names) h e taken = absurd h
graph_taken mode circuit before now (finding.Unpaired side names) h e taken = absurd h
graph_taken mode circuit before now (finding.Checked o s) h e taken = absurd h
graph_taken mode circuit before now (finding.Done report) h e taken = (report, h, taken)
graph_taken mode circuit before now (finding.Generated o report) h e taken = absurd h
graph_taken mode circuit before now (finding.Replayed differences) h e taken = absurd h
graph_taken mode circuit before now (finding.Unrefuted u) h e taken = absurd h
graph_taken mode circuit before now (finding.Judged j kept text) h e taken = absurd h
graph_taken mode circuit before now (finding.Undecided A name proof) h e taken = absurd (cc)
graph_taken mode circuit before now (finding.Undecided B name proof) h e taken = absurd h

run_taken : (mode : Mode) (circuit stimulus power : Option (List ℕ)) (reset : Bool) (before now : Option (List ℕ)) (f : Finding) → IsSimFound mode circuit stimulus power reset f → status_of f ≡ status.Done → Takes before now (finding_text f) → TakesRun mode circuit stimulus power reset before now
run_taken mode circuit stimulus power reset before now finding.Words h e taken = absurd h
run_taken mode circuit stimulus power reset before now (finding.Refused r) h e taken = absurd (cc)
run_taken mode circuit stimulus power reset before now (finding.Cyclic side names) h e taken = absurd h
run_taken mode circuit stimulus power reset before now (finding.Unpaired side names) h e taken = absurd h
run_taken mode circuit stimulus power reset before now (finding.Checked o s) h e taken = absurd h
run_taken mode circuit stimulus power reset before now (finding.Done report) h e taken = (report, h, taken)
run_taken mode circuit stimulus power reset before now (finding.Generated o report) h e taken = absurd h
run_taken mode circuit stimulus power reset before now (finding.Replayed differences) h e taken = absurd h
run_taken mode circuit stimulus power reset before now (finding.Unrefuted u) h e taken = absurd h
run_taken mode circuit stimulus power reset before now (finding.Judged j kept text) h e taken = absurd h
run_taken mode circuit stimulus power reset before now (finding.Undecided A name proof) h e taken = absurd (cc)
run_taken mode circuit stimulus power reset before now (finding.Undecided B name proof) h e taken = absurd h

pub graph_means : (mode : Mode) (circuit before now : Option (List ℕ)) (f : Finding) (proofs : List Proof) (name : StatusName) →
    IsGraphFound mode circuit f → IsWrittenAs before now f proofs name → GraphMeans mode circuit before now proofs name
graph_means mode circuit before now f proofs name found w =
    report_means (TakesGraph mode circuit before now) (TakesLimit mode circuit proofs before now) before now f proofs name (graph_status mode circuit f found)
    (graph_taken mode circuit before now f found) (graph_limit mode circuit before now f proofs found) w

pub sim_means : (mode : Mode) (circuit stimulus power : Option (List ℕ)) (reset : Bool) (before now : Option (List ℕ)) (f : Finding) (proofs : List Proof) (name : StatusName) →
    IsSimFound mode circuit stimulus power reset f → IsWrittenAs before now f proofs name → SimMeans mode circuit stimulus power reset before now proofs name
sim_means mode circuit stimulus power reset before now f proofs name found w =
    report_means (TakesRun mode circuit stimulus power reset before now) (TakesLimit mode circuit proofs before now) before now f proofs name (sim_status mode circuit stimulus power reset f found)
    (run_taken mode circuit stimulus power reset before now f found) (run_limit mode circuit stimulus power reset before now f proofs found) w
