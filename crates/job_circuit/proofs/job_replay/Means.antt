-- What the status of a replay means.
use Rattle.std.specs.Prelude.{◌==◌}
use Rattle.std.proofs.Common.{◌≡◌, ◌∙◌, ℕ, Bool, true, false, cond, List, [], ◌∷◌, length, sym, ap, subst, Option, Ok}
use Rattle.circuit_theory.specs.declared.Mode.{Mode}
use Rattle.base_shelves.specs.Outside.{Takes}
use Rattle.pair_decide.specs.declared.query.Proof.{Proof}
use Rattle.cycle_sim.specs.declared.pair_runs.differences.Difference.{Difference}
use Rattle.cycle_sim.specs.declared.pair_runs.differences.Replayed.{Replayed}
use Rattle.cycle_sim.specs.pair_runs.replay_report.Report.{settled_count}
use Rattle.job_base.specs.declared.finding.Finding.{Finding}
use Rattle.job_base.specs.declared.finding.Finding.TheVariants as finding
use Rattle.job_base.specs.declared.finding.Judgement.TheVariants as judgement
use Rattle.job_base.specs.declared.status.StatusName.{StatusName}
use Rattle.job_base.specs.declared.status.StatusName.TheVariants as status
use Rattle.job_base.specs.Lines.{finding_text}
use Rattle.job_base.specs.Written.{status_of, replay_status, judgement_status, IsWrittenAs}
use Rattle.job_circuit.specs.declared.job_replay.replays.ReplayReport.{ReplayReport}
use Rattle.job_circuit.specs.declared.job_replay.replays.ReplayReport.TheVariants as told
use Rattle.job_circuit.specs.job_replay.Told.{finding_of, FindsIn}
use Rattle.job_circuit.specs.job_replay.Replays.{OfReplay, IsReplayFound, TakesReplay, TakesReplayLimit, ReplayMeans}

-- what is told of what both circuits show isn't the limit of a query
no_limit : (report : ReplayReport) (cycles : ℕ) (r : Replayed) → status_of (finding_of report cycles r) ≡ status.Limit → ⊥
no_limit told.Differences cycles r e = go r.differences e
  where
    go : (differences : List Difference) → replay_status differences ≡ status.Limit → ⊥
    go [] q = cc
    go (d ∷ more) q = cc
no_limit told.DifferencesAndSettled cycles r e = go (length r.differences == 0) (settled_count r.settlings == 0) e
  where
    go : (same none : Bool) → judgement_status (cond same (cond none judgement.NotShown judgement.Equal) judgement.Different) ≡ status.Limit → ⊥
    go true true q = cc
    go true false q = cc
    go false none q = cc
no_limit told.Settled cycles r e = cc

module _ (report : ReplayReport) (mode : Mode) (left right stimulus before now : Option (List ℕ)) where
  abbrev Shows : Finding → Type 0
  Shows f = OfReplay left right stimulus (λ a b names rows. FindsIn report mode a b names rows (Ok f))

  -- what is told of what both circuits show
  told_taken : (f : Finding) (name : StatusName) → Shows f → status_of f ≡ name → Takes before now (finding_text f) → TakesReplay report mode left right stimulus before now name
  told_taken f name h e taken = record {
    replayed = h.said.0;
    shown = record {
      a = h.a;
      b = h.b;
      names = h.names;
      rows = h.rows;
      left_loads = h.left_loads;
      right_loads = h.right_loads;
      spells = h.spells;
      said = (h.said.1.0, h.said.1.1, (ap status_of (sym h.said.2) ∙ e, subst (λ (g : Finding). Takes before now (finding_text g)) h.said.2 taken));
    };
  }

  replay_taken : (f : Finding) (name : StatusName) → IsReplayFound report mode left right stimulus f → status_of f ≡ name → Takes before now (finding_text f) → (status.Refused ≡ name → ⊥) → (status.Limit ≡ name → ⊥) →
      TakesReplay report mode left right stimulus before now name
  replay_taken finding.Words name h e taken refused limit = told_taken finding.Words name h e taken
  replay_taken (finding.Refused r) name h e taken refused limit = absurd (refused e)
  replay_taken (finding.Cyclic side names) name h e taken refused limit = told_taken (finding.Cyclic side names) name h e taken
  replay_taken (finding.Unpaired side names) name h e taken refused limit = told_taken (finding.Unpaired side names) name h e taken
  replay_taken (finding.Checked o s) name h e taken refused limit = told_taken (finding.Checked o s) name h e taken
  replay_taken (finding.Done text) name h e taken refused limit = told_taken (finding.Done text) name h e taken
  replay_taken (finding.Generated o text) name h e taken refused limit = told_taken (finding.Generated o text) name h e taken
  replay_taken (finding.Unrefuted u) name h e taken refused limit = told_taken (finding.Unrefuted u) name h e taken
  replay_taken (finding.Judged j kept text) name h e taken refused limit = told_taken (finding.Judged j kept text) name h e taken
  replay_taken (finding.Undecided side latch proof) name h e taken refused limit = absurd (limit e)
  replay_taken (finding.Replayed differences) name h e taken refused limit = told_taken (finding.Replayed differences) name h e taken

  unlimited : (f : Finding) → Shows f → status_of f ≡ status.Limit → ⊥
  unlimited f h e = no_limit report (length h.rows) h.said.0 (ap status_of (sym h.said.2) ∙ e)

  limit_taken : (proofs : List Proof) (f : Finding) → IsReplayFound report mode left right stimulus f → IsWrittenAs before now f proofs status.Limit → TakesReplayLimit mode left right stimulus proofs before now
  limit_taken proofs finding.Words h w = absurd (unlimited finding.Words h w.1)
  limit_taken proofs (finding.Refused r) h w = absurd (let e = w.1 in cc)
  limit_taken proofs (finding.Cyclic side names) h w = absurd (unlimited (finding.Cyclic side names) h w.1)
  limit_taken proofs (finding.Unpaired side names) h w = absurd (unlimited (finding.Unpaired side names) h w.1)
  limit_taken proofs (finding.Checked o s) h w = absurd (unlimited (finding.Checked o s) h w.1)
  limit_taken proofs (finding.Done text) h w = absurd (unlimited (finding.Done text) h w.1)
  limit_taken proofs (finding.Generated o text) h w = absurd (unlimited (finding.Generated o text) h w.1)
  limit_taken proofs (finding.Unrefuted u) h w = absurd (unlimited (finding.Unrefuted u) h w.1)
  limit_taken proofs (finding.Judged j kept text) h w = absurd (unlimited (finding.Judged j kept text) h w.1)
  limit_taken proofs (finding.Replayed differences) h w = absurd (unlimited (finding.Replayed differences) h w.1)
  limit_taken proofs (finding.Undecided side name proof) h w = record {
    side = side;
    name = name;
    proof = proof;
    kept = w.0;
    shown = record { a = h.a; b = h.b; names = h.names; rows = h.rows; left_loads = h.left_loads; right_loads = h.right_loads; spells = h.spells; said = h.said };
    printed = w.2;
  }

  pub replay_means : (f : Finding) (proofs : List Proof) (name : StatusName) → IsReplayFound report mode left right stimulus f → IsWrittenAs before now f proofs name → ReplayMeans report mode left right stimulus before now proofs name
  replay_means f proofs status.Equal h w = replay_taken f status.Equal h w.1 w.2 (λ q. cc) (λ q. cc)
  replay_means f proofs status.Different h w = replay_taken f status.Different h w.1 w.2 (λ q. cc) (λ q. cc)
  replay_means f proofs status.NotShown h w = replay_taken f status.NotShown h w.1 w.2 (λ q. cc) (λ q. cc)
  replay_means f proofs status.Limit h w = limit_taken proofs f h w
  replay_means f proofs status.Done h w = replay_taken f status.Done h w.1 w.2 (λ q. cc) (λ q. cc)
  replay_means f proofs status.Refused h w = tt
  replay_means f proofs status.Words h w = tt
  replay_means f proofs status.ReadFault h w = tt
  replay_means f proofs status.WriteFault h w = tt
  replay_means f proofs status.NoMemory h w = tt
  replay_means f proofs status.Cyclic h w = tt
