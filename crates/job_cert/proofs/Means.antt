-- What the status of a certificate means.
use Rattle.std.specs.Prelude.{IfSome}
use Rattle.std.proofs.Common.{◌≡◌, ℕ, Bool, true, false, List, refl, sym, ap₂, subst, Option}
use Rattle.base_shelves.specs.Outside.{Takes}
use Rattle.flat_net.specs.View.{NetView}
use Rattle.proof_check.specs.Clauses.{Unsatisfiable}
use Rattle.pair_decide.specs.declared.cnf_encode.cnf.Cnf.{Cnf}
use Rattle.sat_search.specs.Found.{IsFruitless}
use Rattle.pair_decide.specs.declared.query.Proof.{Proof}
use Rattle.lrat_core.proofs.lrat_text.Texts.{accepted_sound}
use Rattle.lrat_core.specs.certificate_writer.Texts.{formula_for}
use Rattle.lrat_core.specs.dimacs_text.Formulas.{Formula}
use Rattle.lrat_core.specs.lrat_text.Verdicts.{IsTextVerdict}
use Rattle.lrat_core.specs.Sequences.{Accepted}
use Rattle.proof_check.specs.Literals.{Literal}
use Rattle.job_base.specs.sec_files.Loading.{Loads}
use Rattle.job_base.proofs.sec_files.job_files.Reading.{if_told}
use Rattle.job_cert.specs.pair_clauses.Clauses.{CanBeMet, ArePairClauses}
use Rattle.job_base.specs.declared.finding.Finding.{Finding}
use Rattle.job_base.specs.declared.finding.Finding.TheVariants as finding
use Rattle.job_base.specs.declared.finding.Unrefuted.TheVariants as unrefuted
use Rattle.job_base.specs.declared.status.StatusName.{StatusName}
use Rattle.job_base.specs.declared.status.StatusName.TheVariants as status
use Rattle.job_base.specs.Lines.{finding_text, unsettled_text}
use Rattle.job_base.specs.Written.{status_of, IsWrittenAs}
use Rattle.job_cert.specs.Made.{Request, Refutes, IsMadeBy, IsCertificate}
use Rattle.job_base.specs.sec_files.job_files.Texts.{OfNets}
use Rattle.job_cert.specs.Found.{IsCertFound}
use Rattle.job_cert.specs.Answer.{TellsText, FitsPrinted, CertMeans}
use Rattle.job_cert.proofs.pair_clauses.OneText.{text_one_encoding}

-- a text that refutes the clauses shows that none meets them
refuted : (conflicts : ℕ) (cnf : Cnf) (text : List ℕ) → Refutes conflicts cnf text → Unsatisfiable cnf.clauses
refuted conflicts cnf text h = accepted_sound (formula_for cnf) text h.accepted.0 h.accepted.1

-- what a certificate tells
module _ (a b : NetView) (request : Request) where
  tells_text : (text : List ℕ) → IsCertificate a b request (finding.Done text) → TellsText request request.refuted a b text
  tells_text text h = go request.refuted h.made
    where
      go : (t : Bool) → IsMadeBy t request.conflicts h.cnf (finding.Done text) → TellsText request t a b text
      go true m = record { cnf = h.cnf; clauses = h.clauses; refutes = m; equal = h.clauses.tell.equal (refuted request.conflicts h.cnf text m) }
      go false m = record { cnf = h.cnf; clauses = h.clauses; spells = m }

  -- a refutation is accepted over what is printed of the same texts
  fits_printed : (left right : Option (List ℕ)) (text : List ℕ) → IfSome left (λ x. Loads x a) → IfSome right (λ y. Loads y b) → IsCertificate a b request (finding.Done text) → FitsPrinted request.refuted left right request.pair text
  fits_printed left right text l r h = go request.refuted h.made
    where
      go : (t : Bool) → IsMadeBy t request.conflicts h.cnf (finding.Done text) → FitsPrinted t left right request.pair text
      go true m = λ x y c d printed is also lc ld tells.
          (let same = text_one_encoding x y request.pair a b c d h.cnf tells.cnf (if_told left (λ t. Loads t a) x is l) (if_told right (λ t. Loads t b) y also r) lc ld h.clauses tells.clauses in
          let one : formula_for h.cnf ≡ formula_for tells.cnf = ap₂ (λ (n : ℕ) (cs : List (List Literal)). record { variables = n; clauses = cs }) same.variables same.clauses in
          record {
            formula = formula_for tells.cnf;
            spells = tells.spells.1;
            line = m.accepted.0;
            accepted = subst (λ (f : Formula). IsTextVerdict f text (Accepted m.accepted.0)) one m.accepted.1;
          })
      go false m = tt

  told_met : (cnf : Cnf) (t : Bool) → request.refuted ≡ t → IsMadeBy t request.conflicts cnf (finding.Unrefuted unrefuted.Satisfiable) → (request.refuted ≡ true) × CanBeMet cnf.clauses
  told_met cnf true e m = (e, m)
  told_met cnf false e m = absurd m

  told_limit : (cnf : Cnf) (limit : ℕ) (proof : Proof) (t : Bool) → request.refuted ≡ t → IsMadeBy t request.conflicts cnf (finding.Unrefuted (unrefuted.Limit limit proof)) →
      (request.refuted ≡ true) × (limit ≡ request.conflicts) × (proof.cnf ≡ cnf) × IsFruitless cnf.clauses request.conflicts proof.log
  told_limit cnf limit proof true e m = (e, m.0, m.1, m.2)
  told_limit cnf limit proof false e m = absurd m

module _ (request : Request) (left right before now : Option (List ℕ)) where
  done_taken : (f : Finding) → IsCertFound request left right f → status_of f ≡ status.Done → Takes before now (finding_text f) →
      (text : List ℕ) × Takes before now text × OfNets left right (λ a b. TellsText request request.refuted a b text) × FitsPrinted request.refuted left right request.pair text
  done_taken finding.Words h e taken = absurd h
  done_taken (finding.Refused r) h e taken = absurd (cc)
  done_taken (finding.Cyclic side names) h e taken = absurd (cc)
  done_taken (finding.Unpaired side names) h e taken = absurd h
  done_taken (finding.Checked o s) h e taken = absurd h
  done_taken (finding.Done text) h e taken = (
    text,
    taken,
    record { a = h.a; b = h.b; left_loads = h.left_loads; right_loads = h.right_loads; said = tells_text h.a h.b request text h.said },
    fits_printed h.a h.b request left right text h.left_loads h.right_loads h.said,
  )
  done_taken (finding.Generated o report) h e taken = absurd h
  done_taken (finding.Replayed differences) h e taken = absurd h
  done_taken (finding.Undecided side name proof) h e taken = absurd h
  done_taken (finding.Judged j kept text) h e taken = absurd h
  done_taken (finding.Unrefuted unrefuted.Satisfiable) h e taken = absurd (cc)
  done_taken (finding.Unrefuted (unrefuted.Limit limit proof)) h e taken = absurd (cc)

  met_taken : (f : Finding) (proofs : List Proof) → IsCertFound request left right f → status_of f ≡ status.Different → Takes before now (finding_text f) → CertMeans request left right before now proofs status.Different
  met_taken finding.Words proofs h e taken = absurd h
  met_taken (finding.Refused r) proofs h e taken = absurd (cc)
  met_taken (finding.Cyclic side names) proofs h e taken = absurd (cc)
  met_taken (finding.Unpaired side names) proofs h e taken = absurd h
  met_taken (finding.Checked o s) proofs h e taken = absurd h
  met_taken (finding.Done text) proofs h e taken = absurd (cc)
  met_taken (finding.Generated o report) proofs h e taken = absurd h
  met_taken (finding.Replayed differences) proofs h e taken = absurd h
  met_taken (finding.Undecided side name proof) proofs h e taken = absurd h
  met_taken (finding.Judged j kept text) proofs h e taken = absurd h
  met_taken (finding.Unrefuted unrefuted.Satisfiable) proofs h e taken =
      let m = told_met h.a h.b request h.said.cnf request.refuted refl h.said.made in (
        m.0,
        taken,
        record {
          a = h.a;
          b = h.b;
          left_loads = h.left_loads;
          right_loads = h.right_loads;
          said = record { cnf = h.said.cnf; clauses = h.said.clauses; different = h.said.clauses.tell.exactly.0 m.1 };
        },
      )
  met_taken (finding.Unrefuted (unrefuted.Limit limit proof)) proofs h e taken = absurd (cc)

  limit_taken : (f : Finding) (proofs : List Proof) → IsCertFound request left right f → IsWrittenAs before now f proofs status.Limit → CertMeans request left right before now proofs status.Limit
  limit_taken finding.Words proofs h w = absurd h
  limit_taken (finding.Refused r) proofs h w = absurd (let e = w.1 in cc)
  limit_taken (finding.Cyclic side names) proofs h w = absurd (let e = w.1 in cc)
  limit_taken (finding.Unpaired side names) proofs h w = absurd h
  limit_taken (finding.Checked o s) proofs h w = absurd h
  limit_taken (finding.Done text) proofs h w = absurd (let e = w.1 in cc)
  limit_taken (finding.Generated o report) proofs h w = absurd h
  limit_taken (finding.Replayed differences) proofs h w = absurd h
  limit_taken (finding.Undecided side name proof) proofs h w = absurd h
  limit_taken (finding.Judged j kept text) proofs h w = absurd h
  limit_taken (finding.Unrefuted unrefuted.Satisfiable) proofs h w = absurd (let e = w.1 in cc)
  limit_taken (finding.Unrefuted (unrefuted.Limit limit proof)) proofs h w =
      let m = told_limit h.a h.b request h.said.cnf limit proof request.refuted refl h.said.made in (
        m.0,
        subst (λ n. Takes before now (unsettled_text n)) m.1 w.2,
        record {
          a = h.a;
          b = h.b;
          left_loads = h.left_loads;
          right_loads = h.right_loads;
          said = record {
            proof = proof;
            kept = w.0;
            clauses = subst (ArePairClauses h.a h.b request.pair) (sym m.2) h.said.clauses;
            log = subst (λ (c : Cnf). IsFruitless c.clauses request.conflicts proof.log) (sym m.2) m.3;
          };
        },
      )

  -- a certificate has no other status
  no_other : (f : Finding) (name : StatusName) → IsCertFound request left right f → status_of f ≡ name → (status.Refused ≡ name → ⊥) → (status.Cyclic ≡ name → ⊥) → (status.Done ≡ name → ⊥) → (status.Different ≡ name → ⊥) → (status.Limit ≡ name → ⊥) → ⊥
  no_other finding.Words name h e refused cyclic done different limit = h
  no_other (finding.Refused r) name h e refused cyclic done different limit = refused e
  no_other (finding.Cyclic side names) name h e refused cyclic done different limit = cyclic e
  no_other (finding.Unpaired side names) name h e refused cyclic done different limit = h
  no_other (finding.Checked o s) name h e refused cyclic done different limit = h
  no_other (finding.Done text) name h e refused cyclic done different limit = done e
  no_other (finding.Generated o report) name h e refused cyclic done different limit = h
  no_other (finding.Replayed differences) name h e refused cyclic done different limit = h
  no_other (finding.Undecided side latch proof) name h e refused cyclic done different limit = h
  no_other (finding.Judged j kept text) name h e refused cyclic done different limit = h
  no_other (finding.Unrefuted unrefuted.Satisfiable) name h e refused cyclic done different limit = different e
  no_other (finding.Unrefuted (unrefuted.Limit n proof)) name h e refused cyclic done different limit = limit e

  -- what a written finding means
  pub cert_means : (f : Finding) (proofs : List Proof) (name : StatusName) → IsCertFound request left right f → IsWrittenAs before now f proofs name → CertMeans request left right before now proofs name
  cert_means f proofs status.Equal found w = no_other f status.Equal found w.1 (λ e. cc) (λ e. cc) (λ e. cc) (λ e. cc) (λ e. cc)
  cert_means f proofs status.Different found w = met_taken f proofs found w.1 w.2
  cert_means f proofs status.NotShown found w = no_other f status.NotShown found w.1 (λ e. cc) (λ e. cc) (λ e. cc) (λ e. cc) (λ e. cc)
  cert_means f proofs status.Limit found w = limit_taken f proofs found w
  cert_means f proofs status.Refused found w = tt
  cert_means f proofs status.Words found w = tt
  cert_means f proofs status.ReadFault found w = tt
  cert_means f proofs status.WriteFault found w = tt
  cert_means f proofs status.NoMemory found w = tt
  cert_means f proofs status.Cyclic found w = tt
  cert_means f proofs status.Done found w = done_taken f found w.1 w.2
