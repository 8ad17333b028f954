-- What two calls print of the same files fits together.
use Rattle.std.specs.Prelude.{ℕ, ◌≤◌, true, false, List, length, Option, Some}
use Rattle.sec_base.specs.declared.limits.TheConstants.{MAX_FILE_BYTES}
use Rattle.base_shelves.specs.Outside.{Takes}
use Rattle.pair_decide.specs.declared.query.Proof.{Proof}
use Rattle.job_base.specs.declared.status.StatusName.TheVariants.{Done}
use Rattle.job_cert.specs.Answer.{AcceptsOver, CertMeans}
use Rattle.job_cert.specs.job_lrat.Answer.{IsRefuted}

-- Clauses were printed and a refutation was: this is accepted over those, and so it can be verified where both texts are short enough to be read.
pub record Fit (before now earlier later : Option (List ℕ)) : Type 0 where
  pub printed : List ℕ
  pub refutation : List ℕ
  pub printed_taken : Takes before now printed
  pub refutation_taken : Takes earlier later refutation
  pub accepted : AcceptsOver printed refutation
  pub verified : length printed ≤ MAX_FILE_BYTES → length refutation ≤ MAX_FILE_BYTES → IsRefuted printed refutation

-- Two calls with the same two texts and one name, of which one prints clauses and the other a refutation.
abbrev pub CertificatesFit : Type 0
CertificatesFit = (x y pair : List ℕ) (any conflicts : ℕ) (before now earlier later : Option (List ℕ)) (proofs others : List Proof) →
    CertMeans (record { pair = pair; refuted = false; conflicts = any }) (Some x) (Some y) before now proofs Done →
    CertMeans (record { pair = pair; refuted = true; conflicts = conflicts }) (Some x) (Some y) earlier later others Done → Fit before now earlier later
