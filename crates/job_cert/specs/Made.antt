-- What a certificate of two nets is.
use Rattle.std.specs.Prelude.{◌≡◌, ℕ, ◌≤◌, Bool, true, false, List, length, Result, Ok, Err}
use Rattle.flat_net.specs.View.{NetView}
use Rattle.proof_check.specs.declared.derivation.Chain.{Chain}
use Rattle.pair_decide.specs.declared.cnf_encode.cnf.Cnf.{Cnf}
use Rattle.sat_search.specs.Found.{IsFruitless}
use Rattle.lrat_core.specs.certificate_writer.Texts.{SpellsClauses, IsTextOf, IsAcceptedOver}
use Rattle.job_cert.specs.pair_clauses.Clauses.{CanBeMet, ArePairClauses, PairGives}
use Rattle.job_cert.specs.declared.pair_clauses.error.CertError.{CertError}
use Rattle.job_base.specs.declared.finding.Finding.{Finding}
use Rattle.job_base.specs.declared.finding.Finding.TheVariants as finding
use Rattle.job_base.specs.declared.finding.Unrefuted.TheVariants as unrefuted
use Rattle.job_cert.specs.declared.making.Wanted.{Wanted}

-- the name of the outputs, whether their clauses are to be refuted, and the limit of conflicts of the search for that
pub record Request : Type 0 where
  pub pair : List ℕ
  pub refuted : Bool
  pub conflicts : ℕ

abbrev pub wanted_of : Wanted → Request
wanted_of w = record { pair = w.pair.now; refuted = w.refuted; conflicts = w.conflicts }

-- the text refutes the clauses: it is that of a log of no more chains than conflicts are allowed, and accepted over them
pub record Refutes (conflicts : ℕ) (cnf : Cnf) (text : List ℕ) : Type 0 where
  pub log : List Chain
  pub few : length log ≤ conflicts
  pub lines : IsTextOf cnf.clauses log text
  pub accepted : IsAcceptedOver cnf text

-- what a search of the clauses finds: the text of a refutation, that they can be met, or that the limit is met
abbrev pub IsSearched : ℕ → Cnf → Finding → Type 0
IsSearched conflicts cnf (finding.Done text) = Refutes conflicts cnf text
IsSearched conflicts cnf (finding.Unrefuted unrefuted.Satisfiable) = CanBeMet cnf.clauses
IsSearched conflicts cnf (finding.Unrefuted (unrefuted.Limit limit proof)) = (limit ≡ conflicts) × (proof.cnf ≡ cnf) × IsFruitless cnf.clauses conflicts proof.log
IsSearched conflicts cnf other = ⊥

-- the text of the clauses
abbrev pub IsSpelled : Cnf → Finding → Type 0
IsSpelled cnf (finding.Done text) = SpellsClauses cnf text
IsSpelled cnf other = ⊥

-- what is made of the clauses, where they are to be refuted and where not
abbrev pub IsMadeBy : Bool → ℕ → Cnf → Finding → Type 0
IsMadeBy true conflicts cnf f = IsSearched conflicts cnf f
IsMadeBy false conflicts cnf f = IsSpelled cnf f

-- the certificate of the outputs of the name
pub record IsCertificate (a b : NetView) (request : Request) (f : Finding) : Type 0 where
  pub cnf : Cnf
  pub clauses : ArePairClauses a b request.pair cnf
  pub made : IsMadeBy request.refuted request.conflicts cnf f

-- the certificate, or the first refusal
abbrev pub Made : NetView → NetView → Request → Result Finding CertError → Type 0
Made a b request (Ok f) = IsCertificate a b request f
Made a b request (Err e) = PairGives a b request.pair (Err e)
