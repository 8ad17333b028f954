-- What is made of the clauses of a pair is its certificate.
use Rattle.std.specs.Prelude.{IsErrAnd}
use Rattle.std.proofs.Common.{◌≡◌, ℕ, ◌≤◌, ◌^◌, Bool, true, false, List, length, sym, subst, arith, Result, Ok, Err}
use Rattle.flat_net.specs.View.{NetView}
use Rattle.pair_decide.specs.declared.cnf_encode.cnf.Cnf.{Cnf}
use Rattle.pair_decide.specs.cnf_encode.Encoding.{IsSmall}
use Rattle.lrat_core.specs.dimacs_text.dimacs_writer.Laws.{AreWritable}
use Rattle.lrat_core.specs.certificate_writer.Texts.{SpellsClauses}
use Rattle.job_cert.specs.pair_clauses.Clauses.{ArePairClauses}
use Rattle.job_cert.specs.declared.pair_clauses.error.CertError.{CertError}
use Rattle.job_base.specs.declared.finding.Finding.{Finding}
use Rattle.job_base.specs.declared.finding.Finding.TheVariants as finding
use Rattle.job_cert.specs.declared.making.Wanted.{Wanted}
use Rattle.job_cert.specs.Made.{IsSearched, IsMadeBy, IsCertificate, wanted_of}

-- the clauses can be written
pub writable : (cnf : Cnf) → IsSmall cnf → length cnf.clauses ≤ 2 ^ 30 → AreWritable cnf.variables cnf.clauses
writable cnf small few = record { few_variables = omega (arith, small.variables); few_clauses = few; range = small.range }

-- what is true of an error is true of the result that it is
pub refused_by : (P : Result Finding CertError → Type 0) (r : Result Finding CertError) (e : CertError) → IsErrAnd r (λ x. x ≡ e) → P (Err e) → P r
refused_by P (Ok x) e h p = absurd h
refused_by P (Err x) e h p = subst (λ (y : CertError). P (Err y)) (sym h) p

module _ (a b : NetView) (w : Wanted) (cnf : Cnf) (clauses : ArePairClauses a b w.pair.now cnf) where
  pub searched : (f : Finding) → w.refuted ≡ true → IsSearched w.conflicts cnf f → IsCertificate a b (wanted_of w) f
  searched f is found = record { cnf = cnf; clauses = clauses; made = subst (λ (t : Bool). IsMadeBy t w.conflicts cnf f) (sym is) found }

  pub spelled : (text : List ℕ) → w.refuted ≡ false → SpellsClauses cnf text → IsCertificate a b (wanted_of w) (finding.Done text)
  spelled text is spells = record { cnf = cnf; clauses = clauses; made = subst (λ (t : Bool). IsMadeBy t w.conflicts cnf (finding.Done text)) (sym is) spells }
