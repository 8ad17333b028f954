-- Two texts, nets that they load as, the clauses of their output, and what both commands print.
use Rattle.std.specs.Prelude.{◌≡◌, ℕ, Bool, true, false, List, [], Some, codes}
use Rattle.flat_net.specs.View.{NetView}
use Rattle.pair_decide.specs.declared.cnf_encode.cnf.Cnf.{Cnf}
use Rattle.job_base.specs.sec_files.Loading.{Loads}
use Rattle.job_base.specs.declared.status.StatusName.TheVariants.{Done}
use Rattle.job_cert.specs.pair_clauses.Clauses.{ArePairClauses}
use Rattle.job_cert.specs.Made.{Request}
use Rattle.job_cert.specs.Answer.{CertMeans}
use Rattle.pair_texts.specs.design_rows.Texts.{on_and, off_and}
use Rattle.premise_rows.specs.certificate_premises.Fitting.{Fit}
use Rattle.premise_rows.specs.certificate_premises.OneGraph.{on_cover, off_cover, and_by, and_clauses}

-- the seven clauses
abbrev pub printed_clauses : List ℕ
printed_clauses = codes "p cnf 4 7\n-1 0\n2 -4 0\n3 -4 0\n-2 -3 4 0\n-1 0\n4 0\n-4 0\n"

-- the last two of them are resolved
abbrev pub printed_refutation : List ℕ
printed_refutation = codes "8 0 7 6 0\n"

-- the outputs y, with 20,000 conflicts at most
abbrev pub of_output : Bool → Request
of_output refuted = record { pair = codes "y"; refuted = refuted; conflicts = 20000 }

-- what a call says that prints this and nothing else
abbrev pub SaysOfAnds : Bool → List ℕ → Type 0
SaysOfAnds refuted text = CertMeans (of_output refuted) (Some on_and) (Some off_and) (Some []) (Some text) [] Done

-- Two ands by other rows: each text has a net, the outputs of these have clauses, and whichever nets the texts load as, their clauses are
-- the same; one call prints the clauses, the other their refutation, which is accepted over what the first has printed.
pub record CertificatesOfAnds : Type 0 where
  pub left_loads : Loads on_and (and_by on_cover)
  pub right_loads : Loads off_and (and_by off_cover)
  pub clauses : ArePairClauses (and_by on_cover) (and_by off_cover) (codes "y") and_clauses
  pub one : (a b : NetView) (cnf : Cnf) → Loads on_and a → Loads off_and b → ArePairClauses a b (codes "y") cnf → (cnf.variables ≡ 4) × (cnf.clauses ≡ and_clauses.clauses)
  pub printed : SaysOfAnds false printed_clauses
  pub refuted : SaysOfAnds true printed_refutation
  pub fit : Fit (Some []) (Some printed_clauses) (Some []) (Some printed_refutation)
