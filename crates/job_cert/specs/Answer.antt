-- What the status says of a certificate, and when there is one.
use Rattle.std.specs.Prelude.{◌≡◌, ℕ, Bool, true, false, List, [], ◌∷◌, Option, Some, Ok, IsSomeAnd}
use Rattle.circuit_theory.specs.declared.Side.{Side}
use Rattle.circuit_theory.specs.Asked.{HaveEqualFunctions}
use Rattle.base_shelves.specs.Outside.{Takes}
use Rattle.flat_net.specs.View.{NetView, circuit_of}
use Rattle.pair_decide.specs.declared.cnf_encode.cnf.Cnf.{Cnf}
use Rattle.sat_search.specs.Found.{IsFruitless}
use Rattle.pair_decide.specs.declared.query.Proof.{Proof}
use Rattle.plain_check.specs.under_base.compare_base.Outcome.{HaveDifferentFunctions}
use Rattle.sec_setup.specs.Matching.{InterfacesMatch}
use Rattle.sec_setup.specs.Cycles.{AreBroken}
use Rattle.plain_check.specs.under_base.compare_base.Compared.{AreTooLarge}
use Rattle.job_base.specs.sec_files.Loading.{IsAccepted, Loads}
use Rattle.lrat_core.specs.certificate_writer.Texts.{SpellsClauses}
use Rattle.lrat_core.specs.dimacs_text.Dimacs.{formula_of}
use Rattle.lrat_core.specs.dimacs_text.Formulas.{Formula}
use Rattle.lrat_core.specs.lrat_text.Verdicts.{IsTextVerdict}
use Rattle.lrat_core.specs.Sequences.{Accepted}
use Rattle.job_cert.specs.pair_clauses.Clauses.{ArePairClauses, IsOutput}
use Rattle.job_base.specs.declared.status.StatusName.{StatusName}
use Rattle.job_base.specs.declared.status.StatusName.TheVariants as status
use Rattle.job_base.specs.Lines.{satisfiable_text, unsettled_text}
use Rattle.job_base.specs.Meaning.{EndsWith}
use Rattle.job_base.specs.sec_files.job_files.Texts.{OfNets}
use Rattle.job_cert.specs.Made.{Request, Refutes}

-- the text spells clauses that can be met exactly where the functions of the pair differ
pub record TellsClauses (a b : NetView) (pair text : List ℕ) : Type 0 where
  pub cnf : Cnf
  pub clauses : ArePairClauses a b pair cnf
  pub spells : SpellsClauses cnf text

-- the text refutes these clauses with no more chains than conflicts are allowed, and the functions of the pair are equal
pub record TellsEqual (a b : NetView) (pair : List ℕ) (conflicts : ℕ) (text : List ℕ) : Type 0 where
  pub cnf : Cnf
  pub clauses : ArePairClauses a b pair cnf
  pub refutes : Refutes conflicts cnf text
  pub equal : HaveEqualFunctions (circuit_of a) (circuit_of b) clauses.left clauses.right clauses.left_place clauses.right_place

-- the functions of the pair differ
pub record PairDiffers (a b : NetView) (pair : List ℕ) : Type 0 where
  pub cnf : Cnf
  pub clauses : ArePairClauses a b pair cnf
  pub different : HaveDifferentFunctions (circuit_of a) (circuit_of b) clauses.left clauses.right clauses.left_place clauses.right_place

-- The one proof that is kept has the pair's clauses, and a log of exactly as many chains as conflicts are allowed, each of which derives
-- a clause that tells unit propagation something, and none the empty clause.
pub record KeepsLimit (a b : NetView) (pair : List ℕ) (conflicts : ℕ) (proofs : List Proof) : Type 0 where
  pub proof : Proof
  pub kept : proofs ≡ proof ∷ []
  pub clauses : ArePairClauses a b pair proof.cnf
  pub log : IsFruitless proof.cnf.clauses conflicts proof.log

-- what the finished text is, where the clauses are to be refuted and where not
abbrev pub TellsText : Request → Bool → NetView → NetView → List ℕ → Type 0
TellsText request true a b text = TellsEqual a b request.pair request.conflicts text
TellsText request false a b text = TellsClauses a b request.pair text

-- the printed text spells clauses, and the text is accepted as their refutation
pub record AcceptsOver (printed text : List ℕ) : Type 0 where
  pub formula : Formula
  pub spells : formula_of printed ≡ Ok formula
  pub line : ℕ
  pub accepted : IsTextVerdict formula text (Accepted line)

-- A refutation fits what is printed: where both texts are told it is accepted over every text of the pair's clauses, whichever nets of
-- the texts these are of.
abbrev pub FitsPrinted : Bool → Option (List ℕ) → Option (List ℕ) → List ℕ → List ℕ → Type 0
FitsPrinted true left right pair text =
    (x y : List ℕ) (a b : NetView) (printed : List ℕ) → left ≡ Some x → right ≡ Some y → Loads x a → Loads y b → TellsClauses a b pair printed → AcceptsOver printed text
FitsPrinted false left right pair text = Unit {0}

-- What the status says of the nets that the two texts load as, with the proofs and what was written before and is now.
abbrev pub CertMeans : Request → Option (List ℕ) → Option (List ℕ) → Option (List ℕ) → Option (List ℕ) → List Proof → StatusName → Type 0
CertMeans request left right before now proofs status.Equal = ⊥
CertMeans request left right before now proofs status.NotShown = ⊥
CertMeans request left right before now proofs status.Done =
    (text : List ℕ) × Takes before now text × OfNets left right (λ a b. TellsText request request.refuted a b text) × FitsPrinted request.refuted left right request.pair text
CertMeans request left right before now proofs status.Different = (request.refuted ≡ true) × Takes before now satisfiable_text × OfNets left right (λ a b. PairDiffers a b request.pair)
CertMeans request left right before now proofs status.Limit =
    (request.refuted ≡ true) × Takes before now (unsettled_text request.conflicts) × OfNets left right (λ a b. KeepsLimit a b request.pair request.conflicts proofs)
CertMeans request left right before now proofs other = Unit {0}

-- Both texts are accepted, their interfaces match, no latch graph has a cycle, no unfolding is too large, and an output has the name.
pub record AreCertifiable (x y pair : List ℕ) : Type 0 where
  pub left : IsAccepted x
  pub right : IsAccepted y
  pub match : (a b : NetView) → Loads x a → Loads y b → InterfacesMatch a b
  pub broken : (a b : NetView) → Loads x a → Loads y b → AreBroken a b false
  pub light : (a b : NetView) → Loads x a → Loads y b → (side : Side) → AreTooLarge a b false side → ⊥
  pub named : (a b : NetView) → Loads x a → Loads y b → (p : ℕ) × IsOutput (circuit_of a) pair p

-- both texts are told, and there is a certificate
abbrev pub CanCertify : Request → Option (List ℕ) → Option (List ℕ) → Type 0
CanCertify request left right = IsSomeAnd left (λ x. IsSomeAnd right (λ y. AreCertifiable x y request.pair))

-- clauses are written; a refutation is, or it is told why there is none
abbrev pub IsCertAnswer : Bool → StatusName → Type 0
IsCertAnswer false name = EndsWith status.Done name
IsCertAnswer true status.Done = Unit {0}
IsCertAnswer true status.Different = Unit {0}
IsCertAnswer true status.Limit = Unit {0}
IsCertAnswer true status.NoMemory = Unit {0}
IsCertAnswer true other = ⊥

-- where there is a certificate it is written, if no read and no write fails
abbrev pub IsCertComplete : Request → Option (List ℕ) → Option (List ℕ) → StatusName → Type 0
IsCertComplete request left right name = CanCertify request left right → IsCertAnswer request.refuted name
