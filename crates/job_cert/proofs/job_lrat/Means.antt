-- What the status of the check of a refutation means.
use Rattle.std.specs.Prelude.{IsSomeAnd, IfSome}
use Rattle.std.proofs.Common.{◌≡◌, ℕ, List, refl, sym, ◌∙◌, subst, inl, inr, ◌⊎◌, Option, Some, None, Result, Ok, Err, arith}
use Rattle.base_shelves.specs.Outside.{Takes}
use Rattle.pair_decide.specs.declared.query.Proof.{Proof}
use Rattle.text_numbers.specs.declared.kinds.TextError.{TextError}
use Rattle.text_numbers.specs.declared.kinds.TextError.TheVariants as text_error
use Rattle.text_numbers.specs.declared.kinds.TextKind.{TextKind}
use Rattle.lrat_core.specs.dimacs_text.Dimacs.{formula_of}
use Rattle.lrat_core.specs.dimacs_text.Formulas.{Formula}
use Rattle.lrat_core.specs.Sequences.{Verdict, Accepted, Refused}
use Rattle.lrat_core.specs.lrat_text.Verdicts.{IsTextVerdict}
use Rattle.lrat_core.proofs.lrat_text.Texts.{one_verdict}
use Rattle.job_base.specs.declared.finding.File.TheVariants as file
use Rattle.job_base.specs.declared.finding.LineFault.TheVariants as line_fault
use Rattle.job_base.specs.declared.finding.Refusal.{Refusal}
use Rattle.job_base.specs.declared.finding.Refusal.TheVariants as refusal
use Rattle.job_base.specs.declared.finding.Finding.{Finding}
use Rattle.job_base.specs.declared.finding.Finding.TheVariants as finding
use Rattle.job_base.specs.declared.status.StatusName.{StatusName}
use Rattle.job_base.specs.declared.status.StatusName.TheVariants as status
use Rattle.job_base.specs.Lines.{finding_text}
use Rattle.job_base.specs.Written.{status_of, IsWrittenAs}
use Rattle.job_base.specs.Meaning.{EndsWith}
use Rattle.job_base.proofs.Meaning.{report_means}
use Rattle.job_cert.specs.job_lrat.Texts.{IsLong, Spells, HasClausesFault, HasProofFault}
use Rattle.job_cert.specs.job_lrat.Found.{IsLratRefusal, IsLratFound}
use Rattle.job_cert.specs.job_lrat.Answer.{TellsVerified, LratMeans, IsRefuted, IsLratComplete}

-- what is found is a report or a refusal
lrat_status : (clauses proof : Option (List ℕ)) (f : Finding) → IsLratFound clauses proof f → (status_of f ≡ status.Done) ⊎ ((status_of f ≡ status.Refused) ⊎ (status_of f ≡ status.Limit))
lrat_status clauses proof finding.Words h = absurd h
lrat_status clauses proof (finding.Refused r) h = inr (inl refl)
lrat_status clauses proof (finding.Cyclic side names) h = absurd h
lrat_status clauses proof (finding.Unpaired side names) h = absurd h
lrat_status clauses proof (finding.Checked o s) h = absurd h
lrat_status clauses proof (finding.Done report) h = inl refl
lrat_status clauses proof (finding.Generated o report) h = absurd h
lrat_status clauses proof (finding.Replayed differences) h = absurd h
lrat_status clauses proof (finding.Unrefuted u) h = absurd h
lrat_status clauses proof (finding.Judged j kept text) h = absurd h
lrat_status clauses proof (finding.Undecided side name p) h = absurd h

no_limit : (clauses proof before now : Option (List ℕ)) (f : Finding) (proofs : List Proof) → IsLratFound clauses proof f → IsWrittenAs before now f proofs status.Limit → ⊥
no_limit clauses proof before now finding.Words proofs h w = h
no_limit clauses proof before now (finding.Refused r) proofs h w = let e = w.1 in cc
no_limit clauses proof before now (finding.Cyclic side names) proofs h w = h
no_limit clauses proof before now (finding.Unpaired side names) proofs h w = h
no_limit clauses proof before now (finding.Checked o s) proofs h w = h
no_limit clauses proof before now (finding.Done report) proofs h w = let e = w.1 in cc
no_limit clauses proof before now (finding.Generated o report) proofs h w = h
no_limit clauses proof before now (finding.Replayed differences) proofs h w = h
no_limit clauses proof before now (finding.Unrefuted u) proofs h w = h
no_limit clauses proof before now (finding.Judged j kept text) proofs h w = h
no_limit clauses proof before now (finding.Undecided side name p) proofs h w = h

lrat_taken : (clauses proof before now : Option (List ℕ)) (f : Finding) → IsLratFound clauses proof f → status_of f ≡ status.Done → Takes before now (finding_text f) → TellsVerified clauses proof before now
lrat_taken clauses proof before now finding.Words h e taken = absurd h
lrat_taken clauses proof before now (finding.Refused r) h e taken = absurd (cc)
lrat_taken clauses proof before now (finding.Cyclic side names) h e taken = absurd h
lrat_taken clauses proof before now (finding.Unpaired side names) h e taken = absurd h
lrat_taken clauses proof before now (finding.Checked o s) h e taken = absurd h
lrat_taken clauses proof before now (finding.Done report) h e taken = (h.0, subst (Takes before now) h.1 taken)
lrat_taken clauses proof before now (finding.Generated o report) h e taken = absurd h
lrat_taken clauses proof before now (finding.Replayed differences) h e taken = absurd h
lrat_taken clauses proof before now (finding.Unrefuted u) h e taken = absurd h
lrat_taken clauses proof before now (finding.Judged j kept text) h e taken = absurd h
lrat_taken clauses proof before now (finding.Undecided side name p) h e taken = absurd h

-- what a written finding means
pub lrat_means : (clauses proof before now : Option (List ℕ)) (f : Finding) (proofs : List Proof) (name : StatusName) → IsLratFound clauses proof f → IsWrittenAs before now f proofs name →
    LratMeans clauses proof before now name
lrat_means clauses proof before now f proofs name found w =
    report_means (TellsVerified clauses proof before now) ⊥ before now f proofs name (lrat_status clauses proof f found) (lrat_taken clauses proof before now f found)
    (no_limit clauses proof before now f proofs found) w

told : {X : Type 0} (o : Option X) (P : X → Type 0) (x : X) → o ≡ Some x → IfSome o P → P x
told {X} o P x e h = let Q : Option X → Type 0 = λ p. IfSome p P in subst Q e h

some_and : {X : Type 0} (o : Option X) (P : X → Type 0) → IsSomeAnd o P → (x : X) × (o ≡ Some x) × P x
some_and None P h = absurd h
some_and (Some x) P h = (x, refl, h)

-- clauses that are spelled have no fault, and are one formula
no_fault : (r : Result Formula TextError) (formula : Formula) (e : TextError) → r ≡ Ok formula → r ≡ Err e → ⊥
no_fault r formula e p q = let z : ◌≡◌ {A = Result Formula TextError} (Ok formula) (Err e) = sym p ∙ q in cc

one_formula : (r : Result Formula TextError) (f g : Formula) → r ≡ Ok f → r ≡ Ok g → f ≡ g
one_formula r f g p q = let z : ◌≡◌ {A = Result Formula TextError} (Ok f) (Ok g) = sym p ∙ q in cc

not_refused : (formula : Formula) (text : List ℕ) (n line : ℕ) (kind : TextKind) → IsTextVerdict formula text (Accepted n) → IsTextVerdict formula text (Refused line kind) → ⊥
not_refused formula text n line kind p q = let z : ◌≡◌ {A = Verdict} (Accepted n) (Refused line kind) = one_verdict formula text (Accepted n) (Refused line kind) p q in cc

-- a refutation that is accepted isn't refused
module _ (clauses proof : Option (List ℕ)) (x y : List ℕ) (is : clauses ≡ Some x) (also : proof ≡ Some y) (can : IsRefuted x y) where
  stands : (r : Refusal) → IsLratRefusal clauses proof r → ⊥
  stands (refusal.TooLong file.A) h = let long : IsLong x = told clauses IsLong x is h in omega (arith, can.spells.short)
  stands (refusal.TooLong file.B) h = let long : IsLong y = told proof IsLong y also h.1 in omega (arith, can.refutes.short)
  stands (refusal.TooLong file.C) h = h
  stands (refusal.TooLong file.S) h = h
  stands (refusal.Text file.A line (line_fault.Clauses kind)) h =
      no_fault (formula_of x) can.formula (text_error.At line kind) can.spells.is (told clauses (λ t. HasClausesFault t line kind) x is h).is
  stands (refusal.Text file.B line (line_fault.Clauses kind)) h =
      let spells : Spells x h.formula = told clauses (λ t. Spells t h.formula) x is h.spells in
      let faulty : HasProofFault h.formula y line kind = told proof (λ t. HasProofFault h.formula t line kind) y also h.faulty in
      let same : h.formula ≡ can.formula = one_formula (formula_of x) h.formula can.formula spells.is can.spells.is in
      not_refused can.formula y can.line line kind can.refutes.accepted (subst (λ (f : Formula). IsTextVerdict f y (Refused line kind)) same faulty.refused)
  stands (refusal.Text file.C line (line_fault.Clauses kind)) h = h
  stands (refusal.Text file.S line (line_fault.Clauses kind)) h = h
  stands (refusal.Text file.A line (line_fault.Circuit kind)) h = h
  stands (refusal.Text file.A line line_fault.BadHeader) h = h
  stands (refusal.Text file.A line line_fault.BadRow) h = h
  stands (refusal.Text file.B line (line_fault.Circuit kind)) h = h
  stands (refusal.Text file.B line line_fault.BadHeader) h = h
  stands (refusal.Text file.B line line_fault.BadRow) h = h
  stands (refusal.Text file.C line (line_fault.Circuit kind)) h = h
  stands (refusal.Text file.S line (line_fault.Circuit kind)) h = h
  stands (refusal.Text file.C line line_fault.BadHeader) h = h
  stands (refusal.Text file.S line line_fault.BadHeader) h = h
  stands (refusal.Text file.C line line_fault.BadRow) h = h
  stands (refusal.Text file.S line line_fault.BadRow) h = h
  stands (refusal.Design f fault) h = h
  stands (refusal.Record f place kind) h = h
  stands (refusal.Interface name) h = h
  stands (refusal.TooLarge side) h = h
  stands (refusal.Misfit m) h = h
  stands refusal.TooManyEvents h = h
  stands (refusal.Assume fault) h = h
  stands refusal.Vacuous h = h
  stands (refusal.Pair name) h = h
  stands (refusal.Pairs fault) h = h

  done : (f : Finding) → IsLratFound clauses proof f → EndsWith status.Done (status_of f)
  done finding.Words h = absurd h
  done (finding.Refused r) h = absurd (stands r h)
  done (finding.Cyclic side names) h = absurd h
  done (finding.Unpaired side names) h = absurd h
  done (finding.Checked o s) h = absurd h
  done (finding.Done report) h = inl refl
  done (finding.Generated o report) h = absurd h
  done (finding.Replayed differences) h = absurd h
  done (finding.Unrefuted u) h = absurd h
  done (finding.Judged j kept text) h = absurd h
  done (finding.Undecided side name p) h = absurd h

-- so what is found has the status of a refutation that is accepted
pub lrat_complete : (clauses proof : Option (List ℕ)) (f : Finding) → IsLratFound clauses proof f → IsLratComplete clauses proof (status_of f)
lrat_complete clauses proof f found can =
    let x = some_and clauses (λ t. IsSomeAnd proof (λ y. IsRefuted t y)) can in
    let y = some_and proof (λ t. IsRefuted x.0 t) x.2 in
    done clauses proof x.0 y.0 x.1 y.1 y.2 f found
