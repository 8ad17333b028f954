-- What the parts of the check find.
use Rattle.std.specs.Prelude.{IfSome, IfOk}
use Rattle.std.proofs.Common.{◌≡◌, ℕ, ◌≤◌, List, [], ◌∷◌, length, subst, Option, Some, None, Result, Ok, Err, arith}
use Rattle.proof_check.specs.Clauses.{Unsatisfiable}
use Rattle.base_shelves.specs.Outside.{Rose}
use Rattle.sec_base.specs.declared.limits.TheConstants.{MAX_FILE_BYTES}
use Rattle.sec_base.specs.NoMemory.{NoMemory}
use Rattle.base_shelves.specs.declared.whole_file.FetchError.TheVariants as fetch_error
use Rattle.text_numbers.specs.Answers.{IsGiven}
use Rattle.text_numbers.specs.declared.kinds.TextError.{TextError}
use Rattle.text_numbers.specs.declared.kinds.TextError.TheVariants as text_error
use Rattle.lrat_core.specs.dimacs_text.Dimacs.{formula_of}
use Rattle.lrat_core.specs.dimacs_text.Formulas.{Formula}
use Rattle.lrat_core.specs.lrat_text.Verdicts.{IsChecked}
use Rattle.job_base.specs.declared.finding.File.TheVariants as file
use Rattle.job_base.specs.Ends.{EndsBy}
use Rattle.job_base.proofs.Reading.{first_read_failed, second_read_failed}
use Rattle.job_cert.specs.job_lrat.Texts.{IsLong, Spells, Refutes, HasProofFault, ClausesFail, ProofFails}
use Rattle.job_cert.specs.job_lrat.Found.{AreSpelled, IsLratFound, verified_text}
use Rattle.job_cert.specs.job_lrat.Ends.{LratFound, text_end, verified_end}
use Rattle.job_cert.specs.declared.job_lrat.loading.TextLoadError.{TextLoadError}
use Rattle.job_cert.specs.declared.job_lrat.loading.TextLoadError.TheVariants as error

-- a text that isn't clauses, or is no refutation
pub clauses_fail : (text : List ℕ) (e : TextError) → length text ≤ MAX_FILE_BYTES → IsGiven (formula_of text) (Err e) → ClausesFail (Some text) ⊥ (error.Read e)
clauses_fail text (text_error.At line kind) short h = record { short = short; is = h }
clauses_fail text text_error.NoMemory short h = tt

pub proof_fails : (formula : Formula) (text : List ℕ) (e : TextError) → length text ≤ MAX_FILE_BYTES → IsChecked formula text (Err e) → ProofFails formula (Some text) ⊥ (error.Read e)
proof_fails formula text (text_error.At line kind) short h = record { short = short; refused = h }
proof_fails formula text text_error.NoMemory short h = tt

-- a count that rose from a later value rose from an earlier one
rose_before : (a b c : ℕ) → a ≤ b → Rose b c → Rose a c
rose_before a b c h r = omega arith

pub are_spelled : (clauses : Option (List ℕ)) (formula : Formula) → IfSome clauses (λ x. Spells x formula) → AreSpelled clauses
are_spelled None formula h = tt
are_spelled (Some x) formula h = (formula, h)

-- the clauses aren't loaded
pub clauses_end : (held : List ℕ → Option (List ℕ)) (before now : List ℕ → ℕ) (clauses proof : List ℕ) (e : TextLoadError) → ClausesFail (held clauses) (Rose (before clauses) (now clauses)) e →
    LratFound held before now clauses proof (text_end file.A e)
clauses_end held before now clauses proof (error.Fetch fetch_error.Failed) h = first_read_failed AreSpelled held before now clauses (proof ∷ []) h
clauses_end held before now clauses proof (error.Fetch fetch_error.TooLong) h = h
clauses_end held before now clauses proof (error.Fetch fetch_error.NoMemory) h = tt
clauses_end held before now clauses proof (error.Read (text_error.At line kind)) h = h
clauses_end held before now clauses proof (error.Read text_error.NoMemory) h = tt

-- the refutation isn't; what is held of it and its faults are those of a later time
pub proof_end : (held : List ℕ → Option (List ℕ)) (before now : List ℕ → ℕ) (clauses proof : List ℕ) (formula : Formula) (later : Option (List ℕ)) (middle : ℕ) (e : TextLoadError) →
    IfSome (held clauses) (λ x. Spells x formula) → later ≡ held proof → before proof ≤ middle → ProofFails formula later (Rose middle (now proof)) e → LratFound held before now clauses proof (text_end file.B e)
proof_end held before now clauses proof formula later middle (error.Fetch fetch_error.Failed) spells same grew h =
    second_read_failed AreSpelled held before now clauses proof [] (are_spelled (held clauses) formula spells) (rose_before (before proof) middle (now proof) grew h)
proof_end held before now clauses proof formula later middle (error.Fetch fetch_error.TooLong) spells same grew h =
    (are_spelled (held clauses) formula spells, subst (λ (o : Option (List ℕ)). IfSome o IsLong) same h)
proof_end held before now clauses proof formula later middle (error.Fetch fetch_error.NoMemory) spells same grew h = tt
proof_end held before now clauses proof formula later middle (error.Read (text_error.At line kind)) spells same grew h =
    record { formula = formula; spells = spells; faulty = subst (λ (o : Option (List ℕ)). IfSome o (λ y. HasProofFault formula y line kind)) same h }
proof_end held before now clauses proof formula later middle (error.Read text_error.NoMemory) spells same grew h = tt

-- the refutation is accepted
pub verified_ends : (clauses proof : Option (List ℕ)) (failed : Type 0) (formula : Formula) (line : ℕ) (made : Result (List ℕ) NoMemory) → IfSome clauses (λ x. Spells x formula) →
    IfSome proof (λ y. Refutes formula y line) → Unsatisfiable formula.clauses → IfOk made (λ text. text ≡ verified_text) → EndsBy (IsLratFound clauses proof) failed (verified_end made)
verified_ends clauses proof failed formula line (Ok text) spells accepted refuted is = (record { formula = formula; spells = spells; line = line; accepted = accepted; refuted = refuted }, is)
verified_ends clauses proof failed formula line (Err e) spells accepted refuted is = tt
