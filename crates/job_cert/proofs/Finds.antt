-- What the parts of the work on a certificate find.
use Rattle.std.specs.Prelude.{IfSome, IsErrOf}
use Rattle.std.proofs.Common.{◌≡◌, ℕ, ◌≤◌, Bool, true, false, List, [], ◌∷◌, sym, subst, inl, inr, Option, Result, Ok, Err}
use Rattle.circuit_theory.specs.declared.Side.TheVariants.{A, B}
use Rattle.base_shelves.specs.Outside.{Rose}
use Rattle.flat_net.specs.View.{NetView}
use Rattle.pair_decide.specs.declared.cnf_encode.cnf.Cnf.{Cnf}
use Rattle.plain_check.specs.under_base.compare_base.Compared.{Compared}
use Rattle.plain_check.specs.declared.under_base.compare_base.error.CompareError.{CompareError}
use Rattle.plain_check.specs.declared.under_base.compare_base.error.CompareError.TheVariants as compare_error
use Rattle.job_base.specs.sec_files.Loading.{Loads, LoadFails}
use Rattle.job_base.specs.declared.sec_files.loader.LoadError.{LoadError}
use Rattle.job_cert.specs.pair_clauses.Clauses.{plainly}
use Rattle.job_cert.specs.declared.pair_clauses.error.CertError.{CertError}
use Rattle.job_cert.specs.declared.pair_clauses.error.CertError.TheVariants.{Compare, Pair}
use Rattle.job_base.specs.Ends.{EndsBy}
use Rattle.job_base.specs.declared.finding.File.TheVariants as file
use Rattle.job_base.specs.declared.finding.Finding.{Finding}
use Rattle.job_base.specs.declared.finding.Finding.TheVariants as finding
use Rattle.job_base.specs.declared.finding.Stop.{Stop}
use Rattle.job_base.specs.declared.finding.Stop.TheVariants as stop
use Rattle.job_base.specs.sec_files.job_files.Ends.{load_end}
use Rattle.job_base.specs.sec_files.job_files.Reading.{IsLoaded, Held, ReadFailed}
use Rattle.job_base.proofs.sec_files.job_files.Loading.{load_ends, later_fails}
use Rattle.job_base.proofs.sec_files.job_files.Reading.{first_failed, second_failed, is_loaded}
use Rattle.job_cert.specs.Made.{Request, IsMadeBy, IsCertificate, Made}
use Rattle.job_cert.specs.Found.{IsCertFound}
use Rattle.job_cert.specs.Ends.{compare_end, cert_end, CertFound, EndsBeside}

-- a certificate is a text, or tells that the clauses aren't refuted
abbrev NoCertificate : Finding → Type 0
NoCertificate f = (b : Bool) (n : ℕ) (cnf : Cnf) → IsMadeBy b n cnf f → ⊥

no_words : NoCertificate finding.Words
no_words true n cnf h = h
no_words false n cnf h = h

no_refused : (r : _) → NoCertificate (finding.Refused r)
no_refused r true n cnf h = h
no_refused r false n cnf h = h

no_cyclic : (side : _) (names : _) → NoCertificate (finding.Cyclic side names)
no_cyclic side names true n cnf h = h
no_cyclic side names false n cnf h = h

no_unpaired : (side : _) (names : _) → NoCertificate (finding.Unpaired side names)
no_unpaired side names true n cnf h = h
no_unpaired side names false n cnf h = h

no_checked : (o : _) (settings : _) → NoCertificate (finding.Checked o settings)
no_checked o settings true n cnf h = h
no_checked o settings false n cnf h = h

no_generated : (o : _) (report : _) → NoCertificate (finding.Generated o report)
no_generated o report true n cnf h = h
no_generated o report false n cnf h = h

no_replayed : (differences : _) → NoCertificate (finding.Replayed differences)
no_replayed differences true n cnf h = h
no_replayed differences false n cnf h = h

no_undecided : (side : _) (name : _) (proof : _) → NoCertificate (finding.Undecided side name proof)
no_undecided side name proof true n cnf h = h
no_undecided side name proof false n cnf h = h

no_judged : (j : _) (kept : _) (text : _) → NoCertificate (finding.Judged j kept text)
no_judged j kept text true n cnf h = h
no_judged j kept text false n cnf h = h

-- what is found of both nets
module _ (request : Request) (left right : Option (List ℕ)) (failed : Type 0) (a b : NetView) (l : IfSome left (λ x. Loads x a)) (r : IfSome right (λ y. Loads y b)) where
  compare_found : (e : CompareError) → Compared a b plainly (Err e) → EndsBy (IsCertFound request left right) failed (compare_end e)
  compare_found (compare_error.Interface name) h = record { a = a; b = b; left_loads = l; right_loads = r; said = h }
  compare_found (compare_error.Cyclic side names) h = record { a = a; b = b; left_loads = l; right_loads = r; said = h }
  compare_found (compare_error.Unpaired A names) h = absurd (let z : false ≡ true = h.1 in cc)
  compare_found (compare_error.Unpaired B names) h = absurd (let z : false ≡ true = h.1 in cc)
  compare_found (compare_error.TooLarge side) h = record { a = a; b = b; left_loads = l; right_loads = r; said = h }
  compare_found compare_error.TooManyEvents h = absurd h
  compare_found (compare_error.Assume fault) h = absurd h
  compare_found (compare_error.Vacuous by) h = absurd h
  compare_found compare_error.NoMemory h = tt

  certificate_found : (f : Finding) → IsCertificate a b request f → IsCertFound request left right f
  certificate_found finding.Words h = absurd (no_words request.refuted request.conflicts h.cnf h.made)
  certificate_found (finding.Refused x) h = absurd (no_refused x request.refuted request.conflicts h.cnf h.made)
  certificate_found (finding.Cyclic side names) h = absurd (no_cyclic side names request.refuted request.conflicts h.cnf h.made)
  certificate_found (finding.Unpaired side names) h = absurd (no_unpaired side names request.refuted request.conflicts h.cnf h.made)
  certificate_found (finding.Checked o settings) h = absurd (no_checked o settings request.refuted request.conflicts h.cnf h.made)
  certificate_found (finding.Done text) h = record { a = a; b = b; left_loads = l; right_loads = r; said = h }
  certificate_found (finding.Generated o report) h = absurd (no_generated o report request.refuted request.conflicts h.cnf h.made)
  certificate_found (finding.Replayed differences) h = absurd (no_replayed differences request.refuted request.conflicts h.cnf h.made)
  certificate_found (finding.Undecided side name proof) h = absurd (no_undecided side name proof request.refuted request.conflicts h.cnf h.made)
  certificate_found (finding.Judged j kept text) h = absurd (no_judged j kept text request.refuted request.conflicts h.cnf h.made)
  certificate_found (finding.Unrefuted u) h = record { a = a; b = b; left_loads = l; right_loads = r; said = h }

  made_found : (made : Result Finding CertError) → Made a b request made → EndsBy (IsCertFound request left right) failed (cert_end made)
  made_found (Ok f) h = certificate_found f h
  made_found (Err (Compare e)) h = compare_found e h
  made_found (Err (Pair name)) h = record { a = a; b = b; left_loads = l; right_loads = r; said = h }

-- a certificate ends with no read fault
pub no_fault_made : (made : Result Finding CertError) → IsErrOf (cert_end made) stop.ReadFault → ⊥
no_fault_made (Ok f) h = absurd (cc)
no_fault_made (Err (Compare (compare_error.Interface name))) h = absurd (cc)
no_fault_made (Err (Compare (compare_error.Cyclic side names))) h = absurd (cc)
no_fault_made (Err (Compare (compare_error.Unpaired side names))) h = absurd (cc)
no_fault_made (Err (Compare (compare_error.TooLarge side))) h = absurd (cc)
no_fault_made (Err (Compare compare_error.TooManyEvents)) h = absurd (cc)
no_fault_made (Err (Compare (compare_error.Assume fault))) h = absurd (cc)
no_fault_made (Err (Compare (compare_error.Vacuous by))) h = absurd (cc)
no_fault_made (Err (Compare compare_error.NoMemory)) h = absurd (cc)
no_fault_made (Err (Pair name)) h = absurd (cc)

module _ (held : Held) (before now : List ℕ → ℕ) (request : Request) (left right : List ℕ) where
  abbrev Found : Finding → Type 0
  Found = IsCertFound request (held left) (held right)

  abbrev Failed : Type 0
  Failed = ReadFailed held before now (left ∷ right ∷ [])

  -- A's file isn't loaded
  pub left_ends : (error : LoadError) → LoadFails (held left) (Rose (before left) (now left)) error → EndsBy Found Failed (load_end file.A error)
  left_ends error h =
      load_ends Found Failed (Rose (before left) (now left)) (held left) file.A (λ long. long) (λ line kind faulty. faulty) (λ fault unsound. unsound) (λ place kind misread. misread)
      (first_failed held before now left (right ∷ [])) error h

  -- B's isn't, beside A's
  right_ends : IsLoaded (held left) → (error : LoadError) → LoadFails (held right) (Rose (before right) (now right)) error → EndsBy Found Failed (load_end file.B error)
  right_ends l error h =
      load_ends Found Failed (Rose (before right) (now right)) (held right) file.B (λ long. (l, long)) (λ line kind faulty. (l, faulty)) (λ fault unsound. (l, unsound)) (λ place kind misread. (l, misread))
      (second_failed held before now left right [] l) error h

  -- what is found beside A's net is found of both files; what is held and the faults of B's are those of a later time
  pub beside_found : (a : NetView) (later : Option (List ℕ)) (middle : ℕ) (r : Result Finding Stop) → IfSome (held left) (λ x. Loads x a) → later ≡ held right → before right ≤ middle →
      EndsBeside later (Rose middle (now right)) a request r → CertFound held before now request left right r
  beside_found a later middle r l same grew (inl h) =
      subst (λ (e : Result Finding Stop). CertFound held before now request left right e) (sym h.2)
      (right_ends (is_loaded (held left) a l) h.0 (later_fails later (held right) (before right) middle (now right) h.0 same grew h.1))
  beside_found a later middle r l same grew (inr h) =
      subst (λ (e : Result Finding Stop). CertFound held before now request left right e) (sym h.4)
      (made_found request (held left) (held right) Failed a h.0 l (subst (λ (o : Option (List ℕ)). IfSome o (λ y. Loads y h.0)) same h.2) h.1 h.3)
