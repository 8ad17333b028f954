-- What is true of three files where their comparison by ties of signals finds what it does.
use Rattle.std.specs.Prelude.{◌≡◌, ℕ, List, Option, Some, Err}
use Rattle.circuit_theory.specs.Interface.{first_mismatch, shared_inputs}
use Rattle.flat_net.specs.View.{NetView, ports_of}
use Rattle.sec_setup.specs.Matching.{InterfacesMatch}
use Rattle.assume_queries.specs.assume_sequences.assume_taken.Taken.{IsAssumed, IsFirstFault, IsVacuousBy}
use Rattle.induct.specs.declared.induction.InductError.TheVariants as heavy
use Rattle.induct.specs.Inductions.{IsRefusal}
use Rattle.job_base.specs.declared.finding.Finding.{Finding}
use Rattle.cycle_under.specs.declared.found.UnderError.{UnderError}
use Rattle.cycle_under.specs.declared.found.UnderError.TheVariants as under
use Rattle.job_under.specs.Found.{IsFoundBy}
use Rattle.job_under.specs.ties.Judged.{AreJudged}

-- The first refusal of the nets: the interface; C's first fault; that no inputs meet C; A's size, B's.
abbrev pub TiesRefuse : ℕ → NetView → NetView → NetView → UnderError → Type 0
TiesRefuse conflicts a b c (under.Interface name) = first_mismatch (ports_of a) (ports_of b) ≡ Some name
TiesRefuse conflicts a b c (under.Assume fault) = InterfacesMatch a b × IsFirstFault (shared_inputs (ports_of a) (ports_of b)) c fault
TiesRefuse conflicts a b c (under.Vacuous by) = InterfacesMatch a b × IsVacuousBy (shared_inputs (ports_of a) (ports_of b)) c conflicts by
TiesRefuse conflicts a b c (under.TooLarge side) = InterfacesMatch a b × IsAssumed (shared_inputs (ports_of a) (ports_of b)) c × IsRefusal a b (heavy.TooLarge side)
TiesRefuse conflicts a b c under.NoMemory = Unit {0}

-- what is found of three files
abbrev pub AreTiesFound : ℕ → Option (List ℕ) → Option (List ℕ) → Option (List ℕ) → Finding → Type 0
AreTiesFound conflicts left right assumed f = IsFoundBy (TiesRefuse conflicts) (AreJudged conflicts) left right assumed f
