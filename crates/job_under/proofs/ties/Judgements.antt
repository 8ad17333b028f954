-- What is judged of two nets, or why they aren't.
use Rattle.std.specs.Prelude.{IsErrAnd}
use Rattle.std.proofs.Common.{◌≡◌, ℕ, List, sym, subst, Result, Ok, Err}
use Rattle.circuit_theory.specs.Interface.{shared_inputs}
use Rattle.flat_net.specs.View.{NetView, ports_of}
use Rattle.sec_setup.specs.declared.error.SetupError.{SetupError}
use Rattle.sec_setup.specs.declared.error.SetupError.TheVariants as unset
use Rattle.sec_setup.specs.Matching.{InterfacesMatch, InterfaceFails}
use Rattle.assume_queries.specs.declared.assume_sequences.assume_taken.error.TakeError.{TakeError}
use Rattle.assume_queries.specs.declared.assume_sequences.assume_taken.error.TakeError.TheVariants as untaken
use Rattle.assume_queries.specs.assume_sequences.assume_taken.Premises.{IsTaken}
use Rattle.assume_queries.specs.assume_sequences.assume_taken.Taken.{IsAssumed}
use Rattle.induct.specs.declared.induction.InductError.{InductError}
use Rattle.induct.specs.declared.induction.InductError.TheVariants as heavy
use Rattle.induct.specs.Inductions.{IsRefusal}
use Rattle.cycle_search.specs.Refusals.{mismatch_of}
use Rattle.cycle_under.specs.declared.found.UnderError.{UnderError}
use Rattle.cycle_under.specs.Searches.{search_error, untaken_error}
use Rattle.job_under.specs.declared.judging.Judged.{Judged}
use Rattle.job_under.specs.ties.Found.{TiesRefuse}
use Rattle.job_under.specs.ties.Ends.{oversized}

-- what is true of an error is true of the result that it is
pub refused_by : (P : Result Judged UnderError → Type 0) (r : Result Judged UnderError) (e : UnderError) → IsErrAnd r (λ x. x ≡ e) → P (Err e) → P r
refused_by P (Ok x) e h p = absurd h
refused_by P (Err x) e h p = subst (λ (y : UnderError). P (Err y)) (sym h) p

module _ (a b c : NetView) (conflicts : ℕ) where
  pub mismatched : (e : SetupError) → InterfaceFails a b e → TiesRefuse conflicts a b c (search_error (mismatch_of e))
  mismatched (unset.Interface name) h = h
  mismatched (unset.Cyclic side names) h = absurd h
  mismatched (unset.Unpaired side names) h = absurd h
  mismatched unset.NoMemory h = tt

  pub untaken_by : (names : List (List ℕ)) → names ≡ shared_inputs (ports_of a) (ports_of b) → (e : TakeError) → InterfacesMatch a b → IsTaken names c conflicts (Err e) → TiesRefuse conflicts a b c (untaken_error e)
  untaken_by names same e matches h = go e (subst (λ (ns : List (List ℕ)). IsTaken ns c conflicts (Err e)) same h)
    where
      go : (e : TakeError) → IsTaken (shared_inputs (ports_of a) (ports_of b)) c conflicts (Err e) → TiesRefuse conflicts a b c (untaken_error e)
      go (untaken.Fault fault) h = (matches, h)
      go (untaken.Vacuous by) h = (matches, h)
      go untaken.NoMemory h = tt

  pub too_large : (e : InductError) → InterfacesMatch a b → IsAssumed (shared_inputs (ports_of a) (ports_of b)) c → IsRefusal a b e → TiesRefuse conflicts a b c (oversized e)
  too_large (heavy.TooLarge side) matches assumed h = (matches, assumed, h)
  too_large heavy.NoMemory matches assumed h = tt
