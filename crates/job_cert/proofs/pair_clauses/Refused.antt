-- What is refused.
use Rattle.std.specs.Prelude.{◌⊎◌, IsErrAnd}
use Rattle.std.proofs.Common.{◌≡◌, ℕ, List, false, refl, sym, subst, inl, inr, Result, Ok, Err}
use Rattle.circuit_theory.specs.declared.Side.TheVariants.{A, B}
use Rattle.flat_net.specs.View.{NetView, circuit_of}
use Rattle.pair_decide.specs.declared.cnf_encode.cnf.Cnf.{Cnf}
use Rattle.sec_setup.specs.declared.cut_points.exposed.Exposure.{Exposure}
use Rattle.sec_setup.specs.declared.ports.pairs.SignalPair.{SignalPair}
use Rattle.plain_asked.specs.Pairs.{Unfolds, right_signals, AreTooLarge}
use Rattle.plain_asked.specs.declared.error.PlainError.{PlainError}
use Rattle.plain_asked.specs.declared.error.PlainError.TheVariants as oversize
use Rattle.plain_asked.proofs.Growing.{over_weaker}
use Rattle.plain_asked.proofs.Refusals.{left_light}
use Rattle.sec_setup.specs.Choosing.{IsChosen}
use Rattle.sec_setup.specs.Cuts.{IsChoice, StandInOrder, AreCutBy}
use Rattle.sec_setup.specs.Matching.{InterfacesMatch}
use Rattle.sec_setup.specs.ports.Pairs.{ArePairsOf, outputs_of}
use Rattle.sec_setup.proofs.Uncut.{uncut}
use Rattle.plain_check.specs.under_base.compare_base.Compared as compared
use Rattle.outcome_fits.proofs.plain_meaning.CutSizes.{cut_over, cut_light}
use Rattle.job_cert.specs.pair_clauses.Clauses.{PairGives, CanBeUnfolded, IsNoOutput, size_refusal_of}
use Rattle.job_cert.specs.declared.pair_clauses.error.CertError.{CertError}
use Rattle.job_cert.specs.declared.pair_clauses.error.CertError.TheVariants.{Compare, Pair}
use Rattle.plain_check.specs.declared.under_base.compare_base.error.CompareError.TheVariants as refused

-- what is true of an error is true of the result that it is
pub refused_by : (P : Result Cnf CertError → Type 0) (r : Result Cnf CertError) (e : CertError) → IsErrAnd r (λ x. x ≡ e) → P (Err e) → P r
refused_by P (Ok x) e h p = absurd h
refused_by P (Err x) e h p = subst (λ (y : CertError). P (Err y)) (sym h) p

-- no output has the name, or there is no memory to say so
pub unnamed_gives : (a b : NetView) (name : List ℕ) (e : CertError) → (e ≡ Pair name) ⊎ (e ≡ Compare refused.NoMemory) → CanBeUnfolded a b × IsNoOutput a name × IsNoOutput b name → PairGives a b name (Err e)
unnamed_gives a b name e (inl named) h = subst (λ (x : CertError). PairGives a b name (Err x)) (sym named) (refl, h.0, h.1, h.2)
unnamed_gives a b name e (inr memory) h = subst (λ (x : CertError). PairGives a b name (Err x)) (sym memory) tt

-- a circuit whose outputs weigh too much is refused as a comparison refuses it
pub unfolding_refused : (a b : NetView) (e : Exposure) (left right : List ℕ) (pairs : List SignalPair) (name : List ℕ) (error : PlainError) → InterfacesMatch a b → IsChosen a b false e → ArePairsOf a b pairs →
    Unfolds a b left right pairs (Err error) → PairGives a b name (Err (Compare (size_refusal_of error)))
unfolding_refused a b e left right pairs name error matches chosen paired = go error
  where
    cut : AreCutBy a b e a b
    cut = uncut a b e chosen.cut_open (chosen.closed refl)

    choice : IsChoice a b false e.names
    choice = record { minimal = chosen.cut_open.minimal; closed = chosen.closed }

    in_order : StandInOrder a e.names
    in_order = record { positions = e.left; in_order = chosen.cut_open.in_order; within = chosen.cut_open.left.within; named = chosen.cut_open.left.named }

    go : (x : PlainError) → Unfolds a b left right pairs (Err x) → PairGives a b name (Err (Compare (size_refusal_of x)))
    go (oversize.TooLarge A) h = (matches, chosen.broken, compared.AreTooLarge.left choice in_order (cut_over e.names (circuit_of a) a cut.left_circuit (subst (AreTooLarge a) paired.left h)))
    go (oversize.TooLarge B) h = (
      matches,
      chosen.broken,
      compared.AreTooLarge.right choice in_order (cut_light e.names (circuit_of a) a cut.left_circuit (left_light a b pairs paired h.0))
          (cut_over e.names (circuit_of b) b cut.right_circuit (over_weaker (circuit_of b) (right_signals pairs) (outputs_of b) 2000000 (λ n. (paired.right n).0) h.1)),
    )
    go oversize.NoMemory h = tt
