-- What refuses a comparison under an assumption.
use Rattle.std.proofs.Common.{◌≡◌, ℕ, List, refl, Err}
use Rattle.circuit_theory.specs.declared.Side.TheVariants.{A, B}
use Rattle.obligations.specs.declared.obligation.Obligation.{Obligation}
use Rattle.obligations.specs.Asked.{queries_of}
use Rattle.sec_setup.specs.declared.setup.Setup.{Setup}
use Rattle.sec_setup.specs.ports.Pairs.{ArePairsOf}
use Rattle.outcome_fits.specs.Fitting.{IsLight}
use Rattle.assume_queries.specs.declared.assume_sequences.premise.Premise.{Premise}
use Rattle.assume_queries.specs.assume_functions.assume_places.Gathered.{IsOverUnder}
use Rattle.assume_queries.specs.declared.map.UnderError.{UnderError}
use Rattle.assume_queries.specs.declared.map.UnderError.TheVariants as under
use Rattle.plain_asked.specs.declared.error.PlainError.{PlainError}
use Rattle.plain_asked.specs.declared.error.PlainError.TheVariants as plain
use Rattle.plain_asked.specs.declared.functions.Functions.{Functions}
use Rattle.plain_asked.specs.Asked.{AreAsked}
use Rattle.plain_asked.specs.Pairs.{Unfolds}
use Rattle.plain_asked.proofs.Sound.{AreSound}
use Rattle.plain_asked.proofs.Refusals.{refusal_formed}
use Rattle.plain_check.specs.asked_under.plain_asked_under.Formed.{FormedUnder}
use Rattle.plain_check.specs.asked_under.Refusals.{refusal_under}
use Rattle.plain_check.specs.asked_under.plain_asked_under.Refusals.{refusal_of}
use Rattle.plain_check.proofs.asked_under.plain_asked_under.PairPlaces.{too_large}

module _ (s : Setup) (p : Premise) (conflicts : ℕ) where
  -- a circuit is too large
  pub unfolded : (paired : ArePairsOf s.left.now s.right.now s.pairs) (e : PlainError) → Unfolds s.left.now s.right.now s.orders.left s.orders.right s.pairs (Err e) → FormedUnder s p conflicts (Err (refusal_of e))
  unfolded paired (plain.TooLarge A) h = refusal_formed s conflicts paired (plain.TooLarge A) h
  unfolded paired (plain.TooLarge B) h = refusal_formed s conflicts paired (plain.TooLarge B) h
  unfolded paired plain.NoMemory h = tt

  -- or the assumption is
  pub assumed : (f : Functions) (h : AreSound s f) (asked : List Obligation) → AreAsked s f s.pairs asked → IsLight s.left.now → IsLight s.right.now → (e : UnderError) → (e ≡ under.TooLarge → IsOverUnder p.weight f.places (queries_of asked)) →
      FormedUnder s p conflicts (Err (refusal_under e))
  assumed f h asked are left right under.TooLarge over = (left, right, too_large s f h asked are p.weight (over refl))
  assumed f h asked are left right under.NoMemory over = tt
