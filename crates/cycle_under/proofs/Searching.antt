-- What is found cycle after cycle under an assumption is what the search finds.
use Rattle.std.proofs.Common.{◌≡◌, ℕ, ◌+◌, ◌<◌, ◌≤◌, List, map, Option, refl, sym, subst, arith, inl, inr}
use Rattle.std.specs.Prelude.{◌⊎◌}
use Rattle.std.specs.List.{All, AllZip, Contains}
use Rattle.std.proofs.lemmas.List.Elements.{All-contains}
use Rattle.circuit_theory.specs.Asked.{AreEqual}
use Rattle.circuit_theory.specs.declared.Side.{Side}
use Rattle.circuit_theory.proofs.Lists.{at_of, of_at, zip_right}
use Rattle.sec_base.specs.declared.basics.PairAnswer.TheVariants as answer
use Rattle.obligations.specs.declared.outcome.verdict.PairResult.{PairResult}
use Rattle.obligations.proofs.Fits.{equal_fits}
use Rattle.outcome_fits.specs.ResetOutcome.{Numbered}
use Rattle.sec_setup.specs.declared.setup.Setup.{Setup}
use Rattle.sec_setup.specs.ports.Pairs.{NamedPair, places_of}
use Rattle.assume_laws.specs.Assume.{Assumption}
use Rattle.reset_form.specs.declared.reset_functions.bases.Bases.{Bases}
use Rattle.reset_form.specs.declared.reset_asked.findings.ResetVerdict.{ResetVerdict}
use Rattle.reset_form.specs.declared.reset_asked.findings.ResetVerdict.TheVariants as found_verdict
use Rattle.reset_form.specs.reset_asked.Numbers.{numbered}
use Rattle.cycle_search.specs.declared.cycle.InCycle.{InCycle}
use Rattle.cycle_search.specs.declared.found.Searched.{Searched}
use Rattle.cycle_search.specs.declared.found.SearchVerdict.{SearchVerdict}
use Rattle.cycle_search.specs.Depths.{AreDeepUpTo}
use Rattle.cycle_search.specs.Searches.{IsVerdictOf}
use Rattle.cycle_search.proofs.Searching.{deep_all, all_deep}
use Rattle.cycle_under.specs.Cycles.{pair_under, ResultUnder, VerdictUnder, IsFoundUnder}
use Rattle.cycle_under.specs.Searches.{EndsUnder, VerdictFitsUnder, AgreeBeforeUnder, AreFoundUnder}

-- all pairs agree where all are equal
pub all_agree : (c : Assumption) (n : Numbered) (conflicts t : ℕ) (pairs : List (NamedPair ℕ ℕ)) (results : List PairResult) → AllZip (ResultUnder c n conflicts t) pairs results → All (λ (r : PairResult). r.answer ≡ answer.Equal) results →
    (x : NamedPair ℕ ℕ) → Contains pairs x → AreEqual (pair_under c n x.left x.right t)
all_agree c n conflicts t pairs results zip all x h =
    let at = at_of pairs x h in
    let r = zip_right (ResultUnder c n conflicts t) pairs results zip at.0 x at.1 in
    equal_fits _ _ _ r.0.answer r.0.proof r.2.answer_is (All-contains (λ (r : PairResult). r.answer ≡ answer.Equal) results r.0 all (of_at results at.0 r.0 r.1))

module _ (c : Assumption) (s : Setup) (b : Bases) where
  -- each pair agrees in each cycle before this one
  abbrev pub Before : ℕ → Type 0
  Before last = (x : NamedPair ℕ ℕ) → Contains (map places_of s.pairs) x → AgreeBeforeUnder c (numbered s b) x.left x.right last

  pub before_first : Before 0
  before_first x h t low = absurd (omega (arith, low))

  pub before_next : (conflicts last : ℕ) (found : InCycle) → IsFoundUnder c (numbered s b) conflicts last (map places_of s.pairs) found → found.verdict ≡ found_verdict.Equal → Before last → Before (last + 1)
  before_next conflicts last found is equal before x h t low = go (order t last low)
    where
      order : (i j : ℕ) → i < j + 1 → (i < j) ⊎ (i ≡ j)
      order i j h = grind arith

      all : All (λ (r : PairResult). r.answer ≡ answer.Equal) found.pairs
      all = subst (VerdictUnder c (numbered s b) last (map places_of s.pairs) found.pairs) equal is.verdict_is

      go : (t < last) ⊎ (t ≡ last) → AreEqual (pair_under c (numbered s b) x.left x.right t)
      go (inl l) = before x h t l
      go (inr e) = subst (λ (k : ℕ). AreEqual (pair_under c (numbered s b) x.left x.right k)) (sym e) (all_agree c (numbered s b) conflicts last (map places_of s.pairs) found.pairs is.pairs_fit all x h)

  pub searched_is : (weight cycles conflicts last : ℕ) (found : InCycle) (stopped : Option Side) (r : Searched) → last ≤ cycles → IsFoundUnder c (numbered s b) conflicts last (map places_of s.pairs) found → Before last → r.pairs ≡ found.pairs → r.last ≡ last →
      IsVerdictOf s last stopped found.verdict r.verdict → (found.verdict ≡ found_verdict.Equal → (AreDeepUpTo s last → ⊥) → EndsUnder s.left.now s.right.now weight cycles last stopped) →
      AreFoundUnder c weight (numbered s b) s.left.now s.right.now cycles conflicts (map places_of s.pairs) r
  searched_is weight cycles conflicts last found stopped r le is before pairs_are last_is verdict ends = record {
    within = omega (arith, le, last_is);
    before = subst Before (sym last_is) before;
    pairs_fit = subst (λ (k : ℕ). AllZip (ResultUnder c (numbered s b) conflicts k) (map places_of s.pairs) r.pairs) (sym last_is) (subst (AllZip (ResultUnder c (numbered s b) conflicts last) (map places_of s.pairs)) (sym pairs_are) is.pairs_fit);
    verdict_is = subst (λ (k : ℕ). VerdictFitsUnder c weight (numbered s b) s.left.now s.right.now cycles k (map places_of s.pairs) r.pairs r.verdict) (sym last_is) (subst (λ (rs : List PairResult). VerdictFitsUnder c weight (numbered s b) s.left.now s.right.now cycles last (map places_of s.pairs) rs r.verdict) (sym pairs_are) (go found.verdict refl is.verdict_is verdict));
  }
    where
      Fits : SearchVerdict → Type 0
      Fits v = VerdictFitsUnder c weight (numbered s b) s.left.now s.right.now cycles last (map places_of s.pairs) found.pairs v

      go : (v : ResetVerdict) → found.verdict ≡ v → VerdictUnder c (numbered s b) last (map places_of s.pairs) found.pairs v → IsVerdictOf s last stopped v r.verdict → Fits r.verdict
      go found_verdict.Equal e all (inl h) = subst Fits (sym h.0) (all, deep_all s b last h.1)
      go found_verdict.Equal e all (inr h) = subst Fits (sym h.0) (all, (λ k. h.1 (all_deep s b last k)), ends e h.1)
      go (found_verdict.Different w) e d is = subst Fits (sym is) d
      go (found_verdict.Limit name) e l is = subst Fits (sym is) l
