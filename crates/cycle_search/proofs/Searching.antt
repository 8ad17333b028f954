-- What is found cycle after cycle is what the search finds.
use Rattle.std.proofs.Common.{◌≡◌, ℕ, ◌+◌, ◌<◌, ◌≤◌, max, List, map, Option, refl, sym, subst, arith, inl, inr}
use Rattle.std.specs.Prelude.{◌⊎◌}
use Rattle.std.specs.List.{All, AllZip, Contains}
use Rattle.std.proofs.lemmas.List.Elements.{All-contains}
use Rattle.circuit_theory.specs.declared.Side.{Side}
use Rattle.circuit_theory.specs.Fits.{IsPairDepth}
use Rattle.circuit_theory.proofs.Lists.{Contains-map, Contains-map_from, at_of, of_at, zip_right}
use Rattle.flat_net.specs.View.{circuit_of}
use Rattle.sec_base.specs.declared.basics.PairAnswer.TheVariants as answer
use Rattle.obligations.specs.declared.outcome.verdict.PairResult.{PairResult}
use Rattle.outcome_fits.specs.ResetOutcome.{Numbered, AgreeAt, AgreeBefore}
use Rattle.sec_setup.specs.declared.setup.Setup.{Setup}
use Rattle.sec_setup.specs.ports.Pairs.{NamedPair, places_of}
use Rattle.reset_form.specs.declared.reset_functions.bases.Bases.{Bases}
use Rattle.reset_form.specs.declared.reset_asked.findings.ResetVerdict.{ResetVerdict}
use Rattle.reset_form.specs.declared.reset_asked.findings.ResetVerdict.TheVariants as found_verdict
use Rattle.reset_form.specs.reset_asked.Numbers.{numbered}
use Rattle.cycle_search.specs.declared.cycle.InCycle.{InCycle}
use Rattle.cycle_search.specs.declared.found.Searched.{Searched}
use Rattle.obligations.proofs.Fits.{equal_fits}
use Rattle.cycle_search.specs.Cycles.{ResultIn, VerdictIn, IsFoundIn}
use Rattle.cycle_search.specs.Depths.{AreDeepUpTo}
use Rattle.cycle_search.specs.Searches.{HaveDepthsUpTo, EndsAt, VerdictFits, AreFoundUpTo, IsVerdictOf}

-- all pairs agree where all are equal
pub all_agree : (n : Numbered) (conflicts t : ℕ) (pairs : List (NamedPair ℕ ℕ)) (results : List PairResult) → AllZip (ResultIn n conflicts t) pairs results → All (λ (r : PairResult). r.answer ≡ answer.Equal) results →
    (x : NamedPair ℕ ℕ) → Contains pairs x → AgreeAt n x.left x.right t
all_agree n conflicts t pairs results zip all x h =
    let at = at_of pairs x h in
    let r = zip_right (ResultIn n conflicts t) pairs results zip at.0 x at.1 in
    equal_fits _ _ _ r.0.answer r.0.proof r.2.answer_is (All-contains (λ (r : PairResult). r.answer ≡ answer.Equal) results r.0 all (of_at results at.0 r.0 r.1))

module _ (s : Setup) (b : Bases) where
  -- each pair agrees in each cycle before this one
  abbrev pub Before : ℕ → Type 0
  Before last = (x : NamedPair ℕ ℕ) → Contains (map places_of s.pairs) x → AgreeBefore (numbered s b) x.left x.right last

  pub before_first : Before 0
  before_first x h t low = absurd (omega (arith, low))

  pub before_next : (conflicts last : ℕ) (found : InCycle) → IsFoundIn (numbered s b) conflicts last (map places_of s.pairs) found → found.verdict ≡ found_verdict.Equal → Before last → Before (last + 1)
  before_next conflicts last found is equal before x h t low = go (order t last low)
    where
      order : (i j : ℕ) → i < j + 1 → (i < j) ⊎ (i ≡ j)
      order i j h = grind arith

      all : All (λ (r : PairResult). r.answer ≡ answer.Equal) found.pairs
      all = subst (VerdictIn (numbered s b) last (map places_of s.pairs) found.pairs) equal is.verdict_is

      go : (t < last) ⊎ (t ≡ last) → AgreeAt (numbered s b) x.left x.right t
      go (inl l) = before x h t l
      go (inr e) = subst (AgreeAt (numbered s b) x.left x.right) (sym e) (all_agree (numbered s b) conflicts last (map places_of s.pairs) found.pairs is.pairs_fit all x h)

  -- the depths of both sides are those of the pairs
  pub deep_all : (cycle : ℕ) → AreDeepUpTo s cycle → HaveDepthsUpTo (numbered s b) (map places_of s.pairs) cycle
  deep_all cycle deep x h =
      let k = Contains-map_from places_of s.pairs x h in
      let d = deep k.0 k.1 in
      subst (λ (z : NamedPair ℕ ℕ). (e : ℕ) × IsPairDepth (circuit_of s.left.now) (circuit_of s.right.now) z.left z.right e × (e ≤ cycle)) k.2
      (max d.0.0 d.1.0, record { left = d.0.0; right = d.1.0; left_is = d.0.1; right_is = d.1.1; greater = refl }, omega (arith, d.0.2, d.1.2))

  pub all_deep : (cycle : ℕ) → HaveDepthsUpTo (numbered s b) (map places_of s.pairs) cycle → AreDeepUpTo s cycle
  all_deep cycle h y k =
      let d = h (places_of y) (Contains-map places_of s.pairs y k) in
      let e = d.1.greater in
      ((d.1.left, d.1.left_is, omega (arith, e, d.2)), (d.1.right, d.1.right_is, omega (arith, e, d.2)))

  pub searched_is : (cycles conflicts last : ℕ) (found : InCycle) (stopped : Option Side) (r : Searched) → last ≤ cycles → IsFoundIn (numbered s b) conflicts last (map places_of s.pairs) found → Before last → r.pairs ≡ found.pairs → r.last ≡ last →
      IsVerdictOf s last stopped found.verdict r.verdict → (found.verdict ≡ found_verdict.Equal → (AreDeepUpTo s last → ⊥) → EndsAt s.left.now s.right.now cycles last stopped) →
      AreFoundUpTo (numbered s b) s.left.now s.right.now cycles conflicts (map places_of s.pairs) r
  searched_is cycles conflicts last found stopped r le is before pairs_are last_is verdict ends = record {
    within = omega (arith, le, last_is);
    before = subst Before (sym last_is) before;
    pairs_fit = subst (λ (k : ℕ). AllZip (ResultIn (numbered s b) conflicts k) (map places_of s.pairs) r.pairs) (sym last_is) (subst (AllZip (ResultIn (numbered s b) conflicts last) (map places_of s.pairs)) (sym pairs_are) is.pairs_fit);
    verdict_is = subst (λ (k : ℕ). VerdictFits (numbered s b) s.left.now s.right.now cycles k (map places_of s.pairs) r.pairs r.verdict) (sym last_is) (subst (λ (rs : List PairResult). VerdictFits (numbered s b) s.left.now s.right.now cycles last (map places_of s.pairs) rs r.verdict) (sym pairs_are) (go found.verdict refl is.verdict_is verdict));
  }
    where
      go : (v : ResetVerdict) → found.verdict ≡ v → VerdictIn (numbered s b) last (map places_of s.pairs) found.pairs v → IsVerdictOf s last stopped v r.verdict → VerdictFits (numbered s b) s.left.now s.right.now cycles last (map places_of s.pairs) found.pairs r.verdict
      go found_verdict.Equal e all (inl h) = subst (VerdictFits (numbered s b) s.left.now s.right.now cycles last (map places_of s.pairs) found.pairs) (sym h.0) (all, deep_all last h.1)
      go found_verdict.Equal e all (inr h) = subst (VerdictFits (numbered s b) s.left.now s.right.now cycles last (map places_of s.pairs) found.pairs) (sym h.0) (all, (λ k. h.1 (all_deep last k)), ends e h.1)
      go (found_verdict.Different w) e d is = subst (VerdictFits (numbered s b) s.left.now s.right.now cycles last (map places_of s.pairs) found.pairs) (sym is) d
      go (found_verdict.Limit name) e l is = subst (VerdictFits (numbered s b) s.left.now s.right.now cycles last (map places_of s.pairs) found.pairs) (sym is) l
