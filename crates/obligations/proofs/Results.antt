-- One result more: it fits, and the first difference of each kind stays or comes.
use Rattle.std.proofs.Common.{◌≡◌, ◌≢◌, ℕ, ◌+◌, ◌<◌, Bool, true, false, List, [], ◌∷◌, ◌++◌, length, take, slice_get, Option, Some, None, refl, sym, ◌∙◌, ap, subst, arith, inl, inr}
use Rattle.std.specs.Prelude.{◌⊎◌}
use Rattle.std.specs.List.{All, AllZip}
use Rattle.std.proofs.lemmas.List.Elements.{All-nil, All-push}
use Rattle.std.proofs.lemmas.Option.{slice_get_within}
use Rattle.circuit_theory.proofs.Lists.{zip_push, zip_length}
use Rattle.obligations.specs.outcome.sec_base.PairAnswer.{PairAnswer}
use Rattle.obligations.specs.outcome.sec_base.PairAnswer.TheVariants as answer
use Rattle.obligations.specs.outcome.aig.Node.{Node}
use Rattle.obligations.proofs.outcome.aig.Growth.{slice_get-append}
use Rattle.obligations.proofs.outcome.aig.Insert.{push-cases}
use Rattle.swept_queries.proofs.Listed.{All-at}
use Rattle.obligations.specs.declared.outcome.verdict.PairResult.{PairResult}
use Rattle.obligations.specs.declared.obligation.Obligation.{Obligation}
use Rattle.obligations.specs.declared.obligation.Difference.{Difference}
use Rattle.obligations.specs.declared.decision.Decided.{Decided}
use Rattle.obligations.specs.declared.found.Found.{Found}
use Rattle.obligations.specs.declared.found.Found.TheVariants as found
use Rattle.obligations.specs.Found.{IsFound, IsDifferenceOf, differing}
use Rattle.obligations.specs.Decided.{AnswerIs, IsAnswered, NoneIs, IsFirstOf, IsFirst, HaveDecided, IsAnswerOf, first_of, IsPut}
use Rattle.obligations.proofs.Listed.{slice_get-behind}

last-at : {X : Type 0} (xs : List X) (x : X) (n : ℕ) → n ≡ length xs → slice_get (xs ++ x ∷ []) n ≡ Some x
last-at xs x n e = ap (slice_get (xs ++ x ∷ [])) (e ∙ plus-zero (length xs)) ∙ slice_get-behind xs (x ∷ []) 0
  where
    plus-zero : (n : ℕ) → n ≡ n + 0
    plus-zero n = omega arith

module _ (g : List Node) (asked : List Obligation) (wanted : PairAnswer) (o : Obligation) (results : List PairResult) (r : PairResult) where
  -- the first one with the answer stays the first
  first-stays : (d : Difference) → IsFirstOf g asked wanted results d → IsFirstOf g (asked ++ o ∷ []) wanted (results ++ r ∷ []) d
  first-stays d f = record {
    obligation = f.obligation;
    result = f.result;
    asked_at = slice_get-append asked (o ∷ []) d.pair f.obligation f.asked_at;
    result_at = slice_get-append results (r ∷ []) d.pair f.result f.result_at;
    answered = f.answered;
    earlier = λ i s below at. go i s below (push-cases results r i s at);
    differs = f.differs;
  }
    where
      go : (i : ℕ) (s : PairResult) → i < d.pair → (slice_get results i ≡ Some s) ⊎ ((i ≡ length results) × (s ≡ r)) → s.answer ≢ wanted
      go i s below (inl at) = f.earlier i s below at
      go i s below (inr e) = absurd (let h = slice_get_within results d.pair f.result f.result_at in omega (arith, h, below, e.0))

  module _ (long : length asked ≡ length results) where
    -- it comes
    first-comes : (d : Difference) → NoneIs wanted results → r.answer ≡ wanted → d.pair ≡ length results → IsDifferenceOf g o.queries d.query d.bits → IsFirstOf g (asked ++ o ∷ []) wanted (results ++ r ∷ []) d
    first-comes d none answered place differs = record {
      obligation = o;
      result = r;
      asked_at = last-at asked o d.pair (place ∙ sym long);
      result_at = last-at results r d.pair place;
      answered = answered;
      earlier = λ i s below at. go i s below (push-cases results r i s at);
      differs = differs;
    }
      where
        go : (i : ℕ) (s : PairResult) → i < d.pair → (slice_get results i ≡ Some s) ⊎ ((i ≡ length results) × (s ≡ r)) → s.answer ≢ wanted
        go i s below (inl at) = All-at (λ (x : PairResult). x.answer ≢ wanted) results i s at none
        go i s below (inr e) = absurd (omega (arith, below, e.0, place))

    -- none has the answer, still
    first-none : (first : Option Difference) → r.answer ≢ wanted → IsFirst g asked wanted results first → IsFirst g (asked ++ o ∷ []) wanted (results ++ r ∷ []) first
    first-none None apart before = All-push (λ (s : PairResult). s.answer ≢ wanted) results r before apart
    first-none (Some d) apart before = first-stays d before

    -- the first is kept, or this one is taken
    first-kept : (first : Option Difference) (d : Difference) → r.answer ≡ wanted → d.pair ≡ length results → IsDifferenceOf g o.queries d.query d.bits → IsFirst g asked wanted results first →
        IsFirst g (asked ++ o ∷ []) wanted (results ++ r ∷ []) (first_of first (Some d))
    first-kept None d answered place differs before = first-comes d before answered place differs
    first-kept (Some e) d answered place differs before = first-stays e before

    first-same : (first : Option Difference) → first_of first None ≡ first
    first-same None = refl
    first-same (Some d) = refl

-- an answer of what was found
pub answered : (g : List Node) (conflicts : ℕ) (o : Obligation) (decisive : Bool) (pair : ℕ) (f : Found) (r : PairResult) (d : Option Difference) → o.decisive ≡ decisive → IsFound g conflicts o.queries f → IsAnswerOf o.name o.size decisive pair f r d → IsAnswered g conflicts o r
answered g conflicts o decisive pair f r d same is by = go f is by
  where
    Here : PairResult → Type 0
    Here s = IsAnswered g conflicts o s

    differs : (b : Bool) → o.decisive ≡ b → (query : ℕ) (bits : List Bool) → IsDifferenceOf g o.queries query bits → AnswerIs g conflicts o (differing b) None
    differs true e query bits h = (e, record { place = query; bits = bits; is = h })
    differs false e query bits h = (e, record { place = query; bits = bits; is = h })

    go : (k : Found) → IsFound g conflicts o.queries k → IsAnswerOf o.name o.size decisive pair k r d → Here r
    go found.Same h b = subst Here (sym b.0) (record { name_is = refl; size_is = refl; answer_is = h })
    go (found.Differs query bits) h b = subst Here (sym b.0) (record { name_is = refl; size_is = refl; answer_is = differs decisive same query bits h })
    go (found.Limit proof) h b = subst Here (sym b.0) (record { name_is = refl; size_is = refl; answer_is = h })

module _ (g : List Node) (conflicts : ℕ) (asked : List Obligation) (o : Obligation) (old new : Decided) (r : PairResult) (results_are : new.results ≡ old.results ++ r ∷ []) (before : HaveDecided g conflicts asked old) where
  long : length asked ≡ length old.results
  long = zip_length (IsAnswered g conflicts) asked old.results before.results

  abbrev First : PairAnswer → Option Difference → Type 0
  First wanted d = IsFirst g (asked ++ o ∷ []) wanted (old.results ++ r ∷ []) d

  made : IsAnswered g conflicts o r → First answer.Different new.different → First answer.NotShown new.not_shown → HaveDecided g conflicts (asked ++ o ∷ []) new
  made a d n = record {
    results = subst (AllZip (IsAnswered g conflicts) (asked ++ o ∷ [])) (sym results_are) (zip_push (IsAnswered g conflicts) asked old.results o r before.results a);
    different = subst (λ (rs : List PairResult). IsFirst g (asked ++ o ∷ []) answer.Different rs new.different) (sym results_are) d;
    not_shown = subst (λ (rs : List PairResult). IsFirst g (asked ++ o ∷ []) answer.NotShown rs new.not_shown) (sym results_are) n;
  }

  none : (wanted : PairAnswer) (first kept : Option Difference) → r.answer ≢ wanted → kept ≡ first → IsFirst g asked wanted old.results first → First wanted kept
  none wanted first kept apart same h = subst (First wanted) (sym same) (first-none g asked wanted o old.results r long first apart h)

  kept : (wanted : PairAnswer) (first new_first : Option Difference) (d : Difference) → r.answer ≡ wanted → d.pair ≡ length asked → IsDifferenceOf g o.queries d.query d.bits → new_first ≡ first_of first (Some d) → IsFirst g asked wanted old.results first → First wanted new_first
  kept wanted first new_first d is place differs same h = subst (First wanted) (sym same) (first-kept g asked wanted o old.results r long first d is (place ∙ long) differs h)

  unchanged : (first : Option Difference) → first_of first None ≡ first
  unchanged None = refl
  unchanged (Some d) = refl

  quiet : (decisive : Bool) → IsAnswered g conflicts o r → r.answer ≢ answer.Different → r.answer ≢ answer.NotShown → IsPut decisive None old new → HaveDecided g conflicts (asked ++ o ∷ []) new
  quiet true a d n put = made a (none answer.Different old.different new.different d (put.0 ∙ unchanged old.different) before.different) (none answer.NotShown old.not_shown new.not_shown n put.1 before.not_shown)
  quiet false a d n put = made a (none answer.Different old.different new.different d put.0 before.different) (none answer.NotShown old.not_shown new.not_shown n (put.1 ∙ unchanged old.not_shown) before.not_shown)

  loud : (decisive : Bool) → IsAnswered g conflicts o r → r.answer ≡ differing decisive → (d : Difference) → d.pair ≡ length asked → IsDifferenceOf g o.queries d.query d.bits → IsPut decisive (Some d) old new → HaveDecided g conflicts (asked ++ o ∷ []) new
  loud true a is d place differs put =
      made a (kept answer.Different old.different new.different d is place differs put.0 before.different) (none answer.NotShown old.not_shown new.not_shown (λ e. let f : answer.Different ≡ answer.NotShown = sym is ∙ e in cc) put.1 before.not_shown)
  loud false a is d place differs put =
      made a (none answer.Different old.different new.different (λ e. let f : answer.NotShown ≡ answer.Different = sym is ∙ e in cc) put.0 before.different) (kept answer.NotShown old.not_shown new.not_shown d is place differs put.1 before.not_shown)

  -- one obligation more
  pub more : (decisive : Bool) (f : Found) (d : Option Difference) → o.decisive ≡ decisive → IsFound g conflicts o.queries f → IsAnswerOf o.name o.size decisive (length asked) f r d → IsPut decisive d old new → HaveDecided g conflicts (asked ++ o ∷ []) new
  more decisive f d same is by put = go f is by
    where
      own : IsAnswered g conflicts o r
      own = answered g conflicts o decisive (length asked) f r d same is by

      answer_is : (s : PairResult) → r ≡ s → r.answer ≡ s.answer
      answer_is s e = ap (λ (t : PairResult). t.answer) e

      go : (k : Found) → IsFound g conflicts o.queries k → IsAnswerOf o.name o.size decisive (length asked) k r d → HaveDecided g conflicts (asked ++ o ∷ []) new
      go found.Same h b =
          let e : r.answer ≡ answer.Equal = answer_is _ b.0 in
          quiet decisive own (λ k. let z : answer.Equal ≡ answer.Different = sym e ∙ k in cc) (λ k. let z : answer.Equal ≡ answer.NotShown = sym e ∙ k in cc) (subst (λ (x : Option Difference). IsPut decisive x old new) b.1 put)
      go (found.Differs query bits) h b =
          loud decisive own (answer_is _ b.0) (record { pair = length asked; query = query; bits = bits }) refl h (subst (λ (x : Option Difference). IsPut decisive x old new) b.1 put)
      go (found.Limit proof) h b =
          let e : r.answer ≡ answer.Limit = answer_is _ b.0 in
          quiet decisive own (λ k. let z : answer.Limit ≡ answer.Different = sym e ∙ k in cc) (λ k. let z : answer.Limit ≡ answer.NotShown = sym e ∙ k in cc) (subst (λ (x : Option Difference). IsPut decisive x old new) b.1 put)

-- what is put looks at both differences alone
pub put-alike : (decisive : Bool) (d : Option Difference) (results : List PairResult) (old new : Decided) → IsPut decisive d (record { results = results; different = old.different; not_shown = old.not_shown }) new → IsPut decisive d old new
put-alike true d results old new put = put
put-alike false d results old new put = put
