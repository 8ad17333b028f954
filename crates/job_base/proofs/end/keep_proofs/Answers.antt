use Rattle.std.specs.Prelude.{option_to_list}
use Rattle.std.specs.List.{filter_map}
use Rattle.std.proofs.Common.{◌≡◌, List, [], ◌∷◌, ◌++◌, refl, sym, ◌∙◌, ap, Option, Some, None}
use Rattle.std.proofs.lemmas.List.{append_assoc}
use Rattle.std.proofs.lemmas.List.Elements.{filter_map-append}
use Rattle.obligations.specs.outcome.pair_decide.Proof.{Proof}
use Rattle.obligations.specs.declared.outcome.verdict.PairResult.{PairResult}
use Rattle.job_base.proofs.end.keep_proofs.Goals as goal

abbrev own : PairResult → Option Proof
own r = r.proof

-- the proof, if any, of one pair
of_one : (r : PairResult) → filter_map own (r ∷ []) ≡ option_to_list r.proof
of_one r = go r.proof refl
  where
    go : (o : Option Proof) → r.proof ≡ o → filter_map own (r ∷ []) ≡ option_to_list r.proof
    go None e = rw e refl
    go (Some x) e = rw e refl

-- the proofs of more pairs
one_more : (front : List Proof) (rs : List PairResult) (r : PairResult) → (front ++ filter_map own rs) ++ option_to_list r.proof ≡ front ++ filter_map own (rs ++ r ∷ [])
one_more front rs r =
    append_assoc front (filter_map own rs) (option_to_list r.proof)
    ∙ ap (λ (ps : List Proof). front ++ ps) (ap (λ (ps : List Proof). filter_map own rs ++ ps) (sym (of_one r)) ∙ sym (filter_map-append own rs (r ∷ [])))

pub loop-pair-preserved : goal.loop-pair-preserved
loop-pair-preserved c =
    c.in_ok-keep_proof.ensures ∙ (ap (λ (ps : List Proof). ps ++ option_to_list c.in-Some.pair.proof) c.loop-pair.invariant ∙ one_more _ c.loop-pair.yielded c.in-Some.pair)
