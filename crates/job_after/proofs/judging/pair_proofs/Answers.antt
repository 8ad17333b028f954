use Rattle.std.specs.Prelude.{option_to_list}
use Rattle.std.specs.List.{filter_map}
use Rattle.std.proofs.Common.{◌≡◌, List, [], ◌∷◌, ◌++◌, refl, sym, ◌∙◌, ap, Option, Some, None}
use Rattle.std.proofs.lemmas.List.Elements.{filter_map-append}
use Rattle.pair_decide.specs.declared.query.Proof.{Proof}
use Rattle.obligations.specs.declared.outcome.verdict.PairResult.{PairResult}
use Rattle.job_after.proofs.judging.pair_proofs.Goals as goal

-- the proof, if any, of one output
of_one : (p : PairResult) → filter_map (λ (q : PairResult). q.proof) (p ∷ []) ≡ option_to_list p.proof
of_one p = go p.proof refl
  where
    go : (o : Option Proof) → p.proof ≡ o → filter_map (λ (q : PairResult). q.proof) (p ∷ []) ≡ option_to_list p.proof
    go None e = rw e refl
    go (Some x) e = rw e refl

pub loop-pair-preserved : goal.loop-pair-preserved
loop-pair-preserved c =
    c.in_ok-keep_proof.ensures ∙ (ap (λ (ps : List Proof). ps ++ option_to_list c.in-Some.pair.proof) c.loop-pair.invariant
    ∙ (ap (λ (ps : List Proof). filter_map (λ (q : PairResult). q.proof) c.loop-pair.yielded ++ ps) (sym (of_one c.in-Some.pair)) ∙ sym (filter_map-append (λ (q : PairResult). q.proof) c.loop-pair.yielded (c.in-Some.pair ∷ []))))
