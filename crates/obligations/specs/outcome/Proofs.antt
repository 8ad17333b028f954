-- The proof of a limit that a comparison met.
use Rattle.std.specs.Prelude.{List, [], ◌∷◌}
use Rattle.pair_decide.specs.declared.query.Proof.{Proof}
use Rattle.obligations.specs.declared.outcome.verdict.LimitAt.{LimitAt}
use Rattle.obligations.specs.declared.outcome.verdict.LimitAt.TheVariants as limit_at
use Rattle.obligations.specs.declared.outcome.verdict.Verdict.{Verdict}
use Rattle.obligations.specs.declared.outcome.verdict.Verdict.TheVariants as verdict

-- the proof of a limit that was met before pairs were asked about
abbrev pub limit_proofs : LimitAt → List Proof
limit_proofs (limit_at.Assume proof) = proof ∷ []
limit_proofs (limit_at.Recover side name proof) = proof ∷ []
limit_proofs (limit_at.Class side name other proof) = proof ∷ []
limit_proofs (limit_at.Pair name) = []

abbrev pub verdict_proofs : Verdict → List Proof
verdict_proofs verdict.Equal = []
verdict_proofs (verdict.Different w) = []
verdict_proofs (verdict.DifferentFrom w) = []
verdict_proofs (verdict.NotShown reason) = []
verdict_proofs (verdict.Limit at) = limit_proofs at
