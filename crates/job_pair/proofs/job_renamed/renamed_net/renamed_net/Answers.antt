use Rattle.std.specs.Prelude.{IfErr, IsErrAnd, Result}
use Rattle.std.proofs.Common.{◌≡◌, ℕ, List, sym, subst, Ok, Err}
use Rattle.flat_net.specs.View.{NetView}
use Rattle.net_names.specs.declared.latch_pairs.LatchPair.{LatchPair}
use Rattle.job_pair.specs.declared.job_renamed.renamed_net.PairsStop.{PairsStop}
use Rattle.job_pair.specs.job_renamed.Texts.{PairsFail, SaysPairs, rename_stop}
use Rattle.job_pair.proofs.job_renamed.Faults.{rename_fails}
use Rattle.job_pair.proofs.job_renamed.renamed_net.renamed_net.Goals as goal

fails_by : {T : Type 0} (text : List ℕ) (a b : NetView) (r : Result T PairsStop) (error : PairsStop) → IsErrAnd r (λ x. x ≡ error) → PairsFail text a b error → IfErr r (PairsFail text a b)
fails_by text a b (Ok x) error h p = absurd h
fails_by text a b (Err x) error h p = subst (PairsFail text a b) (sym h) p

pub returns-in_err-rename_latches-clause-err : goal.returns-in_err-rename_latches-clause-err
returns-in_err-rename_latches-clause-err c =
    let text = c.args.text.now in
    let a = c.args.a.now in
    let b = c.args.b.now in
    let says = subst (λ (ps : List LatchPair). SaysPairs text ps) (sym c.in_ok-pairs.ensures.ok) c.in_ok-read_pairs.ensures.ok in
    let error = c.in_err-rename_latches.field-0.0 in
    fails_by text a b c.from_residual-in_err-rename_latches.result (rename_stop error) c.from_residual-in_err-rename_latches.ensures.1 (rename_fails text a b c.in_ok-pairs.pairs says error c.in_err-rename_latches.ensures.err)
