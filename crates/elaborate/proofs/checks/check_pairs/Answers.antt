-- Pair by pair: those before are without a fault, and the rest decides.
use Rattle.std.proofs.Common.{◌+◌, ◌||◌, ℕ, Bool, List, drop, ◌∙◌, ap}
use Rattle.std.proofs.lemmas.Result.{err_from_is_err_and}
use Rattle.base_tables.specs.Table.{is_among}
use Rattle.blif_read.specs.declared.design.Pair.{Pair}
use Rattle.elaborate.specs.Walking.{pairs_fault}
use Rattle.elaborate.proofs.Checked.{map_more, rest_at}
use Rattle.elaborate.proofs.checks.check_pairs.Goals as goal

pub returns-in_err-see_pair-clause-err : goal.returns-in_err-see_pair-clause-err
returns-in_err-see_pair-clause-err c =
    let p = err_from_is_err_and c.from_residual.result c.from_residual.ensures.1 in
    let known : List ℕ → Bool = λ n. is_among c.args.formals.now.inputs n || is_among c.args.formals.now.outputs n in
    let i : ℕ = c.loop-pair.pair-index in
    rw (p.1, p.2) (λ ne.
    c.loop-pair.invariant.rest ∙ ap (pairs_fault known c.loop-pair.seen) (rest_at c.args.pairs.now i c.pair-item.result c.loop-pair-test.true c.pair-item.is)
    ∙ c.in_err-see_pair.ensures.err ne (drop (i + 1) c.args.pairs.now))

pub loop-pair-preserved : goal.loop-pair-preserved
loop-pair-preserved c =
    let known : List ℕ → Bool = λ n. is_among c.args.formals.now.inputs n || is_among c.args.formals.now.outputs n in
    let i : ℕ = c.loop-pair.pair-index in
    record {
      seen_are = map_more (λ (p : Pair). p.formal) c.args.pairs.now i c.pair-item.result c.loop-pair.seen c.see_pair.new.seen c.loop-pair-test.true c.pair-item.is c.loop-pair.invariant.seen_are c.in_ok-see_pair.ensures.seen;
      rest = c.loop-pair.invariant.rest ∙ ap (pairs_fault known c.loop-pair.seen) (rest_at c.args.pairs.now i c.pair-item.result c.loop-pair-test.true c.pair-item.is)
          ∙ c.in_ok-see_pair.ensures.ok (drop (i + 1) c.args.pairs.now);
    }
