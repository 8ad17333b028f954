use Rattle.std.proofs.Common.{◌≡◌}
use Rattle.std.proofs.lemmas.List.Elements.{All-nil}
use Rattle.sec_setup.specs.declared.ports.pairs.SignalPair.{SignalPair}
use Rattle.witness_report.specs.declared.witness.PairName.TheVariants.{Output}
use Rattle.job_cert.proofs.pair_clauses.Places.{named_at, one_further, all_other}
use Rattle.job_cert.proofs.pair_clauses.named.place_of.Goals as goal

pub loop-place-init : goal.loop-place-init
loop-place-init c = All-nil (λ (p : SignalPair). p.name ≡ Output c.args.name.now → ⊥)

pub returns-then-is_output : goal.returns-then-is_output
returns-then-is_output c =
    named_at c.args.pairs.now c.args.name.now c.loop-place.place c.index-pairs-place.result c.loop-place-test.true c.index-pairs-place.is (c.is_output.ensures.0 c.if-is_output.true)

pub loop-place-preserved : goal.loop-place-preserved
loop-place-preserved c =
    one_further c.args.pairs.now c.args.name.now c.loop-place.place c.index-pairs-place.result c.is_output.result c.loop-place-test.true c.index-pairs-place.is c.is_output.ensures.1 c.if-is_output.false c.loop-place.invariant

pub returns : goal.returns
returns c = all_other c.args.pairs.now c.args.name.now c.loop-place.place c.loop-place-test.false c.loop-place.invariant
