-- One place more.
use Rattle.std.proofs.Common.{◌∙◌, ◌++◌, ◌∷◌, [], ap, arith}
use Rattle.std.proofs.lemmas.List.{take_all}
use Rattle.flat_net.proofs.TableLemmas.{take-push}
use Rattle.cbf_unfold.proofs.unfold_places.listing.listed.Goals as goal

pub loop-number-preserved : goal.loop-number-preserved
loop-number-preserved c = c.in_ok-push.ensures.items ∙ ap (λ l. l ++ c.pair.result ∷ []) c.loop-number.invariant ∙ take-push _ _ _ c.pair.ensures

pub returns : goal.returns
returns c = c.loop-number.invariant ∙ take_all c.loop-number.number c.args.table.now (omega (arith, c.loop-number-test.false, c.len-number-end.ensures))
