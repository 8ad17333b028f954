-- One source more.
use Rattle.std.proofs.Common.{◌∙◌, ℕ, List, Option, [], ◌∷◌, ◌++◌, map, take, sym, ap}
use Rattle.std.proofs.lemmas.List.{take_all, map_more}
use Rattle.flatten.specs.declared.connectivity.source.Source.TheVariants as source
use Rattle.flatten.specs.connectivity.Steps.{source_port}
use Rattle.flatten.proofs.connectivity.sources.ports.Goals as goal

pub loop-source-preserved : goal.loop-source-preserved
loop-source-preserved c =
    let statements = c.args.flat.now.statements in
    let sources = c.args.sources.now in
    let i = c.loop-source.source-index in
    c.in_ok-push.ensures.items ∙ ap (λ (z : List (Option ℕ)). z ++ c.port_from.result ∷ []) c.loop-source.invariant ∙ ap (λ (from : Option ℕ). map (source_port statements) (take i sources) ++ from ∷ []) c.port_from.ensures
    ∙ sym (map_more (source_port statements) sources i source.Open c.loop-source-test.true)

pub returns : goal.returns
returns c = c.loop-source.invariant ∙ ap (map (source_port c.args.flat.now.statements)) (take_all c.loop-source.source-index c.args.sources.now c.loop-source-test.false)
