-- One literal more.
use Rattle.std.proofs.Common.{◌≡◌, ◌∙◌, ◌++◌, ◌∷◌, [], ℕ, List, replicate, ap, arith}
use Rattle.std.proofs.lemmas.List.{replicate_more}
use Rattle.aiger_read.proofs.aiger_file.aiger_graph.graph.no_reads.Goals as goal

pub loop-place-preserved : goal.loop-place-preserved
loop-place-preserved c =
    let none : List ℕ = [] in
    c.in_ok-push.ensures.items ∙ (ap (λ (y : List ℕ). c.loop-place.graph.items ++ y ∷ []) c.new.ensures ∙ (ap (λ (g : List (List ℕ)). g ++ none ∷ []) c.loop-place.invariant ∙ replicate_more c.loop-place.place none))

pub returns : goal.returns
returns c =
    let same : c.loop-place.place ≡ c.args.size = omega (arith, c.loop-place-test.false, c.loop-place.auto.place-end) in
    let none : List ℕ = [] in
    c.loop-place.invariant ∙ ap (λ (n : ℕ). replicate n none) same
