-- What signals read, and the lists that the code makes of it.
use Rattle.std.proofs.Common.{◌≡◌, ◌+◌, ◌∙◌, ℕ, List, [], ◌∷◌, ◌++◌, map, take, slice_get, Some, sym, ap}
use Rattle.std.proofs.lemmas.List.{map-append}
use Rattle.base_tables.proofs.TableLemmas.{take-push}
use Rattle.elaborate.specs.declared.flat.FlatStatement.{FlatStatement}
use Rattle.flatten.specs.declared.connectivity.source.Source.{Source}
use Rattle.flatten.specs.Graph.{source_reads}

pub graph_step : (statements : List FlatStatement) (sources : List Source) (n : ℕ) (source : Source) (graph after : List (List ℕ)) (reads : List ℕ) → slice_get sources n ≡ Some source →
    graph ≡ map (source_reads statements) (take n sources) → reads ≡ source_reads statements source → after ≡ graph ++ reads ∷ [] → after ≡ map (source_reads statements) (take (n + 1) sources)
graph_step statements sources n source graph after reads at before is pushed =
    pushed ∙ ap (λ (g : List (List ℕ)). g ++ reads ∷ []) before ∙ ap (λ (r : List ℕ). map (source_reads statements) (take n sources) ++ r ∷ []) is
    ∙ sym (map-append (source_reads statements) (take n sources) (source ∷ [])) ∙ ap (map (source_reads statements)) (take-push sources n source at)
