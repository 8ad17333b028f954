-- What a signal reads that a statement drives.
use Rattle.std.proofs.Common.{◌≡◌, ◌∙◌, ℕ, List, Option, slice_get, Some, refl, ap}
use Rattle.sec_base.specs.declared.basics.Edge.{Edge}
use Rattle.sec_base.specs.declared.basics.Init.{Init}
use Rattle.elaborate.specs.declared.flat.FlatKind.{FlatKind}
use Rattle.elaborate.specs.declared.flat.FlatKind.TheVariants as kind
use Rattle.elaborate.specs.declared.flat.FlatStatement.{FlatStatement}
use Rattle.flatten.specs.declared.connectivity.source.Source.{Source}
use Rattle.flatten.specs.declared.connectivity.source.Source.TheVariants.{Statement}
use Rattle.flatten.specs.Graph.{quick_reads, reads_in, source_reads}

-- what a signal that a statement drives reads
pub reads_are : (statements : List FlatStatement) (source : Source) (place : ℕ) (s : FlatStatement) → source ≡ Statement place → slice_get statements place ≡ Some s → source_reads statements source ≡ quick_reads s.reads s.kind
reads_are statements source place s e at = ap (source_reads statements) e ∙ ap reads_in at

-- what isn't a latch reads all
pub quick_other : (reads : List ℕ) (k : FlatKind) → ((edge : Option Edge) (control : Option ℕ) (init : Init) → k ≡ kind.Latch edge control init → ⊥) → quick_reads reads k ≡ reads
quick_other reads (kind.Gate model statement) h = refl
quick_other reads (kind.Latch edge control init) h = absurd (h edge control init refl)
quick_other reads kind.Port h = refl
