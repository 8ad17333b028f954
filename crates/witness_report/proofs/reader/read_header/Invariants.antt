use Rattle.std.proofs.Common.{◌≡◌, ◌==◌, ◌<◌, ℕ, List, ◌∷◌, ◌++◌, codes, length, Contains}
use Rattle.std.specs.List.{slice_split}
use Rattle.witness_report.proofs.reader.read_header.Given as goal

abbrev pub invariant-loop-name : goal.invariant-loop-name
invariant-loop-name l = (slice_split (λ b. b == 32) l.line ≡ codes "inputs" ∷ (l.names ++ l.pieces)) × ((name : List ℕ) → Contains l.names name → 0 < length name)

abbrev pub decreases-loop-name : goal.decreases-loop-name
decreases-loop-name l = length l.pieces
