-- What follows for the answers of the plain form.
use Rattle.std.specs.Prelude.{◌≡◌, ℕ, Bool, List}
use Rattle.std.specs.List.{Contains}
use Rattle.circuit_theory.specs.Circuit.{Circuit}
use Rattle.circuit_theory.specs.Tree.{Tree, Unfolds}
use Rattle.obligations.specs.declared.outcome.verdict.LimitAt.{LimitAt}
use Rattle.obligations.specs.declared.outcome.verdict.Verdict.TheVariants as verdict
use Rattle.plain_asked.specs.declared.findings.Findings.{Findings}
use Rattle.plain_asked.specs.Findings.{FindingsFit}
use Rattle.sec_setup.specs.ports.Pairs.{NamedPair}

-- both places unfold to one tree
abbrev pub HaveOneTree : {P Q : Type 0} → Circuit P → Circuit Q → List ℕ → List ℕ → P → Q → Type 0
HaveOneTree a b left right p q = (d e : ℕ) (s t : Tree ℕ) → Unfolds a left p 0 d s → Unfolds b right q 0 e t → s ≡ t

-- Where both sides of each pair unfold to one tree the verdict isn't the limit, however few conflicts are allowed.
abbrev pub OneTreeHasNoLimit : Type 0
OneTreeHasNoLimit = (a b : Circuit ℕ) (left right : List ℕ) (columns : List (List ℕ)) (cut : Bool) (conflicts : ℕ) (pairs : List (NamedPair ℕ ℕ)) (f : Findings) → FindingsFit a b left right columns cut conflicts pairs f →
    ((x : NamedPair ℕ ℕ) → Contains pairs x → HaveOneTree a b left right x.left x.right) → (at : LimitAt) → f.verdict ≡ verdict.Limit at → ⊥
