-- A circuit without latches cut out is the circuit.
use Rattle.std.proofs.Common.{◌≡◌, ◌∙◌, List, [], ◌∷◌, ◌++◌, refl, ap}
use Rattle.std.specs.List.{filter}
use Rattle.std.proofs.lemmas.List.{append-nil}
use Rattle.circuit_theory.specs.Agree.{cut, is_kept}
use Rattle.circuit_theory.specs.Circuit.{Circuit, Equation, Gate, Latch, Port, Named}

all_kept : {P : Type 0} (es : List (Equation P)) → filter (is_kept []) es ≡ es
all_kept [] = refl
all_kept (Gate out fanins cover ∷ es) = ap (λ rest. Gate out fanins cover ∷ rest) (all_kept es)
all_kept (Latch name out next ∷ es) = ap (λ rest. Latch name out next ∷ rest) (all_kept es)
all_kept (Port out from ∷ es) = ap (λ rest. Port out from ∷ rest) (all_kept es)

abbrev circuit_by : {P : Type 0} → Circuit P → List (Named P) → List (Named P) → List (Equation P) → Circuit P
circuit_by c inputs outputs equations = record { inputs = inputs; outputs = outputs; equations = equations; starts = c.starts }

pub uncut_is : {P : Type 0} (c : Circuit P) → cut [] c ≡ c
unfolding cut
uncut_is {P} c =
    ap (λ (is : List (Named P)). circuit_by c is (c.outputs ++ []) (filter (is_kept []) c.equations)) (append-nil c.inputs)
    ∙ (ap (λ (os : List (Named P)). circuit_by c c.inputs os (filter (is_kept []) c.equations)) (append-nil c.outputs) ∙ ap (circuit_by c c.inputs c.outputs) (all_kept c.equations))
