-- A net in which no latch is cut out has the circuit of the net.
use Rattle.std.proofs.Common.{◌≡◌, ◌∙◌, ℕ, List, [], ◌∷◌, ◌++◌, map, refl, ap, subst}
use Rattle.std.specs.List.{filter, filter_map}
use Rattle.std.proofs.lemmas.List.{append-nil}
use Rattle.flat_net.specs.declared.parts.LatchAt.{LatchAt}
use Rattle.flat_net.specs.Cut.{IsCut, exposed_names, latch_at, stays}
use Rattle.flat_net.specs.View.{NetView, circuit_of, equation_of_gate, equation_of_latch, named, start_of}
use Rattle.event_check.specs.event_answers.Laws.{UncutSetupsAreWhole}

no_positions : (f : ℕ → List ℕ) (positions : List ℕ) → map f positions ≡ [] → positions ≡ []
no_positions f [] e = refl
no_positions f (j ∷ js) e = absurd (cc)

all_stay : (ls : List LatchAt) → filter (stays []) ls ≡ ls
all_stay [] = refl
all_stay (l ∷ ls) = ap (λ (rest : List LatchAt). l ∷ rest) (all_stay ls)

uncut : (n m : NetView) → IsCut n m [] → circuit_of m ≡ circuit_of n
uncut n m cut =
    let inputs : m.inputs ≡ n.inputs = cut.inputs ∙ append-nil n.inputs in
    let outputs : m.outputs ≡ n.outputs = cut.outputs ∙ append-nil n.outputs in
    let latches : m.latches ≡ n.latches = cut.latches ∙ all_stay n.latches in
    (λ i. record {
      inputs = map named (inputs i);
      outputs = map named (outputs i);
      equations = map (equation_of_gate (cut.covers i)) (cut.gates i) ++ map equation_of_latch (latches i);
      starts = filter_map (λ (l : LatchAt). start_of l.out.0 l.init) (latches i);
    })

none_cut : (n m : NetView) (names : List (List ℕ)) (positions : List ℕ) → exposed_names n positions ≡ names → names ≡ [] → IsCut n m positions → circuit_of m ≡ circuit_of n
none_cut n m names positions named none cut = uncut n m (subst (IsCut n m) (no_positions (λ j. (latch_at n j).name) positions (named ∙ none)) cut)

pub setups_whole : UncutSetupsAreWhole
setups_whole a b expose s is none = (
  none_cut a s.left.net s.exposed is.are_cut.left is.are_cut.left_names none is.are_cut.left_cut,
  none_cut b s.right.net s.exposed is.are_cut.right is.are_cut.right_names none is.are_cut.right_cut,
)
