-- No latch is cut open: the choice of none, and nets as they are.
use Rattle.std.proofs.Common.{◌≡◌, ℕ, ◌<◌, false, List, [], ◌∷◌, map, length, refl, sym, ◌∙◌, ap, subst, arith}
use Rattle.std.specs.List.{filter}
use Rattle.std.proofs.lemmas.List.{append-nil}
use Rattle.std.proofs.lemmas.List.Elements.{All-nil}
use Rattle.circuit_theory.specs.declared.Mode.{Mode}
use Rattle.circuit_theory.specs.Agree.{cut, is_kept}
use Rattle.circuit_theory.specs.Circuit.{Circuit, Equation, Gate, Latch, Port as port_equation}
use Rattle.sec_setup.specs.ports.flat_net.LatchAt.{LatchAt}
use Rattle.sec_setup.specs.ports.flat_net.Cut.{latch_at, stays, IsCut, IsCutCircuit}
use Rattle.sec_setup.specs.ports.flat_net.View.{NetView, circuit_of}
use Rattle.sec_setup.specs.declared.cut_points.exposed.Exposure.{Exposure}
use Rattle.sec_setup.specs.Cycles.{IsAcyclicIn}
use Rattle.sec_setup.specs.ports.Pairing.{AreNamedAt}
use Rattle.sec_setup.specs.Cuts.{AreCutOpen, AreCutBy}
use Rattle.sec_setup.specs.Choosing.{IsChosenIn}

all_stay : (ls : List LatchAt) → filter (stays []) ls ≡ ls
all_stay [] = refl
all_stay (l ∷ ls) = ap (λ rest. l ∷ rest) (all_stay ls)

all_kept : (es : List (Equation ℕ)) → filter (is_kept []) es ≡ es
all_kept [] = refl
all_kept (Gate out fanins cover ∷ es) = ap (λ rest. Gate out fanins cover ∷ rest) (all_kept es)
all_kept (Latch name out next ∷ es) = ap (λ rest. Latch name out next ∷ rest) (all_kept es)
all_kept (port_equation out from ∷ es) = ap (λ rest. port_equation out from ∷ rest) (all_kept es)

-- a net as it is, without latches cut out
uncut_net : (n : NetView) → IsCut n n []
uncut_net n = record {
  inputs = sym (append-nil n.inputs);
  outputs = sym (append-nil n.outputs);
  latches = sym (all_stay n.latches);
  gates = refl;
  covers = refl;
  names = refl;
  clock = refl;
  size = refl;
}

uncut_circuit : (c : Circuit ℕ) → IsCutCircuit [] c c
unfolding cut
uncut_circuit c = record { inputs = sym (append-nil c.inputs); outputs = sym (append-nil c.outputs); equations = sym (all_kept c.equations) }

no_positions : (f : ℕ → List ℕ) (positions : List ℕ) → map f positions ≡ [] → positions ≡ []
no_positions f [] e = refl
no_positions f (j ∷ js) e = absurd (cc)

-- where no latch is chosen, the nets are as they are
pub uncut : (a b : NetView) (e : Exposure) → AreCutOpen a b e → e.names ≡ [] → AreCutBy a b e a b
uncut a b e chosen none = record {
  left = subst (IsCut a a) (sym (no_positions (λ j. (latch_at a j).name) e.left (chosen.left.named ∙ none))) (uncut_net a);
  right = subst (IsCut b b) (sym (no_positions (λ j. (latch_at b j).name) e.right (chosen.right.named ∙ none))) (uncut_net b);
  left_circuit = subst (λ (ns : List (List ℕ)). IsCutCircuit ns (circuit_of a) (circuit_of a)) (sym none) (uncut_circuit (circuit_of a));
  right_circuit = subst (λ (ns : List (List ℕ)). IsCutCircuit ns (circuit_of b) (circuit_of b)) (sym none) (uncut_circuit (circuit_of b));
}

none_at : (n : NetView) → AreNamedAt n [] []
none_at n = record { within = All-nil (λ j. j < length n.latches); distinct = λ i j x h k. absurd (cc); named = refl }

-- where no latch lies on a cycle, no latch is needed
pub none_chosen : (mode : Mode) (a b : NetView) → IsAcyclicIn mode a → IsAcyclicIn mode b → IsChosenIn mode a b false (record { names = []; left = []; right = [] })
none_chosen mode a b left right = record {
  cut_open = record {
    minimal = record {
      common = λ name h. absurd (omega (arith, h.1));
      left_free = left;
      right_free = right;
      needed = λ i h. absurd (omega (arith, h));
    };
    in_order = λ i j d l h. absurd (omega (arith, h));
    left = none_at a;
    right = none_at b;
  };
  closed = λ e. refl;
  broken = (left, right);
}

-- a list without elements
pub no_names : (names : List (List ℕ)) → length names ≡ 0 → names ≡ []
no_names [] e = refl
no_names (name ∷ names) e = absurd (omega (arith, e))
