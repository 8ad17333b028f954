-- No latch is cut open: the net as it is; and latches of a cut net are the net's.
use Rattle.std.proofs.Common.{◌≡◌, ℕ, ◌<◌, Bool, List, [], ◌∷◌, length, refl, sym, ap, subst}
use Rattle.std.specs.List.{Contains, filter}
use Rattle.std.proofs.lemmas.List.{append-nil}
use Rattle.std.proofs.lemmas.List.Elements.{All-nil}
use Rattle.circuit_theory.proofs.Lists.{Contains-filter}
use Rattle.circuit_theory.specs.Agree.{cut, is_kept}
use Rattle.circuit_theory.specs.Circuit.{Circuit, Equation, Gate, Latch, Port as port_equation}
use Rattle.flat_net.specs.declared.parts.LatchAt.{LatchAt}
use Rattle.flat_net.specs.Cut.{stays, exposed_names, IsCut, IsCutCircuit}
use Rattle.flat_net.specs.View.{NetView, circuit_of}
use Rattle.job_circuit.specs.replay.cut_sides.Opening.{IsCutSide}

all_stay : (ls : List LatchAt) → filter (stays []) ls ≡ ls
all_stay [] = refl
all_stay (l ∷ ls) = ap (λ rest. l ∷ rest) (all_stay ls)

all_kept : (es : List (Equation ℕ)) → filter (is_kept []) es ≡ es
all_kept [] = refl
all_kept (Gate out fanins cover ∷ es) = ap (λ rest. Gate out fanins cover ∷ rest) (all_kept es)
all_kept (Latch name out next ∷ es) = ap (λ rest. Latch name out next ∷ rest) (all_kept es)
all_kept (port_equation out from ∷ es) = ap (λ rest. port_equation out from ∷ rest) (all_kept es)

uncut_circuit : (c : Circuit ℕ) → IsCutCircuit [] c c
unfolding cut
uncut_circuit c = record { inputs = sym (append-nil c.inputs); outputs = sym (append-nil c.outputs); equations = sym (all_kept c.equations) }

pub uncut_side : (n : NetView) (enabled : List Bool) → length enabled ≡ length n.latches → IsCutSide n enabled [] n enabled
uncut_side n enabled each = record {
  positions = [];
  named = record { within = All-nil (λ j. j < length n.latches); distinct = λ i j x h k. absurd (cc); named = refl };
  parts = record { inputs = sym (append-nil n.inputs); outputs = sym (append-nil n.outputs); latches = sym (all_stay n.latches); gates = refl; covers = refl; names = refl; clock = refl; size = refl };
  circuit = uncut_circuit (circuit_of n);
  bits_are = record { each = each; right = λ k l bit at_l at_bit. record { position = k; latch = at_l; here = at_bit } };
}

-- the latches that are left are the net's
pub left_in : (n m : NetView) (positions : List ℕ) → IsCut n m positions → (l : LatchAt) → Contains m.latches l → Contains n.latches l
left_in n m positions parts l h = Contains-filter (stays (exposed_names n positions)) n.latches l (subst (λ (ls : List LatchAt). Contains ls l) parts.latches h)
