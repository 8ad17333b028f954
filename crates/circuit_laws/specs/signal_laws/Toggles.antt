-- A pair that no partition of latches shows equal, and ties of its signals that are an inductive invariant: a latch from 0 that toggles,
-- read as it is, and one from 1 that toggles, read turned.
use Rattle.std.specs.Prelude.{ℕ, true, false, List, [], ◌∷◌}
use Rattle.circuit_theory.specs.Cover.{Cover}
use Rattle.circuit_theory.specs.Circuit.{Circuit, Gate, Latch}
use Rattle.circuit_laws.specs.reset_laws.Reset.{AgreeFromReset}
use Rattle.circuit_laws.specs.declared.signal_laws.anchor.Anchor.{Anchor}
use Rattle.circuit_laws.specs.declared.signal_laws.anchor.Anchor.TheVariants as anchor
use Rattle.circuit_laws.specs.signal_laws.Laws.{AreInductive, GiveOutputs}

-- the complement of one fan-in
abbrev pub turned : Cover
turned = record { width = 1; rows = (48 ∷ []) ∷ []; on = true }

abbrev pub toggle : Circuit ℕ
toggle = record { inputs = []; outputs = record { name = 111 ∷ []; place = 0 } ∷ []; equations = Latch (117 ∷ []) 0 1 ∷ Gate 1 (0 ∷ []) turned ∷ []; starts = record { place = 0; bit = false } ∷ [] }

abbrev pub turned_toggle : Circuit ℕ
turned_toggle = record { inputs = []; outputs = record { name = 111 ∷ []; place = 1 } ∷ []; equations = Latch (118 ∷ []) 0 1 ∷ Gate 1 (0 ∷ []) turned ∷ []; starts = record { place = 0; bit = true } ∷ [] }

-- all signals are tied to the first latch: its own gate and the second latch to its complement, and the second gate plainly
abbrev pub toggle_anchors : List Anchor
toggle_anchors = anchor.Place 0 false ∷ anchor.Place 0 true ∷ anchor.Place 0 true ∷ anchor.Place 0 false ∷ []

abbrev pub TogglesAgree : Type 0
TogglesAgree = AreInductive toggle turned_toggle [] 2 toggle_anchors × GiveOutputs toggle turned_toggle 2 toggle_anchors × AgreeFromReset toggle turned_toggle
