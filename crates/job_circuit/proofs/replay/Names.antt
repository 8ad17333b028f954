-- The names that a header opens are those of latches of both nets, and an input that it lacks isn't read.
use Rattle.std.proofs.Common.{◌≡◌, ℕ, Bool, true, false, List, slice_get, Some, refl, ◌∙◌}
use Rattle.std.specs.List.{Contains}
use Rattle.circuit_theory.specs.Interface.{shared_inputs, inputs_beside}
use Rattle.circuit_theory.proofs.Lists.{All-from_each}
use Rattle.circuit_theory.proofs.Numbers.{is_among-sound}
use Rattle.flat_net.specs.declared.parts.Port.{Port}
use Rattle.flat_net.specs.Sound.{IsSound}
use Rattle.flat_net.specs.View.{NetView, ports_of, is_read}
use Rattle.sec_setup.specs.Matching.{InterfacesMatch}
use Rattle.sec_setup.proofs.ports.Columns.{read_stays}
use Rattle.sec_setup.proofs.ports.Interfaces.{input_read_by_name}
use Rattle.sec_setup.proofs.ports.Shared.{are_matched, missing_none}
use Rattle.sec_setup.specs.ports.name_tables.Names.{latch_names}
use Rattle.job_circuit.specs.replay.replay_header.Header.{opened, FitsBoth}
use Rattle.job_circuit.proofs.replay.replay_header.Names.{opened_of_both}
use Rattle.job_circuit.specs.replay.cut_sides.Opening.{AreNamesOf}

pub opened_latches : (a b : NetView) (header : List (List ℕ)) → FitsBoth a b header → AreNamesOf a (opened a b header) × AreNamesOf b (opened a b header)
opened_latches a b header fits = (
  All-from_each (Contains (latch_names a)) (opened a b header) (λ name h. (opened_of_both a b header fits name h).0),
  All-from_each (Contains (latch_names b)) (opened a b header) (λ name h. (opened_of_both a b header fits name h).1),
)

-- an input that the header lacks isn't read
lacking_unread : (own other : NetView) (header : List (List ℕ)) → IsSound own → ((name : List ℕ) → Contains (inputs_beside (ports_of own) (ports_of other)) name → Contains header name) →
    (k : ℕ) (port : Port) → slice_get own.inputs k ≡ Some port → (Contains header port.name → ⊥) → is_read own port.signal ≡ false
lacking_unread own other header sound all k port at none = go (is_read own port.signal) refl
  where
    go : (b : Bool) → is_read own port.signal ≡ b → is_read own port.signal ≡ false
    go false e = e
    go true e = absurd (none (all port.name (read_stays own other port.name (is_among-sound (ports_of own).read port.name (input_read_by_name own sound k port at ∙ e)))))

pub left_unread : (a b : NetView) (header : List (List ℕ)) → IsSound a → FitsBoth a b header → (k : ℕ) (port : Port) → slice_get a.inputs k ≡ Some port → (Contains header port.name → ⊥) → is_read a port.signal ≡ false
left_unread a b header sound fits = lacking_unread a b header sound (missing_none (shared_inputs (ports_of a) (ports_of b)) header fits.complete)

pub right_unread : (a b : NetView) (header : List (List ℕ)) → IsSound b → InterfacesMatch a b → FitsBoth a b header → (k : ℕ) (port : Port) → slice_get b.inputs k ≡ Some port → (Contains header port.name → ⊥) → is_read b port.signal ≡ false
right_unread a b header sound matches fits =
    lacking_unread b a header sound (λ name h. missing_none (shared_inputs (ports_of a) (ports_of b)) header fits.complete name ((are_matched (ports_of a) (ports_of b) matches).inputs_back name h))
