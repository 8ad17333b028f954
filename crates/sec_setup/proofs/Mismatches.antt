-- A refused name is the first that is missing.
use Rattle.std.proofs.Common.{◌≡◌, ℕ, List, sym, ◌∙◌, ap, Option, Some}
use Rattle.circuit_theory.specs.Interface.{inputs_beside, first_missing, first_mismatch, ◌or_else◌}
use Rattle.sec_setup.specs.ports.flat_net.View.{NetView, ports_of}
use Rattle.sec_setup.specs.Matching.{InterfaceFails, RefusesName}
use Rattle.sec_setup.specs.declared.error.SetupError.{SetupError}
use Rattle.sec_setup.specs.declared.error.SetupError.TheVariants as refused

-- the tables' first mismatch is the nets'
pub mismatch_is : (a b : NetView) (left right left_outputs right_outputs : List (List ℕ)) (m : Option (List ℕ)) →
    left ≡ inputs_beside (ports_of a) (ports_of b) → right ≡ inputs_beside (ports_of b) (ports_of a) → left_outputs ≡ (ports_of a).outputs → right_outputs ≡ (ports_of b).outputs →
    m ≡ (first_missing left right or_else first_missing right left or_else first_missing left_outputs right_outputs or_else first_missing right_outputs left_outputs) → first_mismatch (ports_of a) (ports_of b) ≡ m
mismatch_is a b left right left_outputs right_outputs m l r lo ro is =
    sym (is ∙ (λ i. first_missing (l i) (r i) or_else first_missing (r i) (l i) or_else first_missing (lo i) (ro i) or_else first_missing (ro i) (lo i)))

-- a refused name is the mismatch
pub refused_name : (a b : NetView) (name : List ℕ) (e : SetupError) → first_mismatch (ports_of a) (ports_of b) ≡ Some name → RefusesName name e → InterfaceFails a b e
refused_name a b name (refused.Interface word) m h = m ∙ ap Some (sym h)
refused_name a b name (refused.Cyclic side names) m h = h
refused_name a b name (refused.Unpaired side names) m h = h
refused_name a b name refused.NoMemory m h = tt
