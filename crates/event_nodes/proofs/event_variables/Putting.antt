-- The variables of the first places.
use Rattle.std.proofs.Common.{◌≡◌, ◌∙◌, ◌+◌, ◌<◌, ◌≤◌, ℕ, List, [], ◌∷◌, ◌++◌, length, map, slice_get, Some, Result, Ok, Err, IfOk, sym, ap, subst, arith, inl, inr}
use Rattle.std.specs.Prelude.{◌⊎◌}
use Rattle.std.specs.List.{Contains}
use Rattle.std.proofs.lemmas.Bool.{cases_lt}
use Rattle.std.proofs.lemmas.List.Elements.{Contains-append_left, Contains-push, Contains-push_cases}
use Rattle.std.proofs.lemmas.Option.{slice_get_within}
use Rattle.circuit_theory.specs.Tree.{IsInputNumber}
use Rattle.circuit_theory.proofs.Inputs.{beside_is_input}
use Rattle.circuit_theory.proofs.Lists.{at_of, of_at}
use Rattle.circuit_theory.proofs.Numbers.{at_beside, slice_get-map}
use Rattle.flat_net.specs.declared.parts.Driver.{Driver}
use Rattle.flat_net.specs.declared.parts.Driver.TheVariants as driver
use Rattle.flat_net.specs.Sound.{IsSound}
use Rattle.flat_net.specs.View.{NetView, circuit_of, named}
use Rattle.flat_net.proofs.Places.{one_at}
use Rattle.event_nodes.specs.Nodes.{EventGraphView, GrowsEvents}
use Rattle.event_nodes.specs.View.{EventCircuitView, IsEventCircuit}
use Rattle.flat_net.proofs.Drivers.{input_owner}
use Rattle.aig.proofs.Lists.{adds_at}
use Rattle.event_nodes.specs.event_variables.Inputs.{IsVariableAt, IsVariablePut}

module _ (e : EventCircuitView) (sound : IsSound e.net) (n : NetView) (same : n ≡ e.net) (p : ℕ) (d : Driver) (at : slice_get n.drivers p ≡ Some d) where
  drives : slice_get e.net.drivers p ≡ Some d
  drives = subst (λ (m : NetView). slice_get m.drivers p ≡ Some d) same at

  -- an input's position has a number
  pub input_within : IsEventCircuit e → (i : ℕ) → d ≡ driver.Input i → i < length e.order
  input_within circuit i is =
      let port = sound.drivers p (driver.Input i) (drives ∙ ap Some is) in
      let inside = slice_get_within e.net.inputs i port.0 port.1 in
      omega (arith, inside, circuit.each_order)

  -- an input has its number
  pub input_number : (i number : ℕ) → d ≡ driver.Input i → slice_get e.order i ≡ Some number → IsInputNumber (circuit_of e.net) e.order p number
  input_number i number is here =
      let port = sound.drivers p (driver.Input i) (drives ∙ ap Some is) in
      subst (λ (q : ℕ). IsInputNumber (circuit_of e.net) e.order q number) port.2 (at_beside (map named e.net.inputs) e.order i number (named port.0) (slice_get-map named e.net.inputs i port.0 port.1) here)

  -- what no input drives has none
  pub no_number : ((i : ℕ) → d ≡ driver.Input i → ⊥) → (k : ℕ) → IsInputNumber (circuit_of e.net) e.order p k → ⊥
  no_number other k numbered =
      let o = input_owner e.net sound p (beside_is_input (circuit_of e.net).inputs e.order p k numbered) in
      other o.0 (one_at e.net.drivers p d (driver.Input o.0) drives o.4)

-- a variable stays the place's while the event graph grows
pub variable_later : (e : EventCircuitView) (w x : EventGraphView) → GrowsEvents w x → (p : ℕ × ℕ) (v : ℕ) → IsVariableAt e w p v → IsVariableAt e x p v
variable_later e w x grows p v k = record {
  number = k.number;
  numbered = k.numbered;
  at = adds_at (λ (q : ℕ × ℕ). Unit {0}) w.places x.places v (k.number, p.0) (record { more = grows.places.0; is = grows.places.1; each = λ i d h. tt }) k.at;
}

-- the variables of the first places
pub record InputsUpTo (e : EventCircuitView) (w : EventGraphView) (places : List (ℕ × ℕ)) (at : ℕ) (found : List ℕ) : Type 0 where
  pub each : (v : ℕ) → Contains found v → (p : ℕ × ℕ) × Contains places p × IsVariableAt e w p v
  pub all : (i : ℕ) (p : ℕ × ℕ) (n : ℕ) → i < at → slice_get places i ≡ Some p → IsInputNumber (circuit_of e.net) e.order p.1 n → (v : ℕ) × Contains found v × IsVariableAt e w p v

module _ (e : EventCircuitView) (places : List (ℕ × ℕ)) where
  pub inputs_first : (w : EventGraphView) (found : List ℕ) → found ≡ [] → InputsUpTo e w places 0 found
  inputs_first w found none = subst (InputsUpTo e w places 0) (sym none) (record { each = λ v h. absurd (omega (arith, h.1)); all = λ i p n below. absurd (omega (arith, below)) })

  inputs_later : (w x : EventGraphView) → GrowsEvents w x → (at : ℕ) (found : List ℕ) → InputsUpTo e w places at found → InputsUpTo e x places at found
  inputs_later w x grows at found k = record {
    each = λ v h. (let p = k.each v h in (p.0, p.1, variable_later e w x grows p.0 v p.2));
    all = λ i p n below at_i numbered. (let v = k.all i p n below at_i numbered in (v.0, v.1, variable_later e w x grows p v.0 v.2));
  }

  pub inputs_next : (w x : EventGraphView) → GrowsEvents w x → (at : ℕ) (p : ℕ × ℕ) (old new : List ℕ) → slice_get places at ≡ Some p → InputsUpTo e w places at old → IsVariablePut e x p old new → InputsUpTo e x places (at + 1) new
  inputs_next w x grows at p old new here before put = go put
    where
      k : InputsUpTo e x places at old
      k = inputs_later w x grows at old before

      last_is : (i : ℕ) (q : ℕ × ℕ) → slice_get places i ≡ Some q → at ≤ i → i < at + 1 → q ≡ p
      last_is i q at_i l below = let last : i ≡ at = omega (arith, l, below) in one_at places i q p at_i (subst (λ (m : ℕ). slice_get places m ≡ Some p) (sym last) here)

      go : IsVariablePut e x p old new → InputsUpTo e x places (at + 1) new
      go (inl none) = subst (InputsUpTo e x places (at + 1)) (sym none.1) (record { each = k.each; all = λ i q n below at_i numbered. pick i q n at_i numbered (cases_lt i at) below })
        where
          pick : (i : ℕ) (q : ℕ × ℕ) (n : ℕ) → slice_get places i ≡ Some q → IsInputNumber (circuit_of e.net) e.order q.1 n → (i < at) ⊎ (at ≤ i) → i < at + 1 → (v : ℕ) × Contains old v × IsVariableAt e x q v
          pick i q n at_i numbered (inl l) below = k.all i q n l at_i numbered
          pick i q n at_i numbered (inr l) below = absurd (none.0 n (subst (λ (r : ℕ × ℕ). IsInputNumber (circuit_of e.net) e.order r.1 n) (last_is i q at_i l below) numbered))
      go (inr some) = subst (InputsUpTo e x places (at + 1)) (sym some.2) (record {
        each = λ v h. from v (Contains-push_cases old some.0 v h);
        all = λ i q n below at_i numbered. pick i q n at_i numbered (cases_lt i at) below;
      })
        where
          from : (v : ℕ) → Contains old v ⊎ (some.0 ≡ v) → (q : ℕ × ℕ) × Contains places q × IsVariableAt e x q v
          from v (inl h) = k.each v h
          from v (inr same) = (p, of_at places at p here, subst (IsVariableAt e x p) same some.1)

          pick : (i : ℕ) (q : ℕ × ℕ) (n : ℕ) → slice_get places i ≡ Some q → IsInputNumber (circuit_of e.net) e.order q.1 n → (i < at) ⊎ (at ≤ i) → i < at + 1 → (v : ℕ) × Contains (old ++ some.0 ∷ []) v × IsVariableAt e x q v
          pick i q n at_i numbered (inl l) below = let v = k.all i q n l at_i numbered in (v.0, Contains-append_left old (some.0 ∷ []) v.0 v.1, v.2)
          pick i q n at_i numbered (inr l) below = (some.0, Contains-push old some.0, subst (λ (r : ℕ × ℕ). IsVariableAt e x r some.0) (sym (last_is i q at_i l below)) some.1)

  -- each of them stands in the table of variables
  pub inputs_within : (w : EventGraphView) (at : ℕ) (found : List ℕ) → InputsUpTo e w places at found → (v : ℕ) → Contains found v → v < length w.places
  inputs_within w at found k v h = let p = k.each v h in let at_v = p.2 in slice_get_within w.places v (at_v.number, p.0.0) at_v.at

  -- all places are done
  pub inputs_all : (w : EventGraphView) (at : ℕ) (found : List ℕ) → length places ≤ at → InputsUpTo e w places at found → (p : ℕ × ℕ) (n : ℕ) → Contains places p → IsInputNumber (circuit_of e.net) e.order p.1 n → (v : ℕ) × Contains found v × IsVariableAt e w p v
  inputs_all w at found whole k p n h numbered = let i = at_of places p h in let inside = slice_get_within places i.0 p i.1 in k.all i.0 p n (omega (arith, inside, whole)) i.1 numbered

-- what follows of an answer
pub answered : {E X : Type 0} (r : Result X E) (P Q : X → Type 0) → ((x : X) → P x → Q x) → IfOk r P → IfOk r Q
answered (Ok x) P Q f h = f x h
answered (Err e) P Q f h = h
