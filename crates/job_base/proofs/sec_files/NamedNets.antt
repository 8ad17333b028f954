-- A net of a circuit without ports is one of the circuit over its signals' names.
use Rattle.std.proofs.Common.{◌≡◌, ◌∙◌, ℕ, zero, suc, ◌<◌, Bool, true, false, if◌then◌else◌, List, [], ◌∷◌, length, slice_get, Some, refl, sym, ap, subst, arith}
use Rattle.std.specs.List.{Contains}
use Rattle.std.proofs.lemmas.Option.{slice_get_within, same_Some, none-some}
use Rattle.circuit_theory.specs.Circuit.{Circuit, Started, IsSingleDriven}
use Rattle.circuit_theory.specs.Names.{same_name}
use Rattle.circuit_theory.proofs.Inputs.{same_name-sound}
use Rattle.circuit_theory.proofs.Lists.{filter_map-from, at_of}
use Rattle.circuit_theory.proofs.Numbers.{same_name-refl}
use Rattle.base_tables.specs.Table.{AreDistinct}
use Rattle.sec_base.specs.declared.basics.Init.{Init}
use Rattle.sec_base.specs.declared.basics.Init.TheVariants as init
use Rattle.blif_read.specs.Design.{Place, top}
use Rattle.flat_net.specs.declared.parts.LatchAt.{LatchAt}
use Rattle.flat_net.specs.Sound.{IsSound}
use Rattle.flat_net.specs.View.{NetView, circuit_of, start_of}
use Rattle.flat_net.proofs.Nets.{sound_is_net}
use Rattle.net_assembly.specs.net_alike.FlatCircuit.{IsFlatCircuit}
use Rattle.net_assembly.specs.net_alike.Moved.{IsPortless}
use Rattle.job_base.specs.sec_files.Named.{named_circuit, HasNames, NamesArePlaces}
use Rattle.net_assembly.proofs.net_alike.Moving.{flat_over, portless_over, single_up}

-- the first place of the name in the list
abbrev pub index_in : List (List ℕ) → List ℕ → ℕ
index_in [] name = 0
index_in (n ∷ names) name = if same_name n name then 0 else suc (index_in names name)

index_has : (names : List (List ℕ)) (s : ℕ) (name : List ℕ) → slice_get names s ≡ Some name → slice_get names (index_in names name) ≡ Some name
index_has [] s name h = absurd (let low = slice_get_within [] s name h in omega (arith, low))
index_has (n ∷ names) s name h = go (same_name n name) refl s h (λ k e. index_has names k name e)
  where
    go : (b : Bool) → same_name n name ≡ b → (s : ℕ) → slice_get (n ∷ names) s ≡ Some name → ((k : ℕ) → slice_get names k ≡ Some name → slice_get names (index_in names name) ≡ Some name) →
        slice_get (n ∷ names) (if b then 0 else suc (index_in names name)) ≡ Some name
    go true e s at later = ap Some (same_name-sound n name e)
    go false e zero at later = absurd (no (sym e ∙ (ap (same_name n) (sym (same_Some n name at)) ∙ same_name-refl n)))
      where
        no : false ≡ true → ⊥
        no q = cc
    go false e (suc k) at later = later k at

-- a signal is told by its name
index_is : (names : List (List ℕ)) → AreDistinct names → (s : ℕ) (name : List ℕ) → slice_get names s ≡ Some name → index_in names name ≡ s
index_is names distinct s name h = distinct (index_in names name) s name (index_has names s name h) h

-- what starts is a latch's signal
start_low : (n : NetView) → IsSound n → (x : Started ℕ) → Contains (circuit_of n).starts x → x.place < length n.drivers
start_low n sound x h =
    let l = filter_map-from (λ (l : LatchAt). start_of l.out.0 l.init) n.latches x h in
    let at = at_of n.latches l.0 l.1 in
    let owner = (sound.latches at.0 l.0 at.1).owner in
    subst (λ (s : ℕ). s < length n.drivers) (place l.0.out.0 l.0.init l.2) (slice_get_within n.drivers l.0.out.0 _ owner)
  where
    place : (s : ℕ) (i : Init) → start_of s i ≡ Some x → s ≡ x.place
    place s init.Zero e = ap (λ (y : Started ℕ). y.place) (same_Some (record { place = s; bit = false }) x e)
    place s init.One e = ap (λ (y : Started ℕ). y.place) (same_Some (record { place = s; bit = true }) x e)
    place s init.DontCare e = absurd (none-some x e)
    place s init.Unknown e = absurd (none-some x e)

module _ (d : Circuit ℕ) (n : NetView) (name : ℕ → List ℕ) (origin signal : ℕ → ℕ) (portless : IsPortless d) (sound : IsSound n) (flat : IsFlatCircuit d (circuit_of n) (length n.drivers) (λ p. ⊥) origin signal)
    (names : HasNames n origin name) where
  pub named_flat : (clocked : Place → Type 0) → IsFlatCircuit (named_circuit name d) (circuit_of n) (length n.drivers) clocked (λ s. top (name (origin s))) (λ p. index_in n.names p.name)
  named_flat clocked =
      flat_over d (circuit_of n) (length n.drivers) origin signal portless flat (λ p. top (name p)) (λ p. index_in n.names p.name)
      (λ s h. index_is n.names sound.distinct s (name (origin s)) (names s h)) (start_low n sound) clocked

  pub named_single : IsSingleDriven (named_circuit name d)
  named_single =
      single_up (named_circuit name d) (circuit_of n) (length n.drivers) (λ p. ⊥) (λ s. top (name (origin s))) (λ p. index_in n.names p.name)
      (portless_over (λ p. top (name p)) d portless) (named_flat (λ p. ⊥)) (sound_is_net n sound).single

pub names_are_places : NamesArePlaces
names_are_places d n name origin signal portless sound flat names =
    (named_single d n name origin signal portless sound flat names, ((λ p. index_in n.names p.name), named_flat d n name origin signal portless sound flat names (λ p. ⊥)))
