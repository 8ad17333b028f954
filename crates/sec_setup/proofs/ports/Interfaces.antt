-- The interface by tables of names.
use Rattle.std.proofs.Common.{◌≡◌, ℕ, zero, suc, ◌+◌, ◌<◌, ◌≤◌, Bool, true, false, cond, List, [], ◌∷◌, ◌++◌, length, map, take, get_or, refl, sym, ◌∙◌, ap, subst, arith, Option, Some, slice_get, length-append}
use Rattle.std.specs.Prelude.{not, ◌&&◌, ◌||◌, ◌==◌, bytes_eq, IfSome}
use Rattle.std.specs.List.{filter, find, flat_map, list_any, Contains}
use Rattle.std.proofs.lemmas.List.Elements.{filter-append}
use Rattle.std.proofs.lemmas.List.Folds.{list_any-append}
use Rattle.std.proofs.lemmas.Slice.Eq.{bytes_eq-Decides}
use Rattle.flat_net.proofs.TableLemmas.{slice_get-take}
use Rattle.flat_net.specs.Table.{is_among as is_entry}
use Rattle.circuit_theory.specs.Names.{same_name, is_among}
use Rattle.circuit_theory.specs.Interface.{Ports, is_clock, inputs_beside}
use Rattle.circuit_theory.proofs.Inputs.{same_name-sound}
use Rattle.circuit_theory.proofs.Numbers.{same_name-refl, is_among-sound, is_among-complete, slice_get-map}
use Rattle.flat_net.specs.declared.parts.Port.{Port}
use Rattle.flat_net.specs.declared.parts.Gate.{Gate}
use Rattle.flat_net.specs.declared.parts.LatchAt.{LatchAt}
use Rattle.flat_net.specs.declared.signals.Signal.{Signal}
use Rattle.flat_net.specs.View.{NetView, is_read, ports_of}
use Rattle.flat_net.specs.declared.parts.Driver.TheVariants as driver
use Rattle.flat_net.specs.Sound.{IsSound}
use Rattle.std.proofs.lemmas.Option.{slice_get_read}
use Rattle.circuit_theory.proofs.Lists.{at_of, of_at, map_at, Contains-map, Contains-map_from, Contains-filter}
use Rattle.sec_setup.proofs.ports.Shared.{some_is, Contains-filter_in, filter-passed}
use Rattle.sec_setup.specs.ports.Numbered.{stays}
use Rattle.flat_net.proofs.PlaceLists.{filter-take}

bytes_same : (x : List ℕ) → bytes_eq x x ≡ true
bytes_same x = grind (arith, bytes_eq-Decides)

bytes_are : (x y : List ℕ) → bytes_eq x y ≡ true → x ≡ y
bytes_are x y h = grind (arith, bytes_eq-Decides)

-- both tests of names are one
same_test : (x y : List ℕ) → same_name x y ≡ bytes_eq x y
same_test x y = go (same_name x y) refl (bytes_eq x y) refl
  where
    go : (s : Bool) → same_name x y ≡ s → (b : Bool) → bytes_eq x y ≡ b → same_name x y ≡ bytes_eq x y
    go true p true q = p ∙ sym q
    go true p false q = absurd (no (sym (subst (λ (z : List ℕ). bytes_eq x z ≡ true) (same_name-sound x y p) (bytes_same x)) ∙ q))
      where
        no : true ≡ false → ⊥
        no e = cc
    go false p true q = absurd (no (sym (subst (λ (z : List ℕ). same_name x z ≡ true) (bytes_are x y q) (same_name-refl x)) ∙ p))
      where
        no : true ≡ false → ⊥
        no e = cc
    go false p false q = p ∙ sym q

-- to be among names is to be an entry of their table
pub among_entries : (names : List (List ℕ)) (name : List ℕ) → is_among names name ≡ is_entry names name
among_entries [] name = refl
among_entries (n ∷ names) name = λ i. same_test name n i || among_entries names name i

-- whether an input is read, by its name
pub input_read_by_name : (n : NetView) → IsSound n → (k : ℕ) (p : Port) → slice_get n.inputs k ≡ Some p → is_among (ports_of n).read p.name ≡ is_read n p.signal
input_read_by_name n sound k p at = go (is_read n p.signal) refl (is_among (ports_of n).read p.name) refl
  where
    test : Port → Bool
    test q = is_read n q.signal

    no : true ≡ false → ⊥
    no e = cc

    -- the input of the name is this one
    same_input : (q : Port) → Contains n.inputs q → q.name ≡ p.name → q.signal.0 ≡ p.signal.0
    same_input q h e =
        let there = at_of n.inputs q h in
        sound.distinct q.signal.0 p.signal.0 p.name (subst (λ (m : List ℕ). slice_get n.names q.signal.0 ≡ Some m) e (sound.inputs there.0 q there.1).named) (sound.inputs k p at).named

    go : (r : Bool) → is_read n p.signal ≡ r → (b : Bool) → is_among (ports_of n).read p.name ≡ b → is_among (ports_of n).read p.name ≡ is_read n p.signal
    go true e true f = f ∙ sym e
    go false e false f = f ∙ sym e
    go true e false f = absurd (no (sym (is_among-complete (ports_of n).read p.name
        (Contains-map (λ (q : Port). q.name) (filter test n.inputs) p (Contains-filter_in test n.inputs p (of_at n.inputs k p at) e))) ∙ f))
    go false e true f =
        let found = Contains-map_from (λ (q : Port). q.name) (filter test n.inputs) p.name (is_among-sound (ports_of n).read p.name f) in
        let input = Contains-filter test n.inputs found.0 found.1 in
        let signal = same_input found.0 input found.2 in
        absurd (no (sym (ap (λ (s : ℕ). is_read n (record { 0 = s })) (sym signal) ∙ filter-passed test n.inputs found.0 found.1) ∙ e))

-- an input's name stands once
pub name_once : (n : NetView) → IsSound n → (j k : ℕ) (p q : Port) → slice_get n.inputs j ≡ Some p → slice_get n.inputs k ≡ Some q → p.name ≡ q.name → j ≡ k
name_once n sound j k p q hp hq e =
    let signal : p.signal.0 ≡ q.signal.0 = sound.distinct p.signal.0 q.signal.0 q.name (subst (λ (m : List ℕ). slice_get n.names p.signal.0 ≡ Some m) e (sound.inputs j p hp).named) (sound.inputs k q hq).named in
    let owner = subst (λ (s : ℕ). slice_get n.drivers s ≡ Some (driver.Input j)) signal (sound.inputs j p hp).owner in
    same_number (some_is (sym owner ∙ (sound.inputs k q hq).owner))
  where
    same_number : driver.Input j ≡ driver.Input k → j ≡ k
    same_number d = cc

-- the names of the inputs so far that stay have no further one of this name
fresh_entry : (n : NetView) → IsSound n → (other : Ports) (i : ℕ) (p : Port) → slice_get n.inputs i ≡ Some p →
    is_entry (filter (stays (ports_of n) other) (take i (map (λ (q : Port). q.name) n.inputs))) p.name ≡ false
fresh_entry n sound other i p at = go (is_entry names p.name) refl
  where
    names : List (List ℕ)
    names = filter (stays (ports_of n) other) (take i (map (λ (q : Port). q.name) n.inputs))

    twice : Contains names p.name → ⊥
    twice h =
        let before = Contains-filter (stays (ports_of n) other) (take i (map (λ (q : Port). q.name) n.inputs)) p.name h in
        let there = at_of (take i (map (λ (q : Port). q.name) n.inputs)) p.name before in
        let low = slice_get-take i (map (λ (q : Port). q.name) n.inputs) there.0 p.name there.1 in
        let below : there.0 < i = low.0 in
        let own = map_at (λ (q : Port). q.name) n.inputs there.0 p.name low.1 in
        let same : there.0 ≡ i = name_once n sound there.0 i own.0 p own.1 at own.2 in
        omega arith

    go : (b : Bool) → is_entry names p.name ≡ b → is_entry names p.name ≡ false
    go false e = e
    go true e = absurd (twice (is_among-sound names p.name (among_entries names p.name ∙ e)))

-- one input more that stays or doesn't
pub beside_more : (n : NetView) → IsSound n → (other : Ports) (i : ℕ) (p : Port) → slice_get n.inputs i ≡ Some p →
    filter (stays (ports_of n) other) (take (i + 1) (map (λ (q : Port). q.name) n.inputs))
    ≡ cond (stays (ports_of n) other p.name) (filter (stays (ports_of n) other) (take i (map (λ (q : Port). q.name) n.inputs)) ++ p.name ∷ []) (filter (stays (ports_of n) other) (take i (map (λ (q : Port). q.name) n.inputs)))
beside_more n sound other i p at = filter-take (stays (ports_of n) other) (map (λ (q : Port). q.name) n.inputs) i p.name (slice_get-map (λ (q : Port). q.name) n.inputs i p at)

-- the table after an input that stays
pub beside_kept : (n : NetView) → IsSound n → (other : Ports) (i : ℕ) (p : Port) (old new : List (List ℕ)) → slice_get n.inputs i ≡ Some p → stays (ports_of n) other p.name ≡ true →
    old ≡ filter (stays (ports_of n) other) (take i (map (λ (q : Port). q.name) n.inputs)) → new ≡ cond (is_entry old p.name) old (old ++ p.name ∷ []) → length old ≤ i →
    (new ≡ filter (stays (ports_of n) other) (take (i + 1) (map (λ (q : Port). q.name) n.inputs))) × (length new ≤ i + 1)
beside_kept n sound other i p old new at kept is made few =
    let fresh : is_entry old p.name ≡ false = subst (λ (ns : List (List ℕ)). is_entry ns p.name ≡ false) (sym is) (fresh_entry n sound other i p at) in
    let longer : new ≡ old ++ p.name ∷ [] = made ∙ ap (λ (b : Bool). cond b old (old ++ p.name ∷ [])) fresh in
    let count : length new ≡ length old + 1 = ap length longer ∙ length-append old (p.name ∷ []) in (
      longer ∙ ap (λ (ns : List (List ℕ)). ns ++ p.name ∷ []) is
          ∙ sym (beside_more n sound other i p at ∙ ap (λ (b : Bool). cond b (filter (stays (ports_of n) other) (take i (map (λ (q : Port). q.name) n.inputs)) ++ p.name ∷ []) (filter (stays (ports_of n) other) (take i (map (λ (q : Port). q.name) n.inputs)))) kept),
      omega arith,
    )

-- the table after an input that doesn't
pub beside_left : (n : NetView) → IsSound n → (other : Ports) (i : ℕ) (p : Port) (old : List (List ℕ)) → slice_get n.inputs i ≡ Some p → stays (ports_of n) other p.name ≡ false →
    old ≡ filter (stays (ports_of n) other) (take i (map (λ (q : Port). q.name) n.inputs)) → old ≡ filter (stays (ports_of n) other) (take (i + 1) (map (λ (q : Port). q.name) n.inputs))
beside_left n sound other i p old at gone is =
    is ∙ sym (beside_more n sound other i p at ∙ ap (λ (b : Bool). cond b (filter (stays (ports_of n) other) (take i (map (λ (q : Port). q.name) n.inputs)) ++ p.name ∷ []) (filter (stays (ports_of n) other) (take i (map (λ (q : Port). q.name) n.inputs)))) gone)

-- an input that isn't the other's clock stays
pub stays_unclocked : (n : NetView) (other : Ports) (i : ℕ) (p : Port) (b : Bool) (name : List ℕ) → i < length n.inputs → p ≡ get_or n.inputs i p → name ≡ p.name → b ≡ is_clock other name → b ≡ false →
    IfSome (slice_get n.inputs i) (λ q. true ≡ stays (ports_of n) other q.name)
stays_unclocked n other i p b name h at e clock off =
    subst (λ (o : Option Port). IfSome o (λ q. true ≡ stays (ports_of n) other q.name)) (sym (slice_get_read n.inputs (length n.inputs) i p refl h at))
    (sym (ap (λ (t : Bool). not (t && not (is_among (ports_of n).read p.name))) (sym (ap (is_clock other) e) ∙ (sym clock ∙ off))))

-- the other's clock stays where it is read
pub stays_read : (n : NetView) → IsSound n → (other : Ports) (i : ℕ) (p : Port) (b r : Bool) (name : List ℕ) → i < length n.inputs → p ≡ get_or n.inputs i p → name ≡ p.name → b ≡ is_clock other name → b ≡ true →
    IfSome (slice_get n.inputs i) (λ q. r ≡ is_read n q.signal) → IfSome (slice_get n.inputs i) (λ q. r ≡ stays (ports_of n) other q.name)
stays_read n sound other i p b r name h at e clock is read =
    let there = slice_get_read n.inputs (length n.inputs) i p refl h at in
    subst (λ (o : Option Port). IfSome o (λ q. r ≡ stays (ports_of n) other q.name)) (sym there)
    (subst (λ (o : Option Port). IfSome o (λ q. r ≡ is_read n q.signal)) there read
    ∙ sym (input_read_by_name n sound i p there) ∙ sym (not_not (is_among (ports_of n).read p.name))
    ∙ sym (ap (λ (t : Bool). not (t && not (is_among (ports_of n).read p.name))) (sym (ap (is_clock other) e) ∙ (sym clock ∙ is))))
  where
    not_not : (t : Bool) → not (not t) ≡ t
    not_not true = refl
    not_not false = refl

-- the input at a place of the loop
pub input_at : (n : NetView) (items : List Port) (i : ℕ) (p : Port) → items ≡ n.inputs → i < length items → p ≡ get_or items i p → slice_get n.inputs i ≡ Some p
input_at n items i p e h at = subst (λ (ps : List Port). slice_get ps i ≡ Some p) e (slice_get_read items (length items) i p refl h at)

-- what is said of an input at its place is said of it
pub said_of : (n : NetView) (i : ℕ) (p : Port) (P : Port → Type 0) → slice_get n.inputs i ≡ Some p → IfSome (slice_get n.inputs i) P → P p
said_of n i p P at h = subst (λ (o : Option Port). IfSome o P) at h
