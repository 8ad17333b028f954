-- A net that grows by one item keeps what each net keeps.
use Rattle.std.proofs.Common.{◌≡◌, ◌+◌, ◌^◌, ◌<◌, ◌≤◌, ◌∙◌, ℕ, zero, suc, List, [], ◌∷◌, ◌++◌, length, map, take, append_assoc, slice_get, Option, Some, None, Result, Ok, Err, OnOk, OnErr, refl, sym, ap, subst, arith, inl, inr}
use Rattle.std.specs.Prelude.{◌⊎◌, IsSomeAnd}
use Rattle.std.specs.List.{All}
use Rattle.std.proofs.lemmas.List.{length-append, map-append}
use Rattle.std.proofs.lemmas.List.Elements.{All-push}
use Rattle.std.proofs.lemmas.Option.{slice_get_within, none-some, same_Some}
use Rattle.circuit_theory.specs.Cover.{Cover}
use Rattle.sec_base.specs.Cover.{IsCoverSound}
use Rattle.base_tables.specs.Table.{AreDistinct}
use Rattle.base_tables.proofs.TableLemmas.{take-push}
use Rattle.sec_base.specs.declared.basics.Init.{Init}
use Rattle.flat_net.specs.declared.signals.Signal.{Signal}
use Rattle.flat_net.specs.declared.parts.Port.{Port}
use Rattle.flat_net.specs.declared.parts.Gate.{Gate}
use Rattle.flat_net.specs.declared.parts.LatchAt.{LatchAt}
use Rattle.flat_net.specs.declared.parts.Driver.{Driver}
use Rattle.flat_net.specs.declared.parts.Driver.TheVariants as driver
use Rattle.flat_net.specs.View.{NetView}
use Rattle.flat_net.specs.Sound.{IsSound, IsInputOf, IsGateOf, IsLatchOf, Drives}
use Rattle.flat_net.proofs.Places.{out_within}
use Rattle.flat_net.specs.Makes.{with_input, with_latch, with_gate, with_cover, with_output, with_clock}

-- an equal net is sound too
pub sound_along : (m : NetView) {k : NetView} → IsSound m → k ≡ m → IsSound k
sound_along m sound same = subst IsSound (sym same) sound

-- what follows from a result whichever it is
pub either_way : {T E P : Type 0} (r : Result T E) → OnOk r P → OnErr r P → P
either_way (Ok x) ok err = ok
either_way (Err e) ok err = err

-- facts of one outcome of a result, taken together
pub ok_together : {T E A B C D P : Type 0} (r : Result T E) → OnOk r A → OnOk r B → OnOk r C → OnOk r D → (A → B → C → D → P) → OnOk r P
ok_together (Ok x) a b c d f = f a b c d
ok_together (Err e) a b c d f = tt

pub err_together : {T E A B C P : Type 0} (r : Result T E) → OnErr r A → OnErr r B → OnErr r C → (A → B → C → P) → OnErr r P
err_together (Ok x) a b c f = tt
err_together (Err e) a b c f = f a b c

-- one item more of those that are made of a list's
pub made_more : {A B : Type 0} (first : List B) (f : A → B) (from : List A) (i : ℕ) (x : A) (new old : List B) → slice_get from i ≡ Some x → old ≡ first ++ map f (take i from) → new ≡ old ++ f x ∷ [] → new ≡ first ++ map f (take (i + 1) from)
made_more first f from i x new old here before more =
    let front : map f (take i from) ++ f x ∷ [] ≡ map f (take (i + 1) from) = sym (map-append f (take i from) (x ∷ [])) ∙ ap (map f) (take-push from i x here) in
    more ∙ (ap (λ l. l ++ f x ∷ []) before ∙ rw append_assoc (ap (λ l. first ++ l) front))

-- what stands in a list stands in a longer one
pub slice_get-append : {X : Type 0} (xs ys : List X) (i : ℕ) (x : X) → slice_get xs i ≡ Some x → slice_get (xs ++ ys) i ≡ Some x
slice_get-append [] ys i x h = absurd (none-some x h)
slice_get-append (z ∷ xs) ys zero x h = h
slice_get-append (z ∷ xs) ys (suc i) x h = slice_get-append xs ys i x h

-- the new item stands last
pub slice_get-push : {X : Type 0} (xs : List X) (y : X) (n : ℕ) → n ≡ length xs → slice_get (xs ++ y ∷ []) n ≡ Some y
slice_get-push {X} xs y n e = ap (slice_get (xs ++ y ∷ [])) e ∙ go xs
  where
    go : (zs : List X) → slice_get (zs ++ y ∷ []) (length zs) ≡ Some y
    go [] = refl
    go (z ∷ zs) = go zs

-- what stands in the longer list is old, or the new item
pub slice_get-push_cases : {X : Type 0} (xs : List X) (y : X) (i : ℕ) (x : X) → slice_get (xs ++ y ∷ []) i ≡ Some x → (slice_get xs i ≡ Some x) ⊎ ((i ≡ length xs) × (y ≡ x))
slice_get-push_cases [] y zero x h = inr (refl, same_Some y x h)
slice_get-push_cases [] y (suc i) x h = absurd (none-some x h)
slice_get-push_cases (z ∷ xs) y zero x h = inl h
slice_get-push_cases {X} (z ∷ xs) y (suc i) x h = later (slice_get-push_cases xs y i x h)
  where
    later : (slice_get xs i ≡ Some x) ⊎ ((i ≡ length xs) × (y ≡ x)) → (slice_get xs i ≡ Some x) ⊎ ((suc i ≡ suc (length xs)) × (y ≡ x))
    later (inl old) = inl old
    later (inr new) = inr (ap suc new.0, new.1)

-- one more
pub length-push : {X : Type 0} (xs : List X) (y : X) → length (xs ++ y ∷ []) ≡ length xs + 1
length-push xs y = length-append xs (y ∷ [])

-- m has what n has, at the same places
pub record IsLarger (n m : NetView) : Type 0 where
  pub drivers : (s : ℕ) (d : Driver) → slice_get n.drivers s ≡ Some d → slice_get m.drivers s ≡ Some d
  pub names : (s : ℕ) (name : List ℕ) → slice_get n.names s ≡ Some name → slice_get m.names s ≡ Some name
  pub covers : (k : ℕ) (cover : Cover) → slice_get n.covers k ≡ Some cover → slice_get m.covers k ≡ Some cover
  pub inputs : (i : ℕ) (port : Port) → slice_get n.inputs i ≡ Some port → slice_get m.inputs i ≡ Some port
  pub gates : (j : ℕ) (g : Gate) → slice_get n.gates j ≡ Some g → slice_get m.gates j ≡ Some g
  pub latches : (j : ℕ) (l : LatchAt) → slice_get n.latches j ≡ Some l → slice_get m.latches j ≡ Some l
  pub size : length n.drivers ≤ length m.drivers

module _ (n m : NetView) (larger : IsLarger n m) where
  pub input_stays : (i : ℕ) (port : Port) → IsInputOf n i port → IsInputOf m i port
  input_stays i port h = record { owner = larger.drivers _ _ h.owner; named = larger.names _ _ h.named }

  pub gate_stays : (j : ℕ) (g : Gate) → IsGateOf n j g → IsGateOf m j g
  gate_stays j g h = record { owner = larger.drivers _ _ h.owner; above = h.above; cover = h.cover; covered = larger.covers _ _ h.covered; width = h.width }

  pub latch_stays : (j : ℕ) (l : LatchAt) → IsLatchOf n j l → IsLatchOf m j l
  latch_stays j l h = record { owner = larger.drivers _ _ h.owner; named = larger.names _ _ h.named; within = omega (arith, h.within, larger.size) }

  pub driver_stays : (s : ℕ) (d : Driver) → Drives n s d → Drives m s d
  driver_stays s (driver.Input i) h = (h.0, larger.inputs i h.0 h.1, h.2)
  driver_stays s (driver.Gate j) h = (h.0, larger.gates j h.0 h.1, h.2)
  driver_stays s (driver.Latch j) h = (h.0, larger.latches j h.0 h.1, h.2)

  pub outputs_stay : All (λ port. port.signal.0 < length n.drivers) n.outputs → All (λ port. port.signal.0 < length m.drivers) n.outputs
  outputs_stay h k d below = omega (arith, h k d below, larger.size)

-- one input more
module _ (n : NetView) (name : List ℕ) (sound : IsSound n) (distinct : AreDistinct (n.names ++ name ∷ [])) (room : length n.drivers + 1 < 2 ^ 32) where
  larger_input : IsLarger n (with_input n name)
  larger_input = record {
    drivers = λ s d h. slice_get-append n.drivers _ s d h;
    names = λ s w h. slice_get-append n.names _ s w h;
    covers = λ k c h. h;
    inputs = λ i p h. slice_get-append n.inputs _ i p h;
    gates = λ j g h. h;
    latches = λ j l h. h;
    size = omega (arith, length-append n.drivers (driver.Input (length n.inputs) ∷ []));
  }

  input_at : (i : ℕ) (port : Port) → (slice_get n.inputs i ≡ Some port) ⊎ ((i ≡ length n.inputs) × ((record { name = name; signal = record { 0 = length n.drivers } }) ≡ port)) → IsInputOf (with_input n name) i port
  input_at i port (inl old) = input_stays n (with_input n name) larger_input i port (sound.inputs i port old)
  input_at i port (inr new) =
      let here : IsInputOf (with_input n name) (length n.inputs) (record { name = name; signal = record { 0 = length n.drivers } }) = record {
        owner = slice_get-push n.drivers (driver.Input (length n.inputs)) (length n.drivers) refl;
        named = slice_get-push n.names name (length n.drivers) (sym sound.named);
      } in
      subst (λ k. IsInputOf (with_input n name) k port) (sym new.0) (subst (IsInputOf (with_input n name) (length n.inputs)) new.1 here)

  driver_at_input : (s : ℕ) (d : Driver) → (slice_get n.drivers s ≡ Some d) ⊎ ((s ≡ length n.drivers) × (driver.Input (length n.inputs) ≡ d)) → Drives (with_input n name) s d
  driver_at_input s d (inl old) = driver_stays n (with_input n name) larger_input s d (sound.drivers s d old)
  driver_at_input s d (inr new) =
      subst (Drives (with_input n name) s) new.1 (record { name = name; signal = record { 0 = length n.drivers } }, slice_get-push n.inputs _ (length n.inputs) refl, sym new.0)

  pub sound_input : IsSound (with_input n name)
  sound_input = record {
    inputs = λ i port h. input_at i port (slice_get-push_cases n.inputs _ i port h);
    gates = λ j g h. gate_stays n (with_input n name) larger_input j g (sound.gates j g h);
    ordered = sound.ordered;
    latches = λ j l h. latch_stays n (with_input n name) larger_input j l (sound.latches j l h);
    drivers = λ s d h. driver_at_input s d (slice_get-push_cases n.drivers _ s d h);
    outputs = outputs_stay n (with_input n name) larger_input sound.outputs;
    covers = sound.covers;
    named = length-append n.names (name ∷ []) ∙ ap (λ k. k + 1) sound.named ∙ sym (length-append n.drivers (driver.Input (length n.inputs) ∷ []));
    distinct = distinct;
    few = omega (arith, room, length-append n.drivers (driver.Input (length n.inputs) ∷ []));
    few_inputs = omega (arith, sound.few_inputs, length-append n.drivers (driver.Input (length n.inputs) ∷ []), length-append n.inputs ((record { name = name; signal = record { 0 = length n.drivers } }) ∷ []));
    few_gates = omega (arith, sound.few_gates, length-append n.drivers (driver.Input (length n.inputs) ∷ []));
    few_latches = omega (arith, sound.few_latches, length-append n.drivers (driver.Input (length n.inputs) ∷ []));
    few_covers = sound.few_covers;
  }

-- one latch more
module _ (n : NetView) (name : List ℕ) (init : Init) (sound : IsSound n) (distinct : AreDistinct (n.names ++ name ∷ [])) (room : length n.drivers + 1 < 2 ^ 32) where
  abbrev new_latch : LatchAt
  new_latch = record { name = name; next = record { 0 = length n.drivers }; out = record { 0 = length n.drivers }; init = init }

  larger_latch : IsLarger n (with_latch n name init)
  larger_latch = record {
    drivers = λ s d h. slice_get-append n.drivers _ s d h;
    names = λ s w h. slice_get-append n.names _ s w h;
    covers = λ k c h. h;
    inputs = λ i p h. h;
    gates = λ j g h. h;
    latches = λ j l h. slice_get-append n.latches _ j l h;
    size = omega (arith, length-push n.drivers (driver.Latch (length n.latches)));
  }

  latch_at : (j : ℕ) (l : LatchAt) → (slice_get n.latches j ≡ Some l) ⊎ ((j ≡ length n.latches) × (new_latch ≡ l)) → IsLatchOf (with_latch n name init) j l
  latch_at j l (inl old) = latch_stays n (with_latch n name init) larger_latch j l (sound.latches j l old)
  latch_at j l (inr new) =
      let here : IsLatchOf (with_latch n name init) (length n.latches) new_latch = record {
        owner = slice_get-push n.drivers (driver.Latch (length n.latches)) (length n.drivers) refl;
        named = slice_get-push n.names name (length n.drivers) (sym sound.named);
        within = omega (arith, length-push n.drivers (driver.Latch (length n.latches)));
      } in
      subst (λ k. IsLatchOf (with_latch n name init) k l) (sym new.0) (subst (IsLatchOf (with_latch n name init) (length n.latches)) new.1 here)

  driver_at_latch : (s : ℕ) (d : Driver) → (slice_get n.drivers s ≡ Some d) ⊎ ((s ≡ length n.drivers) × (driver.Latch (length n.latches) ≡ d)) → Drives (with_latch n name init) s d
  driver_at_latch s d (inl old) = driver_stays n (with_latch n name init) larger_latch s d (sound.drivers s d old)
  driver_at_latch s d (inr new) =
      subst (Drives (with_latch n name init) s) new.1 (new_latch, slice_get-push n.latches new_latch (length n.latches) refl, sym new.0)

  pub sound_latch : IsSound (with_latch n name init)
  sound_latch = record {
    inputs = λ i port h. input_stays n (with_latch n name init) larger_latch i port (sound.inputs i port h);
    gates = λ j g h. gate_stays n (with_latch n name init) larger_latch j g (sound.gates j g h);
    ordered = sound.ordered;
    latches = λ j l h. latch_at j l (slice_get-push_cases n.latches new_latch j l h);
    drivers = λ s d h. driver_at_latch s d (slice_get-push_cases n.drivers _ s d h);
    outputs = outputs_stay n (with_latch n name init) larger_latch sound.outputs;
    covers = sound.covers;
    named = length-push n.names name ∙ ap (λ k. k + 1) sound.named ∙ sym (length-push n.drivers (driver.Latch (length n.latches)));
    distinct = distinct;
    few = omega (arith, room, length-push n.drivers (driver.Latch (length n.latches)));
    few_inputs = omega (arith, sound.few_inputs, length-push n.drivers (driver.Latch (length n.latches)));
    few_gates = omega (arith, sound.few_gates, length-push n.drivers (driver.Latch (length n.latches)));
    few_latches = omega (arith, sound.few_latches, length-push n.drivers (driver.Latch (length n.latches)), length-push n.latches new_latch);
    few_covers = sound.few_covers;
  }

-- what stands there, and what holds of it
pub some_and : {X : Type 0} (P : X → Type 0) (o : Option X) → IsSomeAnd o P → (x : X) × (o ≡ Some x) × P x
some_and P None h = absurd h
some_and P (Some x) h = (x, refl, h)

-- one gate more
module _ (n : NetView) (name : List ℕ) (fanins : List Signal) (cover : ℕ) (sound : IsSound n) (distinct : AreDistinct (n.names ++ name ∷ [])) (room : length n.drivers + 1 < 2 ^ 32)
    (within : All (λ f. f.0 < length n.drivers) fanins) (fits : IsSomeAnd (slice_get n.covers cover) (λ c. c.width ≡ length fanins)) where
  abbrev new_gate : Gate
  new_gate = record { fanins = fanins; cover = cover; out = record { 0 = length n.drivers } }

  larger_gate : IsLarger n (with_gate n name fanins cover)
  larger_gate = record {
    drivers = λ s d h. slice_get-append n.drivers _ s d h;
    names = λ s w h. slice_get-append n.names _ s w h;
    covers = λ k c h. h;
    inputs = λ i p h. h;
    gates = λ j g h. slice_get-append n.gates _ j g h;
    latches = λ j l h. h;
    size = omega (arith, length-push n.drivers (driver.Gate (length n.gates)));
  }

  gate_at : (j : ℕ) (g : Gate) → (slice_get n.gates j ≡ Some g) ⊎ ((j ≡ length n.gates) × (new_gate ≡ g)) → IsGateOf (with_gate n name fanins cover) j g
  gate_at j g (inl old) = gate_stays n (with_gate n name fanins cover) larger_gate j g (sound.gates j g old)
  gate_at j g (inr new) =
      let covered = some_and (λ c. c.width ≡ length fanins) (slice_get n.covers cover) fits in
      let here : IsGateOf (with_gate n name fanins cover) (length n.gates) new_gate = record {
        owner = slice_get-push n.drivers (driver.Gate (length n.gates)) (length n.drivers) refl;
        above = within;
        cover = covered.0;
        covered = covered.1;
        width = covered.2;
      } in
      subst (λ k. IsGateOf (with_gate n name fanins cover) k g) (sym new.0) (subst (IsGateOf (with_gate n name fanins cover) (length n.gates)) new.1 here)

  driver_at_gate : (s : ℕ) (d : Driver) → (slice_get n.drivers s ≡ Some d) ⊎ ((s ≡ length n.drivers) × (driver.Gate (length n.gates) ≡ d)) → Drives (with_gate n name fanins cover) s d
  driver_at_gate s d (inl old) = driver_stays n (with_gate n name fanins cover) larger_gate s d (sound.drivers s d old)
  driver_at_gate s d (inr new) =
      subst (Drives (with_gate n name fanins cover) s) new.1 (new_gate, slice_get-push n.gates new_gate (length n.gates) refl, sym new.0)

  gate_order : (i j : ℕ) (g h : Gate) → i < j → (slice_get n.gates i ≡ Some g) ⊎ ((i ≡ length n.gates) × (new_gate ≡ g)) → (slice_get n.gates j ≡ Some h) ⊎ ((j ≡ length n.gates) × (new_gate ≡ h))
      → g.out.0 < h.out.0
  gate_order i j g h below (inl first) (inl second) = sound.ordered i j g h below first second
  gate_order i j g h below (inl first) (inr second) =
      let lower : g.out.0 < length n.drivers = out_within n sound i g first in
      subst (λ k. g.out.0 < k) (ap (λ k. k.out.0) second.1) lower
  gate_order i j g h below (inr first) (inl second) =
      let behind : j < length n.gates = slice_get_within n.gates j h second in
      absurd (omega (arith, below, behind, first.0))
  gate_order i j g h below (inr first) (inr second) = absurd (omega (arith, below, first.0, second.0))

  pub sound_gate : IsSound (with_gate n name fanins cover)
  sound_gate = record {
    inputs = λ i port h. input_stays n (with_gate n name fanins cover) larger_gate i port (sound.inputs i port h);
    gates = λ j g h. gate_at j g (slice_get-push_cases n.gates new_gate j g h);
    ordered = λ i j g h below first second. gate_order i j g h below (slice_get-push_cases n.gates new_gate i g first) (slice_get-push_cases n.gates new_gate j h second);
    latches = λ j l h. latch_stays n (with_gate n name fanins cover) larger_gate j l (sound.latches j l h);
    drivers = λ s d h. driver_at_gate s d (slice_get-push_cases n.drivers _ s d h);
    outputs = outputs_stay n (with_gate n name fanins cover) larger_gate sound.outputs;
    covers = sound.covers;
    named = length-push n.names name ∙ ap (λ k. k + 1) sound.named ∙ sym (length-push n.drivers (driver.Gate (length n.gates)));
    distinct = distinct;
    few = omega (arith, room, length-push n.drivers (driver.Gate (length n.gates)));
    few_inputs = omega (arith, sound.few_inputs, length-push n.drivers (driver.Gate (length n.gates)));
    few_gates = omega (arith, sound.few_gates, length-push n.drivers (driver.Gate (length n.gates)), length-push n.gates new_gate);
    few_latches = omega (arith, sound.few_latches, length-push n.drivers (driver.Gate (length n.gates)));
    few_covers = sound.few_covers;
  }

-- one cover more
module _ (n : NetView) (cover : Cover) (sound : IsSound n) (own : IsCoverSound cover) (room : length n.covers + 1 < 2 ^ 32) where
  larger_cover : IsLarger n (with_cover n cover)
  larger_cover = record {
    drivers = λ s d h. h;
    names = λ s w h. h;
    covers = λ k c h. slice_get-append n.covers _ k c h;
    inputs = λ i p h. h;
    gates = λ j g h. h;
    latches = λ j l h. h;
    size = omega arith;
  }

  pub sound_cover : IsSound (with_cover n cover)
  sound_cover = record {
    inputs = λ i port h. input_stays n (with_cover n cover) larger_cover i port (sound.inputs i port h);
    gates = λ j g h. gate_stays n (with_cover n cover) larger_cover j g (sound.gates j g h);
    ordered = sound.ordered;
    latches = λ j l h. latch_stays n (with_cover n cover) larger_cover j l (sound.latches j l h);
    drivers = λ s d h. driver_stays n (with_cover n cover) larger_cover s d (sound.drivers s d h);
    outputs = sound.outputs;
    covers = All-push IsCoverSound n.covers cover sound.covers own;
    named = sound.named;
    distinct = sound.distinct;
    few = sound.few;
    few_inputs = sound.few_inputs;
    few_gates = sound.few_gates;
    few_latches = sound.few_latches;
    few_covers = omega (arith, room, length-push n.covers cover);
  }

-- a net whose drivers, names, covers, inputs, gates and latches are n's
pub sound_same : (n m : NetView) → IsLarger n m → IsSound n → m.inputs ≡ n.inputs → m.gates ≡ n.gates → m.latches ≡ n.latches → m.covers ≡ n.covers → m.drivers ≡ n.drivers → m.names ≡ n.names
    → All (λ port. port.signal.0 < length m.drivers) m.outputs → IsSound m
sound_same n m larger sound inputs gates latches covers drivers names outputs = record {
  inputs = λ i port h. input_stays n m larger i port (sound.inputs i port (subst (λ xs. slice_get xs i ≡ Some port) inputs h));
  gates = λ j g h. gate_stays n m larger j g (sound.gates j g (subst (λ xs. slice_get xs j ≡ Some g) gates h));
  ordered = λ i j g h below first second. sound.ordered i j g h below (subst (λ xs. slice_get xs i ≡ Some g) gates first) (subst (λ xs. slice_get xs j ≡ Some h) gates second);
  latches = λ j l h. latch_stays n m larger j l (sound.latches j l (subst (λ xs. slice_get xs j ≡ Some l) latches h));
  drivers = λ s d h. driver_stays n m larger s d (sound.drivers s d (subst (λ xs. slice_get xs s ≡ Some d) drivers h));
  outputs = outputs;
  covers = subst (All IsCoverSound) (sym covers) sound.covers;
  named = ap length names ∙ sound.named ∙ sym (ap length drivers);
  distinct = subst AreDistinct (sym names) sound.distinct;
  few = subst (λ k. k < 2 ^ 32) (sym (ap length drivers)) sound.few;
  few_inputs = omega (arith, sound.few_inputs, ap length inputs, ap length drivers);
  few_gates = omega (arith, sound.few_gates, ap length gates, ap length drivers);
  few_latches = omega (arith, sound.few_latches, ap length latches, ap length drivers);
  few_covers = omega (arith, sound.few_covers, ap length covers);
}

-- one output more
pub sound_output : (n : NetView) (name : List ℕ) (s : Signal) → IsSound n → s.0 < length n.drivers → IsSound (with_output n name s)
sound_output n name s sound within =
    sound_same n (with_output n name s)
    (record { drivers = λ _ _ h. h; names = λ _ _ h. h; covers = λ _ _ h. h; inputs = λ _ _ h. h; gates = λ _ _ h. h; latches = λ _ _ h. h; size = omega arith })
    sound refl refl refl refl refl refl (All-push (λ (port : Port). port.signal.0 < length n.drivers) n.outputs _ sound.outputs within)

-- another clock
pub sound_clock : (n : NetView) (name : List ℕ) → IsSound n → IsSound (with_clock n name)
sound_clock n name sound =
    sound_same n (with_clock n name)
    (record { drivers = λ _ _ h. h; names = λ _ _ h. h; covers = λ _ _ h. h; inputs = λ _ _ h. h; gates = λ _ _ h. h; latches = λ _ _ h. h; size = omega arith })
    sound refl refl refl refl refl refl sound.outputs
