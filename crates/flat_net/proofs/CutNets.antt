-- The cut net keeps what each net keeps.
use Rattle.std.proofs.Common.{◌≡◌, ◌+◌, ◌<◌, ◌≤◌, ◌∙◌, ℕ, zero, suc, Bool, true, false, not, cond, List, [], ◌∷◌, ◌++◌, length, map, take, filter, get_or, slice_get, unwrap_or, Option, Some, refl, sym, ap, subst, arith, inl, inr, true≢false, eqb, ◌||◌}
use Rattle.std.specs.Prelude.{◌⊎◌}
use Rattle.std.specs.List.{All, list_any}
use Rattle.std.proofs.lemmas.Bool.Decides.{Decides-eqb}
use Rattle.std.proofs.lemmas.List.{length-append, length-map}
use Rattle.std.proofs.lemmas.List.Elements.{All-append, All-map}
use Rattle.std.proofs.lemmas.Map.Keys.{IsDistinct-from_apart}
use Rattle.std.proofs.lemmas.Map.Steps.{length-le_from_distinct_below}
use Rattle.std.proofs.lemmas.Option.{slice_get-get_or, slice_get_within, none-some, same_Some}
use Rattle.circuit_theory.specs.Cover.{Cover}
use Rattle.base_tables.specs.Table.{is_among, AreDistinct}
use Rattle.base_tables.proofs.TableLemmas.{key_at, is_among-Contains}
use Rattle.circuit_theory.proofs.Lists.{of_at}
use Rattle.flat_net.specs.declared.parts.Port.{Port}
use Rattle.flat_net.specs.declared.parts.Gate.{Gate}
use Rattle.flat_net.specs.declared.parts.LatchAt.{LatchAt}
use Rattle.flat_net.specs.declared.parts.Driver.{Driver}
use Rattle.flat_net.specs.declared.parts.Driver.TheVariants as driver
use Rattle.flat_net.specs.View.{NetView}
use Rattle.flat_net.specs.Sound.{IsSound, IsInputOf, IsGateOf, IsLatchOf, Drives}
use Rattle.flat_net.specs.Cut.{latch_at, exposed_names, as_input, as_output, stays, moved_to, IsPlaceOf, ArePlaces, IsCut}
use Rattle.flat_net.proofs.Places.{one_at}
use Rattle.flat_net.proofs.Growth.{slice_get-append}
use Rattle.flat_net.proofs.Exposed.{map_at, latch_there, one_latch, exposed_within, distinct_names}

-- ---- distinct numbers below n are at most n

number_at : (xs : List ℕ) (q : ℕ) → list_any (eqb q) xs ≡ true → (i : ℕ) × (slice_get xs i ≡ Some q)
number_at [] q h = absurd (true≢false (sym h))
number_at (x ∷ xs) q h = by (eqb q x) refl (λ k. number_at xs q k)
  where
    by : (b : Bool) → eqb q x ≡ b → (list_any (eqb q) xs ≡ true → (i : ℕ) × (slice_get xs i ≡ Some q)) → (i : ℕ) × (slice_get (x ∷ xs) i ≡ Some q)
    by true e later = (0, ap Some (sym ((Decides-eqb q x).0 e)))
    by false e later = let rest = later (sym (ap (λ b. b || list_any (eqb q) xs) e) ∙ h) in (suc rest.0, rest.1)

pub few_distinct : (xs : List ℕ) (size : ℕ) → AreDistinct xs → ((i s : ℕ) → slice_get xs i ≡ Some s → s < size) → length xs ≤ size
few_distinct xs size distinct below = length-le_from_distinct_below xs size (IsDistinct-from_apart eqb xs apart) (λ q h. let at = number_at xs q h in below at.0 q at.1)
  where
    apart : (i j d : ℕ) → i < j → j < length xs → eqb (get_or xs i d) (get_or xs j d) ≡ false
    apart i j d before within = by (eqb (get_or xs i d) (get_or xs j d)) refl
      where
        by : (b : Bool) → eqb (get_or xs i d) (get_or xs j d) ≡ b → eqb (get_or xs i d) (get_or xs j d) ≡ false
        by true e =
            let same : get_or xs i d ≡ get_or xs j d = (Decides-eqb (get_or xs i d) (get_or xs j d)).0 e in
            let first : slice_get xs i ≡ Some (get_or xs j d) = slice_get-get_or xs i d (omega (arith, before, within)) ∙ ap Some same in
            let one : i ≡ j = distinct i j (get_or xs j d) first (slice_get-get_or xs j d within) in
            absurd (omega (arith, before, one))
        by false e = e

-- what stands in two lists, one behind the other
pub slice_get-append_cases : {X : Type 0} (xs ys : List X) (i : ℕ) (x : X) → slice_get (xs ++ ys) i ≡ Some x → (slice_get xs i ≡ Some x) ⊎ ((k : ℕ) × (i ≡ length xs + k) × (slice_get ys k ≡ Some x))
slice_get-append_cases [] ys i x h = inr (i, omega arith, h)
slice_get-append_cases (z ∷ xs) ys zero x h = inl h
slice_get-append_cases {X} (z ∷ xs) ys (suc i) x h = later (slice_get-append_cases xs ys i x h)
  where
    later : (slice_get xs i ≡ Some x) ⊎ ((k : ℕ) × (i ≡ length xs + k) × (slice_get ys k ≡ Some x)) → (slice_get xs i ≡ Some x) ⊎ ((k : ℕ) × (suc i ≡ suc (length xs) + k) × (slice_get ys k ≡ Some x))
    later (inl old) = inl old
    later (inr new) = inr (new.0, omega (arith, new.1), new.2)

pub slice_get-append_right : {X : Type 0} (xs ys : List X) (k : ℕ) → slice_get (xs ++ ys) (length xs + k) ≡ slice_get ys k
slice_get-append_right [] ys k = ap (slice_get ys) (omega arith)
slice_get-append_right (z ∷ xs) ys k =
    let step : suc (length xs) + k ≡ suc (length xs + k) = omega arith in
    ap (slice_get (z ∷ (xs ++ ys))) step ∙ slice_get-append_right xs ys k

-- ---- the elements that pass, by their places

pub filter-at : {X : Type 0} (p : X → Bool) (xs : List X) (j : ℕ) (x : X) → slice_get xs j ≡ Some x → p x ≡ true → slice_get (filter p xs) (length (filter p (take j xs))) ≡ Some x
filter-at p [] j x h t = absurd (none-some x h)
filter-at p (y ∷ xs) zero x h t =
    let same : y ≡ x = same_Some y x h in
    ap (λ b. slice_get (cond b (y ∷ filter p xs) (filter p xs)) 0) (ap p same ∙ t) ∙ h
filter-at {X} p (y ∷ xs) (suc j) x h t = by (p y) (filter-at p xs j x h t)
  where
    by : (b : Bool) → slice_get (filter p xs) (length (filter p (take j xs))) ≡ Some x →
        slice_get (cond b (y ∷ filter p xs) (filter p xs)) (length (cond b (y ∷ filter p (take j xs)) (filter p (take j xs)))) ≡ Some x
    by true k = k
    by false k = k

pub record Passing {X : Type 0} (p : X → Bool) (xs : List X) (m : ℕ) (x : X) : Type 0 where
  pub j : ℕ
  pub at : slice_get xs j ≡ Some x
  pub test : p x ≡ true
  pub rank : m ≡ length (filter p (take j xs))

pub filter-from : {X : Type 0} (p : X → Bool) (xs : List X) (m : ℕ) (x : X) → slice_get (filter p xs) m ≡ Some x → Passing p xs m x
filter-from p [] m x h = absurd (none-some x h)
filter-from {X} p (y ∷ xs) m x h = by (λ k g. filter-from p xs k x g) (p y) refl m h
  where
    by : ((k : ℕ) → slice_get (filter p xs) k ≡ Some x → Passing p xs k x) → (b : Bool) → p y ≡ b → (k : ℕ) → slice_get (cond b (y ∷ filter p xs) (filter p xs)) k ≡ Some x → Passing p (y ∷ xs) k x
    by later true e zero g = let same : y ≡ x = same_Some y x g in record { j = 0; at = g; test = sym (ap p same) ∙ e; rank = refl }
    by later true e (suc k) g =
        let rest = later k g in
        record { j = suc rest.j; at = rest.at; test = rest.test; rank = ap suc rest.rank ∙ ap (λ b. length (cond b (y ∷ filter p (take rest.j xs)) (filter p (take rest.j xs)))) (sym e) }
    by later false e k g =
        let rest = later k g in
        record { j = suc rest.j; at = rest.at; test = rest.test; rank = rest.rank ∙ ap (λ b. length (cond b (y ∷ filter p (take rest.j xs)) (filter p (take rest.j xs)))) (sym e) }

pub length-filter-le : {X : Type 0} (p : X → Bool) (xs : List X) → length (filter p xs) ≤ length xs
length-filter-le p [] = omega arith
length-filter-le {X} p (x ∷ xs) = by (p x) (length-filter-le p xs)
  where
    by : (b : Bool) → length (filter p xs) ≤ length xs → length (cond b (x ∷ filter p xs) (filter p xs)) ≤ suc (length xs)
    by true h = omega (arith, h)
    by false h = omega (arith, h)

-- a name that stands there is among the names
pub is_among_here : (names : List (List ℕ)) (k : ℕ) (name : List ℕ) → slice_get names k ≡ Some name → is_among names name ≡ true
is_among_here names k name here = is_among-Contains names name (of_at names k name here)

-- ---- the cut net

-- what a cut net is seen as, where its latches' drivers are these
abbrev pub cut_view : NetView → List ℕ → List Driver → NetView
cut_view n exposed places = record {
  inputs = n.inputs ++ map (λ j. as_input (latch_at n j)) exposed;
  outputs = n.outputs ++ map (λ j. as_output (latch_at n j)) exposed;
  gates = n.gates;
  latches = filter (stays (exposed_names n exposed)) n.latches;
  covers = n.covers;
  drivers = map (moved_to places) n.drivers;
  names = n.names;
  clock = n.clock;
}

cut_input_gate : {i j : ℕ} → driver.Input i ≡ driver.Latch j → ⊥
cut_input_gate e = cc

cut_same_input : {i j : ℕ} → driver.Input i ≡ driver.Input j → i ≡ j
cut_same_input e = cc

cut_same_latch : {i j : ℕ} → driver.Latch i ≡ driver.Latch j → i ≡ j
cut_same_latch e = cc

module _ (n : NetView) (sound : IsSound n) (exposed : List ℕ) (within : All (λ j. j < length n.latches) exposed) (distinct : AreDistinct exposed) where
  -- the signals of the inputs of the cut net
  abbrev signals : List ℕ
  signals = map (λ (port : Port). port.signal.0) n.inputs ++ map (λ j. (latch_at n j).out.0) exposed

  -- which input drives such a signal now, or which latch
  abbrev Owner : ℕ → ℕ → Type 0
  Owner i s = (slice_get n.drivers s ≡ Some (driver.Input i)) ⊎ ((k j : ℕ) × (i ≡ length n.inputs + k) × (slice_get exposed k ≡ Some j) × (slice_get n.drivers s ≡ Some (driver.Latch j)))

  exposed_owner : (k j : ℕ) → slice_get exposed k ≡ Some j → slice_get n.drivers (latch_at n j).out.0 ≡ Some (driver.Latch j)
  exposed_owner k j here = (sound.latches j _ (latch_there n sound j (exposed_within n sound exposed within distinct k j here))).owner

  owner_of : (i s : ℕ) → slice_get signals i ≡ Some s → Owner i s
  owner_of i s h = pick (slice_get-append_cases (map (λ (port : Port). port.signal.0) n.inputs) (map (λ j. (latch_at n j).out.0) exposed) i s h)
    where
      pick : (slice_get (map (λ (port : Port). port.signal.0) n.inputs) i ≡ Some s) ⊎ ((k : ℕ) × (i ≡ length (map (λ (port : Port). port.signal.0) n.inputs) + k) × (slice_get (map (λ j. (latch_at n j).out.0) exposed) k ≡ Some s))
          → (slice_get n.drivers s ≡ Some (driver.Input i)) ⊎ ((k j : ℕ) × (i ≡ length n.inputs + k) × (slice_get exposed k ≡ Some j) × (slice_get n.drivers s ≡ Some (driver.Latch j)))
      pick (inl old) =
          let port = key_at (λ (p : Port). p.signal.0) n.inputs i s old in
          inl (subst (λ t. slice_get n.drivers t ≡ Some (driver.Input i)) port.2 (sound.inputs i port.0 port.1).owner)
      pick (inr new) =
          let latch = key_at (λ j. (latch_at n j).out.0) exposed new.0 s new.2 in
          inr (
            new.0,
            latch.0,
            new.1 ∙ ap (λ m. m + new.0) (length-map n.inputs (λ (p : Port). p.signal.0)),
            latch.1,
            subst (λ t. slice_get n.drivers t ≡ Some (driver.Latch latch.0)) latch.2 (exposed_owner new.0 latch.0 latch.1),
          )

  distinct_signals : AreDistinct signals
  distinct_signals i j s hi hj = pick (owner_of i s hi) (owner_of j s hj)
    where
      pick : Owner i s → Owner j s → i ≡ j
      pick (inl p) (inl q) = cut_same_input (one_at n.drivers s _ _ p q)
      pick (inl p) (inr q) = absurd (cut_input_gate (one_at n.drivers s _ _ p q.4))
      pick (inr p) (inl q) = absurd (cut_input_gate (one_at n.drivers s _ _ q p.4))
      pick (inr p) (inr q) =
          let latch : p.1 ≡ q.1 = cut_same_latch (one_at n.drivers s _ _ p.4 q.4) in
          let place : p.0 ≡ q.0 = distinct p.0 q.0 p.1 p.3 (q.3 ∙ ap Some (sym latch)) in
          omega (arith, p.2, q.2, place)

  signals_within : (i s : ℕ) → slice_get signals i ≡ Some s → s < length n.drivers
  signals_within i s h = pick (owner_of i s h)
    where
      pick : Owner i s → s < length n.drivers
      pick (inl p) = slice_get_within n.drivers s _ p
      pick (inr p) = slice_get_within n.drivers s _ p.4

  -- the inputs of the cut net are no more than the signals
  pub few_cut : length n.inputs + length exposed ≤ length n.drivers
  few_cut =
      let few : length signals ≤ length n.drivers = few_distinct signals (length n.drivers) distinct_signals signals_within in
      let len : length signals ≡ length n.inputs + length exposed =
      length-append (map (λ (p : Port). p.signal.0) n.inputs) (map (λ j. (latch_at n j).out.0) exposed)
      ∙ ap (λ m. m + length (map (λ j. (latch_at n j).out.0) exposed)) (length-map n.inputs (λ (p : Port). p.signal.0))
      ∙ ap (λ m. length n.inputs + m) (length-map exposed (λ j. (latch_at n j).out.0)) in
      omega (arith, few, len)

  module _ (places : List Driver) (right : ArePlaces n (exposed_names n exposed) places) where
    abbrev m : NetView
    m = cut_view n exposed places

    abbrev names : List (List ℕ)
    names = exposed_names n exposed

    moved_at : (s : ℕ) (d : Driver) → slice_get n.drivers s ≡ Some d → slice_get m.drivers s ≡ Some (moved_to places d)
    moved_at s d h = map_at (moved_to places) n.drivers s d h

    -- the new driver of a latch's signal
    latch_moved : (j : ℕ) (l : LatchAt) → slice_get n.latches j ≡ Some l →
        (d : Driver) × (slice_get m.drivers l.out.0 ≡ Some d) × IsPlaceOf names (length n.inputs) (length (filter (stays names) (take j n.latches))) l.name d
    latch_moved j l h =
        let d = right j l h in
        (d.0, moved_at l.out.0 (driver.Latch j) (sound.latches j l h).owner ∙ ap (λ o. Some (unwrap_or o (driver.Latch j))) d.1, d.2)

    -- an exposed latch's signal is driven by the input that it becomes
    exposed_moved : (k j : ℕ) → slice_get exposed k ≡ Some j → slice_get m.drivers (latch_at n j).out.0 ≡ Some (driver.Input (length n.inputs + k))
    exposed_moved k j here =
        let at : slice_get n.latches j ≡ Some (latch_at n j) = latch_there n sound j (exposed_within n sound exposed within distinct k j here) in
        let name : slice_get names k ≡ Some (latch_at n j).name = map_at (λ i. (latch_at n i).name) exposed k j here in
        let d = latch_moved j (latch_at n j) at in
        pick name d.0 d.1 d.2
      where
        pick : slice_get names k ≡ Some (latch_at n j).name → (d : Driver) → slice_get m.drivers (latch_at n j).out.0 ≡ Some d → IsPlaceOf names (length n.inputs) (length (filter (stays names) (take j n.latches))) (latch_at n j).name d
            → slice_get m.drivers (latch_at n j).out.0 ≡ Some (driver.Input (length n.inputs + k))
        pick name (driver.Input i) drives own =
            let same : own.0 ≡ k = distinct_names n sound exposed within distinct own.0 k (latch_at n j).name own.2 name in
            drives ∙ ap (λ x. Some (driver.Input x)) (own.1 ∙ ap (λ x. length n.inputs + x) same)
        pick name (driver.Gate i) drives own = absurd own
        pick name (driver.Latch i) drives own =
            absurd (true≢false (sym (is_among_here names k (latch_at n j).name name) ∙ own.1))

    cut_input : (i : ℕ) (port : Port) → slice_get m.inputs i ≡ Some port → IsInputOf m i port
    cut_input i port h = pick (slice_get-append_cases n.inputs (map (λ j. as_input (latch_at n j)) exposed) i port h)
      where
        pick : (slice_get n.inputs i ≡ Some port) ⊎ ((k : ℕ) × (i ≡ length n.inputs + k) × (slice_get (map (λ j. as_input (latch_at n j)) exposed) k ≡ Some port)) → IsInputOf m i port
        pick (inl old) = let own = sound.inputs i port old in record { owner = moved_at port.signal.0 (driver.Input i) own.owner; named = own.named }
        pick (inr new) =
            let latch = key_at (λ j. as_input (latch_at n j)) exposed new.0 port new.2 in
            let at = latch_there n sound latch.0 (exposed_within n sound exposed within distinct new.0 latch.0 latch.1) in
            let here : IsInputOf m (length n.inputs + new.0) (as_input (latch_at n latch.0)) = record {
              owner = exposed_moved new.0 latch.0 latch.1;
              named = (sound.latches latch.0 _ at).named;
            } in
            subst (λ k. IsInputOf m k port) (sym new.1) (subst (IsInputOf m (length n.inputs + new.0)) latch.2 here)

    cut_latch : (i : ℕ) (l : LatchAt) → slice_get m.latches i ≡ Some l → IsLatchOf m i l
    cut_latch i l h =
        let old = filter-from (stays names) n.latches i l h in
        let own = sound.latches old.j l old.at in
        let d = latch_moved old.j l old.at in
        record { owner = pick old d.0 d.1 d.2; named = own.named; within = omega (arith, own.within, length-map n.drivers (moved_to places)) }
      where
        stays_so : is_among names l.name ≡ true → stays names l ≡ true → ⊥
        stays_so e t = true≢false (sym t ∙ ap not e)

        pick : (old : Passing (stays names) n.latches i l) → (d : Driver) → slice_get m.drivers l.out.0 ≡ Some d → IsPlaceOf names (length n.inputs) (length (filter (stays names) (take old.j n.latches))) l.name d
            → slice_get m.drivers l.out.0 ≡ Some (driver.Latch i)
        pick old (driver.Input k) drives own = absurd (stays_so (is_among_here names own.0 l.name own.2) old.test)
        pick old (driver.Gate k) drives own = absurd own
        pick old (driver.Latch k) drives own = drives ∙ ap (λ x. Some (driver.Latch x)) (own.0 ∙ sym old.rank)

    cut_drives : (s : ℕ) (d : Driver) → slice_get n.drivers s ≡ Some d → Drives n s d → Drives m s (moved_to places d)
    cut_drives s (driver.Input i) at h = (h.0, slice_get-append n.inputs (map (λ j. as_input (latch_at n j)) exposed) i h.0 h.1, h.2)
    cut_drives s (driver.Gate j) at h = h
    cut_drives s (driver.Latch j) at h =
        let d = right j h.0 h.1 in
        subst (λ o. Drives m s (unwrap_or o (driver.Latch j))) (sym d.1) (pick h.0 h.1 h.2 d.0 d.2)
      where
        pick : (l : LatchAt) → slice_get n.latches j ≡ Some l → l.out.0 ≡ s → (d : Driver) → IsPlaceOf names (length n.inputs) (length (filter (stays names) (take j n.latches))) l.name d → Drives m s d
        pick l here out (driver.Input i) own =
            let latch = key_at (λ k. (latch_at n k).name) exposed own.0 l.name own.2 in
            let there = exposed_within n sound exposed within distinct own.0 latch.0 latch.1 in
            let name : (latch_at n j).name ≡ l.name = ap (λ k. k.name) (one_at n.latches j (latch_at n j) l (latch_there n sound j (slice_get_within n.latches j l here)) here) in
            let same : latch.0 ≡ j = one_latch n sound latch.0 j l.name there (slice_get_within n.latches j l here) latch.2 name in
            let is : latch_at n latch.0 ≡ l = one_at n.latches j (latch_at n latch.0) l (ap (slice_get n.latches) (sym same) ∙ latch_there n sound latch.0 there) here in (
              as_input (latch_at n latch.0),
              ap (slice_get m.inputs) own.1 ∙ slice_get-append_right n.inputs (map (λ k. as_input (latch_at n k)) exposed) own.0 ∙ map_at (λ k. as_input (latch_at n k)) exposed own.0 latch.0 latch.1,
              ap (λ k. k.out.0) is ∙ out,
            )
        pick l here out (driver.Gate i) own = absurd own
        pick l here out (driver.Latch i) own =
            (l, ap (slice_get m.latches) own.0 ∙ filter-at (stays names) n.latches j l here (ap not own.1), out)

    cut_driver : (s : ℕ) (d : Driver) → slice_get m.drivers s ≡ Some d → Drives m s d
    cut_driver s d h =
        let old = key_at (moved_to places) n.drivers s d h in
        subst (Drives m s) old.2 (cut_drives s old.0 old.1 (sound.drivers s old.0 old.1))

    cut_gate : (j : ℕ) (g : Gate) → slice_get n.gates j ≡ Some g → IsGateOf m j g
    cut_gate j g h =
        let own = sound.gates j g h in
        record { owner = moved_at g.out.0 (driver.Gate j) own.owner; above = own.above; cover = own.cover; covered = own.covered; width = own.width }

    -- what an exposed latch takes over is in range
    nexts_within : All (λ j. (as_output (latch_at n j)).signal.0 < length n.drivers) exposed
    nexts_within k d below =
        let here : slice_get exposed k ≡ Some (get_or exposed k d) = slice_get-get_or exposed k d below in
        (sound.latches _ _ (latch_there n sound _ (exposed_within n sound exposed within distinct k _ here))).within

    cut_outputs : All (λ port. port.signal.0 < length m.drivers) m.outputs
    cut_outputs =
        subst (λ size. All (λ port. port.signal.0 < size) m.outputs) (sym (length-map n.drivers (moved_to places)))
        (All-append (λ (port : Port). port.signal.0 < length n.drivers) n.outputs (map (λ j. as_output (latch_at n j)) exposed) sound.outputs
        (All-map (λ (port : Port). port.signal.0 < length n.drivers) (λ j. as_output (latch_at n j)) exposed nexts_within))

    pub sound_cut : IsSound m
    sound_cut = record {
      inputs = cut_input;
      gates = cut_gate;
      ordered = sound.ordered;
      latches = cut_latch;
      drivers = cut_driver;
      outputs = cut_outputs;
      covers = sound.covers;
      named = sound.named ∙ sym (length-map n.drivers (moved_to places));
      distinct = sound.distinct;
      few = omega (arith, sound.few, length-map n.drivers (moved_to places));
      few_inputs = omega (arith, few_cut, length-append n.inputs (map (λ j. as_input (latch_at n j)) exposed), length-map exposed (λ j. as_input (latch_at n j)), length-map n.drivers (moved_to places));
      few_gates = omega (arith, sound.few_gates, length-map n.drivers (moved_to places));
      few_latches = omega (arith, sound.few_latches, length-filter-le (stays names) n.latches, length-map n.drivers (moved_to places));
      few_covers = sound.few_covers;
    }

    pub cut_is : IsCut n m exposed
    cut_is = record { inputs = refl; outputs = refl; latches = refl; gates = refl; covers = refl; names = refl; clock = refl; size = length-map n.drivers (moved_to places) }

-- the lists of the cut net make its view
pub cut_view-is : (n : NetView) (exposed : List ℕ) (places : List Driver) (inputs outputs : List Port) (gates : List Gate) (latches : List LatchAt) (covers : List Cover) (drivers : List Driver) (own_names : List (List ℕ)) (clock : Option (List ℕ))
    → inputs ≡ n.inputs ++ map (λ j. as_input (latch_at n j)) exposed → outputs ≡ n.outputs ++ map (λ j. as_output (latch_at n j)) exposed → gates ≡ n.gates
    → latches ≡ filter (stays (exposed_names n exposed)) n.latches → covers ≡ n.covers → drivers ≡ map (moved_to places) n.drivers → own_names ≡ n.names → clock ≡ n.clock
    → ◌≡◌ {A = NetView} (record { inputs = inputs; outputs = outputs; gates = gates; latches = latches; covers = covers; drivers = drivers; names = own_names; clock = clock }) (cut_view n exposed places)
cut_view-is n exposed places inputs outputs gates latches covers drivers own_names clock e1 e2 e3 e4 e5 e6 e7 e8 =
    λ i. record { inputs = e1 i; outputs = e2 i; gates = e3 i; latches = e4 i; covers = e5 i; drivers = e6 i; names = e7 i; clock = e8 i }
