-- A net while it is copied: one input, latch or gate more.
use Rattle.std.proofs.Common.{◌≡◌, ◌∙◌, ◌+◌, ◌<◌, ℕ, zero, suc, false, List, [], ◌∷◌, ◌++◌, map, length, take, drop, get_or, slice_get, Some, refl, sym, ap, subst, arith}
use Rattle.std.proofs.lemmas.List.{length-take-le, length-map, map-append}
use Rattle.std.proofs.lemmas.Option.{none-some, same_Some, slice_get_read, slice_get_within}
use Rattle.base_tables.proofs.TableLemmas.{not_before, take-push}
use Rattle.base_tables.specs.Table.{is_among}
use Rattle.circuit_theory.specs.Cover.{Cover}
use Rattle.circuit_theory.proofs.Lists.{map_at}
use Rattle.circuit_theory.proofs.Numbers.{slice_get-map}
use Rattle.flat_net.specs.declared.parts.Port.{Port}
use Rattle.flat_net.specs.declared.parts.Gate.{Gate}
use Rattle.flat_net.specs.declared.parts.LatchAt.{LatchAt}
use Rattle.flat_net.specs.declared.parts.Driver.{Driver}
use Rattle.flat_net.specs.declared.parts.Driver.TheVariants as driver
use Rattle.flat_net.specs.Makes.{next_set, with_cover, with_gate, with_input, with_latch}
use Rattle.flat_net.specs.Sound.{IsSound}
use Rattle.flat_net.specs.View.{NetView, cover_of}
use Rattle.net_names.specs.Fronts.{begun, front, numbered, unnamed}

-- what a loop goes over at a place
pub item_at : {X : Type 0} (xs ys : List X) (i : ℕ) (x : X) → ys ≡ xs → i < length ys → x ≡ get_or ys i x → slice_get xs i ≡ Some x
item_at xs ys i x same low is = subst (λ (zs : List _). slice_get zs i ≡ Some x) same (slice_get_read ys (length ys) i x refl low is)

-- the latch under the name that it has in the net that is seen: what else it has is the same
pub record LatchSeen (latches : List LatchAt) (j : ℕ) (l : LatchAt) : Type 0 where
  pub latch : LatchAt
  pub at : slice_get latches j ≡ Some latch
  pub out : latch.out ≡ l.out
  pub next : latch.next ≡ l.next
  pub init : l.init ≡ latch.init

pub latch_seen : (seen items : List LatchAt) (j : ℕ) (l : LatchAt) → map unnamed items ≡ map unnamed seen → j < length items → l ≡ get_or items j l → LatchSeen seen j l
latch_seen seen items j l same low is =
    let at = slice_get_read items (length items) j l refl low is in
    let there : slice_get (map unnamed seen) j ≡ Some (unnamed l) = ap (λ (xs : List LatchAt). slice_get xs j) (sym same) ∙ slice_get-map unnamed items j l at in
    let found = map_at unnamed seen j (unnamed l) there in
    record {
      latch = found.0;
      at = found.1;
      out = ap (λ (x : LatchAt). x.out) found.2;
      next = ap (λ (x : LatchAt). x.next) found.2;
      init = sym (ap (λ (x : LatchAt). x.init) found.2);
    }

-- so many are taken
pub taken : {X : Type 0} (xs : List X) (i : ℕ) (x : X) → slice_get xs i ≡ Some x → length (take i xs) ≡ i
taken xs i x at = let low = slice_get_within xs i x at in length-take-le i xs (omega (arith, low))

numbered-push : (k : ℕ) (gs : List Gate) (g : Gate) → numbered k (gs ++ g ∷ []) ≡ numbered k gs ++ (record g { cover = k + length gs }) ∷ []
numbered-push k [] g = let e : k ≡ k + 0 = omega arith in ap (λ (j : ℕ). (record g { cover = j }) ∷ []) e
numbered-push k (h ∷ gs) g =
    let e : k + 1 + length gs ≡ k + suc (length gs) = omega arith in
    ap (λ (rest : List Gate). (record h { cover = k }) ∷ rest) (numbered-push (k + 1) gs g ∙ ap (λ (j : ℕ). numbered (k + 1) gs ++ (record g { cover = j }) ∷ []) e)

pub numbered-length : (k : ℕ) (gs : List Gate) → length (numbered k gs) ≡ length gs
numbered-length k [] = refl
numbered-length k (g ∷ gs) = ap suc (numbered-length (k + 1) gs)

module _ (n : NetView) (sound : IsSound n) where
  -- the name of a signal is new where the lower ones have theirs
  pub fresh : (s : ℕ) (name : List ℕ) → slice_get n.names s ≡ Some name → is_among (take s n.names) name ≡ false
  fresh s name at = not_before n.names s name sound.distinct at

  module _ (s : ℕ) (at : s < length n.drivers) where
    pub drivers_taken : length (take s n.drivers) ≡ s
    drivers_taken = length-take-le s n.drivers (omega (arith, at))

  -- one input more
  pub input_step : (i s : ℕ) (p : Port) → slice_get n.inputs i ≡ Some p → p.signal.0 ≡ s → i ≡ s → with_input (front n i 0 0 s) p.name ≡ front n (i + 1) 0 0 (s + 1)
  input_step i s p at place same =
      let own = sound.inputs i p at in
      let low = slice_get_within n.drivers p.signal.0 (driver.Input i) own.owner in
      let long = drivers_taken s (omega (arith, low, place)) in
      let port_is : ◌≡◌ {A = Port} (record { name = p.name; signal = record { 0 = length (take s n.drivers) } }) p = ap (λ (k : ℕ). let q : Port = record { name = p.name; signal = record { 0 = k } } in q) (long ∙ sym place) in
      let inputs_are : take i n.inputs ++ (record { name = p.name; signal = record { 0 = length (take s n.drivers) } }) ∷ [] ≡ take (i + 1) n.inputs = ap (λ (q : Port). take i n.inputs ++ q ∷ []) port_is ∙ take-push n.inputs i p at in
      let drivers_are : take s n.drivers ++ driver.Input (length (take i n.inputs)) ∷ [] ≡ take (s + 1) n.drivers =
      ap (λ (k : ℕ). take s n.drivers ++ driver.Input k ∷ []) (taken n.inputs i p at) ∙ take-push n.drivers s (driver.Input i) (subst (λ (k : ℕ). slice_get n.drivers k ≡ Some (driver.Input i)) place own.owner) in
      let names_are : take s n.names ++ p.name ∷ [] ≡ take (s + 1) n.names = take-push n.names s p.name (subst (λ (k : ℕ). slice_get n.names k ≡ Some p.name) place own.named) in
      together inputs_are drivers_are names_are
    where
      together : {is js : List Port} {ds es : List Driver} {ns ms : List (List ℕ)} → is ≡ js → ds ≡ es → ns ≡ ms →
          ◌≡◌ {A = NetView} (record (front n i 0 0 s) { inputs = is; drivers = ds; names = ns }) (record (front n i 0 0 s) { inputs = js; drivers = es; names = ms })
      together {is = is} {js = js} {ds = ds} {es = es} {ns = ns} {ms = ms} p q r =
          ap (λ (xs : List Port). let m : NetView = record (front n i 0 0 s) { inputs = xs; drivers = ds; names = ns } in m) p
          ∙ ap (λ (xs : List Driver). let m : NetView = record (front n i 0 0 s) { inputs = js; drivers = xs; names = ns } in m) q
          ∙ ap (λ (xs : List (List ℕ)). let m : NetView = record (front n i 0 0 s) { inputs = js; drivers = es; names = xs } in m) r

  -- one latch more
  pub latch_step : (i j s : ℕ) (l : LatchAt) → slice_get n.latches j ≡ Some l → l.out.0 ≡ s → with_latch (front n i j 0 s) l.name l.init ≡ front n i (j + 1) 0 (s + 1)
  latch_step i j s l at place =
      let own = sound.latches j l at in
      let low = slice_get_within n.drivers l.out.0 (driver.Latch j) own.owner in
      let long = drivers_taken s (omega (arith, low, place)) in
      let latch_is : ◌≡◌ {A = LatchAt} (record { name = l.name; next = record { 0 = length (take s n.drivers) }; out = record { 0 = length (take s n.drivers) }; init = l.init }) (begun l) =
      ap (λ (k : ℕ). let q : LatchAt = record { name = l.name; next = record { 0 = k }; out = record { 0 = k }; init = l.init } in q) (long ∙ sym place) in
      let latches_are = ap (λ (q : LatchAt). map begun (take j n.latches) ++ q ∷ []) latch_is ∙ sym (map-append begun (take j n.latches) (l ∷ [])) ∙ ap (map begun) (take-push n.latches j l at) in
      let count : length (map begun (take j n.latches)) ≡ j = length-map (take j n.latches) begun ∙ taken n.latches j l at in
      let drivers_are : take s n.drivers ++ driver.Latch (length (map begun (take j n.latches))) ∷ [] ≡ take (s + 1) n.drivers =
      ap (λ (k : ℕ). take s n.drivers ++ driver.Latch k ∷ []) count ∙ take-push n.drivers s (driver.Latch j) (subst (λ (k : ℕ). slice_get n.drivers k ≡ Some (driver.Latch j)) place own.owner) in
      let names_are : take s n.names ++ l.name ∷ [] ≡ take (s + 1) n.names = take-push n.names s l.name (subst (λ (k : ℕ). slice_get n.names k ≡ Some l.name) place own.named) in
      together latches_are drivers_are names_are
    where
      together : {is js : List LatchAt} {ds es : List Driver} {ns ms : List (List ℕ)} → is ≡ js → ds ≡ es → ns ≡ ms →
          ◌≡◌ {A = NetView} (record (front n i j 0 s) { latches = is; drivers = ds; names = ns }) (record (front n i j 0 s) { latches = js; drivers = es; names = ms })
      together {is = is} {js = js} {ds = ds} {es = es} {ns = ns} {ms = ms} p q r =
          ap (λ (xs : List LatchAt). let m : NetView = record (front n i j 0 s) { latches = xs; drivers = ds; names = ns } in m) p
          ∙ ap (λ (xs : List Driver). let m : NetView = record (front n i j 0 s) { latches = js; drivers = xs; names = ns } in m) q
          ∙ ap (λ (xs : List (List ℕ)). let m : NetView = record (front n i j 0 s) { latches = js; drivers = es; names = xs } in m) r

  -- one gate more, with a cover of its own
  pub gate_step : (i j k s : ℕ) (g : Gate) (name : List ℕ) → slice_get n.gates k ≡ Some g → g.out.0 ≡ s → slice_get n.names s ≡ Some name →
      with_gate (with_cover (front n i j k s) (cover_of n.covers g)) name g.fanins k ≡ front n i j (k + 1) (s + 1)
  gate_step i j k s g name at place named =
      let own = sound.gates k g at in
      let low = slice_get_within n.drivers g.out.0 (driver.Gate k) own.owner in
      let long = drivers_taken s (omega (arith, low, place)) in
      let count : length (take k n.gates) ≡ k = taken n.gates k g at in
      let gate_is : ◌≡◌ {A = Gate} (record { fanins = g.fanins; cover = k; out = record { 0 = length (take s n.drivers) } }) (record g { cover = 0 + length (take k n.gates) }) =
      ap (λ (x : ℕ). let q : Gate = record { fanins = g.fanins; cover = k; out = record { 0 = x } } in q) (long ∙ sym place) ∙ ap (λ (x : ℕ). let q : Gate = record g { cover = x } in q) (let e : k ≡ 0 + length (take k n.gates) = omega (arith, count) in e) in
      let gates_are = ap (λ (q : Gate). numbered 0 (take k n.gates) ++ q ∷ []) gate_is ∙ sym (numbered-push 0 (take k n.gates) g) ∙ ap (numbered 0) (take-push n.gates k g at) in
      let covers_are = sym (map-append (cover_of n.covers) (take k n.gates) (g ∷ [])) ∙ ap (map (cover_of n.covers)) (take-push n.gates k g at) in
      let drivers_are : take s n.drivers ++ driver.Gate (length (numbered 0 (take k n.gates))) ∷ [] ≡ take (s + 1) n.drivers =
      ap (λ (x : ℕ). take s n.drivers ++ driver.Gate x ∷ []) (numbered-length 0 (take k n.gates) ∙ count) ∙ take-push n.drivers s (driver.Gate k) (subst (λ (x : ℕ). slice_get n.drivers x ≡ Some (driver.Gate k)) place own.owner) in
      let names_are : take s n.names ++ name ∷ [] ≡ take (s + 1) n.names = take-push n.names s name named in
      together gates_are covers_are drivers_are names_are
    where
      together : {is js : List Gate} {cs bs : List Cover} {ds es : List Driver} {ns ms : List (List ℕ)} → is ≡ js → cs ≡ bs → ds ≡ es → ns ≡ ms →
          ◌≡◌ {A = NetView} (record (front n i j k s) { gates = is; covers = cs; drivers = ds; names = ns }) (record (front n i j k s) { gates = js; covers = bs; drivers = es; names = ms })
      together {is = is} {js = js} {cs = cs} {bs = bs} {ds = ds} {es = es} {ns = ns} {ms = ms} p o q r =
          ap (λ (xs : List Gate). let m : NetView = record (front n i j k s) { gates = xs; covers = cs; drivers = ds; names = ns } in m) p
          ∙ ap (λ (xs : List Cover). let m : NetView = record (front n i j k s) { gates = js; covers = xs; drivers = ds; names = ns } in m) o
          ∙ ap (λ (xs : List Driver). let m : NetView = record (front n i j k s) { gates = js; covers = bs; drivers = xs; names = ns } in m) q
          ∙ ap (λ (xs : List (List ℕ)). let m : NetView = record (front n i j k s) { gates = js; covers = bs; drivers = es; names = xs } in m) r

-- the latches, of which the first ones take over what they do
pub next_step : (ls : List LatchAt) (j : ℕ) (l : LatchAt) → slice_get ls j ≡ Some l → next_set (take j ls ++ map begun (drop j ls)) j l.next ≡ take (suc j) ls ++ map begun (drop (suc j) ls)
next_step [] j l at = absurd (none-some l at)
next_step (x ∷ ls) zero l at = ap (λ (z : LatchAt). (record x { next = z.next }) ∷ map begun ls) (sym (same_Some x l at))
next_step (x ∷ ls) (suc j) l at = ap (λ (ys : List LatchAt). x ∷ ys) (next_step ls j l at)
