-- The net of an and by some rows is that of its design.
use Rattle.std.proofs.Common.{◌≡◌, ℕ, zero, suc, ◌+◌, ◌*◌, ◌<◌, max, Bool, List, [], ◌∷◌, length, get_or, slice_get, Some, None, refl, sym, ap, subst, arith}
use Rattle.std.specs.Prelude.{codes, ◌==◌, if◌then◌else◌}
use Rattle.std.specs.List.{Contains, sum_by}
use Rattle.std.proofs.lemmas.List.Elements.{All-contains, All-from_recursion}
use Rattle.std.proofs.lemmas.Option.{none-some, same_Some, slice_get_within}
use Rattle.circuit_theory.specs.Circuit.{Circuit, Equation, Gate, Latch, Port as PortEquation, Named, IsInput, Holds, Carries, Reads, out_of}
use Rattle.circuit_theory.specs.Cover.{Cover}
use Rattle.circuit_theory.specs.Flattened.{Follows, IsFlattened}
use Rattle.circuit_theory.specs.Joined.{moved}
use Rattle.circuit_theory.specs.Places.{IsPlace}
use Rattle.circuit_theory.specs.Run.{IsRun, Marked, NoneEnabled}
use Rattle.circuit_theory.specs.Sizes.{Weighed, WeighsAt, Visits, IsWeight}
use Rattle.circuit_theory.proofs.Lists.{only}
use Rattle.base_tables.specs.Table.{AreDistinct}
use Rattle.base_tables.proofs.Appended.{distinct-push}
use Rattle.sec_base.specs.Cover.{IsCoverSound}
use Rattle.blif_read.specs.declared.design.BlifModel.{BlifModel}
use Rattle.blif_read.specs.declared.design.Statement.TheVariants.{Names}
use Rattle.blif_read.specs.Design.{Place, top, name_of, walk, clock_places, circuit_of_design}
use Rattle.flat_net.specs.declared.parts.Port.{Port}
use Rattle.flat_net.specs.Sound.{Drives, IsInputOf, IsGateOf, IsLatchOf, IsSound}
use Rattle.flat_net.specs.View.{NetView, circuit_of}
use Rattle.net_assembly.specs.net_alike.FlatCircuit.{IsFlatCircuit, HasSignal}
use Rattle.flatten.specs.DesignFaults.{IsClocked, IsDrivenOnce, IsFlatOf}
use Rattle.pair_texts.specs.design_rows.Designs.{one_model}
use Rattle.call_rows.proofs.circuit_samples.Each.{each_at, each_pair}
use Rattle.premise_rows.specs.certificate_premises.OneGraph.{and_by}
use Rattle.premise_rows.proofs.block_premises.TurningNets.{each, one_name, reads}

abbrev A : Place
A = top (codes "a")

abbrev B : Place
B = top (codes "b")

abbrev Y : Place
Y = top (codes "y")

-- each signal's place, and each place's signal by the first letter of its name
abbrev origin : ℕ → Place
origin zero = A
origin (suc zero) = B
origin (suc (suc s)) = Y

abbrev lettered : ℕ → ℕ
lettered letter = if letter == 97 then 0 else (if letter == 98 then 1 else 2)

abbrev signal : Place → ℕ
signal p = lettered (get_or p.name 0 0)

-- the place is that of one of the three signals
abbrev IsAt : Place → Type 0
IsAt p = (p ≡ origin (signal p)) × (signal p < 3)

at_a : IsAt A
at_a = (refl, omega arith)

at_b : IsAt B
at_b = (refl, omega arith)

at_y : IsAt Y
at_y = (refl, omega arith)

back : (s : ℕ) → s < 3 → signal (origin s) ≡ s
back zero low = refl
back (suc zero) low = refl
back (suc (suc zero)) low = refl
back (suc (suc (suc s))) low = absurd (omega (arith, low))

a_isnt_y : A ≡ Y → ⊥
a_isnt_y e = let letters : 97 ≡ 121 = ap (λ (p : Place). get_or p.name 0 0) e in omega (arith, letters)

b_isnt_y : B ≡ Y → ⊥
b_isnt_y e = let letters : 98 ≡ 121 = ap (λ (p : Place). get_or p.name 0 0) e in omega (arith, letters)

one_place : AreDistinct (Y ∷ [])
one_place i j x h k =
    let a : i < 1 = slice_get_within (Y ∷ []) i x h in
    let b : j < 1 = slice_get_within (Y ∷ []) j x k in
    omega (arith, a, b)

module _ (cover : Cover) (covers : IsCoverSound cover) (wide : cover.width ≡ 2) where
  abbrev pub and_design : List BlifModel
  and_design = one_model (codes "a" ∷ codes "b" ∷ []) (codes "y" ∷ []) (Names 4 (codes "a" ∷ codes "b" ∷ []) (codes "y") cover ∷ [])

  abbrev gate : Equation Place
  gate = Gate Y (A ∷ B ∷ []) cover

  abbrev net_gate : Equation ℕ
  net_gate = Gate 2 (0 ∷ 1 ∷ []) cover

  abbrev d : Circuit Place
  d = record { inputs = record { name = codes "a"; place = A } ∷ record { name = codes "b"; place = B } ∷ []; outputs = record { name = codes "y"; place = Y } ∷ []; equations = gate ∷ []; starts = [] }

  abbrev net : NetView
  net = and_by cover

  circuit_is : circuit_of_design and_design None ≡ d
  unfolding circuit_of_design walk
  circuit_is = refl

  no_clock : clock_places and_design ≡ []
  unfolding walk
  no_clock = refl

  place_is : (p : Place) → IsPlace d p → IsAt p
  place_is p (IsPlace.input h) = each_at (λ (i : Named Place). IsAt i.place) d.inputs (at_a, (at_b, tt)) (record { name = h.0; place = p }) h.1
  place_is p (IsPlace.output {name = name} h) = each_at (λ (o : Named Place). IsAt o.place) d.outputs (at_y, tt) (record { name = name; place = p }) h
  place_is p (IsPlace.driven {e = e} h is) = subst IsAt is (subst (λ (x : Equation Place). IsAt (out_of x)) (only gate e h) at_y)
  place_is p (IsPlace.fanin {out = out} {fanins = fanins} {cover = c} h k) = subst FaninsAt (only gate (Gate out fanins c) h) (λ q r. each_at IsAt (A ∷ B ∷ []) (at_a, (at_b, tt)) q r) p k
    where
      FaninsAt : Equation Place → Type 0
      FaninsAt (Gate out fanins c) = (q : Place) → Contains fanins q → IsAt q
      FaninsAt (Latch name out next) = Unit {0}
      FaninsAt (PortEquation out from) = Unit {0}
  place_is p (IsPlace.next {name = name} {out = out} h) = absurd (let e : gate ≡ Latch name out p = only gate (Latch name out p) h in cc)
  place_is p (IsPlace.from {out = out} h) = absurd (let e : gate ≡ PortEquation out p = only gate (PortEquation out p) h in cc)

  has_signal : (p : Place) → IsPlace d p → HasSignal d 3 origin p (signal p)
  has_signal p h = let at = place_is p h in record { within = at.1; follows = subst (Follows d p) at.0 Follows.here }

  flat_circuit : IsFlatCircuit d (circuit_of net) 3 (IsClocked d None) origin signal
  flat_circuit = record {
    inputs = refl;
    outputs = refl;
    latches = refl;
    starts = refl;
    gate = λ out fanins c h. subst (λ (e : Equation Place). Contains (circuit_of net).equations (moved signal e)) (only gate (Gate out fanins c) h) (0, omega arith, refl);
    only = λ e h. (gate, (0, omega arith, refl), only net_gate e h);
    no_port = λ out from h. absurd (let e : net_gate ≡ PortEquation out from = only net_gate (PortEquation out from) h in cc);
    port = λ out from h. absurd (let e : gate ≡ PortEquation out from = only gate (PortEquation out from) h in cc);
    back = back;
    entered = λ name p h. has_signal p (IsPlace.input (name, h));
    shown = λ name p h. has_signal p (IsPlace.output h);
    read = λ out fanins c h. (has_signal out (IsPlace.driven h refl), λ p k. has_signal p (IsPlace.fanin h k));
    taken = λ name out next h. absurd (let e : gate ≡ Latch name out next = only gate (Latch name out next) h in cc);
    started = refl;
    placed = λ p h unclocked. has_signal p h;
  }

  down : (n : ℕ) (run : ℕ → Place → Bool) → IsRun d n run → IsRun (circuit_of net) n (λ t s. run t (origin s))
  down n run r = record {
    meets = λ t low. All-from_recursion (Holds (λ s. run t (origin s))) (circuit_of net).equations (All-contains (Holds (run t)) d.equations gate (r.meets t low) (0, omega arith, refl), tt);
    carries = λ t low. All-from_recursion (Carries (λ s. run t (origin s)) (λ s. run (t + 1) (origin s))) (circuit_of net).equations (tt, tt);
  }

  up : (n : ℕ) (run : ℕ → ℕ → Bool) → IsRun (circuit_of net) n run → IsRun d n (λ t p. run t (signal p))
  up n run r = record {
    meets = λ t low. All-from_recursion (Holds (λ p. run t (signal p))) d.equations (All-contains (Holds (run t)) (circuit_of net).equations net_gate (r.meets t low) (0, omega arith, refl), tt);
    carries = λ t low. All-from_recursion (Carries (λ p. run t (signal p)) (λ p. run (t + 1) (signal p))) d.equations (tt, tt);
  }

  marked : (run : ℕ → ℕ → Bool) (t : ℕ) → Marked (circuit_of net) NoneEnabled run t 2
  marked run t =
      Marked.gate {fanins = 0 ∷ 1 ∷ []} {cover = cover} (0, omega arith, refl)
      (each_at (λ q. Marked (circuit_of net) NoneEnabled run t q) (0 ∷ 1 ∷ []) (Marked.input (codes "a", (0, omega arith, refl)), (Marked.input (codes "b", (1, omega arith, refl)), tt)))

  abbrev ShowsY : ℕ → Named Place → Type 0
  ShowsY i o = (s : Named ℕ) → slice_get (circuit_of net).outputs i ≡ Some s → Follows d o.place (origin s.place)

  flattened : IsFlattened d (circuit_of net) 3 (IsClocked d None) (IsPlace d) origin
  flattened = record {
    inputs = refl;
    outputs = refl;
    output_is = λ i o s h k. each ShowsY d.outputs ((λ x at. subst (λ (z : Named ℕ). Follows d Y (origin z.place)) (same_Some (record { name = codes "y"; place = 2 }) x at) Follows.here), tt) i o h s k;
    latches = refl;
    down = down;
    up = λ n run r. ((λ t p. run t (signal p)), up n run r, λ t s low within. ap (run t) (back s within));
    settled = λ n run r t i o s low h k m. each (λ j (z : Named ℕ). Marked (circuit_of net) NoneEnabled (λ u q. run u (origin q)) t z.place) (circuit_of net).outputs (marked (λ u q. run u (origin q)) t, tt) i s k;
    one = λ n r s left right same t p low unclocked h. (let at = place_is p h in subst (λ (q : Place). r t q ≡ s t q) (sym at.0) (same t (signal p) low at.1));
  }

  once : IsDrivenOnce d None
  once = record {
    once = one_place;
    no_input = λ e h i. subst (λ (x : Equation Place). IsInput d (out_of x) → ⊥) (only gate e h) (λ k. each_at (λ (z : Named Place). z.place ≡ Y → ⊥) d.inputs (a_isnt_y, (b_isnt_y, tt)) (record { name = k.0; place = Y }) k.1 refl) i;
    no_clock = λ e c h is out. none-some c is;
  }

  sound : IsSound net
  sound = record {
    inputs = each (IsInputOf net) net.inputs (record { owner = refl; named = refl }, (record { owner = refl; named = refl }, tt));
    gates = each (IsGateOf net) net.gates (record { owner = refl; above = reads 2 0 1 (omega arith) (omega arith); cover = cover; covered = refl; width = wide }, tt);
    ordered = λ i j g h less l r. absurd (let one : j < 1 = slice_get_within net.gates j h r in omega (arith, less, one));
    latches = each (IsLatchOf net) net.latches tt;
    drivers = each (Drives net) net.drivers ((_, refl, refl), ((_, refl, refl), ((_, refl, refl), tt)));
    outputs = All-from_recursion (λ (port : Port). port.signal.0 < 3) net.outputs (omega arith, tt);
    covers = All-from_recursion IsCoverSound net.covers (covers, tt);
    named = refl;
    distinct = distinct-push (codes "a" ∷ codes "b" ∷ []) (codes "y") (distinct-push (codes "a" ∷ []) (codes "b") (one_name (codes "a")) refl) refl;
    few = omega arith;
    few_inputs = omega arith;
    few_gates = omega arith;
    few_latches = omega arith;
    few_covers = omega arith;
  }

  pub and_is_flat : IsFlatOf and_design net
  unfolding walk
  and_is_flat = record {
    clock = no_clock;
    once = subst (λ (c : Circuit Place). IsDrivenOnce c None) (sym circuit_is) once;
    origin = origin;
    signal = signal;
    circuit = subst (λ (c : Circuit Place). IsFlatCircuit c (circuit_of net) 3 (IsClocked c None) origin signal) (sym circuit_is) flat_circuit;
    sound = sound;
    flattened = subst (λ (c : Circuit Place). IsFlattened c (circuit_of net) 3 (IsClocked c None) (IsPlace c) origin) (sym circuit_is) flattened;
    names = named_so;
    inits = refl;
    distinct = one_name (codes "y");
    few = omega arith;
  }
    where
      named_so : (s : ℕ) → s < 3 → slice_get net.names s ≡ Some (name_of (origin s))
      named_so zero low = refl
      named_so (suc zero) low = refl
      named_so (suc (suc zero)) low = refl
      named_so (suc (suc (suc s))) low = absurd (omega (arith, low))

  -- what the output visits, and what it counts
  abbrev gate_weight : ℕ
  gate_weight = 1 + max 1 (length cover.rows) * 3

  abbrev pub spots : List (Weighed ℕ)
  spots = record { place = 2; shift = 0; weight = gate_weight } ∷ record { place = 0; shift = 0; weight = 1 } ∷ record { place = 1; shift = 0; weight = 1 } ∷ []

  abbrev Spotted : ℕ → ℕ → Type 0
  Spotted q j = (w : ℕ) × Contains spots (record { place = q; shift = j; weight = w })

  spotted_inputs : (q : ℕ) → Contains (0 ∷ 1 ∷ []) q → Spotted q 0
  spotted_inputs = each_at (λ q. Spotted q 0) (0 ∷ 1 ∷ []) ((1, (1, omega arith, refl)), ((1, (2, omega arith, refl)), tt))

  at_once : (q j : ℕ) → Spotted q j → j ≡ 0
  at_once q j h = each_at (λ (x : Weighed ℕ). x.shift ≡ 0) spots (refl, (refl, (refl, tt))) (record { place = q; shift = j; weight = h.0 }) h.1

  read_here : {q r : ℕ} → Reads (circuit_of net) q r → Spotted r 0
  read_here {q} {r} (Reads.by_gate {fanins = fanins} {cover = c} h k) = subst FaninsAt (only net_gate (Gate q fanins c) h) spotted_inputs r k
    where
      FaninsAt : Equation ℕ → Type 0
      FaninsAt (Gate out fans c) = (p : ℕ) → Contains fans p → Spotted p 0
      FaninsAt (Latch name out next) = Unit {0}
      FaninsAt (PortEquation out from) = Unit {0}
  read_here {q} {r} (Reads.by_port h) = absurd (let e : net_gate ≡ PortEquation q r = only net_gate (PortEquation q r) h in cc)

  visited : {q j : ℕ} → Visits (circuit_of net) 2 0 q j → Spotted q j
  visited Visits.itself = (gate_weight, (0, omega arith, refl))
  visited {q} {j} (Visits.reads {q = from} v read) = subst (Spotted q) (sym (at_once from j (visited v))) (read_here read)
  visited {q} {j} (Visits.back {q = from} {name = name} v latch) = absurd (let e : net_gate ≡ Latch name from q = only net_gate (Latch name from q) latch in cc)

  there : (x : Weighed ℕ) → Contains spots x → Visits (circuit_of net) 2 0 x.place x.shift
  there = each_at (λ (x : Weighed ℕ). Visits (circuit_of net) 2 0 x.place x.shift) spots (
    Visits.itself,
    (
      Visits.reads Visits.itself (Reads.by_gate {fanins = 0 ∷ 1 ∷ []} {cover = cover} (0, omega arith, refl) (0, omega arith, refl)),
      (Visits.reads Visits.itself (Reads.by_gate {fanins = 0 ∷ 1 ∷ []} {cover = cover} (0, omega arith, refl) (1, omega arith, refl)), tt),
    ),
  )

  pub and_weighs : IsWeight (circuit_of net) (2 ∷ []) (sum_by (λ (x : Weighed ℕ). x.weight) spots)
  and_weighs = record {
    places = spots;
    distinct =
        each_pair (λ (x y : Weighed ℕ). (x.place ≡ y.place) → (x.shift ≡ y.shift) → ⊥) spots
        (((λ e s. omega (arith, e)), ((λ e s. omega (arith, e)), tt)), (((λ e s. omega (arith, e)), tt), (tt, tt)));
    weighed = each_at (λ (x : Weighed ℕ). WeighsAt (circuit_of net) x.place x.weight) spots (
      WeighsAt.gate {fanins = 0 ∷ 1 ∷ []} {cover = cover} (0, omega arith, refl),
      (WeighsAt.input (codes "a", (0, omega arith, refl)), (WeighsAt.input (codes "b", (1, omega arith, refl)), tt)),
    );
    met = λ q j. (
      λ h. (2, (0, omega arith, refl), there (record { place = q; shift = j; weight = h.0 }) h.1),
      λ h. visited (subst (λ p. Visits (circuit_of net) p 0 q j) (sym (only 2 h.0 h.1)) h.2),
    );
    total = refl;
  }
