-- The faults of a wiring are those of the same wiring by names, where no two numbers have one name.
use Rattle.std.proofs.Common.{◌≡◌, ◌∙◌, ◌<◌, ℕ, List, [], ◌∷◌, ◌++◌, map, take, slice_get, Some, refl, sym, ap, subst, inl, inr}
use Rattle.std.specs.Prelude.{◌⊎◌}
use Rattle.std.specs.List.{Contains}
use Rattle.std.proofs.lemmas.List.{map-append, take-map}
use Rattle.std.proofs.lemmas.List.Elements.{Contains-append_cases}
use Rattle.circuit_theory.proofs.Lists.{Contains-map, Contains-map_from, at_of, of_at, map-map}
use Rattle.circuit_theory.proofs.Numbers.{slice_get-map}
use Rattle.base_tables.proofs.TableLemmas.{key_at, slice_get-take}
use Rattle.flatten.specs.connectivity.Wiring.{Wiring, PortOf, TypedLatch, Cell}
use Rattle.flatten.specs.connectivity.Events.{IsFirst, IsNever, IsAt}
use Rattle.flatten.specs.connectivity.Faults.{driven_before, driven, DrivesAgain, IsUndriven, ReadsUndriven, Follows, HasNet, clock_signals, HasClockNet, OtherClock, HasOtherEdge, OtherEdge, IsGatedClock, output_cell, readers, ReadsClockNet, ClockRead}
use Rattle.flatten.proofs.connectivity.Firsts.{first_along, never_along}
use Rattle.flatten.proofs.connectivity.NamedWires.{named_wires, named_port, named_latch, named_cell}
use Rattle.flatten.proofs.connectivity.Bounds.{IsBounded, only}

-- items by other names
at_named : {X Y P Q : Type 0} (g : X → Y) (f : P → Q) (name : X → P) (name' : Y → Q) (M : X → Type 0) (N : Y → Type 0) (xs : List X) → ((x : X) → name' (g x) ≡ f (name x)) →
    ((i : ℕ) (x : X) → slice_get xs i ≡ Some x → M x → N (g x)) → (i : ℕ) (p : P) → IsAt xs name M i p → IsAt (map g xs) name' N i (f p)
at_named g f name name' M N xs same there i p e =
    record { item = g e.item; here = slice_get-map g xs i e.item e.here; meant = there i e.item e.here e.meant; called = same e.item ∙ ap f e.called }

at_unnamed : {X Y P Q : Type 0} (g : X → Y) (name : X → P) (name' : Y → Q) (M : X → Type 0) (N : Y → Type 0) (xs : List X) →
    ((i : ℕ) (x : X) → slice_get xs i ≡ Some x → N (g x) → M x) → (i : ℕ) (q : Q) → IsAt (map g xs) name' N i q → (p : P) × IsAt xs name M i p
at_unnamed g name name' M N xs back i q e =
    let old = key_at g xs i e.item e.here in
    (name old.0, record { item = old.0; here = old.1; meant = back i old.0 old.1 (subst N (sym old.2) e.meant); called = refl })

module _ {Q : Type 0} (f : ℕ → Q) (size : ℕ) (inj : (m n : ℕ) → m < size → n < size → f m ≡ f n → m ≡ n) (w : Wiring ℕ) (bounded : IsBounded w size) where
  contains_back : (xs : List ℕ) → ((n : ℕ) → Contains xs n → n < size) → (n : ℕ) → n < size → Contains (map f xs) (f n) → Contains xs n
  contains_back xs below n k h =
      let old = Contains-map_from f xs (f n) h in
      subst (λ m. Contains xs m) (inj old.0 n (below old.0 old.1) k old.2) old.1

  -- two drivers
  before_named : (i : ℕ) → driven_before (named_wires f w) i ≡ map f (driven_before w i)
  before_named i =
      ap (λ zs. zs ++ take i (map f w.outs)) (sym (map-append f w.inputs w.clocks))
      ∙ ap (λ zs. map f (w.inputs ++ w.clocks) ++ zs) (take-map f i w.outs)
      ∙ sym (map-append f (w.inputs ++ w.clocks) (take i w.outs))

  main_below : (n : ℕ) → Contains (w.inputs ++ w.clocks) n → n < size
  main_below n h = by (Contains-append_cases w.inputs w.clocks n h)
    where
      by : Contains w.inputs n ⊎ Contains w.clocks n → n < size
      by (inl k) = bounded.inputs n k
      by (inr k) = bounded.clocks n k

  before_below : (i n : ℕ) → Contains (driven_before w i) n → n < size
  before_below i n h = by (Contains-append_cases (w.inputs ++ w.clocks) (take i w.outs) n h)
    where
      by : Contains (w.inputs ++ w.clocks) n ⊎ Contains (take i w.outs) n → n < size
      by (inl k) = main_below n k
      by (inr k) = let at = at_of (take i w.outs) n k in bounded.outs n (of_at w.outs at.0 n (slice_get-take i w.outs at.0 n at.1).1)

  again_there : (i p : ℕ) → DrivesAgain w i p → DrivesAgain (named_wires f w) i (f p)
  again_there i p d = record {
    drives = slice_get-map f w.outs i p d.drives;
    before = subst (λ zs. Contains zs (f p)) (sym (before_named i)) (Contains-map f (driven_before w i) p d.before);
  }

  again_back : (i : ℕ) (q : Q) → DrivesAgain (named_wires f w) i q → (p : ℕ) × DrivesAgain w i p
  again_back i q d =
      let old = key_at f w.outs i q d.drives in
      let there : Contains (driven_before (named_wires f w) i) (f old.0) = subst (λ r. Contains (driven_before (named_wires f w) i) r) (sym old.2) d.before in
      let named : Contains (map f (driven_before w i)) (f old.0) = subst (λ zs. Contains zs (f old.0)) (before_named i) there in
      (old.0, record { drives = old.1; before = contains_back (driven_before w i) (before_below i) old.0 (bounded.outs old.0 (of_at w.outs i old.0 old.1)) named })

  pub first_again : (n : ℕ) → IsFirst (DrivesAgain w) n → IsFirst (DrivesAgain (named_wires f w)) (f n)
  first_again n = first_along (DrivesAgain w) (DrivesAgain (named_wires f w)) f again_there again_back n

  pub never_again : IsNever (DrivesAgain w) → IsNever (DrivesAgain (named_wires f w))
  never_again = never_along (DrivesAgain w) (DrivesAgain (named_wires f w)) again_back

  -- no driver
  driven_named : driven (named_wires f w) ≡ map f (driven w)
  driven_named =
      ap (λ zs. zs ++ map f w.outs) (sym (map-append f w.inputs w.clocks))
      ∙ sym (map-append f (w.inputs ++ w.clocks) w.outs)

  driven_below : (n : ℕ) → Contains (driven w) n → n < size
  driven_below n h = by (Contains-append_cases (w.inputs ++ w.clocks) w.outs n h)
    where
      by : Contains (w.inputs ++ w.clocks) n ⊎ Contains w.outs n → n < size
      by (inl k) = main_below n k
      by (inr k) = bounded.outs n k

  reads_named : (named_wires f w).reads ++ (named_wires f w).outputs ≡ map f (w.reads ++ w.outputs)
  reads_named = sym (map-append f w.reads w.outputs)

  reads_below : (n : ℕ) → Contains (w.reads ++ w.outputs) n → n < size
  reads_below n h = by (Contains-append_cases w.reads w.outputs n h)
    where
      by : Contains w.reads n ⊎ Contains w.outputs n → n < size
      by (inl k) = bounded.reads n k
      by (inr k) = bounded.outputs n k

  undriven_there : (i p : ℕ) → ReadsUndriven w i p → ReadsUndriven (named_wires f w) i (f p)
  undriven_there i p e =
      let new = at_named f f (λ n. n) (λ q. q) (IsUndriven w) (IsUndriven (named_wires f w)) (w.reads ++ w.outputs) (λ n. refl)
      (λ j n here none h. none (contains_back (driven w) driven_below n (reads_below n (of_at (w.reads ++ w.outputs) j n here)) (subst (λ zs. Contains zs (f n)) driven_named h))) i p e in
      subst (λ zs. IsAt zs (λ q. q) (IsUndriven (named_wires f w)) i (f p)) (sym reads_named) new

  undriven_back : (i : ℕ) (q : Q) → ReadsUndriven (named_wires f w) i q → (p : ℕ) × ReadsUndriven w i p
  undriven_back i q e =
      at_unnamed f (λ n. n) (λ q. q) (IsUndriven w) (IsUndriven (named_wires f w)) (w.reads ++ w.outputs)
      (λ j n here none h. none (subst (λ zs. Contains zs (f n)) (sym driven_named) (Contains-map f (driven w) n h))) i q
      (subst (λ zs. IsAt zs (λ q. q) (IsUndriven (named_wires f w)) i q) reads_named e)

  pub first_undriven : (n : ℕ) → IsFirst (ReadsUndriven w) n → IsFirst (ReadsUndriven (named_wires f w)) (f n)
  first_undriven n = first_along (ReadsUndriven w) (ReadsUndriven (named_wires f w)) f undriven_there undriven_back n

  pub never_undriven : IsNever (ReadsUndriven w) → IsNever (ReadsUndriven (named_wires f w))
  never_undriven = never_along (ReadsUndriven w) (ReadsUndriven (named_wires f w)) undriven_back

  -- nets
  follows_there : {p q : ℕ} → Follows w p q → Follows (named_wires f w) (f p) (f q)
  follows_there (Follows.here {p = p}) = Follows.here
  follows_there (Follows.there {p = p} {from = m} {q = q} at rest) = Follows.there (Contains-map (named_port f) w.ports (record { out = p; from = m }) at) (follows_there rest)

  pub follows_below : {p q : ℕ} → Follows w p q → p < size → q < size
  follows_below (Follows.here {p = p}) k = k
  follows_below (Follows.there {p = p} {from = m} {q = q} at rest) k = follows_below rest (bounded.ports (record { out = p; from = m }) at).1

  -- the port behind a named port of f n
  port_back : (n : ℕ) (m : Q) → n < size → Contains (named_wires f w).ports (record { out = f n; from = m }) → (k : ℕ) × Contains w.ports (record { out = n; from = k }) × (f k ≡ m) × (k < size)
  port_back n m below at =
      let old = Contains-map_from (named_port f) w.ports (record { out = f n; from = m }) at in
      let within = bounded.ports old.0 old.1 in
      let same : old.0.out ≡ n = inj old.0.out n within.0 below (ap (λ (r : PortOf Q). r.out) old.2) in
      (old.0.from, subst (λ r. Contains w.ports (record { out = r; from = old.0.from })) same old.1, ap (λ (r : PortOf Q). r.from) old.2, within.1)

  follows_back : {a b : Q} → Follows (named_wires f w) a b → (p : ℕ) → p < size → f p ≡ a → (q : ℕ) × Follows w p q × (f q ≡ b) × (q < size)
  follows_back (Follows.here {p = a}) p below e = (p, Follows.here, e, below)
  follows_back (Follows.there {p = a} {from = m} {q = b} at rest) p below e =
      let old = port_back p m below (subst (λ r. Contains (named_wires f w).ports (record { out = r; from = m })) (sym e) at) in
      let more = follows_back rest old.0 old.3 old.2 in
      (more.0, Follows.there old.1 more.1, more.2, more.3)

  net_there : (p n : ℕ) → n < size → HasNet w p n → HasNet (named_wires f w) (f p) (f n)
  net_there p n below h = record {
    follows = follows_there h.follows;
    ends = λ m at. let old = port_back n m below at in h.ends old.0 old.1;
  }

  net_back : (p : ℕ) (b : Q) → p < size → HasNet (named_wires f w) (f p) b → (n : ℕ) × HasNet w p n × (f n ≡ b) × (n < size)
  net_back p b below h =
      let old = follows_back h.follows p below refl in (
        old.0,
        record {
          follows = old.1;
          ends = λ m at. h.ends (f m) (subst (λ r. Contains (named_wires f w).ports (record { out = r; from = f m })) old.2 (Contains-map (named_port f) w.ports (record { out = old.0; from = m }) at));
        },
        old.2,
        old.3,
      )

  -- clocks
  clocks_named : clock_signals (named_wires f w) ≡ map f (clock_signals w)
  clocks_named = sym (map-append f w.clocks w.controls)

  clocks_below : (n : ℕ) → Contains (clock_signals w) n → n < size
  clocks_below n h = by (Contains-append_cases w.clocks w.controls n h)
    where
      by : Contains w.clocks n ⊎ Contains w.controls n → n < size
      by (inl k) = bounded.clocks n k
      by (inr k) = bounded.controls n k

  pub clock_net_below : (i n : ℕ) → HasClockNet w i n → n < size
  clock_net_below i n h = follows_below h.leads.follows (clocks_below h.signal (of_at (clock_signals w) i h.signal h.here))

  clock_there : (i n : ℕ) → HasClockNet w i n → HasClockNet (named_wires f w) i (f n)
  clock_there i n h = record {
    signal = f h.signal;
    here = ap (λ zs. slice_get zs i) clocks_named ∙ slice_get-map f (clock_signals w) i h.signal h.here;
    leads = net_there h.signal n (clock_net_below i n h) h.leads;
  }

  clock_back : (i : ℕ) (b : Q) → HasClockNet (named_wires f w) i b → (n : ℕ) × HasClockNet w i n × (f n ≡ b) × (n < size)
  clock_back i b h =
      let old = key_at f (clock_signals w) i h.signal (sym (ap (λ zs. slice_get zs i) clocks_named) ∙ h.here) in
      let net = net_back old.0 b (clocks_below old.0 (of_at (clock_signals w) i old.0 old.1)) (subst (λ r. HasNet (named_wires f w) r b) (sym old.2) h.leads) in
      (net.0, record { signal = old.0; here = old.1; leads = net.1 }, net.2, net.3)

  other_there : (i n : ℕ) → OtherClock w i n → OtherClock (named_wires f w) i (f n)
  other_there i n o = record {
    own = clock_there i n o.own;
    earlier = o.earlier;
    other = f o.other;
    before = o.before;
    theirs = clock_there o.earlier o.other o.theirs;
    apart = λ e. o.apart (inj n o.other (clock_net_below i n o.own) (clock_net_below o.earlier o.other o.theirs) e);
  }

  other_back : (i : ℕ) (b : Q) → OtherClock (named_wires f w) i b → (n : ℕ) × OtherClock w i n
  other_back i b o =
      let own = clock_back i b o.own in
      let theirs = clock_back o.earlier o.other o.theirs in
      (own.0, record { own = own.1; earlier = o.earlier; other = theirs.0; before = o.before; theirs = theirs.1; apart = λ e. o.apart (sym own.2 ∙ ap f e ∙ theirs.2) })

  pub first_other : (n : ℕ) → IsFirst (OtherClock w) n → IsFirst (OtherClock (named_wires f w)) (f n)
  first_other n = first_along (OtherClock w) (OtherClock (named_wires f w)) f other_there other_back n

  pub never_other : IsNever (OtherClock w) → IsNever (OtherClock (named_wires f w))
  never_other = never_along (OtherClock w) (OtherClock (named_wires f w)) other_back

  -- edges
  edge_there : (i : ℕ) (l : TypedLatch ℕ) → slice_get w.typed i ≡ Some l → HasOtherEdge w l → HasOtherEdge (named_wires f w) (named_latch f l)
  edge_there i l here h = record { first = named_latch f h.first; is_first = slice_get-map (named_latch f) w.typed 0 h.first h.is_first; apart = h.apart }

  edge_back : (i : ℕ) (l : TypedLatch ℕ) → slice_get w.typed i ≡ Some l → HasOtherEdge (named_wires f w) (named_latch f l) → HasOtherEdge w l
  edge_back i l here h =
      let old = key_at (named_latch f) w.typed 0 h.first h.is_first in
      record { first = old.0; is_first = old.1; apart = λ e. h.apart (e ∙ ap (λ (r : TypedLatch Q). r.edge) old.2) }

  pub first_edge : (n : ℕ) → IsFirst (OtherEdge w) n → IsFirst (OtherEdge (named_wires f w)) (f n)
  first_edge n = first_along (OtherEdge w) (OtherEdge (named_wires f w)) f
      (at_named (named_latch f) f (λ (l : TypedLatch ℕ). l.out) (λ (l : TypedLatch Q). l.out) (HasOtherEdge w) (HasOtherEdge (named_wires f w)) w.typed (λ l. refl) edge_there)
      (at_unnamed (named_latch f) (λ (l : TypedLatch ℕ). l.out) (λ (l : TypedLatch Q). l.out) (HasOtherEdge w) (HasOtherEdge (named_wires f w)) w.typed edge_back) n

  pub never_edge : IsNever (OtherEdge w) → IsNever (OtherEdge (named_wires f w))
  never_edge = never_along (OtherEdge w) (OtherEdge (named_wires f w))
      (at_unnamed (named_latch f) (λ (l : TypedLatch ℕ). l.out) (λ (l : TypedLatch Q). l.out) (HasOtherEdge w) (HasOtherEdge (named_wires f w)) w.typed edge_back)

  -- the clock net driven or read
  pub gated_there : (n : ℕ) → IsGatedClock w n → IsGatedClock (named_wires f w) (f n)
  gated_there n g = record {
    clock = (g.clock.0, clock_there g.clock.0 n g.clock.1);
    cell = named_cell f g.cell;
    there = Contains-map (named_cell f) w.cells g.cell g.there;
    drives = ap f g.drives;
  }

  gated_back : (b : Q) → IsGatedClock (named_wires f w) b → (n : ℕ) × IsGatedClock w n
  gated_back b g =
      let clock = clock_back g.clock.0 b g.clock.1 in
      let old = Contains-map_from (named_cell f) w.cells g.cell g.there in
      let same : f old.0.out ≡ f clock.0 = ap (λ (r : Cell Q). r.out) old.2 ∙ g.drives ∙ sym clock.2 in
      (clock.0, record { clock = (g.clock.0, clock.1); cell = old.0; there = old.1; drives = inj old.0.out clock.0 (bounded.cells old.0 old.1).0 clock.3 same })

  pub never_gated : ((n : ℕ) → IsGatedClock w n → ⊥) → (b : Q) → IsGatedClock (named_wires f w) b → ⊥
  never_gated never b g = let old = gated_back b g in never old.0 old.1

  readers_named : readers (named_wires f w) ≡ map (named_cell f) (readers w)
  readers_named =
      ap (λ zs. map (named_cell f) w.cells ++ zs) (map-map (output_cell {P = Q}) f w.outputs ∙ sym (map-map (named_cell f) (output_cell {P = ℕ}) w.outputs))
      ∙ sym (map-append (named_cell f) w.cells (map output_cell w.outputs))

  readers_below : (c : Cell ℕ) → Contains (readers w) c → (n : ℕ) → Contains c.reads n → n < size
  readers_below c h n at = by (Contains-append_cases w.cells (map output_cell w.outputs) c h)
    where
      by : Contains w.cells c ⊎ Contains (map output_cell w.outputs) c → n < size
      by (inl k) = (bounded.cells c k).1 n at
      by (inr k) =
          let old = Contains-map_from (output_cell {P = ℕ}) w.outputs c k in
          let there : Contains (old.0 ∷ []) n = subst (λ (r : Cell ℕ). Contains r.reads n) (sym old.2) at in
          subst (λ m. m < size) (only old.0 n there) (bounded.outputs old.0 old.1)

  read_there : (i : ℕ) (c : Cell ℕ) → slice_get (readers w) i ≡ Some c → ReadsClockNet w c → ReadsClockNet (named_wires f w) (named_cell f c)
  read_there i c here r = record {
    signal = f r.signal;
    net = f r.net;
    reads = Contains-map f c.reads r.signal r.reads;
    leads = net_there r.signal r.net (clock_net_below r.clock.0 r.net r.clock.1) r.leads;
    clock = (r.clock.0, clock_there r.clock.0 r.net r.clock.1);
  }

  read_back : (i : ℕ) (c : Cell ℕ) → slice_get (readers w) i ≡ Some c → ReadsClockNet (named_wires f w) (named_cell f c) → ReadsClockNet w c
  read_back i c here r =
      let old = Contains-map_from f c.reads r.signal r.reads in
      let below : old.0 < size = readers_below c (of_at (readers w) i c here) old.0 old.1 in
      let net = net_back old.0 r.net below (subst (λ s. HasNet (named_wires f w) s r.net) (sym old.2) r.leads) in
      let clock = clock_back r.clock.0 r.net r.clock.1 in
      let same : clock.0 ≡ net.0 = inj clock.0 net.0 clock.3 net.3 (clock.2 ∙ sym net.2) in
      record { signal = old.0; net = net.0; reads = old.1; leads = net.1; clock = (r.clock.0, subst (λ n. HasClockNet w r.clock.0 n) same clock.1) }

  clock_read_there : (i p : ℕ) → ClockRead w i p → ClockRead (named_wires f w) i (f p)
  clock_read_there i p e =
      subst (λ zs. IsAt zs (λ (c : Cell Q). c.out) (ReadsClockNet (named_wires f w)) i (f p)) (sym readers_named)
      (at_named (named_cell f) f (λ (c : Cell ℕ). c.out) (λ (c : Cell Q). c.out) (ReadsClockNet w) (ReadsClockNet (named_wires f w)) (readers w) (λ c. refl) read_there i p e)

  clock_read_back : (i : ℕ) (q : Q) → ClockRead (named_wires f w) i q → (p : ℕ) × ClockRead w i p
  clock_read_back i q e =
      at_unnamed (named_cell f) (λ (c : Cell ℕ). c.out) (λ (c : Cell Q). c.out) (ReadsClockNet w) (ReadsClockNet (named_wires f w)) (readers w) read_back i q
      (subst (λ zs. IsAt zs (λ (c : Cell Q). c.out) (ReadsClockNet (named_wires f w)) i q) readers_named e)

  pub first_read : (n : ℕ) → IsFirst (ClockRead w) n → IsFirst (ClockRead (named_wires f w)) (f n)
  first_read n = first_along (ClockRead w) (ClockRead (named_wires f w)) f clock_read_there clock_read_back n

  pub never_read : IsNever (ClockRead w) → IsNever (ClockRead (named_wires f w))
  never_read = never_along (ClockRead w) (ClockRead (named_wires f w)) clock_read_back
