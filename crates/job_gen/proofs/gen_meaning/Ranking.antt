-- The latch graphs of a pair have no cycle: a rank rises from each latch to the next.
use Rattle.std.proofs.Common.{◌≡◌, ◌≢◌, ◌+◌, ◌-◌, ◌*◌, ◌/◌, ◌%◌, ◌<◌, ◌≤◌, ◌∙◌, ℕ, zero, suc, Bool, true, false, List, [], ◌∷◌, length, map, refl, sym, ap, ap₂, subst, arith, add-one, inl, inr, Option, Some, slice_get}
use Rattle.std.specs.Prelude.{◌⊎◌, ◌==◌, if◌then◌else◌, unwrap_or, slice_index}
use Rattle.std.specs.List.{Contains}
use Rattle.std.proofs.lemmas.Bool.{eq-eqb, ne_eqb, eqb-true}
use Rattle.std.proofs.lemmas.Bool.Decides.{nat_tests}
use Rattle.std.proofs.lemmas.Option.{slice_get_within, same_Some}
use Rattle.circuit_theory.specs.Cover.{Cover}
use Rattle.circuit_theory.specs.Circuit.{Gate as gate_equation, Latch as latch_equation, Port as port_equation, IsLatch, Reads, Reaches}
use Rattle.circuit_theory.specs.Depth.{LatchReads, IsCycle, after_in_round}
use Rattle.circuit_theory.specs.Run.{NoneEnabled}
use Rattle.circuit_theory.specs.declared.Mode.TheVariants.{Plain}
use Rattle.circuit_theory.specs.declared.Side.{Side}
use Rattle.circuit_theory.specs.declared.Side.TheVariants.{A, B}
use Rattle.circuit_theory.proofs.Lists.{Contains-cases, Contains-map_from, only}
use Rattle.flat_net.specs.declared.signals.Signal.{Signal}
use Rattle.flat_net.specs.declared.parts.Gate.{Gate}
use Rattle.flat_net.specs.declared.parts.LatchAt.{LatchAt}
use Rattle.flat_net.specs.declared.parts.Driver.{Driver}
use Rattle.flat_net.specs.declared.parts.Driver.TheVariants as driver
use Rattle.flat_net.specs.View.{NetView, circuit_of, cover_of}
use Rattle.flat_net.specs.Sound.{IsSound}
use Rattle.flat_net.proofs.Nets.{some_at, OfGate, OfLatch, equation_from}
use Rattle.job_gen.specs.declared.pair_gen.cells.Cell.{Cell}
use Rattle.job_gen.specs.declared.pair_gen.cells.Cell.TheVariants as cell
use Rattle.job_gen.specs.pair_gen.Cells.{name_of, column_of, data_of, second_of}
use Rattle.job_gen.specs.pair_gen.Twins.{place_of, IsOf, HasGate, HasLatch, IsTwin}
use Rattle.job_gen.specs.pair_gen.Sketch.{latch_cell, gate_cell}
use Rattle.job_gen.proofs.pair_gen.Numbers.{IsPlaced, gate_whole, latch_whole, gate_placed, latch_placed, latch_stage, latch_column, stage_of_place, layer_of_place, column_of_place, column_placed, data_placed}
use Rattle.sec_setup.specs.cut_points.Exposed.{IsToldCycle}

-- the cell that a driver is, and the driver of a cell
abbrev pub cell_of : Driver → Cell
cell_of (driver.Input c) = cell.Input c
cell_of (driver.Latch j) = latch_cell j
cell_of (driver.Gate k) = gate_cell k

abbrev pub driver_of : Cell → Driver
driver_of (cell.Input c) = driver.Input c
driver_of (cell.Latch s c) = driver.Latch (40 * s + c)
driver_of (cell.Gate s l c) = driver.Gate (place_of s l c)

cell_of-driver : (x : Cell) → IsPlaced x → cell_of (driver_of x) ≡ x
cell_of-driver (cell.Input c) h = refl
cell_of-driver (cell.Latch s c) h = ap₂ (λ (a b : ℕ). cell.Latch a b) (latch_stage s c h.1) (latch_column s c h.1)
cell_of-driver (cell.Gate s l c) h =
    ap (λ (a : ℕ). cell.Gate a (place_of s l c / 40 % 42) (place_of s l c % 40)) (stage_of_place s l c h.1 h.2)
    ∙ ap₂ (λ (a b : ℕ). cell.Gate s a b) (layer_of_place s l c h.1 h.2) (column_of_place s l c h.1 h.2)

-- how many latches stand before a cell
abbrev pub rank_of : Side → Cell → ℕ
rank_of circuit (cell.Input c) = 0
rank_of circuit (cell.Latch s c) = s + 1
rank_of A (cell.Gate s l c) = s
rank_of B (cell.Gate s l c) = if l == 41 then s + 1 else s

-- how many latches stand before a gate of B
abbrev level_in_b : ℕ → ℕ → ℕ
level_in_b s l = if l == 41 then s + 1 else s

level-last : (s l : ℕ) → l ≡ 41 → level_in_b s l ≡ s + 1
level-last s l e = ap (λ (b : Bool). if b then s + 1 else s) (eq-eqb l 41 e)

level-other : (s l : ℕ) → l ≢ 41 → level_in_b s l ≡ s
level-other s l apart = ap (λ (b : Bool). if b then s + 1 else s) (ne_eqb l 41 apart)

level-least : (s l : ℕ) → s ≤ level_in_b s l
level-least s l = by (l == 41)
  where
    by : (b : Bool) → s ≤ (if b then s + 1 else s)
    by true = omega arith
    by false = omega arith

-- the last layer of B reads latches
column_in_b : (s l d : ℕ) → suc l < 42 → rank_of B (if l == 40 then cell.Latch s d else cell.Gate s l d) ≤ level_in_b s (suc l)
column_in_b s l d h = by (l == 40) refl
  where
    by : (b : Bool) → (l == 40) ≡ b → rank_of B (if b then cell.Latch s d else cell.Gate s l d) ≤ level_in_b s (suc l)
    by true e = let at : l ≡ 40 = eqb-true l 40 e in let top = level-last s (suc l) (omega arith) in omega (arith, top)
    by false e = let low = level-other s l (λ q. omega (arith, q, h)) in let top = level-least s (suc l) in omega (arith, low, top)

-- a gate stands behind no fewer latches than what it reads
column_rank : (circuit : Side) (s l c d : ℕ) → l < 42 → rank_of circuit (column_of circuit s l d) ≤ rank_of circuit (cell.Gate s l c)
column_rank A zero zero c d h = omega arith
column_rank B zero zero c d h = omega arith
column_rank A (suc s) zero c d h = omega arith
column_rank B (suc s) zero c d h = omega arith
column_rank A zero (suc l) c d h = omega arith
column_rank A (suc s) (suc l) c d h = omega arith
column_rank B zero (suc l) c d h = column_in_b 0 l d h
column_rank B (suc s) (suc l) c d h = column_in_b (suc s) l d h

-- a latch stands behind one more than what it takes over
data_rank : (circuit : Side) (s c : ℕ) → rank_of circuit (data_of circuit s c) < rank_of circuit (cell.Latch s c)
data_rank A s c = omega arith
data_rank B s c = omega arith

next_place : (n i : ℕ) → i + 1 < n → after_in_round n i ≡ i + 1
next_place n i h = grind (arith, nat_tests)

last_place : (n i : ℕ) → i + 1 ≡ n → after_in_round n i ≡ 0
last_place n i h = grind (arith, nat_tests)

two : (r : ℕ → ℕ) (x y f : Signal) (top : ℕ) → r x.0 ≤ top → r y.0 ≤ top → Contains (x ∷ y ∷ []) f → r f.0 ≤ top
two r x y f top hx hy h = by (Contains-cases x f (y ∷ []) h)
  where
    by : (x ≡ f) ⊎ Contains (y ∷ []) f → r f.0 ≤ top
    by (inl e) = subst (λ (s : Signal). r s.0 ≤ top) e hx
    by (inr k) = subst (λ (s : Signal). r s.0 ≤ top) (only y f k) hy

-- the gate of a place
pub record IsGateAt (circuit : Side) (regroup : Bool) (net : NetView) (k : ℕ) (g : Gate) : Type 0 where
  pub word : ℕ
  pub has : HasGate circuit regroup word net (k / 1680) (k / 40 % 42) (k % 40)
  pub same : g ≡ has.gate

-- the latch of a place
pub record IsLatchAt (circuit : Side) (net : NetView) (j : ℕ) (l : LatchAt) : Type 0 where
  pub has : HasLatch circuit net (j / 40) (j % 40)
  pub same : l ≡ has.latch

module _ (circuit : Side) (regroup : Bool) (words : List ℕ) (net : NetView) (t : IsTwin circuit regroup words net) (sound : IsSound net) where
  -- the rank of a signal
  abbrev pub rank : ℕ → ℕ
  rank s = rank_of circuit (cell_of (unwrap_or (slice_get net.drivers s) (driver.Input 0)))

  -- what drives the signal of a cell's name
  pub driven : (x : Cell) → IsPlaced x → (signal : Signal) → IsOf circuit net x signal → slice_get net.drivers signal.0 ≡ Some (driver_of x)
  driven (cell.Input c) h signal is =
      let has = t.inputs c h in
      let own = sound.inputs c has.port has.at in
      let same : signal.0 ≡ has.port.signal.0 = sound.distinct signal.0 has.port.signal.0 (name_of circuit (cell.Input c)) is (own.named ∙ ap Some has.name) in
      ap (slice_get net.drivers) same ∙ own.owner
  driven (cell.Latch s c) h signal is =
      let has = t.latches s c h.0 h.1 in
      let own = sound.latches (40 * s + c) has.latch has.at in
      let same : signal.0 ≡ has.latch.out.0 = sound.distinct signal.0 has.latch.out.0 (name_of circuit (cell.Latch s c)) is (own.named ∙ ap Some has.name) in
      ap (slice_get net.drivers) same ∙ own.owner
  driven (cell.Gate s l c) h signal is =
      let has = t.gates s l c h.0 h.1 h.2 in
      let own = sound.gates (place_of s l c) has.gate has.at in
      let same : signal.0 ≡ has.gate.out.0 = sound.distinct signal.0 has.gate.out.0 (name_of circuit (cell.Gate s l c)) is has.is in
      ap (slice_get net.drivers) same ∙ own.owner

  pub rank_is : (x : Cell) → IsPlaced x → (signal : Signal) → IsOf circuit net x signal → rank signal.0 ≡ rank_of circuit x
  rank_is x h signal is =
      ap (λ (o : Option Driver). rank_of circuit (cell_of (unwrap_or o (driver.Input 0)))) (driven x h signal is) ∙ ap (rank_of circuit) (cell_of-driver x h)

  pub gate_there : (k : ℕ) (g : Gate) → slice_get net.gates k ≡ Some g → IsGateAt circuit regroup net k g
  gate_there k g at =
      let low = slice_get_within net.gates k g at in
      let within : k < 5040 = let count = t.gate_count in omega (arith, low, count) in
      let placed = gate_placed k within in
      let has = t.gates (k / 1680) (k / 40 % 42) (k % 40) placed.0 placed.1 placed.2 in
      record {
        word = slice_index words (place_of (k / 1680) (k / 40 % 42) (k % 40));
        has = has;
        same = same_Some g has.gate (sym at ∙ ap (slice_get net.gates) (sym (gate_whole k)) ∙ has.at);
      }

  pub latch_there : (j : ℕ) (l : LatchAt) → slice_get net.latches j ≡ Some l → IsLatchAt circuit net j l
  latch_there j l at =
      let low = slice_get_within net.latches j l at in
      let within : j < 120 = let count = t.latch_count in omega (arith, low, count) in
      let placed = latch_placed j within in
      let has = t.latches (j / 40) (j % 40) placed.0 placed.1 in
      record { has = has; same = same_Some l has.latch (sym at ∙ ap (slice_get net.latches) (sym (latch_whole j)) ∙ has.at) }

  -- what a gate reads as a column has no higher rank
  reads_rank : (k : ℕ) (g : Gate) → slice_get net.gates k ≡ Some g → (d : ℕ) → d < 40 → (signal : Signal) → IsOf circuit net (column_of circuit (k / 1680) (k / 40 % 42) d) signal → rank signal.0 ≤ rank g.out.0
  reads_rank k g at d ld signal is =
      let there = gate_there k g at in
      let low = slice_get_within net.gates k g at in
      let within : k < 5040 = let count = t.gate_count in omega (arith, low, count) in
      let placed = gate_placed k within in
      let out : rank g.out.0 ≡ rank_of circuit (gate_cell k) = ap (λ (x : Gate). rank x.out.0) there.same ∙ rank_is (gate_cell k) placed there.has.gate.out there.has.is in
      let own = rank_is (column_of circuit (k / 1680) (k / 40 % 42) d) (column_placed circuit (k / 1680) (k / 40 % 42) d placed.0 placed.1 ld) signal is in
      let below = column_rank circuit (k / 1680) (k / 40 % 42) (k % 40) d placed.1 in
      omega (arith, own, below, out)

  gate_rank : (k : ℕ) (g : Gate) → slice_get net.gates k ≡ Some g → (f : Signal) → Contains g.fanins f → rank f.0 ≤ rank g.out.0
  gate_rank k g at f h =
      let there = gate_there k g at in
      let has = there.has in
      two rank has.first has.second f (rank g.out.0) (reads_rank k g at (k % 40) (omega arith) has.first has.reads_first)
      (reads_rank k g at (second_of there.word (k % 40)) (omega arith) has.second has.reads_second)
      (subst (λ (fs : List Signal). Contains fs f) (ap (λ (x : Gate). x.fanins) there.same ∙ has.reads) h)

  latch_rank : (j : ℕ) (l : LatchAt) → slice_get net.latches j ≡ Some l → rank l.next.0 < rank l.out.0
  latch_rank j l at =
      let there = latch_there j l at in
      let low = slice_get_within net.latches j l at in
      let within : j < 120 = let count = t.latch_count in omega (arith, low, count) in
      let placed = latch_placed j within in
      let own = sound.latches j l at in
      let named : IsOf circuit net (latch_cell j) l.out = own.named ∙ ap (λ (x : LatchAt). Some x.name) there.same ∙ ap Some there.has.name in
      let out = rank_is (latch_cell j) placed l.out named in
      let next = ap (λ (x : LatchAt). rank x.next.0) there.same ∙ rank_is (data_of circuit (j / 40) (j % 40)) (data_placed circuit (j / 40) (j % 40) placed.0 placed.1) there.has.latch.next there.has.takes_over in
      let below = data_rank circuit (j / 40) (j % 40) in
      omega (arith, out, next, below)

  gate_ranked : (out : ℕ) (fanins : List ℕ) (cover : Cover) (p : ℕ) → Contains fanins p → OfGate net (gate_equation out fanins cover) ⊎ OfLatch net (gate_equation out fanins cover) → rank p ≤ rank out
  gate_ranked out fanins cover p c (inl g) =
      let is : gate_equation g.gate.out.0 (map (λ (f : Signal). f.0) g.gate.fanins) (cover_of net.covers g.gate) ≡ gate_equation out fanins cover = g.is in
      let out_is : g.gate.out.0 ≡ out = cc in
      let fans_are : map (λ (f : Signal). f.0) g.gate.fanins ≡ fanins = cc in
      let f = Contains-map_from (λ (f : Signal). f.0) g.gate.fanins p (subst (λ (fs : List ℕ). Contains fs p) (sym fans_are) c) in
      subst (λ (q : ℕ). rank q ≤ rank out) f.2 (subst (λ (o : ℕ). rank f.0.0 ≤ rank o) out_is (gate_rank g.j g.gate g.at f.0 f.1))
  gate_ranked out fanins cover p c (inr l) = absurd (let is : latch_equation l.latch.name l.latch.out.0 l.latch.next.0 ≡ gate_equation out fanins cover = l.is in cc)

  latch_ranked : (name : List ℕ) (out next : ℕ) → OfGate net (latch_equation name out next) ⊎ OfLatch net (latch_equation name out next) → rank next < rank out
  latch_ranked name out next (inl g) = absurd (let is : gate_equation g.gate.out.0 (map (λ (f : Signal). f.0) g.gate.fanins) (cover_of net.covers g.gate) ≡ latch_equation name out next = g.is in cc)
  latch_ranked name out next (inr l) =
      let is : latch_equation l.latch.name l.latch.out.0 l.latch.next.0 ≡ latch_equation name out next = l.is in
      let out_is : l.latch.out.0 ≡ out = cc in
      let next_is : l.latch.next.0 ≡ next = cc in
      subst (λ (n : ℕ). rank n < rank out) next_is (subst (λ (o : ℕ). rank l.latch.next.0 < rank o) out_is (latch_rank l.j l.latch l.at))

  pub no_port : (out from : ℕ) → OfGate net (port_equation out from) ⊎ OfLatch net (port_equation out from) → ⊥
  no_port out from (inl g) = let is : gate_equation g.gate.out.0 (map (λ (f : Signal). f.0) g.gate.fanins) (cover_of net.covers g.gate) ≡ port_equation out from = g.is in cc
  no_port out from (inr l) = let is : latch_equation l.latch.name l.latch.out.0 l.latch.next.0 ≡ port_equation out from = l.is in cc

  -- what a signal reads in its cycle has no higher rank
  pub reads_down : {p q : ℕ} → Reads (circuit_of net) p q → rank q ≤ rank p
  reads_down (Reads.by_gate {out = out} {q = q} {fanins = fanins} {cover = cover} h c) = gate_ranked out fanins cover q c (equation_from net (gate_equation out fanins cover) h)
  reads_down (Reads.by_port {out = out} {from = from} h) = absurd (no_port out from (equation_from net (port_equation out from) h))

  reaches_down : {p q : ℕ} → Reaches (circuit_of net) p q → rank q ≤ rank p
  reaches_down Reaches.here = omega arith
  reaches_down (Reaches.there r rest) = let a = reads_down r in let b = reaches_down rest in omega (arith, a, b)

  pub takes_down : (name : List ℕ) (out next : ℕ) → IsLatch (circuit_of net) name out next → rank next < rank out
  takes_down name out next h = latch_ranked name out next (equation_from net (latch_equation name out next) h)

  edge_down : {u v : ℕ} → LatchReads (circuit_of net) NoneEnabled [] u v → rank v < rank u
  edge_down {u} {v} r = let a = takes_down r.name u r.next r.latch in let b = reaches_down r.cone.1 in omega (arith, a, b)

  -- no cycle is told of the latch graph: the rank would rise along it for ever
  pub untold : (names : List (List ℕ)) → IsToldCycle Plain net [] names → ⊥
  untold names told =
      let first = some_at told.latches 0 told.cycle.some in
      let last = some_at told.latches (length told.latches - 1) (omega (arith, told.cycle.some)) in
      let round : after_in_round (length told.latches) (length told.latches - 1) ≡ 0 = last_place (length told.latches) (length told.latches - 1) (omega (arith, told.cycle.some)) in
      let up = climbs told.latches told.cycle first.0 first.1 (length told.latches - 1) last.0 last.1 in
      let down = edge_down (told.cycle.edges (length told.latches - 1) last.0 first.0 last.1 (ap (slice_get told.latches) round ∙ first.1)) in
      omega (arith, up, down)
    where
      climbs : (latches : List ℕ) → IsCycle (circuit_of net) NoneEnabled [] latches → (first : ℕ) → slice_get latches 0 ≡ Some first → (i u : ℕ) → slice_get latches i ≡ Some u → rank first ≤ rank u
      climbs latches cycle first here zero u at = let same : first ≡ u = same_Some first u (sym here ∙ at) in let e = ap rank same in omega (arith, e)
      climbs latches cycle first here (suc i) u at =
          let within = slice_get_within latches (suc i) u at in
          let before = some_at latches i (omega (arith, within)) in
          let next : after_in_round (length latches) i ≡ suc i = next_place (length latches) i (omega (arith, within)) ∙ add-one i in
          let step = edge_down (cycle.edges i before.0 u before.1 (ap (slice_get latches) next ∙ at)) in
          let rest = climbs latches cycle first here i before.0 before.1 in
          omega (arith, step, rest)
