-- Rounds of what literals read, and loops of gates.
use Rattle.std.proofs.Common.{◌≡◌, ℕ, zero, suc, ◌+◌, ◌*◌, ◌-◌, ◌<◌, ◌≤◌, List, [], ◌∷◌, ◌++◌, length, slice_get, get_or, Some, refl, sym, ◌∙◌, ap, subst, arith, inl, inr}
use Rattle.std.specs.Prelude.{◌⊎◌}
use Rattle.std.specs.List.{All, Contains, range_with_len}
use Rattle.std.proofs.lemmas.List.Elements.{Contains-append_left, Contains-append_right, Contains-append_cases}
use Rattle.std.proofs.lemmas.List.FromFn.{length-map-range_with_len, get_or-map-range_with_len}
use Rattle.std.proofs.lemmas.Option.{slice_get-get_or, slice_get_within}
use Rattle.circuit_theory.specs.Cover.{Cover}
use Rattle.circuit_theory.specs.Circuit.{Equation, Reads, Gate as gate_equation, Latch as latch_equation, Port as port_equation}
use Rattle.circuit_theory.proofs.Lists.{Contains-cases, Contains-map_from, All-from_each, at_of}
use Rattle.net_assembly.specs.Order.{reads_of, IsOrder, IsRound}
use Rattle.aiger_read.specs.declared.aiger_records.record.Record.{Record}
use Rattle.aiger_read.specs.aiger_records.Faults.{DefinesOnce}
use Rattle.aiger_read.specs.declared.aiger_file.symbol.Named.{Named}
use Rattle.aiger_read.specs.aiger_file.Names.{name_of}
use Rattle.aiger_read.specs.declared.aiger_file.file.AigerFile.{AigerFile}
use Rattle.aiger_read.specs.aiger_file.Files.{IsKept}
use Rattle.aiger_read.specs.aiger_file.aiger_graph.Circuit.{LatchLine, circuit_of_file, constants, gates_in, latches_in, latches_from, zero_cover, one_cover}
use Rattle.aiger_read.specs.aiger_file.aiger_graph.Literals.{reads_in, graph_of, gate_at}
use Rattle.aiger_read.specs.aiger_file.aiger_graph.Loops.{HasLoop}
use Rattle.aiger_read.proofs.aiger_file.aiger_graph.ReadLiterals.{AreWell, IsGateHere, gate_made, gate_here, all_well, reads_below}

-- the graph has what each literal reads
pub graph_low : (records : List Record) (size n : ℕ) → n < size → reads_of (graph_of records size) n ≡ reads_in records n
graph_low records size n low = get_or-map-range_with_len (reads_in records) 0 size n n [] low (omega arith)

graph_past : (xs : List (List ℕ)) (n : ℕ) → length xs ≤ n → get_or xs n [] ≡ []
graph_past [] n h = refl
graph_past (x ∷ xs) zero h = absurd (omega (arith, h))
graph_past (x ∷ xs) (suc n) h = graph_past xs n (omega (arith, h))

-- what stands in the graph is read
pub graph_reads : (records : List Record) (size n r : ℕ) → Contains (reads_of (graph_of records size) n) r → (n < size) × Contains (reads_in records n) r
graph_reads records size n r h = go (or_past n size)
  where
    or_past : (a b : ℕ) → (a < b) ⊎ (b ≤ a)
    or_past a zero = inr (omega arith)
    or_past zero (suc b) = inl (omega arith)
    or_past (suc a) (suc b) = pick (or_past a b)
      where
        pick : (a < b) ⊎ (b ≤ a) → (suc a < suc b) ⊎ (suc b ≤ suc a)
        pick (inl l) = inl (omega (arith, l))
        pick (inr l) = inr (omega (arith, l))

    go : (n < size) ⊎ (size ≤ n) → (n < size) × Contains (reads_in records n) r
    go (inl low) = (low, subst (λ (rs : List ℕ). Contains rs r) (graph_low records size n low) h)
    go (inr past) =
        let k = length-map-range_with_len (reads_in records) 0 size in
        let none = subst (λ (rs : List ℕ). Contains rs r) (graph_past (graph_of records size) n (omega (arith, k, past))) h in
        absurd (omega (arith, none.1))

-- the latches of a file are no gates and no ports
pub no_latch_gate : (symbols : Named) (k : ℕ) (ls : List LatchLine) (out : ℕ) (fanins : List ℕ) (cover : Cover) → Contains (latches_from symbols k ls) (gate_equation out fanins cover) → ⊥
no_latch_gate symbols k [] out fanins cover h = omega (arith, h.1)
no_latch_gate symbols k (l ∷ ls) out fanins cover h = go (Contains-cases (latch_equation (name_of symbols 108 k) l.literal l.next) (gate_equation out fanins cover) (latches_from symbols (k + 1) ls) h) (no_latch_gate symbols (k + 1) ls out fanins cover)
  where
    go : (latch_equation (name_of symbols 108 k) l.literal l.next ≡ gate_equation out fanins cover) ⊎ Contains (latches_from symbols (k + 1) ls) (gate_equation out fanins cover) → (Contains (latches_from symbols (k + 1) ls) (gate_equation out fanins cover) → ⊥) → ⊥
    go (inl e) later = cc
    go (inr i) later = later i

pub no_latch_port : (symbols : Named) (k : ℕ) (ls : List LatchLine) (out from : ℕ) → Contains (latches_from symbols k ls) (port_equation out from) → ⊥
no_latch_port symbols k [] out from h = omega (arith, h.1)
no_latch_port symbols k (l ∷ ls) out from h = go (Contains-cases (latch_equation (name_of symbols 108 k) l.literal l.next) (port_equation out from) (latches_from symbols (k + 1) ls) h) (no_latch_port symbols (k + 1) ls out from)
  where
    go : (latch_equation (name_of symbols 108 k) l.literal l.next ≡ port_equation out from) ⊎ Contains (latches_from symbols (k + 1) ls) (port_equation out from) → (Contains (latches_from symbols (k + 1) ls) (port_equation out from) → ⊥) → ⊥
    go (inl e) later = cc
    go (inr i) later = later i

-- what the equations of a file are
pub equation_cases : (f : AigerFile) (e : Equation ℕ) → Contains (circuit_of_file f).equations e → Contains constants e ⊎ (Contains (gates_in f.records) e ⊎ Contains (latches_from f.symbols 0 (latches_in f.records)) e)
equation_cases f e h = go (Contains-append_cases (constants ++ gates_in f.records) (latches_from f.symbols 0 (latches_in f.records)) e h)
  where
    early : Contains constants e ⊎ Contains (gates_in f.records) e → Contains constants e ⊎ (Contains (gates_in f.records) e ⊎ Contains (latches_from f.symbols 0 (latches_in f.records)) e)
    early (inl k) = inl k
    early (inr k) = inr (inl k)

    go : Contains (constants ++ gates_in f.records) e ⊎ Contains (latches_from f.symbols 0 (latches_in f.records)) e → Contains constants e ⊎ (Contains (gates_in f.records) e ⊎ Contains (latches_from f.symbols 0 (latches_in f.records)) e)
    go (inl k) = early (Contains-append_cases constants (gates_in f.records) e k)
    go (inr k) = inr (inr k)

-- the constants are 0 and 1
pub constant_cases : (e : Equation ℕ) → Contains constants e → (gate_equation 0 [] zero_cover ≡ e) ⊎ (gate_equation 1 [] one_cover ≡ e)
constant_cases e h = go (Contains-cases (gate_equation 0 [] zero_cover) e (gate_equation 1 [] one_cover ∷ []) h)
  where
    second : (gate_equation 1 [] one_cover ≡ e) ⊎ Contains [] e → (gate_equation 0 [] zero_cover ≡ e) ⊎ (gate_equation 1 [] one_cover ≡ e)
    second (inl q) = inr q
    second (inr k) = absurd (omega (arith, k.1))

    go : (gate_equation 0 [] zero_cover ≡ e) ⊎ Contains (gate_equation 1 [] one_cover ∷ []) e → (gate_equation 0 [] zero_cover ≡ e) ⊎ (gate_equation 1 [] one_cover ≡ e)
    go (inl q) = inl q
    go (inr k) = second (Contains-cases (gate_equation 1 [] one_cover) e [] k)

abbrev fanins_of : Equation ℕ → List ℕ
fanins_of (gate_equation out fanins cover) = fanins
fanins_of (latch_equation name out next) = []
fanins_of (port_equation out from) = []

abbrev out_at : Equation ℕ → ℕ
out_at (gate_equation out fanins cover) = out
out_at (latch_equation name out next) = out
out_at (port_equation out from) = out

-- a gate of the file reads what its literal does
pub gate_reads_in : (f : AigerFile) (size : ℕ) → DefinesOnce f.records → AreWell size f.records → (q p : ℕ) (fanins : List ℕ) (cover : Cover) → Contains (circuit_of_file f).equations (gate_equation q fanins cover) → Contains fanins p →
    (q < size) × Contains (reads_in f.records q) p
gate_reads_in f size once fine q p fanins cover h k = go (equation_cases f (gate_equation q fanins cover) h)
  where
    none : (c : ℕ) (own : Cover) → gate_equation c [] own ≡ gate_equation q fanins cover → ⊥
    none c own e = let x = subst (λ (rs : List ℕ). Contains rs p) (sym (ap fanins_of e)) k in omega (arith, x.1)

    constant : (gate_equation 0 [] zero_cover ≡ gate_equation q fanins cover) ⊎ (gate_equation 1 [] one_cover ≡ gate_equation q fanins cover) → (q < size) × Contains (reads_in f.records q) p
    constant (inl e) = absurd (none 0 zero_cover e)
    constant (inr e) = absurd (none 1 one_cover e)

    here : IsGateHere size f.records (gate_equation q fanins cover) → (q < size) × Contains (reads_in f.records q) p
    here x =
        let own : x.literal ≡ q = ap out_at x.same in
        let reads : reads_in f.records x.literal ≡ fanins = ap fanins_of x.same in
        let there : Contains (reads_in f.records x.literal) p = subst (λ (rs : List ℕ). Contains rs p) (sym reads) k in
        (subst (λ (l : ℕ). l < size) own x.low, subst (λ (l : ℕ). Contains (reads_in f.records l) p) own there)

    go : Contains constants (gate_equation q fanins cover) ⊎ (Contains (gates_in f.records) (gate_equation q fanins cover) ⊎ Contains (latches_from f.symbols 0 (latches_in f.records)) (gate_equation q fanins cover)) → (q < size) × Contains (reads_in f.records q) p
    go (inl c) = constant (constant_cases (gate_equation q fanins cover) c)
    go (inr (inl g)) = here (gate_here size f.records (gate_equation q fanins cover) once fine g)
    go (inr (inr l)) = absurd (no_latch_gate f.symbols 0 (latches_in f.records) q fanins cover l)

pub no_port : (f : AigerFile) (size : ℕ) → DefinesOnce f.records → AreWell size f.records → (out from : ℕ) → Contains (circuit_of_file f).equations (port_equation out from) → ⊥
no_port f size once fine out from h = go (equation_cases f (port_equation out from) h)
  where
    constant : (gate_equation 0 [] zero_cover ≡ port_equation out from) ⊎ (gate_equation 1 [] one_cover ≡ port_equation out from) → ⊥
    constant (inl e) = cc
    constant (inr e) = cc

    here : IsGateHere size f.records (port_equation out from) → ⊥
    here x = let e : gate_at f.records x.literal ≡ port_equation out from = x.same in cc

    go : Contains constants (port_equation out from) ⊎ (Contains (gates_in f.records) (port_equation out from) ⊎ Contains (latches_from f.symbols 0 (latches_in f.records)) (port_equation out from)) → ⊥
    go (inl c) = constant (constant_cases (port_equation out from) c)
    go (inr (inl g)) = here (gate_here size f.records (port_equation out from) once fine g)
    go (inr (inr l)) = no_latch_port f.symbols 0 (latches_in f.records) out from l

pub reads_here : (f : AigerFile) (size : ℕ) → DefinesOnce f.records → AreWell size f.records → (q p : ℕ) → Reads (circuit_of_file f) q p → (q < size) × Contains (reads_in f.records q) p
reads_here f size once fine q p (Reads.by_gate {fanins = fanins} {cover = cover} h k) = gate_reads_in f size once fine q p fanins cover h k
reads_here f size once fine q p (Reads.by_port h) = absurd (no_port f size once fine q p h)

-- what a literal reads is read by its gate
pub read_here : (f : AigerFile) (q p : ℕ) → Contains (reads_in f.records q) p → Reads (circuit_of_file f) q p
read_here f q p h = go (reads_in f.records q) refl h
  where
    go : (reads : List ℕ) → reads_in f.records q ≡ reads → Contains reads p → Reads (circuit_of_file f) q p
    go [] e k = absurd (omega (arith, k.1))
    go (a ∷ more) e k =
        Reads.by_gate (Contains-append_left (constants ++ gates_in f.records) (latches_from f.symbols 0 (latches_in f.records)) (gate_at f.records q)
        (Contains-append_right constants (gates_in f.records) (gate_at f.records q) (gate_made f.records q a more e))) h

-- a round of the graph is a loop of gates
pub round_is_loop : (f : AigerFile) (size : ℕ) (literals : List ℕ) → IsRound (graph_of f.records size) literals → HasLoop f
round_is_loop f size literals r = (
  literals,
  record {
    some = r.some;
    next = λ i p q hp hq. read_here f q p (graph_reads f.records size q p (r.next i p q hp hq)).1;
    closes = λ first last hf hl. read_here f first last (graph_reads f.records size first last (r.closes first last hf hl)).1;
  },
)

-- where the graph has an order, there is no loop
pub order_has_no_loop : (f : AigerFile) (size : ℕ) (order : List ℕ) → DefinesOnce f.records → AreWell size f.records → IsOrder (graph_of f.records size) order → HasLoop f → ⊥
order_has_no_loop f size order once fine o (places, loop) =
    let first = slice_get-get_or places 0 0 loop.some in
    let last = slice_get-get_or places (length places - 1) 0 (let k = loop.some in omega (arith, k)) in
    let start = before (get_or places 0 0) (get_or places (length places - 1) 0) (loop.closes (get_or places 0 0) (get_or places (length places - 1) 0) first last) in
    let end = later start.0 start.1 (length places - 1) (get_or places (length places - 1) 0) last in
    let same = o.once start.2 end.0 (get_or places (length places - 1) 0) start.4 end.1 in
    omega (arith, same, start.3, end.2)
  where
    graph_size : length (graph_of f.records size) ≡ size
    graph_size = length-map-range_with_len (reads_in f.records) 0 size

    -- the place of a literal in the order, and of one that it reads
    before : (q p : ℕ) → Reads (circuit_of_file f) q p → (i : ℕ) × (slice_get order i ≡ Some q) × (j : ℕ) × (j < i) × (slice_get order j ≡ Some p)
    before q p h =
        let x = reads_here f size once fine q p h in
        let at = at_of order q (o.each q (subst (λ (n : ℕ). q < n) (sym graph_size) x.0)) in
        let y = o.behind at.0 q p at.1 (subst (λ (rs : List ℕ). Contains rs p) (sym (graph_low f.records size q x.0)) x.1) in
        (at.0, at.1, y.0, y.1, y.2)

    later : (a : ℕ) → slice_get order a ≡ Some (get_or places 0 0) → (i p : ℕ) → slice_get places i ≡ Some p → (b : ℕ) × (slice_get order b ≡ Some p) × (a ≤ b)
    later a at zero p h = (a, at ∙ sym (slice_get-get_or places 0 0 loop.some) ∙ h, omega arith)
    later a at (suc i) p h =
        let low = slice_get_within places (suc i) p h in
        let q = get_or places i 0 in
        let here = slice_get-get_or places i 0 (omega (arith, low)) in
        let earlier = later a at i q here in
        let x = before p q (loop.next i q p here h) in
        let same = o.once earlier.0 x.2 q earlier.1 x.4 in
        (x.0, x.1, omega (arith, same, earlier.2, x.3))

-- what literals read are literals
pub graph_within : (f : AigerFile) (graph : List (List ℕ)) → IsKept f → graph ≡ graph_of f.records (2 * f.header.greatest + 2) → All (λ (reads : List ℕ). All (λ r. r < length graph) reads) graph
graph_within f graph kept is =
    subst (λ (g : List (List ℕ)). All (λ (reads : List ℕ). All (λ r. r < length g) reads) g) (sym is)
    (All-from_each (λ (reads : List ℕ). All (λ r. r < length (graph_of f.records (2 * f.header.greatest + 2))) reads) (graph_of f.records (2 * f.header.greatest + 2))
    (λ reads h. let x = Contains-map_from (reads_in f.records) (range_with_len 0 (2 * f.header.greatest + 2)) reads h in
    All-from_each (λ r. r < length (graph_of f.records (2 * f.header.greatest + 2))) reads
    (λ r k. subst (λ (n : ℕ). r < n) (sym (length-map-range_with_len (reads_in f.records) 0 (2 * f.header.greatest + 2)))
    (reads_below (2 * f.header.greatest + 2) f.records (all_well f.header f.records kept.good) x.0 r (subst (λ (rs : List ℕ). Contains rs r) (sym x.2) k)))))

pub graph_few : (f : AigerFile) (graph : List (List ℕ)) → IsKept f → graph ≡ graph_of f.records (2 * f.header.greatest + 2) → length graph ≤ 800002
graph_few f graph kept is = let a = ap length is in let b = length-map-range_with_len (reads_in f.records) 0 (2 * f.header.greatest + 2) in let c = kept.small.greatest in omega (arith, a, b, c)
