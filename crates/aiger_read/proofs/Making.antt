-- A net of a file that grows by one signal, or by one output.
use Rattle.std.proofs.Common.{◌≡◌, ◌≢◌, ℕ, zero, suc, ◌+◌, ◌-◌, ◌*◌, ◌^◌, ◌<◌, ◌≤◌, Bool, true, false, cond, eqb, List, [], ◌∷◌, ◌++◌, map, length, take, drop, set, replicate, get_or, slice_get, Some, None, refl, sym, ◌∙◌, ap, ap₂, subst, arith, append_assoc, take-append-drop, inl, inr}
use Rattle.std.specs.Prelude.{◌⊎◌, IsSomeAnd, unwrap_or, Result, Ok, Err, OnOk}
use Rattle.std.specs.List.{All, Contains, filter}
use Rattle.std.proofs.lemmas.List.{length-replicate, length-append, length-map, map-append}
use Rattle.std.proofs.lemmas.List.Elements.{filter-append}
use Rattle.std.proofs.lemmas.List.FromFn.{length-map-range_with_len}
use Rattle.std.proofs.lemmas.Option.{none-some, same_Some, slice_get_within, slice_get-get_or, get_or_from_slice_get}
use Rattle.circuit_theory.specs.Cover.{Cover}
use Rattle.circuit_theory.specs.Circuit.{Equation, Named as Port, Gate as gate_equation}
use Rattle.circuit_theory.specs.Joined.{moved, moved_name}
use Rattle.circuit_theory.proofs.Lists.{map-map, map_same, All-from_each, Contains-map_from, Contains-filter, at_of, of_at}
use Rattle.circuit_theory.proofs.Numbers.{slice_get-map}
use Rattle.base_tables.specs.Table.{is_among, AreDistinct}
use Rattle.base_tables.proofs.TableLemmas.{not_before, take-push}
use Rattle.flat_net.specs.declared.signals.Signal.{Signal}
use Rattle.flat_net.specs.declared.parts.Port.{Port as NetPort}
use Rattle.flat_net.specs.declared.parts.Gate.{Gate as NetGate}
use Rattle.flat_net.specs.View.{NetView, named, equation_of_gate}
use Rattle.flat_net.specs.Makes.{MakerView, empty_net, with_input, with_latch, with_gate, with_output}
use Rattle.flat_net.proofs.PlaceLists.{filter-take}
use Rattle.aiger_read.proofs.aiger_file.aiger_graph.net_assembly.Rows.{same_or_not, slice_get-append, slice_get-set_same, slice_get-set_other, slice_get-take_to, length-set_is}
use Rattle.aiger_read.proofs.aiger_file.aiger_graph.net_assembly.Building.{few_below}
use Rattle.aiger_read.proofs.aiger_file.aiger_graph.net_assembly.DistinctLists.{Contains-kept}
use Rattle.aiger_read.specs.declared.aiger_records.record.Record.{Record}
use Rattle.aiger_read.specs.declared.aiger_records.record.Record.TheVariants.{Input, Latch, Output, Gate, Packed}
use Rattle.aiger_read.specs.declared.aiger_file.symbol.Named.{Named}
use Rattle.aiger_read.specs.aiger_file.Names.{name_of}
use Rattle.aiger_read.specs.declared.aiger_file.file.AigerFile.{AigerFile}
use Rattle.aiger_read.specs.aiger_file.aiger_graph.Circuit.{LatchLine, is_used, ports_from, input_of, output_of, latch_of, input_literals, latches_in, zero_cover, one_cover}
use Rattle.aiger_read.specs.aiger_file.aiger_graph.Literals.{negated, reads_among, reads_in, graph_of, gate_at, cover_by}
use Rattle.aiger_read.specs.SignalNames.{latch_literals, gate_name, signal_name, init_of}
use Rattle.aiger_read.specs.Signals.{is_gate, all_covers, cover_number, all_literals, literal_at}
use Rattle.aiger_read.specs.Made.{IsPlan, IsPlaced, IsNext, IsMade, LatchHead, heads_from, head_at, signal_at}
use Rattle.aiger_read.proofs.aiger_file.aiger_graph.ReadLiterals.{AreWell, all_well, reads_below}
use Rattle.aiger_read.proofs.LiteralLists.{kept_at, literals_once, literals_low, source_not_gate, driven_in, reads_driven, reads_used}
use Rattle.aiger_read.proofs.Naming.{port_of, behind, input_name, latch_name, gate_name_is, names_once}
use Rattle.aiger_read.proofs.aiger_file.aiger_graph.NoLoops.{graph_low}

-- the net without signals
pub made_nothing : (f : AigerFile) (order : List ℕ) (maker : MakerView) (signals : List Signal) → maker ≡ record { net = record empty_net { covers = all_covers }; set = [] } → signals ≡ replicate (2 * f.header.greatest + 2) (record { 0 = 0 }) →
    IsMade f order [] [] [] [] maker.net signals
made_nothing f order maker signals is signals_are =
    subst (λ (n : NetView). IsMade f order [] [] [] [] n signals) (sym (ap (λ (m : MakerView). m.net) is)) (record {
      size = ap length signals_are ∙ length-replicate _ _;
      placed = λ s l low at. absurd (omega (arith, low));
      names_are = refl;
      count = refl;
      inputs = refl;
      latches = refl;
      gates_are = refl;
      outputs = refl;
      covers = refl;
      clock = refl;
    })

-- what two clauses give together
pub on_both : {T E A B P : Type 0} (r : Result T E) → OnOk r A → OnOk r B → (A → B → P) → OnOk r P
on_both (Ok x) a b f = f a b
on_both (Err e) a b f = tt

-- the record at a place of the code's slice
pub record_there : (records items : List Record) (k : ℕ) → items ≡ records → k < length items → slice_get records k ≡ Some (get_or items k (Input 0))
record_there records items k e low = subst (λ (rs : List Record). slice_get rs k ≡ Some (get_or items k (Input 0))) e (slice_get-get_or items k (Input 0) low)

-- no other record is an input, a latch or an output
pub no_input : (r : Record) → ((l : ℕ) → r ≡ Input l → ⊥) → input_of r ≡ None
no_input (Input literal) h = absurd (h literal refl)
no_input (Latch literal next reset) h = refl
no_input (Output literal) h = refl
no_input (Gate literal left right) h = refl
no_input (Packed literal first second) h = refl

pub no_latch : (r : Record) → ((l n s : ℕ) → r ≡ Latch l n s → ⊥) → latch_of r ≡ None
no_latch (Latch literal next reset) h = absurd (h literal next reset refl)
no_latch (Input literal) h = refl
no_latch (Output literal) h = refl
no_latch (Gate literal left right) h = refl
no_latch (Packed literal first second) h = refl

pub no_output : (r : Record) → ((l : ℕ) → r ≡ Output l → ⊥) → output_of r ≡ None
no_output (Output literal) h = absurd (h literal refl)
no_output (Input literal) h = refl
no_output (Latch literal next reset) h = refl
no_output (Gate literal left right) h = refl
no_output (Packed literal first second) h = refl

-- where what passes stands
pub filter_at : {X : Type 0} (p : X → Bool) (xs : List X) (k : ℕ) (x : X) → slice_get xs k ≡ Some x → p x ≡ true → slice_get (filter p xs) (length (filter p (take k xs))) ≡ Some x
filter_at p [] k x at is = absurd (none-some x at)
filter_at {X} p (z ∷ xs) zero x at is = ap (λ (b : Bool). slice_get (cond b (z ∷ filter p xs) (filter p xs)) 0) (ap p (same_Some z x at) ∙ is) ∙ at
filter_at {X} p (z ∷ xs) (suc k) x at is = go (p z) (filter_at p xs k x at is)
  where
    go : (b : Bool) → slice_get (filter p xs) (length (filter p (take k xs))) ≡ Some x → slice_get (cond b (z ∷ filter p xs) (filter p xs)) (length (cond b (z ∷ filter p (take k xs)) (filter p (take k xs)))) ≡ Some x
    go true e = e
    go false e = e

-- a latch without what it takes over, by its reset
abbrev line_head : List ℕ → ℕ → ℕ → LatchHead
line_head name literal reset = record { name = name; literal = literal; init = init_of reset }

-- one port more, one latch more
pub ports_push : (symbols : Named) (letter k : ℕ) (ls : List ℕ) (l j : ℕ) → j ≡ k + length ls → ports_from symbols letter k (ls ++ l ∷ []) ≡ ports_from symbols letter k ls ++ port_of (name_of symbols letter j) l ∷ []
ports_push symbols letter k [] l j e = ap (λ (n : ℕ). port_of (name_of symbols letter n) l ∷ []) (let d : k ≡ j = omega (arith, e) in d)
ports_push symbols letter k (m ∷ ls) l j e = ap (λ (ps : List (Port ℕ)). port_of (name_of symbols letter k) m ∷ ps) (ports_push symbols letter (k + 1) ls l j (omega (arith, e)))

pub heads_push : (symbols : Named) (k : ℕ) (ls : List LatchLine) (l : LatchLine) (j : ℕ) → j ≡ k + length ls → heads_from symbols k (ls ++ l ∷ []) ≡ heads_from symbols k ls ++ line_head (name_of symbols 108 j) l.literal l.reset ∷ []
heads_push symbols k [] l j e = ap (λ (n : ℕ). line_head (name_of symbols 108 n) l.literal l.reset ∷ []) (let d : k ≡ j = omega (arith, e) in d)
heads_push symbols k (m ∷ ls) l j e = ap (λ (hs : List LatchHead). line_head (name_of symbols 108 k) m.literal m.reset ∷ hs) (heads_push symbols (k + 1) ls l j (omega (arith, e)))

module _ (f : AigerFile) (graph : List (List ℕ)) (order : List ℕ) (plan : IsPlan f graph order) where
  abbrev pub size : ℕ
  size = 2 * f.header.greatest + 2

  abbrev pub literals : List ℕ
  literals = all_literals f.records order

  pub fine : AreWell size f.records
  fine = all_well f.header f.records plan.kept.good

  graph_size : length (graph_of f.records size) ≡ size
  graph_size = length-map-range_with_len (reads_in f.records) 0 size

  pub each : (l : ℕ) → l < size → Contains order l
  each l low = plan.order_is.each l (subst (λ (n : ℕ). l < n) (sym graph_size) low)

  pub order_low : (l : ℕ) → Contains order l → l < size
  order_low l h = subst (λ (n : ℕ). l < n) graph_size (plan.order_is.only l h)

  pub distinct : AreDistinct literals
  distinct = literals_once size f.records plan.kept.once fine order plan.order_is.once

  pub all_low : (l : ℕ) → Contains literals l → l < size
  all_low = literals_low size f.records plan.kept.once fine order order_low

  pub few : length literals ≤ size
  few = few_below literals size distinct all_low

  sources_once : AreDistinct (input_literals f.records ++ latch_literals f.records)
  sources_once i j l hi hj = distinct i j l (in_front i l hi) (in_front j l hj)
    where
      in_front : (k m : ℕ) → slice_get (input_literals f.records ++ latch_literals f.records) k ≡ Some m → slice_get literals k ≡ Some m
      in_front k m h = slice_get-append (input_literals f.records ++ latch_literals f.records) (filter (is_gate f.records) order) k m h

  -- no two signals have one name
  pub all_names_once : AreDistinct (map (signal_name f) literals)
  all_names_once =
      names_once f sources_once plan.faultless (filter (is_gate f.records) order) (source_not_gate size f.records plan.kept.once fine order)
      (λ l h. let low = order_low l (Contains-filter (is_gate f.records) order l h) in let c = plan.kept.small.greatest in omega (arith, low, c)) distinct

  -- there is room for one signal more
  pub room : (n l : ℕ) → slice_get literals n ≡ Some l → n + 1 < 2 ^ 32
  room n l h = let a = slice_get_within literals n l h in let b = few in let c = plan.kept.small.greatest in omega (arith, a, b, c)

  pub next_low : (n l : ℕ) → slice_get literals n ≡ Some l → l < size
  next_low n l h = all_low l (of_at literals n l h)

  pub at_next : (n l : ℕ) → slice_get literals n ≡ Some l → literal_at literals n ≡ l
  at_next n l h = get_or_from_slice_get literals n l 0 h

  -- its name is new, and the names with it
  pub fresh : (net : NetView) (l : ℕ) (name : List ℕ) → net.names ≡ take (length net.drivers) (map (signal_name f) literals) → IsNext literals net l → name ≡ signal_name f l → is_among net.names name ≡ false
  fresh net l name named next is =
      ap₂ (λ (ns : List (List ℕ)) (n : List ℕ). is_among ns n) named is
      ∙ not_before (map (signal_name f) literals) (length net.drivers) (signal_name f l) all_names_once (slice_get-map (signal_name f) literals (length net.drivers) l next)

  named_more : (net net' : NetView) (l : ℕ) (name : List ℕ) → net.names ≡ take (length net.drivers) (map (signal_name f) literals) → IsNext literals net l → name ≡ signal_name f l →
      net'.names ≡ net.names ++ name ∷ [] → length net'.drivers ≡ length net.drivers + 1 → net'.names ≡ take (length net'.drivers) (map (signal_name f) literals)
  named_more net net' l name named next is names grown =
      names ∙ ap₂ (λ (ns : List (List ℕ)) (n : List ℕ). ns ++ n ∷ []) named is
      ∙ take-push (map (signal_name f) literals) (length net.drivers) (signal_name f l) (slice_get-map (signal_name f) literals (length net.drivers) l next)
      ∙ ap (λ (n : ℕ). take n (map (signal_name f) literals)) (sym grown)

  -- one signal more
  pub placed_more : (net net' : NetView) (signals signals' : List Signal) (l : ℕ) → IsPlaced literals net signals → IsNext literals net l → length signals ≡ size → length net'.drivers ≡ length net.drivers + 1 →
      signals' ≡ set signals l (record { 0 = length net.drivers }) → IsPlaced literals net' signals'
  placed_more net net' signals signals' l old next size_is more is s m low at =
      subst (λ (ss : List Signal). slice_get ss m ≡ Some (record { 0 = s })) (sym is) (go (same_or_not s (length net.drivers)))
    where
      within : l < length signals
      within = let k = next_low (length net.drivers) l next in omega (arith, k, size_is)

      go : (s ≡ length net.drivers) ⊎ (s ≢ length net.drivers) → slice_get (set signals l (record { 0 = length net.drivers })) m ≡ Some (record { 0 = s })
      go (inl e) =
          let same : l ≡ m = same_Some l m (sym next ∙ ap (slice_get literals) (sym e) ∙ at) in
          subst (λ (k : ℕ). slice_get (set signals l (record { 0 = length net.drivers })) k ≡ Some (record { 0 = s })) same
          (slice_get-set_same signals l (record { 0 = length net.drivers }) (get_or signals l (record { 0 = 0 })) (slice_get-get_or signals l (record { 0 = 0 }) within) ∙ ap (λ (k : ℕ). Some (record { 0 = k })) (sym e))
      go (inr apart) =
          slice_get-set_other signals l m (record { 0 = length net.drivers }) (λ e. apart (distinct s (length net.drivers) m at (next ∙ ap Some (sym e))))
          ∙ old s m (omega (arith, low, more, apart)) at

  -- a literal that stands for a signal so far
  pub signal_is : (net : NetView) (signals : List Signal) (s l : ℕ) → IsPlaced literals net signals → s < length net.drivers → slice_get literals s ≡ Some l → signal_at signals l ≡ record { 0 = s }
  signal_is net signals s l placed low at = get_or_from_slice_get signals l (record { 0 = s }) (record { 0 = 0 }) (placed s l low at)

  pub made_input : (ins : List ℕ) (l : ℕ) (name : List ℕ) (net net' : NetView) (signals signals' : List Signal) → IsMade f order ins [] [] [] net signals → IsNext literals net l →
      name ≡ name_of f.symbols 105 (length ins) → name ≡ signal_name f l → net' ≡ with_input net name → signals' ≡ set signals l (record { 0 = length net.drivers }) → IsMade f order (ins ++ l ∷ []) [] [] [] net' signals'
  made_input ins l name net net' signals signals' made next name_is own is signals_are =
      let grown : length net'.drivers ≡ length net.drivers + 1 = ap (λ (n : NetView). length n.drivers) is ∙ length-append net.drivers _ in
      record {
        size = ap length signals_are ∙ length-set_is signals l (record { 0 = length net.drivers }) ∙ made.size;
        placed = placed_more net net' signals signals' l made.placed next made.size grown signals_are;
        names_are = named_more net net' l name made.names_are next own (ap (λ (n : NetView). n.names) is) grown;
        count = omega (arith, grown, made.count, length-append ins (l ∷ []));
        inputs = ap (λ (n : NetView). map (λ (p : NetPort). moved_name (literal_at literals) (named p)) n.inputs) is
            ∙ map-append (λ (p : NetPort). moved_name (literal_at literals) (named p)) net.inputs _
            ∙ ap₂ (λ (ps : List (Port ℕ)) (p : Port ℕ). ps ++ p ∷ []) made.inputs
            (ap₂ (λ (n : List ℕ) (q : ℕ). port_of n q) name_is (at_next (length net.drivers) l next))
            ∙ sym (ports_push f.symbols 105 0 ins l (length ins) (omega arith));
        latches = ap (λ (n : NetView). map (head_at literals) n.latches) is ∙ made.latches;
        gates_are = ap (λ (n : NetView). map (λ (g : NetGate). moved (literal_at literals) (equation_of_gate all_covers g)) n.gates) is ∙ made.gates_are;
        outputs = ap (λ (n : NetView). map (λ (p : NetPort). moved_name (literal_at literals) (named p)) n.outputs) is ∙ made.outputs;
        covers = ap (λ (n : NetView). n.covers) is ∙ made.covers;
        clock = ap (λ (n : NetView). n.clock) is ∙ made.clock;
      }

  pub made_latch : (ins : List ℕ) (lats : List LatchLine) (l : LatchLine) (name : List ℕ) (net net' : NetView) (signals signals' : List Signal) → IsMade f order ins lats [] [] net signals → IsNext literals net l.literal →
      name ≡ name_of f.symbols 108 (length lats) → name ≡ signal_name f l.literal → net' ≡ with_latch net name (init_of l.reset) → signals' ≡ set signals l.literal (record { 0 = length net.drivers }) → IsMade f order ins (lats ++ l ∷ []) [] [] net' signals'
  made_latch ins lats l name net net' signals signals' made next name_is own is signals_are =
      let grown : length net'.drivers ≡ length net.drivers + 1 = ap (λ (n : NetView). length n.drivers) is ∙ length-append net.drivers _ in
      record {
        size = ap length signals_are ∙ length-set_is signals l.literal (record { 0 = length net.drivers }) ∙ made.size;
        placed = placed_more net net' signals signals' l.literal made.placed next made.size grown signals_are;
        names_are = named_more net net' l.literal name made.names_are next own (ap (λ (n : NetView). n.names) is) grown;
        count = omega (arith, grown, made.count, length-append lats (l ∷ []));
        inputs = ap (λ (n : NetView). map (λ (p : NetPort). moved_name (literal_at literals) (named p)) n.inputs) is ∙ made.inputs;
        latches = ap (λ (n : NetView). map (head_at literals) n.latches) is
            ∙ map-append (head_at literals) net.latches _
            ∙ ap₂ (λ (hs : List LatchHead) (h : LatchHead). hs ++ h ∷ []) made.latches
            (ap₂ (λ (n : List ℕ) (q : ℕ). line_head n q l.reset) name_is (at_next (length net.drivers) l.literal next))
            ∙ sym (heads_push f.symbols 0 lats l (length lats) (omega arith));
        gates_are = ap (λ (n : NetView). map (λ (g : NetGate). moved (literal_at literals) (equation_of_gate all_covers g)) n.gates) is ∙ made.gates_are;
        outputs = ap (λ (n : NetView). map (λ (p : NetPort). moved_name (literal_at literals) (named p)) n.outputs) is ∙ made.outputs;
        covers = ap (λ (n : NetView). n.covers) is ∙ made.covers;
        clock = ap (λ (n : NetView). n.clock) is ∙ made.clock;
      }

  pub made_output : (ins : List ℕ) (lats : List LatchLine) (gates outs : List ℕ) (l s : ℕ) (name : List ℕ) (net net' : NetView) (signals : List Signal) → IsMade f order ins lats gates outs net signals →
      slice_get literals s ≡ Some l → name ≡ name_of f.symbols 111 (length outs) → net' ≡ with_output net name (record { 0 = s }) → IsMade f order ins lats gates (outs ++ l ∷ []) net' signals
  made_output ins lats gates outs l s name net net' signals made at name_is is = record {
    size = made.size;
    placed = λ i m low h. made.placed i m (subst (λ (k : ℕ). i < k) (ap (λ (n : NetView). length n.drivers) is) low) h;
    names_are = ap (λ (n : NetView). n.names) is ∙ made.names_are ∙ ap (λ (n : NetView). take (length n.drivers) (map (signal_name f) literals)) (sym is);
    count = ap (λ (n : NetView). length n.drivers) is ∙ made.count;
    inputs = ap (λ (n : NetView). map (λ (p : NetPort). moved_name (literal_at literals) (named p)) n.inputs) is ∙ made.inputs;
    latches = ap (λ (n : NetView). map (head_at literals) n.latches) is ∙ made.latches;
    gates_are = ap (λ (n : NetView). map (λ (g : NetGate). moved (literal_at literals) (equation_of_gate all_covers g)) n.gates) is ∙ made.gates_are;
    outputs = ap (λ (n : NetView). map (λ (p : NetPort). moved_name (literal_at literals) (named p)) n.outputs) is
        ∙ map-append (λ (p : NetPort). moved_name (literal_at literals) (named p)) net.outputs _
        ∙ ap₂ (λ (ps : List (Port ℕ)) (p : Port ℕ). ps ++ p ∷ []) made.outputs (ap₂ (λ (n : List ℕ) (q : ℕ). port_of n q) name_is (at_next s l at))
        ∙ sym (ports_push f.symbols 111 0 outs l (length outs) (omega arith));
    covers = ap (λ (n : NetView). n.covers) is ∙ made.covers;
    clock = ap (λ (n : NetView). n.clock) is ∙ made.clock;
  }

  -- the next literal is that of the input, the latch or the gate
  pub input_next : (k l : ℕ) (r : Record) (net : NetView) → slice_get f.records k ≡ Some r → input_of r ≡ Some l → length net.drivers ≡ length (input_literals (take k f.records)) + 0 + 0 → IsNext literals net l
  input_next k l r net at is count =
      slice_get-append (input_literals f.records ++ latch_literals f.records) (filter (is_gate f.records) order) (length net.drivers) l
      (slice_get-append (input_literals f.records) (latch_literals f.records) (length net.drivers) l
      (subst (λ (n : ℕ). slice_get (input_literals f.records) n ≡ Some l) (let e : length (input_literals (take k f.records)) ≡ length net.drivers = omega (arith, count) in e) (kept_at input_of f.records k r l at is)))

  pub latch_next : (k : ℕ) (l : LatchLine) (r : Record) (net : NetView) → slice_get f.records k ≡ Some r → latch_of r ≡ Some l → length net.drivers ≡ length (input_literals f.records) + length (latches_in (take k f.records)) + 0 → IsNext literals net l.literal
  latch_next k l r net at is count =
      slice_get-append (input_literals f.records ++ latch_literals f.records) (filter (is_gate f.records) order) (length net.drivers) l.literal
      (behind (input_literals f.records) (latch_literals f.records) (length net.drivers) (length (latches_in (take k f.records))) l.literal (omega (arith, count))
      (slice_get-map (λ (x : LatchLine). x.literal) (latches_in f.records) (length (latches_in (take k f.records))) l (kept_at latch_of f.records k r l at is)))

  -- the names of an input and of a latch
  pub input_named : (k l : ℕ) (r : Record) → slice_get f.records k ≡ Some r → input_of r ≡ Some l → signal_name f l ≡ name_of f.symbols 105 (length (input_literals (take k f.records)))
  input_named k l r at is = input_name f sources_once (length (input_literals (take k f.records))) l (kept_at input_of f.records k r l at is)

  pub latch_named : (k : ℕ) (l : LatchLine) (r : Record) → slice_get f.records k ≡ Some r → latch_of r ≡ Some l → signal_name f l.literal ≡ name_of f.symbols 108 (length (latches_in (take k f.records)))
  latch_named k l r at is =
      latch_name f sources_once (length (latches_in (take k f.records))) l.literal
      (slice_get-map (λ (x : LatchLine). x.literal) (latches_in f.records) (length (latches_in (take k f.records))) l (kept_at latch_of f.records k r l at is))

  pub source_count : length (input_literals f.records ++ latch_literals f.records) ≡ length (input_literals f.records) + length (latches_in f.records)
  source_count = length-append (input_literals f.records) (latch_literals f.records) ∙ ap (λ (n : ℕ). length (input_literals f.records) + n) (length-map (latches_in f.records) (λ (k : LatchLine). k.literal))

  -- the literal at a place of the order
  pub order_at : (k : ℕ) → k < length order → slice_get order k ≡ Some (get_or order k 0)
  order_at k low = slice_get-get_or order k 0 low

  pub place_low : (k : ℕ) → k < length order → get_or order k 0 < size
  place_low k low = order_low (get_or order k 0) (of_at order k (get_or order k 0) (order_at k low))

  pub graph_at : (l : ℕ) → l < size → l < length graph
  graph_at l low = subst (λ (g : List (List ℕ)). l < length g) (sym plan.graph_is) (subst (λ (n : ℕ). l < n) (sym graph_size) low)

  pub reads_at_literal : (l : ℕ) (default : List ℕ) → l < size → get_or graph l default ≡ reads_in f.records l
  reads_at_literal l default low =
      get_or_from_slice_get graph l (get_or graph l []) default (slice_get-get_or graph l [] (graph_at l low))
      ∙ ap (λ (g : List (List ℕ)). get_or g l []) plan.graph_is ∙ graph_low f.records size l low

  module _ (place l : ℕ) (at : slice_get order place ≡ Some l) (net : NetView) (signals : List Signal)
      (made : IsMade f order (input_literals f.records) (latches_in f.records) (filter (is_gate f.records) (take place order)) [] net signals) where
    pub gate_next : is_gate f.records l ≡ true → IsNext literals net l
    gate_next gate =
        behind (input_literals f.records ++ latch_literals f.records) (filter (is_gate f.records) order) (length net.drivers) (length (filter (is_gate f.records) (take place order))) l
        (omega (arith, made.count, source_count)) (filter_at (is_gate f.records) order place l at gate)

    -- the name of the gate
    pub gate_named : is_gate f.records l ≡ true → signal_name f l ≡ gate_name l
    gate_named gate =
        gate_name_is f sources_once l
        (λ h. source_not_gate size f.records plan.kept.once fine order l h (Contains-kept (is_gate f.records) order l (of_at order place l at) gate))

    literal_low : l < size
    literal_low = order_low l (of_at order place l at)

    -- what the literal reads has its signal
    pub read_placed : (r : ℕ) → Contains (reads_in f.records l) r → (s : ℕ) × (s < length net.drivers) × (slice_get literals s ≡ Some r)
    read_placed r h =
        let there = at_of (all_literals f.records (take place order)) r (driven_in size f.records plan.kept.once fine (take place order) r (reads_driven size f.records fine plan.faultless.driven l r h) (reads_used size f.records fine l r h) (λ gate. earlier)) in
        let low = slice_get_within (all_literals f.records (take place order)) there.0 r there.1 in (
          there.0,
          omega (arith, low, made.count, source_count, length-append (input_literals f.records ++ latch_literals f.records) (filter (is_gate f.records) (take place order))),
          subst (λ (ls : List ℕ). slice_get ls there.0 ≡ Some r) whole (slice_get-append (all_literals f.records (take place order)) (filter (is_gate f.records) (drop place order)) there.0 r there.1),
        )
      where
        earlier : Contains (take place order) r
        earlier =
            let x = plan.order_is.behind place l r at (subst (λ (rs : List ℕ). Contains rs r) (sym (graph_low f.records size l literal_low)) h) in
            of_at (take place order) x.0 r (slice_get-take_to place order x.0 r x.1 x.2)

        whole : all_literals f.records (take place order) ++ filter (is_gate f.records) (drop place order) ≡ literals
        whole =
            append_assoc (input_literals f.records ++ latch_literals f.records) (filter (is_gate f.records) (take place order)) (filter (is_gate f.records) (drop place order))
            ∙ ap (λ (ls : List ℕ). input_literals f.records ++ latch_literals f.records ++ ls)
            (sym (filter-append (is_gate f.records) (take place order) (drop place order)) ∙ ap (filter (is_gate f.records)) (take-append-drop place order))

    -- its signal as a number, and back
    pub read_signal : (r : ℕ) → Contains (reads_in f.records l) r → ((signal_at signals r).0 < length net.drivers) × (literal_at literals (signal_at signals r).0 ≡ r)
    read_signal r h =
        let x = read_placed r h in
        let e : signal_at signals r ≡ record { 0 = x.0 } = signal_is net signals x.0 r made.placed x.1 x.2 in
        (subst (λ (k : Signal). k.0 < length net.drivers) (sym e) x.1, ap (λ (k : Signal). literal_at literals k.0) e ∙ at_next x.0 r x.2)

    pub reads_within : All (λ (r : ℕ). r < length signals) (reads_in f.records l)
    reads_within = All-from_each (λ (r : ℕ). r < length signals) (reads_in f.records l) (λ r h. let low = reads_below size f.records fine l r h in omega (arith, low, made.size))

    pub fanins_low : All (λ (k : Signal). k.0 < length net.drivers) (map (signal_at signals) (reads_in f.records l))
    fanins_low = All-from_each (λ (k : Signal). k.0 < length net.drivers) (map (signal_at signals) (reads_in f.records l))
        (λ k h. let x = Contains-map_from (signal_at signals) (reads_in f.records l) k h in subst (λ (y : Signal). y.0 < length net.drivers) x.2 (read_signal x.0 x.1).0)

    -- the net with the gate
    pub made_gate : is_gate f.records l ≡ true → (name : List ℕ) (net' : NetView) (signals' : List Signal) → name ≡ signal_name f l → net' ≡ with_gate net name (map (signal_at signals) (reads_in f.records l)) (cover_number l (reads_in f.records l)) →
        signals' ≡ set signals l (record { 0 = length net.drivers }) → IsMade f order (input_literals f.records) (latches_in f.records) (filter (is_gate f.records) (take (place + 1) order)) [] net' signals'
    made_gate gate name net' signals' name_is is signals_are =
        let next = gate_next gate in
        let grown : length net'.drivers ≡ length net.drivers + 1 = ap (λ (n : NetView). length n.drivers) is ∙ length-append net.drivers _ in
        let more : filter (is_gate f.records) (take (place + 1) order) ≡ filter (is_gate f.records) (take place order) ++ l ∷ [] =
        filter-take (is_gate f.records) order place l at ∙ ap (λ (b : Bool). cond b (filter (is_gate f.records) (take place order) ++ l ∷ []) (filter (is_gate f.records) (take place order))) gate in
        subst (λ (gs : List ℕ). IsMade f order (input_literals f.records) (latches_in f.records) gs [] net' signals') (sym more) (record {
          size = ap length signals_are ∙ length-set_is signals l (record { 0 = length net.drivers }) ∙ made.size;
          placed = placed_more net net' signals signals' l made.placed next made.size grown signals_are;
          names_are = named_more net net' l name made.names_are next name_is (ap (λ (n : NetView). n.names) is) grown;
          count = omega (arith, grown, made.count, length-append (filter (is_gate f.records) (take place order)) (l ∷ []));
          inputs = ap (λ (n : NetView). map (λ (p : NetPort). moved_name (literal_at literals) (named p)) n.inputs) is ∙ made.inputs;
          latches = ap (λ (n : NetView). map (head_at literals) n.latches) is ∙ made.latches;
          gates_are = ap (λ (n : NetView). map (λ (g : NetGate). moved (literal_at literals) (equation_of_gate all_covers g)) n.gates) is
              ∙ map-append (λ (g : NetGate). moved (literal_at literals) (equation_of_gate all_covers g)) net.gates _
              ∙ ap₂ (λ (gs : List (Equation ℕ)) (g : Equation ℕ). gs ++ g ∷ []) made.gates_are (own next)
              ∙ sym (map-append (gate_at f.records) (filter (is_gate f.records) (take place order)) (l ∷ []));
          outputs = ap (λ (n : NetView). map (λ (p : NetPort). moved_name (literal_at literals) (named p)) n.outputs) is ∙ made.outputs;
          covers = ap (λ (n : NetView). n.covers) is ∙ made.covers;
          clock = ap (λ (n : NetView). n.clock) is ∙ made.clock;
        })
      where
        cover_is : (k : ℕ) (reads : List ℕ) → unwrap_or (slice_get all_covers (cover_number k reads)) zero_cover ≡ cover_by k reads
        cover_is k [] = by (eqb k 0)
          where
            by : (b : Bool) → unwrap_or (slice_get all_covers (cond b 0 1)) zero_cover ≡ cond b zero_cover one_cover
            by true = refl
            by false = refl
        cover_is k (a ∷ []) = refl
        cover_is k (a ∷ b ∷ more) = refl

        reads_are : map (literal_at literals) (map (λ (s : Signal). s.0) (map (signal_at signals) (reads_in f.records l))) ≡ reads_in f.records l
        reads_are =
            map-map (literal_at literals) (λ (s : Signal). s.0) (map (signal_at signals) (reads_in f.records l))
            ∙ map-map (λ (s : Signal). literal_at literals s.0) (signal_at signals) (reads_in f.records l)
            ∙ map_kept (reads_in f.records l) (λ r h. (read_signal r h).1)
          where
            map_kept : (xs : List ℕ) → ((r : ℕ) → Contains xs r → literal_at literals (signal_at signals r).0 ≡ r) → map (λ (r : ℕ). literal_at literals (signal_at signals r).0) xs ≡ xs
            map_kept xs h = map_same (λ (r : ℕ). literal_at literals (signal_at signals r).0) (λ (r : ℕ). r) xs h ∙ map_id xs
              where
                map_id : (ys : List ℕ) → map (λ (r : ℕ). r) ys ≡ ys
                map_id [] = refl
                map_id (y ∷ ys) = ap (λ (zs : List ℕ). y ∷ zs) (map_id ys)

        own : IsNext literals net l →
            gate_equation (literal_at literals (length net.drivers)) (map (literal_at literals) (map (λ (s : Signal). s.0) (map (signal_at signals) (reads_in f.records l)))) (unwrap_or (slice_get all_covers (cover_number l (reads_in f.records l))) zero_cover)
            ≡ gate_at f.records l
        own next =
            ap (λ (o : ℕ). gate_equation o (map (literal_at literals) (map (λ (s : Signal). s.0) (map (signal_at signals) (reads_in f.records l)))) (unwrap_or (slice_get all_covers (cover_number l (reads_in f.records l))) zero_cover)) (at_next (length net.drivers) l next)
            ∙ ap₂ (λ (rs : List ℕ) (c : Cover). gate_equation l rs c) reads_are (cover_is l (reads_in f.records l))

    -- the net without one, where no gate drives the literal
    pub made_none : is_gate f.records l ≡ false → IsMade f order (input_literals f.records) (latches_in f.records) (filter (is_gate f.records) (take (place + 1) order)) [] net signals
    made_none gate =
        subst (λ (gs : List ℕ). IsMade f order (input_literals f.records) (latches_in f.records) gs [] net signals)
        (sym (filter-take (is_gate f.records) order place l at ∙ ap (λ (b : Bool). cond b (filter (is_gate f.records) (take place order) ++ l ∷ []) (filter (is_gate f.records) (take place order))) gate)) made

-- a cover fits its reads
picked : (used own negation : Bool) (d : ℕ) (ops later : List ℕ) → length ops ≤ 2 → length later ≤ 2 → length (cond own ops (cond negation (negated used d) later)) ≤ 2
picked used true negation d ops later few h = few
picked true false true d ops later few h = omega arith
picked false false true d ops later few h = omega arith
picked used false false d ops later few h = h

few_among : (file records : List Record) (l : ℕ) → length (reads_among file records l) ≤ 2
few_among file [] l = omega arith
few_among file (Input literal ∷ rs) l = picked (is_used file l) (eqb literal l) (eqb (literal + 1) l) literal [] (reads_among file rs l) (omega arith) (few_among file rs l)
few_among file (Latch literal next reset ∷ rs) l = picked (is_used file l) (eqb literal l) (eqb (literal + 1) l) literal [] (reads_among file rs l) (omega arith) (few_among file rs l)
few_among file (Output literal ∷ rs) l = few_among file rs l
few_among file (Gate literal left right ∷ rs) l = picked (is_used file l) (eqb literal l) (eqb (literal + 1) l) literal (left ∷ right ∷ []) (reads_among file rs l) (omega arith) (few_among file rs l)
few_among file (Packed literal first second ∷ rs) l =
    picked (is_used file l) (eqb literal l) (eqb (literal + 1) l) literal ((literal - first) ∷ (literal - first - second) ∷ []) (reads_among file rs l) (omega arith) (few_among file rs l)

reads_few : (records : List Record) (l : ℕ) → length (reads_in records l) ≤ 2
reads_few records l = few_among records records l

pub cover_fits : (l : ℕ) (reads : List ℕ) (count : ℕ) → length reads ≤ 2 → count ≡ length reads → IsSomeAnd (slice_get all_covers (cover_number l reads)) (λ (c : Cover). c.width ≡ count)
cover_fits l [] count few is = by (eqb l 0)
  where
    by : (b : Bool) → IsSomeAnd (slice_get all_covers (cond b 0 1)) (λ (c : Cover). c.width ≡ count)
    by true = sym is
    by false = sym is
cover_fits l (a ∷ []) count few is = sym is
cover_fits l (a ∷ b ∷ []) count few is = sym is
cover_fits l (a ∷ b ∷ c ∷ more) count few is = absurd (omega (arith, few))

pub reads_fit : (records : List Record) (l count : ℕ) (covers : List Cover) → covers ≡ all_covers → count ≡ length (reads_in records l) → IsSomeAnd (slice_get covers (cover_number l (reads_in records l))) (λ (c : Cover). c.width ≡ count)
reads_fit records l count covers is same =
    subst (λ (cs : List Cover). IsSomeAnd (slice_get cs (cover_number l (reads_in records l))) (λ (c : Cover). c.width ≡ count)) (sym is) (cover_fits l (reads_in records l) count (reads_few records l) same)
