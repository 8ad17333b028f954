-- What a file without a fault keeps: what it reads is driven, and its names are distinct.
use Rattle.std.proofs.Common.{◌≡◌, ◌≢◌, ℕ, zero, suc, ◌+◌, ◌≤◌, ◌==◌, Bool, true, false, true≢false, cond, bytes_eq, List, [], ◌∷◌, ◌++◌, map, length, slice_get, Option, Some, None, refl, sym, ◌∙◌, ap, ap₂, subst, arith, append_assoc, append-nil, inl, inr}
use Rattle.std.specs.Prelude.{◌⊎◌, not, nat_le, nat_lt, option_map, option_and_then, ◌||◌}
use Rattle.std.specs.List.{Contains, list_any}
use Rattle.std.proofs.lemmas.Bool.{or_parts, eqb-false}
use Rattle.std.proofs.lemmas.List.{map-append, length-map}
use Rattle.std.proofs.lemmas.List.Elements.{Contains-append_cases}
use Rattle.std.proofs.lemmas.Option.{none-some, same_Some, slice_get_within}
use Rattle.circuit_theory.specs.Circuit.{Named as Port}
use Rattle.circuit_theory.specs.Interface.{◌or_else◌}
use Rattle.circuit_theory.proofs.Lists.{All-from_each, Contains-head, Contains-tail, Contains-cases, at_of, only}
use Rattle.base_tables.specs.Table.{is_among, AreDistinct}
use Rattle.base_tables.proofs.TableLemmas.{Contains_not-is_among}
use Rattle.aiger_read.proofs.aiger_file.aiger_graph.net_assembly.Rows.{slice_get-append}
use Rattle.aiger_read.proofs.aiger_file.aiger_graph.net_assembly.DistinctLists.{distinct_nil, distinct_cons, distinct_append}
use Rattle.aiger_read.specs.declared.aiger_records.header.Header.{Header}
use Rattle.aiger_read.specs.declared.aiger_records.error.AigerKind.{AigerKind}
use Rattle.aiger_read.specs.declared.aiger_records.error.AigerKind.TheVariants as kind
use Rattle.aiger_read.specs.aiger_records.Headers.{guard, header_fault}
use Rattle.aiger_read.specs.aiger_records.Records.{body_length}
use Rattle.aiger_read.specs.aiger_records.Driven.{all_driven}
use Rattle.aiger_read.specs.declared.aiger_file.symbol.Named.{Named}
use Rattle.aiger_read.specs.aiger_file.Symbols.{Symbol, symbols_of, symbol_fault, count_of, is_bad_byte, is_bad_name}
use Rattle.aiger_read.specs.aiger_file.Names.{key_of, name_beside, name_of, names_from, repeats}
use Rattle.aiger_read.specs.declared.aiger_file.file.AigerFile.{AigerFile}
use Rattle.aiger_read.specs.aiger_file.Reading.{at, fault_at, Headed, records_fault, first_symbol_fault, body_fault, body_of, headed, headed_fault, first_fault, those_there, file_with, spelled}
use Rattle.aiger_read.specs.aiger_file.Whole.{file_fault, source_names, output_names}
use Rattle.aiger_read.specs.aiger_file.Files.{IsKept, late_fault, fault_of_text}
use Rattle.aiger_read.specs.aiger_file.aiger_graph.Circuit.{LatchLine, ports_from, input_literals, output_literals, latches_in}
use Rattle.aiger_read.specs.SignalNames.{latch_literals, sources_of}
use Rattle.aiger_read.specs.Made.{IsFaultless}
use Rattle.aiger_read.proofs.Naming.{ports_places, behind}
use Rattle.aiger_read.proofs.Sections.{IsCounted, counted}

-- names none of which repeats are distinct
repeats_none : (before names : List (List ℕ)) → AreDistinct before → repeats before names ≡ false → AreDistinct (before ++ names)
repeats_none before [] once h = subst (λ (ns : List (List ℕ)). AreDistinct ns) (sym (append-nil before)) once
repeats_none before (n ∷ ns) once h =
    let parts = or_parts (is_among before n) (repeats (before ++ n ∷ []) ns) h in
    let more = distinct_append before (n ∷ []) once (distinct_cons n [] distinct_nil (λ k. absurd (omega (arith, k.1))))
    (λ x there k. Contains_not-is_among before n parts.0 (subst (Contains before) (sym (only n x k)) there)) in
    subst (λ (xs : List (List ℕ)). AreDistinct xs) (append_assoc before (n ∷ []) ns) (repeats_none (before ++ n ∷ []) ns more parts.1)

distinct_names : (names : List (List ℕ)) → repeats [] names ≡ false → AreDistinct names
distinct_names names h = repeats_none [] names distinct_nil h

-- fewer names stand in front
names_before : (symbols : Named) (letter m n k : ℕ) → m ≤ n → (i : ℕ) (x : List ℕ) → slice_get (names_from symbols letter m k) i ≡ Some x → slice_get (names_from symbols letter n k) i ≡ Some x
names_before symbols letter zero n k fewer i x h = absurd (none-some x h)
names_before symbols letter (suc m) zero k fewer i x h = absurd (omega (arith, fewer))
names_before symbols letter (suc m) (suc n) k fewer zero x h = h
names_before symbols letter (suc m) (suc n) k fewer (suc i) x h = names_before symbols letter m n (k + 1) (omega (arith, fewer)) i x h

-- the first of two lists of distinct names
fewer_names : (symbols : Named) (m n p q : ℕ) → m ≤ n → p ≤ q → AreDistinct (names_from symbols 105 n 0 ++ names_from symbols 108 q 0) → AreDistinct (names_from symbols 105 m 0 ++ names_from symbols 108 p 0)
fewer_names symbols m n p q first second once = distinct_append (names_from symbols 105 m 0) (names_from symbols 108 p 0) inputs latches apart
  where
    input_there : (i : ℕ) (x : List ℕ) → slice_get (names_from symbols 105 m 0) i ≡ Some x → slice_get (names_from symbols 105 n 0 ++ names_from symbols 108 q 0) i ≡ Some x
    input_there i x h = slice_get-append (names_from symbols 105 n 0) (names_from symbols 108 q 0) i x (names_before symbols 105 m n 0 first i x h)

    latch_there : (j : ℕ) (x : List ℕ) → slice_get (names_from symbols 108 p 0) j ≡ Some x → slice_get (names_from symbols 105 n 0 ++ names_from symbols 108 q 0) (length (names_from symbols 105 n 0) + j) ≡ Some x
    latch_there j x h = behind (names_from symbols 105 n 0) (names_from symbols 108 q 0) (length (names_from symbols 105 n 0) + j) j x (omega arith) (names_before symbols 108 p q 0 second j x h)

    inputs : AreDistinct (names_from symbols 105 m 0)
    inputs i j x hi hj = once i j x (input_there i x hi) (input_there j x hj)

    latches : AreDistinct (names_from symbols 108 p 0)
    latches i j x hi hj =
        let e = once (length (names_from symbols 105 n 0) + i) (length (names_from symbols 105 n 0) + j) x (latch_there i x hi) (latch_there j x hj) in
        omega (arith, e)

    apart : (x : List ℕ) → Contains (names_from symbols 105 m 0) x → Contains (names_from symbols 108 p 0) x → ⊥
    apart x h k =
        let a = at_of (names_from symbols 105 m 0) x h in
        let b = at_of (names_from symbols 108 p 0) x k in
        let e = once a.0 (length (names_from symbols 105 n 0) + b.0) x (input_there a.0 x a.1) (latch_there b.0 x b.1) in
        let low = slice_get_within (names_from symbols 105 n 0) a.0 x (names_before symbols 105 m n 0 first a.0 x a.1) in
        omega (arith, e, low)

-- the names of ports
port_names : (symbols : Named) (letter k : ℕ) (ls : List ℕ) → map (λ (p : Port ℕ). p.name) (ports_from symbols letter k ls) ≡ names_from symbols letter (length ls) k
port_names symbols letter k [] = refl
port_names symbols letter k (l ∷ ls) = ap (λ (ns : List (List ℕ)). name_of symbols letter k ∷ ns) (port_names symbols letter (k + 1) ls)

-- no name begins with `#`
abbrev IsPlain : List ℕ → Type 0
IsPlain name = slice_get name 0 ≢ Some 35

plain_beside : (keys names : List (List ℕ)) (key : List ℕ) → IsPlain key → ((name : List ℕ) → Contains names name → IsPlain name) → IsPlain (name_beside keys names key)
plain_beside [] names key own each = own
plain_beside (k ∷ keys) [] key own each = own
plain_beside (k ∷ keys) (name ∷ names) key own each = go (bytes_eq key k) (plain_beside keys names key own (λ n h. each n (Contains-tail name n names h)))
  where
    go : (b : Bool) → IsPlain (name_beside keys names key) → IsPlain (cond b name (name_beside keys names key))
    go true rest = each name (Contains-head name names)
    go false rest = rest

good_is_plain : (name : List ℕ) → is_bad_name name ≡ false → IsPlain name
good_is_plain [] h e = absurd (none-some 35 e)
good_is_plain (b ∷ bs) h e =
    let bytes = or_parts ((length (b ∷ bs) == 0) || nat_lt 4096 (length (b ∷ bs))) (list_any is_bad_byte (b ∷ bs)) h in
    let first = or_parts (is_bad_byte b) (list_any is_bad_byte bs) bytes.1 in
    let hash = or_parts (nat_le b 32 || (b == 127)) (b == 35) first.0 in
    eqb-false b 35 hash.1 (same_Some b 35 e)

guard_none : (b : Bool) (k : AigerKind) → guard b k ≡ None → b ≡ false
guard_none true k h = absurd (none-some k (sym h))
guard_none false k h = refl

good_symbols : (h : Header) (place : ℕ) (keys : List (List ℕ)) (ss : List (Option Symbol)) → first_symbol_fault h place keys ss ≡ None →
    (name : List ℕ) → Contains (map (λ (s : Symbol). s.name) (those_there ss)) name → is_bad_name name ≡ false
good_symbols h place keys [] none name there = absurd (omega (arith, there.1))
good_symbols h place keys (None ∷ ss) none name there = absurd (none-some (at place kind.BadLine) (sym none))
good_symbols h place keys (Some s ∷ ss) none name there = go (symbol_fault h keys s) refl none (λ rest. good_symbols h (place + 1) (keys ++ s.key ∷ []) ss rest name)
  where
    own : symbol_fault h keys s ≡ None → is_bad_name s.name ≡ false
    own e =
        (or_parts (not (nat_lt s.number (count_of h s.section)) || is_among keys s.key) (is_bad_name s.name)
        (guard_none (not (nat_lt s.number (count_of h s.section)) || is_among keys s.key || is_bad_name s.name) kind.BadSymbol e)).1

    pick : symbol_fault h keys s ≡ None → (Contains (map (λ (t : Symbol). t.name) (those_there ss)) name → is_bad_name name ≡ false) → (s.name ≡ name) ⊎ Contains (map (λ (t : Symbol). t.name) (those_there ss)) name → is_bad_name name ≡ false
    pick e rest (inl same) = subst (λ (n : List ℕ). is_bad_name n ≡ false) same (own e)
    pick e rest (inr k) = rest k

    go : (o : Option AigerKind) → symbol_fault h keys s ≡ o → fault_at place o (first_symbol_fault h (place + 1) (keys ++ s.key ∷ []) ss) ≡ None →
        (first_symbol_fault h (place + 1) (keys ++ s.key ∷ []) ss ≡ None → Contains (map (λ (t : Symbol). t.name) (those_there ss)) name → is_bad_name name ≡ false) → is_bad_name name ≡ false
    go None e rest known = pick e (known rest) (Contains-cases s.name name (map (λ (t : Symbol). t.name) (those_there ss)) there)
    go (Some k) e rest known = absurd (none-some (at place k) (sym rest))

-- a later fault, where there is no earlier one
no_first : {X : Type 0} (a b : Option X) → (a or_else b) ≡ None → a ≡ None
no_first None b h = refl
no_first (Some x) b h = absurd (none-some x (sym h))

no_second : {X : Type 0} (a b : Option X) → (a or_else b) ≡ None → b ≡ None
no_second None b h = h
no_second (Some x) b h = absurd (none-some x (sym h))

-- the names of a file without a fault
good_names : (text : List ℕ) (f : AigerFile) → first_fault text ≡ None → spelled text ≡ Some f → (name : List ℕ) → Contains f.symbols.names name → is_bad_name name ≡ false
good_names text f none is name there = go (headed text) none is
  where
    by : (head : Headed) (o : Option AigerKind) → fault_at 0 o (body_fault head.header (body_of head.header head.after)) ≡ None → file_with head.header (body_of head.header head.after) ≡ f → is_bad_name name ≡ false
    by head (Some k) h same = absurd (none-some (at 0 k) (sym h))
    by head None h same =
        let body = body_of head.header head.after in
        good_symbols head.header (body_length head.header + 1) [] (symbols_of body.after)
        (no_second (records_fault head.header body.records) (first_symbol_fault head.header (body_length head.header + 1) [] (symbols_of body.after)) h) name
        (subst (λ (g : AigerFile). Contains g.symbols.names name) (sym same) there)

    go : (o : Option Headed) → headed_fault o ≡ None → option_map (λ (file : Headed). file_with file.header (body_of file.header file.after)) o ≡ Some f → is_bad_name name ≡ false
    go None h e = absurd (none-some f e)
    go (Some head) h e = by head (header_fault head.header) h (same_Some (file_with head.header (body_of head.header head.after)) f e)

-- what is wrong with a whole file
no_late : (f : AigerFile) → option_map (at 0) (file_fault f) ≡ None → file_fault f ≡ None
no_late f h = go (file_fault f) h
  where
    go : (o : Option AigerKind) → option_map (at 0) o ≡ None → o ≡ None
    go None e = refl
    go (Some k) e = absurd (none-some (at 0 k) (sym e))

not_false : (b : Bool) → not b ≡ false → b ≡ true
not_false true h = refl
not_false false h = absurd (true≢false h)

port_plain : (f : AigerFile) (letter k : ℕ) (ls : List ℕ) → letter ≢ 35 → ((name : List ℕ) → Contains f.symbols.names name → IsPlain name) → (p : Port ℕ) → Contains (ports_from f.symbols letter k ls) p → IsPlain p.name
port_plain f letter k [] apart each p h = absurd (omega (arith, h.1))
port_plain f letter k (l ∷ ls) apart each p h = go (Contains-cases (record { name = name_of f.symbols letter k; place = l }) p (ports_from f.symbols letter (k + 1) ls) h) (port_plain f letter (k + 1) ls apart each p)
  where
    go : ((record { name = name_of f.symbols letter k; place = l }) ≡ p) ⊎ Contains (ports_from f.symbols letter (k + 1) ls) p → (Contains (ports_from f.symbols letter (k + 1) ls) p → IsPlain p.name) → IsPlain p.name
    go (inl same) rest = subst (λ (q : Port ℕ). IsPlain q.name) same (plain_beside f.symbols.keys f.symbols.names (key_of letter k) (λ e. apart (same_Some letter 35 e)) each)
    go (inr k') rest = rest k'

pub faultless : (text : List ℕ) (f : AigerFile) → IsKept f → fault_of_text text ≡ None → spelled text ≡ Some f → IsFaultless f
faultless text f kept none is = record {
  driven = not_false (all_driven f.records) (guard_none (not (all_driven f.records)) kind.Undriven (no_first (guard (not (all_driven f.records)) kind.Undriven) (guard (repeats [] (source_names f) || repeats [] (output_names f)) kind.DuplicateName) whole));
  sources = subst (λ (ns : List (List ℕ)). AreDistinct ns) (sym names)
      (fewer_names f.symbols (length (input_literals f.records)) f.header.inputs (length (latch_literals f.records)) f.header.latches counts.inputs
      (subst (λ (n : ℕ). n ≤ f.header.latches) (sym (length-map (latches_in f.records) (λ (l : LatchLine). l.literal))) counts.latches) (distinct_names (source_names f) repeated.0));
  apart = All-from_each (λ (p : Port ℕ). slice_get p.name 0 ≢ Some 35) (sources_of f) plain;
  shown = subst (λ (ns : List (List ℕ)). AreDistinct ns) (sym (port_names f.symbols 111 0 (output_literals f.records)))
      (λ i j x hi hj. distinct_names (output_names f) repeated.1 i j x (names_before f.symbols 111 (length (output_literals f.records)) f.header.outputs 0 counts.outputs i x hi)
      (names_before f.symbols 111 (length (output_literals f.records)) f.header.outputs 0 counts.outputs j x hj));
  few = (let e = ap length (ports_places f.symbols 111 0 (output_literals f.records)) in
      let m = length-map (ports_from f.symbols 111 0 (output_literals f.records)) (λ (p : Port ℕ). p.place) in
      let a = counts.outputs in
      let b = kept.small.outputs in
      omega (arith, e, m, a, b));
}
  where
    counts : IsCounted f
    counts = counted text f is

    whole : file_fault f ≡ None
    whole = no_late f (sym (ap (λ (s : Option AigerFile). option_and_then late_fault s) is) ∙ no_second (first_fault text) (option_and_then late_fault (spelled text)) none)

    repeated : (repeats [] (source_names f) ≡ false) × (repeats [] (output_names f) ≡ false)
    repeated =
        or_parts (repeats [] (source_names f)) (repeats [] (output_names f))
        (guard_none (repeats [] (source_names f) || repeats [] (output_names f)) kind.DuplicateName
        (no_second (guard (not (all_driven f.records)) kind.Undriven) (guard (repeats [] (source_names f) || repeats [] (output_names f)) kind.DuplicateName) whole))

    names : map (λ (p : Port ℕ). p.name) (sources_of f) ≡ names_from f.symbols 105 (length (input_literals f.records)) 0 ++ names_from f.symbols 108 (length (latch_literals f.records)) 0
    names =
        map-append (λ (p : Port ℕ). p.name) (ports_from f.symbols 105 0 (input_literals f.records)) (ports_from f.symbols 108 0 (latch_literals f.records))
        ∙ ap₂ (λ (xs ys : List (List ℕ)). xs ++ ys) (port_names f.symbols 105 0 (input_literals f.records)) (port_names f.symbols 108 0 (latch_literals f.records))

    each : (name : List ℕ) → Contains f.symbols.names name → IsPlain name
    each name there = good_is_plain name (good_names text f (no_first (first_fault text) (option_and_then late_fault (spelled text)) none) is name there)

    plain : (p : Port ℕ) → Contains (sources_of f) p → IsPlain p.name
    plain p h = go (Contains-append_cases (ports_from f.symbols 105 0 (input_literals f.records)) (ports_from f.symbols 108 0 (latch_literals f.records)) p h)
      where
        go : Contains (ports_from f.symbols 105 0 (input_literals f.records)) p ⊎ Contains (ports_from f.symbols 108 0 (latch_literals f.records)) p → IsPlain p.name
        go (inl k) = port_plain f 105 0 (input_literals f.records) (λ e. absurd (omega (arith, e))) each p k
        go (inr k) = port_plain f 108 0 (latch_literals f.records) (λ e. absurd (omega (arith, e))) each p k
