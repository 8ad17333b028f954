-- Parts of a file's circuit and of the finished net, one by one.
use Rattle.std.proofs.Common.{◌≡◌, ℕ, suc, ◌+◌, ◌<◌, Bool, true, false, cond, eqb, List, [], ◌∷◌, ◌++◌, map, length, drop, get_or, Option, Some, None, refl, sym, ◌∙◌, ap, ap₂, subst, arith, inl, inr}
use Rattle.std.specs.Prelude.{◌⊎◌}
use Rattle.std.specs.List.{Contains, filter_map, cons_option}
use Rattle.std.proofs.lemmas.Bool.{false_from_ne_true}
use Rattle.std.proofs.lemmas.Bool.Decides.{Decides-eqb}
use Rattle.std.proofs.lemmas.Option.{none-some, same_Some}
use Rattle.circuit_theory.specs.Circuit.{Equation, Named, Started, Gate as gate_equation, Latch as latch_equation, Port as port_equation}
use Rattle.circuit_theory.specs.Flattened.{latch_names}
use Rattle.circuit_theory.specs.Joined.{moved, moved_start}
use Rattle.circuit_theory.proofs.Lists.{Contains-cases, Contains-head, Contains-tail}
use Rattle.net_assembly.specs.net_alike.Renumbered.{latch_rows}
use Rattle.sec_base.specs.declared.basics.Init.{Init}
use Rattle.sec_base.specs.declared.basics.Init.TheVariants as init
use Rattle.flat_net.specs.declared.signals.Signal.{Signal}
use Rattle.flat_net.specs.declared.parts.LatchAt.{LatchAt}
use Rattle.flat_net.specs.View.{equation_of_latch, start_of as net_start}
use Rattle.aiger_read.specs.aiger_file.aiger_graph.net_assembly.Shown.{with_nexts}
use Rattle.aiger_read.specs.declared.aiger_records.record.Record.{Record}
use Rattle.aiger_read.specs.aiger_records.Faults.{defined_by}
use Rattle.aiger_read.specs.declared.aiger_file.symbol.Named.{Named as Symbols}
use Rattle.aiger_read.specs.aiger_file.Names.{name_of}
use Rattle.aiger_read.specs.aiger_file.aiger_graph.Circuit.{LatchLine, is_used, ports_from, latches_from, start_of}
use Rattle.aiger_read.specs.aiger_file.aiger_graph.Literals.{operands, negated, reads_by, reads_among, reads_in}
use Rattle.aiger_read.proofs.aiger_file.aiger_graph.ReadLiterals.{AreWell}
use Rattle.aiger_read.specs.SignalNames.{init_of}
use Rattle.aiger_read.specs.Signals.{literal_at}
use Rattle.aiger_read.specs.Made.{LatchHead, heads_from, head_at, signal_at, nexts_of}

-- lists of equations without latches
pub names_behind : {P : Type 0} (xs ys : List (Equation P)) → ((name : List ℕ) (out next : P) → Contains xs (latch_equation name out next) → ⊥) → latch_names (xs ++ ys) ≡ latch_names ys
names_behind [] ys none = refl
names_behind (gate_equation out fanins cover ∷ xs) ys none = names_behind xs ys (λ name o n h. none name o n (Contains-tail (gate_equation out fanins cover) (latch_equation name o n) xs h))
names_behind (latch_equation name out next ∷ xs) ys none = absurd (none name out next (Contains-head (latch_equation name out next) xs))
names_behind (port_equation out from ∷ xs) ys none = names_behind xs ys (λ name o n h. none name o n (Contains-tail (port_equation out from) (latch_equation name o n) xs h))

pub rows_behind : {P : Type 0} (xs ys : List (Equation P)) → ((name : List ℕ) (out next : P) → Contains xs (latch_equation name out next) → ⊥) → latch_rows (xs ++ ys) ≡ latch_rows ys
rows_behind [] ys none = refl
rows_behind (gate_equation out fanins cover ∷ xs) ys none = rows_behind xs ys (λ name o n h. none name o n (Contains-tail (gate_equation out fanins cover) (latch_equation name o n) xs h))
rows_behind (latch_equation name out next ∷ xs) ys none = absurd (none name out next (Contains-head (latch_equation name out next) xs))
rows_behind (port_equation out from ∷ xs) ys none = rows_behind xs ys (λ name o n h. none name o n (Contains-tail (port_equation out from) (latch_equation name o n) xs h))

-- the latches of a file are rows
pub file_rows : (symbols : Symbols) (k : ℕ) (ls : List LatchLine) → latch_rows (latches_from symbols k ls) ≡ latches_from symbols k ls
file_rows symbols k [] = refl
file_rows symbols k (l ∷ ls) = ap (λ (es : List (Equation ℕ)). latch_equation (name_of symbols 108 k) l.literal l.next ∷ es) (file_rows symbols (k + 1) ls)

pub moved_rows : (g : ℕ → ℕ) (symbols : Symbols) (k : ℕ) (ls : List LatchLine) → latch_rows (map (moved g) (latches_from symbols k ls)) ≡ map (moved g) (latches_from symbols k ls)
moved_rows g symbols k [] = refl
moved_rows g symbols k (l ∷ ls) = ap (λ (es : List (Equation ℕ)). latch_equation (name_of symbols 108 k) (g l.literal) (g l.next) ∷ es) (moved_rows g symbols (k + 1) ls)

pub moved_names : (g : ℕ → ℕ) (symbols : Symbols) (k : ℕ) (ls : List LatchLine) → latch_names (map (moved g) (latches_from symbols k ls)) ≡ latch_names (latches_from symbols k ls)
moved_names g symbols k [] = refl
moved_names g symbols k (l ∷ ls) = ap (λ (ns : List (List ℕ)). name_of symbols 108 k ∷ ns) (moved_names g symbols (k + 1) ls)

-- a latch of the file stands in a line
pub latch_line : (symbols : Symbols) (k : ℕ) (ls : List LatchLine) (name : List ℕ) (out next : ℕ) → Contains (latches_from symbols k ls) (latch_equation name out next) → (l : LatchLine) × Contains ls l × (l.literal ≡ out) × (l.next ≡ next)
latch_line symbols k [] name out next h = absurd (omega (arith, h.1))
latch_line symbols k (l ∷ ls) name out next h = go (Contains-cases (latch_equation (name_of symbols 108 k) l.literal l.next) (latch_equation name out next) (latches_from symbols (k + 1) ls) h) (latch_line symbols (k + 1) ls name out next)
  where
    go : (latch_equation (name_of symbols 108 k) l.literal l.next ≡ latch_equation name out next) ⊎ Contains (latches_from symbols (k + 1) ls) (latch_equation name out next) → (Contains (latches_from symbols (k + 1) ls) (latch_equation name out next) → (m : LatchLine) × Contains ls m × (m.literal ≡ out) × (m.next ≡ next)) → (m : LatchLine) × Contains (l ∷ ls) m × (m.literal ≡ out) × (m.next ≡ next)
    go (inl e) later =
        let o : l.literal ≡ out = cc in
        let n : l.next ≡ next = cc in
        (l, Contains-head l ls, o, n)
    go (inr i) later = let x = later i in (x.0, Contains-tail l x.0 ls x.1, x.2, x.3)

-- a port of the file is on one of the literals
pub port_literal : (symbols : Symbols) (letter k : ℕ) (ls : List ℕ) (p : Named ℕ) → Contains (ports_from symbols letter k ls) p → Contains ls p.place
port_literal symbols letter k [] p h = absurd (omega (arith, h.1))
port_literal symbols letter k (l ∷ ls) p h = go (Contains-cases (record { name = name_of symbols letter k; place = l }) p (ports_from symbols letter (k + 1) ls) h) (port_literal symbols letter (k + 1) ls p)
  where
    go : ((record { name = name_of symbols letter k; place = l }) ≡ p) ⊎ Contains (ports_from symbols letter (k + 1) ls) p → (Contains (ports_from symbols letter (k + 1) ls) p → Contains ls p.place) → Contains (l ∷ ls) p.place
    go (inl e) later = subst (λ (q : Named ℕ). Contains (l ∷ ls) q.place) e (Contains-head l ls)
    go (inr i) later = Contains-tail l p.place ls (later i)

-- the constants read nothing
low_among : (file : List Record) (size : ℕ) (records : List Record) (l : ℕ) → AreWell size records → l < 2 → reads_among file records l ≡ []
low_among file size [] l fine low = refl
low_among file size (q ∷ qs) l fine low = go (defined_by q) refl ∙ low_among file size qs l (λ i r at. fine (suc i) r at) low
  where
    apart : (a b : ℕ) → (a ≡ b → ⊥) → eqb a b ≡ false
    apart a b h = false_from_ne_true (eqb a b) (λ e. h ((Decides-eqb a b).0 e))

    go : (o : Option ℕ) → defined_by q ≡ o → reads_by (is_used file l) o (operands q) l (reads_among file qs l) ≡ reads_among file qs l
    go None is = refl
    go (Some d) is =
        let high = (fine 0 q refl).high d is in
        ap (λ (b : Bool). cond b (operands q) (cond (eqb (d + 1) l) (negated (is_used file l) d) (reads_among file qs l))) (apart d l (λ e. omega (arith, e, high, low)))
        ∙ ap (λ (b : Bool). cond b (negated (is_used file l) d) (reads_among file qs l)) (apart (d + 1) l (λ e. omega (arith, e, high, low)))

pub low_reads : (size : ℕ) (records : List Record) (l : ℕ) → AreWell size records → l < 2 → reads_in records l ≡ []
low_reads size records l fine low = low_among records size records l fine low

-- the finished latches, one by one
module _ (symbols : Symbols) (lits : List ℕ) (signals : List Signal) where
  abbrev pub sig : ℕ → ℕ
  sig l = (signal_at signals l).0

  -- an initial value on a signal
  abbrev pub moved_option : Option (Started ℕ) → Option (Started ℕ)
  moved_option None = None
  moved_option (Some x) = Some (moved_start sig x)

  pub latches_are : (k : ℕ) (ls : List LatchAt) (ms : List LatchLine) → map (head_at lits) ls ≡ heads_from symbols k ms → ((l : LatchAt) → Contains ls l → sig (literal_at lits l.out.0) ≡ l.out.0) →
      map equation_of_latch (with_nexts ls (nexts_of signals ms)) ≡ map (moved sig) (latches_from symbols k ms)
  latches_are k [] [] e back = refl
  latches_are k [] (m ∷ ms) e back = absurd (let n = ap length e in omega (arith, n))
  latches_are k (l ∷ ls) [] e back = absurd (let n = ap length e in omega (arith, n))
  latches_are k (l ∷ ls) (m ∷ ms) e back =
      let first : head_at lits l ≡ (record { name = name_of symbols 108 k; literal = m.literal; init = init_of m.reset }) = ap (λ (hs : List LatchHead). get_or hs 0 (head_at lits l)) e in
      let rest : map (head_at lits) ls ≡ heads_from symbols (k + 1) ms = ap (drop 1) e in
      let name : l.name ≡ name_of symbols 108 k = ap (λ (h : LatchHead). h.name) first in
      let out : l.out.0 ≡ sig m.literal = sym (back l (Contains-head l ls)) ∙ ap (λ (h : LatchHead). sig h.literal) first in
      ap₂ (λ (q : Equation ℕ) (qs : List (Equation ℕ)). q ∷ qs) (ap₂ (λ (n : List ℕ) (o : ℕ). latch_equation n o (sig m.next)) name out)
      (latches_are (k + 1) ls ms rest (λ x h. back x (Contains-tail l x ls h)))

  start_is : (out place reset : ℕ) (i : Init) → i ≡ init_of reset → out ≡ sig place → (next : ℕ) → net_start out i ≡ moved_option (start_of (record { literal = place; next = next; reset = reset }))
  start_is out place reset i is o next = ap₂ (λ (p : ℕ) (x : Init). net_start p x) o is ∙ by (eqb reset 0) (eqb reset 1)
    where
      by : (a b : Bool) → net_start (sig place) (cond a init.Zero (cond b init.One init.Unknown)) ≡ moved_option (cond a (Some (record { place = place; bit = false })) (cond b (Some (record { place = place; bit = true })) None))
      by true b = refl
      by false true = refl
      by false false = refl

  pub starts_are : (k : ℕ) (ls : List LatchAt) (ms : List LatchLine) → map (head_at lits) ls ≡ heads_from symbols k ms → ((l : LatchAt) → Contains ls l → sig (literal_at lits l.out.0) ≡ l.out.0) →
      filter_map (λ (l : LatchAt). net_start l.out.0 l.init) (with_nexts ls (nexts_of signals ms)) ≡ map (moved_start sig) (filter_map start_of ms)
  starts_are k [] [] e back = refl
  starts_are k [] (m ∷ ms) e back = absurd (let n = ap length e in omega (arith, n))
  starts_are k (l ∷ ls) [] e back = absurd (let n = ap length e in omega (arith, n))
  starts_are k (l ∷ ls) (m ∷ ms) e back =
      let first : head_at lits l ≡ (record { name = name_of symbols 108 k; literal = m.literal; init = init_of m.reset }) = ap (λ (hs : List LatchHead). get_or hs 0 (head_at lits l)) e in
      let rest : map (head_at lits) ls ≡ heads_from symbols (k + 1) ms = ap (drop 1) e in
      let out : l.out.0 ≡ sig m.literal = sym (back l (Contains-head l ls)) ∙ ap (λ (h : LatchHead). sig h.literal) first in
      ap₂ (λ (o : Option (Started ℕ)) (xs : List (Started ℕ)). cons_option o xs) (start_is l.out.0 m.literal m.reset l.init (ap (λ (h : LatchHead). h.init) first) out m.next)
      (starts_are (k + 1) ls ms rest (λ x h. back x (Contains-tail l x ls h)))
      ∙ by (start_of m)
    where
      by : (o : Option (Started ℕ)) → cons_option (moved_option o) (map (moved_start sig) (filter_map start_of ms)) ≡ map (moved_start sig) (cons_option o (filter_map start_of ms))
      by None = refl
      by (Some x) = refl

-- a start of the file is a latch's
pub start_literal : (l : LatchLine) (x : Started ℕ) → start_of l ≡ Some x → l.literal ≡ x.place
start_literal l x e = by (eqb l.reset 0) (eqb l.reset 1) e
  where
    by : (a b : Bool) → cond a (Some (record { place = l.literal; bit = false })) (cond b (Some (record { place = l.literal; bit = true })) None) ≡ Some x → l.literal ≡ x.place
    by true b h = ap (λ (y : Started ℕ). y.place) (same_Some (record { place = l.literal; bit = false }) x h)
    by false true h = ap (λ (y : Started ℕ). y.place) (same_Some (record { place = l.literal; bit = true }) x h)
    by false false h = absurd (none-some x h)

-- initial values
module _ (symbols : Symbols) (lits : List ℕ) (signals : List Signal) where
  pub inits_are : (k : ℕ) (ls : List LatchAt) (ms : List LatchLine) → map (head_at lits) ls ≡ heads_from symbols k ms → map (λ (l : LatchAt). l.init) (with_nexts ls (nexts_of signals ms)) ≡ map (λ (m : LatchLine). init_of m.reset) ms
  inits_are k [] [] e = refl
  inits_are k [] (m ∷ ms) e = absurd (let n = ap length e in omega (arith, n))
  inits_are k (l ∷ ls) [] e = absurd (let n = ap length e in omega (arith, n))
  inits_are k (l ∷ ls) (m ∷ ms) e =
      let first : head_at lits l ≡ (record { name = name_of symbols 108 k; literal = m.literal; init = init_of m.reset }) = ap (λ (hs : List LatchHead). get_or hs 0 (head_at lits l)) e in
      ap₂ (λ (i : Init) (is : List Init). i ∷ is) (ap (λ (h : LatchHead). h.init) first) (inits_are (k + 1) ls ms (ap (drop 1) e))
