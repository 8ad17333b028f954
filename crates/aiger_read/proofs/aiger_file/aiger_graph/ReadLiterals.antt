-- What literals read, by the records that define them.
use Rattle.std.proofs.Common.{◌≡◌, ◌≢◌, ℕ, zero, suc, ◌+◌, ◌*◌, ◌-◌, ◌%◌, ◌<◌, ◌≤◌, Bool, true, false, cond, eqb, List, [], ◌∷◌, ◌++◌, length, slice_get, Option, Some, None, refl, sym, ◌∙◌, ap, subst, arith, inl, inr}
use Rattle.std.specs.Prelude.{◌⊎◌, ◌||◌}
use Rattle.std.specs.List.{All, Contains}
use Rattle.std.proofs.lemmas.Bool.{or_parts, false_from_ne_true, ltb-false, eqb-false}
use Rattle.std.proofs.lemmas.Bool.Decides.{Decides-eqb}
use Rattle.std.proofs.lemmas.List.Elements.{All-nil, All-cons, All-contains, Contains-append_left, Contains-append_right, Contains-append_cases}
use Rattle.std.proofs.lemmas.Option.{none-some, same_Some}
use Rattle.circuit_theory.specs.Circuit.{Equation, Gate as gate_equation}
use Rattle.circuit_theory.proofs.Lists.{Contains-head, Contains-cases, only, of_at}
use Rattle.aiger_read.specs.declared.aiger_records.header.Header.{Header}
use Rattle.aiger_read.specs.declared.aiger_records.record.Record.{Record}
use Rattle.aiger_read.specs.declared.aiger_records.record.Record.TheVariants.{Input, Latch, Output, Gate, Packed}
use Rattle.aiger_read.specs.aiger_records.Faults.{is_above, is_undefinable, has_bad_literal, defined_by, DefinesOnce}
use Rattle.aiger_read.specs.aiger_records.Driven.{used_by}
use Rattle.aiger_read.specs.aiger_file.aiger_graph.Circuit.{gate_of, is_used, inverter_of, gates_of, gates_in, and_cover, not_cover}
use Rattle.aiger_read.specs.aiger_file.aiger_graph.Literals.{operands, negated, reads_by, reads_among, reads_in, gate_at, cover_by}

-- what a record without a fault keeps: it defines an even literal, and its literals are below the size
pub record IsWell (size : ℕ) (r : Record) : Type 0 where
  pub even : (d : ℕ) → defined_by r ≡ Some d → d % 2 ≡ 0
  pub high : (d : ℕ) → defined_by r ≡ Some d → 2 ≤ d
  pub low : (d : ℕ) → defined_by r ≡ Some d → d + 1 < size
  pub used : All (λ u. u < size) (used_by r)

pub record IsDefinable (size d : ℕ) : Type 0 where
  pub even : d % 2 ≡ 0
  pub high : 2 ≤ d
  pub low : d + 1 < size

definable : (h : Header) (d : ℕ) → is_undefinable h d ≡ false → IsDefinable (2 * h.greatest + 2) d
definable h d e =
    let a = or_parts (is_above h d || (eqb (d % 2) 1)) (eqb d 0) e in
    let b = or_parts (is_above h d) (eqb (d % 2) 1) a.0 in
    let within : d ≤ 2 * h.greatest + 1 = ltb-false (2 * h.greatest + 1) d b.0 in
    let odd : d % 2 ≢ 1 = eqb-false (d % 2) 1 b.1 in
    let some : d ≢ 0 = eqb-false d 0 a.1 in
    let even : d % 2 ≡ 0 = omega (arith, odd) in
    record { even = even; high = omega (arith, even, some); low = omega (arith, even, within) }

below : (h : Header) (u : ℕ) → is_above h u ≡ false → u < 2 * h.greatest + 2
below h u e = let within : u ≤ 2 * h.greatest + 1 = ltb-false (2 * h.greatest + 1) u e in omega (arith, within)

well_of : (size d : ℕ) (r : Record) → defined_by r ≡ Some d → IsDefinable size d → All (λ u. u < size) (used_by r) → IsWell size r
well_of size d r is fine used = record {
  even = λ x e. subst (λ (k : ℕ). k % 2 ≡ 0) (same x e) fine.even;
  high = λ x e. subst (λ (k : ℕ). 2 ≤ k) (same x e) fine.high;
  low = λ x e. subst (λ (k : ℕ). k + 1 < size) (same x e) fine.low;
  used = used;
}
  where
    same : (x : ℕ) → defined_by r ≡ Some x → d ≡ x
    same x e = same_Some d x (sym is ∙ e)

two_below : (size a b : ℕ) → a < size → b < size → All (λ u. u < size) (a ∷ b ∷ [])
two_below size a b la lb = All-cons (λ u. u < size) a (b ∷ []) la (All-cons (λ u. u < size) b [] lb (All-nil (λ u. u < size)))

pub well : (h : Header) (r : Record) → has_bad_literal h r ≡ false → IsWell (2 * h.greatest + 2) r
well h (Input literal) e = well_of (2 * h.greatest + 2) literal (Input literal) refl (definable h literal e) (All-nil (λ u. u < 2 * h.greatest + 2))
well h (Latch literal next reset) e =
    let a = or_parts (is_undefinable h literal || is_above h next) (is_above h reset) e in
    let b = or_parts (is_undefinable h literal) (is_above h next) a.0 in
    well_of (2 * h.greatest + 2) literal (Latch literal next reset) refl (definable h literal b.0) (All-cons (λ u. u < 2 * h.greatest + 2) next [] (below h next b.1) (All-nil (λ u. u < 2 * h.greatest + 2)))
well h (Output literal) e = record {
  even = λ d is. absurd (none-some d is);
  high = λ d is. absurd (none-some d is);
  low = λ d is. absurd (none-some d is);
  used = All-cons (λ u. u < 2 * h.greatest + 2) literal [] (below h literal e) (All-nil (λ u. u < 2 * h.greatest + 2));
}
well h (Gate literal left right) e =
    let a = or_parts (is_undefinable h literal || is_above h left) (is_above h right) e in
    let b = or_parts (is_undefinable h literal) (is_above h left) a.0 in
    well_of (2 * h.greatest + 2) literal (Gate literal left right) refl (definable h literal b.0) (two_below (2 * h.greatest + 2) left right (below h left b.1) (below h right a.1))
well h (Packed literal first second) e =
    let fine = definable h literal e in
    let low = fine.low in
    well_of (2 * h.greatest + 2) literal (Packed literal first second) refl fine (two_below (2 * h.greatest + 2) (literal - first) (literal - first - second) (omega (arith, low)) (omega (arith, low)))

-- each record keeps this
abbrev pub AreWell : ℕ → List Record → Type 0
AreWell size records = (i : ℕ) (r : Record) → slice_get records i ≡ Some r → IsWell size r

pub all_well : (h : Header) (records : List Record) → All (λ r. has_bad_literal h r ≡ false) records → AreWell (2 * h.greatest + 2) records
all_well h records good i r at = well h r (All-contains (λ r. has_bad_literal h r ≡ false) records r good (of_at records i r at))

well_tail : (size : ℕ) (q : Record) (qs : List Record) → AreWell size (q ∷ qs) → AreWell size qs
well_tail size q qs all i r at = all (suc i) r at

once_tail : (q : Record) (qs : List Record) → DefinesOnce (q ∷ qs) → DefinesOnce qs
once_tail q qs once i j literal r s hi hj di dj = let e : suc i ≡ suc j = once (suc i) (suc j) literal r s hi hj di dj in omega (arith, e)

-- tests of a literal
other : (a b : ℕ) → (a ≡ b → ⊥) → eqb a b ≡ false
other a b apart = false_from_ne_true (eqb a b) (λ e. apart ((Decides-eqb a b).0 e))

reads_own : (used : Bool) (d : ℕ) (ops later : List ℕ) → reads_by used (Some d) ops d later ≡ ops
reads_own used d ops later = ap (λ (b : Bool). cond b ops (cond (eqb (d + 1) d) (negated used d) later)) ((Decides-eqb d d).1 refl)

reads_negated : (used : Bool) (d l : ℕ) (ops later : List ℕ) → d + 1 ≡ l → reads_by used (Some d) ops l later ≡ negated used d
reads_negated used d l ops later e =
    ap (λ (b : Bool). cond b ops (cond (eqb (d + 1) l) (negated used d) later)) (other d l (λ same. omega (arith, same, e)))
    ∙ ap (λ (b : Bool). cond b (negated used d) later) ((Decides-eqb (d + 1) l).1 e)

reads_past : (used : Bool) (d l : ℕ) (ops later : List ℕ) → (d ≡ l → ⊥) → (d + 1 ≡ l → ⊥) → reads_by used (Some d) ops l later ≡ later
reads_past used d l ops later own negation =
    ap (λ (b : Bool). cond b ops (cond (eqb (d + 1) l) (negated used d) later)) (other d l own)
    ∙ ap (λ (b : Bool). cond b (negated used d) later) (other (d + 1) l negation)

odd_even : (d l : ℕ) → d % 2 ≡ 0 → l % 2 ≡ 0 → d + 1 ≡ l → ⊥
odd_even d l a b e = omega (arith, a, b, e)

module _ (file : List Record) where
  -- a literal that a record defines reads its operands
  reads_at_among : (size : ℕ) (records : List Record) (j l : ℕ) (r : Record) → DefinesOnce records → AreWell size records → slice_get records j ≡ Some r → defined_by r ≡ Some l → reads_among file records l ≡ operands r
  reads_at_among size [] j l r once fine at is = absurd (none-some r at)
  reads_at_among size (q ∷ qs) zero l r once fine at is =
      ap (λ (x : Record). reads_by (is_used file l) (defined_by x) (operands x) l (reads_among file qs l)) (same_Some q r at)
      ∙ ap (λ (o : Option ℕ). reads_by (is_used file l) o (operands r) l (reads_among file qs l)) is ∙ reads_own (is_used file l) l (operands r) (reads_among file qs l)
  reads_at_among size (q ∷ qs) (suc j) l r once fine at is = go (defined_by q) refl ∙ reads_at_among size qs j l r (once_tail q qs once) (well_tail size q qs fine) at is
    where
      go : (o : Option ℕ) → defined_by q ≡ o → reads_by (is_used file l) o (operands q) l (reads_among file qs l) ≡ reads_among file qs l
      go None e = refl
      go (Some d) e = reads_past (is_used file l) d l (operands q) (reads_among file qs l)
          (λ same. let one : 0 ≡ suc j = once 0 (suc j) l q r refl at (e ∙ ap Some same) is in omega (arith, one))
          (odd_even d l ((fine 0 q refl).even d e) ((fine (suc j) r at).even l is))

  -- its negation reads it, where it is used
  negation_among : (size : ℕ) (records : List Record) (j l : ℕ) (r : Record) → DefinesOnce records → AreWell size records → slice_get records j ≡ Some r → defined_by r ≡ Some l →
      reads_among file records (l + 1) ≡ negated (is_used file (l + 1)) l
  negation_among size [] j l r once fine at is = absurd (none-some r at)
  negation_among size (q ∷ qs) zero l r once fine at is =
      ap (λ (x : Record). reads_by (is_used file (l + 1)) (defined_by x) (operands x) (l + 1) (reads_among file qs (l + 1))) (same_Some q r at)
      ∙ ap (λ (o : Option ℕ). reads_by (is_used file (l + 1)) o (operands r) (l + 1) (reads_among file qs (l + 1))) is ∙ reads_negated (is_used file (l + 1)) l (l + 1) (operands r) (reads_among file qs (l + 1)) refl
  negation_among size (q ∷ qs) (suc j) l r once fine at is = go (defined_by q) refl ∙ negation_among size qs j l r (once_tail q qs once) (well_tail size q qs fine) at is
    where
      go : (o : Option ℕ) → defined_by q ≡ o → reads_by (is_used file (l + 1)) o (operands q) (l + 1) (reads_among file qs (l + 1)) ≡ reads_among file qs (l + 1)
      go None e = refl
      go (Some d) e = reads_past (is_used file (l + 1)) d (l + 1) (operands q) (reads_among file qs (l + 1))
          (λ same. odd_even l d ((fine (suc j) r at).even l is) ((fine 0 q refl).even d e) (sym same))
          (λ same. let one : 0 ≡ suc j = once 0 (suc j) l q r refl at (e ∙ ap Some (let k : d ≡ l = omega (arith, same) in k)) is in omega (arith, one))

pub reads_at : (size : ℕ) (records : List Record) (j l : ℕ) (r : Record) → DefinesOnce records → AreWell size records → slice_get records j ≡ Some r → defined_by r ≡ Some l → reads_in records l ≡ operands r
reads_at size records j l r once fine at is = reads_at_among records size records j l r once fine at is

pub negation_reads : (size : ℕ) (records : List Record) (j l : ℕ) (r : Record) → DefinesOnce records → AreWell size records → slice_get records j ≡ Some r → defined_by r ≡ Some l → is_used records (l + 1) ≡ true → reads_in records (l + 1) ≡ l ∷ []
negation_reads size records j l r once fine at is used = negation_among records size records j l r once fine at is ∙ ap (λ (b : Bool). negated b l) used

-- why a literal reads something: a record defines it, or what it negates, and then it is used
pub record IsReader (file records : List Record) (l : ℕ) (reads : List ℕ) : Type 0 where
  pub place : ℕ
  pub by_record : Record
  pub there : slice_get records place ≡ Some by_record
  pub why : ((defined_by by_record ≡ Some l) × (operands by_record ≡ reads)) ⊎ ((d : ℕ) × (defined_by by_record ≡ Some d) × (d + 1 ≡ l) × (d ∷ [] ≡ reads) × (is_used file l ≡ true))

reader_tail : (file : List Record) (q : Record) (qs : List Record) (l : ℕ) (reads : List ℕ) → IsReader file qs l reads → IsReader file (q ∷ qs) l reads
reader_tail file q qs l reads r = record { place = suc r.place; by_record = r.by_record; there = r.there; why = r.why }

reader_among : (file records : List Record) (l a : ℕ) (more : List ℕ) → reads_among file records l ≡ a ∷ more → IsReader file records l (a ∷ more)
reader_among file [] l a more e = cc
reader_among file (q ∷ qs) l a more e = go (defined_by q) refl e (λ later. reader_tail file q qs l (a ∷ more) (reader_among file qs l a more later))
  where
    test : (d : ℕ) (b c u : Bool) → defined_by q ≡ Some d → eqb d l ≡ b → eqb (d + 1) l ≡ c → is_used file l ≡ u → cond b (operands q) (cond c (negated u d) (reads_among file qs l)) ≡ a ∷ more →
        (reads_among file qs l ≡ a ∷ more → IsReader file (q ∷ qs) l (a ∷ more)) → IsReader file (q ∷ qs) l (a ∷ more)
    test d true c u is own negation used reads rest = record { place = 0; by_record = q; there = refl; why = inl (is ∙ ap Some ((Decides-eqb d l).0 own), reads) }
    test d false true true is own negation used reads rest = record { place = 0; by_record = q; there = refl; why = inr (d, is, (Decides-eqb (d + 1) l).0 negation, reads, used) }
    test d false true false is own negation used reads rest = cc
    test d false false u is own negation used reads rest = rest reads

    go : (o : Option ℕ) → defined_by q ≡ o → reads_by (is_used file l) o (operands q) l (reads_among file qs l) ≡ a ∷ more → (reads_among file qs l ≡ a ∷ more → IsReader file (q ∷ qs) l (a ∷ more)) → IsReader file (q ∷ qs) l (a ∷ more)
    go None is reads rest = rest reads
    go (Some d) is reads rest = test d (eqb d l) (eqb (d + 1) l) (is_used file l) is refl refl refl reads rest

pub reader : (records : List Record) (l a : ℕ) (more : List ℕ) → reads_in records l ≡ a ∷ more → IsReader records records l (a ∷ more)
reader records l a more e = reader_among records records l a more e

-- a record's gates are gates of the file
gates_there : (file records : List Record) (j : ℕ) (r : Record) (e : Equation ℕ) → slice_get records j ≡ Some r → Contains (gate_of r ++ inverter_of file (defined_by r)) e → Contains (gates_of file records) e
gates_there file [] j r e at h = absurd (none-some r at)
gates_there file (q ∷ qs) zero r e at h =
    Contains-append_left (gate_of q ++ inverter_of file (defined_by q)) (gates_of file qs) e
    (subst (λ (x : Record). Contains (gate_of x ++ inverter_of file (defined_by x)) e) (sym (same_Some q r at)) h)
gates_there file (q ∷ qs) (suc j) r e at h = Contains-append_right (gate_of q ++ inverter_of file (defined_by q)) (gates_of file qs) e (gates_there file qs j r e at h)

-- and the file has no others
pub gates_from : (file records : List Record) (e : Equation ℕ) → Contains (gates_of file records) e → (j : ℕ) × (r : Record) × (slice_get records j ≡ Some r) × Contains (gate_of r ++ inverter_of file (defined_by r)) e
gates_from file [] e h = absurd (omega (arith, h.1))
gates_from file (q ∷ qs) e h = go (Contains-append_cases (gate_of q ++ inverter_of file (defined_by q)) (gates_of file qs) e h) (λ k. gates_from file qs e k)
  where
    go : Contains (gate_of q ++ inverter_of file (defined_by q)) e ⊎ Contains (gates_of file qs) e → (Contains (gates_of file qs) e → (j : ℕ) × (r : Record) × (slice_get qs j ≡ Some r) × Contains (gate_of r ++ inverter_of file (defined_by r)) e) →
        (j : ℕ) × (r : Record) × (slice_get (q ∷ qs) j ≡ Some r) × Contains (gate_of r ++ inverter_of file (defined_by r)) e
    go (inl own) later = (0, q, refl, own)
    go (inr k) later = let x = later k in (suc x.0, x.1, x.2, x.3)

-- the negation that is used is a gate
inverter_there : (file : List Record) (d l : ℕ) → d + 1 ≡ l → is_used file l ≡ true → Contains (inverter_of file (Some d)) (gate_equation l (d ∷ []) not_cover)
inverter_there file d l next used =
    subst (λ (k : ℕ). Contains (inverter_of file (Some d)) (gate_equation k (d ∷ []) not_cover)) next
    (subst (λ (b : Bool). Contains (cond b (gate_equation (d + 1) (d ∷ []) not_cover ∷ []) []) (gate_equation (d + 1) (d ∷ []) not_cover)) (sym (ap (is_used file) next ∙ used))
    (Contains-head (gate_equation (d + 1) (d ∷ []) not_cover) []))

-- and each gate of an inverter is one
pub inverter_from : (file : List Record) (d : ℕ) (e : Equation ℕ) → Contains (inverter_of file (Some d)) e → (is_used file (d + 1) ≡ true) × (gate_equation (d + 1) (d ∷ []) not_cover ≡ e)
inverter_from file d e h = go (is_used file (d + 1)) refl h
  where
    go : (b : Bool) → is_used file (d + 1) ≡ b → Contains (cond b (gate_equation (d + 1) (d ∷ []) not_cover ∷ []) []) e → (is_used file (d + 1) ≡ true) × (gate_equation (d + 1) (d ∷ []) not_cover ≡ e)
    go true is k = (is, only (gate_equation (d + 1) (d ∷ []) not_cover) e k)
    go false is k = absurd (omega (arith, k.1))

-- the gate that drives a literal with reads is one of the file's
gate_by : (r : Record) (l a : ℕ) (more : List ℕ) → defined_by r ≡ Some l → operands r ≡ a ∷ more → Contains (gate_of r) (gate_equation l (a ∷ more) (cover_by l (a ∷ more)))
gate_by (Input literal) l a more is ops = cc
gate_by (Latch literal next reset) l a more is ops = cc
gate_by (Output literal) l a more is ops = cc
gate_by (Gate literal left right) l a more is ops =
    subst (λ (reads : List ℕ). Contains (gate_equation literal (left ∷ right ∷ []) and_cover ∷ []) (gate_equation l reads (cover_by l reads))) ops
    (subst (λ (k : ℕ). Contains (gate_equation literal (left ∷ right ∷ []) and_cover ∷ []) (gate_equation k (left ∷ right ∷ []) and_cover)) (same_Some literal l is) (Contains-head (gate_equation literal (left ∷ right ∷ []) and_cover) []))
gate_by (Packed literal first second) l a more is ops =
    let own = gate_equation literal ((literal - first) ∷ (literal - first - second) ∷ []) and_cover in
    subst (λ (reads : List ℕ). Contains (own ∷ []) (gate_equation l reads (cover_by l reads))) ops
    (subst (λ (k : ℕ). Contains (own ∷ []) (gate_equation k ((literal - first) ∷ (literal - first - second) ∷ []) and_cover)) (same_Some literal l is) (Contains-head own []))

pub gate_made : (records : List Record) (l a : ℕ) (more : List ℕ) → reads_in records l ≡ a ∷ more → Contains (gates_in records) (gate_at records l)
gate_made records l a more e =
    subst (λ (reads : List ℕ). Contains (gates_in records) (gate_equation l reads (cover_by l reads))) (sym e) (go (reader records l a more e))
  where
    go : IsReader records records l (a ∷ more) → Contains (gates_in records) (gate_equation l (a ∷ more) (cover_by l (a ∷ more)))
    go x = gates_there records records x.place x.by_record _ x.there (by x.why)
      where
        by : ((defined_by x.by_record ≡ Some l) × (operands x.by_record ≡ a ∷ more)) ⊎ ((d : ℕ) × (defined_by x.by_record ≡ Some d) × (d + 1 ≡ l) × (d ∷ [] ≡ a ∷ more) × (is_used records l ≡ true)) →
            Contains (gate_of x.by_record ++ inverter_of records (defined_by x.by_record)) (gate_equation l (a ∷ more) (cover_by l (a ∷ more)))
        by (inl own) = Contains-append_left (gate_of x.by_record) (inverter_of records (defined_by x.by_record)) _ (gate_by x.by_record l a more own.0 own.1)
        by (inr (d, is, next, reads, used)) =
            Contains-append_right (gate_of x.by_record) (inverter_of records (defined_by x.by_record)) _
            (subst (λ (o : Option ℕ). Contains (inverter_of records o) (gate_equation l (a ∷ more) (cover_by l (a ∷ more)))) (sym is)
            (subst (λ (rs : List ℕ). Contains (inverter_of records (Some d)) (gate_equation l rs (cover_by l rs))) reads (inverter_there records d l next used)))

-- a gate of the file is the one that drives its literal
pub record IsGateHere (size : ℕ) (records : List Record) (e : Equation ℕ) : Type 0 where
  pub literal : ℕ
  pub same : gate_at records literal ≡ e
  pub low : literal < size
  pub some : 0 < length (reads_in records literal)
  pub reads_low : All (λ u. u < size) (reads_in records literal)

pub gate_here : (size : ℕ) (records : List Record) (e : Equation ℕ) → DefinesOnce records → AreWell size records → Contains (gates_in records) e → IsGateHere size records e
gate_here size records e once fine h = let x = gates_from records records e h in go x.0 x.1 x.2 (Contains-append_cases (gate_of x.1) (inverter_of records (defined_by x.1)) e x.3)
  where
    made : (l : ℕ) (reads : List ℕ) → reads_in records l ≡ reads → l < size → 0 < length reads → All (λ u. u < size) reads → gate_equation l reads (cover_by l reads) ≡ e → IsGateHere size records e
    made l reads is low some below same = record {
      literal = l;
      same = ap (λ (rs : List ℕ). gate_equation l rs (cover_by l rs)) is ∙ same;
      low = low;
      some = subst (λ (rs : List ℕ). 0 < length rs) (sym is) some;
      reads_low = subst (λ (rs : List ℕ). All (λ u. u < size) rs) (sym is) below;
    }

    gate : (j : ℕ) (r : Record) → slice_get records j ≡ Some r → Contains (gate_of r) e → IsGateHere size records e
    gate j (Input literal) at k = absurd (omega (arith, k.1))
    gate j (Latch literal next reset) at k = absurd (omega (arith, k.1))
    gate j (Output literal) at k = absurd (omega (arith, k.1))
    gate j (Gate literal left right) at k =
        let low = (fine j (Gate literal left right) at).low literal refl in
        made literal (left ∷ right ∷ []) (reads_at size records j literal (Gate literal left right) once fine at refl) (omega (arith, low)) (omega arith) (fine j (Gate literal left right) at).used (only _ e k)
    gate j (Packed literal first second) at k =
        let low = (fine j (Packed literal first second) at).low literal refl in
        made literal ((literal - first) ∷ (literal - first - second) ∷ []) (reads_at size records j literal (Packed literal first second) once fine at refl) (omega (arith, low)) (omega arith)
        (fine j (Packed literal first second) at).used (only _ e k)

    inverter : (j : ℕ) (r : Record) → slice_get records j ≡ Some r → (o : Option ℕ) → defined_by r ≡ o → Contains (inverter_of records o) e → IsGateHere size records e
    inverter j r at None is k = absurd (omega (arith, k.1))
    inverter j r at (Some d) is k =
        let low = (fine j r at).low d is in
        let x = inverter_from records d e k in
        made (d + 1) (d ∷ []) (negation_reads size records j d r once fine at is x.0) low (omega arith) (All-cons (λ u. u < size) d [] (omega (arith, low)) (All-nil (λ u. u < size))) x.1

    go : (j : ℕ) (r : Record) → slice_get records j ≡ Some r → Contains (gate_of r) e ⊎ Contains (inverter_of records (defined_by r)) e → IsGateHere size records e
    go j r at (inl k) = gate j r at k
    go j r at (inr k) = inverter j r at (defined_by r) refl k

-- operands are read
pub operands_used : (r : Record) (u : ℕ) → Contains (operands r) u → Contains (used_by r) u
operands_used (Input literal) u h = h
operands_used (Latch literal next reset) u h = absurd (omega (arith, h.1))
operands_used (Output literal) u h = absurd (omega (arith, h.1))
operands_used (Gate literal left right) u h = h
operands_used (Packed literal first second) u h = h

-- what a literal reads is below the size
pub reads_below : (size : ℕ) (records : List Record) → AreWell size records → (l u : ℕ) → Contains (reads_in records l) u → u < size
reads_below size records fine l u h = go (reads_in records l) refl h
  where
    single : (d : ℕ) → Contains (d ∷ []) u → d ≡ u
    single d k = pick (Contains-cases d u [] k)
      where
        pick : (d ≡ u) ⊎ Contains [] u → d ≡ u
        pick (inl e) = e
        pick (inr c) = absurd (omega (arith, c.1))

    by : (reads : List ℕ) (x : IsReader records records l reads) → ((defined_by x.by_record ≡ Some l) × (operands x.by_record ≡ reads)) ⊎ ((d : ℕ) × (defined_by x.by_record ≡ Some d) × (d + 1 ≡ l) × (d ∷ [] ≡ reads) × (is_used records l ≡ true)) → Contains reads u → u < size
    by reads x (inl own) k = All-contains (λ v. v < size) (used_by x.by_record) u (fine x.place x.by_record x.there).used (operands_used x.by_record u (subst (λ (rs : List ℕ). Contains rs u) (sym own.1) k))
    by reads x (inr (d, is, next, same, used)) k =
        let low = (fine x.place x.by_record x.there).low d is in
        let e = single d (subst (λ (rs : List ℕ). Contains rs u) (sym same) k) in
        omega (arith, low, e)

    go : (reads : List ℕ) → reads_in records l ≡ reads → Contains reads u → u < size
    go [] e k = absurd (omega (arith, k.1))
    go (a ∷ more) e k = let x = reader records l a more e in by (a ∷ more) x x.why k
