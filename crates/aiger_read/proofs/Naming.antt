-- The names of the signals are distinct.
use Rattle.std.proofs.Common.{◌≡◌, ◌≢◌, ℕ, zero, suc, ◌+◌, ◌/◌, ◌%◌, ◌^◌, ◌<◌, ◌==◌, ◌&&◌, not, Bool, true, false, true≢false, cond, eqb, if◌then◌else◌, List, [], ◌∷◌, ◌++◌, map, length, drop, slice_get, Some, decimal, refl, sym, ◌∙◌, ap, ap₂, subst, arith, ne_eqb, inl, inr}
use Rattle.std.specs.Prelude.{◌⊎◌}
use Rattle.std.specs.List.{Contains, list_all}
use Rattle.std.specs.Fmt.{digits, digits_onto, digit_glyph}
use Rattle.std.proofs.lemmas.Bool.{and_parts, lt-ltb, eqb-false}
use Rattle.std.proofs.lemmas.Bool.Decides.{Decides-eqb}
use Rattle.std.proofs.lemmas.Fmt.{decimal_injective}
use Rattle.std.proofs.lemmas.List.{map-append}
use Rattle.std.proofs.lemmas.List.Elements.{All-contains, Contains-append_cases}
use Rattle.std.proofs.lemmas.Option.{none-some, same_Some}
use Rattle.circuit_theory.specs.Circuit.{Named as Port}
use Rattle.circuit_theory.proofs.Lists.{Contains-head, Contains-tail, at_of, of_at}
use Rattle.circuit_theory.proofs.Numbers.{slice_get-map}
use Rattle.base_tables.specs.Table.{AreDistinct}
use Rattle.base_tables.proofs.TableLemmas.{key_at}
use Rattle.aiger_read.proofs.aiger_file.aiger_graph.net_assembly.Rows.{slice_get-append}
use Rattle.aiger_read.proofs.aiger_file.aiger_graph.net_assembly.DistinctLists.{distinct_tail}
use Rattle.aiger_read.specs.declared.aiger_file.symbol.Named.{Named}
use Rattle.aiger_read.specs.aiger_file.Names.{name_of}
use Rattle.aiger_read.specs.declared.aiger_file.file.AigerFile.{AigerFile}
use Rattle.aiger_read.specs.aiger_file.aiger_graph.Circuit.{ports_from, input_literals}
use Rattle.aiger_read.specs.SignalNames.{gate_name, latch_literals, sources_of, name_among, signal_name}
use Rattle.aiger_read.specs.Made.{IsFaultless}

-- a text without `!`
abbrev lacks_mark : List ℕ → Bool
lacks_mark bytes = list_all (λ b. not (b == 33)) bytes

abbrev mark : Bool → List ℕ
mark b = if b then 33 ∷ [] else []

glyph_lacks : (d : ℕ) → d < 10 → not (digit_glyph false d == 33) ≡ true
glyph_lacks d l = ap (λ (b : Bool). not ((if b then 48 + d else 87 + d) == 33)) (lt-ltb d 10 l) ∙ ap not (ne_eqb (48 + d) 33 (λ e. absurd (omega (arith, e, l))))

onto_lacks : (k n : ℕ) (xs : List ℕ) → lacks_mark xs ≡ true → lacks_mark (digits_onto k 10 false n xs) ≡ true
onto_lacks zero n xs h = h
onto_lacks (suc k) n xs h = by (n / 10 == 0) (onto_lacks k (n / 10) (digit_glyph false (n % 10) ∷ xs) more) more
  where
    more : lacks_mark (digit_glyph false (n % 10) ∷ xs) ≡ true
    more = ap₂ (λ a b. a && b) (glyph_lacks (n % 10) (omega arith)) h

    by : (b : Bool) → lacks_mark (digits_onto k 10 false (n / 10) (digit_glyph false (n % 10) ∷ xs)) ≡ true → lacks_mark (digit_glyph false (n % 10) ∷ xs) ≡ true →
        lacks_mark (if b then digit_glyph false (n % 10) ∷ xs else digits_onto k 10 false (n / 10) (digit_glyph false (n % 10) ∷ xs)) ≡ true
    by true rest one = one
    by false rest one = rest

decimal_lacks : (n : ℕ) → lacks_mark (decimal n) ≡ true
unfolding digits
decimal_lacks n = onto_lacks 64 n [] refl

-- the mark at the end parts a text in one way
split : (a c : List ℕ) (x y : Bool) → lacks_mark a ≡ true → lacks_mark c ≡ true → a ++ mark x ≡ c ++ mark y → (a ≡ c) × (x ≡ y)
split [] [] true true ha hc e = (refl, refl)
split [] [] false false ha hc e = (refl, refl)
split [] [] true false ha hc e = absurd (let n = ap length e in omega (arith, n))
split [] [] false true ha hc e = absurd (let n = ap length e in omega (arith, n))
split [] (d ∷ c) true y ha hc e =
    let first : 33 ≡ d = cc in
    absurd (true≢false (sym (and_parts (not (d == 33)) (list_all (λ b. not (b == 33)) c) hc).0 ∙ ap (λ b. not (b == 33)) (sym first)))
split [] (d ∷ c) false y ha hc e = absurd (let n = ap length e in omega (arith, n))
split (d ∷ a) [] x true ha hc e =
    let first : d ≡ 33 = cc in
    absurd (true≢false (sym (and_parts (not (d == 33)) (list_all (λ b. not (b == 33)) a) ha).0 ∙ ap (λ b. not (b == 33)) first))
split (d ∷ a) [] x false ha hc e = absurd (let n = ap length e in omega (arith, n))
split (d ∷ a) (g ∷ c) x y ha hc e =
    let first : d ≡ g = cc in
    let rest : a ++ mark x ≡ c ++ mark y = cc in
    let parts = split a c x y (and_parts (not (d == 33)) (list_all (λ b. not (b == 33)) a) ha).1 (and_parts (not (g == 33)) (list_all (λ b. not (b == 33)) c) hc).1 rest in
    (ap₂ (λ z zs. z ∷ zs) first parts.0, parts.1)

-- gates of one name are one
gate_injective : (a b : ℕ) → a < 2 ^ 64 → b < 2 ^ 64 → gate_name a ≡ gate_name b → a ≡ b
gate_injective a b la lb e =
    let parts = split (decimal (a / 2)) (decimal (b / 2)) (a % 2 == 1) (b % 2 == 1) (decimal_lacks (a / 2)) (decimal_lacks (b / 2)) (ap (drop 1) e) in
    let half = decimal_injective (a / 2) (b / 2) (omega (arith, la)) (omega (arith, lb)) parts.0 in
    odd half (a % 2 == 1) (b % 2 == 1) refl refl parts.1
  where
    odd : a / 2 ≡ b / 2 → (x y : Bool) → (a % 2 == 1) ≡ x → (b % 2 == 1) ≡ y → x ≡ y → a ≡ b
    odd half true true ha hb same = let p = (Decides-eqb (a % 2) 1).0 ha in let q = (Decides-eqb (b % 2) 1).0 hb in omega (arith, half, p, q)
    odd half false false ha hb same = let p = eqb-false (a % 2) 1 ha in let q = eqb-false (b % 2) 1 hb in omega (arith, half, p, q)
    odd half true false ha hb same = absurd (true≢false same)
    odd half false true ha hb same = absurd (true≢false (sym same))

-- a name at a place
abbrev pub port_of : List ℕ → ℕ → Port ℕ
port_of name place = record { name = name; place = place }

-- ports by their places
pub ports_places : (symbols : Named) (letter k : ℕ) (ls : List ℕ) → map (λ (p : Port ℕ). p.place) (ports_from symbols letter k ls) ≡ ls
ports_places symbols letter k [] = refl
ports_places symbols letter k (l ∷ ls) = ap (λ (ms : List ℕ). l ∷ ms) (ports_places symbols letter (k + 1) ls)

port_at : (symbols : Named) (letter k : ℕ) (ls : List ℕ) (i l j : ℕ) → j ≡ k + i → slice_get ls i ≡ Some l → slice_get (ports_from symbols letter k ls) i ≡ Some (port_of (name_of symbols letter j) l)
port_at symbols letter k [] i l j e at = absurd (none-some l at)
port_at symbols letter k (m ∷ ls) zero l j e at = ap₂ (λ (n : ℕ) (p : ℕ). Some (port_of (name_of symbols letter n) p)) (let d : k ≡ j = omega (arith, e) in d) (same_Some m l at)
port_at symbols letter k (m ∷ ls) (suc i) l j e at = port_at symbols letter (k + 1) ls i l j (omega (arith, e)) at

-- what stands behind a list
pub behind : {X : Type 0} (xs ys : List X) (i j : ℕ) (x : X) → i ≡ length xs + j → slice_get ys j ≡ Some x → slice_get (xs ++ ys) i ≡ Some x
behind [] ys i j x e h = subst (λ (k : ℕ). slice_get ys k ≡ Some x) (let k : j ≡ i = omega (arith, e) in k) h
behind (z ∷ xs) ys zero j x e h = absurd (omega (arith, e))
behind (z ∷ xs) ys (suc i) j x e h = behind xs ys i j x (omega (arith, e)) h

name_at : (ps : List (Port ℕ)) (i : ℕ) (p : Port ℕ) → AreDistinct (map (λ (q : Port ℕ). q.place) ps) → slice_get ps i ≡ Some p → name_among ps p.place ≡ p.name
name_at [] i p once at = absurd (none-some p at)
name_at (q ∷ ps) zero p once at =
    subst (λ (x : Port ℕ). name_among (q ∷ ps) x.place ≡ x.name) (same_Some q p at) (ap (λ (b : Bool). cond b q.name (name_among ps q.place)) ((Decides-eqb q.place q.place).1 refl))
name_at (q ∷ ps) (suc i) p once at = go (eqb q.place p.place) refl (name_at ps i p (distinct_tail q.place (map (λ (r : Port ℕ). r.place) ps) once) at)
  where
    go : (b : Bool) → eqb q.place p.place ≡ b → name_among ps p.place ≡ p.name → cond b q.name (name_among ps p.place) ≡ p.name
    go true e later =
        let k : 0 ≡ suc i = once 0 (suc i) p.place (ap Some ((Decides-eqb q.place p.place).0 e)) (slice_get-map (λ (r : Port ℕ). r.place) ps i p at) in
        absurd (omega (arith, k))
    go false e later = later

no_name : (ps : List (Port ℕ)) (l : ℕ) → (Contains (map (λ (q : Port ℕ). q.place) ps) l → ⊥) → name_among ps l ≡ gate_name l
no_name [] l none = refl
no_name (q ∷ ps) l none = go (eqb q.place l) refl (no_name ps l (λ h. none (Contains-tail q.place l (map (λ (r : Port ℕ). r.place) ps) h)))
  where
    go : (b : Bool) → eqb q.place l ≡ b → name_among ps l ≡ gate_name l → cond b q.name (name_among ps l) ≡ gate_name l
    go true e later = absurd (none (subst (Contains (q.place ∷ map (λ (r : Port ℕ). r.place) ps)) ((Decides-eqb q.place l).0 e) (Contains-head q.place (map (λ (r : Port ℕ). r.place) ps))))
    go false e later = later

-- what distinct items give, where no two give the same
distinct_map : (g : ℕ → List ℕ) (ls : List ℕ) → AreDistinct ls → ((a b : ℕ) → Contains ls a → Contains ls b → g a ≡ g b → a ≡ b) → AreDistinct (map g ls)
distinct_map g ls once apart i j x hi hj =
    let a = key_at g ls i x hi in
    let b = key_at g ls j x hj in
    let same = apart a.0 b.0 (of_at ls i a.0 a.1) (of_at ls j b.0 b.1) (a.2 ∙ sym b.2) in
    once i j a.0 a.1 (b.1 ∙ ap Some (sym same))

module _ (f : AigerFile) where
  abbrev sources : List ℕ
  sources = input_literals f.records ++ latch_literals f.records

  sources_places : map (λ (p : Port ℕ). p.place) (sources_of f) ≡ sources
  sources_places =
      map-append (λ (p : Port ℕ). p.place) (ports_from f.symbols 105 0 (input_literals f.records)) (ports_from f.symbols 108 0 (latch_literals f.records))
      ∙ ap₂ (λ (xs ys : List ℕ). xs ++ ys) (ports_places f.symbols 105 0 (input_literals f.records)) (ports_places f.symbols 108 0 (latch_literals f.records))

  module _ (once : AreDistinct sources) where
    places_once : AreDistinct (map (λ (p : Port ℕ). p.place) (sources_of f))
    places_once = subst (λ (ls : List ℕ). AreDistinct ls) (sym sources_places) once

    -- the names of an input, a latch and a gate
    pub input_name : (i l : ℕ) → slice_get (input_literals f.records) i ≡ Some l → signal_name f l ≡ name_of f.symbols 105 i
    input_name i l at =
        name_at (sources_of f) i (port_of (name_of f.symbols 105 i) l) places_once
        (slice_get-append (ports_from f.symbols 105 0 (input_literals f.records)) (ports_from f.symbols 108 0 (latch_literals f.records)) i (port_of (name_of f.symbols 105 i) l) (port_at f.symbols 105 0 (input_literals f.records) i l i (omega arith) at))

    pub latch_name : (i l : ℕ) → slice_get (latch_literals f.records) i ≡ Some l → signal_name f l ≡ name_of f.symbols 108 i
    latch_name i l at =
        let inputs = ports_from f.symbols 105 0 (input_literals f.records) in
        name_at (sources_of f) (length inputs + i) (port_of (name_of f.symbols 108 i) l) places_once
        (behind inputs (ports_from f.symbols 108 0 (latch_literals f.records)) (length inputs + i) i (port_of (name_of f.symbols 108 i) l) (omega arith) (port_at f.symbols 108 0 (latch_literals f.records) i l i (omega arith) at))

    pub gate_name_is : (l : ℕ) → (Contains sources l → ⊥) → signal_name f l ≡ gate_name l
    gate_name_is l none = no_name (sources_of f) l (λ h. none (subst (λ (ls : List ℕ). Contains ls l) sources_places h))

    source_at : (l : ℕ) → Contains sources l → (i : ℕ) × (p : Port ℕ) × (slice_get (sources_of f) i ≡ Some p) × (p.place ≡ l) × (signal_name f l ≡ p.name)
    source_at l h =
        let at = at_of (map (λ (p : Port ℕ). p.place) (sources_of f)) l (subst (λ (ls : List ℕ). Contains ls l) (sym sources_places) h) in
        let p = key_at (λ (q : Port ℕ). q.place) (sources_of f) at.0 l at.1 in
        (at.0, p.0, p.1, p.2, ap (signal_name f) (sym p.2) ∙ name_at (sources_of f) at.0 p.0 places_once p.1)

    module _ (faultless : IsFaultless f) (gates : List ℕ) (apart : (l : ℕ) → Contains sources l → Contains gates l → ⊥) (low : (l : ℕ) → Contains gates l → l < 2 ^ 64) (all_once : AreDistinct (sources ++ gates)) where
      gate_is : (l : ℕ) → Contains gates l → signal_name f l ≡ gate_name l
      gate_is l h = gate_name_is l (λ k. apart l k h)

      mixed : (a b : ℕ) → Contains sources a → Contains gates b → signal_name f a ≡ signal_name f b → ⊥
      mixed a b ha hb e =
          let x = source_at a ha in
          All-contains (λ (p : Port ℕ). slice_get p.name 0 ≢ Some 35) (sources_of f) x.1 faultless.apart (of_at (sources_of f) x.0 x.1 x.2)
          (ap (λ (n : List ℕ). slice_get n 0) (sym x.4 ∙ e ∙ gate_is b hb))

      injective : (a b : ℕ) → Contains (sources ++ gates) a → Contains (sources ++ gates) b → signal_name f a ≡ signal_name f b → a ≡ b
      injective a b ha hb e = go (Contains-append_cases sources gates a ha) (Contains-append_cases sources gates b hb)
        where
          go : Contains sources a ⊎ Contains gates a → Contains sources b ⊎ Contains gates b → a ≡ b
          go (inl x) (inl y) =
              let p = source_at a x in
              let q = source_at b y in
              let same = faultless.sources p.0 q.0 p.1.name (slice_get-map (λ (r : Port ℕ). r.name) (sources_of f) p.0 p.1 p.2)
              (slice_get-map (λ (r : Port ℕ). r.name) (sources_of f) q.0 q.1 q.2 ∙ ap Some (sym q.4 ∙ sym e ∙ p.4)) in
              let one : p.1 ≡ q.1 = same_Some p.1 q.1 (sym p.2 ∙ ap (slice_get (sources_of f)) same ∙ q.2) in
              sym p.3 ∙ ap (λ (r : Port ℕ). r.place) one ∙ q.3
          go (inl x) (inr y) = absurd (mixed a b x y e)
          go (inr x) (inl y) = absurd (mixed b a y x (sym e))
          go (inr x) (inr y) = gate_injective a b (low a x) (low b y) (sym (gate_is a x) ∙ e ∙ gate_is b y)

      pub names_once : AreDistinct (map (signal_name f) (sources ++ gates))
      names_once = distinct_map (signal_name f) (sources ++ gates) all_once injective
