-- Numbers and the names that they are of.
use Rattle.std.proofs.Common.{◌≡◌, ℕ, ◌+◌, ◌<◌, ◌≤◌, nat_lt, ◌&&◌, Bool, true, false, List, [], ◌∷◌, ◌++◌, map, length, take, get_or, option_map, slice_get, unwrap_or, refl, sym, ◌∙◌, ap, ap₂, subst, Option, Some, None, arith, zero, suc, ltb-true, lt-ltb}
use Rattle.std.specs.List.{list_all}
use Rattle.std.proofs.lemmas.Bool.{and_parts, and_from}
use Rattle.std.proofs.lemmas.List.{map-append, take_more}
use Rattle.std.proofs.lemmas.List.Folds.{list_all-append}
use Rattle.std.proofs.lemmas.Option.{slice_get_within}
use Rattle.base_tables.specs.Table.{is_among}
use Rattle.blif_read.specs.sec_base.Edge.{Edge}
use Rattle.blif_read.specs.sec_base.Init.{Init}
use Rattle.blif_read.specs.declared.design.BlifModel.{BlifModel}
use Rattle.blif_read.specs.declared.design.Pair.{Pair}
use Rattle.elaborate.specs.declared.flat.FlatStatement.{FlatStatement}
use Rattle.elaborate.specs.declared.flat.FlatKind.{FlatKind}
use Rattle.elaborate.specs.declared.flat.FlatKind.TheVariants as flat_kind
use Rattle.elaborate.specs.declared.walked.Walked.{Walked}
use Rattle.elaborate.specs.Within.{is_within, has_clock_within}
use Rattle.elaborate.specs.Flat.{FlatOf, Kind, gate, latch, port, named_kind, named_statement, name_at, kind_of, statement_of, cover_at}
use Rattle.elaborate.specs.State.{Keeps, AreNamed, spelled_in, IsKept, Adds, port_between, pair_between}

pub keeps_on : (a b c : List (List ℕ)) → Keeps a b → Keeps b c → Keeps a c
keeps_on a b c f g = λ k x h. g k x (f k x h)

pub name_is : (names : List (List ℕ)) (n : ℕ) (x : List ℕ) → slice_get names n ≡ Some x → name_at names n ≡ x
name_is names n x h = ap (λ (o : Option (List ℕ)). unwrap_or o []) h

pub some_at : {X : Type 0} (xs : List X) (n : ℕ) → n < length xs → (x : X) × (slice_get xs n ≡ Some x)
some_at [] n h = absurd (omega (arith, h))
some_at (x ∷ xs) zero h = (x, refl)
some_at (x ∷ xs) (suc n) h = some_at xs n (omega (arith, h))

pub keeps_within : (a b : List (List ℕ)) → Keeps a b → (n : ℕ) → n < length a → n < length b
keeps_within a b k n h = let found = some_at a n h in slice_get_within b n found.0 (k n found.0 found.1)

pub list_all_weaker : {X : Type 0} (p q : X → Bool) (xs : List X) → ((x : X) → p x ≡ true → q x ≡ true) → list_all p xs ≡ true → list_all q xs ≡ true
list_all_weaker p q [] f h = refl
list_all_weaker p q (x ∷ xs) f h = let parts = and_parts (p x) (list_all p xs) h in and_from (q x) (list_all q xs) (f x parts.0) (list_all_weaker p q xs f parts.1)

clock_more : (a b : ℕ) → ((n : ℕ) → n < a → n < b) → (kind : FlatKind) → has_clock_within a kind ≡ true → has_clock_within b kind ≡ true
clock_more a b more (flat_kind.Gate model statement) h = refl
clock_more a b more (flat_kind.Latch edge None init) h = refl
clock_more a b more (flat_kind.Latch edge (Some c) init) h = lt-ltb c b (more c (ltb-true c a h))
clock_more a b more flat_kind.Port h = refl

pub within_more : (a b : ℕ) → ((n : ℕ) → n < a → n < b) → (s : FlatStatement) → is_within a s ≡ true → is_within b s ≡ true
within_more a b more s h =
    let out = and_parts (nat_lt s.out a) (list_all (λ n. nat_lt n a) s.reads && has_clock_within a s.kind) h in
    let rest = and_parts (list_all (λ n. nat_lt n a) s.reads) (has_clock_within a s.kind) out.1 in
    and_from (nat_lt s.out b) (list_all (λ n. nat_lt n b) s.reads && has_clock_within b s.kind) (lt-ltb s.out b (more s.out (ltb-true s.out a out.0)))
    (and_from (list_all (λ n. nat_lt n b) s.reads) (has_clock_within b s.kind) (list_all_weaker (λ n. nat_lt n a) (λ n. nat_lt n b) s.reads (λ n k. lt-ltb n b (more n (ltb-true n a k))) rest.0) (clock_more a b more s.kind rest.1))

module _ (a b : List (List ℕ)) (keeps : Keeps a b) where
  name_kept : (n : ℕ) → n < length a → name_at b n ≡ name_at a n
  name_kept n h = let found = some_at a n h in name_is b n found.0 (keeps n found.0 found.1) ∙ sym (name_is a n found.0 found.1)

  names_kept : (ns : List ℕ) → list_all (λ n. nat_lt n (length a)) ns ≡ true → map (name_at b) ns ≡ map (name_at a) ns
  names_kept [] h = refl
  names_kept (n ∷ ns) h =
      let parts = and_parts (nat_lt n (length a)) (list_all (λ n. nat_lt n (length a)) ns) h in
      ap₂ (λ (x : List ℕ) (xs : List (List ℕ)). x ∷ xs) (name_kept n (ltb-true n (length a) parts.0)) (names_kept ns parts.1)

  kind_kept : (models : List BlifModel) (kind : FlatKind) → has_clock_within (length a) kind ≡ true → named_kind (name_at b) (kind_of models kind) ≡ named_kind (name_at a) (kind_of models kind)
  kind_kept models (flat_kind.Gate model statement) h = refl
  kind_kept models (flat_kind.Latch edge None init) h = refl
  kind_kept models (flat_kind.Latch edge (Some c) init) h = ap (λ (x : List ℕ). latch edge (Some x) init) (name_kept c (ltb-true c (length a) h))
  kind_kept models flat_kind.Port h = refl

  statement_kept : (models : List BlifModel) (s : FlatStatement) → is_within (length a) s ≡ true → named_statement (name_at b) (statement_of models s) ≡ named_statement (name_at a) (statement_of models s)
  statement_kept models s h =
      let out = and_parts (nat_lt s.out (length a)) (list_all (λ n. nat_lt n (length a)) s.reads && has_clock_within (length a) s.kind) h in
      let rest = and_parts (list_all (λ n. nat_lt n (length a)) s.reads) (has_clock_within (length a) s.kind) out.1 in
      ap (λ (x : List ℕ). record { out = x; reads = map (name_at b) s.reads; kind = named_kind (name_at b) (kind_of models s.kind) }) (name_kept s.out (ltb-true s.out (length a) out.0))
      ∙ ap (λ (xs : List (List ℕ)). record { out = name_at a s.out; reads = xs; kind = named_kind (name_at b) (kind_of models s.kind) }) (names_kept s.reads rest.0)
      ∙ ap (λ (k : Kind (List ℕ)). record { out = name_at a s.out; reads = map (name_at a) s.reads; kind = k }) (kind_kept models s.kind rest.1)

  pub spelled_kept : (models : List BlifModel) (ss : List FlatStatement) → list_all (is_within (length a)) ss ≡ true → spelled_in b models ss ≡ spelled_in a models ss
  spelled_kept models [] h = refl
  spelled_kept models (s ∷ ss) h =
      let parts = and_parts (is_within (length a) s) (list_all (is_within (length a)) ss) h in
      ap₂ (λ (x : FlatOf (List ℕ)) (xs : List (FlatOf (List ℕ))). x ∷ xs) (statement_kept models s parts.0) (spelled_kept models ss parts.1)

-- one statement more
pub adds_one : (old now : Walked) (s : FlatStatement) (flat : List BlifModel → FlatOf (List ℕ)) → IsKept old → Keeps old.names now.names → now.statements ≡ old.statements ++ s ∷ [] → now.count ≡ old.count → now.places ≡ old.places →
    is_within (length now.names) s ≡ true → ((models : List BlifModel) → named_statement (name_at now.names) (statement_of models s) ≡ flat models) → Adds (λ models. flat models ∷ []) old now
adds_one old now s flat kept keeps statements count places within is = record {
  kept = record {
    within = ap (list_all (is_within (length now.names))) statements ∙ list_all-append (is_within (length now.names)) old.statements (s ∷ [])
        ∙ and_from (list_all (is_within (length now.names)) old.statements) (list_all (is_within (length now.names)) (s ∷ [])) (list_all_weaker (is_within (length old.names)) (is_within (length now.names)) old.statements (λ x h. within_more (length old.names) (length now.names) (keeps_within old.names now.names keeps) x h) kept.within)
        (and_from (is_within (length now.names) s) true within refl);
    few = subst (λ (n : ℕ). n ≤ 400000) (sym count) kept.few;
    few_places = subst (λ (n : ℕ). n ≤ 4000000) (sym places) kept.few_places;
  };
  same = λ models.
      let spelled : spelled_in now.names models now.statements ≡ spelled_in old.names models old.statements ++ flat models ∷ [] =
      ap (spelled_in now.names models) statements ∙ map-append (λ (x : FlatStatement). named_statement (name_at now.names) (statement_of models x)) old.statements (s ∷ [])
      ∙ ap₂ (λ (xs : List (FlatOf (List ℕ))) (x : FlatOf (List ℕ)). xs ++ x ∷ []) (spelled_kept old.names now.names keeps models old.statements kept.within) (is models) in
      ap (λ (n : ℕ). record { count = n; places = now.places; spelled = spelled_in now.names models now.statements }) count
      ∙ ap (λ (n : ℕ). record { count = old.count; places = n; spelled = spelled_in now.names models now.statements }) places
      ∙ ap (λ (xs : List (FlatOf (List ℕ))). record { count = old.count; places = old.places; spelled = xs }) spelled;
}

-- numbers of names
pub named_within : (t : List (List ℕ)) (ns : List ℕ) (xs : List (List ℕ)) → AreNamed t ns xs → list_all (λ n. nat_lt n (length t)) ns ≡ true
named_within t [] xs h = refl
named_within t (n ∷ ns) [] h = absurd (cc)
named_within t (n ∷ ns) (x ∷ xs) h =
    let first : slice_get t n ≡ Some x = cc in
    let rest : AreNamed t ns xs = cc in
    and_from (nat_lt n (length t)) (list_all (λ n. nat_lt n (length t)) ns) (lt-ltb n (length t) (slice_get_within t n x first)) (named_within t ns xs rest)

pub named_names : (t : List (List ℕ)) (ns : List ℕ) (xs : List (List ℕ)) → AreNamed t ns xs → map (name_at t) ns ≡ xs
named_names t [] [] h = refl
named_names t [] (x ∷ xs) h = absurd (cc)
named_names t (n ∷ ns) [] h = absurd (cc)
named_names t (n ∷ ns) (x ∷ xs) h =
    let first : slice_get t n ≡ Some x = cc in
    let rest : AreNamed t ns xs = cc in
    ap₂ (λ (y : List ℕ) (ys : List (List ℕ)). y ∷ ys) (name_is t n x first) (named_names t ns xs rest)

pub named_kept : (t u : List (List ℕ)) (ns : List ℕ) (xs : List (List ℕ)) → Keeps t u → AreNamed t ns xs → AreNamed u ns xs
named_kept t u [] [] k h = refl
named_kept t u [] (x ∷ xs) k h = absurd (cc)
named_kept t u (n ∷ ns) [] k h = absurd (cc)
named_kept t u (n ∷ ns) (x ∷ xs) k h =
    let first : slice_get t n ≡ Some x = cc in
    let rest : AreNamed t ns xs = cc in
    ap₂ (λ (y : Option (List ℕ)) (ys : List (Option (List ℕ))). y ∷ ys) (k n x first) (named_kept t u ns xs k rest)

-- a gate more
pub gate_added : (old now : Walked) (mid : List (List ℕ)) (prefix out_name : List ℕ) (fanins : List (List ℕ)) (model at out : ℕ) (reads : List ℕ) → IsKept old → Keeps old.names mid → AreNamed mid reads (map (λ name. prefix ++ name) fanins) →
    Keeps mid now.names → slice_get now.names out ≡ Some (prefix ++ out_name) → now.statements ≡ old.statements ++ record { out = out; reads = reads; kind = flat_kind.Gate model at } ∷ [] → now.count ≡ old.count → now.places ≡ old.places →
    Adds (λ models. record { out = prefix ++ out_name; reads = map (λ name. prefix ++ name) fanins; kind = gate (cover_at models model at) } ∷ []) old now
gate_added old now mid prefix out_name fanins model at out reads kept first named second here statements count places =
    let names : AreNamed now.names reads (map (λ name. prefix ++ name) fanins) = named_kept mid now.names reads (map (λ name. prefix ++ name) fanins) second named in
    adds_one old now (record { out = out; reads = reads; kind = flat_kind.Gate model at }) (λ models. record { out = prefix ++ out_name; reads = map (λ name. prefix ++ name) fanins; kind = gate (cover_at models model at) }) kept
    (keeps_on old.names mid now.names first second) statements count places
    (and_from (nat_lt out (length now.names)) (list_all (λ n. nat_lt n (length now.names)) reads && true) (lt-ltb out (length now.names) (slice_get_within now.names out (prefix ++ out_name) here))
    (and_from (list_all (λ n. nat_lt n (length now.names)) reads) true (named_within now.names reads (map (λ name. prefix ++ name) fanins) names) refl))
    (λ models. ap₂ (λ (x : List ℕ) (xs : List (List ℕ)). record { out = x; reads = xs; kind = gate (cover_at models model at) }) (name_is now.names out (prefix ++ out_name) here) (named_names now.names reads (map (λ name. prefix ++ name) fanins) names))

clock_within : (t : List (List ℕ)) (prefix : List ℕ) (edge : Option Edge) (init : Init) (n : Option ℕ) (control : Option (List ℕ)) → option_map (slice_get t) n ≡ option_map (λ word. Some (prefix ++ word)) control → has_clock_within (length t) (flat_kind.Latch edge n init) ≡ true
clock_within t prefix edge init None control h = refl
clock_within t prefix edge init (Some n) None h = absurd (cc)
clock_within t prefix edge init (Some n) (Some c) h = let e : slice_get t n ≡ Some (prefix ++ c) = cc in lt-ltb n (length t) (slice_get_within t n (prefix ++ c) e)

clock_name : (t : List (List ℕ)) (prefix : List ℕ) (n : Option ℕ) (control : Option (List ℕ)) → option_map (slice_get t) n ≡ option_map (λ word. Some (prefix ++ word)) control → option_map (name_at t) n ≡ option_map (λ word. prefix ++ word) control
clock_name t prefix None None h = refl
clock_name t prefix None (Some c) h = absurd (cc)
clock_name t prefix (Some n) None h = absurd (cc)
clock_name t prefix (Some n) (Some c) h = let e : slice_get t n ≡ Some (prefix ++ c) = cc in ap (λ (x : List ℕ). Some x) (name_is t n (prefix ++ c) e)

-- a latch more
pub latch_added : (old now : Walked) (first second : List (List ℕ)) (prefix input output : List ℕ) (edge : Option Edge) (control : Option (List ℕ)) (init : Init) (read out : ℕ) (clock : Option ℕ) → IsKept old →
    Keeps old.names first → slice_get first read ≡ Some (prefix ++ input) → Keeps first second → slice_get second out ≡ Some (prefix ++ output) → Keeps second now.names → option_map (slice_get now.names) clock ≡ option_map (λ word. Some (prefix ++ word)) control →
    now.statements ≡ old.statements ++ record { out = out; reads = read ∷ []; kind = flat_kind.Latch edge clock init } ∷ [] → now.count ≡ old.count → now.places ≡ old.places →
    Adds (λ models. record { out = prefix ++ output; reads = (prefix ++ input) ∷ []; kind = latch edge (option_map (λ word. prefix ++ word) control) init } ∷ []) old now
latch_added old now first second prefix input output edge control init read out clock kept k1 is_read k2 is_out k3 is_clock statements count places =
    let read_at : slice_get now.names read ≡ Some (prefix ++ input) = k3 read (prefix ++ input) (k2 read (prefix ++ input) is_read) in
    let out_at : slice_get now.names out ≡ Some (prefix ++ output) = k3 out (prefix ++ output) is_out in
    let names : AreNamed now.names (read ∷ []) ((prefix ++ input) ∷ []) = ap (λ (o : Option (List ℕ)). o ∷ []) read_at in
    adds_one old now (record { out = out; reads = read ∷ []; kind = flat_kind.Latch edge clock init }) (λ models. record { out = prefix ++ output; reads = (prefix ++ input) ∷ []; kind = latch edge (option_map (λ word. prefix ++ word) control) init }) kept
    (keeps_on old.names first now.names k1 (keeps_on first second now.names k2 k3)) statements count places
    (and_from (nat_lt out (length now.names)) (list_all (λ n. nat_lt n (length now.names)) (read ∷ []) && has_clock_within (length now.names) (flat_kind.Latch edge clock init)) (lt-ltb out (length now.names) (slice_get_within now.names out (prefix ++ output) out_at))
    (and_from (list_all (λ n. nat_lt n (length now.names)) (read ∷ [])) (has_clock_within (length now.names) (flat_kind.Latch edge clock init)) (named_within now.names (read ∷ []) ((prefix ++ input) ∷ []) names) (clock_within now.names prefix edge init clock control is_clock)))
    (λ models. ap₂ (λ (x : List ℕ) (xs : List (List ℕ)). record { out = x; reads = xs; kind = latch edge (option_map (name_at now.names) clock) init }) (name_is now.names out (prefix ++ output) out_at) (named_names now.names (read ∷ []) ((prefix ++ input) ∷ []) names)
    ∙ ap (λ (c : Option (List ℕ)). record { out = prefix ++ output; reads = (prefix ++ input) ∷ []; kind = latch edge c init }) (clock_name now.names prefix clock control is_clock))

port_added : (old now : Walked) (out from : ℕ) (out_name from_name : List ℕ) → IsKept old → Keeps old.names now.names → slice_get now.names out ≡ Some out_name → slice_get now.names from ≡ Some from_name →
    now.statements ≡ old.statements ++ record { out = out; reads = from ∷ []; kind = flat_kind.Port } ∷ [] → now.count ≡ old.count → now.places ≡ old.places →
    Adds (λ models. record { out = out_name; reads = from_name ∷ []; kind = port } ∷ []) old now
port_added old now out from out_name from_name kept keeps out_at from_at statements count places =
    let names : AreNamed now.names (from ∷ []) (from_name ∷ []) = ap (λ (o : Option (List ℕ)). o ∷ []) from_at in
    adds_one old now (record { out = out; reads = from ∷ []; kind = flat_kind.Port }) (λ models. record { out = out_name; reads = from_name ∷ []; kind = port }) kept keeps statements count places
    (and_from (nat_lt out (length now.names)) (list_all (λ n. nat_lt n (length now.names)) (from ∷ []) && true) (lt-ltb out (length now.names) (slice_get_within now.names out out_name out_at))
    (and_from (list_all (λ n. nat_lt n (length now.names)) (from ∷ [])) true (named_within now.names (from ∷ []) (from_name ∷ []) names) refl))
    (λ models. ap₂ (λ (x : List ℕ) (xs : List (List ℕ)). record { out = x; reads = xs; kind = port }) (name_is now.names out out_name out_at) (named_names now.names (from ∷ []) (from_name ∷ []) names))

-- a pair more, whose formal is an input's
pub input_added : (old now : Walked) (mid inputs : List (List ℕ)) (outer inner : List ℕ) (pair : Pair) (actual formal : ℕ) → IsKept old → Keeps old.names mid → slice_get mid actual ≡ Some (outer ++ pair.actual) → Keeps mid now.names → slice_get now.names formal ≡ Some (inner ++ pair.formal) →
    is_among inputs pair.formal ≡ true → now.statements ≡ old.statements ++ record { out = formal; reads = actual ∷ []; kind = flat_kind.Port } ∷ [] → now.count ≡ old.count → now.places ≡ old.places → Adds (λ models. pair_between inputs outer inner pair ∷ []) old now
input_added old now mid inputs outer inner pair actual formal kept k1 is_actual k2 is_formal input statements count places =
    subst (λ (b : Bool). Adds (λ models. port_between b (outer ++ pair.actual) (inner ++ pair.formal) ∷ []) old now) (sym input)
    (port_added old now formal actual (inner ++ pair.formal) (outer ++ pair.actual) kept (keeps_on old.names mid now.names k1 k2) is_formal (k2 actual (outer ++ pair.actual) is_actual) statements count places)

-- a pair more, whose formal is an output's
pub output_added : (old now : Walked) (mid inputs : List (List ℕ)) (outer inner : List ℕ) (pair : Pair) (actual formal : ℕ) → IsKept old → Keeps old.names mid → slice_get mid actual ≡ Some (outer ++ pair.actual) → Keeps mid now.names → slice_get now.names formal ≡ Some (inner ++ pair.formal) →
    is_among inputs pair.formal ≡ false → now.statements ≡ old.statements ++ record { out = actual; reads = formal ∷ []; kind = flat_kind.Port } ∷ [] → now.count ≡ old.count → now.places ≡ old.places → Adds (λ models. pair_between inputs outer inner pair ∷ []) old now
output_added old now mid inputs outer inner pair actual formal kept k1 is_actual k2 is_formal output statements count places =
    subst (λ (b : Bool). Adds (λ models. port_between b (outer ++ pair.actual) (inner ++ pair.formal) ∷ []) old now) (sym output)
    (port_added old now actual formal (outer ++ pair.actual) (inner ++ pair.formal) kept (keeps_on old.names mid now.names k1 k2) (k2 actual (outer ++ pair.actual) is_actual) is_formal statements count places)

-- one number more
pub numbers_more : (t u : List (List ℕ)) (ns ms : List ℕ) (n : ℕ) (prefix : List ℕ) (xs : List (List ℕ)) (i : ℕ) (x : List ℕ) → i < length xs → x ≡ get_or xs i x → AreNamed t ns (map (λ name. prefix ++ name) (take i xs)) → Keeps t u → slice_get u n ≡ Some (prefix ++ x) → ms ≡ ns ++ n ∷ [] →
    AreNamed u ms (map (λ name. prefix ++ name) (take (i + 1) xs))
numbers_more t u ns ms n prefix xs i x room at named keeps here pushed =
    ap (map (slice_get u)) pushed ∙ map-append (slice_get u) ns (n ∷ [])
    ∙ ap₂ (λ (ys : List (Option (List ℕ))) (y : Option (List ℕ)). ys ++ y ∷ []) (named_kept t u ns (map (λ name. prefix ++ name) (take i xs)) keeps named) here
    ∙ sym (map-append (λ (y : List ℕ). Some y) (map (λ name. prefix ++ name) (take i xs)) ((prefix ++ x) ∷ []))
    ∙ ap (map (λ (y : List ℕ). Some y)) (sym (map-append (λ (name : List ℕ). prefix ++ name) (take i xs) (x ∷ [])) ∙ ap (map (λ (name : List ℕ). prefix ++ name)) (ap (λ (y : List ℕ). take i xs ++ y ∷ []) at ∙ sym (take_more xs i x room)))
