-- The design's circuit is that of the numbered flat statements, renamed.
use Rattle.std.proofs.Common.{◌≡◌, ℕ, ◌<◌, ◌≤◌, nat_lt, ◌==◌, ◌&&◌, not, Bool, true, false, true≢false, cond, if◌then◌else◌, List, [], ◌∷◌, ◌++◌, map, length, filter, filter_map, option_map, bytes_eq, slice_get, refl, sym, ◌∙◌, ap, ap₂, Option, Some, None, arith, zero, suc, ltb-true, eqb-true, eq-eqb, inl, inr, ◌⊎◌}
use Rattle.std.specs.List.{list_all, cons_option, All, Contains}
use Rattle.std.proofs.lemmas.Bool.{and_parts}
use Rattle.std.proofs.lemmas.List.Elements.{All-cons, All-nil, All-contains}
use Rattle.std.proofs.lemmas.Option.{same_Some, none-some}
use Rattle.std.proofs.lemmas.Slice.Eq.{bytes_eq-Decides}
use Rattle.circuit_theory.specs.Circuit.{Equation, Named, Latch as Register}
use Rattle.circuit_theory.specs.Joined.{moved, moved_name}
use Rattle.circuit_theory.proofs.Lists.{map-map}
use Rattle.base_tables.specs.Table.{AreDistinct}
use Rattle.blif_read.specs.declared.design.BlifModel.{BlifModel}
use Rattle.blif_read.specs.declared.design.Statement.TheVariants.{Names, Latch, Subckt}
use Rattle.blif_read.specs.Design.{Place, Item, At, Enter, Pairing, place_at, top, at_top, name_of, is_input_formal, port_of, is_clock, equation_of, main_walk, main_inputs, main_outputs, circuit_of_design}
use Rattle.blif_read.proofs.Each.{Each, each_append, each_filter, each_all}
use Rattle.blif_read.proofs.Plain.{each_left, each_right}
use Rattle.blif_read.specs.Kept.{is_plain, written_names, covers_fit}
use Rattle.elaborate.specs.declared.flat.Flat.{Flat}
use Rattle.elaborate.specs.declared.flat.FlatStatement.{FlatStatement}
use Rattle.elaborate.specs.declared.flat.FlatKind.{FlatKind}
use Rattle.elaborate.specs.declared.flat.FlatKind.TheVariants as flat_kind
use Rattle.elaborate.specs.Within.{is_within, has_clock_within}
use Rattle.elaborate.specs.Flat.{Kind, FlatOf, FlatDesign, gate, latch, port, named_kind, named_statement, named, flat_port, flat_of, placed_design, flat_design_of, name_at, kind_of, statement_of, view_of, equation_by, equation_in, named_at, is_number, circuit_of_flat}
use Rattle.elaborate.specs.Renaming.{IsBelow, IsRenaming}
use Rattle.elaborate.proofs.Items.{IsPlainPlace, IsPlainClock, IsGood, IsGoodModel, good_models, good_main, plain_top}
use Rattle.elaborate.proofs.Tabled.{bool_same}
use Rattle.elaborate.specs.Walked.{IsWalked}
use Rattle.elaborate.proofs.Names.{same_place}
use Rattle.elaborate.proofs.Spelled.{name_is, some_at}

-- the number of a name
abbrev pub index_of : List (List ℕ) → List ℕ → ℕ
index_of [] name = 0
index_of (n ∷ names) name = if bytes_eq name n then 0 else suc (index_of names name)

pub index_is : (names : List (List ℕ)) (k : ℕ) (name : List ℕ) → AreDistinct names → slice_get names k ≡ Some name → index_of names name ≡ k
index_is [] k name d h = absurd (none-some name h)
index_is (n ∷ names) zero name d h = ap (λ b. if b then 0 else suc (index_of names name)) ((bytes_eq-Decides name n).1 (sym (same_Some n name h)))
index_is (n ∷ names) (suc k) name d h = by (index_is names k name (λ i j x hi hj. (let e : suc i ≡ suc j = d (suc i) (suc j) x hi hj in omega (arith, e))) h) (bytes_eq name n) refl
  where
    by : index_of names name ≡ k → (b : Bool) → bytes_eq name n ≡ b → (if b then 0 else suc (index_of names name)) ≡ suc k
    by rest true e = absurd (let zero_is : zero ≡ suc k = d zero (suc k) name (ap Some (sym ((bytes_eq-Decides name n).0 e))) h in omega (arith, zero_is))
    by rest false e = ap suc rest

-- the first of the places with a name; else a place of the main model
abbrev pub place_named : List Place → List ℕ → Place
place_named [] name = top name
place_named (p ∷ places) name = if bytes_eq name (name_of p) then p else place_named places name

pub place_named_is : (places : List Place) (name : List ℕ) → name_of (place_named places name) ≡ name
place_named_is [] name = refl
place_named_is (p ∷ places) name = by (place_named_is places name) (bytes_eq name (name_of p)) refl
  where
    by : name_of (place_named places name) ≡ name → (b : Bool) → bytes_eq name (name_of p) ≡ b → name_of (if b then p else place_named places name) ≡ name
    by rest true e = sym ((bytes_eq-Decides name (name_of p)).0 e)
    by rest false e = rest

-- the place stands in the list
abbrev pub IsIn : List Place → Place → Type 0
IsIn [] p = ⊥
IsIn (q ∷ places) p = (p ≡ q) ⊎ IsIn places p

pub found_place : (places : List Place) (p : Place) → Each IsPlainPlace places → IsPlainPlace p → IsIn places p → place_named places (name_of p) ≡ p
found_place [] p each plain h = absurd h
found_place (q ∷ places) p each plain h = by (found_place places p each.1 plain) (bytes_eq (name_of p) (name_of q)) refl h
  where
    by : (IsIn places p → place_named places (name_of p) ≡ p) → (b : Bool) → bytes_eq (name_of p) (name_of q) ≡ b → (p ≡ q) ⊎ IsIn places p → (if b then q else place_named places (name_of p)) ≡ p
    by rest true e k = sym (same_place p q plain each.0 ((bytes_eq-Decides (name_of p) (name_of q)).0 e))
    by rest false e (inl same) = absurd (true≢false (sym ((bytes_eq-Decides (name_of p) (name_of q)).1 (ap name_of same)) ∙ e))
    by rest false e (inr k) = rest k

abbrev pub clocks_of : Kind Place → List Place
clocks_of (gate cover) = []
clocks_of (latch edge None init) = []
clocks_of (latch edge (Some c) init) = c ∷ []
clocks_of port = []

abbrev pub places_in : List (FlatOf Place) → List Place
places_in [] = []
places_in (s ∷ ss) = (s.out ∷ (s.reads ++ clocks_of s.kind)) ++ places_in ss

-- all places of a flat design
abbrev pub design_places : FlatDesign Place → List Place
design_places d = d.inputs ++ (d.clocks ++ (d.outputs ++ places_in d.statements))

fixed_all : (all places : List Place) → ((p : Place) → IsIn places p → IsIn all p) → Each IsPlainPlace all → Each IsPlainPlace places → Each (λ p. place_named all (name_of p) ≡ p) places
fixed_all all [] there each plain = tt
fixed_all all (p ∷ places) there each plain = (found_place all p each plain.0 (there p (inl refl)), fixed_all all places (λ q h. there q (inr h)) each plain.1)

map_fixed : (f : Place → Place) (ps : List Place) → Each (λ p. f p ≡ p) ps → map f ps ≡ ps
map_fixed f [] h = refl
map_fixed f (p ∷ ps) h = ap₂ (λ (q : Place) (qs : List Place). q ∷ qs) h.0 (map_fixed f ps h.1)

kind_fixed : (f : Place → Place) (k : Kind Place) → Each (λ p. f p ≡ p) (clocks_of k) → named_kind f k ≡ k
kind_fixed f (gate cover) h = refl
kind_fixed f (latch edge None init) h = refl
kind_fixed f (latch edge (Some c) init) h = ap (λ (q : Place). latch edge (Some q) init) h.0
kind_fixed f port h = refl

statements_fixed : (f : Place → Place) (ss : List (FlatOf Place)) → Each (λ p. f p ≡ p) (places_in ss) → map (named_statement f) ss ≡ ss
statements_fixed f [] h = refl
statements_fixed f (s ∷ ss) h =
    let own = each_left (λ p. f p ≡ p) (s.out ∷ (s.reads ++ clocks_of s.kind)) (places_in ss) h in
    let one : named_statement f s ≡ s =
    ap (λ (x : Place). record { out = x; reads = map f s.reads; kind = named_kind f s.kind }) own.0
    ∙ ap (λ (xs : List Place). record { out = s.out; reads = xs; kind = named_kind f s.kind }) (map_fixed f s.reads (each_left (λ p. f p ≡ p) s.reads (clocks_of s.kind) own.1))
    ∙ ap (λ (k : Kind Place). record { out = s.out; reads = s.reads; kind = k }) (kind_fixed f s.kind (each_right (λ p. f p ≡ p) s.reads (clocks_of s.kind) own.1)) in
    ap₂ (λ (x : FlatOf Place) (xs : List (FlatOf Place)). x ∷ xs) one (statements_fixed f ss (each_right (λ p. f p ≡ p) (s.out ∷ (s.reads ++ clocks_of s.kind)) (places_in ss) h))

design_fixed : (f : Place → Place) (d : FlatDesign Place) → Each (λ p. f p ≡ p) (design_places d) → named f d ≡ d
design_fixed f d h =
    let rest = each_right (λ p. f p ≡ p) d.inputs (d.clocks ++ (d.outputs ++ places_in d.statements)) h in
    let last = each_right (λ p. f p ≡ p) d.clocks (d.outputs ++ places_in d.statements) rest in
    ap₂ (λ (xs ys : List Place). record { inputs = xs; clocks = ys; outputs = map f d.outputs; statements = map (named_statement f) d.statements })
    (map_fixed f d.inputs (each_left (λ p. f p ≡ p) d.inputs (d.clocks ++ (d.outputs ++ places_in d.statements)) h)) (map_fixed f d.clocks (each_left (λ p. f p ≡ p) d.clocks (d.outputs ++ places_in d.statements) rest))
    ∙ ap₂ (λ (xs : List Place) (ss : List (FlatOf Place)). record { inputs = d.inputs; clocks = d.clocks; outputs = xs; statements = ss })
    (map_fixed f d.outputs (each_left (λ p. f p ≡ p) d.outputs (places_in d.statements) last)) (statements_fixed f d.statements (each_right (λ p. f p ≡ p) d.outputs (places_in d.statements) last))

-- names of names
named_twice : {P Q R : Type 0} (g : Q → R) (f : P → Q) (d : FlatDesign P) → named g (named f d) ≡ named (λ x. g (f x)) d
named_twice {P} {Q} {R} g f d =
    ap₂ (λ (xs ys : List R). record { inputs = xs; clocks = ys; outputs = map g (map f d.outputs); statements = map (named_statement g) (map (named_statement f) d.statements) }) (map-map g f d.inputs) (map-map g f d.clocks)
    ∙ ap₂ (λ (xs : List R) (ss : List (FlatOf R)). record { inputs = map (λ x. g (f x)) d.inputs; clocks = map (λ x. g (f x)) d.clocks; outputs = xs; statements = ss }) (map-map g f d.outputs) (all d.statements)
  where
    kind_twice : (k : Kind P) → named_kind g (named_kind f k) ≡ named_kind (λ x. g (f x)) k
    kind_twice (gate cover) = refl
    kind_twice (latch edge None init) = refl
    kind_twice (latch edge (Some c) init) = refl
    kind_twice port = refl

    all : (ss : List (FlatOf P)) → map (named_statement g) (map (named_statement f) ss) ≡ map (named_statement (λ x. g (f x))) ss
    all [] = refl
    all (s ∷ ss) = ap₂ (λ (x : FlatOf R) (xs : List (FlatOf R)). x ∷ xs) (ap₂ (λ (rs : List R) (k : Kind R). record { out = g (f s.out); reads = rs; kind = k }) (map-map g f s.reads) (kind_twice s.kind)) (all ss)

-- the place of a number
abbrev pub origin_in : List BlifModel → Flat → ℕ → Place
origin_in models flat n = place_named (design_places (placed_design models)) (name_at flat.names n)

-- the number of a place
abbrev pub number_in : Flat → Place → ℕ
number_in flat p = index_of flat.names (name_of p)

-- numbered statements whose names are the design's are the design's by their places
pub placed_is : (models : List BlifModel) (flat : Flat) → Each IsPlainPlace (design_places (placed_design models)) → named (name_at flat.names) (view_of models flat) ≡ flat_design_of models → named (origin_in models flat) (view_of models flat) ≡ placed_design models
placed_is models flat plain same =
    let places : List Place = design_places (placed_design models) in
    sym (named_twice (place_named places) (name_at flat.names) (view_of models flat))
    ∙ ap (named (place_named places)) same
    ∙ named_twice (place_named places) name_of (placed_design models)
    ∙ design_fixed (λ p. place_named places (name_of p)) (placed_design models) (fixed_all places places (λ p h. h) plain plain)

places_good : (ss : List (FlatOf Place)) → Each IsGood ss → Each IsPlainPlace (places_in ss)
places_good [] h = tt
places_good (s ∷ ss) h = each_append IsPlainPlace (s.out ∷ (s.reads ++ clocks_of s.kind)) (places_in ss) (h.0.out, each_append IsPlainPlace s.reads (clocks_of s.kind) h.0.reads (clock s.kind h.0.clock)) (places_good ss h.1)
  where
    clock : (k : Kind Place) → IsPlainClock k → Each IsPlainPlace (clocks_of k)
    clock (gate cover) c = tt
    clock (latch edge None init) c = tt
    clock (latch edge (Some p) init) c = (c, tt)
    clock port c = tt

-- the places of a good design are plain
pub places_plain : (models : List BlifModel) → Each IsGoodModel models → Each IsPlainPlace (design_places (placed_design models))
places_plain [] each = tt
places_plain (m ∷ ms) each =
    let d : FlatDesign Place = placed_design (m ∷ ms) in
    each_append IsPlainPlace d.inputs (d.clocks ++ (d.outputs ++ places_in d.statements)) (plain_top m.inputs each.0.inputs)
    (each_append IsPlainPlace d.clocks (d.outputs ++ places_in d.statements) (plain_top m.clocks each.0.clocks)
    (each_append IsPlainPlace d.outputs (places_in d.statements) (plain_top m.outputs each.0.outputs) (places_good d.statements (good_main (m ∷ ms) each))))

-- the equations of a design are those of its flat statements
item_equation : (item : Item) → option_map (equation_in name_of) (flat_of item) ≡ equation_of item
item_equation (At path (Names line fanins out cover)) = refl
item_equation (At path (Latch line input output edge control init)) = refl
item_equation (At path (Subckt line name pairs)) = refl
item_equation (Enter path inner m name pairs) = refl
item_equation (Pairing outer inner m pair) = by (is_input_formal m pair.formal)
  where
    by : (b : Bool) → option_map (equation_in name_of) (Some (flat_port b (place_at outer pair.actual) (place_at inner pair.formal))) ≡ Some (port_of b (place_at outer pair.actual) (place_at inner pair.formal))
    by true = refl
    by false = refl

design_equations : (items : List Item) → map (equation_in name_of) (filter_map flat_of items) ≡ filter_map equation_of items
design_equations [] = refl
design_equations (item ∷ items) = by (flat_of item) ∙ ap₂ (λ (o : Option (Equation Place)) (xs : List (Equation Place)). cons_option o xs) (item_equation item) (design_equations items)
  where
    by : (o : Option (FlatOf Place)) → map (equation_in name_of) (cons_option o (filter_map flat_of items)) ≡ cons_option (option_map (equation_in name_of) o) (map (equation_in name_of) (filter_map flat_of items))
    by None = refl
    by (Some s) = refl

module _ (names : List (List ℕ)) (origin : ℕ → Place) (is : (n : ℕ) → name_of (origin n) ≡ name_at names n) where
  moved_equation : (out : ℕ) (reads : List ℕ) (k : Kind ℕ) → moved origin (equation_by (name_at names) out reads k) ≡ equation_by name_of (origin out) (map origin reads) (named_kind origin k)
  moved_equation out reads (gate cover) = refl
  moved_equation out [] (latch edge control init) = ap (λ (n : List ℕ). Register n (origin out) (origin out)) (sym (is out))
  moved_equation out (x ∷ reads) (latch edge control init) = ap (λ (n : List ℕ). Register n (origin out) (origin x)) (sym (is out))
  moved_equation out [] port = refl
  moved_equation out (x ∷ reads) port = refl

  moved_equations : (ss : List (FlatOf ℕ)) → map (moved origin) (map (equation_in (name_at names)) ss) ≡ map (equation_in name_of) (map (named_statement origin) ss)
  moved_equations [] = refl
  moved_equations (s ∷ ss) = ap₂ (λ (e : Equation Place) (es : List (Equation Place)). e ∷ es) (moved_equation s.out s.reads s.kind) (moved_equations ss)

  name_here : (n : ℕ) (x : List ℕ) → origin n ≡ top x → name_at names n ≡ x
  name_here n x e = sym (is n) ∙ ap name_of e

  moved_outputs : (ns : List ℕ) (mains : List (List ℕ)) → map origin ns ≡ map top mains → map (moved_name origin) (map (named_at (name_at names)) ns) ≡ map at_top mains
  moved_outputs [] [] h = refl
  moved_outputs [] (x ∷ mains) h = absurd (cc)
  moved_outputs (n ∷ ns) [] h = absurd (cc)
  moved_outputs (n ∷ ns) (x ∷ mains) h =
      let first : origin n ≡ top x = cc in
      let rest : map origin ns ≡ map top mains = cc in
      ap₂ (λ (y : Named Place) (ys : List (Named Place)). y ∷ ys) (ap₂ (λ (m : List ℕ) (p : Place). record { name = m; place = p }) (name_here n x first) first) (moved_outputs ns mains rest)

  moved_inputs : (a : ℕ → Bool) (b : List ℕ → Bool) (ns : List ℕ) (mains : List (List ℕ)) → Each (λ n. a n ≡ b (name_at names n)) ns → map origin ns ≡ map top mains →
      map (moved_name origin) (map (named_at (name_at names)) (filter a ns)) ≡ map at_top (filter b mains)
  moved_inputs a b [] [] same h = refl
  moved_inputs a b [] (x ∷ mains) same h = absurd (cc)
  moved_inputs a b (n ∷ ns) [] same h = absurd (cc)
  moved_inputs a b (n ∷ ns) (x ∷ mains) same h = by (moved_inputs a b ns mains same.1 (let rest : map origin ns ≡ map top mains = cc in rest)) (a n) (b x) (same.0 ∙ ap b (name_here n x first))
    where
      first : origin n ≡ top x
      first = cc

      by : map (moved_name origin) (map (named_at (name_at names)) (filter a ns)) ≡ map at_top (filter b mains) → (c d : Bool) → c ≡ d → map (moved_name origin) (map (named_at (name_at names)) (cond c (n ∷ filter a ns) (filter a ns))) ≡ map at_top (cond d (x ∷ filter b mains) (filter b mains))
      by rest true true e = ap₂ (λ (y : Named Place) (ys : List (Named Place)). y ∷ ys) (ap₂ (λ (m : List ℕ) (p : Place). record { name = m; place = p }) (name_here n x first) first) rest
      by rest true false e = absurd (true≢false e)
      by rest false true e = absurd (true≢false (sym e))
      by rest false false e = rest

-- the clock's number is one of a name
abbrev pub IsNumber : ℕ → Option ℕ → Type 0
IsNumber size None = Unit {0}
IsNumber size (Some c) = c < size

is_clock_number : (names : List (List ℕ)) (clock : Option ℕ) (n : ℕ) → AreDistinct names → IsNumber (length names) clock → n < length names → not (is_number clock n) ≡ not (is_clock (option_map (name_at names) clock) (name_at names n))
is_clock_number names None n d within room = refl
is_clock_number names (Some c) n d within room = ap not (bool_same (c == n) (bytes_eq (name_at names c) (name_at names n)) there back)
  where
    there : (c == n) ≡ true → bytes_eq (name_at names c) (name_at names n) ≡ true
    there e = (bytes_eq-Decides (name_at names c) (name_at names n)).1 (ap (name_at names) (eqb-true c n e))

    back : bytes_eq (name_at names c) (name_at names n) ≡ true → (c == n) ≡ true
    back e =
        let x = some_at names c within in
        let y = some_at names n room in
        let same : x.0 ≡ y.0 = sym (name_is names c x.0 x.1) ∙ (bytes_eq-Decides (name_at names c) (name_at names n)).0 e ∙ name_is names n y.0 y.1 in
        eq-eqb c n (d c n x.0 x.1 (y.1 ∙ ap Some (sym same)))

all_numbers : (names : List (List ℕ)) (clock : Option ℕ) (ns : List ℕ) → AreDistinct names → IsNumber (length names) clock → Each (λ n. n < length names) ns → Each (λ n. not (is_number clock n) ≡ not (is_clock (option_map (name_at names) clock) (name_at names n))) ns
all_numbers names clock [] d within h = tt
all_numbers names clock (n ∷ ns) d within h = (is_clock_number names clock n d within h.0, all_numbers names clock ns d within h.1)

each_read : (size : ℕ) (ns : List ℕ) → list_all (λ n. nat_lt n size) ns ≡ true → (f : ℕ) → Contains ns f → f < size
each_read size ns h f there = All-contains (λ n. n < size) ns f (all ns h) there
  where
    all : (xs : List ℕ) → list_all (λ n. nat_lt n size) xs ≡ true → All (λ n. n < size) xs
    all [] h = All-nil (λ n. n < size)
    all (x ∷ xs) h = let parts = and_parts (nat_lt x size) (list_all (λ n. nat_lt n size) xs) h in All-cons (λ n. n < size) x xs (ltb-true x size parts.0) (all xs parts.1)

below_one : (size : ℕ) (models : List BlifModel) (name : ℕ → List ℕ) (out : ℕ) (reads : List ℕ) (k : FlatKind) → out < size → list_all (λ n. nat_lt n size) reads ≡ true → IsBelow size (equation_by name out reads (kind_of models k))
below_one size models name out reads (flat_kind.Gate model at) low h = (low, each_read size reads h)
below_one size models name out [] (flat_kind.Latch edge control init) low h = (low, low)
below_one size models name out (x ∷ reads) (flat_kind.Latch edge control init) low h = (low, ltb-true x size (and_parts (nat_lt x size) (list_all (λ n. nat_lt n size) reads) h).0)
below_one size models name out [] flat_kind.Port low h = (low, low)
below_one size models name out (x ∷ reads) flat_kind.Port low h = (low, ltb-true x size (and_parts (nat_lt x size) (list_all (λ n. nat_lt n size) reads) h).0)

below_all : (size : ℕ) (models : List BlifModel) (name : ℕ → List ℕ) (ss : List FlatStatement) → list_all (is_within size) ss ≡ true → All (IsBelow size) (map (equation_in name) (map (statement_of models) ss))
below_all size models name [] h = All-nil (IsBelow size)
below_all size models name (s ∷ ss) h =
    let parts = and_parts (is_within size s) (list_all (is_within size) ss) h in
    let out = and_parts (nat_lt s.out size) (list_all (λ n. nat_lt n size) s.reads && has_clock_within size s.kind) parts.0 in
    let reads = and_parts (list_all (λ n. nat_lt n size) s.reads) (has_clock_within size s.kind) out.1 in
    All-cons (IsBelow size) (equation_in name (statement_of models s)) (map (equation_in name) (map (statement_of models) ss)) (below_one size models name s.out s.reads s.kind (ltb-true s.out size out.0) reads.0) (below_all size models name ss parts.1)

named_below : (size : ℕ) (name : ℕ → List ℕ) (ns : List ℕ) → Each (λ n. n < size) ns → All (λ (i : Named ℕ). i.place < size) (map (named_at name) ns)
named_below size name [] h = All-nil (λ (i : Named ℕ). i.place < size)
named_below size name (n ∷ ns) h = All-cons (λ (i : Named ℕ). i.place < size) (named_at name n) (map (named_at name) ns) h.0 (named_below size name ns h.1)

-- the design's circuit is that of the numbered flat statements, renamed
pub flat_is_renaming : (models : List BlifModel) (flat : Flat) (clock : Option ℕ) → list_all is_plain (written_names models) ≡ true → list_all covers_fit models ≡ true → length (written_names models) ≤ 16777216 → IsWalked models flat → IsNumber (length flat.names) clock →
    IsRenaming (circuit_of_design models (option_map (name_at flat.names) clock)) (circuit_of_flat flat.names (view_of models flat) clock) (length flat.names) (origin_in models flat) (number_in flat)
unfolding circuit_of_design
flat_is_renaming models flat clock plain fits few walked within =
    let origin : ℕ → Place = origin_in models flat in
    let is : (n : ℕ) → name_of (origin n) ≡ name_at flat.names n = λ n. place_named_is (design_places (placed_design models)) (name_at flat.names n) in
    let placed : named origin (view_of models flat) ≡ placed_design models = placed_is models flat (places_plain models (good_models models plain fits few)) walked.same in
    let low : Each (λ n. n < length flat.names) flat.inputs = each_all (λ n. n < length flat.names) flat.inputs flat.inputs_within in
    record {
      inputs = moved_inputs flat.names origin is (λ n. not (is_number clock n)) (λ n. not (is_clock (option_map (name_at flat.names) clock) n)) flat.inputs (main_inputs models)
          (all_numbers flat.names clock flat.inputs flat.distinct within low) (ap (λ (d : FlatDesign Place). d.inputs) placed);
      outputs = moved_outputs flat.names origin is flat.outputs (main_outputs models) (ap (λ (d : FlatDesign Place). d.outputs) placed);
      equations = moved_equations flat.names origin is (map (statement_of models) flat.statements) ∙ ap (map (equation_in name_of)) (ap (λ (d : FlatDesign Place). d.statements) placed) ∙ design_equations (main_walk models);
      below = below_all (length flat.names) models (name_at flat.names) flat.statements flat.within;
      inputs_below = named_below (length flat.names) (name_at flat.names) (filter (λ n. not (is_number clock n)) flat.inputs) (each_filter (λ n. n < length flat.names) (λ n. not (is_number clock n)) flat.inputs low);
      outputs_below = named_below (length flat.names) (name_at flat.names) flat.outputs (each_all (λ n. n < length flat.names) flat.outputs flat.outputs_within);
      back = λ s h. let x = some_at flat.names s h in index_is flat.names s (name_of (origin s)) flat.distinct (x.1 ∙ ap Some (sym (is s ∙ name_is flat.names s x.0 x.1)));
    }
