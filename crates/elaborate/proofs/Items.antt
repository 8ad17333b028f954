-- What is true of each visit of the walk over a design.
use Rattle.std.proofs.Common.{◌≡◌, ℕ, ◌+◌, ◌*◌, ◌^◌, ◌<◌, ◌≤◌, ◌==◌, ◌&&◌, Bool, true, false, cond, List, [], ◌∷◌, ◌++◌, map, length, sum_by, filter_map, bytes_eq, refl, sym, ◌∙◌, ap, ap₂, subst, Option, Some, None, length-append, arith, zero, suc, eqb-true}
use Rattle.std.specs.List.{list_all, cons_option}
use Rattle.std.proofs.lemmas.Bool.{and_parts}
use Rattle.std.proofs.lemmas.List.Elements.{filter_map-append}
use Rattle.std.proofs.lemmas.List.Sums.{sum_by-cons, sum_by-append}
use Rattle.circuit_theory.specs.Cover.{Cover}
use Rattle.blif_read.specs.declared.design.BlifModel.{BlifModel}
use Rattle.blif_read.specs.declared.design.Pair.{Pair}
use Rattle.blif_read.specs.declared.design.Statement.{Statement}
use Rattle.blif_read.specs.declared.design.Statement.TheVariants.{Names, Latch, Subckt}
use Rattle.blif_read.specs.Kept.{names_in, names_in_option, names_in_pairs, names_in_all, names_in_model, written_names, is_plain, cover_fits, covers_fit}
use Rattle.blif_read.specs.Design.{Inside, Place, Item, At, Enter, Pairing, place_at, top, is_input_formal, control_at, step_into, model_named, entered, visited, walk, main_walk}
use Rattle.blif_read.proofs.Each.{Each, each_append}
use Rattle.elaborate.specs.Flat.{FlatOf, Kind, gate, latch, port, flat_port, flat_of, IsShaped}
use Rattle.elaborate.specs.Walking.{statements_in, places_in}

-- the places of a flat statement: at how many it writes a signal's name
abbrev pub clock_count : {P : Type 0} → Kind P → ℕ
clock_count (gate cover) = 0
clock_count (latch edge None init) = 0
clock_count (latch edge (Some c) init) = 1
clock_count port = 0

abbrev pub place_count : {P : Type 0} → FlatOf P → ℕ
place_count s = length s.reads + 1 + clock_count s.kind

-- what is counted covers the flat statements
pub record Few (items : List Item) : Type 0 where
  pub few : length (filter_map flat_of items) ≤ sum_by statements_in items
  pub few_places : sum_by place_count (filter_map flat_of items) ≤ sum_by places_in items

few_none : Few []
few_none = record { few = omega arith; few_places = omega arith }

few_append : (xs ys : List Item) → Few xs → Few ys → Few (xs ++ ys)
few_append xs ys a b = record {
  few = (let flats : length (filter_map flat_of (xs ++ ys)) ≡ length (filter_map flat_of xs) + length (filter_map flat_of ys) = ap length (filter_map-append flat_of xs ys) ∙ length-append (filter_map flat_of xs) (filter_map flat_of ys) in
      omega (arith, flats, sum_by-append statements_in xs ys, a.few, b.few));
  few_places = (let flats : sum_by place_count (filter_map flat_of (xs ++ ys)) ≡ sum_by place_count (filter_map flat_of xs) + sum_by place_count (filter_map flat_of ys) =
      ap (sum_by place_count) (filter_map-append flat_of xs ys) ∙ sum_by-append place_count (filter_map flat_of xs) (filter_map flat_of ys) in
      omega (arith, flats, sum_by-append places_in xs ys, a.few_places, b.few_places));
}

map_length : {X Y : Type 0} (f : X → Y) (xs : List X) → length (map f xs) ≡ length xs
map_length f [] = refl
map_length f (x ∷ xs) = ap suc (map_length f xs)

few_gate : (path : List Inside) (line : ℕ) (fanins : List (List ℕ)) (out : List ℕ) (cover : Cover) → Few (At path (Names line fanins out cover) ∷ [])
few_gate path line fanins out cover = record { few = omega arith; few_places = omega (arith, map_length (place_at path) fanins, length-append fanins (out ∷ [])) }

few_latch : (path : List Inside) (s : Statement) → ((line : ℕ) (fanins : List (List ℕ)) (out : List ℕ) (cover : Cover) → s ≡ Names line fanins out cover → ⊥) → Few (At path s ∷ [])
few_latch path (Names line fanins out cover) not_gate = absurd (not_gate line fanins out cover refl)
few_latch path (Latch line input output edge None init) not_gate = record { few = omega arith; few_places = omega arith }
few_latch path (Latch line input output edge (Some control) init) not_gate = record { few = omega arith; few_places = omega arith }
few_latch path (Subckt line name pairs) not_gate = record { few = omega arith; few_places = omega arith }

few_pairs : (path inner : List Inside) (m : Option BlifModel) (pairs : List Pair) →
    (length (filter_map flat_of (map (Pairing path inner m) pairs)) ≡ length pairs) × (sum_by place_count (filter_map flat_of (map (Pairing path inner m) pairs)) ≡ 2 * length pairs) × (sum_by statements_in (map (Pairing path inner m) pairs) ≡ 0) × (sum_by places_in (map (Pairing path inner m) pairs) ≡ 0)
few_pairs path inner m [] = (refl, refl, refl, refl)
few_pairs path inner m (p ∷ pairs) =
    let rest = few_pairs path inner m pairs in
    let flat : FlatOf Place = flat_port (is_input_formal m p.formal) (place_at path p.actual) (place_at inner p.formal) in
    let flats : List (FlatOf Place) = filter_map flat_of (map (Pairing path inner m) pairs) in (
      ap suc rest.0,
      (let two : place_count flat ≡ 2 = two_places (is_input_formal m p.formal) (place_at path p.actual) (place_at inner p.formal) in omega (arith, sum_by-cons place_count flat flats, two, rest.1)),
      (let more = sum_by-cons statements_in (Pairing path inner m p) (map (Pairing path inner m) pairs) in omega (arith, more, rest.2)),
      (let more = sum_by-cons places_in (Pairing path inner m p) (map (Pairing path inner m) pairs) in omega (arith, more, rest.3)),
    )
  where
    two_places : (b : Bool) (x y : Place) → place_count (flat_port b x y) ≡ 2
    two_places true x y = refl
    two_places false x y = refl

few_instance : (path inner : List Inside) (m : Option BlifModel) (name : List ℕ) (pairs : List Pair) → Few (Enter path inner m name pairs ∷ map (Pairing path inner m) pairs)
few_instance path inner m name pairs =
    let rest = few_pairs path inner m pairs in
    record {
      few = omega (arith, rest.0, sum_by-cons statements_in (Enter path inner m name pairs) (map (Pairing path inner m) pairs));
      few_places = omega (arith, rest.1, sum_by-cons places_in (Enter path inner m name pairs) (map (Pairing path inner m) pairs));
    }

few_entered : (within : List Inside → BlifModel → List Item) → ((path : List Inside) (m : BlifModel) → Few (within path m)) → (m : Option BlifModel) (path : List Inside) → Few (entered within m path)
few_entered within each None path = few_none
few_entered within each (Some m) path = each path m

few_visited : (within : List Inside → BlifModel → List Item) (models : List BlifModel) → ((path : List Inside) (m : BlifModel) → Few (within path m)) → (path : List Inside) (k : ℕ) (ss : List Statement) → Few (visited within models path k ss)
few_visited within models each path k [] = few_none
few_visited within models each path k (Names line fanins out cover ∷ ss) =
    few_append (At path (Names line fanins out cover) ∷ []) (visited within models path k ss) (few_gate path line fanins out cover) (few_visited within models each path k ss)
few_visited within models each path k (Latch line input output edge control init ∷ ss) =
    few_append (At path (Latch line input output edge control init) ∷ []) (visited within models path k ss) (few_latch path (Latch line input output edge control init) (λ l f o c e. absurd (cc))) (few_visited within models each path k ss)
few_visited within models each path k (Subckt line name pairs ∷ ss) =
    let inner : List Inside = step_into path name k in
    few_append (Enter path inner (model_named models name) name pairs ∷ map (Pairing path inner (model_named models name)) pairs) (entered within (model_named models name) inner ++ visited within models path (k + 1) ss)
    (few_instance path inner (model_named models name) name pairs)
    (few_append (entered within (model_named models name) inner) (visited within models path (k + 1) ss) (few_entered within each (model_named models name) inner) (few_visited within models each path (k + 1) ss))

pub few_walk : (levels : ℕ) (models : List BlifModel) (path : List Inside) (m : BlifModel) → Few (walk levels models path m)
unfolding walk
few_walk zero models path m = few_none
few_walk (suc levels) models path m = few_visited (walk levels models) models (few_walk levels models) path 0 m.statements

pub few_main : (models : List BlifModel) → Few (main_walk models)
few_main [] = few_none
few_main (m ∷ ms) = few_walk 64 (m ∷ ms) [] m

-- no model name on the path holds `#`, and instances are numbered in 64 bits
abbrev pub IsPlainStep : Inside → Type 0
IsPlainStep s = (is_plain s.model ≡ true) × (s.instance < 2 ^ 64)

abbrev pub IsPlainPlace : Place → Type 0
IsPlainPlace p = Each IsPlainStep p.path × (is_plain p.name ≡ true)

abbrev pub IsPlainClock : Kind Place → Type 0
IsPlainClock (gate cover) = Unit {0}
IsPlainClock (latch edge None init) = Unit {0}
IsPlainClock (latch edge (Some c) init) = IsPlainPlace c
IsPlainClock port = Unit {0}

-- a flat statement over plain places, whose cover fits
pub record IsGood (s : FlatOf Place) : Type 0 where
  pub shaped : IsShaped s
  pub out : IsPlainPlace s.out
  pub reads : Each IsPlainPlace s.reads
  pub clock : IsPlainClock s.kind

abbrev pub IfFlat : Option (FlatOf Place) → Type 0
IfFlat None = Unit {0}
IfFlat (Some s) = IsGood s

abbrev pub IsGoodItem : Item → Type 0
IsGoodItem item = IfFlat (flat_of item)

pub good_flats : (items : List Item) → Each IsGoodItem items → Each IsGood (filter_map flat_of items)
good_flats [] h = tt
good_flats (item ∷ items) h = by (good_flats items h.1) (flat_of item) h.0
  where
    by : Each IsGood (filter_map flat_of items) → (o : Option (FlatOf Place)) → IfFlat o → Each IsGood (cons_option o (filter_map flat_of items))
    by rest None k = rest
    by rest (Some s) k = (k, rest)

-- each name of a list is plain
pub plain_left : (xs ys : List (List ℕ)) → list_all is_plain (xs ++ ys) ≡ true → list_all is_plain xs ≡ true
plain_left [] ys h = refl
plain_left (x ∷ xs) ys h = let parts = and_parts (is_plain x) (list_all is_plain (xs ++ ys)) h in ap₂ (λ a b. a && b) parts.0 (plain_left xs ys parts.1)

pub plain_right : (xs ys : List (List ℕ)) → list_all is_plain (xs ++ ys) ≡ true → list_all is_plain ys ≡ true
plain_right [] ys h = h
plain_right (x ∷ xs) ys h = plain_right xs ys (and_parts (is_plain x) (list_all is_plain (xs ++ ys)) h).1

-- what a good model keeps
pub record IsGoodModel (m : BlifModel) : Type 0 where
  pub name : is_plain m.name ≡ true
  pub inputs : list_all is_plain m.inputs ≡ true
  pub outputs : list_all is_plain m.outputs ≡ true
  pub clocks : list_all is_plain m.clocks ≡ true
  pub statements : list_all is_plain (names_in_all m.statements) ≡ true
  pub fits : list_all cover_fits m.statements ≡ true
  pub few : length m.statements ≤ 16777216

names_cover : (ss : List Statement) → length ss ≤ length (names_in_all ss)
names_cover [] = omega arith
names_cover (s ∷ ss) = let one : 0 < length (names_in s) = some s in omega (arith, one, names_cover ss, length-append (names_in s) (names_in_all ss))
  where
    some : (s : Statement) → 0 < length (names_in s)
    some (Names line fanins out cover) = omega (arith, length-append fanins (out ∷ []))
    some (Latch line input output edge control init) = omega arith
    some (Subckt line name pairs) = omega arith

pub good_models : (models : List BlifModel) → list_all is_plain (written_names models) ≡ true → list_all covers_fit models ≡ true → length (written_names models) ≤ 16777216 → Each IsGoodModel models
good_models [] plain fits few = tt
good_models (m ∷ ms) plain fits few =
    let own = plain_left (names_in_model m) (written_names ms) plain in
    let parts = and_parts (is_plain m.name) (list_all is_plain (m.inputs ++ (m.outputs ++ (m.clocks ++ names_in_all m.statements)))) own in
    let ins = plain_right m.inputs (m.outputs ++ (m.clocks ++ names_in_all m.statements)) parts.1 in
    let outs = plain_right m.outputs (m.clocks ++ names_in_all m.statements) ins in
    let fit = and_parts (covers_fit m) (list_all covers_fit ms) fits in
    let whole : length (written_names (m ∷ ms)) ≡ length (names_in_model m) + length (written_names ms) = length-append (names_in_model m) (written_names ms) in
    let one : length (names_in_all m.statements) ≤ length (names_in_model m) =
    omega (arith, length-append m.inputs (m.outputs ++ (m.clocks ++ names_in_all m.statements)), length-append m.outputs (m.clocks ++ names_in_all m.statements), length-append m.clocks (names_in_all m.statements)) in (
      record {
        name = parts.0;
        inputs = plain_left m.inputs (m.outputs ++ (m.clocks ++ names_in_all m.statements)) parts.1;
        outputs = plain_left m.outputs (m.clocks ++ names_in_all m.statements) ins;
        clocks = plain_left m.clocks (names_in_all m.statements) outs;
        statements = plain_right m.clocks (names_in_all m.statements) outs;
        fits = fit.0;
        few = omega (arith, names_cover m.statements, one, whole, few);
      },
      good_models ms (plain_right (names_in_model m) (written_names ms) plain) fit.1 (omega (arith, whole, few)),
    )

pub good_named : (models : List BlifModel) (name : List ℕ) (m : BlifModel) → Each IsGoodModel models → model_named models name ≡ Some m → IsGoodModel m
good_named [] name m h e = absurd (cc)
good_named (x ∷ xs) name m h e = by (good_named xs name m h.1) (bytes_eq name x.name) e
  where
    by : (model_named xs name ≡ Some m → IsGoodModel m) → (b : Bool) → cond b (Some x) (model_named xs name) ≡ Some m → IsGoodModel m
    by rest true k = let same : x ≡ m = cc in subst IsGoodModel same h.0
    by rest false k = rest k

plain_places : (path : List Inside) (names : List (List ℕ)) → Each IsPlainStep path → list_all is_plain names ≡ true → Each IsPlainPlace (map (place_at path) names)
plain_places path [] steps h = tt
plain_places path (n ∷ ns) steps h = let parts = and_parts (is_plain n) (list_all is_plain ns) h in ((steps, parts.0), plain_places path ns steps parts.1)

good_pairs : (path inner : List Inside) (m : Option BlifModel) (pairs : List Pair) → Each IsPlainStep path → Each IsPlainStep inner → list_all is_plain (names_in_pairs pairs) ≡ true → Each IsGoodItem (map (Pairing path inner m) pairs)
good_pairs path inner m [] outside inside h = tt
good_pairs path inner m (p ∷ pairs) outside inside h =
    let formal = and_parts (is_plain p.formal) (list_all is_plain (p.actual ∷ names_in_pairs pairs)) h in
    let actual = and_parts (is_plain p.actual) (list_all is_plain (names_in_pairs pairs)) formal.1 in
    (good (is_input_formal m p.formal) (place_at path p.actual) (place_at inner p.formal) (outside, actual.0) (inside, formal.0), good_pairs path inner m pairs outside inside actual.1)
  where
    good : (b : Bool) (x y : Place) → IsPlainPlace x → IsPlainPlace y → IsGood (flat_port b x y)
    good true x y hx hy = record { shaped = refl; out = hy; reads = (hx, tt); clock = tt }
    good false x y hx hy = record { shaped = refl; out = hx; reads = (hy, tt); clock = tt }

module _ (models : List BlifModel) (each : Each IsGoodModel models) where
  good_entered : (within : List Inside → BlifModel → List Item) → ((path : List Inside) (m : BlifModel) → IsGoodModel m → Each IsPlainStep path → Each IsGoodItem (within path m)) →
      (m : Option BlifModel) (name : List ℕ) (path : List Inside) → model_named models name ≡ m → Each IsPlainStep path → Each IsGoodItem (entered within m path)
  good_entered within inside None name path is steps = tt
  good_entered within inside (Some m) name path is steps = inside path m (good_named models name m each is) steps

  good_visited : (within : List Inside → BlifModel → List Item) → ((path : List Inside) (m : BlifModel) → IsGoodModel m → Each IsPlainStep path → Each IsGoodItem (within path m)) →
      (path : List Inside) (k : ℕ) (ss : List Statement) → Each IsPlainStep path → k + length ss ≤ 16777216 → list_all is_plain (names_in_all ss) ≡ true → list_all cover_fits ss ≡ true → Each IsGoodItem (visited within models path k ss)
  good_visited within inside path k [] steps few plain fits = tt
  good_visited within inside path k (Names line fanins out cover ∷ ss) steps few plain fits =
      let own = plain_left (fanins ++ out ∷ []) (names_in_all ss) plain in
      let fit = and_parts (cover.width == length fanins) (list_all cover_fits ss) fits in (
        record {
          shaped = eqb-true cover.width (length fanins) fit.0 ∙ sym (map_length (place_at path) fanins);
          out = (steps, (and_parts (is_plain out) true (plain_right fanins (out ∷ []) own)).0);
          reads = plain_places path fanins steps (plain_left fanins (out ∷ []) own);
          clock = tt;
        },
        good_visited within inside path k ss steps (omega (arith, few)) (plain_right (fanins ++ out ∷ []) (names_in_all ss) plain) fit.1,
      )
  good_visited within inside path k (Latch line input output edge control init ∷ ss) steps few plain fits =
      let own = plain_left (input ∷ output ∷ names_in_option control) (names_in_all ss) plain in
      let first = and_parts (is_plain input) (list_all is_plain (output ∷ names_in_option control)) own in
      let second = and_parts (is_plain output) (list_all is_plain (names_in_option control)) first.1 in (
        record { shaped = refl; out = (steps, second.0); reads = ((steps, first.0), tt); clock = the_clock control second.1 },
        good_visited within inside path k ss steps (omega (arith, few)) (plain_right (input ∷ output ∷ names_in_option control) (names_in_all ss) plain) (and_parts true (list_all cover_fits ss) fits).1,
      )
    where
      the_clock : (c : Option (List ℕ)) → list_all is_plain (names_in_option c) ≡ true → IsPlainClock (latch edge (control_at path c) init)
      the_clock None h = tt
      the_clock (Some c) h = (steps, (and_parts (is_plain c) true h).0)
  good_visited within inside path k (Subckt line name pairs ∷ ss) steps few plain fits =
      let own = plain_left (name ∷ names_in_pairs pairs) (names_in_all ss) plain in
      let first = and_parts (is_plain name) (list_all is_plain (names_in_pairs pairs)) own in
      let inner : List Inside = step_into path name k in
      let inner_steps : Each IsPlainStep inner = each_append IsPlainStep path (record { model = name; instance = k } ∷ []) steps ((first.0, omega (arith, few)), tt) in (
        tt,
        each_append IsGoodItem (map (Pairing path inner (model_named models name)) pairs) (entered within (model_named models name) inner ++ visited within models path (k + 1) ss)
            (good_pairs path inner (model_named models name) pairs steps inner_steps first.1)
            (each_append IsGoodItem (entered within (model_named models name) inner) (visited within models path (k + 1) ss)
            (good_entered within inside (model_named models name) name inner refl inner_steps)
            (good_visited within inside path (k + 1) ss steps (omega (arith, few)) (plain_right (name ∷ names_in_pairs pairs) (names_in_all ss) plain) (and_parts true (list_all cover_fits ss) fits).1)),
      )

  pub good_walk : (levels : ℕ) (path : List Inside) (m : BlifModel) → IsGoodModel m → Each IsPlainStep path → Each IsGoodItem (walk levels models path m)
  unfolding walk
  good_walk zero path m good steps = tt
  good_walk (suc levels) path m good steps = good_visited (walk levels models) (good_walk levels) path 0 m.statements steps (omega (arith, good.few)) good.statements good.fits

-- each flat statement of a good design is over plain places, and its cover fits
pub good_main : (models : List BlifModel) → Each IsGoodModel models → Each IsGood (filter_map flat_of (main_walk models))
good_main [] each = tt
good_main (m ∷ ms) each = good_flats (walk 64 (m ∷ ms) [] m) (good_walk (m ∷ ms) each 64 [] m each.0 tt)

pub plain_top : (names : List (List ℕ)) → list_all is_plain names ≡ true → Each IsPlainPlace (map top names)
plain_top [] h = tt
plain_top (n ∷ ns) h = let parts = and_parts (is_plain n) (list_all is_plain ns) h in ((tt, parts.0), plain_top ns parts.1)
