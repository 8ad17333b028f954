-- Scopes, their paths and their prefixes.
use Rattle.std.proofs.Common.{◌≡◌, ℕ, ◌+◌, ◌*◌, ◌<◌, nat_lt, ◌||◌, Bool, true, false, List, [], ◌∷◌, ◌++◌, map, length, slice_get, refl, sym, ◌∙◌, ap, ap₂, subst, Option, Some, None, Ok, Err, append_assoc, append-nil, length-append, arith, decimal, option_map}
use Rattle.std.specs.List.{list_any, All}
use Rattle.std.proofs.lemmas.List.{map-append}
use Rattle.std.proofs.lemmas.List.Elements.{All-push}
use Rattle.circuit_theory.specs.Cover.{Cover}
use Rattle.circuit_theory.specs.Interface.{◌or_else◌}
use Rattle.base_tables.specs.Table.{is_among}
use Rattle.blif_read.specs.sec_base.Edge.{Edge}
use Rattle.blif_read.specs.sec_base.Init.{Init}
use Rattle.blif_read.specs.declared.design.BlifModel.{BlifModel}
use Rattle.blif_read.specs.declared.design.Pair.{Pair}
use Rattle.blif_read.specs.declared.design.Statement.{Statement}
use Rattle.blif_read.specs.declared.design.Statement.TheVariants.{Names, Latch}
use Rattle.blif_read.specs.Kept.{model_names, names_in}
use Rattle.blif_read.specs.Design.{Inside, Item, At, Enter, place_at, name_of, flat_name, is_input_formal, control_at, step_into, model_named}
use Rattle.elaborate.specs.declared.error.FlatError.{FlatError}
use Rattle.elaborate.specs.declared.error.FlatError.TheVariants as flat_error
use Rattle.elaborate.specs.declared.scope.Step.{Step}
use Rattle.elaborate.specs.declared.scope.Scope.{Scope}
use Rattle.elaborate.specs.declared.tables.Formals.{Formals}
use Rattle.elaborate.specs.declared.walked.Walked.{Walked}
use Rattle.elaborate.specs.Flat.{FlatOf, gate, latch, named_statement, flat_port, cover_of, cover_at, statement_in}
use Rattle.elaborate.specs.Walking.{when, statements_in, places_in, is_too_many, formals_of, is_long_at, has_long, ports_fault, entry_fault, inner_fault, found_fault, item_fault}
use Rattle.elaborate.specs.Steps.{Sofar, spelled_of, after, visits}
use Rattle.elaborate.specs.Scopes.{inside_at, path_of, prefix_of, IsScope, IsInside, is_long_behind, exceeds, AreFormals, instance_at, pairs_at}
use Rattle.elaborate.specs.State.{state, spelled_in, Adds, with_flats, plain_fault, port_between, pair_between}
use Rattle.elaborate.proofs.Spelled.{name_is}
use Rattle.elaborate.proofs.Walks.{pass, stop, visits-nil, visits_one, visits_fault, visits-pairs, port_of_pair}

-- a flat name is the name behind the prefix
pub flat_name-prefix : (path : List Inside) (name : List ℕ) → flat_name path name ≡ prefix_of path ++ name
flat_name-prefix [] name = refl
flat_name-prefix (s ∷ path) name =
    ap (λ (rest : List ℕ). s.model ++ 35 ∷ (decimal s.instance ++ 35 ∷ rest)) (flat_name-prefix path name)
    ∙ ap (λ (rest : List ℕ). s.model ++ 35 ∷ rest) (sym (append_assoc (decimal s.instance) (35 ∷ prefix_of path) name))
    ∙ sym (append_assoc s.model (35 ∷ (decimal s.instance ++ 35 ∷ prefix_of path)) name)

-- the prefix one step further
prefix_step : (path : List Inside) (s : Inside) → prefix_of (path ++ s ∷ []) ≡ prefix_of path ++ (s.model ++ 35 ∷ (decimal s.instance ++ 35 ∷ []))
prefix_step [] s = refl
prefix_step (p ∷ path) s =
    ap (λ (rest : List ℕ). p.model ++ 35 ∷ (decimal p.instance ++ 35 ∷ rest)) (prefix_step path s)
    ∙ ap (λ (rest : List ℕ). p.model ++ 35 ∷ rest) (sym (append_assoc (decimal p.instance) (35 ∷ prefix_of path) (s.model ++ 35 ∷ (decimal s.instance ++ 35 ∷ []))))
    ∙ sym (append_assoc p.model (35 ∷ (decimal p.instance ++ 35 ∷ prefix_of path)) (s.model ++ 35 ∷ (decimal s.instance ++ 35 ∷ [])))

pub long_at : (path : List Inside) (name : List ℕ) → is_long_at path name ≡ is_long_behind (length (prefix_of path)) name
long_at path name = ap (λ (n : ℕ). nat_lt 4096 n) (ap length (flat_name-prefix path name) ∙ length-append (prefix_of path) name)

pub any_same : {X : Type 0} (p q : X → Bool) (xs : List X) → ((x : X) → p x ≡ q x) → list_any p xs ≡ list_any q xs
any_same p q [] h = refl
any_same p q (x ∷ xs) h = ap₂ (λ a b. a || b) (h x) (any_same p q xs h)

-- the scope of an instance
pub inside_made : (models : List BlifModel) (outer inner : Scope) (k instance : ℕ) (name : List ℕ) → IsScope models outer → slice_get (model_names models) k ≡ Some name → model_named models name ≡ slice_get models k → k < length models → length outer.steps.items < 63 →
    inner.steps.items ≡ outer.steps.items ++ record { model = k; instance = instance } ∷ [] → inner.model ≡ k → inner.prefix ≡ outer.prefix ++ (name ++ 35 ∷ (decimal instance ++ 35 ∷ [])) → IsInside models outer instance name inner
inside_made models outer inner k instance name is at found within room steps model prefix = record {
  is_scope = record {
    known = subst (λ (n : ℕ). n < length models) (sym model) within;
    steps_known = subst (All (λ (s : Step). s.model < length models)) (sym steps) (All-push (λ (s : Step). s.model < length models) outer.steps.items (record { model = k; instance = instance }) is.steps_known within);
    prefix_is = prefix ∙ ap (λ (p : List ℕ). p ++ (name ++ 35 ∷ (decimal instance ++ 35 ∷ []))) is.prefix_is ∙ sym (prefix_step (path_of (model_names models) outer) (record { model = name; instance = instance })) ∙ ap prefix_of (sym path);
    levels = (let e : length inner.steps.items ≡ length outer.steps.items + 1 = longer in omega (arith, e, room));
  };
  path_is = path;
  deeper = longer;
  model_is = found ∙ ap (slice_get models) (sym model);
}
  where
    path : path_of (model_names models) inner ≡ step_into (path_of (model_names models) outer) name instance
    path = ap (map (inside_at (model_names models))) steps ∙ map-append (inside_at (model_names models)) outer.steps.items (record { model = k; instance = instance } ∷ [])
        ∙ ap (λ (n : List ℕ). path_of (model_names models) outer ++ record { model = n; instance = instance } ∷ []) (name_is (model_names models) k name at)

    longer : length inner.steps.items ≡ length outer.steps.items + 1
    longer = ap length steps ∙ length-append outer.steps.items (record { model = k; instance = instance } ∷ [])

-- a name of the instance is long
pub long_is : (m : BlifModel) (f : Formals) (path inner : List Inside) (outer_prefix inner_prefix : List ℕ) (pairs : List Pair) → AreFormals m f → outer_prefix ≡ prefix_of path → inner_prefix ≡ prefix_of inner →
    has_long path inner m pairs ≡ (list_any (λ (p : Pair). is_long_behind (length outer_prefix) p.actual) pairs || exceeds (length inner_prefix) f.room)
long_is m f path inner outer_prefix inner_prefix pairs are o i = ap₂ (λ a b. a || b)
    (any_same (λ (p : Pair). is_long_at path p.actual) (λ (p : Pair). is_long_behind (length outer_prefix) p.actual) pairs (λ p. long_at path p.actual ∙ ap (λ (x : List ℕ). is_long_behind (length x) p.actual) (sym o)))
    (any_same (is_long_at inner) (is_long_behind (length inner_prefix)) (formals_of m) (λ n. long_at inner n ∙ ap (λ (x : List ℕ). is_long_behind (length x) n) (sym i)) ∙ are.longest (length inner_prefix))

-- what is left to find behind an entry without a fault
pub entry_passed : (main : List ℕ) (path inner : List Inside) (o : Option BlifModel) (m : BlifModel) (name : List ℕ) (pairs : List Pair) → entry_fault main path o name ≡ None → o ≡ Some m →
    found_fault main (Enter path inner o name pairs) ≡ (ports_fault m pairs or_else when (has_long path inner m pairs) flat_error.LongName)
entry_passed main path inner o m name pairs none is = ap (λ (f : Option FlatError). f or_else inner_fault path inner o pairs) none ∙ ap (λ (x : Option BlifModel). inner_fault path inner x pairs) is

-- where the model isn't entered, that is the fault
pub entry_refused : (main : List ℕ) (path inner : List Inside) (o : Option BlifModel) (name : List ℕ) (pairs : List Pair) (e : FlatError) → entry_fault main path o name ≡ Some e → found_fault main (Enter path inner o name pairs) ≡ Some e
entry_refused main path inner o name pairs e h = ap (λ (f : Option FlatError). f or_else inner_fault path inner o pairs) h

-- where the model is entered and the pairs have a fault, it is theirs
pub ports_refused : (main : List ℕ) (path inner : List Inside) (o : Option BlifModel) (m : BlifModel) (name : List ℕ) (pairs : List Pair) (e : FlatError) → entry_fault main path o name ≡ None → o ≡ Some m → ports_fault m pairs ≡ Some e →
    found_fault main (Enter path inner o name pairs) ≡ Some e
ports_refused main path inner o m name pairs e none is h = entry_passed main path inner o m name pairs none is ∙ ap (λ (f : Option FlatError). f or_else when (has_long path inner m pairs) flat_error.LongName) h

-- what is left to find in an instance whose model is entered and whose pairs have no fault
pub entered_is : (models : List BlifModel) (main : List ℕ) (outer inner : Scope) (instance : ℕ) (name : List ℕ) (pairs : List Pair) (m : BlifModel) (f : Formals) → IsScope models outer → entry_fault main (path_of (model_names models) outer) (model_named models name) name ≡ None → model_named models name ≡ Some m →
    AreFormals m f → ports_fault m pairs ≡ None → IsInside models outer instance name inner →
    found_fault main (instance_at models outer instance name pairs) ≡ when (list_any (λ (p : Pair). is_long_behind (length outer.prefix) p.actual) pairs || exceeds (length inner.prefix) f.room) flat_error.LongName
entered_is models main outer inner instance name pairs m f is none found are ports inside =
    let path : List Inside = path_of (model_names models) outer in
    entry_passed main path (step_into path name instance) (model_named models name) m name pairs none found
    ∙ ap (λ (x : Option FlatError). x or_else when (has_long path (step_into path name instance) m pairs) flat_error.LongName) ports
    ∙ ap (λ (b : Bool). when b flat_error.LongName) (long_is m f path (step_into path name instance) outer.prefix inner.prefix pairs are is.prefix_is (inside.is_scope.prefix_is ∙ ap prefix_of inside.path_is))

-- the fault of an item that isn't too much is that of its own
pub item_found : (main : List ℕ) (count places : ℕ) (item : Item) (c p : ℕ) (fault : Option FlatError) → c ≡ count + statements_in item → p ≡ places + places_in item → is_too_many c p ≡ false → found_fault main item ≡ fault → item_fault main count places item ≡ fault
item_found main count places item c p fault ec ep few is =
    pass (is_too_many (count + statements_in item) (places + places_in item)) flat_error.TooMany (found_fault main item) (ap₂ is_too_many (sym ec) (sym ep) ∙ few) ∙ is

pub item_too_many : (main : List ℕ) (count places : ℕ) (item : Item) (c p : ℕ) → c ≡ count + statements_in item → p ≡ places + places_in item → is_too_many c p ≡ true → item_fault main count places item ≡ Some flat_error.TooMany
item_too_many main count places item c p ec ep many = stop (is_too_many (count + statements_in item) (places + places_in item)) flat_error.TooMany (found_fault main item) (ap₂ is_too_many (sym ec) (sym ep) ∙ many)

-- a port over places and over names
port_is : (inputs : Bool) (b : Bool) (path inner : List Inside) (outer_prefix inner_prefix : List ℕ) (p : Pair) → outer_prefix ≡ prefix_of path → inner_prefix ≡ prefix_of inner → b ≡ inputs →
    named_statement name_of (flat_port b (place_at path p.actual) (place_at inner p.formal)) ≡ port_between inputs (outer_prefix ++ p.actual) (inner_prefix ++ p.formal)
port_is inputs b path inner outer_prefix inner_prefix p o i same =
    cases b ∙ ap (λ (c : Bool). port_between c (flat_name path p.actual) (flat_name inner p.formal)) same
    ∙ ap₂ (port_between inputs) (flat_name-prefix path p.actual ∙ ap (λ (x : List ℕ). x ++ p.actual) (sym o)) (flat_name-prefix inner p.formal ∙ ap (λ (x : List ℕ). x ++ p.formal) (sym i))
  where
    cases : (b : Bool) → named_statement name_of (flat_port b (place_at path p.actual) (place_at inner p.formal)) ≡ port_between b (flat_name path p.actual) (flat_name inner p.formal)
    cases true = refl
    cases false = refl

map_all : {X Y : Type 0} (f g : X → Y) (xs : List X) → ((x : X) → f x ≡ g x) → map f xs ≡ map g xs
map_all f g [] h = refl
map_all f g (x ∷ xs) h = ap₂ (λ y ys. y ∷ ys) (h x) (map_all f g xs h)

-- an instance that is taken with its pairs
pub instance_taken : (models : List BlifModel) (main : List ℕ) (old mid new : Walked) (outer inner : Scope) (m : BlifModel) (f : Formals) (k : ℕ) (name : List ℕ) (pairs : List Pair) (c p : ℕ) →
    c ≡ old.count + (1 + length pairs) → p ≡ old.places + 2 * length pairs → is_too_many c p ≡ false → mid ≡ record old { count = c; places = p } →
    found_fault main (instance_at models outer k name pairs) ≡ None → IsScope models outer → IsInside models outer k name inner → slice_get models inner.model ≡ Some m → AreFormals m f →
    Adds (λ models. map (pair_between f.inputs outer.prefix inner.prefix) pairs) mid new →
    visits main (state models old) (instance_at models outer k name pairs ∷ pairs_at models outer k name pairs) ≡ Ok (state models new)
instance_taken models main old mid new outer inner m f k name pairs c p ec ep few is_mid no_fault is inside model are adds =
    visits_one main (state models old) (instance_at models outer k name pairs) (pairs_at models outer k name pairs) (item_found main old.count old.places (instance_at models outer k name pairs) c p None ec ep few no_fault)
    ∙ ap (λ (s : Sofar). visits main s (pairs_at models outer k name pairs)) counted
    ∙ visits-pairs main (path_of (model_names models) outer) (step_into (path_of (model_names models) outer) name k) (model_named models name) pairs (state models mid) (ap (λ (w : Walked). is_too_many w.count w.places) is_mid ∙ few)
    ∙ ap (λ (ys : List (FlatOf (List ℕ))). Ok (with_flats (state models mid) ys)) ports
    ∙ ap (λ (s : Sofar). Ok s) (sym (adds.same models))
  where
    counted : after (state models old) (instance_at models outer k name pairs) ≡ state models mid
    counted = ap₂ (λ (x y : ℕ). record { count = x; places = y; spelled = spelled_in old.names models old.statements ++ [] }) (sym ec) (sym ep)
        ∙ ap (λ (ys : List (FlatOf (List ℕ))). record { count = c; places = p; spelled = ys }) (append-nil (spelled_in old.names models old.statements))
        ∙ ap (state models) (sym is_mid)

    is_input : (n : List ℕ) → is_input_formal (model_named models name) n ≡ is_among f.inputs n
    is_input n = ap (λ (o : Option BlifModel). is_input_formal o n) (inside.model_is ∙ model) ∙ sym (are.inputs n)

    ports : map (port_of_pair (path_of (model_names models) outer) (step_into (path_of (model_names models) outer) name k) (model_named models name)) pairs ≡ map (pair_between f.inputs outer.prefix inner.prefix) pairs
    ports = map_all (port_of_pair (path_of (model_names models) outer) (step_into (path_of (model_names models) outer) name k) (model_named models name)) (pair_between f.inputs outer.prefix inner.prefix) pairs
        (λ q. port_is (is_among f.inputs q.formal) (is_input_formal (model_named models name) q.formal) (path_of (model_names models) outer) (step_into (path_of (model_names models) outer) name k) outer.prefix inner.prefix q is.prefix_is (inside.is_scope.prefix_is ∙ ap prefix_of inside.path_is) (is_input q.formal))

-- the fault of an instance
pub instance_refused : (models : List BlifModel) (main : List ℕ) (old : Walked) (outer : Scope) (k : ℕ) (name : List ℕ) (pairs : List Pair) (c p : ℕ) (e : FlatError) →
    c ≡ old.count + (1 + length pairs) → p ≡ old.places + 2 * length pairs → is_too_many c p ≡ false → found_fault main (instance_at models outer k name pairs) ≡ Some e →
    visits main (state models old) (instance_at models outer k name pairs ∷ pairs_at models outer k name pairs) ≡ Err e
instance_refused models main old outer k name pairs c p e ec ep few is =
    visits_fault main (state models old) (instance_at models outer k name pairs) (pairs_at models outer k name pairs) e (item_found main old.count old.places (instance_at models outer k name pairs) c p (Some e) ec ep few is)

pub instance_too_many : (models : List BlifModel) (main : List ℕ) (old : Walked) (outer : Scope) (k : ℕ) (name : List ℕ) (pairs : List Pair) (c p : ℕ) →
    c ≡ old.count + (1 + length pairs) → p ≡ old.places + 2 * length pairs → is_too_many c p ≡ true →
    visits main (state models old) (instance_at models outer k name pairs ∷ pairs_at models outer k name pairs) ≡ Err flat_error.TooMany
instance_too_many models main old outer k name pairs c p ec ep many =
    visits_fault main (state models old) (instance_at models outer k name pairs) (pairs_at models outer k name pairs) flat_error.TooMany (item_too_many main old.count old.places (instance_at models outer k name pairs) c p ec ep many)

plain_is : (main : List ℕ) (path : List Inside) (prefix : List ℕ) (s : Statement) (count places more : ℕ) (long : Bool) → prefix ≡ prefix_of path → more ≡ length (names_in s) → long ≡ list_any (is_long_behind (length prefix)) (names_in s) →
    item_fault main count places (At path s) ≡ plain_fault count places more long
plain_is main path prefix s count places more long is_prefix is_more is_long = ap₂ (λ (y : ℕ) (b : Bool). when (is_too_many (count + 1) (places + y)) flat_error.TooMany or_else when b flat_error.LongName) (sym is_more)
    (any_same (is_long_at path) (is_long_behind (length prefix)) (names_in s) (λ n. long_at path n ∙ ap (λ (x : List ℕ). is_long_behind (length x) n) (sym is_prefix)) ∙ sym is_long)

-- a gate or a latch that is taken
pub plain_taken : (models : List BlifModel) (main : List ℕ) (path : List Inside) (prefix : List ℕ) (s : Statement) (old mid new : Walked) (more : ℕ) (long : Bool) (flat : List BlifModel → FlatOf (List ℕ)) →
    prefix ≡ prefix_of path → more ≡ length (names_in s) → long ≡ list_any (is_long_behind (length prefix)) (names_in s) → plain_fault old.count old.places more long ≡ None → mid ≡ record old { count = old.count + 1; places = old.places + more } →
    Adds (λ models. flat models ∷ []) mid new → spelled_of (At path s) ≡ flat models ∷ [] → visits main (state models old) (At path s ∷ []) ≡ Ok (state models new)
plain_taken models main path prefix s old mid new more long flat is_prefix is_more is_long no_fault is_mid adds spelled =
    visits_one main (state models old) (At path s) [] (plain_is main path prefix s old.count old.places more long is_prefix is_more is_long ∙ no_fault)
    ∙ visits-nil main (after (state models old) (At path s))
    ∙ ap (λ (t : Sofar). Ok t) (ap₂ (λ (y : ℕ) (ys : List (FlatOf (List ℕ))). record { count = old.count + 1; places = old.places + y; spelled = spelled_in old.names models old.statements ++ ys }) (sym is_more) spelled
    ∙ ap (λ (w : Walked). with_flats (state models w) (flat models ∷ [])) (sym is_mid) ∙ sym (adds.same models))

-- the fault of a gate or a latch
pub plain_refused : (models : List BlifModel) (main : List ℕ) (path : List Inside) (prefix : List ℕ) (s : Statement) (old : Walked) (more : ℕ) (long : Bool) (e : FlatError) →
    prefix ≡ prefix_of path → more ≡ length (names_in s) → long ≡ list_any (is_long_behind (length prefix)) (names_in s) → plain_fault old.count old.places more long ≡ Some e → visits main (state models old) (At path s ∷ []) ≡ Err e
plain_refused models main path prefix s old more long e is_prefix is_more is_long fault = visits_fault main (state models old) (At path s) [] e (plain_is main path prefix s old.count old.places more long is_prefix is_more is_long ∙ fault)

-- a gate over places and over names
pub gate_spelled : (models : List BlifModel) (path : List Inside) (prefix : List ℕ) (model at line : ℕ) (fanins : List (List ℕ)) (out : List ℕ) (cover : Cover) → prefix ≡ prefix_of path → statement_in (slice_get models model) at ≡ Some (Names line fanins out cover) →
    spelled_of (At path (Names line fanins out cover)) ≡ record { out = prefix ++ out; reads = map (λ name. prefix ++ name) fanins; kind = gate (cover_at models model at) } ∷ []
gate_spelled models path prefix model at line fanins out cover is_prefix here =
    ap₂ (λ (x : List ℕ) (xs : List (List ℕ)). (let flat : FlatOf (List ℕ) = record { out = x; reads = xs; kind = gate cover } in flat ∷ [])) (name out) (names fanins)
    ∙ ap (λ (c : Cover). (let flat : FlatOf (List ℕ) = record { out = prefix ++ out; reads = map (λ name. prefix ++ name) fanins; kind = gate c } in flat ∷ [])) (sym (ap cover_of here))
  where
    name : (n : List ℕ) → flat_name path n ≡ prefix ++ n
    name n = flat_name-prefix path n ∙ ap (λ (x : List ℕ). x ++ n) (sym is_prefix)

    names : (ns : List (List ℕ)) → map name_of (map (place_at path) ns) ≡ map (λ n. prefix ++ n) ns
    names [] = refl
    names (n ∷ ns) = ap₂ (λ (x : List ℕ) (xs : List (List ℕ)). x ∷ xs) (name n) (names ns)

-- a latch over places and over names
pub latch_spelled : (path : List Inside) (prefix : List ℕ) (line : ℕ) (input output : List ℕ) (edge : Option Edge) (control : Option (List ℕ)) (init : Init) → prefix ≡ prefix_of path →
    spelled_of (At path (Latch line input output edge control init)) ≡ record { out = prefix ++ output; reads = (prefix ++ input) ∷ []; kind = latch edge (option_map (λ word. prefix ++ word) control) init } ∷ []
latch_spelled path prefix line input output edge control init is_prefix =
    ap₂ (λ (x y : List ℕ). (let flat : FlatOf (List ℕ) = record { out = x; reads = y ∷ []; kind = latch edge (option_map name_of (control_at path control)) init } in flat ∷ [])) (name output) (name input)
    ∙ ap (λ (c : Option (List ℕ)). (let flat : FlatOf (List ℕ) = record { out = prefix ++ output; reads = (prefix ++ input) ∷ []; kind = latch edge c init } in flat ∷ [])) (clock control)
  where
    name : (n : List ℕ) → flat_name path n ≡ prefix ++ n
    name n = flat_name-prefix path n ∙ ap (λ (x : List ℕ). x ++ n) (sym is_prefix)

    clock : (c : Option (List ℕ)) → option_map name_of (control_at path c) ≡ option_map (λ word. prefix ++ word) c
    clock None = refl
    clock (Some c) = ap (λ (x : List ℕ). Some x) (name c)

pub gate_more : (fanins words : List (List ℕ)) (out : List ℕ) → words ≡ fanins → length words + 1 ≡ length (fanins ++ out ∷ [])
gate_more fanins words out same = ap (λ (ws : List (List ℕ)). length ws + 1) same ∙ sym (length-append fanins (out ∷ []))

pub latch_more : (input output : List ℕ) (rest : List (List ℕ)) → 2 + length rest ≡ length (input ∷ output ∷ rest)
latch_more input output rest = omega arith
