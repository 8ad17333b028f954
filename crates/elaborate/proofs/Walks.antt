-- The walk item by item, and the definition of its first fault.
use Rattle.std.proofs.Common.{◌≡◌, ℕ, ◌+◌, ◌-◌, ◌<◌, Bool, true, false, List, [], ◌∷◌, ◌++◌, map, length, sum_by, filter_map, option_map, option_to_list, slice_get, refl, sym, ◌∙◌, ap, subst, Option, Some, None, Result, Ok, Err, append_assoc, append-nil, arith, true≢false, suc}
use Rattle.std.specs.List.{cons_option}
use Rattle.std.proofs.lemmas.List.Sums.{sum_by-cons}
use Rattle.circuit_theory.specs.Interface.{◌or_else◌}
use Rattle.blif_read.specs.declared.design.BlifModel.{BlifModel}
use Rattle.blif_read.specs.declared.design.Pair.{Pair}
use Rattle.blif_read.specs.declared.design.Statement.{Statement}
use Rattle.blif_read.specs.declared.design.Statement.TheVariants.{Names, Latch, Subckt}
use Rattle.blif_read.specs.Kept.{model_names}
use Rattle.blif_read.specs.Design.{Inside, Place, Item, At, Pairing, name_of, place_at, step_into, model_named, is_input_formal, entered, visited, walk}
use Rattle.elaborate.specs.declared.error.FlatError.{FlatError}
use Rattle.elaborate.specs.declared.error.FlatError.TheVariants as flat_error
use Rattle.elaborate.specs.declared.scope.Scope.{Scope}
use Rattle.elaborate.specs.Flat.{FlatOf, named_statement, flat_of, flat_port}
use Rattle.elaborate.specs.Walking.{when, statements_in, places_in, is_too_many, item_fault, walk_fault}
use Rattle.elaborate.specs.Steps.{Sofar, spelled_of, after, ends, onward, visits, heads, below}
use Rattle.elaborate.specs.Scopes.{path_of, IsInside, GoesInside, below_scope}
use Rattle.elaborate.specs.State.{with_flats}

-- a test that fails leaves the rest
pub pass : (b : Bool) (e : FlatError) (rest : Option FlatError) → b ≡ false → (when b e or_else rest) ≡ rest
pass true e rest h = absurd (true≢false h)
pass false e rest h = refl

pub stop : (b : Bool) (e : FlatError) (rest : Option FlatError) → b ≡ true → (when b e or_else rest) ≡ Some e
stop true e rest h = refl
stop false e rest h = absurd (true≢false (sym h))

pub visits-nil : (main : List ℕ) (s : Sofar) → visits main s [] ≡ Ok s
unfolding visits
visits-nil main s = refl

pub visits-cons : (main : List ℕ) (s : Sofar) (item : Item) (items : List Item) → visits main s (item ∷ items) ≡ onward (λ t. visits main t items) (ends (item_fault main s.count s.places item) (after s item))
unfolding visits
visits-cons main s item items = refl

pub visits-append : (main : List ℕ) (xs ys : List Item) (s : Sofar) → visits main s (xs ++ ys) ≡ onward (λ t. visits main t ys) (visits main s xs)
visits-append main [] ys s = sym (ap (onward (λ t. visits main t ys)) (visits-nil main s))
visits-append main (x ∷ xs) ys s = visits-cons main s x (xs ++ ys) ∙ by (visits-append main xs ys (after s x)) (item_fault main s.count s.places x) ∙ sym (ap (onward (λ t. visits main t ys)) (visits-cons main s x xs))
  where
    by : visits main (after s x) (xs ++ ys) ≡ onward (λ t. visits main t ys) (visits main (after s x) xs) → (f : Option FlatError) → onward (λ t. visits main t (xs ++ ys)) (ends f (after s x)) ≡ onward (λ t. visits main t ys) (onward (λ t. visits main t xs) (ends f (after s x)))
    by rest None = rest
    by rest (Some e) = refl

-- behind items that are taken the walk goes on
pub visits_on : (main : List ℕ) (xs ys : List Item) (s t : Sofar) → visits main s xs ≡ Ok t → visits main s (xs ++ ys) ≡ visits main t ys
visits_on main xs ys s t h = visits-append main xs ys s ∙ ap (onward (λ t. visits main t ys)) h

-- a fault is the last
pub visits_stop : (main : List ℕ) (xs ys : List Item) (s : Sofar) (e : FlatError) → visits main s xs ≡ Err e → visits main s (xs ++ ys) ≡ Err e
visits_stop main xs ys s e h = visits-append main xs ys s ∙ ap (onward (λ t. visits main t ys)) h

-- an item without a fault
pub visits_one : (main : List ℕ) (s : Sofar) (item : Item) (items : List Item) → item_fault main s.count s.places item ≡ None → visits main s (item ∷ items) ≡ visits main (after s item) items
visits_one main s item items h = visits-cons main s item items ∙ ap (λ f. onward (λ t. visits main t items) (ends f (after s item))) h

-- an item with a fault
pub visits_fault : (main : List ℕ) (s : Sofar) (item : Item) (items : List Item) (e : FlatError) → item_fault main s.count s.places item ≡ Some e → visits main s (item ∷ items) ≡ Err e
visits_fault main s item items e h = visits-cons main s item items ∙ ap (λ f. onward (λ t. visits main t items) (ends f (after s item))) h

abbrev pub spelled_all : List Item → List (FlatOf (List ℕ))
spelled_all items = map (named_statement name_of) (filter_map flat_of items)

spelled-cons : (o : Option (FlatOf Place)) (rest : List (FlatOf Place)) → option_to_list (option_map (named_statement name_of) o) ++ map (named_statement name_of) rest ≡ map (named_statement name_of) (cons_option o rest)
spelled-cons None rest = refl
spelled-cons (Some s) rest = refl

-- what the whole walk counts and spells
pub record Found (s t : Sofar) (main : List ℕ) (items : List Item) : Type 0 where
  pub no_fault : walk_fault main s.count s.places items ≡ None
  pub spelled : t.spelled ≡ s.spelled ++ spelled_all items
  pub count : t.count ≡ s.count + sum_by statements_in items
  pub places : t.places ≡ s.places + sum_by places_in items

pub visits_found : (main : List ℕ) (items : List Item) (s t : Sofar) → visits main s items ≡ Ok t → Found s t main items
visits_found main [] s t h =
    let e : s ≡ t = same_ok s t (sym (visits-nil main s) ∙ h) in
    record { no_fault = refl; spelled = ap (λ (x : Sofar). x.spelled) (sym e) ∙ sym (append-nil s.spelled); count = ap (λ (x : Sofar). x.count) (sym e) ∙ (omega arith); places = ap (λ (x : Sofar). x.places) (sym e) ∙ (omega arith) }
  where
    same_ok : (x y : Sofar) → (let a : Result Sofar FlatError = Ok x in a) ≡ Ok y → x ≡ y
    same_ok x y e = cc
visits_found main (x ∷ xs) s t h = by (visits_found main xs (after s x) t) (item_fault main s.count s.places x) refl (sym (visits-cons main s x xs) ∙ h)
  where
    by : (visits main (after s x) xs ≡ Ok t → Found (after s x) t main xs) → (f : Option FlatError) → item_fault main s.count s.places x ≡ f → onward (λ t. visits main t xs) (ends f (after s x)) ≡ Ok t → Found s t main (x ∷ xs)
    by found None is e =
        let rest = found e in
        record {
          no_fault = ap (λ f. f or_else walk_fault main (s.count + statements_in x) (s.places + places_in x) xs) is ∙ rest.no_fault;
          spelled = rest.spelled ∙ append_assoc s.spelled (spelled_of x) (spelled_all xs) ∙ ap (λ ys. s.spelled ++ ys) (spelled-cons (flat_of x) (filter_map flat_of xs));
          count = (let a : t.count ≡ s.count + statements_in x + sum_by statements_in xs = rest.count in omega (arith, a, sum_by-cons statements_in x xs));
          places = (let a : t.places ≡ s.places + places_in x + sum_by places_in xs = rest.places in omega (arith, a, sum_by-cons places_in x xs));
        }
    by found (Some e') is e = absurd (cc)

pub visits_failed : (main : List ℕ) (items : List Item) (s : Sofar) (e : FlatError) → visits main s items ≡ Err e → walk_fault main s.count s.places items ≡ Some e
visits_failed main [] s e h = absurd (clash s (sym (visits-nil main s) ∙ h))
  where
    clash : (x : Sofar) → (let a : Result Sofar FlatError = Ok x in a) ≡ Err e → ⊥
    clash x k = absurd (cc)
visits_failed main (x ∷ xs) s e h = by (visits_failed main xs (after s x) e) (item_fault main s.count s.places x) refl (sym (visits-cons main s x xs) ∙ h)
  where
    by : (visits main (after s x) xs ≡ Err e → walk_fault main (s.count + statements_in x) (s.places + places_in x) xs ≡ Some e) → (f : Option FlatError) → item_fault main s.count s.places x ≡ f → onward (λ t. visits main t xs) (ends f (after s x)) ≡ Err e → walk_fault main s.count s.places (x ∷ xs) ≡ Some e
    by found None is k = ap (λ f. f or_else walk_fault main (s.count + statements_in x) (s.places + places_in x) xs) is ∙ found k
    by found (Some e') is k = ap (λ f. f or_else walk_fault main (s.count + statements_in x) (s.places + places_in x) xs) is ∙ (let same : e' ≡ e = cc in ap Some same)

abbrev pub port_of_pair : List Inside → List Inside → Option BlifModel → Pair → FlatOf (List ℕ)
port_of_pair outer inner m p = named_statement name_of (flat_port (is_input_formal m p.formal) (place_at outer p.actual) (place_at inner p.formal))

-- the pairs of an instance bring no fault
pub visits-pairs : (main : List ℕ) (outer inner : List Inside) (m : Option BlifModel) (pairs : List Pair) (s : Sofar) → is_too_many s.count s.places ≡ false →
    visits main s (map (Pairing outer inner m) pairs) ≡ Ok (with_flats s (map (port_of_pair outer inner m) pairs))
visits-pairs main outer inner m [] s h = visits-nil main s ∙ ap (λ (ys : List (FlatOf (List ℕ))). Ok (record { count = s.count; places = s.places; spelled = ys })) (sym (append-nil s.spelled))
visits-pairs main outer inner m (p ∷ pairs) s h =
    let counts : s.count + 0 ≡ s.count = omega arith in
    let places : s.places + 0 ≡ s.places = omega arith in
    let next : Sofar = with_flats s (port_of_pair outer inner m p ∷ []) in
    let fault : item_fault main s.count s.places (Pairing outer inner m p) ≡ None =
    pass (is_too_many (s.count + 0) (s.places + 0)) flat_error.TooMany None (ap (λ c. is_too_many c (s.places + 0)) counts ∙ ap (is_too_many s.count) places ∙ h) in
    let moved : after s (Pairing outer inner m p) ≡ next =
    ap (λ c. record { count = c; places = s.places + 0; spelled = next.spelled }) counts ∙ ap (λ c. record { count = s.count; places = c; spelled = next.spelled }) places in
    visits_one main s (Pairing outer inner m p) (map (Pairing outer inner m) pairs) fault
    ∙ ap (λ (t : Sofar). visits main t (map (Pairing outer inner m) pairs)) moved
    ∙ visits-pairs main outer inner m pairs next h
    ∙ ap (λ (ys : List (FlatOf (List ℕ))). Ok (record { count = s.count; places = s.places; spelled = ys })) (append_assoc s.spelled (port_of_pair outer inner m p ∷ []) (map (port_of_pair outer inner m) pairs))

walk_more : (l : ℕ) (models : List BlifModel) (path : List Inside) (m : BlifModel) → walk (suc l) models path m ≡ visited (walk l models) models path 0 m.statements
unfolding walk
walk_more l models path m = refl

-- what is visited below a scope begins with the first statement of its model
pub below_start : (models : List BlifModel) (scope : Scope) (m : BlifModel) → slice_get models scope.model ≡ Some m → length scope.steps.items < 64 →
    below_scope models scope ≡ visited (walk (63 - length scope.steps.items) models) models (path_of (model_names models) scope) 0 m.statements
below_start models scope m here room =
    let levels : 64 - length scope.steps.items ≡ suc (63 - length scope.steps.items) = omega (arith, room) in
    ap (below (64 - length scope.steps.items) models (path_of (model_names models) scope)) here
    ∙ ap (λ (l : ℕ). walk l models (path_of (model_names models) scope) m) levels
    ∙ walk_more (63 - length scope.steps.items) models (path_of (model_names models) scope) m

-- a statement that leads nowhere
pub step_plain : (models : List BlifModel) (main : List ℕ) (scope : Scope) (within : List Inside → BlifModel → List Item) (path : List Inside) (k : ℕ) (s : Statement) (rest : List Statement) (old new : Sofar) →
    GoesInside models scope k s None → visits main old (heads models path k s) ≡ Ok new → visits main old (visited within models path k (s ∷ rest)) ≡ visits main new (visited within models path k rest)
step_plain models main scope within path k (Names line fanins out cover) rest old new goes h = visits_on main (At path (Names line fanins out cover) ∷ []) (visited within models path k rest) old new h
step_plain models main scope within path k (Latch line input output edge control start) rest old new goes h = visits_on main (At path (Latch line input output edge control start) ∷ []) (visited within models path k rest) old new h
step_plain models main scope within path k (Subckt line name pairs) rest old new goes h = absurd (let e = goes.1 in cc)

-- a fault at a statement
pub step_fault : (models : List BlifModel) (main : List ℕ) (within : List Inside → BlifModel → List Item) (path : List Inside) (k : ℕ) (s : Statement) (rest : List Statement) (old : Sofar) (e : FlatError) →
    visits main old (heads models path k s) ≡ Err e → visits main old (visited within models path k (s ∷ rest)) ≡ Err e
step_fault models main within path k (Names line fanins out cover) rest old e h = visits_stop main (At path (Names line fanins out cover) ∷ []) (visited within models path k rest) old e h
step_fault models main within path k (Latch line input output edge control start) rest old e h = visits_stop main (At path (Latch line input output edge control start) ∷ []) (visited within models path k rest) old e h
step_fault models main within path k (Subckt line name pairs) rest old e h = visits_stop main (heads models path k (Subckt line name pairs)) (entered within (model_named models name) (step_into path name k) ++ visited within models path (k + 1) rest) old e h

below_is : (levels : ℕ) (models : List BlifModel) (path : List Inside) (m : Option BlifModel) → entered (walk levels models) m path ≡ below levels models path m
below_is levels models path None = refl
below_is levels models path (Some m) = refl

-- what is visited in an instance is what is visited below its scope
inside_is : (models : List BlifModel) (scope inner : Scope) (k : ℕ) (name : List ℕ) → IsInside models scope k name inner →
    entered (walk (63 - length scope.steps.items) models) (model_named models name) (step_into (path_of (model_names models) scope) name k) ≡ below_scope models inner
inside_is models scope inner k name inside =
    let levels : 63 - length scope.steps.items ≡ 64 - length inner.steps.items = omega (arith, inside.deeper, inside.is_scope.levels) in
    below_is (63 - length scope.steps.items) models (step_into (path_of (model_names models) scope) name k) (model_named models name)
    ∙ ap (λ (l : ℕ). below l models (step_into (path_of (model_names models) scope) name k) (model_named models name)) levels
    ∙ ap (λ (path : List Inside). below (64 - length inner.steps.items) models path (model_named models name)) (sym inside.path_is)
    ∙ ap (below (64 - length inner.steps.items) models (path_of (model_names models) inner)) inside.model_is

-- an instance whose inside is taken
pub step_inside : (models : List BlifModel) (main : List ℕ) (scope inner : Scope) (k : ℕ) (s : Statement) (rest : List Statement) (old mid new : Sofar) →
    GoesInside models scope k s (Some inner) → visits main old (heads models (path_of (model_names models) scope) k s) ≡ Ok mid → visits main mid (below_scope models inner) ≡ Ok new →
    visits main old (visited (walk (63 - length scope.steps.items) models) models (path_of (model_names models) scope) k (s ∷ rest)) ≡ visits main new (visited (walk (63 - length scope.steps.items) models) models (path_of (model_names models) scope) (k + 1) rest)
step_inside models main scope inner k (Names line fanins out cover) rest old mid new goes h below = absurd (cc)
step_inside models main scope inner k (Latch line input output edge control start) rest old mid new goes h below = absurd (cc)
step_inside models main scope inner k (Subckt line name pairs) rest old mid new goes h below =
    let path : List Inside = path_of (model_names models) scope in
    let inside : IsInside models scope k name inner = subst (IsInside models scope k name) (the_inner goes.0 goes.1) goes.2 in
    let more : List Item = visited (walk (63 - length scope.steps.items) models) models path (k + 1) rest in
    visits_on main (heads models path k (Subckt line name pairs)) (entered (walk (63 - length scope.steps.items) models) (model_named models name) (step_into path name k) ++ more) old mid h
    ∙ ap (λ (items : List Item). visits main mid (items ++ more)) (inside_is models scope inner k name inside)
    ∙ visits_on main (below_scope models inner) more mid new below
  where
    the_inner : (x : Scope) → Some inner ≡ Some x → x ≡ inner
    the_inner x e = cc

-- a fault inside an instance
pub step_inside_fault : (models : List BlifModel) (main : List ℕ) (scope inner : Scope) (k : ℕ) (s : Statement) (rest : List Statement) (old mid : Sofar) (e : FlatError) →
    GoesInside models scope k s (Some inner) → visits main old (heads models (path_of (model_names models) scope) k s) ≡ Ok mid → visits main mid (below_scope models inner) ≡ Err e →
    visits main old (visited (walk (63 - length scope.steps.items) models) models (path_of (model_names models) scope) k (s ∷ rest)) ≡ Err e
step_inside_fault models main scope inner k (Names line fanins out cover) rest old mid e goes h below = absurd (cc)
step_inside_fault models main scope inner k (Latch line input output edge control start) rest old mid e goes h below = absurd (cc)
step_inside_fault models main scope inner k (Subckt line name pairs) rest old mid e goes h below =
    let path : List Inside = path_of (model_names models) scope in
    let inside : IsInside models scope k name inner = subst (IsInside models scope k name) (the_inner goes.0 goes.1) goes.2 in
    let more : List Item = visited (walk (63 - length scope.steps.items) models) models path (k + 1) rest in
    visits_on main (heads models path k (Subckt line name pairs)) (entered (walk (63 - length scope.steps.items) models) (model_named models name) (step_into path name k) ++ more) old mid h
    ∙ ap (λ (items : List Item). visits main mid (items ++ more)) (inside_is models scope inner k name inside)
    ∙ visits_stop main (below_scope models inner) more mid e below
  where
    the_inner : (x : Scope) → Some inner ≡ Some x → x ≡ inner
    the_inner x e = cc
