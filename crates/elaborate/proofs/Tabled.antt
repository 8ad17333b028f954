-- The tables of the models.
use Rattle.std.proofs.Common.{◌≡◌, ℕ, ◌+◌, ◌<◌, ◌≤◌, nat_le, ◌==◌, ◌||◌, cond, if◌then◌else◌, Bool, true, false, List, [], ◌∷◌, ◌++◌, map, length, take, get_or, slice_get, bytes_eq, refl, sym, ◌∙◌, ap, ap₂, subst, Some, None, arith, zero, suc, eqb-true, eq-eqb, le-leb, leb-true, inl, inr, ◌⊎◌}
use Rattle.std.specs.List.{list_any, All}
use Rattle.std.proofs.lemmas.Bool.{or_parts, or_left, false_from_ne_true}
use Rattle.std.proofs.lemmas.List.{take_more}
use Rattle.std.proofs.lemmas.List.Elements.{All-head, All-tail}
use Rattle.std.proofs.lemmas.List.Folds.{list_any-append}
use Rattle.std.proofs.lemmas.Option.{slice_get_within, same_Some, none-some}
use Rattle.std.proofs.lemmas.Slice.Eq.{bytes_eq-Decides}
use Rattle.base_tables.specs.Table.{is_among, AreDistinct}
use Rattle.blif_read.specs.declared.design.BlifModel.{BlifModel}
use Rattle.blif_read.specs.Kept.{model_names}
use Rattle.blif_read.specs.Fault.{repeats}
use Rattle.blif_read.specs.Design.{Inside, model_named}
use Rattle.elaborate.specs.declared.error.FlatError.TheVariants as flat_error
use Rattle.elaborate.specs.declared.scope.Step.{Step}
use Rattle.elaborate.specs.declared.scope.Scope.{Scope}
use Rattle.elaborate.specs.declared.tables.Formals.{Formals}
use Rattle.elaborate.specs.Flat.{name_at}
use Rattle.elaborate.specs.Walking.{when, entry_fault, main_name}
use Rattle.elaborate.specs.Scopes.{inside_at, path_of, IsScope, is_long_behind, exceeds, AreFormals}
use Rattle.elaborate.proofs.Spelled.{name_is, some_at}
use Rattle.elaborate.proofs.Walks.{pass, stop}

-- two tests that say the same
pub bool_same : (a b : Bool) → (a ≡ true → b ≡ true) → (b ≡ true → a ≡ true) → a ≡ b
bool_same true true f g = refl
bool_same true false f g = sym (f refl)
bool_same false true f g = g refl
bool_same false false f g = refl

pub or-false : (b : Bool) → (b || false) ≡ b
or-false true = refl
or-false false = refl

or_assoc : (a b c : Bool) → ((a || b) || c) ≡ (a || (b || c))
or_assoc true b c = refl
or_assoc false b c = refl

same_bytes : (a b : List ℕ) → a ≡ b → bytes_eq a b ≡ true
same_bytes a b e = (bytes_eq-Decides a b).1 e

bytes_same : (a b : List ℕ) → bytes_eq a b ≡ true → a ≡ b
bytes_same a b e = (bytes_eq-Decides a b).0 e

-- a table with one name more
among_added : (t : List (List ℕ)) (x n : List ℕ) → is_among (if is_among t x then t else t ++ x ∷ []) n ≡ (is_among t n || bytes_eq n x)
among_added t x n = by (is_among t x) refl
  where
    old : (b : Bool) → bytes_eq n x ≡ b → is_among t x ≡ true → is_among t n ≡ (is_among t n || bytes_eq n x)
    old true e h = let there : is_among t n ≡ true = ap (is_among t) (bytes_same n x e) ∙ h in there ∙ sym (or_left (is_among t n) (bytes_eq n x) there)
    old false e h = sym (ap (λ b. is_among t n || b) e ∙ or-false (is_among t n))

    by : (b : Bool) → is_among t x ≡ b → is_among (if b then t else t ++ x ∷ []) n ≡ (is_among t n || bytes_eq n x)
    by true h = old (bytes_eq n x) refl h
    by false h = list_any-append (λ m. bytes_eq n m) t (x ∷ []) ∙ ap (λ b. is_among t n || b) (or-false (bytes_eq n x))

-- one more of the names
pub among_more : (names : List (List ℕ)) (i : ℕ) (x n : List ℕ) (t u : List (List ℕ)) (before : Bool) → i < length names → x ≡ get_or names i x → u ≡ (if is_among t x then t else t ++ x ∷ []) → is_among t n ≡ (before || is_among (take i names) n) → is_among u n ≡ (before || is_among (take (i + 1) names) n)
among_more names i x n t u before room at added known =
    let more : is_among (take (i + 1) names) n ≡ (is_among (take i names) n || bytes_eq n x) =
    ap (λ ns. is_among ns n) (take_more names i x room ∙ ap (λ y. take i names ++ y ∷ []) (sym at)) ∙ list_any-append (λ m. bytes_eq n m) (take i names) (x ∷ []) ∙ ap (λ b. is_among (take i names) n || b) (or-false (bytes_eq n x)) in
    ap (λ ns. is_among ns n) added ∙ among_added t x n ∙ ap (λ b. b || bytes_eq n x) known ∙ or_assoc before (is_among (take i names) n) (bytes_eq n x) ∙ ap (λ b. before || b) (sym more)

-- the tables of a model's ports
pub formals_are : (m : BlifModel) (f : Formals) (t u : List (List ℕ)) (r1 r2 : ℕ) →
    ((n : List ℕ) → is_among t n ≡ (is_among [] n || is_among m.inputs n)) → ((n : List ℕ) → is_among u n ≡ (is_among t n || is_among m.clocks n)) → f.inputs ≡ u → ((n : List ℕ) → is_among f.outputs n ≡ (is_among [] n || is_among m.outputs n)) →
    ((p : ℕ) → exceeds p r1 ≡ (exceeds p 0 || list_any (is_long_behind p) m.inputs)) → ((p : ℕ) → exceeds p r2 ≡ (exceeds p r1 || list_any (is_long_behind p) m.clocks)) → ((p : ℕ) → exceeds p f.room ≡ (exceeds p r2 || list_any (is_long_behind p) m.outputs)) → AreFormals m f
formals_are m f t u r1 r2 ins clocks same outs room1 room2 room3 = record {
  inputs = λ name. ap (λ ns. is_among ns name) same ∙ clocks name ∙ ap (λ b. b || is_among m.clocks name) (ins name) ∙ sym (list_any-append (λ n. bytes_eq name n) m.inputs m.clocks);
  outputs = outs;
  longest = λ p. list_any-append (is_long_behind p) (m.inputs ++ m.clocks) m.outputs
      ∙ ap (λ b. b || list_any (is_long_behind p) m.outputs) (list_any-append (is_long_behind p) m.inputs m.clocks ∙ ap (λ b. b || list_any (is_long_behind p) m.clocks) (sym (room1 p)) ∙ sym (room2 p))
      ∙ sym (room3 p);
}

-- one more model's ports
pub formals_push : (models : List BlifModel) (fs gs : List Formals) (f : Formals) (m : BlifModel) (i : ℕ) → slice_get models i ≡ Some m → length fs ≡ i → gs ≡ fs ++ f ∷ [] → AreFormals m f →
    ((k : ℕ) (m : BlifModel) (f : Formals) → slice_get models k ≡ Some m → slice_get fs k ≡ Some f → AreFormals m f) → (k : ℕ) (m : BlifModel) (f : Formals) → slice_get models k ≡ Some m → slice_get gs k ≡ Some f → AreFormals m f
formals_push models fs gs f m i here many pushed are each k m' f' hm hf = by (cases_push fs f k f' (sym (ap (λ (xs : List Formals). slice_get xs k) pushed) ∙ hf))
  where
    cases_push : (fs : List Formals) (f : Formals) (k : ℕ) (f' : Formals) → slice_get (fs ++ f ∷ []) k ≡ Some f' → (slice_get fs k ≡ Some f') ⊎ ((k ≡ length fs) × (f ≡ f'))
    cases_push [] f zero f' h = inr (refl, same_Some f f' h)
    cases_push [] f (suc k) f' h = absurd (none-some f' h)
    cases_push (g ∷ fs) f zero f' h = inl h
    cases_push (g ∷ fs) f (suc k) f' h = elim (cases_push fs f k f' h) [ inl a ↦ inl a | inr b ↦ inr ((let e : k ≡ length fs = b.0 in omega (arith, e)), b.1) ]

    by : (slice_get fs k ≡ Some f') ⊎ ((k ≡ length fs) × (f ≡ f')) → AreFormals m' f'
    by (inl a) = each k m' f' hm a
    by (inr b) =
        let same : m ≡ m' = same_Some m m' (sym here ∙ ap (λ (j : ℕ). slice_get models j) (sym (b.0 ∙ many)) ∙ hm) in
        subst (λ (x : BlifModel). AreFormals x f') same (subst (AreFormals m) b.1 are)

-- a name that was not among the earlier ones goes last
pub names_push : (names table more : List (List ℕ)) (x : List ℕ) → repeats table (x ∷ names) ≡ false → more ≡ (if is_among table x then table else table ++ x ∷ []) → (more ≡ table ++ x ∷ []) × (repeats more names ≡ false)
names_push names table more x h added =
    let parts = or_parts (is_among table x) (repeats (table ++ x ∷ []) names) h in
    let e : more ≡ table ++ x ∷ [] = added ∙ ap (λ b. if b then table else table ++ x ∷ []) parts.0 in
    (e, ap (λ t. repeats t names) e ∙ parts.1)

distinct_tail : (x : List ℕ) (xs : List (List ℕ)) → AreDistinct (x ∷ xs) → AreDistinct xs
distinct_tail x xs d i j y hi hj = let e : suc i ≡ suc j = d (suc i) (suc j) y hi hj in omega (arith, e)

-- the model of a name's number
pub found_model : (models : List BlifModel) (name : List ℕ) (k : ℕ) → AreDistinct (model_names models) → slice_get (model_names models) k ≡ Some name → model_named models name ≡ slice_get models k
found_model [] name k d h = absurd (none-some name h)
found_model (m ∷ ms) name zero d h = ap (λ b. cond b (Some m) (model_named ms name)) (same_bytes name m.name (sym (same_Some m.name name h)))
found_model (m ∷ ms) name (suc k) d h = by (found_model ms name k (distinct_tail m.name (model_names ms) d) h) (bytes_eq name m.name) refl
  where
    by : model_named ms name ≡ slice_get ms k → (b : Bool) → bytes_eq name m.name ≡ b → cond b (Some m) (model_named ms name) ≡ slice_get ms k
    by rest true e = absurd (let zero_is : zero ≡ suc k = d zero (suc k) name (ap Some (sym (bytes_same name m.name e))) h in omega (arith, zero_is))
    by rest false e = rest

-- no model has a name that isn't in the table
pub no_model : (models : List BlifModel) (name : List ℕ) → is_among (model_names models) name ≡ false → model_named models name ≡ None
no_model [] name h = refl
no_model (m ∷ ms) name h =
    let parts = or_parts (bytes_eq name m.name) (is_among (model_names ms) name) h in
    ap (λ b. cond b (Some m) (model_named ms name)) parts.0 ∙ no_model ms name parts.1

-- names are equal where their numbers are
same_number : (names : List (List ℕ)) (k j : ℕ) (name : List ℕ) → AreDistinct names → slice_get names k ≡ Some name → j < length names → bytes_eq name (name_at names j) ≡ (j == k)
same_number names k j name d h room = bool_same (bytes_eq name (name_at names j)) (j == k) there back
  where
    found : (x : List ℕ) × (slice_get names j ≡ Some x)
    found = some_at names j room

    is : name_at names j ≡ found.0
    is = name_is names j found.0 found.1

    there : bytes_eq name (name_at names j) ≡ true → (j == k) ≡ true
    there e = let same : name ≡ found.0 = bytes_same name (name_at names j) e ∙ is in eq-eqb j k (d j k name (found.1 ∙ ap Some (sym same)) h)

    back : (j == k) ≡ true → bytes_eq name (name_at names j) ≡ true
    back e = same_bytes name (name_at names j) (same_Some name found.0 (sym h ∙ ap (slice_get names) (sym (eqb-true j k e)) ∙ found.1) ∙ sym is)

steps_among : (names : List (List ℕ)) (k : ℕ) (name : List ℕ) (steps : List Step) → AreDistinct names → slice_get names k ≡ Some name → All (λ (s : Step). s.model < length names) steps →
    is_among (map (λ (s : Inside). s.model) (map (inside_at names) steps)) name ≡ list_any (λ (s : Step). s.model == k) steps
steps_among names k name [] d h all = refl
steps_among names k name (s ∷ steps) d h all =
    ap₂ (λ a b. a || b) (same_number names k s.model name d h (All-head (λ (s : Step). s.model < length names) s steps all)) (steps_among names k name steps d h (All-tail (λ (s : Step). s.model < length names) s steps all))

main_is : (models : List BlifModel) → main_name models ≡ name_at (model_names models) 0
main_is [] = refl
main_is (m ∷ ms) = refl

pub names_length : (models : List BlifModel) → length (model_names models) ≡ length models
names_length [] = refl
names_length (m ∷ ms) = ap suc (names_length ms)

-- the model stands on the path where its number does
pub on_path : (models : List BlifModel) (scope : Scope) (k : ℕ) (name : List ℕ) → AreDistinct (model_names models) → slice_get (model_names models) k ≡ Some name → IsScope models scope →
    is_among (main_name models ∷ map (λ (s : Inside). s.model) (path_of (model_names models) scope)) name ≡ ((k == 0) || list_any (λ (s : Step). s.model == k) scope.steps.items)
on_path models scope k name d h is =
    let some : 0 < length (model_names models) = (let within : k < length (model_names models) = slice_get_within (model_names models) k name h in omega (arith, within)) in
    ap₂ (λ a b. a || b)
    (ap (bytes_eq name) (main_is models) ∙ same_number (model_names models) k 0 name d h some ∙ eqb_turned 0 k)
    (steps_among (model_names models) k name scope.steps.items d h (subst (λ (n : ℕ). All (λ (s : Step). s.model < n) scope.steps.items) (sym (names_length models)) is.steps_known))
  where
    eqb_turned : (a b : ℕ) → (a == b) ≡ (b == a)
    eqb_turned a b = bool_same (a == b) (b == a) (λ e. eq-eqb b a (sym (eqb-true a b e))) (λ e. eq-eqb a b (sym (eqb-true b a e)))

-- a model that is not on the path is entered above the last level
pub enters : (models : List BlifModel) (scope : Scope) (k : ℕ) (name : List ℕ) → AreDistinct (model_names models) → slice_get (model_names models) k ≡ Some name → IsScope models scope →
    (((k == 0) || list_any (λ (s : Step). s.model == k) scope.steps.items) ≡ false) → length scope.steps.items < 63 → entry_fault (main_name models) (path_of (model_names models) scope) (model_named models name) name ≡ None
enters models scope k name d h is off room =
    let within : k < length models = subst (λ (n : ℕ). k < n) (names_length models) (slice_get_within (model_names models) k name h) in
    let m = some_at models k within in
    ap (λ o. entry_fault (main_name models) (path_of (model_names models) scope) o name) (found_model models name k d h ∙ m.1)
    ∙ pass (is_among (main_name models ∷ map (λ (s : Inside). s.model) (path_of (model_names models) scope)) name) (flat_error.Recursive name) (when (nat_le 63 (length (path_of (model_names models) scope))) (flat_error.TooDeep name)) (on_path models scope k name d h is ∙ off)
    ∙ ap (λ b. when b (flat_error.TooDeep name)) (above (length (path_of (model_names models) scope)) (subst (λ (n : ℕ). n < 63) (sym (map_length (inside_at (model_names models)) scope.steps.items)) room))
  where
    above : (n : ℕ) → n < 63 → nat_le 63 n ≡ false
    above n h = false_from_ne_true (nat_le 63 n) (λ e. let le : 63 ≤ n = leb-true 63 n e in omega (arith, le, h))

    map_length : {X Y : Type 0} (f : X → Y) (xs : List X) → length (map f xs) ≡ length xs
    map_length f [] = refl
    map_length f (x ∷ xs) = ap suc (map_length f xs)

-- a model on the path
pub enters_again : (models : List BlifModel) (scope : Scope) (k : ℕ) (name : List ℕ) → AreDistinct (model_names models) → slice_get (model_names models) k ≡ Some name → IsScope models scope →
    (((k == 0) || list_any (λ (s : Step). s.model == k) scope.steps.items) ≡ true) → entry_fault (main_name models) (path_of (model_names models) scope) (model_named models name) name ≡ Some (flat_error.Recursive name)
enters_again models scope k name d h is on =
    let within : k < length models = subst (λ (n : ℕ). k < n) (names_length models) (slice_get_within (model_names models) k name h) in
    let m = some_at models k within in
    ap (λ o. entry_fault (main_name models) (path_of (model_names models) scope) o name) (found_model models name k d h ∙ m.1)
    ∙ stop (is_among (main_name models ∷ map (λ (s : Inside). s.model) (path_of (model_names models) scope)) name) (flat_error.Recursive name) (when (nat_le 63 (length (path_of (model_names models) scope))) (flat_error.TooDeep name)) (on_path models scope k name d h is ∙ on)

-- an instance below the last level
pub enters_deep : (models : List BlifModel) (scope : Scope) (k : ℕ) (name : List ℕ) → AreDistinct (model_names models) → slice_get (model_names models) k ≡ Some name → IsScope models scope →
    (((k == 0) || list_any (λ (s : Step). s.model == k) scope.steps.items) ≡ false) → 63 ≤ length scope.steps.items → entry_fault (main_name models) (path_of (model_names models) scope) (model_named models name) name ≡ Some (flat_error.TooDeep name)
enters_deep models scope k name d h is off deep =
    let within : k < length models = subst (λ (n : ℕ). k < n) (names_length models) (slice_get_within (model_names models) k name h) in
    let m = some_at models k within in
    ap (λ o. entry_fault (main_name models) (path_of (model_names models) scope) o name) (found_model models name k d h ∙ m.1)
    ∙ pass (is_among (main_name models ∷ map (λ (s : Inside). s.model) (path_of (model_names models) scope)) name) (flat_error.Recursive name) (when (nat_le 63 (length (path_of (model_names models) scope))) (flat_error.TooDeep name)) (on_path models scope k name d h is ∙ off)
    ∙ ap (λ b. when b (flat_error.TooDeep name)) (le-leb 63 (length (path_of (model_names models) scope)) (subst (λ (n : ℕ). 63 ≤ n) (sym (map_length (inside_at (model_names models)) scope.steps.items)) deep))
  where
    map_length : {X Y : Type 0} (f : X → Y) (xs : List X) → length (map f xs) ≡ length xs
    map_length f [] = refl
    map_length f (x ∷ xs) = ap suc (map_length f xs)

-- a name's number is one of a model
pub model_within : (models : List BlifModel) (k : ℕ) (name : List ℕ) → slice_get (model_names models) k ≡ Some name → k < length models
model_within models k name h = subst (λ (n : ℕ). k < n) (names_length models) (slice_get_within (model_names models) k name h)
