-- What the whole walk has found.
use Rattle.std.proofs.Common.{◌≡◌, ℕ, ◌+◌, ◌-◌, ◌^◌, ◌<◌, ◌≤◌, nat_lt, true, List, [], ◌∷◌, ◌++◌, map, map-id, length, sum_by, filter_map, slice_get, refl, sym, ◌∙◌, ap, ap₂, subst, Some, None, Ok, Err, arith, suc, eq-eqb, ltb-true}
use Rattle.std.specs.List.{list_all, All}
use Rattle.std.proofs.lemmas.Bool.{and_parts, and_from}
use Rattle.std.proofs.lemmas.List.Elements.{All-cons, All-nil}
use Rattle.std.proofs.lemmas.List.Sums.{sum_by-cons}
use Rattle.circuit_theory.proofs.Lists.{map-map}
use Rattle.blif_read.specs.declared.design.BlifModel.{BlifModel}
use Rattle.blif_read.specs.Kept.{is_plain, written_names, covers_fit, model_names}
use Rattle.blif_read.specs.Design.{Place, Inside, name_of, top, main_walk}
use Rattle.blif_read.proofs.Each.{Each}
use Rattle.elaborate.specs.declared.error.FlatError.{FlatError}
use Rattle.elaborate.specs.declared.flat.Flat.{Flat}
use Rattle.elaborate.specs.declared.flat.FlatStatement.{FlatStatement}
use Rattle.elaborate.specs.declared.flat.FlatKind.{FlatKind}
use Rattle.elaborate.specs.declared.flat.FlatKind.TheVariants as flat_kind
use Rattle.elaborate.specs.declared.scope.Scope.{Scope}
use Rattle.elaborate.specs.declared.walked.Walked.{Walked}
use Rattle.elaborate.specs.Within.{reads_as_kind, can_read, written_places, clock_places}
use Rattle.elaborate.specs.Flat.{FlatOf, Kind, gate, latch, port, named_kind, named_statement, flat_of, flat_design_of, name_at, kind_of, statement_of, CanBe, IsShaped}
use Rattle.elaborate.specs.Walking.{statements_in, places_in, main_name, design_walk_fault}
use Rattle.elaborate.specs.Walked.{IsWalked}
use Rattle.elaborate.specs.Steps.{visits, below}
use Rattle.elaborate.specs.Scopes.{inside_at, below_scope}
use Rattle.elaborate.specs.State.{Keeps, AreNamed, ArePortNumbers, HasWalked, IsKept, IsWithPorts, spelled_in, state}
use Rattle.elaborate.proofs.Walks.{Found, visits_found, visits_failed}
use Rattle.elaborate.proofs.Spelled.{keeps_on, spelled_kept, named_within, named_names, named_kept}
use Rattle.elaborate.proofs.Items.{Few, few_main, IsGood, IsGoodModel, good_models, good_main, place_count, clock_count}

map_length : {X Y : Type 0} (f : X → Y) (xs : List X) → length (map f xs) ≡ length xs
map_length f [] = refl
map_length f (x ∷ xs) = ap suc (map_length f xs)

kind_count : {P Q : Type 0} (f : P → Q) (k : Kind P) → clock_count (named_kind f k) ≡ clock_count k
kind_count f (gate cover) = refl
kind_count f (latch edge None init) = refl
kind_count f (latch edge (Some c) init) = refl
kind_count f port = refl

named_count : {P Q : Type 0} (f : P → Q) (ss : List (FlatOf P)) → sum_by place_count (map (named_statement f) ss) ≡ sum_by place_count ss
named_count f [] = refl
named_count f (s ∷ ss) =
    let one : place_count (named_statement f s) ≡ place_count s = ap₂ (λ a b. a + 1 + b) (map_length f s.reads) (kind_count f s.kind) in
    omega (arith, sum_by-cons place_count (named_statement f s) (map (named_statement f) ss), sum_by-cons place_count s ss, one, named_count f ss)

written_count : (models : List BlifModel) (ss : List FlatStatement) → sum_by place_count (map (statement_of models) ss) ≡ sum_by written_places ss
written_count models [] = refl
written_count models (s ∷ ss) =
    let one : place_count (statement_of models s) ≡ written_places s = ap (λ b. length s.reads + 1 + b) (kind s.kind) in
    omega (arith, sum_by-cons place_count (statement_of models s) (map (statement_of models) ss), sum_by-cons written_places s ss, one, written_count models ss)
  where
    kind : (k : FlatKind) → clock_count (kind_of models k) ≡ clock_places k
    kind (flat_kind.Gate model at) = refl
    kind (flat_kind.Latch edge None init) = refl
    kind (flat_kind.Latch edge (Some c) init) = refl
    kind flat_kind.Port = refl

shape_up : {P Q : Type 0} (f : P → Q) (n : ℕ) (k : Kind P) → CanBe n k → CanBe n (named_kind f k)
shape_up f n (gate cover) h = h
shape_up f n (latch edge control init) h = h
shape_up f n port h = h

shape_down : {P Q : Type 0} (f : P → Q) (n : ℕ) (k : Kind P) → CanBe n (named_kind f k) → CanBe n k
shape_down f n (gate cover) h = h
shape_down f n (latch edge control init) h = h
shape_down f n port h = h

-- statements of one form over names have the form
all_shaped : {P Q R : Type 0} (f : P → R) (g : Q → R) (ss : List (FlatOf P)) (ts : List (FlatOf Q)) → map (named_statement f) ss ≡ map (named_statement g) ts → Each IsShaped ts → Each IsShaped ss
all_shaped f g [] ts e h = tt
all_shaped f g (s ∷ ss) [] e h = absurd (cc)
all_shaped {P} {Q} {R} f g (s ∷ ss) (t ∷ ts) e h =
    let first : named_statement f s ≡ named_statement g t = cc in
    let rest : map (named_statement f) ss ≡ map (named_statement g) ts = cc in
    let up : CanBe (length (map g t.reads)) (named_kind g t.kind) = subst (λ n. CanBe n (named_kind g t.kind)) (sym (map_length g t.reads)) (shape_up g (length t.reads) t.kind h.0) in
    let over : IsShaped (named_statement f s) = subst IsShaped (sym first) up in
    (subst (λ n. CanBe n s.kind) (map_length f s.reads) (shape_down f (length (map f s.reads)) s.kind over), all_shaped f g ss ts rest h.1)

good_shaped : (ss : List (FlatOf Place)) → Each IsGood ss → Each IsShaped ss
good_shaped [] h = tt
good_shaped (s ∷ ss) h = (h.0.shaped, good_shaped ss h.1)

each_shaped : (models : List BlifModel) (ss : List FlatStatement) → Each IsShaped (map (statement_of models) ss) → list_all reads_as_kind ss ≡ true
each_shaped models [] h = refl
each_shaped models (s ∷ ss) h = and_from (reads_as_kind s) (list_all reads_as_kind ss) (kind (length s.reads) s.kind h.0) (each_shaped models ss h.1)
  where
    kind : (n : ℕ) (k : FlatKind) → CanBe n (kind_of models k) → can_read n k ≡ true
    kind n (flat_kind.Gate model at) c = refl
    kind n (flat_kind.Latch edge control init) c = eq-eqb n 1 c
    kind n flat_kind.Port c = eq-eqb n 1 c

each_to_all : {X : Type 0} (F : X → Type 0) (xs : List X) → Each F xs → All F xs
each_to_all F [] h = All-nil F
each_to_all F (x ∷ xs) h = All-cons F x xs h.0 (each_to_all F xs h.1)

-- the whole walk
pub main_scope_is : (models : List BlifModel) (scope : Scope) → scope.steps.items ≡ [] → scope.model ≡ 0 → below_scope models scope ≡ main_walk models
main_scope_is models scope steps model =
    ap₂ (λ (n : ℕ) (path : List Inside). below (64 - n) models path (slice_get models scope.model)) (ap length steps) (ap (map (inside_at (model_names models))) steps)
    ∙ ap (λ (k : ℕ). below (64 - 0) models [] (slice_get models k)) model ∙ by models
  where
    by : (ms : List BlifModel) → below (64 - 0) ms [] (slice_get ms 0) ≡ main_walk ms
    by [] = refl
    by (m ∷ ms) = refl

-- what a walk without a fault leaves
pub record Done (models : List BlifModel) (w : Walked) : Type 0 where
  pub no_fault : design_walk_fault models ≡ None
  pub spelled : spelled_in w.names models w.statements ≡ (flat_design_of models).statements
  pub shapes : Each IsShaped (map (statement_of models) w.statements)
  pub shaped : list_all reads_as_kind w.statements ≡ true
  pub few : length w.statements ≤ 400000
  pub few_places : sum_by written_places w.statements ≤ 4000000

-- what a walk from the main model's scope finds
pub walk_found : (models : List BlifModel) (scope : Scope) (old w : Walked) → scope.steps.items ≡ [] → scope.model ≡ 0 → old ≡ record { names = []; statements = []; count = 0; places = 0 } → IsKept w →
    visits (main_name models) (state models old) (below_scope models scope) ≡ Ok (state models w) → HasWalked models w
walk_found models scope old w steps model empty kept h = record {
  kept = kept;
  found = ap₂ (visits (main_name models)) (ap (state models) (sym empty)) (sym (main_scope_is models scope steps model)) ∙ h;
}

pub walk_done : (models : List BlifModel) (w : Walked) → list_all is_plain (written_names models) ≡ true → list_all covers_fit models ≡ true → length (written_names models) ≤ 16777216 → HasWalked models w → Done models w
walk_done models w plain fits few has = record {
  no_fault = found.no_fault;
  spelled = spelled;
  shapes = shapes;
  shaped = each_shaped models w.statements shapes;
  few = (let most : w.count ≡ 0 + sum_by statements_in (main_walk models) = found.count in omega (arith, many, counts.few, most, has.kept.few));
  few_places = (let most : w.places ≡ 0 + sum_by places_in (main_walk models) = found.places in omega (arith, places, counts.few_places, most, has.kept.few_places));
}
  where
    found : Found (record { count = 0; places = 0; spelled = [] }) (state models w) (main_name models) (main_walk models)
    found = visits_found (main_name models) (main_walk models) (record { count = 0; places = 0; spelled = [] }) (state models w) has.found

    counts : Few (main_walk models)
    counts = few_main models

    spelled : spelled_in w.names models w.statements ≡ (flat_design_of models).statements
    spelled = found.spelled

    twice : map (named_statement (name_at w.names)) (map (statement_of models) w.statements) ≡ map (named_statement name_of) (filter_map flat_of (main_walk models))
    twice = map-map (named_statement (name_at w.names)) (statement_of models) w.statements ∙ spelled

    shapes : Each IsShaped (map (statement_of models) w.statements)
    shapes = all_shaped (name_at w.names) name_of (map (statement_of models) w.statements) (filter_map flat_of (main_walk models)) twice (good_shaped (filter_map flat_of (main_walk models)) (good_main models (good_models models plain fits few)))

    many : length w.statements ≡ length (filter_map flat_of (main_walk models))
    many = sym (map_length (statement_of models) w.statements) ∙ sym (map_length (named_statement (name_at w.names)) (map (statement_of models) w.statements)) ∙ ap length twice ∙ map_length (named_statement name_of) (filter_map flat_of (main_walk models))

    places : sum_by written_places w.statements ≡ sum_by place_count (filter_map flat_of (main_walk models))
    places = sym (written_count models w.statements) ∙ sym (named_count (name_at w.names) (map (statement_of models) w.statements)) ∙ ap (sum_by place_count) twice ∙ named_count name_of (filter_map flat_of (main_walk models))

-- the same of models that are the design's
pub done_at : (ds ms : List BlifModel) (w : Walked) → ms ≡ ds → list_all is_plain (written_names ds) ≡ true → list_all covers_fit ds ≡ true → length (written_names ds) ≤ 16777216 → HasWalked ms w → Done ds w
done_at ds ms w same plain fits few has = walk_done ds w plain fits few (subst (λ (xs : List BlifModel). HasWalked xs w) same has)

-- models have few statements
pub few_statements : (models : List BlifModel) → list_all is_plain (written_names models) ≡ true → list_all covers_fit models ≡ true → length (written_names models) ≤ 16777216 → All (λ (m : BlifModel). length m.statements < 2 ^ 32) models
few_statements models plain fits few = all models (good_models models plain fits few)
  where
    all : (ms : List BlifModel) → Each IsGoodModel ms → All (λ (m : BlifModel). length m.statements < 2 ^ 32) ms
    all [] h = All-nil (λ (m : BlifModel). length m.statements < 2 ^ 32)
    all (m ∷ ms) h = All-cons (λ (m : BlifModel). length m.statements < 2 ^ 32) m ms (omega (arith, h.0.few)) (all ms h.1)

-- the fault of a walk
pub walk_failed : (models : List BlifModel) (scope : Scope) (old : Walked) (e : FlatError) → scope.steps.items ≡ [] → scope.model ≡ 0 → old ≡ record { names = []; statements = []; count = 0; places = 0 } →
    visits (main_name models) (state models old) (below_scope models scope) ≡ Err e → design_walk_fault models ≡ Some e
walk_failed models scope old e steps model empty h = visits_failed (main_name models) (main_walk models) (record { count = 0; places = 0; spelled = [] }) e
    (ap₂ (visits (main_name models)) (ap (state models) (sym empty)) (sym (main_scope_is models scope steps model)) ∙ h)

-- the main model's ports, numbered one list after the other
pub ports_numbered : (main : BlifModel) (before first second now : List (List ℕ)) (inputs clocks outputs : List ℕ) → Keeps before first → AreNamed first inputs (map (λ name. [] ++ name) main.inputs) →
    Keeps first second → AreNamed second clocks (map (λ name. [] ++ name) main.clocks) → Keeps second now → AreNamed now outputs (map (λ name. [] ++ name) main.outputs) → ArePortNumbers main before now inputs clocks outputs
ports_numbered main before first second now inputs clocks outputs k1 ins k2 cs k3 outs = record {
  of_inputs = plain inputs main.inputs (named_kept first now inputs (map (λ name. [] ++ name) main.inputs) (keeps_on first second now k2 k3) ins);
  of_clocks = plain clocks main.clocks (named_kept second now clocks (map (λ name. [] ++ name) main.clocks) k3 cs);
  of_outputs = plain outputs main.outputs outs;
  keeps = keeps_on before first now k1 (keeps_on first second now k2 k3);
}
  where
    plain : (ns : List ℕ) (xs : List (List ℕ)) → AreNamed now ns (map (λ name. [] ++ name) xs) → AreNamed now ns xs
    plain ns xs h = subst (AreNamed now ns) (map-id xs) h

-- the ports of the main model
pub ports_added : (main : BlifModel) (w : Walked) (flat : Flat) → IsKept w → flat.statements ≡ w.statements → ArePortNumbers main w.names flat.names flat.inputs flat.clocks flat.outputs → IsWithPorts main w flat
ports_added main w flat kept same ports = record {
  statements = same;
  same = λ models.
      ap₂ (λ (xs ys : List (List ℕ)). record { inputs = xs; clocks = ys; outputs = map (name_at flat.names) flat.outputs; statements = map (named_statement (name_at flat.names)) (map (statement_of models) flat.statements) })
      (named_names flat.names flat.inputs main.inputs ports.of_inputs) (named_names flat.names flat.clocks main.clocks ports.of_clocks)
      ∙ ap₂ (λ (xs : List (List ℕ)) (ss : List (FlatOf (List ℕ))). record { inputs = main.inputs; clocks = main.clocks; outputs = xs; statements = ss })
      (named_names flat.names flat.outputs main.outputs ports.of_outputs)
      (ap (λ (ss : List FlatStatement). map (named_statement (name_at flat.names)) (map (statement_of models) ss)) same ∙ map-map (named_statement (name_at flat.names)) (statement_of models) w.statements
      ∙ spelled_kept w.names flat.names ports.keeps models w.statements kept.within);
}

-- numbers of names are numbers
pub numbers_within : (t : List (List ℕ)) (ns : List ℕ) (xs : List (List ℕ)) → AreNamed t ns xs → All (λ n. n < length t) ns
numbers_within t ns xs h = all ns (named_within t ns xs h)
  where
    all : (ms : List ℕ) → list_all (λ n. nat_lt n (length t)) ms ≡ true → All (λ n. n < length t) ms
    all [] k = All-nil (λ n. n < length t)
    all (m ∷ ms) k = let parts = and_parts (nat_lt m (length t)) (list_all (λ n. nat_lt n (length t)) ms) k in All-cons (λ n. n < length t) m ms (ltb-true m (length t) parts.0) (all ms parts.1)

-- the flat statements of a design
pub walked_is : (models : List BlifModel) (w : Walked) (flat : Flat) (main : BlifModel) → slice_get models 0 ≡ Some main → Done models w → IsWithPorts main w flat → IsWalked models flat
walked_is [] w flat main h done ports = absurd (cc)
walked_is (m ∷ ms) w flat main h done ports = record {
  faultless = done.no_fault;
  same = ports.same (m ∷ ms) ∙ ap₂ (λ (x : BlifModel) (ss : List (FlatOf (List ℕ))). record { inputs = x.inputs; clocks = x.clocks; outputs = x.outputs; statements = ss }) is_main done.spelled
      ∙ sym (ap₂ (λ (xs ys : List (List ℕ)). record { inputs = xs; clocks = ys; outputs = map name_of (map top m.outputs); statements = (flat_design_of (m ∷ ms)).statements }) (tops m.inputs) (tops m.clocks)
      ∙ ap (λ (xs : List (List ℕ)). record { inputs = m.inputs; clocks = m.clocks; outputs = xs; statements = (flat_design_of (m ∷ ms)).statements }) (tops m.outputs));
  shaped = each_to_all IsShaped (map (statement_of (m ∷ ms)) flat.statements) (subst (λ (ss : List FlatStatement). Each IsShaped (map (statement_of (m ∷ ms)) ss)) (sym ports.statements) done.shapes);
}
  where
    is_main : main ≡ m
    is_main = cc

    tops : (xs : List (List ℕ)) → map name_of (map top xs) ≡ xs
    tops [] = refl
    tops (x ∷ xs) = ap (λ (ys : List (List ℕ)). x ∷ ys) (tops xs)
