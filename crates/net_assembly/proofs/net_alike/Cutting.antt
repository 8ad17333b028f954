-- A renumbering carries cuts and trees.
use Rattle.std.proofs.Common.{◌≡◌, ◌∙◌, ℕ, Bool, true, false, true≢false, not, cond, if◌then◌else◌, List, [], ◌∷◌, ◌++◌, map, filter, filter_map, option_map, Option, Some, None, refl, sym, ap, ap₂, subst, inl, inr}
use Rattle.std.specs.Prelude.{◌⊎◌, ◌↔◌}
use Rattle.std.specs.List.{Contains, cons_option}
use Rattle.std.proofs.lemmas.List.{map-append}
use Rattle.std.proofs.lemmas.List.Elements.{Contains-append_cases}
use Rattle.std.proofs.lemmas.Option.{none-some, same_Some}
use Rattle.circuit_theory.specs.declared.Mode.TheVariants.{Plain}
use Rattle.circuit_theory.specs.Names.{same_name, is_among}
use Rattle.circuit_theory.specs.Agree.{cut, latch_named, is_kept, named_at, first_of_pair, second_of_pair, IsMinimalCut}
use Rattle.circuit_theory.specs.Circuit.{Circuit, Equation, Gate, Latch, Port, Named}
use Rattle.circuit_theory.specs.Joined.{moved, moved_name}
use Rattle.circuit_theory.specs.Depth.{HasCycle, without}
use Rattle.circuit_theory.specs.Places.{IsPlace}
use Rattle.circuit_theory.specs.Run.{NoneEnabled}
use Rattle.circuit_theory.specs.Tree.{Tree, Trees, Unfolds, UnfoldsAll, StandsBeside}
use Rattle.circuit_laws.proofs.Onward.{latch_named-found}
use Rattle.circuit_theory.proofs.Lists.{Contains-head, Contains-tail, Contains-cases, Contains-filter, filter_map-from, filter_test}
use Rattle.net_assembly.specs.net_alike.Renumbered.{latch_rows, AreRenumbered}
use Rattle.net_assembly.specs.net_alike.Laws.{CutsAreCarried, TreesAreCarried, MinimalCutsAreCarried}
use Rattle.net_assembly.proofs.net_alike.Carrying.{forth, turned, cycle}

-- the first latch of a name
pub latch_named_rows : {P : Type 0} (es : List (Equation P)) (name : List ℕ) → latch_named es name ≡ latch_named (latch_rows es) name
latch_named_rows [] name = refl
latch_named_rows (Gate out fanins cover ∷ es) name = latch_named_rows es name
latch_named_rows {P} (Latch own out next ∷ es) name = ap (λ (r : Option (P × P)). if same_name own name then Some (out, next) else r) (latch_named_rows es name)
latch_named_rows (Port out from ∷ es) name = latch_named_rows es name

abbrev pub moved_pair : {P Q : Type 0} → (P → Q) → P × P → Q × Q
moved_pair f x = (f x.0, f x.1)

pub latch_named_moved : {P Q : Type 0} (f : P → Q) (es : List (Equation P)) (name : List ℕ) → latch_named (map (moved f) es) name ≡ option_map (moved_pair f) (latch_named es name)
latch_named_moved f [] name = refl
latch_named_moved f (Gate out fanins cover ∷ es) name = latch_named_moved f es name
latch_named_moved f (Port out from ∷ es) name = latch_named_moved f es name
latch_named_moved {P} {Q} f (Latch own out next ∷ es) name = by (same_name own name) (latch_named_moved f es name)
  where
    by : (b : Bool) → latch_named (map (moved f) es) name ≡ option_map (moved_pair f) (latch_named es name) →
        (if b then Some (f out, f next) else latch_named (map (moved f) es) name) ≡ option_map (moved_pair f) (if b then Some (out, next) else latch_named es name)
    by true rest = refl
    by false rest = rest

cons_moved : {X Y : Type 0} (f : X → Y) (o : Option X) (xs : List X) → map f (cons_option o xs) ≡ cons_option (option_map f o) (map f xs)
cons_moved f None xs = refl
cons_moved f (Some x) xs = refl

pub filter_in : {X : Type 0} (test : X → Bool) (xs : List X) (x : X) → Contains xs x → test x ≡ true → Contains (filter test xs) x
filter_in test [] x h passes = h
filter_in {X} test (y ∷ xs) x h passes = by (test y) refl (λ k. filter_in test xs x k passes) (Contains-cases y x xs h)
  where
    by : (b : Bool) → test y ≡ b → (Contains xs x → Contains (filter test xs) x) → (y ≡ x) ⊎ Contains xs x → Contains (cond b (y ∷ filter test xs) (filter test xs)) x
    by true e later (inl same) = subst (Contains (y ∷ filter test xs)) same (Contains-head y (filter test xs))
    by true e later (inr k) = Contains-tail y x (filter test xs) (later k)
    by false e later (inl same) = absurd (true≢false (sym passes ∙ ap test (sym same) ∙ e))
    by false e later (inr k) = later k

pub kept_moved : {P Q : Type 0} (names : List (List ℕ)) (f : P → Q) (e : Equation P) → is_kept names (moved f e) ≡ is_kept names e
kept_moved names f (Gate out fanins cover) = refl
kept_moved names f (Latch name out next) = refl
kept_moved names f (Port out from) = refl

pub rows_filtered : {P : Type 0} (names : List (List ℕ)) (es : List (Equation P)) → latch_rows (filter (is_kept names) es) ≡ filter (is_kept names) (latch_rows es)
rows_filtered names [] = refl
rows_filtered names (Gate out fanins cover ∷ es) = rows_filtered names es
rows_filtered names (Port out from ∷ es) = rows_filtered names es
rows_filtered {P} names (Latch name out next ∷ es) = by (not (is_among names name)) (rows_filtered names es)
  where
    by : (b : Bool) → latch_rows (filter (is_kept names) es) ≡ filter (is_kept names) (latch_rows es) →
        latch_rows (cond b (Latch name out next ∷ filter (is_kept names) es) (filter (is_kept names) es)) ≡ cond b (Latch name out next ∷ filter (is_kept names) (latch_rows es)) (filter (is_kept names) (latch_rows es))
    by true rest = ap (λ (xs : List (Equation P)). Latch name out next ∷ xs) rest
    by false rest = rest

pub filter_moved : {P Q : Type 0} (names : List (List ℕ)) (f : P → Q) (es : List (Equation P)) → map (moved f) (filter (is_kept names) es) ≡ filter (is_kept names) (map (moved f) es)
filter_moved names f [] = refl
filter_moved {P} {Q} names f (e ∷ es) = by (is_kept names e) (is_kept names (moved f e)) (sym (kept_moved names f e)) (filter_moved names f es)
  where
    by : (x z : Bool) → x ≡ z → map (moved f) (filter (is_kept names) es) ≡ filter (is_kept names) (map (moved f) es) →
        map (moved f) (cond x (e ∷ filter (is_kept names) es) (filter (is_kept names) es)) ≡ cond z (moved f e ∷ filter (is_kept names) (map (moved f) es)) (filter (is_kept names) (map (moved f) es))
    by true true q rest = ap (λ (xs : List (Equation Q)). moved f e ∷ xs) rest
    by true false q rest = absurd (true≢false q)
    by false true q rest = absurd (true≢false (sym q))
    by false false q rest = rest

-- a place of the cut circuit is one of the circuit
pub place_uncut : {P : Type 0} (names : List (List ℕ)) (c : Circuit P) (p : P) → IsPlace (cut names c) p → IsPlace c p
unfolding cut
place_uncut {P} names c p (IsPlace.input h) = by (Contains-append_cases c.inputs (filter_map (λ name. named_at name (first_of_pair (latch_named c.equations name))) names) (record { name = h.0; place = p }) h.1)
  where
    at_latch : (name : List ℕ) (o : Option (P × P)) → latch_named c.equations name ≡ o → named_at name (first_of_pair o) ≡ Some (record { name = h.0; place = p }) → IsPlace c p
    at_latch name None is e = absurd (none-some (record { name = h.0; place = p }) e)
    at_latch name (Some x) is e =
        let k = latch_named-found c.equations name x.0 x.1 is in
        let own : x.0 ≡ p = ap (λ (n : Named P). n.place) (same_Some (record { name = name; place = x.0 }) (record { name = h.0; place = p }) e) in
        IsPlace.driven k own

    by : Contains c.inputs (record { name = h.0; place = p }) ⊎ Contains (filter_map (λ name. named_at name (first_of_pair (latch_named c.equations name))) names) (record { name = h.0; place = p }) → IsPlace c p
    by (inl k) = IsPlace.input (h.0, k)
    by (inr k) =
        let f = filter_map-from (λ name. named_at name (first_of_pair (latch_named c.equations name))) names (record { name = h.0; place = p }) k in
        at_latch f.0 (latch_named c.equations f.0) refl f.2
place_uncut {P} names c p (IsPlace.output {name = shown} h) = by (Contains-append_cases c.outputs (filter_map (λ name. named_at name (second_of_pair (latch_named c.equations name))) names) (record { name = shown; place = p }) h)
  where
    at_latch : (name : List ℕ) (o : Option (P × P)) → latch_named c.equations name ≡ o → named_at name (second_of_pair o) ≡ Some (record { name = shown; place = p }) → IsPlace c p
    at_latch name None is e = absurd (none-some (record { name = shown; place = p }) e)
    at_latch name (Some x) is e =
        let k = latch_named-found c.equations name x.0 x.1 is in
        let own : x.1 ≡ p = ap (λ (n : Named P). n.place) (same_Some (record { name = name; place = x.1 }) (record { name = shown; place = p }) e) in
        IsPlace.next {name = name} {out = x.0} (subst (λ (q : P). Contains c.equations (Latch name x.0 q)) own k)

    by : Contains c.outputs (record { name = shown; place = p }) ⊎ Contains (filter_map (λ name. named_at name (second_of_pair (latch_named c.equations name))) names) (record { name = shown; place = p }) → IsPlace c p
    by (inl k) = IsPlace.output {name = shown} k
    by (inr k) =
        let f = filter_map-from (λ name. named_at name (second_of_pair (latch_named c.equations name))) names (record { name = shown; place = p }) k in
        at_latch f.0 (latch_named c.equations f.0) refl f.2
place_uncut names c p (IsPlace.driven {e = e} h same) = IsPlace.driven (Contains-filter (is_kept names) c.equations e h) same
place_uncut names c p (IsPlace.fanin {out = out} {fanins = fanins} {cover = cover} h k) = IsPlace.fanin {fanins = fanins} {cover = cover} (Contains-filter (is_kept names) c.equations (Gate out fanins cover) h) k
place_uncut names c p (IsPlace.next {name = name} {out = out} h) = IsPlace.next {name = name} {out = out} (Contains-filter (is_kept names) c.equations (Latch name out p) h)
place_uncut names c p (IsPlace.from {out = out} h) = IsPlace.from {out = out} (Contains-filter (is_kept names) c.equations (Port out p) h)

-- the latches of the names become inputs and outputs in the same way
module _ {P Q : Type 0} (to : P → Q) (es : List (Equation P)) (fs : List (Equation Q)) (same : map (moved to) (latch_rows es) ≡ latch_rows fs) where
  named_latch : (name : List ℕ) → option_map (moved_pair to) (latch_named es name) ≡ latch_named fs name
  named_latch name =
      ap (option_map (moved_pair to)) (latch_named_rows es name) ∙ sym (latch_named_moved to (latch_rows es) name)
      ∙ ap (λ (xs : List (Equation Q)). latch_named xs name) same ∙ sym (latch_named_rows fs name)

  pub firsts : (names : List (List ℕ)) → map (moved_name to) (filter_map (λ name. named_at name (first_of_pair (latch_named es name))) names) ≡ filter_map (λ name. named_at name (first_of_pair (latch_named fs name))) names
  firsts [] = refl
  firsts (name ∷ names) =
      cons_moved (moved_name to) (named_at name (first_of_pair (latch_named es name))) (filter_map (λ name. named_at name (first_of_pair (latch_named es name))) names)
      ∙ ap₂ (λ (o : Option (Named Q)) (xs : List (Named Q)). cons_option o xs) (by (latch_named es name) ∙ ap (λ (o : Option (Q × Q)). named_at name (first_of_pair o)) (named_latch name)) (firsts names)
    where
      by : (o : Option (P × P)) → option_map (moved_name to) (named_at name (first_of_pair o)) ≡ named_at name (first_of_pair (option_map (moved_pair to) o))
      by None = refl
      by (Some x) = refl

  pub seconds : (names : List (List ℕ)) → map (moved_name to) (filter_map (λ name. named_at name (second_of_pair (latch_named es name))) names) ≡ filter_map (λ name. named_at name (second_of_pair (latch_named fs name))) names
  seconds [] = refl
  seconds (name ∷ names) =
      cons_moved (moved_name to) (named_at name (second_of_pair (latch_named es name))) (filter_map (λ name. named_at name (second_of_pair (latch_named es name))) names)
      ∙ ap₂ (λ (o : Option (Named Q)) (xs : List (Named Q)). cons_option o xs) (by (latch_named es name) ∙ ap (λ (o : Option (Q × Q)). named_at name (second_of_pair o)) (named_latch name)) (seconds names)
    where
      by : (o : Option (P × P)) → option_map (moved_name to) (named_at name (second_of_pair o)) ≡ named_at name (second_of_pair (option_map (moved_pair to) o))
      by None = refl
      by (Some x) = refl

  pub rows_kept : (names : List (List ℕ)) → map (moved to) (latch_rows (filter (is_kept names) es)) ≡ latch_rows (filter (is_kept names) fs)
  rows_kept names = ap (map (moved to)) (rows_filtered names es) ∙ filter_moved names to (latch_rows es) ∙ ap (filter (is_kept names)) same ∙ sym (rows_filtered names fs)

module _ {P Q : Type 0} (a : Circuit P) (b : Circuit Q) (to : P → Q) (back : Q → P) (r : AreRenumbered a b to back) where
  kept_there : (names : List (List ℕ)) (e : Equation P) → Contains (filter (is_kept names) a.equations) e → Contains (filter (is_kept names) b.equations) (moved to e)
  kept_there names e h =
      filter_in (is_kept names) b.equations (moved to e) (r.there e (Contains-filter (is_kept names) a.equations e h))
      (kept_moved names to e ∙ filter_test (is_kept names) a.equations e h)

module _ {P Q : Type 0} (a : Circuit P) (b : Circuit Q) (to : P → Q) (back : Q → P) (r : AreRenumbered a b to back) where
  -- the cut circuits are renumbered
  pub cut_carried : (names : List (List ℕ)) → AreRenumbered (cut names a) (cut names b) to back
  unfolding cut
  cut_carried names = record {
    inputs = map-append (moved_name to) a.inputs (filter_map (λ name. named_at name (first_of_pair (latch_named a.equations name))) names) ∙ ap₂ (λ (xs ys : List (Named Q)). xs ++ ys) r.inputs (firsts to a.equations b.equations r.latches names);
    outputs = map-append (moved_name to) a.outputs (filter_map (λ name. named_at name (second_of_pair (latch_named a.equations name))) names) ∙ ap₂ (λ (xs ys : List (Named Q)). xs ++ ys) r.outputs (seconds to a.equations b.equations r.latches names);
    latches = rows_kept to a.equations b.equations r.latches names;
    starts = r.starts;
    starts_from = r.starts_from;
    there = kept_there a b to back r names;
    from = kept_there b a back to (turned a b to back r) names;
    there_and_back = λ p h. r.there_and_back p (place_uncut names a p h);
    back_and_there = λ q h. r.back_and_there q (place_uncut names b q h);
  }

  -- trees
  number : (inputs : List (Named P)) (order : List ℕ) (p : P) (i : ℕ) → StandsBeside inputs order p i → StandsBeside (map (moved_name to) inputs) order (to p) i
  number [] order p i h = absurd h
  number (x ∷ inputs) [] p i h = absurd h
  number (x ∷ inputs) (j ∷ order) p i (inl h) = inl (ap to h.0, h.1)
  number (x ∷ inputs) (j ∷ order) p i (inr h) = inr (number inputs order p i h)

  mutual
    tree_there : (order : List ℕ) {p : P} {k d : ℕ} {tree : Tree ℕ} → Unfolds a order p k d tree → Unfolds b order (to p) k d tree
    tree_there order (Unfolds.input {p = p} {i = i} h) = Unfolds.input (subst (λ (xs : List (Named Q)). StandsBeside xs order (to p) i) r.inputs (number a.inputs order p i h))
    tree_there order (Unfolds.gate {out = out} {fanins = fanins} {cover = cover} h each) = Unfolds.gate {fanins = map to fanins} {cover = cover} (r.there (Gate out fanins cover) h) (trees_there order each)
    tree_there order (Unfolds.port {out = out} {from = from} h rest) = Unfolds.port (r.there (Port out from) h) (tree_there order rest)
    tree_there order (Unfolds.latch {name = name} {out = out} {next = next} h rest) = Unfolds.latch {name = name} (r.there (Latch name out next) h) (tree_there order rest)

    trees_there : (order : List ℕ) {ps : List P} {k d : ℕ} {trees : Trees ℕ} → UnfoldsAll a order ps k d trees → UnfoldsAll b order (map to ps) k d trees
    trees_there order UnfoldsAll.none = UnfoldsAll.none
    trees_there order (UnfoldsAll.more one rest) = UnfoldsAll.more (tree_there order one) (trees_there order rest)

  pub tree_forth : (order : List ℕ) {p : P} {k d : ℕ} {tree : Tree ℕ} → Unfolds a order p k d tree → Unfolds b order (to p) k d tree
  tree_forth order h = tree_there order h

module _ {P Q : Type 0} (a : Circuit P) (b : Circuit Q) (to : P → Q) (back : Q → P) (r : AreRenumbered a b to back) where
  pub tree_carried : (order : List ℕ) (p : P) (k d : ℕ) (tree : Tree ℕ) → IsPlace a p → Unfolds a order p k d tree ↔ Unfolds b order (to p) k d tree
  tree_carried order p k d tree at = (
    λ h. tree_forth a b to back r order h,
    λ h. subst (λ (q : P). Unfolds a order q k d tree) (r.there_and_back p at) (tree_forth b a back to (turned a b to back r) order h),
  )

-- minimal cuts of two circuits
minimal_there : {P Q P' Q' : Type 0} (a : Circuit P) (b : Circuit Q) (c : Circuit P') (e : Circuit Q') (to : P → P') (back : P' → P) (go : Q → Q') (come : Q' → Q) → AreRenumbered a c to back → AreRenumbered b e go come →
    (names : List (List ℕ)) → IsMinimalCut Plain a b names → IsMinimalCut Plain c e names
minimal_there a b c e to back go come r s names m = record {
  common = λ name h. (let x = m.common name h in (to x.0, to x.1, go x.2, go x.3, r.there (Latch name x.0 x.1) x.4, s.there (Latch name x.2 x.3) x.5));
  left_free = λ h. m.left_free (cycle c a back (forth c a back to (turned a c to back r)) names h);
  right_free = λ h. m.right_free (cycle e b come (forth e b come go (turned b e go come s)) names h);
  needed = λ i h. by i (m.needed i h);
}
  where
    by : (i : ℕ) → HasCycle a NoneEnabled (without names i) ⊎ HasCycle b NoneEnabled (without names i) → HasCycle c NoneEnabled (without names i) ⊎ HasCycle e NoneEnabled (without names i)
    by i (inl h) = inl (cycle a c to (forth a c to back r) (without names i) h)
    by i (inr h) = inr (cycle b e go (forth b e go come s) (without names i) h)

pub cuts_are_carried : CutsAreCarried
cuts_are_carried a b to back r names = cut_carried a b to back r names

pub trees_are_carried : TreesAreCarried
trees_are_carried a b to back r order p k d tree at = tree_carried a b to back r order p k d tree at

pub minimal_cuts_are_carried : MinimalCutsAreCarried
minimal_cuts_are_carried a b c e to back go come r s names = (
  minimal_there a b c e to back go come r s names,
  minimal_there c e a b back to come go (turned a c to back r) (turned b e go come s) names,
)
