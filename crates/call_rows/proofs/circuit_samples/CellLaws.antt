-- The circuit of a list of cells: what drives each signal, its tree, and when it is settled.
use Rattle.std.proofs.Common.{◌≡◌, ℕ, zero, suc, ◌+◌, ◌-◌, ◌<◌, ◌≤◌, max, Bool, true, false, List, [], ◌∷◌, length, get_or, map, refl, sym, ◌∙◌, ap, subst, arith, inl, inr, Option, Some, None, slice_get}
use Rattle.std.specs.Prelude.{◌⊎◌, ◌↔◌, ◌&&◌, IsTrue, nat_lt}
use Rattle.std.specs.List.{Contains, cons_option}
use Rattle.std.proofs.lemmas.Option.{slice_get-get_or}
use Rattle.call_rows.specs.declared.circuit_samples.cells.Cell.{Cell}
use Rattle.call_rows.specs.declared.circuit_samples.cells.Cell.TheVariants.{Input, Delay, Nand}
use Rattle.circuit_theory.specs.declared.Mode.TheVariants.{Plain}
use Rattle.circuit_theory.specs.Circuit.{Equation, Gate, Latch, Named, IsInput, IsLatch, IsSingleDriven, out_of}
use Rattle.circuit_theory.specs.Run.{Marked, NoneEnabled}
use Rattle.circuit_theory.specs.Depth.{IsDepth}
use Rattle.circuit_theory.specs.Tree.{Tree, Leaf, Branch, Nil, Cons, Unfolds, UnfoldsAll, StandsBeside}
use Rattle.circuit_theory.specs.Agree.{IsSettled}
use Rattle.call_rows.specs.circuit_samples.Cells.{nand_cover, cell_input, cell_equation, from_cells, circuit_of, numbers_of}
use Rattle.circuit_theory.proofs.Lists.{Contains-head, Contains-tail, Contains-cases}
use Rattle.circuit_laws.proofs.TreeDepth.{tree_depth}
use Rattle.circuit_laws.proofs.Marks.{marked_says}

some_is : {X : Type 0} {x y : X} → Some x ≡ Some y → x ≡ y
some_is q = cc

-- what an index reads stands there
pub cell_at : (cells : List Cell) (n : ℕ) (cell : Cell) → get_or cells n Input ≡ cell → n < length cells → slice_get cells n ≡ Some cell
cell_at cells n cell e h = slice_get-get_or cells n Input h ∙ ap Some e

-- each thing that the cells give comes from a cell with its number
from_says : {X : Type 0} (f : ℕ → Cell → Option X) (n : ℕ) (cells : List Cell) (x : X) → Contains (from_cells f n cells) x → (i : ℕ) × (cell : Cell) × (slice_get cells i ≡ Some cell) × (f (n + i) cell ≡ Some x)
from_says f n [] x h = absurd (omega (arith, h.1))
from_says {X} f n (cell ∷ cells) x h = go (f n cell) refl (λ k. from_says f (suc n) cells x k)
  where
    Found : Type 0
    Found = (i : ℕ) × (d : Cell) × (slice_get (cell ∷ cells) i ≡ Some d) × (f (n + i) d ≡ Some x)

    Later : Type 0
    Later = (i : ℕ) × (d : Cell) × (slice_get cells i ≡ Some d) × (f (suc n + i) d ≡ Some x)

    further : Later → Found
    further r = (suc r.0, r.1, r.2, ap (λ m. f m r.1) (let e : n + suc r.0 ≡ suc n + r.0 = omega arith in e) ∙ r.3)

    go : (o : Option X) → f n cell ≡ o → (Contains (from_cells f (suc n) cells) x → Later) → Found
    go None e later = further (later (subst (λ (xs : List X). Contains xs x) (ap (λ p. cons_option p (from_cells f (suc n) cells)) e) h))
    go (Some y) e later = pick (Contains-cases y x (from_cells f (suc n) cells) (subst (λ (xs : List X). Contains xs x) (ap (λ p. cons_option p (from_cells f (suc n) cells)) e) h))
      where
        pick : (y ≡ x) ⊎ Contains (from_cells f (suc n) cells) x → Found
        pick (inl q) = (0, cell, refl, ap (λ m. f m cell) (let z : n + 0 ≡ n = omega arith in z) ∙ (e ∙ ap Some q))
        pick (inr k) = further (later k)

from_has : {X : Type 0} (f : ℕ → Cell → Option X) (n : ℕ) (cells : List Cell) (i : ℕ) (cell : Cell) (x : X) → slice_get cells i ≡ Some cell → f (n + i) cell ≡ Some x → Contains (from_cells f n cells) x
from_has f n [] i cell x h e = absurd (nothing i h)
  where
    nothing : (i : ℕ) → slice_get [] i ≡ Some cell → ⊥
    nothing zero q = cc
    nothing (suc i) q = cc
from_has {X} f n (d ∷ cells) zero cell x h e =
    subst (λ (xs : List X). Contains xs x) (sym (ap (λ p. cons_option p (from_cells f (suc n) cells)) here)) (Contains-head x (from_cells f (suc n) cells))
  where
    here : f n d ≡ Some x
    here = ap (λ m. f m d) (let z : n ≡ n + 0 = omega arith in z) ∙ (ap (f (n + 0)) (some_is h) ∙ e)
from_has {X} f n (d ∷ cells) (suc i) cell x h e = go (f n d) refl (from_has f (suc n) cells i cell x h (ap (λ m. f m cell) (let z : suc n + i ≡ n + suc i = omega arith in z) ∙ e))
  where
    go : (o : Option X) → f n d ≡ o → Contains (from_cells f (suc n) cells) x → Contains (from_cells f n (d ∷ cells)) x
    go None q k = subst (λ (xs : List X). Contains xs x) (sym (ap (λ p. cons_option p (from_cells f (suc n) cells)) q)) k
    go (Some y) q k = subst (λ (xs : List X). Contains xs x) (sym (ap (λ p. cons_option p (from_cells f (suc n) cells)) q)) (Contains-tail y x _ k)

out_is : (n : ℕ) (cell : Cell) (e : Equation ℕ) → cell_equation n cell ≡ Some e → out_of e ≡ n
out_is n Input e h = cc
out_is n (Delay from) e h = sym (ap out_of (some_is h))
out_is n (Nand left right) e h = sym (ap out_of (some_is h))

place_is : (n : ℕ) (cell : Cell) (i : Named ℕ) → cell_input n cell ≡ Some i → (cell ≡ Input) × (i.place ≡ n)
place_is n Input i h = (refl, sym (ap (λ (j : Named ℕ). j.place) (some_is h)))
place_is n (Delay from) i h = cc
place_is n (Nand left right) i h = cc

pub cell_single : (cells : List Cell) → IsSingleDriven (circuit_of cells)
cell_single cells = record { one = one; no_input = no_input }
  where
    number : (i : ℕ) → 0 + i ≡ i
    number i = omega arith

    one : (e f : Equation ℕ) → Contains (circuit_of cells).equations e → Contains (circuit_of cells).equations f → out_of e ≡ out_of f → e ≡ f
    one e f h k q =
        let x = from_says cell_equation 0 cells e h in
        let y = from_says cell_equation 0 cells f k in
        let at_x = out_is (0 + x.0) x.1 e x.3 in
        let at_y = out_is (0 + y.0) y.1 f y.3 in
        let same : x.0 ≡ y.0 = sym (number x.0) ∙ (sym at_x ∙ (q ∙ (at_y ∙ number y.0))) in
        let cell : x.1 ≡ y.1 = some_is (sym x.2 ∙ (ap (slice_get cells) same ∙ y.2)) in
        some_is (sym x.3 ∙ (ap (λ n. cell_equation (0 + n) x.1) same ∙ (ap (cell_equation (0 + y.0)) cell ∙ y.3)))

    no_input : (e : Equation ℕ) → Contains (circuit_of cells).equations e → IsInput (circuit_of cells) (out_of e) → ⊥
    no_input e h i =
        let x = from_says cell_equation 0 cells e h in
        let y = from_says cell_input 0 cells (record { name = i.0; place = out_of e }) i.1 in
        let at_x = out_is (0 + x.0) x.1 e x.3 in
        let at_y = place_is (0 + y.0) y.1 (record { name = i.0; place = out_of e }) y.3 in
        let same : y.0 ≡ x.0 = sym (number y.0) ∙ (sym at_y.1 ∙ (at_x ∙ number x.0)) in
        let cell : Input ≡ x.1 = sym at_y.0 ∙ some_is (sym y.2 ∙ (ap (slice_get cells) same ∙ x.2)) in
        wrong (ap (cell_equation (0 + x.0)) cell ∙ x.3)
      where
        wrong : None ≡ Some e → ⊥
        wrong q = cc

-- an input has its signal as its number
beside_itself : (inputs : List (Named ℕ)) (i : Named ℕ) → Contains inputs i → StandsBeside inputs (map (λ j. j.place) inputs) i.place i.place
beside_itself [] i h = absurd (omega (arith, h.1))
beside_itself (j ∷ inputs) i h = go (Contains-cases j i inputs h) (λ k. beside_itself inputs i k)
  where
    go : (j ≡ i) ⊎ Contains inputs i → (Contains inputs i → StandsBeside inputs (map (λ j. j.place) inputs) i.place i.place) → StandsBeside (j ∷ inputs) (map (λ j. j.place) (j ∷ inputs)) i.place i.place
    go (inl q) later = inl (ap (λ (k : Named ℕ). k.place) q, ap (λ (k : Named ℕ). k.place) q)
    go (inr k) later = inr (later k)

pub input_here : (cells : List Cell) (n : ℕ) → slice_get cells n ≡ Some Input → IsInput (circuit_of cells) n
input_here cells n h = (n ∷ [], from_has cell_input 0 cells n Input (record { name = n ∷ []; place = n }) h (ap (λ m. cell_input m Input) (let z : 0 + n ≡ n = omega arith in z)))

pub delay_here : (cells : List Cell) (n from : ℕ) → slice_get cells n ≡ Some (Delay from) → IsLatch (circuit_of cells) (n ∷ []) n from
delay_here cells n from h = from_has cell_equation 0 cells n (Delay from) (Latch (n ∷ []) n from) h (ap (λ m. cell_equation m (Delay from)) (let z : 0 + n ≡ n = omega arith in z))

pub nand_here : (cells : List Cell) (n left right : ℕ) → slice_get cells n ≡ Some (Nand left right) → Contains (circuit_of cells).equations (Gate n (left ∷ right ∷ []) nand_cover)
nand_here cells n left right h =
    from_has cell_equation 0 cells n (Nand left right) (Gate n (left ∷ right ∷ []) nand_cover) h (ap (λ m. cell_equation m (Nand left right)) (let z : 0 + n ≡ n = omega arith in z))

-- the signal unfolds at each shift, and its deepest way passes so many latches
abbrev pub HasTrees : List Cell → ℕ → ℕ → Type 0
HasTrees cells n d = (k : ℕ) → (tree : Tree ℕ) × Unfolds (circuit_of cells) (numbers_of cells) n k d tree

pub input_trees : (cells : List Cell) (n : ℕ) → slice_get cells n ≡ Some Input → HasTrees cells n 0
input_trees cells n h k = let i = input_here cells n h in (Leaf n k, Unfolds.input (beside_itself (circuit_of cells).inputs (record { name = i.0; place = n }) i.1))

pub delay_trees : (cells : List Cell) (n from d : ℕ) → slice_get cells n ≡ Some (Delay from) → HasTrees cells from d → HasTrees cells n (d + 1)
delay_trees cells n from d h trees k =
    let below = trees (suc k) in
    (below.0, subst (λ e. Unfolds (circuit_of cells) (numbers_of cells) n k e below.0) (let z : suc d ≡ d + 1 = omega arith in z) (Unfolds.latch {name = n ∷ []} {next = from} (delay_here cells n from h) below.1))

pub nand_trees : (cells : List Cell) (n left right d e m : ℕ) → slice_get cells n ≡ Some (Nand left right) → HasTrees cells left d → HasTrees cells right e → m ≡ max d e → HasTrees cells n m
nand_trees cells n left right d e m h l r greater k =
    let a = l k in
    let b = r k in (
      Branch nand_cover (Cons a.0 (Cons b.0 Nil)),
      subst (λ x. Unfolds (circuit_of cells) (numbers_of cells) n k x (Branch nand_cover (Cons a.0 (Cons b.0 Nil)))) (let z : max d (max e 0) ≡ m = omega (arith, greater) in z)
          (Unfolds.gate {fanins = left ∷ right ∷ []} (nand_here cells n left right h) (UnfoldsAll.more a.1 (UnfoldsAll.more b.1 UnfoldsAll.none))),
    )

pub trees_depth : (cells : List Cell) (n d : ℕ) → HasTrees cells n d → IsDepth (circuit_of cells) NoneEnabled n d
trees_depth cells n d trees = let t = trees 0 in tree_depth (circuit_of cells) (cell_single cells) t.1

-- when the signal is settled, in each run
abbrev pub Tells : List Cell → ℕ → ℕ → Bool → Type 0
Tells cells n t b = (run : ℕ → ℕ → Bool) → IsTrue b ↔ IsSettled Plain (circuit_of cells) run t n

pub input_tells : (cells : List Cell) (n t : ℕ) → slice_get cells n ≡ Some Input → Tells cells n t true
input_tells cells n t h run = (λ x. Marked.input (input_here cells n h), λ m. refl)

pub early_tells : (cells : List Cell) (n from : ℕ) → slice_get cells n ≡ Some (Delay from) → Tells cells n 0 false
early_tells cells n from h run = (λ x. absurd (wrong x), λ m. let s = marked_says (circuit_of cells) run (cell_single cells) m (Latch (n ∷ []) n from) (delay_here cells n from h) refl in absurd (let z : 0 ≡ suc s.0 = s.1 in omega arith))
  where
    wrong : false ≡ true → ⊥
    wrong e = cc

pub delay_tells : (cells : List Cell) (n from t : ℕ) (b : Bool) → slice_get cells n ≡ Some (Delay from) → 0 < t → Tells cells from (t - 1) b → Tells cells n t b
delay_tells cells n from t b h late tells run = (there, back)
  where
    again : suc (t - 1) ≡ t
    again = omega arith

    there : IsTrue b → IsSettled Plain (circuit_of cells) run t n
    there x = subst (λ s. Marked (circuit_of cells) NoneEnabled run s n) again (Marked.plain {name = n ∷ []} {next = from} (delay_here cells n from h) (λ e. e) ((tells run).0 x))

    back : IsSettled Plain (circuit_of cells) run t n → IsTrue b
    back m =
        let s = marked_says (circuit_of cells) run (cell_single cells) m (Latch (n ∷ []) n from) (delay_here cells n from h) refl in
        (tells run).1 (subst (λ k. Marked (circuit_of cells) NoneEnabled run k from) (let z : s.0 ≡ t - 1 = omega (arith, s.1) in z) s.2)

pub nand_tells : (cells : List Cell) (n left right t : ℕ) (b d : Bool) → slice_get cells n ≡ Some (Nand left right) → Tells cells left t b → Tells cells right t d → Tells cells n t (b && d)
nand_tells cells n left right t b d h l r run = (λ x. let parts = both b d x in Marked.gate {fanins = left ∷ right ∷ []} {cover = nand_cover} (nand_here cells n left right h) (each parts), back)
  where
    both : (x y : Bool) → IsTrue (x && y) → IsTrue x × IsTrue y
    both true y z = (refl, z)
    both false y z = cc

    join : (x y : Bool) → IsTrue x → IsTrue y → IsTrue (x && y)
    join true y p q = q
    join false y p q = p

    each : IsTrue b × IsTrue d → (p : ℕ) → Contains (left ∷ right ∷ []) p → Marked (circuit_of cells) NoneEnabled run t p
    each parts p k = go (Contains-cases left p (right ∷ []) k)
      where
        last : (right ≡ p) ⊎ Contains [] p → Marked (circuit_of cells) NoneEnabled run t p
        last (inl q) = subst (Marked (circuit_of cells) NoneEnabled run t) q ((r run).0 parts.1)
        last (inr m) = absurd (omega (arith, m.1))

        go : (left ≡ p) ⊎ Contains (right ∷ []) p → Marked (circuit_of cells) NoneEnabled run t p
        go (inl q) = subst (Marked (circuit_of cells) NoneEnabled run t) q ((l run).0 parts.0)
        go (inr m) = last (Contains-cases right p [] m)

    back : IsSettled Plain (circuit_of cells) run t n → IsTrue (b && d)
    back m =
        let says = marked_says (circuit_of cells) run (cell_single cells) m (Gate n (left ∷ right ∷ []) nand_cover) (nand_here cells n left right h) refl in
        join b d ((l run).1 (says left (0, omega arith, refl))) ((r run).1 (says right (1, omega arith, refl)))

-- what a cell reads is a cell before it
pub before_within : (cells : List Cell) (n m : ℕ) → n < length cells → m < n → m < length cells
before_within cells n m h k = omega arith

pub none_tells : (cells : List Cell) (n from t : ℕ) → slice_get cells n ≡ Some (Delay from) → t ≤ 0 → Tells cells n t (nat_lt 0 t)
none_tells cells n from zero h le = early_tells cells n from h
none_tells cells n from (suc t) h le = absurd (omega arith)

-- the first fan-in is settled, and so the second tells
pub nand_last_tells : (cells : List Cell) (n left right t : ℕ) (b d : Bool) → slice_get cells n ≡ Some (Nand left right) → b ≡ true → Tells cells left t b → Tells cells right t d → Tells cells n t d
nand_last_tells cells n left right t b d h e l r = subst (λ x. Tells cells n t (x && d)) e (nand_tells cells n left right t b d h l r)

-- the first fan-in is not settled
pub nand_first_tells : (cells : List Cell) (n left right t : ℕ) (b : Bool) → slice_get cells n ≡ Some (Nand left right) → b ≡ false → Tells cells left t b → Tells cells n t b
nand_first_tells cells n left right t b h e l run = (λ x. absurd (wrong (sym x ∙ e)), λ m. back m)
  where
    wrong : true ≡ false → ⊥
    wrong q = cc

    back : IsSettled Plain (circuit_of cells) run t n → IsTrue b
    back m = (l run).1 (marked_says (circuit_of cells) run (cell_single cells) m (Gate n (left ∷ right ∷ []) nand_cover) (nand_here cells n left right h) refl left (0, omega arith, refl))
