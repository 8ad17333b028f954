-- One more place of a cube that is made, and one more row of a cover.
use Rattle.std.proofs.Common.{◌≡◌, ℕ, zero, suc, ◌+◌, ◌<◌, ◌≤◌, List, [], ◌∷◌, length, map, drop, get_or, Result, Ok, Err, refl, sym, ap, subst, ◌∙◌, arith}
use Rattle.std.specs.Prelude.{IfOk, MatchResult}
use Rattle.aig.specs.declared.node.Lit.{Lit}
use Rattle.aig.specs.declared.node.Node.{Node}
use Rattle.aig.specs.Rules.{place_lit, IsAndOf, IsWithAnd}
use Rattle.aig.proofs.Folds.{numbers-drop, drop-next}
use Rattle.aig.specs.Making.{MakesAnd, MakesPlace, MakesCube, MakesRow, MakesRows}

-- an and, by both clauses of the call
pub and_made : {E : Type 0} (g h : List Node) (l r : ℕ) (made : Result Lit E) → IfOk made (λ x. IsAndOf h l r x.0) → MatchResult made (λ x. IsWithAnd g l r h) (λ e. h ≡ g) → IfOk made (λ x. MakesAnd g l r h x.0)
and_made g h l r (Ok x) is with = (with, is)
and_made g h l r (Err e) is same = is

pub cube_step : (g k h : List Node) (from : ℕ) (places : List ℕ) (fs : List Lit) (i : ℕ) (p : ℕ) (f d : Lit) (y x : ℕ) → p ≡ get_or places i 0 → f ≡ get_or fs i d → i < length places → i < length fs → MakesPlace g from (place_lit p f.0) k y →
    MakesCube k y (drop (i + 1) places) (drop (i + 1) (map (λ f. f.0) fs)) h x → MakesCube g from (drop i places) (drop i (map (λ f. f.0) fs)) h x
cube_step g k h from places fs i p f d y x place fanin in_places in_fanins made rest =
    let whole : MakesCube g from (p ∷ drop (i + 1) places) (f.0 ∷ drop (i + 1) (map (λ f. f.0) fs)) h x = (k, y, made, rest) in
    let at_places : p ∷ drop (i + 1) places ≡ drop i places = ap (λ (q : ℕ). q ∷ drop (i + 1) places) place ∙ sym (drop-next places i 0 in_places) in
    let at_fanins : f.0 ∷ drop (i + 1) (map (λ f. f.0) fs) ≡ drop i (map (λ f. f.0) fs) = ap (λ (l : Lit). l.0 ∷ drop (i + 1) (map (λ f. f.0) fs)) fanin ∙ sym (numbers-drop fs i d in_fanins) in
    subst (λ (ps : List ℕ). MakesCube g from ps (drop i (map (λ f. f.0) fs)) h x) at_places (subst (λ (ks : List ℕ). MakesCube g from (p ∷ drop (i + 1) places) ks h x) at_fanins whole)

nothing_left : (xs : List ℕ) (i : ℕ) → length xs ≤ i → drop i xs ≡ []
nothing_left [] zero h = refl
nothing_left [] (suc i) h = refl
nothing_left (x ∷ xs) zero h = absurd (omega arith)
nothing_left (x ∷ xs) (suc i) h = nothing_left xs i (omega arith)

-- no place is left
pub cube_done : (g : List Node) (from : ℕ) (places fs : List ℕ) (i : ℕ) → length places ≤ i → length fs ≤ i → MakesCube g from (drop i places) (drop i fs) g from
cube_done g from places fs i h k =
    subst (λ (ps : List ℕ). MakesCube g from ps (drop i fs) g from) (sym (nothing_left places i h)) (subst (λ (ls : List ℕ). MakesCube g from [] ls g from) (sym (nothing_left fs i k)) (refl, refl))

pub rows_step : (g k h : List Node) (from : ℕ) (rows : List (List ℕ)) (fs : List ℕ) (i : ℕ) (row : List ℕ) (y x : ℕ) → row ≡ get_or rows i [] → i < length rows → MakesRow g from row fs k y →
    MakesRows k y (drop (i + 1) rows) fs h x → MakesRows g from (drop i rows) fs h x
rows_step g k h from rows fs i row y x here within made rest =
    let whole : MakesRows g from (row ∷ drop (i + 1) rows) fs h x = (k, y, made, rest) in
    let at : row ∷ drop (i + 1) rows ≡ drop i rows = ap (λ (r : List ℕ). r ∷ drop (i + 1) rows) here ∙ sym (drop-next rows i [] within) in
    subst (λ (rs : List (List ℕ)). MakesRows g from rs fs h x) at whole

-- no row is left
pub rows_done : (g : List Node) (from : ℕ) (rows : List (List ℕ)) (fs : List ℕ) (i : ℕ) → length rows ≤ i → MakesRows g from (drop i rows) fs g from
rows_done g from [] fs zero h = (refl, refl)
rows_done g from [] fs (suc i) h = (refl, refl)
rows_done g from (row ∷ rows) fs zero h = absurd (omega arith)
rows_done g from (row ∷ rows) fs (suc i) h = rows_done g from rows fs i (omega arith)
