-- One more place of a cube, and one more row of a cover.
use Rattle.std.proofs.Common.{◌≡◌, ℕ, zero, suc, ◌+◌, ◌*◌, ◌<◌, ◌≤◌, List, [], ◌∷◌, length, map, drop, get_or, Some, refl, sym, ap, subst, ◌∙◌, arith, drop-cons, add-one}
use Rattle.std.proofs.lemmas.Option.{slice_get-get_or, get_or_from_slice_get}
use Rattle.aig.specs.declared.node.Lit.{Lit}
use Rattle.aig.specs.declared.node.Node.{Node}
use Rattle.aig.specs.Graph.{Grows, flip}
use Rattle.aig.specs.Rules.{place_lit, IsPlaceOf, IsAndOf, IsCubeOf, IsRowOf, AreRowsOf}
use Rattle.aig.proofs.Growth.{IsPlaceOf-grows, IsCubeOf-grows, IsRowOf-grows}

-- the literals' numbers
pub numbers-drop : (fs : List Lit) (i : ℕ) (d : Lit) → i < length fs → drop i (map (λ f. f.0) fs) ≡ (get_or fs i d).0 ∷ drop (i + 1) (map (λ f. f.0) fs)
numbers-drop [] i d h = absurd (omega arith)
numbers-drop (f ∷ fs) zero d h = refl
numbers-drop (f ∷ fs) (suc i) d h =
    numbers-drop fs i d (omega arith) ∙ ap (λ (k : ℕ). (get_or fs i d).0 ∷ drop k (map (λ k. k.0) (f ∷ fs))) e
  where
    e : suc (i + 1) ≡ suc i + 1
    e = omega arith

pub drop-next : {X : Type 0} (xs : List X) (i : ℕ) (d : X) → i < length xs → drop i xs ≡ get_or xs i d ∷ drop (i + 1) xs
drop-next xs i d h = drop-cons xs i d h ∙ ap (λ (k : ℕ). get_or xs i d ∷ drop k xs) (sym (add-one i))

pub cube-step : (g h : List Node) (from : ℕ) (places : List ℕ) (fs : List Lit) (i : ℕ) (p : ℕ) (f d : Lit) (y x : ℕ) → p ≡ get_or places i 0 → f ≡ get_or fs i d → i < length places → i < length fs → IsPlaceOf g from (place_lit p f.0) y → Grows g h →
    IsCubeOf h y (drop (i + 1) places) (drop (i + 1) (map (λ f. f.0) fs)) x → IsCubeOf h from (drop i places) (drop i (map (λ f. f.0) fs)) x
cube-step g h from places fs i p f d y x place fanin in_places in_fanins is grows rest =
    let whole : IsCubeOf h from (p ∷ drop (i + 1) places) (f.0 ∷ drop (i + 1) (map (λ f. f.0) fs)) x = (y, IsPlaceOf-grows g h grows from (place_lit p f.0) y is, rest) in
    let at_places : p ∷ drop (i + 1) places ≡ drop i places = ap (λ (q : ℕ). q ∷ drop (i + 1) places) place ∙ sym (drop-next places i 0 in_places) in
    let at_fanins : f.0 ∷ drop (i + 1) (map (λ f. f.0) fs) ≡ drop i (map (λ f. f.0) fs) = ap (λ (k : Lit). k.0 ∷ drop (i + 1) (map (λ f. f.0) fs)) fanin ∙ sym (numbers-drop fs i d in_fanins) in
    subst (λ (ps : List ℕ). IsCubeOf h from ps (drop i (map (λ f. f.0) fs)) x) at_places (subst (λ (ks : List ℕ). IsCubeOf h from (p ∷ drop (i + 1) places) ks x) at_fanins whole)

pub rows-step : (g h : List Node) (from : ℕ) (rows : List (List ℕ)) (fs : List ℕ) (i : ℕ) (row : List ℕ) (y x : ℕ) → row ≡ get_or rows i [] → i < length rows → IsRowOf g from row fs y → Grows g h →
    AreRowsOf h y (drop (i + 1) rows) fs x → AreRowsOf h from (drop i rows) fs x
rows-step g h from rows fs i row y x here within is grows rest =
    let whole : AreRowsOf h from (row ∷ drop (i + 1) rows) fs x = (y, IsRowOf-grows g h grows from row fs y is, rest) in
    let at : row ∷ drop (i + 1) rows ≡ drop i rows = ap (λ (r : List ℕ). r ∷ drop (i + 1) rows) here ∙ sym (drop-next rows i [] within) in
    subst (λ (rs : List (List ℕ)). AreRowsOf h from rs fs x) at whole

-- a row's literal by the complements
pub row-is : (g h : List Node) → Grows g h → (from : ℕ) (row fs : List ℕ) (y l r z x : ℕ) → IsCubeOf g 1 row fs y → l ≡ flip from → r ≡ flip y → IsAndOf h l r z → x ≡ flip z → IsRowOf h from row fs x
row-is g h grows from row fs y l r z x cube left right is e =
    (y, IsCubeOf-grows g h grows 1 row fs y cube, (z, subst (λ (k : ℕ). IsAndOf h k (flip y) z) left (subst (λ (k : ℕ). IsAndOf h l k z) right is), e))

-- the nodes that one more row may add
pub rows-more : (start before after i width row : ℕ) → row ≡ width → before ≤ start + i * (width + 1) → after ≤ before + row + 1 → after ≤ start + (i + 1) * (width + 1)
rows-more start before after i width row same so_far here = omega (arith, right_distrib i width)
  where
    right_distrib : (i width : ℕ) → (i + 1) * (width + 1) ≡ i * (width + 1) + (width + 1)
    right_distrib i width = grind arith

-- no row is left
pub rows-done : (g : List Node) (from : ℕ) (rows : List (List ℕ)) (fs : List ℕ) (i : ℕ) → length rows ≤ i → AreRowsOf g from (drop i rows) fs from
rows-done g from [] fs zero h = refl
rows-done g from [] fs (suc i) h = refl
rows-done g from (row ∷ rows) fs zero h = absurd (omega arith)
rows-done g from (row ∷ rows) fs (suc i) h = rows-done g from rows fs i (omega arith)

-- the row at a place
pub row-at : (rows : List (List ℕ)) (i : ℕ) (row : List ℕ) → i < length rows → row ≡ get_or rows i row → row ≡ get_or rows i []
row-at rows i row within is = sym (get_or_from_slice_get rows i row [] (slice_get-get_or rows i row within ∙ ap Some (sym is)))
