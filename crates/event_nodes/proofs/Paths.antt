-- Paths of event nodes, while the table of nodes grows.
use Rattle.std.proofs.Common.{◌≡◌, ◌∙◌, ◌+◌, ◌<◌, ◌≤◌, ℕ, zero, suc, List, [], ◌∷◌, ◌++◌, length, map, get_or, slice_get, Some, refl, sym, ap, subst, arith, length-append, append-nil, append_assoc}
use Rattle.std.proofs.lemmas.List.{get_or_append_left, get_or-append-add, map-append}
use Rattle.std.proofs.lemmas.List.Elements.{All-contains}
use Rattle.std.proofs.lemmas.Option.{none-some, same_Some}
use Rattle.flat_net.proofs.circuit_theory.Lists.{map_same}
use Rattle.event_nodes.specs.Nodes.{paths_from, paths_of, path_of, IsChild, IsTree, EventGraphView, named_places, IsEventGraph, GrowsEvents}

-- the paths so far with the next one
abbrev next_made : List (List ℕ) → ℕ × ℕ → List (List ℕ)
next_made made e = made ++ (e.1 ∷ get_or made e.0 []) ∷ []

next_length : (made : List (List ℕ)) (e : ℕ × ℕ) → length (next_made made e) ≡ length made + 1
next_length made e = length-append made ((e.1 ∷ get_or made e.0 []) ∷ [])

-- each entry gives one path more
pub from_grows : (made : List (List ℕ)) (es : List (ℕ × ℕ)) → (rest : List (List ℕ)) × (paths_from made es ≡ made ++ rest) × (length rest ≡ length es)
from_grows made [] = ([], sym (append-nil made), refl)
from_grows made (e ∷ es) =
    let k = from_grows (next_made made e) es in
    ((e.1 ∷ get_or made e.0 []) ∷ k.0, k.1 ∙ append_assoc made ((e.1 ∷ get_or made e.0 []) ∷ []) k.0, ap suc k.2)

pub from_prefix : (made : List (List ℕ)) (es : List (ℕ × ℕ)) (n : ℕ) → n < length made → get_or (paths_from made es) n [] ≡ get_or made n []
from_prefix made es n h = let k = from_grows made es in ap (λ (l : List (List ℕ)). get_or l n []) k.1 ∙ get_or_append_left made k.0 [] n h

pub from_append : (made : List (List ℕ)) (es more : List (ℕ × ℕ)) → paths_from made (es ++ more) ≡ paths_from (paths_from made es) more
from_append made [] more = refl
from_append made (e ∷ es) more = from_append (next_made made e) es more

pub paths_length : (es : List (ℕ × ℕ)) → length (paths_of es) ≡ 1 + length es
paths_length es = let k = from_grows ([] ∷ []) es in let e = ap length k.1 in let f = length-append {A = List ℕ} ([] ∷ []) k.0 in omega (arith, e, f, k.2)

-- a node keeps its path
pub path_grows : (es more : List (ℕ × ℕ)) (n : ℕ) → n ≤ length es → path_of (es ++ more) n ≡ path_of es n
path_grows es more n h =
    ap (λ (l : List (List ℕ)). get_or l n []) (from_append ([] ∷ []) es more) ∙ from_prefix (paths_of es) more n (omega (arith, h, paths_length es))

entry_path : (made : List (List ℕ)) (es : List (ℕ × ℕ)) (k n c : ℕ) → slice_get es k ≡ Some (n, c) → n < length made + k → get_or (paths_from made es) (length made + k) [] ≡ c ∷ get_or (paths_from made es) n []
entry_path made [] k n c h below = absurd (none-some (n, c) h)
entry_path made (e ∷ es) zero n c h below =
    let is : e ≡ (n, c) = same_Some e (n, c) h in
    let inside : n < length made = omega (arith, below) in
    let top : get_or (paths_from (next_made made e) es) (length made + 0) [] ≡ get_or (next_made made e) (length made + 0) [] = from_prefix (next_made made e) es (length made + 0) (omega (arith, next_length made e)) in
    let here : get_or (next_made made e) (length made + 0) [] ≡ e.1 ∷ get_or made e.0 [] = get_or-append-add made ((e.1 ∷ get_or made e.0 []) ∷ []) 0 [] in
    let parent : get_or (paths_from (next_made made e) es) n [] ≡ get_or made n [] =
    from_prefix (next_made made e) es n (omega (arith, inside, next_length made e)) ∙ get_or_append_left made ((e.1 ∷ get_or made e.0 []) ∷ []) [] n inside in
    top ∙ here ∙ ap (λ (p : ℕ × ℕ). p.1 ∷ get_or made p.0 []) is ∙ ap (λ (l : List ℕ). c ∷ l) (sym parent)
entry_path made (e ∷ es) (suc k) n c h below =
    let same : length (next_made made e) + k ≡ length made + suc k = omega (arith, next_length made e) in
    subst (λ (m : ℕ). get_or (paths_from (next_made made e) es) m [] ≡ c ∷ get_or (paths_from (next_made made e) es) n []) same
    (entry_path (next_made made e) es k n c h (omega (arith, below, next_length made e)))

-- a child's path has one step more
pub child_path : (es : List (ℕ × ℕ)) → IsTree es → (n class m : ℕ) → IsChild es n class m → path_of es m ≡ class ∷ path_of es n
child_path es tree n class m child =
    let below = tree child.0 n class child.2 in
    subst (λ (k : ℕ). path_of es k ≡ class ∷ path_of es n) (let e : 1 + child.0 ≡ m = omega (arith, child.1) in e) (entry_path ([] ∷ []) es child.0 n class child.2 (omega (arith, below)))

-- the variables keep their places
pub named_grows : (w v : EventGraphView) → IsEventGraph w → GrowsEvents w v → (rest : List (ℕ × List ℕ)) × (named_places v ≡ named_places w ++ rest)
named_grows w v is grows =
    let f : ℕ × ℕ → ℕ × List ℕ = λ p. (p.0, path_of v.children p.1) in
    let g : ℕ × ℕ → ℕ × List ℕ = λ p. (p.0, path_of w.children p.1) in
    let old : map f w.places ≡ map g w.places =
    map_same f g w.places (λ p h. ap (λ (l : List ℕ). (p.0, l)) (ap (λ (es : List (ℕ × ℕ)). path_of es p.1) grows.children.1 ∙ path_grows w.children grows.children.0 p.1 (All-contains (λ (q : ℕ × ℕ). q.1 ≤ length w.children) w.places p is.placed h))) in
    (map f grows.places.0, ap (map f) grows.places.1 ∙ map-append f w.places grows.places.0 ∙ ap (λ (l : List (ℕ × List ℕ)). l ++ map f grows.places.0) old)
