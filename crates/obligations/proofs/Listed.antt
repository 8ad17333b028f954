-- The queries of all obligations as one list.
use Rattle.std.proofs.Common.{◌≡◌, ℕ, zero, suc, ◌+◌, ◌<◌, ◌≤◌, List, [], ◌∷◌, ◌++◌, length, take, get_or, slice_get, Some, None, refl, sym, ◌∙◌, ap, subst, arith, add-one, append_assoc, length-append, length-take}
use Rattle.std.specs.List.{All, AllZip}
use Rattle.std.proofs.lemmas.List.{append-nil, take_more}
use Rattle.std.proofs.lemmas.List.Elements.{All-nil, All-cons, All-head, All-tail}
use Rattle.std.proofs.lemmas.Option.{none-some, same_Some, slice_get_within, slice_get-get_or, get_or_from_slice_get}
use Rattle.obligations.specs.outcome.aig.Node.{Node}
use Rattle.obligations.proofs.outcome.aig.Growth.{slice_get-append}
use Rattle.obligations.specs.outcome.Query.{Query}
use Rattle.obligations.specs.outcome.Queries.{IsQuery}
use Rattle.obligations.specs.declared.obligation.Obligation.{Obligation}
use Rattle.obligations.specs.Asked.{AreAsked, queries_of}

-- what stands behind a list
pub slice_get-behind : {X : Type 0} (xs ys : List X) (i : ℕ) → slice_get (xs ++ ys) (length xs + i) ≡ slice_get ys i
slice_get-behind [] ys i = ap (slice_get ys) (let e : 0 + i ≡ i = omega arith in e)
slice_get-behind (x ∷ xs) ys i = ap (slice_get (x ∷ (xs ++ ys))) (let e : suc (length xs) + i ≡ suc (length xs + i) = omega arith in e) ∙ slice_get-behind xs ys i

-- one obligation more
pub queries-more : (asked : List Obligation) (i : ℕ) (o : Obligation) → slice_get asked i ≡ Some o → queries_of (take (suc i) asked) ≡ queries_of (take i asked) ++ o.queries
queries-more [] zero o at = absurd (none-some o at)
queries-more [] (suc i) o at = absurd (none-some o at)
queries-more (x ∷ rest) zero o at = append-nil x.queries ∙ ap (λ (y : Obligation). y.queries) (same_Some x o at)
queries-more (x ∷ rest) (suc i) o at = ap (λ (qs : List Query). x.queries ++ qs) (queries-more rest i o at) ∙ sym (append_assoc x.queries (queries_of (take i rest)) o.queries)

-- where the queries of an obligation stand
pub query-at : (asked : List Obligation) (i j : ℕ) (o : Obligation) (q : Query) → slice_get asked i ≡ Some o → slice_get o.queries j ≡ Some q → slice_get (queries_of asked) (length (queries_of (take i asked)) + j) ≡ Some q
query-at [] zero j o q at here = absurd (none-some o at)
query-at [] (suc i) j o q at here = absurd (none-some o at)
query-at (x ∷ rest) zero j o q at here =
    ap (slice_get (x.queries ++ queries_of rest)) (let e : 0 + j ≡ j = omega arith in e)
    ∙ slice_get-append x.queries (queries_of rest) j q (ap (λ (y : Obligation). slice_get y.queries j) (same_Some x o at) ∙ here)
query-at (x ∷ rest) (suc i) j o q at here =
    let before = queries_of (take i rest) in
    let place : length (x.queries ++ before) + j ≡ length x.queries + (length before + j) = omega (arith, length-append x.queries before) in
    ap (slice_get (x.queries ++ queries_of rest)) place ∙ (slice_get-behind x.queries (queries_of rest) (length before + j) ∙ query-at rest i j o q at here)

-- they end before all queries do
pub queries-within : (asked : List Obligation) (i : ℕ) (o : Obligation) → slice_get asked i ≡ Some o → length (queries_of (take i asked)) + length o.queries ≤ length (queries_of asked)
queries-within [] zero o at = absurd (none-some o at)
queries-within [] (suc i) o at = absurd (none-some o at)
queries-within (x ∷ rest) zero o at = omega (arith, ap (λ (y : Obligation). length y.queries) (same_Some x o at), length-append x.queries (queries_of rest))
queries-within (x ∷ rest) (suc i) o at = omega (arith, queries-within rest i o at, length-append x.queries (queries_of rest), length-append x.queries (queries_of (take i rest)))

All-append : {X : Type 0} (F : X → Type 0) (xs ys : List X) → All F xs → All F ys → All F (xs ++ ys)
All-append F [] ys h k = k
All-append F (x ∷ xs) ys h k = All-cons F x (xs ++ ys) (All-head F x xs h) (All-append F xs ys (All-tail F x xs h) k)

-- each of them is a query over the graph
pub all-queries : (g : List Node) (asked : List Obligation) → AreAsked g asked → All (IsQuery g) (queries_of asked)
all-queries g [] h = All-nil (IsQuery g)
all-queries g (o ∷ rest) h =
    All-append (IsQuery g) o.queries (queries_of rest) (All-head (λ (x : Obligation). All (IsQuery g) x.queries) o rest h) (all-queries g rest (All-tail (λ (x : Obligation). All (IsQuery g) x.queries) o rest h))

-- a relation of two lists, and of what stands behind them
pub zip-append : {X Y : Type 0} (R : X → Y → Type 0) (xs us : List X) (ys vs : List Y) → AllZip R xs ys → AllZip R us vs → AllZip R (xs ++ us) (ys ++ vs)
zip-append R [] us [] vs h k = k
zip-append R [] us (y ∷ ys) vs h k = absurd h
zip-append R (x ∷ xs) us [] vs h k = absurd h
zip-append R (x ∷ xs) us (y ∷ ys) vs h k = (h.0, zip-append R xs us ys vs h.1 k)

-- the front with one element more
pub take-next : {X : Type 0} (xs : List X) (i : ℕ) (x : X) → slice_get xs i ≡ Some x → take (i + 1) xs ≡ take i xs ++ x ∷ []
take-next {X} xs i x at =
    take_more xs i x (slice_get_within xs i x at) ∙ ap (λ (y : X). take i xs ++ y ∷ []) (get_or_from_slice_get xs i x x at)

-- the element that a loop is at
pub item-at : {X : Type 0} (xs : List X) (i : ℕ) (x : X) → i < length xs → x ≡ get_or xs i x → slice_get xs i ≡ Some x
item-at xs i x h is = slice_get-get_or xs i x h ∙ ap Some (sym is)

-- the queries with one obligation more
pub queries-next : (asked : List Obligation) (i : ℕ) (o : Obligation) → slice_get asked i ≡ Some o → queries_of (take (i + 1) asked) ≡ queries_of (take i asked) ++ o.queries
queries-next asked i o at = ap (λ k. queries_of (take k asked)) (add-one i) ∙ queries-more asked i o at

-- so many stand before an element
pub front_length : {X : Type 0} (xs : List X) (i : ℕ) (x : X) → slice_get xs i ≡ Some x → length (take i xs) ≡ i
front_length xs i x at = let h = slice_get_within xs i x at in omega (arith, length-take i xs)
