-- The queries of all obligations as one list.
use Rattle.std.proofs.Common.{◌≡◌, List, [], ◌∷◌, ◌++◌, refl, sym, ap, subst, arith, inl, inr}
use Rattle.std.specs.Prelude.{◌⊎◌}
use Rattle.std.specs.List.{AllZip, Contains}
use Rattle.std.proofs.lemmas.List.Elements.{Contains-append_cases, Contains-append_left, Contains-append_right}
use Rattle.circuit_theory.proofs.Lists.{Contains-head, Contains-tail, Contains-cases}
use Rattle.pair_decide.specs.declared.query.Query.{Query}
use Rattle.obligations.specs.declared.obligation.Obligation.{Obligation}
use Rattle.obligations.specs.Asked.{queries_of}

-- each is one of some obligation
pub query_from : (asked : List Obligation) (q : Query) → Contains (queries_of asked) q → (o : Obligation) × Contains asked o × Contains o.queries q
query_from [] q h = absurd (omega (arith, h.1))
query_from (o ∷ asked) q h = go (Contains-append_cases o.queries (queries_of asked) q h) (λ m. query_from asked q m)
  where
    go : Contains o.queries q ⊎ Contains (queries_of asked) q → (Contains (queries_of asked) q → (p : Obligation) × Contains asked p × Contains p.queries q) → (p : Obligation) × Contains (o ∷ asked) p × Contains p.queries q
    go (inl m) later = (o, Contains-head o asked, m)
    go (inr m) later = let p = later m in (p.0, Contains-tail o p.0 asked p.1, p.2)

-- and each of an obligation is among them
pub query_to : (asked : List Obligation) (o : Obligation) (q : Query) → Contains asked o → Contains o.queries q → Contains (queries_of asked) q
query_to [] o q h m = absurd (omega (arith, h.1))
query_to (x ∷ asked) o q h m = go (Contains-cases x o asked h) (λ k. query_to asked o q k m)
  where
    go : (x ≡ o) ⊎ Contains asked o → (Contains asked o → Contains (queries_of asked) q) → Contains (x.queries ++ queries_of asked) q
    go (inl e) later = Contains-append_left x.queries (queries_of asked) q (subst (λ (y : Obligation). Contains y.queries q) (sym e) m)
    go (inr k) later = Contains-append_right x.queries (queries_of asked) q (later k)

-- a list beside two lists, in two parts
pub split_zip : {X Y : Type 0} (R : X → Y → Type 0) (xs zs : List X) (ys : List Y) → AllZip R (xs ++ zs) ys → (us : List Y) × (vs : List Y) × (ys ≡ us ++ vs) × AllZip R xs us × AllZip R zs vs
split_zip R [] zs ys h = ([], ys, refl, tt, h)
split_zip R (x ∷ xs) zs [] h = absurd h
split_zip R (x ∷ xs) zs (y ∷ ys) h =
    let r = split_zip R xs zs ys h.1 in
    (y ∷ r.0, r.1, ap (λ l. y ∷ l) r.2, (h.0, r.3), r.4)
