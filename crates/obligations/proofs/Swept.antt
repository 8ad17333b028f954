-- What is swept stands for the queries.
use Rattle.std.proofs.Common.{◌≡◌, ℕ, ◌+◌, List, [], ◌∷◌, ◌++◌, length, take, slice_get, Option, Some, None, refl, sym, ◌∙◌, ap, subst, inl, inr, append_assoc}
use Rattle.std.specs.Prelude.{◌⊎◌}
use Rattle.std.specs.List.{All, AllZip}
use Rattle.std.proofs.lemmas.List.Elements.{All-nil, All-cons, All-head, All-tail}
use Rattle.std.proofs.lemmas.Option.{same_Some}
use Rattle.circuit_theory.proofs.Lists.{zip_length}
use Rattle.obligations.specs.outcome.aig.Node.{Node}
use Rattle.obligations.specs.outcome.Query.{Query}
use Rattle.obligations.specs.outcome.Queries.{IsQuery}
use Rattle.swept_queries.specs.declared.sides.Sides.{Sides}
use Rattle.swept_queries.specs.declared.sides.Known.{Known}
use Rattle.swept_queries.specs.declared.sides.Known.TheVariants as what
use Rattle.swept_queries.specs.declared.queries.SweptQueries.{SweptQueries}
use Rattle.swept_queries.specs.InStead.{sides_of, AreWithin, MayBeWithin, AreSwept, IsTrueOf}
use Rattle.swept_queries.proofs.Listed.{zip_left}
use Rattle.obligations.specs.declared.obligation.Obligation.{Obligation}
use Rattle.obligations.specs.Asked.{MaySweep, HaveMore, AreKnown, queries_of}
use Rattle.obligations.proofs.Listed.{zip-append, queries-next}

may-be-within : (g : List Node) (q : Query) (o : Option Sides) → IsQuery g q → MaySweep q o → MayBeWithin g o
may-be-within g q None is may = tt
may-be-within g q (Some t) is may = subst (AreWithin g) (sym may) (record { left = is.left; right = is.right; care = is.care })

-- the literals are those of the graph
pub sides-within : (g : List Node) (queries : List Query) (sides : List (Option Sides)) → All (IsQuery g) queries → AllZip MaySweep queries sides → All (MayBeWithin g) sides
sides-within g [] [] all may = All-nil (MayBeWithin g)
sides-within g [] (o ∷ sides) all may = absurd may
sides-within g (q ∷ queries) [] all may = absurd may
sides-within g (q ∷ queries) (o ∷ sides) all may =
    All-cons (MayBeWithin g) o sides (may-be-within g q o (All-head (IsQuery g) q queries all) may.0) (sides-within g queries sides (All-tail (IsQuery g) q queries all) may.1)

-- what is known of them is true of the queries
pub are-known : (g : List Node) (queries : List Query) (sides : List (Option Sides)) (s : SweptQueries) → AllZip MaySweep queries sides → AreSwept g sides s → AreKnown g s queries
are-known g queries sides s may swept i q at new here = by (swept i new here)
  where
    True : Sides → Known → Type 0
    True t k = IsTrueOf g t s.aig s.words.items k

    by : (new ≡ what.Nothing) ⊎ ((t : Sides) × (slice_get sides i ≡ Some (Some t)) × True t new) → True (sides_of q) new
    by (inl e) = subst (True (sides_of q)) (sym e) tt
    by (inr (t, there, holds)) =
        let z = zip_left MaySweep queries sides may i (Some t) there in
        let own : t ≡ sides_of q = subst (λ (y : Query). MaySweep y (Some t)) (same_Some z.0 q (sym z.1 ∙ at)) z.2 in
        subst (λ (u : Sides). True u new) own holds

-- one query more
pub have-more : (queries : List Query) (q : Query) (old new made : List (Option Sides)) (o : Option Sides) → HaveMore queries old new → MaySweep q o → made ≡ new ++ o ∷ [] → HaveMore (queries ++ q ∷ []) old made
have-more queries q old new made o h may is = record {
  more = h.more ++ o ∷ [];
  behind = is ∙ (ap (λ (xs : List (Option Sides)). xs ++ o ∷ []) h.behind ∙ append_assoc old h.more (o ∷ []));
  are = zip-append MaySweep queries (q ∷ []) h.more (o ∷ []) h.are (may, tt);
}

-- the queries of one obligation more
pub sides-more : (asked : List Obligation) (i : ℕ) (o : Obligation) (old new : List (Option Sides)) → slice_get asked i ≡ Some o → AllZip MaySweep (queries_of (take i asked)) old → HaveMore o.queries old new → AllZip MaySweep (queries_of (take (i + 1) asked)) new
sides-more asked i o old new at are h =
    subst (AllZip MaySweep (queries_of (take (i + 1) asked))) (sym h.behind)
    (subst (λ (qs : List Query). AllZip MaySweep qs (old ++ h.more)) (sym (queries-next asked i o at)) (zip-append MaySweep (queries_of (take i asked)) o.queries old h.more are h.are))

-- none is more than all
pub as-many : (queries : List Query) (sides : List (Option Sides)) → AllZip MaySweep queries sides → length queries ≡ length sides
as-many queries sides may = zip_length MaySweep queries sides may
