-- One query more is under the assumption.
use Rattle.std.proofs.Common.{◌≡◌, ◌∙◌, ℕ, suc, ◌+◌, ◌*◌, ◌<◌, ◌≤◌, List, [], ◌∷◌, drop, length, get_or, slice_get, Some, refl, sym, ap, subst, arith}
use Rattle.std.specs.List.{All, AllZip, sum_by}
use Rattle.std.proofs.lemmas.List.{take_all}
use Rattle.std.proofs.lemmas.List.Elements.{All-weaker}
use Rattle.std.proofs.lemmas.Option.{slice_get_within, slice_get-get_or, same_Some}
use Rattle.aig.proofs.Growth.{Grows-refl, Grows-trans, Grows-length}
use Rattle.pair_decide.specs.declared.query.Query.{Query}
use Rattle.cbf_unfold.specs.declared.unfold_places.signal_function.Unfolded.{Unfolded}
use Rattle.obligations.proofs.Listed.{item-at}
use Rattle.assume_queries.specs.declared.map.Parts.{Parts}
use Rattle.assume_queries.specs.declared.assume_answers.order.VariableOrder.{VariableOrder}
use Rattle.assume_queries.specs.Made.{IsMadeOf}
use Rattle.assume_queries.specs.Parted.{HasParts, ArePartsFrom, IsQueryMade}
use Rattle.assume_queries.proofs.Parting.{sum_left, queries_more}
use Rattle.assume_queries.proofs.map.obligation_under.Goals as goal

-- the element at a place
element : {X : Type 0} (xs : List X) (i : ℕ) → i < length xs → (x : X) × (slice_get xs i ≡ Some x)
element [] i h = absurd (omega (arith, h))
element (x ∷ xs) i h = (get_or (x ∷ xs) i x, slice_get-get_or (x ∷ xs) i x h)

-- the parts of the query at a place
parts_at : (o : VariableOrder) (table : List (ℕ × ℕ)) (parts : Parts) (place : ℕ) (queries : List Query) → ArePartsFrom o table parts place queries → (j : ℕ) → j < length queries →
    (q : Query) × (own : List ℕ) × (slice_get queries j ≡ Some q) × (slice_get parts.own.items (place + j) ≡ Some own) × HasParts o table parts.functions.items q own
parts_at o table parts place queries are j h = let q = element queries j h in let p = are j q.0 q.1 in (q.0, p.0, q.1, p.1, p.2)

pub loop-j-init : goal.loop-j-init
loop-j-init c = record {
  made = λ found own. subst (λ (rs : List Query). AllZip (IsQueryMade c.args.order c.args.table.now c.args.aig.now found c.args.parts.now c.args.aig.now) [] rs) (sym c.new-queries.ensures) tt;
  graph = c.keeps.ensures.graph;
  grows = Grows-refl c.args.aig.now;
  few = let e = ap (λ k. sum_by length (drop k c.args.parts.now.own.items)) (let z : c.args.place + 0 ≡ c.args.place = omega arith in z) in omega (arith, e);
}

pub index-numbers-requires : goal.index-numbers-requires
index-numbers-requires c =
    let queries = c.args.obligation.now.queries in
    let inside : c.loop-j.j < length queries = omega (arith, c.loop-j-test.true, ap (λ (qs : List Query). length qs) c.as_slice-asked.ensures) in
    let p = parts_at c.args.order c.args.table.now c.args.parts.now c.args.place queries c.requires.parts c.loop-j.j inside in
    let h = slice_get_within c.args.parts.now.own.items (c.args.place + c.loop-j.j) p.1 p.3 in
    omega (arith, h, c.args.parts.now.own.ok.0)

pub overflow_add-place : goal.overflow_add-place
overflow_add-place c =
    let queries = c.args.obligation.now.queries in
    let inside : c.loop-j.j < length queries = omega (arith, c.loop-j-test.true, ap (λ (qs : List Query). length qs) c.as_slice-asked.ensures) in
    let p = parts_at c.args.order c.args.table.now c.args.parts.now c.args.place queries c.requires.parts c.loop-j.j inside in
    let h = slice_get_within c.args.parts.now.own.items (c.args.place + c.loop-j.j) p.1 p.3 in
    omega (arith, h, c.args.parts.now.own.ok.0)

pub query_under-requires : goal.query_under-requires
query_under-requires c =
    let o = c.args.order in
    let table = c.args.table.now in
    let parts = c.args.parts.now in
    let queries = c.args.obligation.now.queries in
    let j = c.loop-j.j in
    let inside : j < length queries = omega (arith, c.loop-j-test.true, ap (λ (qs : List Query). length qs) c.as_slice-asked.ensures) in
    let p = parts_at o table parts c.args.place queries c.requires.parts j inside in
    let own : p.1 ≡ c.as_slice-own.result.now = same_Some p.1 c.index-numbers.result.now (sym p.3 ∙ item-at parts.own.items (c.args.place + j) c.index-numbers.result.now (slice_get_within parts.own.items (c.args.place + j) p.1 p.3) c.index-numbers.ensures) ∙ sym c.as_slice-own.ensures in
    let functions : parts.functions.items ≡ c.as_slice-functions.result.now = sym c.as_slice-functions.ensures.value in
    let query : p.0 ≡ c.index-asked-j.result = same_Some p.0 c.index-asked-j.result (sym p.2 ∙ (ap (λ (qs : List Query). slice_get qs j) (sym c.as_slice-asked.ensures) ∙ item-at c.as_slice-asked.result.now j c.index-asked-j.result c.loop-j-test.true c.index-asked-j.is)) in
    let long = Grows-length c.args.aig.now c.loop-j.aig c.loop-j.invariant.grows in
    let has : HasParts o table c.as_slice-functions.result.now c.index-asked-j.result c.as_slice-own.result.now =
    subst (λ (us : List Unfolded). HasParts o table us c.index-asked-j.result c.as_slice-own.result.now) functions
    (subst (λ (q : Query). HasParts o table parts.functions.items q c.as_slice-own.result.now) query (subst (λ (ns : List ℕ). HasParts o table parts.functions.items p.0 ns) own p.4)) in
    let left = sum_left parts.own.items (c.args.place + j) p.1 p.3 in
    record {
      within = has.within;
      literals = subst (λ (us : List Unfolded). All (λ (u : Unfolded). u.lit.0 < 2 * length c.loop-j.aig) us) functions
          (All-weaker (λ (u : Unfolded). u.lit.0 < 2 * length c.args.aig.now) (λ (u : Unfolded). u.lit.0 < 2 * length c.loop-j.aig) (λ u h. omega (arith, h, long)) parts.functions.items c.requires.literals);
      room = omega (arith, c.loop-j.invariant.few, c.requires.room, left, ap (λ (ns : List ℕ). length ns) own);
      sides = has.sides;
      read = has.read;
    }

pub loop-j-preserved : goal.loop-j-preserved
loop-j-preserved c =
    let o = c.args.order in
    let table = c.args.table.now in
    let parts = c.args.parts.now in
    let queries = c.args.obligation.now.queries in
    let j = c.loop-j.j in
    let f = c.args.aig.now in
    let g = c.loop-j.aig in
    let h = c.query_under.new.aig in
    let inside : j < length queries = omega (arith, c.loop-j-test.true, ap (λ (qs : List Query). length qs) c.as_slice-asked.ensures) in
    let p = parts_at o table parts c.args.place queries c.requires.parts j inside in
    let own : p.1 ≡ c.as_slice-own.result.now = same_Some p.1 c.index-numbers.result.now (sym p.3 ∙ item-at parts.own.items (c.args.place + j) c.index-numbers.result.now (slice_get_within parts.own.items (c.args.place + j) p.1 p.3) c.index-numbers.ensures) ∙ sym c.as_slice-own.ensures in
    let functions : parts.functions.items ≡ c.as_slice-functions.result.now = sym c.as_slice-functions.ensures.value in
    let query : p.0 ≡ c.index-asked-j.result = same_Some p.0 c.index-asked-j.result (sym p.2 ∙ (ap (λ (qs : List Query). slice_get qs j) (sym c.as_slice-asked.ensures) ∙ item-at c.as_slice-asked.result.now j c.index-asked-j.result c.loop-j-test.true c.index-asked-j.is)) in
    let r = c.in_ok-under.under in
    let made : IsMadeOf o table g parts.functions.items p.0 p.1 h r =
    subst (λ (us : List Unfolded). IsMadeOf o table g us p.0 p.1 h r) (sym functions)
    (subst (λ (q : Query). IsMadeOf o table g c.as_slice-functions.result.now q p.1 h r) (sym query) (subst (λ (ns : List ℕ). IsMadeOf o table g c.as_slice-functions.result.now c.index-asked-j.result ns h r) (sym own) c.in_ok-under.ensures.made)) in
    let left = sum_left parts.own.items (c.args.place + j) p.1 p.3 in
    let next = ap (λ k. sum_by length (drop k parts.own.items)) (let e : suc (c.args.place + j) ≡ c.args.place + (j + 1) = omega arith in e) in
    record {
      made = λ found are.
          queries_more o table parts found f g h c.loop-j.invariant.graph c.keeps-in-loop-j.ensures.graph c.loop-j.invariant.grows c.in_ok-under.ensures.grows c.requires.literals queries c.loop-j.queries c.push.new.self j p.0 r p.1 p.2
          (are j p.0 p.1 p.2 p.3) made c.in_ok-push.ensures.ok (c.loop-j.invariant.made found are);
      graph = c.keeps-in-loop-j.ensures.graph;
      grows = Grows-trans f g h c.loop-j.invariant.grows c.in_ok-under.ensures.grows;
      few = omega (arith, c.loop-j.invariant.few, c.in_ok-under.ensures.few, left, next, ap (λ (ns : List ℕ). length ns) own);
    }

pub returns-clause-made : goal.returns-clause-made
returns-clause-made c = λ found are.
    let queries = c.args.obligation.now.queries in
    let all : length queries ≤ c.loop-j.j = omega (arith, c.loop-j-test.false, ap (λ (qs : List Query). length qs) c.as_slice-asked.ensures) in
    record {
      name_is = c.in_ok-name.ensures;
      size_is = refl;
      decisive_is = refl;
      queries = subst (λ (qs : List Query). AllZip (IsQueryMade c.args.order c.args.table.now c.args.aig.now found c.args.parts.now c.loop-j.aig) qs c.loop-j.queries) (take_all c.loop-j.j queries all) (c.loop-j.invariant.made found are);
    }

pub returns-clause-few : goal.returns-clause-few
returns-clause-few c =
    let queries = c.args.obligation.now.queries in
    let all : c.loop-j.j ≡ length queries = omega (arith, c.loop-j-test.false, c.loop-j.auto.j-end, ap (λ (qs : List Query). length qs) c.as_slice-asked.ensures) in
    let e = ap (λ k. sum_by length (drop (c.args.place + k) c.args.parts.now.own.items)) all in
    omega (arith, c.loop-j.invariant.few, e)
