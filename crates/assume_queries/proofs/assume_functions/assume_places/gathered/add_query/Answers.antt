-- The query's places are few, and what is gathered has them.
use Rattle.std.proofs.Common.{◌∙◌, ◌+◌, ◌-◌, ◌^◌, ◌<◌, min, ℕ, List, length, sym, ap, subst, arith}
use Rattle.std.specs.List.{All}
use Rattle.cbf_unfold.specs.shift_variables.query_places.Places.{AreGrouped, ArePlacesOf, ComeInTurn}
use Rattle.cbf_unfold.specs.unfold_places.Reach.{Adds}
use Rattle.assume_queries.specs.assume_functions.assume_places.Gathered.{IsAmong}
use Rattle.assume_queries.specs.declared.assume_functions.assume_places.gathered.QueryPlaces.{QueryPlaces}
use Rattle.assume_queries.proofs.assume_functions.assume_places.Gathering.{own_few, all_few, gathered_more}
use Rattle.assume_queries.proofs.assume_functions.assume_places.gathered.add_query.Goals as goal

pub places_of-requires : goal.places_of-requires
places_of-requires c = record {
  within = subst (All (λ v. v < length c.args.table.now)) (sym c.as_slice.ensures) c.requires.query.within;
  grouped = subst (AreGrouped c.args.table.now) (sym c.as_slice.ensures) c.requires.query.grouped;
}

pub numbers_of-requires : goal.numbers_of-requires
numbers_of-requires c =
    let table = c.args.table.now in
    let q = c.args.query.now in
    let are = subst (λ (vs : List ℕ). ArePlacesOf table vs c.in_ok-places.places) c.as_slice.ensures c.in_ok-places.ensures.places in
    let few = own_few table q c.in_ok-places.places c.requires.query are in
    let all = all_few table c.requires.before.0 c.args.found.now c.requires.before.1 in
    omega (arith, few, all, c.requires.room, ap (λ (l : List ℕ). length l) c.as_slice-2.ensures)

pub returns : goal.returns
returns c = λ qs h.
    let table = c.args.table.now in
    let q = c.args.query.now in
    let old = c.args.found.now in
    let new : QueryPlaces = record { table = c.numbers_of.new.found; own = c.push.new.self; count = c.saturating_add-found.result } in
    let places = c.in_ok-places.places in
    gathered_more table qs q old new places c.in_ok-own.own c.requires.query h (subst (λ (vs : List ℕ). ArePlacesOf table vs places) c.as_slice.ensures c.in_ok-places.ensures.places)
    (subst (λ (vs : List ℕ). ComeInTurn table vs places) c.as_slice.ensures c.in_ok-places.ensures.turn) c.keeps.ensures (c.in_ok-own.ensures.places ∙ c.as_slice-2.ensures) c.in_ok-own.ensures.within
    (subst (λ (ks : List ℕ). Adds (IsAmong ks) old.table c.numbers_of.new.found) c.as_slice-2.ensures c.in_ok-own.ensures.adds) c.in_ok-push.ensures.items
    (c.saturating_add-found.ensures ∙ ap (λ (k : ℕ). min (old.count + k) (2 ^ 64 - 1)) c.len.ensures)
