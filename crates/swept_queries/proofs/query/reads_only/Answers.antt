-- Each node of the cone that is a variable's has one of the list.
use Rattle.std.proofs.Common.{ℕ, List, sym, subst}
use Rattle.std.specs.List.{Contains}
use Rattle.std.proofs.lemmas.List.Sorted.{Contains-permutation, IsPermutation-sym}
use Rattle.swept_queries.proofs.query.reads_only.Goals as goal

pub returns : goal.returns
returns c = λ only n v reached at.
    let there : Contains c.as_slice-2.result.now n = subst (λ (ns : List ℕ). Contains ns n) (sym c.as_slice-2.ensures) (c.in_ok-cone.ensures.cone.all n reached) in
    let sorted : Contains c.sort.new.self.items v = subst (λ (vs : List ℕ). Contains vs v) c.as_slice-3.ensures.value (c.has_all.ensures only n v there at) in
    let own : Contains c.in_ok-own.own.items v = Contains-permutation c.sort.new.self.items c.in_ok-own.own.items v (IsPermutation-sym c.in_ok-own.own.items c.sort.new.self.items c.in_ok-sort.ensures.permutation) sorted in
    subst (λ (vs : List ℕ). Contains vs v) c.as_slice.ensures (subst (λ (vs : List ℕ). Contains vs v) c.in_ok-own.ensures.items own)
