-- Each place in its turn.
use Rattle.std.proofs.Common.{◌≡◌, ◌+◌, ◌<◌, ◌≤◌, ℕ, slice_get, Some, sym, subst, arith, inl, inr}
use Rattle.std.specs.Prelude.{◌⊎◌}
use Rattle.std.proofs.lemmas.Bool.{cases_lt}
use Rattle.std.proofs.lemmas.Option.{slice_get_within}
use Rattle.edbf_unfold.proofs.event_literals.Places.{one_at}
use Rattle.event_nodes.specs.View.{side_of}
use Rattle.edbf_unfold.specs.Reached.{IsOpenPlace}
use Rattle.edbf_unfold.proofs.unfolder.EventUnfolder.only_always.Goals as goal

pub loop-number-init : goal.loop-number-init
loop-number-init c = λ i p below. absurd (omega (arith, below))

pub is_always-requires-clause-framed : goal.is_always-requires-clause-framed
is_always-requires-clause-framed c = (c.requires c.loop-number.number c.pair-place.result c.pair-place.ensures).0

pub is_always-requires-clause-signal : goal.is_always-requires-clause-signal
is_always-requires-clause-signal c = (c.requires c.loop-number.number c.pair-place.result c.pair-place.ensures).1

pub loop-number-preserved : goal.loop-number-preserved
loop-number-preserved c = λ i p below at open_there. go i p at open_there (cases_lt i c.loop-number.number) below
  where
    go : (i : ℕ) (p : ℕ × ℕ) → slice_get c.args.table.now i ≡ Some p → IsOpenPlace c.args.self.now.circuit c.args.self.now.frames p → (i < c.loop-number.number) ⊎ (c.loop-number.number ≤ i) → i < c.loop-number.number + 1 → (side_of c.args.self.now.circuit).class p.1 ≡ 0
    go i p at open_there (inl l) below = c.loop-number.invariant i p l at open_there
    go i p at open_there (inr l) below =
        let last : i ≡ c.loop-number.number = omega (arith, l, below) in
        let same : c.pair-place.result ≡ p = one_at c.args.table.now c.loop-number.number c.pair-place.result p c.pair-place.ensures (subst (λ (k : ℕ). slice_get c.args.table.now k ≡ Some p) last at) in
        subst (λ (r : ℕ × ℕ). (side_of c.args.self.now.circuit).class r.1 ≡ 0) same (c.is_always.ensures.yes c.if-not-is_always.false (subst (IsOpenPlace c.args.self.now.circuit c.args.self.now.frames) (sym same) open_there))

pub returns-clause-yes : goal.returns-clause-yes
returns-clause-yes c = λ yes i p at open_there.
    let inside = slice_get_within c.args.table.now i p at in
    c.loop-number.invariant i p (omega (arith, inside, c.loop-number-test.false, c.len-number-end.ensures)) at open_there
