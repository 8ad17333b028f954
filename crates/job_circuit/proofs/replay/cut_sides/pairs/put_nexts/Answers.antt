use Rattle.std.proofs.Common.{◌≡◌, ◌∙◌, ◌+◌, List, [], ◌∷◌, ◌++◌, ℕ, length, slice_get, Some, inl, inr, ◌⊎◌, refl, sym, ap, subst, arith, append_assoc, length-append}
use Rattle.std.proofs.lemmas.List.{append-nil}
use Rattle.std.proofs.lemmas.Option.{none-some}
use Rattle.cycle_sim.specs.declared.pair_runs.differences.OutputPair.{OutputPair}
use Rattle.cycle_sim.proofs.pair_runs.Places.{pushed_at}
use Rattle.job_circuit.specs.replay.cut_sides.Pairs.{IsNextAt, PutsSome}
use Rattle.job_circuit.proofs.replay.cut_sides.pairs.put_nexts.Goals as goal

pub loop-k-init : goal.loop-k-init
loop-k-init c = record { nexts = []; each = refl; pairs_are = sym (append-nil _); right_is = λ k p h. absurd (none-some p h) }

pub loop-k-preserved : goal.loop-k-preserved
loop-k-preserved c =
    let before = c.loop-k.invariant in
    let p : OutputPair = c.in_ok-next_pair.field-0 in
    record {
      nexts = before.nexts ++ p ∷ [];
      each = let a = length-append before.nexts (p ∷ []) in let e = before.each in omega (arith, a, e);
      pairs_are = c.in_ok-push.ensures.items ∙ (ap (λ (ps : List OutputPair). ps ++ p ∷ []) before.pairs_are ∙ append_assoc _ before.nexts (p ∷ []));
      right_is = λ k q at. next k q before.each (pushed_at before.nexts p k q at);
    }
  where
    next : (k : ℕ) (q : OutputPair) → length c.loop-k.invariant.nexts ≡ c.loop-k.k → (slice_get c.loop-k.invariant.nexts k ≡ Some q) ⊎ ((k ≡ length c.loop-k.invariant.nexts) × (c.in_ok-next_pair.field-0 ≡ q)) →
        IsNextAt c.args.names.now c.args.left c.args.right k q
    next k q each (inl h) = c.loop-k.invariant.right_is k q h
    next k q each (inr h) =
        subst (IsNextAt c.args.names.now c.args.left c.args.right k) h.1 (subst (λ j. IsNextAt c.args.names.now c.args.left c.args.right j c.in_ok-next_pair.field-0) (sym (h.0 ∙ each)) c.in_ok-next_pair.ensures)

pub returns : goal.returns
returns c =
    let k : c.loop-k.k ≡ length c.args.names.now = omega (arith, c.loop-k-test.false, c.loop-k.auto.k-end, c.len-k-end.ensures) in
    subst (λ n. PutsSome c.args.names.now c.args.left c.args.right n c.args.pairs.now.items c.loop-k.pairs.items) k c.loop-k.invariant
