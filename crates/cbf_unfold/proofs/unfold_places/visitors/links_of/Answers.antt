-- One place more with what it reads.
use Rattle.std.proofs.Common.{◌≡◌, ◌∙◌, ◌+◌, ◌≤◌, [], ◌∷◌, ℕ, List, length, slice_get, Some, sym, ap, subst, arith, inl, inr}
use Rattle.std.specs.Prelude.{◌⊎◌}
use Rattle.std.specs.List.{Contains}
use Rattle.std.proofs.lemmas.Option.{slice_get_within}
use Rattle.circuit_theory.proofs.Lists.{only}
use Rattle.flat_net.specs.View.{circuit_of}
use Rattle.flat_net.proofs.Growth.{length-push}
use Rattle.aig.specs.declared.node.Lit.{Lit}
use Rattle.cbf_unfold.specs.unfold_places.Visitors.{AreReads}
use Rattle.aig.proofs.Lists.{append_cases}
use Rattle.cbf_unfold.proofs.unfold_places.visitors.links_of.Goals as goal

pub loop-number-init : goal.loop-number-init
loop-number-init c = record {
  size = ap length c.in_ok-links.ensures.items;
  reads = λ i e numbers at at_l. absurd (let k = slice_get_within c.in_ok-links.links.items i numbers at_l in omega (arith, k, ap length c.in_ok-links.ensures.items));
}

pub loop-number-preserved : goal.loop-number-preserved
loop-number-preserved c = record {
  size = ap length c.in_ok-push.ensures.items ∙ (length-push c.loop-number.links.items c.in_ok-reads_of.field-0 ∙ ap (λ n. n + 1) c.loop-number.invariant.size);
  reads = λ i e numbers at at_l. go i e numbers at (append_cases c.loop-number.links.items (c.in_ok-reads_of.field-0 ∷ []) i numbers (ap (λ l. slice_get l i) (sym c.in_ok-push.ensures.items) ∙ at_l)) at_l;
}
  where
    go : (i : ℕ) (e : (ℕ × ℕ) × Lit) (numbers : List ℕ) → slice_get c.args.memo.now i ≡ Some e → (slice_get c.loop-number.links.items i ≡ Some numbers) ⊎ ((length c.loop-number.links.items ≤ i) × Contains (c.in_ok-reads_of.field-0 ∷ []) numbers) →
        slice_get c.push.new.self.items i ≡ Some numbers → AreReads (circuit_of c.args.net.now) c.args.memo.now e.0 numbers
    go i e numbers at (inl h) there = c.loop-number.invariant.reads i e numbers at h
    go i e numbers at (inr h) there =
        let k = slice_get_within _ i numbers there in
        let last : i ≡ c.loop-number.number = omega (arith, k, h.0, c.loop-number.invariant.size, ap length c.in_ok-push.ensures.items, length-push c.loop-number.links.items c.in_ok-reads_of.field-0) in
        subst (AreReads (circuit_of c.args.net.now) c.args.memo.now e.0) (only c.in_ok-reads_of.field-0 numbers h.1) (c.in_ok-reads_of.ensures e (ap (slice_get c.args.memo.now) (sym last) ∙ at))
