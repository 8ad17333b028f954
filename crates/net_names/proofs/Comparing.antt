-- A net that can be compared can be with fewer outputs.
use Rattle.std.proofs.Common.{◌≡◌, ◌∙◌, ◌≤◌, ℕ, Bool, true, false, List, [], ◌∷◌, map, length, refl, sym, ap, subst, arith}
use Rattle.std.specs.List.{filter}
use Rattle.base_tables.specs.Table.{AreDistinct}
use Rattle.flat_net.specs.declared.parts.Port.{Port}
use Rattle.flat_net.specs.Comparable.{IsComparable}
use Rattle.flat_net.specs.View.{NetView}
use Rattle.net_assembly.proofs.DistinctLists.{distinct_filter}
use Rattle.net_names.specs.Alone.{IsShowing}

module _ (test : List ℕ → Bool) where
  shorter : (ps : List Port) → length (filter (λ (p : Port). test p.name) ps) ≤ length ps
  shorter [] = omega arith
  shorter (p ∷ ps) = by (test p.name) refl (shorter ps)
    where
      by : (b : Bool) → test p.name ≡ b → length (filter (λ (q : Port). test q.name) ps) ≤ length ps → length (filter (λ (q : Port). test q.name) (p ∷ ps)) ≤ length (p ∷ ps)
      by true e rest = rw e (omega (arith, rest))
      by false e rest = rw e (omega (arith, rest))

  names_left : (ps : List Port) → map (λ (p : Port). p.name) (filter (λ (p : Port). test p.name) ps) ≡ filter test (map (λ (p : Port). p.name) ps)
  names_left [] = refl
  names_left (p ∷ ps) = by (test p.name) refl (names_left ps)
    where
      by : (b : Bool) → test p.name ≡ b → map (λ (q : Port). q.name) (filter (λ (q : Port). test q.name) ps) ≡ filter test (map (λ (q : Port). q.name) ps) →
          map (λ (q : Port). q.name) (filter (λ (q : Port). test q.name) (p ∷ ps)) ≡ filter test (map (λ (q : Port). q.name) (p ∷ ps))
      by true e rest = rw e (ap (λ (xs : List (List ℕ)). p.name ∷ xs) rest)
      by false e rest = rw e rest

  pub showing_comparable : (n m : NetView) → IsShowing test n m → IsComparable n → IsComparable m
  showing_comparable n m is own = record {
    distinct = subst AreDistinct (sym (ap (map (λ (p : Port). p.name)) is.outputs ∙ names_left n.outputs)) (distinct_filter test (map (λ (p : Port). p.name) n.outputs) own.distinct);
    few = let inputs = ap length is.inputs in
        let outputs = ap length is.outputs in
        let latches = ap length is.latches in
        let short = shorter n.outputs in
        omega (arith, own.few, inputs, outputs, latches, short);
  }
