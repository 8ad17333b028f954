-- What was unfolded before isn't refused when it is unfolded again.
use Rattle.std.proofs.Common.{◌≡◌, ◌∙◌, ◌≤◌, ℕ, List, [], ◌∷◌, ◌++◌, length, Result, Ok, Err, refl, sym, subst, arith}
use Rattle.std.specs.List.{sum_by}
use Rattle.std.proofs.lemmas.List.Sums.{sum_by-cons}
use Rattle.circuit_theory.specs.declared.Side.{Side}
use Rattle.circuit_theory.specs.declared.Side.TheVariants.{A, B}
use Rattle.circuit_theory.specs.Circuit.{IsSingleDriven}
use Rattle.circuit_theory.proofs.Sums.{sum_within}
use Rattle.circuit_laws.proofs.Weights.{weighs_one}
use Rattle.circuit_theory.specs.EventSizes.{Start, WeighedAtNode, IsEventWeight, IsEventOver}
use Rattle.circuit_theory.specs.EventTotals.{IsNodesOver, IsNodesWithin}
use Rattle.circuit_theory.specs.Frame.{EventSide}
use Rattle.flat_net.proofs.Nets.{sound_is_net}
use Rattle.edbf_unfold.specs.class_queries.Laws.{AreKept}
use Rattle.event_nodes.specs.View.{EventCircuitView, side_of, Enabled}
use Rattle.sec_setup.specs.declared.ports.pairs.SignalPair.{SignalPair}
use Rattle.event_form.specs.event_agreement.pair_events.Counted.{both_starts}
use Rattle.event_form.specs.event_agreement.pair_events.View.{EventsView, IsOfStarts, IsWithinLimits, circuit_at, side_of_both}
use Rattle.event_form.specs.event_agreement.pair_events.Within.{AreTotalsWithin, IsCountedOnce}
use Rattle.event_form.proofs.event_agreement.pair_events.Within.{is_within}
use Rattle.event_form.specs.Asked.{IsLater}
use Rattle.event_form.specs.Counted.{CountsOn, left_starts, right_starts}
use Rattle.event_form.specs.Refused.{starts_at, IsRefusedFor}
use Rattle.event_form.specs.Stopped.{IsStoppedFor}
use Rattle.event_form.specs.declared.error.EventFormError.{EventFormError}
use Rattle.event_form.specs.declared.error.EventFormError.TheVariants as form_error
use Rattle.event_form.proofs.Stopping.{never_stopped}
use Rattle.event_comparison.proofs.Showing.{refused_again}

ones : {X : Type 0} (xs : List X) → sum_by (λ x. 1) xs ≡ length xs
ones [] = refl
ones (x ∷ xs) = omega (arith, sum_by-cons (λ y. 1) x xs, ones xs)

-- no more nodes than a number are reached, or more
nodes_fit : {P : Type 0} (s : EventSide P) (starts : List (Start P)) (cap : ℕ) → IsNodesWithin s starts cap → IsNodesOver s starts cap → ⊥
nodes_fit s starts cap within over =
    let sums : sum_by (λ (n : List ℕ). 1) over.nodes ≤ sum_by (λ (n : List ℕ). 1) within.nodes =
    sum_within (λ (n : List ℕ). 1) (λ (m n : List ℕ). m ≡ n) (λ x y z p q. p ∙ sym q) over.nodes within.nodes over.distinct (λ n h. (n, within.all n (over.each n h), refl, refl)) in
    let few = within.total in
    let many = over.total in
    omega (arith, sums, few, many, ones over.nodes, ones within.nodes)

-- the weight is no more than a number, or some places weigh more
module _ {P : Type 0} (s : EventSide P) (enabled : P → Type 0) (single : IsSingleDriven s.circuit) (starts : List (Start P)) where
  abbrev IsSame : WeighedAtNode P → WeighedAtNode P → Type 0
  IsSame x y = (x.place ≡ y.place) × (x.node ≡ y.node)

  meet : (x y z : WeighedAtNode P) → IsSame x z → IsSame y z → IsSame x y
  meet x y z l r = (l.0 ∙ sym r.0, l.1 ∙ sym r.1)

  weight_fits : (cap weight : ℕ) → IsEventWeight s enabled starts weight → weight ≤ cap → IsEventOver s enabled starts cap → ⊥
  weight_fits cap weight is small over =
      let sums : sum_by (λ (x : WeighedAtNode P). x.weight) over.places ≤ sum_by (λ (x : WeighedAtNode P). x.weight) is.places =
      sum_within (λ (x : WeighedAtNode P). x.weight) IsSame meet over.places is.places (λ i j d l k e. over.distinct i j d l k e.0 e.1)
      (λ x k. let f = (is.met x.place x.node).1 (over.met x k) in (record { place = x.place; node = x.node; weight = f.0 }, f.1, (refl, refl), weighs_one s.circuit single (over.weighed x k) (is.weighed _ f.1))) in
      let total = is.total in
      let many = over.total in
      omega (arith, sums, total, small, many)

never_over : (e : EventsView) → AreKept e.left e.right e.events → (lefts rights : List (Start ℕ)) → AreTotalsWithin e.left e.right lefts rights → (side : Side) → IsEventOver (side_of (circuit_at side e)) (Enabled (circuit_at side e)) (starts_at side lefts rights) 2000000 → ⊥
never_over e kept lefts rights k A over = weight_fits (side_of e.left) (Enabled e.left) (sound_is_net e.left.net kept.left_sound).single lefts 2000000 k.left k.left_is k.left_small over
never_over e kept lefts rights k B over = weight_fits (side_of e.right) (Enabled e.right) (sound_is_net e.right.net kept.right_sound).single rights 2000000 k.right k.right_is k.right_small over

-- once all pairs were unfolded, none is refused
pub never_again : {X Y : Type 0} (old mid : EventsView) → AreKept old.left old.right old.events → IsOfStarts old → IsLater old mid → AreKept mid.left mid.right mid.events → IsCountedOnce mid → IsWithinLimits mid → (pairs : List SignalPair) → CountsOn pairs old mid → (result : Result X EventFormError) (told : Result Y EventFormError) →
    ((error : EventFormError) → told ≡ Err error → result ≡ Err error) → IsRefusedFor (left_starts pairs) (right_starts pairs) mid result → IsStoppedFor pairs old told
never_again {X} {Y} old mid before starts later kept once within pairs counts result told same k = record {
  many = λ is. absurd (nodes_fit (side_of_both old) (both_starts (starts.left ++ left_starts pairs) (starts.right ++ right_starts pairs)) 10000 totals.few (again.many is starts.left starts.right starts.counted));
  large = λ side is. absurd (never_over old before (starts.left ++ left_starts pairs) (starts.right ++ right_starts pairs) totals side (again.large side is starts.left starts.right starts.counted));
}
  where
    again : IsRefusedFor (left_starts pairs) (right_starts pairs) old told
    again = refused_again old mid later (left_starts pairs) (right_starts pairs) counts result told same k

    totals : AreTotalsWithin old.left old.right (starts.left ++ left_starts pairs) (starts.right ++ right_starts pairs)
    totals =
        subst (λ (b : EventCircuitView). AreTotalsWithin old.left b (starts.left ++ left_starts pairs) (starts.right ++ right_starts pairs)) later.right
        (subst (λ (a : EventCircuitView). AreTotalsWithin a mid.right (starts.left ++ left_starts pairs) (starts.right ++ right_starts pairs)) later.left (is_within mid (starts.left ++ left_starts pairs) (starts.right ++ right_starts pairs) kept once within (counts starts.left starts.right starts.counted)))

-- what stops the pairs is told
pub stopped_told : {X Y : Type 0} (e : EventsView) (pairs : List SignalPair) (result : Result X EventFormError) (told : Result Y EventFormError) → ((error : EventFormError) → told ≡ Err error → result ≡ Err error) → IsStoppedFor pairs e result → IsStoppedFor pairs e told
stopped_told e pairs result told same k = record {
  many = λ is. k.many (same form_error.TooManyEvents is);
  large = λ side is. k.large side (same (form_error.TooLarge side) is);
}

pub none_refused : {X : Type 0} (e : EventsView) (pairs : List SignalPair) (x : X) → IsStoppedFor pairs e (Ok x)
none_refused e pairs x = never_stopped pairs e x
