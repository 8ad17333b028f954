-- Lowered numbers are numbers of the interface again.
use Rattle.std.proofs.Common.{◌≡◌, ◌≢◌, ◌∙◌, ◌⊎◌, ℕ, ◌+◌, ◌<◌, ◌≤◌, ◌^◌, not, ◌&&◌, List, length, slice_get, Some, sym, ap, arith, inl, inr}
use Rattle.std.specs.List.{All, AllPairs, Contains}
use Rattle.std.proofs.lemmas.Option.{slice_get_within, same_Some, get_or_from_slice_get}
use Rattle.circuit_theory.specs.Interface.{is_clock, shared_inputs, AreNumbersOf, AreOrders}
use Rattle.circuit_theory.specs.Names.{is_among}
use Rattle.circuit_theory.proofs.Lists.{All-from_each, at_of, of_at, length-map}
use Rattle.sec_base.specs.declared.basics.Orders.{Orders}
use Rattle.flat_net.specs.declared.parts.Port.{Port}
use Rattle.flat_net.specs.View.{NetView, ports_of}
use Rattle.flat_net.specs.Sound.{IsSound}
use Rattle.flat_net.proofs.CutNets.{length-filter-le}
use Rattle.flat_net.proofs.Nets.{some_at}
use Rattle.block_refine.specs.latch_blocks.Signals.{net_weight}
use Rattle.block_refine.proofs.block_graph.Numbered.{light_few}
use Rattle.induct.specs.Inductions.{AreOwnNumbers, AreLowered}

less_or_more : (x s : ℕ) → (x < s) ⊎ (s ≤ x)
less_or_more x s = grind arith

-- where a lowered number comes from
record IsFrom (bound from : ℕ) (numbers : List ℕ) (k i : ℕ) : Type 0 where
  x : ℕ
  at : slice_get numbers k ≡ Some x
  inside : k < length numbers
  is : ((x < bound) × (i ≡ x)) ⊎ ((bound ≤ x) × (i ≡ from + k))

module _ (bound from : ℕ) (numbers made : List ℕ) (lowered : AreLowered bound from numbers made) where
  number_from : (k i : ℕ) → slice_get made k ≡ Some i → IsFrom bound from numbers k i
  number_from k i h =
      let within = slice_get_within made k i h in
      let inside : k < length numbers = omega (arith, within, lowered.each) in
      let found = some_at numbers k inside in
      record { x = found.0; at = found.1; inside = inside; is = by found.0 found.1 (less_or_more found.0 bound) }
    where
      by : (x : ℕ) → slice_get numbers k ≡ Some x → (x < bound) ⊎ (bound ≤ x) → ((x < bound) × (i ≡ x)) ⊎ ((bound ≤ x) × (i ≡ from + k))
      by x at (inl low) = inl (low, same_Some i x (sym h ∙ lowered.low k x at low))
      by x at (inr high) = inr (high, same_Some i (from + k) (sym h ∙ lowered.high k x at high))

  pub lowered_small : (most : ℕ) → bound ≤ most → from + length numbers ≤ most → All (λ i. i < most) made
  lowered_small most low high = All-from_each (λ (i : ℕ). i < most) made (λ i h. let at = at_of made i h in each at.0 i (number_from at.0 i at.1))
    where
      each : (k i : ℕ) → IsFrom bound from numbers k i → i < most
      each k i is = by is.is
        where
          by : ((is.x < bound) × (i ≡ is.x)) ⊎ ((bound ≤ is.x) × (i ≡ from + k)) → i < most
          by (inl l) = omega (arith, l.0, l.1, low)
          by (inr l) = omega (arith, l.1, high, is.inside)

-- The numbers of one circuit's inputs and those of the other's are lowered, and others are put apart.
module _ (bound f g : ℕ) (xs ys xs' ys' : List ℕ) (lx : AreLowered bound f xs xs') (ly : AreLowered bound g ys ys') (above_f : bound ≤ f) (above_g : bound ≤ g) (apart : (k j : ℕ) → k < length xs → j < length ys → f + k ≢ g + j) where
  two_differ : (i j u v : ℕ) → i < j → AllPairs (λ m n. m ≢ n) xs → IsFrom bound f xs i u → IsFrom bound f xs j v → u ≢ v
  two_differ i j u v l distinct p q e = by p.is q.is
    where
      before : p.x ≢ q.x
      before same = distinct i j 0 l q.inside (get_or_from_slice_get xs i p.x 0 p.at ∙ same ∙ sym (get_or_from_slice_get xs j q.x 0 q.at))

      by : ((p.x < bound) × (u ≡ p.x)) ⊎ ((bound ≤ p.x) × (u ≡ f + i)) → ((q.x < bound) × (v ≡ q.x)) ⊎ ((bound ≤ q.x) × (v ≡ f + j)) → ⊥
      by (inl a) (inl b) = before (sym a.1 ∙ e ∙ b.1)
      by (inl a) (inr b) = omega (arith, a.0, a.1, b.1, e, above_f)
      by (inr a) (inl b) = omega (arith, b.0, b.1, a.1, e, above_f)
      by (inr a) (inr b) = omega (arith, a.1, b.1, e, l)

  module _ (own shared : List (List ℕ)) (few : length shared ≤ bound) (are : AreNumbersOf own shared xs ys) where
    numbers_distinct : AllPairs (λ m n. m ≢ n) xs'
    numbers_distinct i j d l m =
        let p = some_at xs' i (omega (arith, l, m)) in
        let q = some_at xs' j m in
        let u = get_or_from_slice_get xs' i p.0 d p.1 in
        let v = get_or_from_slice_get xs' j q.0 d q.1 in
        λ e. two_differ i j p.0 q.0 l are.distinct (number_from bound f xs xs' lx i p.0 p.1) (number_from bound f xs xs' lx j q.0 q.1) (sym u ∙ e ∙ v)

    numbers_common : (k i : ℕ) (name : List ℕ) → slice_get own k ≡ Some name → slice_get shared i ≡ Some name → slice_get xs' k ≡ Some i
    numbers_common k i name h s = let inside = slice_get_within shared i name s in lx.low k i (are.common k i name h s) (omega (arith, inside, few))

    numbers_left_out : (k i : ℕ) (name : List ℕ) → slice_get own k ≡ Some name → (Contains shared name → ⊥) → slice_get xs' k ≡ Some i → (length shared ≤ i) × (Contains ys' i → ⊥)
    numbers_left_out k i name h out at = (above p.is, λ there. let o = at_of ys' i there in other o.0 p.is (number_from bound g ys ys' ly o.0 i o.1))
      where
        p : IsFrom bound f xs k i
        p = number_from bound f xs xs' lx k i at

        before : (length shared ≤ p.x) × (Contains ys p.x → ⊥)
        before = are.left_out k p.x name h out p.at

        above : ((p.x < bound) × (i ≡ p.x)) ⊎ ((bound ≤ p.x) × (i ≡ f + k)) → length shared ≤ i
        above (inl a) = omega (arith, before.0, a.1)
        above (inr a) = omega (arith, a.1, above_f, few)

        other : (j : ℕ) → ((p.x < bound) × (i ≡ p.x)) ⊎ ((bound ≤ p.x) × (i ≡ f + k)) → IsFrom bound g ys j i → ⊥
        other j own_is q = by own_is q.is
          where
            by : ((p.x < bound) × (i ≡ p.x)) ⊎ ((bound ≤ p.x) × (i ≡ f + k)) → ((q.x < bound) × (i ≡ q.x)) ⊎ ((bound ≤ q.x) × (i ≡ g + j)) → ⊥
            by (inl a) (inl b) = before.1 (of_at ys j p.x (q.at ∙ ap Some (sym b.1 ∙ a.1)))
            by (inl a) (inr b) = omega (arith, a.0, a.1, b.1, above_g)
            by (inr a) (inl b) = omega (arith, b.0, b.1, a.1, above_f)
            by (inr a) (inr b) = apart k j p.inside q.inside (sym a.1 ∙ b.1)

    pub lowered_numbers : AreNumbersOf own shared xs' ys'
    lowered_numbers = record { each = lx.each ∙ are.each; distinct = numbers_distinct; common = numbers_common; left_out = numbers_left_out }

-- a light net has few inputs
pub inputs_few : (n : NetView) → IsSound n → net_weight n ≤ 2000000 → length n.inputs ≤ 2000000
inputs_few n sound light = let few = light_few n sound in omega (arith, few, light, sound.few_inputs)

-- the names of a net's inputs
names_long : (n : NetView) → length (ports_of n).inputs ≡ length n.inputs
names_long n = length-map (λ (p : Port). p.name) n.inputs

-- there are no more shared inputs than inputs of A
pub shared_few : (a b : NetView) → length (shared_inputs (ports_of a) (ports_of b)) ≤ length a.inputs
shared_few a b =
    let few : length (shared_inputs (ports_of a) (ports_of b)) ≤ length (ports_of a).inputs =
    length-filter-le (λ (name : List ℕ). not (is_clock (ports_of b) name && not (is_among (ports_of a).read name))) (ports_of a).inputs in
    omega (arith, few, names_long a)

-- one number for each input
pub orders_long : (a b : NetView) (orders : Orders) → AreOrders (ports_of a) (ports_of b) orders.left orders.right → (length orders.left ≡ length a.inputs) × (length orders.right ≡ length b.inputs)
orders_long a b orders are = (are.left_is.each ∙ names_long a, are.right_is.each ∙ names_long b)

-- all of it, for the numbers of two light nets
module _ (a b : NetView) (sound_a : IsSound a) (sound_b : IsSound b) (light_a : net_weight a ≤ 2000000) (light_b : net_weight b ≤ 2000000) (orders made : Orders) (are : AreOrders (ports_of a) (ports_of b) orders.left orders.right) where
  pub own_are : (bound from : ℕ) → bound ≡ length a.inputs + length b.inputs → from ≡ bound + length a.inputs → AreLowered bound bound orders.left made.left → AreLowered bound from orders.right made.right → AreOwnNumbers a b made
  own_are bound from bound_is from_is left right = record {
    are = record {
      left_is = lowered_numbers bound bound from orders.left orders.right made.left made.right left right (omega arith) (omega (arith, from_is)) (λ k j l m e. omega (arith, l, e, from_is, long.0)) (ports_of a).inputs (shared_inputs (ports_of a) (ports_of b)) few are.left_is;
      right_is = lowered_numbers bound from bound orders.right orders.left made.right made.left right left (omega (arith, from_is)) (omega arith) (λ k j l m e. omega (arith, m, e, from_is, long.0)) (ports_of b).inputs (shared_inputs (ports_of a) (ports_of b)) few are.right_is;
    };
    left_small = lowered_small bound bound orders.left made.left left (2 ^ 31) (omega (arith, bound_is, few_a, few_b)) (omega (arith, bound_is, few_a, few_b, long.0));
    right_small = lowered_small bound from orders.right made.right right (2 ^ 31) (omega (arith, bound_is, few_a, few_b)) (omega (arith, bound_is, from_is, few_a, few_b, long.1));
  }
    where
      long : (length orders.left ≡ length a.inputs) × (length orders.right ≡ length b.inputs)
      long = orders_long a b orders are

      few_a : length a.inputs ≤ 2000000
      few_a = inputs_few a sound_a light_a

      few_b : length b.inputs ≤ 2000000
      few_b = inputs_few b sound_b light_b

      few : length (shared_inputs (ports_of a) (ports_of b)) ≤ bound
      few = let all = shared_few a b in omega (arith, all, bound_is)
