-- Ties that queries show are an inductive invariant.
use Rattle.std.proofs.Common.{◌≡◌, ◌∙◌, ◌+◌, ◌*◌, ◌^◌, ◌<◌, ◌≤◌, ℕ, Bool, true, Bor, List, [], length, slice_get, Some, sym, ap, subst, arith}
use Rattle.std.specs.List.{All}
use Rattle.std.proofs.lemmas.Option.{slice_get_within}
use Rattle.circuit_theory.specs.Joined.{Either}
use Rattle.aig.specs.declared.node.Lit.{Lit}
use Rattle.aig.specs.declared.node.Node.{Node}
use Rattle.aig.specs.Graph.{Grows}
use Rattle.aig.specs.Values.{value}
use Rattle.aig.proofs.Growth.{Grows-trans}
use Rattle.circuit_laws.specs.declared.signal_laws.anchor.Anchor.{Anchor}
use Rattle.circuit_laws.specs.signal_laws.Ties.{side_at}
use Rattle.circuit_laws.specs.signal_laws.Invariants.{IsCycle, IsFirstCycle, AreSuccessive}
use Rattle.signal_refine.specs.declared.nets.SignalNets.{SignalNets}
use Rattle.signal_refine.specs.declared.leaves.Latches.TheVariants as latches
use Rattle.signal_refine.specs.declared.leaves.Cycle.{Cycle}
use Rattle.signal_refine.specs.declared.copies.NodeLits.{NodeLits}
use Rattle.signal_refine.specs.declared.assumed.Assumed.{Assumed}
use Rattle.signal_refine.specs.Assuming.{Holds, IsMet, IsStepCare}
use Rattle.signal_refine.specs.Places.{size_of, places_of, whole, order_of}
use Rattle.signal_refine.specs.Copies.{HaveAt, node_at, AreTiedAt, IsCopy, AreCarried}
use Rattle.signal_refine.specs.Frames.{IsReadBy, AreNamed, AreSignalLits, AreLeaves}
use Rattle.signal_refine.specs.Asking.{AreOne, AreShown}
use Rattle.signal_refine.specs.Told.{AreTold}
use Rattle.signal_refine.specs.Showing.{AreBelow, free_cycle, AreLits, Begins, Steps, AreInductiveNodes, AreInductiveTies}
use Rattle.signal_refine.proofs.Bits.{bits, bits_inputs, bits_latches, both, both_before, both_behind, number_below}
use Rattle.signal_refine.proofs.Caring.{one_after}
use Rattle.signal_refine.proofs.Framing.{within_grows, values_grow}

zero_more : (i : ℕ) → 0 + i ≡ i
zero_more i = omega arith

pub are_lits : (n : SignalNets) (first : ℕ) (from base : List Node) (lits : List Lit) → AreSignalLits (free_cycle n first) from base (places_of n) lits → AreLits n first base lits
are_lits n first from base lits are = (are.within, are.each, λ a v reading. are.values a v (record { meets = reading.meets; inputs = reading.inputs; latches = reading.latches }))

-- they have them in a grown graph
pub lits_grow : (n : SignalNets) (first : ℕ) (g h : List Node) → Grows g h → (lits : List Lit) → AreLits n first g lits → AreLits n first h lits
lits_grow n first g h grows lits are = (within_grows g h grows lits are.0, are.1, λ a v reading. values_grow (λ p. v (side_at (size_of n) p)) g h grows a lits are.0 (are.2 a v (record { meets = reading.meets; inputs = reading.inputs; latches = reading.latches })))

module _ (n : SignalNets) (first : ℕ) (below : AreBelow n first) (base : List Node) where
  -- each cycle is read by its bits
  pub cycle_reading : (x : Either ℕ ℕ → Bool) → IsCycle (whole n) (order_of n) x → IsReadBy (free_cycle n first) base (bits n first below x) x
  cycle_reading x cycle = record { meets = cycle.meets; inputs = λ p i number. ap (bits n first below x) (zero_more i) ∙ bits_inputs n first below x cycle p i number; latches = bits_latches n first below x }

  -- nothing is tied, and that is an inductive invariant
  none_tied : (w : ℕ → Bool) → AreTiedAt [] w
  none_tied w p k at = absurd (let inside = slice_get_within [] p k at in omega (arith, inside))

  none_inductive : (met : (Either ℕ ℕ → Bool) → Type 0) → AreInductiveNodes met n first base []
  none_inductive met = record {
    begins = λ x start here. (bits n first below x, cycle_reading x start.cycle, none_tied (node_at base (bits n first below x)));
    steps = λ x y successive here later tied. (bits n first below y, cycle_reading y successive.next, none_tied (node_at base (bits n first below y)));
  }

  none_told : (lits : List Lit) → AreTold lits [] []
  none_told lits p k at = absurd (let inside = slice_get_within [] p k at in omega (arith, inside))

  pub none_left : (met : (Either ℕ ℕ → Bool) → Type 0) (lits : List Lit) → AreLits n first base lits → AreInductiveTies met n []
  none_left met lits are = record { first = first; base = base; lits = lits; are_lits = are; nodes = []; inductive = none_inductive met; told = none_told lits }

  module _ (nodes : List Anchor) (w : Assumed) where
    -- the bits of a cycle that meets the assumption make it 1
    met_bits : (x : Either ℕ ℕ → Bool) → IsCycle (whole n) (order_of n) x → IsMet w n x → Holds w (bits n first below x)
    met_bits x cycle met = met (bits n first below x) (λ p i number. bits_inputs n first below x cycle p i number)

    pub begins_where_shown : (g h k : List Node) (count : ℕ) (leaves : List Lit) → AreLeaves (record { nets = n; inputs = 0; first = first; latches = latches.Started }) g h count leaves → Grows h k →
        (care : Lit) → ((a c : ℕ → Bool) → HaveAt c h a leaves → Holds w c → value k a care.0 ≡ true) → (none : NodeLits) → none.own.items ≡ [] → AreShown base leaves care none nodes k → Begins (IsMet w n) n first base nodes
    begins_where_shown g h k count leaves are grows care holds none is_none shown x start met =
        (a, cycle_reading x start.cycle, shown a a (holds a a have (met_bits x start.cycle met), one) (values_grow a h k grows a leaves are.within have))
      where
        a : ℕ → Bool
        a = bits n first below x

        reading : IsReadBy (record { nets = n; inputs = 0; first = first; latches = latches.Started }) g a x
        reading = record { meets = start.cycle.meets; inputs = λ p i number. ap a (zero_more i) ∙ bits_inputs n first below x start.cycle p i number; latches = (bits_latches n first below x, start.starts) }

        named : AreNamed (record { nets = n; inputs = 0; first = first; latches = latches.Started }) a a x
        named = record { inputs = λ i h. ap a (zero_more i); latches = bits_latches n first below x }

        have : HaveAt a h a leaves
        have = are.values a a x reading named

        one : AreOne none.own.items none.read.items k a
        one i l r at at' = absurd (let inside = slice_get_within none.own.items i l at in omega (arith, inside, ap length is_none))

    pub steps_where_shown : (limit : ℕ) → limit ≡ first + places_of n → (lits : List Lit) → AreLits n first base lits → (g0 g1 g2 g3 g4 : List Node) (c1 c2 c3 : ℕ) (leaves next : List Lit) (before : Bor (List Lit)) (now : NodeLits) →
        AreLeaves (free_cycle n first) g0 g1 c1 leaves → IsCopy base leaves nodes g1 g2 c2 now → (kept : List Lit) → AreCarried now.read.items lits kept →
        ((w : ℕ → Bool) (g : List Node) (a : ℕ → Bool) → HaveAt w g a kept → HaveAt w g a before.now) →
        AreLeaves (record { nets = n; inputs = limit; first = first; latches = latches.Carried before }) g2 g3 c3 next → Grows g3 g4 → (care : Lit) → IsStepCare w leaves next g3 g4 care → AreShown base next care now nodes g4 → Steps (IsMet w n) n first base nodes
    steps_where_shown limit limit_is lits are_lits g0 g1 g2 g3 g4 c1 c2 c3 leaves next before now are_leaves is_copy kept carried are_before are_next grows care caring shown x y successive here onward tied =
        (bits n first below y, cycle_reading y successive.next, shown a (bits n first below y) (cared, one) (values_grow (bits n first below y) g3 g4 grows a next are_next.within next_values))
      where
        old : ℕ → Bool
        old = tied.0

        a : ℕ → Bool
        a = both n first below old y

        later : Cycle
        later = record { nets = n; inputs = limit; first = first; latches = latches.Carried before }

        reading : IsReadBy (free_cycle n first) g0 a x
        reading = record {
          meets = successive.now.meets;
          inputs = λ p i number.
              let low = number_below n first below p i number in
              ap a (zero_more i) ∙ (both_before n first below old y i (omega (arith, low)) ∙ (sym (ap old (zero_more i)) ∙ tied.1.inputs p i number));
          latches = λ p h. both_before n first below old y (first + p) (omega (arith, h)) ∙ tied.1.latches p h;
        }

        named : AreNamed (free_cycle n first) a old x
        named = record { inputs = λ i h. ap a (zero_more i) ∙ both_before n first below old y i h; latches = tied.1.latches }

        leaf_values : HaveAt old g1 a leaves
        leaf_values = are_leaves.values a old x reading named

        read_values : HaveAt (node_at base old) g2 a now.read.items
        read_values = is_copy.read_values a old leaf_values tied.2

        own_values : HaveAt (node_at base old) g2 a now.own.items
        own_values = is_copy.own_values a old leaf_values tied.2

        before_values : HaveAt (λ p. x (side_at (size_of n) p)) g2 a before.now
        before_values = are_before (λ p. x (side_at (size_of n) p)) g2 a (carried.values base g2 a old (λ p. x (side_at (size_of n) p)) read_values (are_lits.2 old x tied.1))

        reading_next : IsReadBy later g2 a y
        reading_next = record {
          meets = successive.next.meets;
          inputs = λ p i number. ap (λ m. a (m + i)) limit_is ∙ (both_behind n first below old y i ∙ bits_inputs n first below y successive.next p i number);
          latches = (x, before_values, successive.carries);
        }

        named_next : AreNamed later a (bits n first below y) y
        named_next = record { inputs = λ i h. ap (λ m. a (m + i)) limit_is ∙ both_behind n first below old y i; latches = bits_latches n first below y }

        next_values : HaveAt (bits n first below y) g3 a next
        next_values = are_next.values a (bits n first below y) y reading_next named_next

        one : AreOne now.own.items now.read.items g4 a
        one =
            one_after g2 g4 (Grows-trans g2 g3 g4 are_next.grows grows) now.own.items now.read.items is_copy.own_within is_copy.read_within a
            (λ i l r at at'. own_values i l at ∙ sym (read_values i r at'))

        cared : value g4 a care.0 ≡ true
        cared =
            caring a old (bits n first below y) (values_grow old g1 g3 (Grows-trans g1 g2 g3 is_copy.grows are_next.grows) a leaves are_leaves.within leaf_values) next_values
            (here old (λ p i number. sym (ap old (zero_more i)) ∙ tied.1.inputs p i number)) (met_bits y successive.next onward)
