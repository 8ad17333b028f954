-- What an answer to the query of a latch says of the latch.
use Rattle.std.proofs.Common.{◌≡◌, ◌∙◌, ◌<◌, ◌≤◌, ℕ, Bool, true, false, true≢false, List, length, get_or, slice_get, Some, refl, sym, ap, subst, arith}
use Rattle.std.specs.Prelude.{◌≢◌}
use Rattle.std.proofs.lemmas.Option.{slice_get_within, slice_get-get_or, get_or_from_slice_get}
use Rattle.circuit_theory.specs.Circuit.{Circuit, Equation, Gate, Latch, Port, IsLatch}
use Rattle.circuit_theory.specs.Query.{bits_of}
use Rattle.circuit_theory.specs.Run.{ExtendsWith, IsEnabled}
use Rattle.circuit_theory.specs.Net.{IsNet}
use Rattle.circuit_theory.proofs.Lists.{of_at}
use Rattle.circuit_laws.proofs.NetLaws.{net_value, net_value-extends, net_can_put}
use Rattle.flat_net.specs.View.{NetView, circuit_of}
use Rattle.flat_net.specs.Cut.{latch_at}
use Rattle.flat_net.specs.Sound.{IsSound}
use Rattle.flat_net.proofs.Nets.{latch_stands, sound_is_net}
use Rattle.flat_net.proofs.Exposed.{latch_there}
use Rattle.aig.specs.declared.node.Lit.{Lit}
use Rattle.aig.specs.declared.node.Node.{Node}
use Rattle.aig.specs.Values.{value}
use Rattle.pair_decide.specs.declared.query.Query.{Query}
use Rattle.pair_decide.specs.Queries.{IsSame, Distinguishes, assigned_to}
use Rattle.pair_decide.specs.declared.query.SameBy.{SameBy}
use Rattle.pair_decide.specs.declared.query.SameBy.TheVariants as same
use Rattle.pair_decide.specs.declared.query.Decision.{Decision}
use Rattle.pair_decide.specs.declared.query.Decision.TheVariants as decision
use Rattle.pair_decide.specs.Answers.{IsDifference, Decides}
use Rattle.aig.proofs.lane_eval.Numbered.{assigned_to-at}
use Rattle.latch_kinds.specs.declared.unate_enable.support.LatchCone.{LatchCone}
use Rattle.latch_kinds.specs.unate_enable.Cones.{out_of_latch, data_of_latch, IsConeOfLatch, places_of}
use Rattle.latch_kinds.specs.declared.unate_enable.recovery.Recovery.{Recovery}
use Rattle.latch_kinds.specs.declared.unate_enable.recovery.Recovery.TheVariants as recovery
use Rattle.aig.specs.Graph.{IsGraph}
use Rattle.latch_kinds.specs.unate_enable.Recovery.{recovery_of, IsAsked, IsAnswer, IsRecovery, HasSelfEdge, IsCase, IsQueryOf, FallsAt, IsNotUnate, IsEnabledAt}
use Rattle.latch_kinds.specs.unate_enable.Raises.{IsRaise}
use Rattle.circuit_laws.proofs.EnabledForm.{enabled_loads_or_keeps_in_nets}
use Rattle.latch_kinds.proofs.unate_enable.Cones.{ArePlaces}
use Rattle.latch_kinds.proofs.unate_enable.OneCone.{one_cone}

abbrev next_of : Equation ℕ → ℕ
next_of (Gate out fanins cover) = out
next_of (Latch name out next) = next
next_of (Port out from) = from

module _ (n : NetView) (sound : IsSound n) (j : ℕ) (own : j < length n.latches) where
  c : Circuit ℕ
  c = circuit_of n

  net : IsNet (circuit_of n) (length n.drivers)
  net = sound_is_net n sound

  latch : IsLatch (circuit_of n) (latch_at n j).name (out_of_latch n j) (data_of_latch n j)
  latch = latch_stands n j (latch_at n j) (latch_there n sound j own)

  -- the enabled latch's data is the one that the net gives it
  next_is : (en : IsEnabled (circuit_of n) (out_of_latch n j)) → en.next ≡ data_of_latch n j
  next_is en = ap next_of (net.single.one (Latch en.name (out_of_latch n j) en.next) (Latch (latch_at n j).name (out_of_latch n j) (data_of_latch n j)) en.latch latch refl)

  -- values that extend others are a case, where the assignment has theirs at the places
  case_of : (signals places : List ℕ) → ArePlaces n j signals places → (bit : Bool) (a x v : ℕ → Bool) → ((k p : ℕ) → slice_get places k ≡ Some p → x p ≡ a k) → ExtendsWith (circuit_of n) (out_of_latch n j) bit x v →
      IsCase (circuit_of n) (out_of_latch n j) bit places a v
  case_of signals places are bit a x v same ex = record {
    meets = ex.meets;
    put = ex.put;
    takes = λ k p at. let here = of_at places k p at in ex.sources p (are.sources p here) (are.others p here) ∙ same k p at;
  }

  -- what the latch takes over never goes down where the latch goes up
  pub enabled_by : HasSelfEdge n j → ((low high : ℕ → Bool) → IsRaise (circuit_of n) (out_of_latch n j) low high → low (data_of_latch n j) ≡ true → high (data_of_latch n j) ≡ true) → IsEnabledAt n j
  enabled_by self never = record { enabled = enabled; loads_or_keeps = enabled_loads_or_keeps_in_nets (circuit_of n) (length n.drivers) net (latch_at n j).name (out_of_latch n j) (data_of_latch n j) latch enabled }
    where
      enabled : IsEnabled (circuit_of n) (out_of_latch n j)
      enabled = record {
        name = (latch_at n j).name;
        next = data_of_latch n j;
        latch = latch;
        self_edge = self;
        rises = λ x low high low_is high_is up. never low high (record { x = x; low_is = low_is; high_is = high_is }) up;
      }

  -- the sides are one wherever f0 is 1
  pub enabled_from : (signals places : List ℕ) (g : List Node) (q : Query) → ArePlaces n j signals places → HasSelfEdge n j → IsQueryOf n j places g q → IsSame g q → IsEnabledAt n j
  enabled_from signals places g q are self is same = record { enabled = enabled; loads_or_keeps = enabled_loads_or_keeps_in_nets (circuit_of n) (length n.drivers) net (latch_at n j).name (out_of_latch n j) (data_of_latch n j) latch enabled }
    where
      at_places : (ℕ → Bool) → ℕ → Bool
      at_places x k = x (get_or places k 0)

      takes : (x : ℕ → Bool) (k p : ℕ) → slice_get places k ≡ Some p → x p ≡ x (get_or places k 0)
      takes x k p at = ap x (sym (get_or_from_slice_get places k p 0 at))

      enabled : IsEnabled (circuit_of n) (out_of_latch n j)
      enabled = record {
        name = (latch_at n j).name;
        next = data_of_latch n j;
        latch = latch;
        self_edge = self;
        rises = λ x low high low_is high_is up.
            let a : ℕ → Bool = λ k. x (get_or places k 0) in
            let low_value : low (data_of_latch n j) ≡ value g (λ k. x (get_or places k 0)) q.left.0 = is.low.is (λ k. x (get_or places k 0)) low (case_of signals places are false (λ k. x (get_or places k 0)) x low (takes x) low_is) in
            let high_value : high (data_of_latch n j) ≡ value g (λ k. x (get_or places k 0)) q.right.0 = is.high.is (λ k. x (get_or places k 0)) high (case_of signals places are true (λ k. x (get_or places k 0)) x high (takes x) high_is) in
            let left : value g (λ k. x (get_or places k 0)) q.left.0 ≡ true = sym low_value ∙ up in
            let care : value g (λ k. x (get_or places k 0)) q.care.0 ≡ true = ap (λ (l : Lit). value g (λ k. x (get_or places k 0)) l.0) is.care ∙ left in
            high_value ∙ sym (same (λ k. x (get_or places k 0)) care) ∙ left;
      }

  -- some values with the latch at a bit
  extended : (x : ℕ → Bool) (bit : Bool) → (v : ℕ → Bool) × ExtendsWith (circuit_of n) (out_of_latch n j) bit x v
  extended x bit =
      let ex = net_value-extends (circuit_of n) (length n.drivers) net x in
      let put = net_can_put (circuit_of n) (length n.drivers) net (net_value (circuit_of n) x) (latch_at n j).name (out_of_latch n j) (data_of_latch n j) bit latch ex.meets in
      (put.0, record { meets = put.1.meets; sources = λ p s differs. put.1.sources p s differs ∙ ex.sources p s; put = put.1.put })

  not_true : (b : Bool) → true ≢ b → b ≡ false
  not_true true h = absurd (h refl)
  not_true false h = refl

  -- values with which the latch falls answer the query
  fall_distinguishes : (signals : List ℕ) (cone : LatchCone) (g : List Node) (q : Query) → IsConeOfLatch n j cone → ArePlaces n j signals (places_of n cone) → IsQueryOf n j (places_of n cone) g q → (bits : List Bool) → FallsAt n j bits → Distinguishes g q (assigned_to q.vars bits)
  fall_distinguishes signals cone g q cone_is are is bits falls = record {
    care = ap (λ (l : Lit). value g (assigned_to q.vars bits) l.0) is.care ∙ left_one;
    differ = λ e. true≢false (sym left_one ∙ e ∙ right_zero);
  }
    where
      same : falls.cone ≡ cone
      same = one_cone n j falls.cone cone falls.cone_is cone_is

      each : length bits ≡ length q.vars
      each = falls.each ∙ ap (λ (k : LatchCone). length (places_of n k)) same ∙ sym is.each

      takes : (k p : ℕ) → slice_get (places_of n cone) k ≡ Some p → falls.x p ≡ assigned_to q.vars bits k
      takes k p at =
          let bit = falls.takes k p (subst (λ (o : LatchCone). slice_get (places_of n o) k ≡ Some p) (sym same) at) in
          sym (get_or_from_slice_get bits k (falls.x p) false bit) ∙ assigned_to-at q.vars bits is.query.distinct each k k (is.variables k (slice_get_within (places_of n cone) k p at))

      left_one : value g (assigned_to q.vars bits) q.left.0 ≡ true
      left_one = sym (is.low.is (assigned_to q.vars bits) falls.low (case_of signals (places_of n cone) are false (assigned_to q.vars bits) falls.x falls.low takes falls.low_is)) ∙ falls.low_is_one

      right_zero : value g (assigned_to q.vars bits) q.right.0 ≡ false
      right_zero = sym (is.high.is (assigned_to q.vars bits) falls.high (case_of signals (places_of n cone) are true (assigned_to q.vars bits) falls.x falls.high takes falls.high_is)) ∙ falls.high_is_zero

  -- the sides differ somewhere
  pub falls_from : (signals : List ℕ) (cone : LatchCone) (g : List Node) (q : Query) (bits : List Bool) → IsConeOfLatch n j cone → ArePlaces n j signals (places_of n cone) → IsQueryOf n j (places_of n cone) g q → IsDifference g q bits → IsNotUnate n j bits
  falls_from signals cone g q bits cone_is are is difference = record { falls = falls; least = least; not_enabled = not_enabled }
    where
      places : List ℕ
      places = places_of n cone

      each : length bits ≡ length (places_of n cone)
      each = difference.each ∙ is.each

      x : ℕ → Bool
      x p = assigned_to (places_of n cone) bits p

      a : ℕ → Bool
      a k = assigned_to q.vars bits k

      bit_at : (k p : ℕ) → slice_get (places_of n cone) k ≡ Some p → get_or bits k false ≡ assigned_to (places_of n cone) bits p
      bit_at k p at = assigned_to-at (places_of n cone) bits are.distinct each k p at

      takes : (k p : ℕ) → slice_get (places_of n cone) k ≡ Some p → assigned_to (places_of n cone) bits p ≡ assigned_to q.vars bits k
      takes k p at = sym (bit_at k p at) ∙ assigned_to-at q.vars bits is.query.distinct difference.each k k (is.variables k (slice_get_within (places_of n cone) k p at))

      low : (v : ℕ → Bool) × ExtendsWith (circuit_of n) (out_of_latch n j) false (λ p. assigned_to (places_of n cone) bits p) v
      low = extended (λ p. assigned_to (places_of n cone) bits p) false

      high : (v : ℕ → Bool) × ExtendsWith (circuit_of n) (out_of_latch n j) true (λ p. assigned_to (places_of n cone) bits p) v
      high = extended (λ p. assigned_to (places_of n cone) bits p) true

      low_value : low.0 (data_of_latch n j) ≡ value g (assigned_to q.vars bits) q.left.0
      low_value = is.low.is (assigned_to q.vars bits) low.0 (case_of signals (places_of n cone) are false (assigned_to q.vars bits) (λ p. assigned_to (places_of n cone) bits p) low.0 takes low.1)

      high_value : high.0 (data_of_latch n j) ≡ value g (assigned_to q.vars bits) q.right.0
      high_value = is.high.is (assigned_to q.vars bits) high.0 (case_of signals (places_of n cone) are true (assigned_to q.vars bits) (λ p. assigned_to (places_of n cone) bits p) high.0 takes high.1)

      left_one : value g (assigned_to q.vars bits) q.left.0 ≡ true
      left_one = ap (λ (l : Lit). value g (assigned_to q.vars bits) l.0) (sym is.care) ∙ difference.distinguishes.care

      right_zero : value g (assigned_to q.vars bits) q.right.0 ≡ false
      right_zero = not_true (value g (assigned_to q.vars bits) q.right.0) (λ e. difference.distinguishes.differ (left_one ∙ e))

      falls : FallsAt n j bits
      falls = record {
        cone = cone;
        cone_is = cone_is;
        each = each;
        x = λ p. assigned_to (places_of n cone) bits p;
        takes = λ k p at. slice_get-get_or bits k false (let inside = slice_get_within (places_of n cone) k p at in omega (arith, inside, each)) ∙ ap Some (bit_at k p at);
        low = low.0;
        high = high.0;
        low_is = low.1;
        high_is = high.1;
        low_is_one = low_value ∙ left_one;
        high_is_zero = high_value ∙ right_zero;
      }

      least : length bits ≤ 16 → (number : ℕ) × (bits ≡ bits_of number (length bits)) × ((m : ℕ) → m < number → FallsAt n j (bits_of m (length bits)) → ⊥)
      least few =
          let k = difference.least (omega (arith, few, difference.each)) in (
            k.0,
            k.1 ∙ ap (bits_of k.0) (sym difference.each),
            λ m below falling. k.2.least m below (subst (λ (len : ℕ). Distinguishes g q (assigned_to q.vars (bits_of m len))) difference.each (fall_distinguishes signals cone g q cone_is are is (bits_of m (length bits)) falling)),
          )

      not_enabled : IsEnabled (circuit_of n) (out_of_latch n j) → ⊥
      not_enabled en =
          let up : low.0 en.next ≡ true = ap low.0 (next_is en) ∙ low_value ∙ left_one in
          let risen : high.0 en.next ≡ true = en.rises (λ p. assigned_to (places_of n cone) bits p) low.0 high.0 low.1 high.1 up in
          true≢false (sym risen ∙ ap high.0 (next_is en) ∙ high_value ∙ right_zero)

-- whatever shows that the sides are the same
pub same_of : (g : List Node) (q : Query) (conflicts : ℕ) (d : Decision) (by : SameBy) → d ≡ decision.Same by → Decides g q conflicts d → IsSame g q
same_of g q conflicts d by is h = go by (subst (Decides g q conflicts) is h)
  where
    go : (by : SameBy) → Decides g q conflicts (decision.Same by) → IsSame g q
    go same.Literal k = k.1
    go same.Table k = k.1
    go (same.Refuted proof) k = k.1

-- what is found out, from the answer
pub recovery_from : (n : NetView) (j conflicts : ℕ) (r : Recovery) → IsAsked n j → IsAnswer n j conflicts r → IsRecovery n j conflicts r
recovery_from n j conflicts recovery.Plain asked is = absurd is
recovery_from n j conflicts recovery.Enabled asked is = (asked, is)
recovery_from n j conflicts (recovery.NotUnate bits) asked is = (asked, is)
recovery_from n j conflicts (recovery.Limit proof) asked is = (asked, is)

-- the answer, from the decision
pub answer_from : (n : NetView) (sound : IsSound n) (j : ℕ) (own : j < length n.latches) (conflicts : ℕ) (signals : List ℕ) (cone : LatchCone) (g : List Node) (q : Query) (d : Decision) → IsConeOfLatch n j cone → ArePlaces n j signals (places_of n cone) →
    HasSelfEdge n j → IsGraph g → IsQueryOf n j (places_of n cone) g q → Decides g q conflicts d → IsAnswer n j conflicts (recovery_of d)
answer_from n sound j own conflicts signals cone g q (decision.Same by) cone_is are self graph is h = enabled_from n sound j own signals (places_of n cone) g q are self is (same_of g q conflicts (decision.Same by) by refl h)
answer_from n sound j own conflicts signals cone g q (decision.Differs bits) cone_is are self graph is h = falls_from n sound j own signals cone g q bits cone_is are is h
answer_from n sound j own conflicts signals cone g q (decision.Limit proof) cone_is are self graph is h = record { cone = cone; cone_is = cone_is; graph = g; graph_is = graph; query = q; query_is = is; limit = h }
