-- Circuits in which no latch reads another one pass none of the numbers of the event form.
use Rattle.std.proofs.Common.{◌≡◌, ◌∙◌, ℕ, zero, suc, ◌+◌, ◌*◌, ◌≤◌, List, [], ◌∷◌, ◌++◌, length, refl, sym, ap, subst, arith, inl, inr}
use Rattle.std.specs.List.{AllPairs, Contains}
use Rattle.std.proofs.lemmas.List.Elements.{Contains-append_left}
use Rattle.std.proofs.lemmas.List.Kept.{AllPairs-cons}
use Rattle.circuit_theory.specs.declared.Side.{Side}
use Rattle.circuit_theory.specs.declared.Side.TheVariants.{A, B}
use Rattle.circuit_theory.specs.Circuit.{Circuit}
use Rattle.circuit_theory.specs.Depth.{LatchesHaveDepths}
use Rattle.circuit_theory.specs.Joined.{Either, joined}
use Rattle.circuit_theory.specs.Run.{IsEnabled}
use Rattle.circuit_theory.proofs.Lists.{All-from_each, Contains-cases}
use Rattle.circuit_theory.specs.Classes.{DiffersFromMember}
use Rattle.circuit_theory.specs.EventSizes.{IsEventOver, Start}
use Rattle.circuit_theory.specs.EventTotals.{IsNodesOver, IsClassesOver}
use Rattle.circuit_theory.specs.Frame.{EventSide}
use Rattle.circuit_laws.proofs.event_laws.SideParts.{sides_are_parts_in_nets}
use Rattle.flat_net.specs.Sound.{IsSound}
use Rattle.flat_net.specs.View.{NetView, circuit_of}
use Rattle.flat_net.proofs.Nets.{sound_is_net}
use Rattle.sec_setup.specs.declared.ports.pairs.SignalPair.{SignalPair}
use Rattle.event_nodes.specs.View.{EventCircuitView, Enabled, side_of}
use Rattle.edbf_unfold.specs.class_queries.Enables.{both_of, class_map}
use Rattle.job_check.specs.check_meaning.event_texts.event_classes.Totals.{circuit_at, ReachTooMany, starts_at, WeighTooMuch}
use Rattle.job_check.specs.check_meaning.event_texts.event_classes.Refused.{AreManyLatches, IsNextLatch, IsTooHeavy, IsTooMany}
use Rattle.job_check.specs.check_meaning.event_texts.event_fits.Totals.{IsMapMade, PairsReachTooMany, PairsWeighTooMuch}
use Rattle.circuit_laws.proofs.Counting.{fewer}
use Rattle.circuit_laws.proofs.Shallow.{IsShallow, IsLightCircuit, few_nodes, light_visits}
use Rattle.premise_rows.proofs.event_premises.Sides.{both_latches, both_length, both_shallow}

-- a net in which no latch reads another one, with all numbers small
pub record IsShallowNet (n : NetView) : Type 0 where
  pub latches : List ℕ
  pub places : List ℕ
  pub most : ℕ
  pub shallow : IsShallow (circuit_of n) latches
  pub light : IsLightCircuit (circuit_of n) places most
  pub few : length latches ≤ 100
  pub small : most * (length places * suc (length latches)) ≤ 2000000

-- one whose latches have depths, too
pub record IsShallowEvents (n : NetView) : Type 0 where
  pub net : IsShallowNet n
  pub sound : IsSound n
  pub depths : LatchesHaveDepths (circuit_of n) (IsEnabled (circuit_of n))

-- members of so many classes are distinct latches
few_classes : {P : Type 0} (s : EventSide P) (latches taken : List P) (v : P) → ((u : P) → Contains taken u → Contains latches u) → (count : ℕ) → ((k : ℕ) → k ≤ count → DiffersFromMember s taken k v) → count ≤ length latches
few_classes {P} s latches taken v among count differs =
    let m = members count (omega arith) in
    let h : length m.0 ≤ length latches = fewer m.0 latches m.2 (λ u k. (m.3 u k).0) in
    omega (arith, h, m.1)
  where
    members : (k : ℕ) → k ≤ count → (us : List P) × (length us ≡ k) × AllPairs (λ u w. u ≡ w → ⊥) us × ((u : P) → Contains us u → Contains latches u × (s.class u ≤ k))
    members zero within = ([], refl, λ i j d l m. absurd (omega arith), λ u h. absurd (let l = h.1 in omega (arith, l)))
    members (suc k) within =
        let rest = members k (omega arith) in
        let next = differs (suc k) within in (
          next.0 ∷ rest.0,
          ap suc rest.1,
          AllPairs-cons (λ u w. u ≡ w → ⊥) next.0 rest.0 (All-from_each (λ w. next.0 ≡ w → ⊥) rest.0 (λ w h same. (let low = (rest.3 w h).1 in let high : s.class w ≡ suc k = ap s.class (sym same) ∙ next.2 in omega (arith, low, high)))) rest.2,
          λ u h. elim (Contains-cases next.0 u rest.0 h) [
            | inl same ↦ (subst (Contains latches) same (among next.0 next.1), (let own : s.class u ≡ suc k = ap s.class (sym same) ∙ next.2 in omega (arith, own)))
            | inr k ↦ ((rest.3 u k).0, (let low = (rest.3 u k).1 in omega (arith, low)))
          ],
        )

module _ (a b : EventCircuitView) (left : IsShallowEvents a.net) (right : IsShallowEvents b.net) where
  abbrev pub c : Circuit (Either ℕ ℕ)
  c = joined (circuit_of a.net) (circuit_of b.net)

  abbrev pub latches : List (Either ℕ ℕ)
  latches = both_latches (circuit_of a.net) (circuit_of b.net) left.net.latches right.net.latches left.net.shallow right.net.shallow

  pub shallow : IsShallow c latches
  shallow = both_shallow (circuit_of a.net) (circuit_of b.net) left.net.latches right.net.latches left.net.shallow right.net.shallow

  pub few_latches : length latches ≤ 200
  few_latches =
      let whole : length latches ≡ length left.net.latches + length right.net.latches = both_length (circuit_of a.net) (circuit_of b.net) left.net.latches right.net.latches left.net.shallow right.net.shallow in
      let l : length left.net.latches ≤ 100 = left.net.few in
      let r : length right.net.latches ≤ 100 = right.net.few in
      omega (arith, whole, l, r)

  pub depths : LatchesHaveDepths c (IsEnabled c)
  depths = (sides_are_parts_in_nets (circuit_of a.net) (circuit_of b.net) (length a.net.drivers) (length b.net.drivers) (sound_is_net a.net left.sound) (sound_is_net b.net right.sound)).4 left.depths right.depths

  enabled_listed : (u : Either ℕ ℕ) → IsEnabled c u → Contains latches u
  enabled_listed u on = shallow.listed on.name u on.next on.latch

  no_nodes_over : (starts : List (Start (Either ℕ ℕ))) → IsNodesOver (both_of a b) starts 10000 → ⊥
  no_nodes_over starts over =
      let h : 10000 ≤ length latches = few_nodes c latches shallow depths (a.order ++ b.order) (class_map a b) starts 10000 over in
      omega (arith, h, few_latches)

  left_light : (starts : List (Start ℕ)) → IsEventOver (side_of a) (Enabled a) starts 2000000 → ⊥
  left_light starts over =
      let h = light_visits (circuit_of a.net) left.net.latches left.net.shallow left.depths a.order (side_of a).class left.net.places left.net.most left.net.light starts 2000000 over in
      let small = left.net.small in
      omega (arith, h, small)

  right_light : (starts : List (Start ℕ)) → IsEventOver (side_of b) (Enabled b) starts 2000000 → ⊥
  right_light starts over =
      let h = light_visits (circuit_of b.net) right.net.latches right.net.shallow right.depths b.order (side_of b).class right.net.places right.net.most right.net.light starts 2000000 over in
      let small = right.net.small in
      omega (arith, h, small)

  side_light : (side : Side) (lefts rights : List (Start ℕ)) → IsEventOver (side_of (circuit_at side a b)) (Enabled (circuit_at side a b)) (starts_at side lefts rights) 2000000 → ⊥
  side_light A lefts rights over = left_light lefts over
  side_light B lefts rights over = right_light rights over

  no_many : AreManyLatches a b → ⊥
  no_many m =
      let h : length m.latches ≤ length latches = fewer m.latches latches m.distinct (λ u k. enabled_listed u (m.enabled u k)) in
      let many = m.many in
      omega (arith, h, many, few_latches)

  no_classes_over : (taken rest : List (Either ℕ ℕ)) (v : Either ℕ ℕ) → ((u : Either ℕ ℕ) → Contains (taken ++ rest) u → IsEnabled c u) → IsClassesOver (both_of a b) taken v 500 → ⊥
  no_classes_over taken rest v on over =
      let h : 500 ≤ length latches = few_classes (both_of a b) latches taken v (λ u k. enabled_listed u (on u (Contains-append_left taken rest u k))) 500 (λ k l. over.1 k (let m = over.0 in omega (arith, l, m))) in
      omega (arith, h, few_latches)

  pub no_pairs_many : (m : IsMapMade a b) (pairs : List SignalPair) → PairsReachTooMany a b m pairs → ⊥
  no_pairs_many m pairs h = no_nodes_over _ h.2

  pub no_pairs_heavy : (side : Side) (m : IsMapMade a b) (pairs : List SignalPair) → PairsWeighTooMuch side a b m pairs → ⊥
  no_pairs_heavy side m pairs h = side_light side _ _ h.2

-- the circuits with the classes so far are these
module _ (a b : EventCircuitView) (left : IsShallowEvents a.net) (right : IsShallowEvents b.net) (v : Either ℕ ℕ) (n : IsNextLatch a b v) where
  left_so_far : IsShallowEvents n.left.net
  left_so_far = subst IsShallowEvents (sym (ap (λ (e : EventCircuitView). e.net) n.left_is)) left

  right_so_far : IsShallowEvents n.right.net
  right_so_far = subst IsShallowEvents (sym (ap (λ (e : EventCircuitView). e.net) n.right_is)) right

  nodes_so_far : (taken : List (Either ℕ ℕ)) → ReachTooMany n.left n.right taken → ⊥
  nodes_so_far taken r = no_nodes_over n.left n.right left_so_far right_so_far r.starts r.over

  classes_so_far : IsClassesOver (both_of n.left n.right) n.taken v 500 → ⊥
  classes_so_far over = no_classes_over n.left n.right left_so_far right_so_far n.taken (v ∷ n.rest) v n.so_far.is_order.enabled over

  weight_so_far : (side : Side) (taken : List (Either ℕ ℕ)) → WeighTooMuch side n.left n.right taken → ⊥
  weight_so_far side taken w = side_light n.left n.right left_so_far right_so_far side w.lefts w.rights w.over

module _ (a b : EventCircuitView) (left : IsShallowEvents a.net) (right : IsShallowEvents b.net) where
  pub no_map_many : IsTooMany a b → ⊥
  no_map_many (inl m) = no_many a b left right m
  no_map_many (inr h) = elim h.2 [
    | inl r ↦ nodes_so_far a b left right h.0 h.1 _ r
    | inr x ↦ classes_so_far a b left right h.0 h.1 x.1
  ]

  pub no_map_heavy : (side : Side) → IsTooHeavy a b side → ⊥
  no_map_heavy side h = weight_so_far a b left right h.0 h.1 side _ h.3
