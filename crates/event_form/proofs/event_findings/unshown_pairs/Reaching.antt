-- What a pair reaches that is unfolded once more.
use Rattle.std.proofs.Common.{◌≡◌, ℕ, Bool, true, false, List, [], ◌∷◌, ◌++◌, refl, sym, subst, inl, inr}
use Rattle.std.specs.Prelude.{◌↔◌, ◌&&◌, Contains}
use Rattle.std.proofs.lemmas.List.Elements.{All-weaker, Contains-append_left, Contains-append_cases}
use Rattle.circuit_theory.specs.declared.Side.TheVariants.{A, B}
use Rattle.circuit_theory.specs.Joined.{Either, Left, Right}
use Rattle.circuit_theory.specs.Run.{IsEnabled}
use Rattle.circuit_theory.proofs.Lists.{only}
use Rattle.circuit_theory.specs.EventSizes.{Start}
use Rattle.circuit_theory.specs.Frame.{EventSide, ConeLatches}
use Rattle.event_nodes.specs.Visited.{CounterView, HasCounted, IsVisitedPair}
use Rattle.event_nodes.specs.View.{EventCircuitView}
use Rattle.event_nodes.specs.Nodes.{path_of}
use Rattle.event_form.specs.Functions.{signal_start}
use Rattle.event_form.specs.SignalFunction.{SignalFunction}
use Rattle.event_form.specs.event_agreement.event_pairs.Functions.{AreNodesOf}
use Rattle.event_form.proofs.event_agreement.event_pairs.Unions.{pair_nodes}
use Rattle.circuit_theory.specs.EventFits.{ReachesAlways}
use Rattle.sec_setup.specs.declared.ports.pairs.SignalPair.{SignalPair}
use Rattle.event_form.specs.event_agreement.pair_events.Counted.{HaveCounted, GoOnCounting, both_starts}
use Rattle.event_form.specs.event_agreement.pair_events.View.{EventsView, side_of_both}
use Rattle.event_form.proofs.event_agreement.pair_events.Counting.{pair_more}
use Rattle.event_form.proofs.event_agreement.pair_events.Starts.{both_more, node_more}
use Rattle.event_form.specs.Asked.{IsUnion}
use Rattle.event_form.proofs.Refusing.{Within}
use Rattle.event_form.specs.event_findings.unshown_pairs.Reached.{BothReachAlways, IsReachOf, StaysCounted}
use Rattle.event_form.specs.declared.event_findings.unshown_pairs.reach.PairReach.{PairReach}

no : {X : Type 0} → false ≡ true → X
no {X} e = absurd (wrong e)
  where
    wrong : false ≡ true → ⊥
    wrong q = cc

-- both sides reach class 0 alone where two bits say so
pub only_both : (s : EventSide (Either ℕ ℕ)) (p : SignalPair) (l r : Bool) → (l ≡ true) ↔ ReachesAlways s (Left p.left.0) → (r ≡ true) ↔ ReachesAlways s (Right p.right.0) → ((l && r) ≡ true) ↔ BothReachAlways s p
only_both s p false r left right = ((λ h. no h), (λ h. no (left.1 h.0)))
only_both s p true false left right = ((λ h. no h), (λ h. no (right.1 h.1)))
only_both s p true true left right = ((λ h. (left.0 refl, right.0 refl)), (λ h. refl))

-- what both sides reach
pub reach_is : (s : EventSide (Either ℕ ℕ)) (children : List (ℕ × ℕ)) (p : SignalPair) (l r : SignalFunction) (left right : List ℕ) (x : PairReach) → AreNodesOf s (ConeLatches s.circuit (Left p.left.0)) children l.nodes → AreNodesOf s (ConeLatches s.circuit (Right p.right.0)) children r.nodes →
    (l.only_always ≡ true) ↔ ReachesAlways s (Left p.left.0) → (r.only_always ≡ true) ↔ ReachesAlways s (Right p.right.0) → left ≡ l.nodes → right ≡ r.nodes → IsUnion left right x.nodes.items → x.only_always ≡ (l.only_always && r.only_always) → IsReachOf s children p x
reach_is s children p l r left right x left_nodes right_nodes left_only right_only left_is right_is union only_is = record {
  nodes = pair_nodes s children (Left p.left.0) (Right p.right.0) left right x.nodes.items
      (subst (AreNodesOf s (ConeLatches s.circuit (Left p.left.0)) children) (sym left_is) left_nodes) (subst (AreNodesOf s (ConeLatches s.circuit (Right p.right.0)) children) (sym right_is) right_nodes) union.exactly;
  only_is = subst (λ (b : Bool). (b ≡ true) ↔ BothReachAlways s p) (sym only_is) (only_both s p l.only_always r.only_always left_only right_only);
}

-- what was counted of some starts is what was counted of the same starts
module _ (e : EventsView) (left right more others : List (Start ℕ)) (a : Within more left) (b : Within others right) (c : Within left more) (d : Within right others) (k : HaveCounted e more others) where
  counted_of : (x : EventCircuitView) (starts all : List (Start ℕ)) → Within all starts → Within starts all → (counter : CounterView) → HasCounted x e.events.children all counter → HasCounted x e.events.children starts counter
  counted_of x starts all to from counter count = record {
    weighed = count.weighed;
    only = All-weaker (IsVisitedPair x e.events.children all) (IsVisitedPair x e.events.children starts) (λ p v. pair_more x e.events.children all starts to p v) counter.places count.only;
    all = λ y h. count.all y (from y h);
  }

  pub counted_same : HaveCounted e left right
  counted_same = record {
    left_counted = counted_of e.left left more a c e.left_count k.left_counted;
    right_counted = counted_of e.right right others b d e.right_count k.right_counted;
    left_nodes = λ x h. k.left_nodes x (c x h);
    right_nodes = λ x h. k.right_nodes x (d x h);
    only = λ i n class at. node_more (side_of_both e) (IsEnabled (side_of_both e).circuit) (both_starts more others) (both_starts left right) (λ y m. both_more more others left right a b y m) (class ∷ path_of e.events.children n) (k.only i n class at);
  }

-- a start that is among the others adds nothing
put_within : (starts : List (Start ℕ)) (x : Start ℕ) → Contains starts x → Within (starts ++ x ∷ []) starts
put_within starts x there y h = elim (Contains-append_cases starts (x ∷ []) y h) [ inl k ↦ k | inr k ↦ subst (Contains starts) (only x y k) there ]

-- both sides are counted once more
pub stays_counted : (old mid new : EventsView) (p : SignalPair) → GoOnCounting A p.left.0 old mid → GoOnCounting B p.right.0 mid new → StaysCounted p old new
stays_counted old mid new p first second left right here there k =
    counted_same new left right (left ++ signal_start p.left.0 ∷ []) (right ++ signal_start p.right.0 ∷ [])
    (put_within left (signal_start p.left.0) here) (put_within right (signal_start p.right.0) there)
    (λ x h. Contains-append_left left (signal_start p.left.0 ∷ []) x h) (λ x h. Contains-append_left right (signal_start p.right.0 ∷ []) x h)
    (second (left ++ signal_start p.left.0 ∷ []) right (first left right k))
