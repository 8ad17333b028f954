-- What a latch at an event node passes on.
use Rattle.std.proofs.Common.{◌≡◌, ◌≢◌, ◌∙◌, ℕ, List, slice_get, Some, Result, Ok, Err, OnOk, sym, ap, subst, arith}
use Rattle.std.proofs.lemmas.Option.{slice_get_within}
use Rattle.std.proofs.lemmas.List.Elements.{All-contains}
use Rattle.std.specs.List.{All, Contains}
use Rattle.circuit_theory.specs.Circuit.{IsLatch, Reaches}
use Rattle.circuit_theory.specs.Depth.{LatchesHaveDepths}
use Rattle.circuit_theory.proofs.Lists.{at_of, of_at}
use Rattle.circuit_theory.proofs.Sums.{same_or_not}
use Rattle.circuit_theory.specs.Frame.{ConeOthers, ReachedAt}
use Rattle.circuit_theory.specs.EventSizes.{Start}
use Rattle.circuit_laws.proofs.event_laws.EventAgreement.{rank, rank_falls}
use Rattle.event_nodes.specs.flat_net.Driver.{Driver}
use Rattle.event_nodes.specs.flat_net.Driver.TheVariants as driver
use Rattle.event_nodes.specs.flat_net.LatchAt.{LatchAt}
use Rattle.event_nodes.specs.flat_net.Signal.{Signal}
use Rattle.event_nodes.specs.flat_net.Sound.{IsSound}
use Rattle.event_nodes.specs.flat_net.View.{NetView, circuit_of}
use Rattle.event_nodes.proofs.flat_net.Nets.{sound_is_net, latch_stands}
use Rattle.signal_graph.specs.inner_cone.latch_cone.Cones.{IsOther, AreOthers}
use Rattle.event_nodes.specs.Nodes.{IsChild, IsTree}
use Rattle.event_nodes.specs.Reach.{IsBegun, IsReachedPlace, IsPassedOn}
use Rattle.event_nodes.specs.View.{EventCircuitView, side_of, Enabled}
use Rattle.event_nodes.proofs.flat_net.Drivers.{driven_latch, latch_of_equation, latch_out, latch_next, latch_equation_stands}
use Rattle.event_nodes.proofs.Paths.{child_path}

-- what holds in each case, and what follows where all went well
pub ok_always : {T E P : Type 0} (r : Result T E) → P → OnOk r P
ok_always (Ok x) h = h
ok_always (Err e) h = tt

pub ok_then : {T E P Q : Type 0} (r : Result T E) → (P → Q) → OnOk r P → OnOk r Q
ok_then (Ok x) f h = f h
ok_then (Err e) f h = tt

-- the latch's driver in the net
pub drives_at : (n m : NetView) (p j : ℕ) (d : Driver) → m ≡ n → slice_get m.drivers p ≡ Some d → d ≡ driver.Latch j → slice_get n.drivers p ≡ Some (driver.Latch j)
drives_at n m p j d same at is = ap (λ (k : NetView). slice_get k.drivers p) (sym same) ∙ at ∙ ap Some is

pub latch_at : (n m : NetView) → IsSound n → (p j : ℕ) (d : Driver) → m ≡ n → slice_get m.drivers p ≡ Some d → d ≡ driver.Latch j → (l : LatchAt) × (slice_get n.latches j ≡ Some l) × (l.out.0 ≡ p)
latch_at n m sound p j d same at is = driven_latch n sound p j (drives_at n m p j d same at is)

module _ (e : EventCircuitView) (sound : IsSound e.net) where
  -- no latch stands in its own cone but an enabled one
  apart : LatchesHaveDepths (circuit_of e.net) (Enabled e) → (u v : ℕ) → ConeOthers (circuit_of e.net) (Enabled e) u v → v ≢ u
  apart depths u v others same =
      let falls = rank_falls (circuit_of e.net) (sound_is_net e.net sound).single same_or_not depths u v others in
      let one = ap (rank (circuit_of e.net) (sound_is_net e.net sound).single same_or_not depths) same in
      omega (arith, falls, one)

  other_of : LatchesHaveDepths (circuit_of e.net) (Enabled e) → (u v : ℕ) → ConeOthers (circuit_of e.net) (Enabled e) u v → IsOther e.net u v
  other_of depths u v others =
      let o = latch_of_equation e.net sound others.3.0 v others.3.1 others.3.2 in
      record { position = o.j; latch = o.latch; here = o.at; out = latch_out e.net sound v o.j o.owner o.latch o.at; apart = apart depths u v others }

  module _ (j p : ℕ) (drives : slice_get e.net.drivers p ≡ Some (driver.Latch j)) (l : LatchAt) (at : slice_get e.net.latches j ≡ Some l) (others : List Signal) (are : AreOthers e.net l others) where
    out : l.out.0 ≡ p
    out = latch_out e.net sound p j drives l at

    pub passed_on : LatchesHaveDepths (circuit_of e.net) (Enabled e) → (children table : List (ℕ × ℕ)) (node k child : ℕ) → IsChild children node k child → (side_of e).class l.out.0 ≡ k → All (λ f. Contains table (child, f.0)) others → IsPassedOn e children table (node, p)
    passed_on depths children table node k child is class all v cone =
        let next_is : l.next.0 ≡ cone.1 = latch_next e.net sound p j drives l at cone.0 cone.1 cone.2 in
        let other = are.all v (subst (λ u. IsOther e.net u v) (sym out) (other_of depths p v cone)) (subst (λ q. Reaches (circuit_of e.net) q v) (sym next_is) cone.3.3) in
        (child, subst (λ c. IsChild children node c child) (sym class ∙ ap (side_of e).class out) is, All-contains (λ (f : Signal). Contains table (child, f.0)) others (record { 0 = v }) all (of_at others other.0 _ other.1))

    cone_of : (f : Signal) → Contains others f → ConeOthers (circuit_of e.net) (Enabled e) p f.0
    cone_of f among =
        let here = at_of others f among in
        let o = are.each here.0 f here.1 in
        let r = are.reached here.0 f here.1 in
        (l.name, l.next.0, latch_equation_stands e.net sound p j drives l at, (o.latch.name, o.latch.next.0, subst (λ s. IsLatch (circuit_of e.net) o.latch.name s o.latch.next.0) o.out (latch_stands e.net o.position o.latch o.here), r), λ en same. o.apart (same ∙ sym out))

    pub place_reached : (children : List (ℕ × ℕ)) → IsTree children → (s : Start ℕ) (node k child : ℕ) → IsChild children node k child → (side_of e).class l.out.0 ≡ k → IsReachedPlace e children s (node, p) →
        (q : ℕ × ℕ) → ((f : Signal) × Contains others f × ((child, f.0) ≡ q)) → IsReachedPlace e children s q
    place_reached children tree s node k child is class from q x =
        let cone = cone_of x.0 x.1 in
        subst (IsReachedPlace e children s) x.2 (record {
          node = omega (arith, is.1, slice_get_within children is.0 _ is.2);
          latch = (cone.3.0, cone.3.1, cone.3.2);
          reached = subst (λ path. ReachedAt (side_of e) (Enabled e) (IsBegun (circuit_of e.net) s) path x.0.0) (sym (child_path children tree node k child is)) (p, from.reached, ap (side_of e).class (sym out) ∙ class, cone);
        })
