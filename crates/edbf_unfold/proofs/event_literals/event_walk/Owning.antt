-- A latch is put for the signals that read it, and that are in the cone of what it takes over.
use Rattle.std.proofs.Common.{◌≡◌, ◌∙◌, ℕ, List, slice_get, Some, sym, ap, subst, inl, inr}
use Rattle.std.specs.Prelude.{◌⊎◌}
use Rattle.std.specs.List.{Contains}
use Rattle.circuit_theory.specs.Circuit.{Reads, Reaches}
use Rattle.event_nodes.specs.flat_net.Signal.{Signal}
use Rattle.event_nodes.specs.flat_net.LatchAt.{LatchAt}
use Rattle.event_nodes.specs.flat_net.Sound.{IsSound}
use Rattle.event_nodes.specs.flat_net.View.{NetView, circuit_of}
use Rattle.event_nodes.specs.Adds.{Adds}
use Rattle.event_nodes.specs.View.{EventCircuitView, Enabled}
use Rattle.event_nodes.proofs.flat_net.Drivers.{latch_of_equation, one_latch}
use Rattle.event_nodes.proofs.flat_net.Nets.{latch_stands}
use Rattle.event_nodes.proofs.flat_net.Places.{one_at}
use Rattle.event_nodes.proofs.Lists.{adds_at}
use Rattle.event_nodes.proofs.Visits.{reaches_on}
use Rattle.edbf_unfold.specs.declared.event_literals.event_walk.frames.Frame.{Frame}
use Rattle.edbf_unfold.specs.declared.event_literals.event_walk.frames.Put.{Put}
use Rattle.edbf_unfold.specs.declared.event_literals.event_walk.frames.Put.TheVariants.{Free, Low, High}
use Rattle.edbf_unfold.specs.event_literals.event_walk.Ready.{IsFreeOf, IsBoundTo, IsBackOn}
use Rattle.edbf_unfold.specs.event_literals.event_walk.Walk.{IsHeldBy, IsPutFor, IsOwnPlace, IsReadPlace, IsEntry, IsHeldPut}

module _ (n : NetView) where
  held_on : (u p q : ℕ) → IsHeldBy n u p → Reads (circuit_of n) p q → IsBackOn n u q → IsHeldBy n u q
  held_on u p q h read back =
      let cone : Reaches (circuit_of n) h.next q = reaches_on (circuit_of n) h.cone read in
      record { name = h.name; next = h.next; latch = h.latch; cone = cone; back = back h.name h.next h.latch cone }

  put_on : (put : Put) (p q : ℕ) → IsPutFor n put p → Reads (circuit_of n) p q → IsBoundTo n put q → IsPutFor n put q
  put_on Free p q h read bound = tt
  put_on (Low u) p q h read bound = held_on u p q h read bound
  put_on (High u) p q h read bound = held_on u p q h read bound

  -- with more frames
  pub own_later : (frames more : List Frame) → Adds (λ f. Unit {0}) frames more → (root beside : ℕ) (p : ℕ × ℕ) → IsOwnPlace n frames root beside p → IsOwnPlace n more root beside p
  own_later frames more adds root beside p (inl r) = inl r
  own_later frames more adds root beside p (inr (inl b)) = inr (inl b)
  own_later frames more adds root beside p (inr (inr k)) = inr (inr (k.0, adds_at (λ (f : Frame). Unit {0}) frames more p.0 k.0 adds k.1, k.2))

  -- a fan-in in its frame
  pub fanins_own : (frames more : List Frame) → Adds (λ f. Unit {0}) frames more → (p : ℕ × ℕ) (f : Frame) → slice_get frames p.0 ≡ Some f → (fanins : List Signal) → ((g : Signal) → Contains fanins g → Reads (circuit_of n) p.1 g.0) → (root beside : ℕ) → IsOwnPlace n frames root beside p → (q : ℕ × ℕ) →
      IsReadPlace n more f p.0 fanins q → IsOwnPlace n more root beside q
  fanins_own frames more adds p f at fanins read root beside own q h = subst (λ (s : ℕ). IsOwnPlace n more root beside (q.0, s)) (sym h.signal) (go h.frame)
    where
      stays : q.0 ≡ p.0 → IsBoundTo n f.put h.fanin.0 → (p.0 ≡ root) ⊎ ((p.0 ≡ beside) ⊎ ((g : Frame) × (slice_get frames p.0 ≡ Some g) × IsPutFor n g.put p.1)) → IsOwnPlace n more root beside (q.0, h.fanin.0)
      stays same bound (inl r) = inl (same ∙ r)
      stays same bound (inr (inl b)) = inr (inl (same ∙ b))
      stays same bound (inr (inr k)) =
          let is : k.0 ≡ f = one_at frames p.0 k.0 f k.1 at in
          inr (inr (f, adds_at (λ (g : Frame). Unit {0}) frames more q.0 f adds (subst (λ (i : ℕ). slice_get frames i ≡ Some f) (sym same) at), put_on f.put p.1 h.fanin.0 (subst (λ (g : Frame). IsPutFor n g.put p.1) is k.2) (read h.fanin h.reads) bound))

      go : ((q.0 ≡ p.0) × IsBoundTo n f.put h.fanin.0) ⊎ ((slice_get more q.0 ≡ Some (record { node = f.node; put = Free })) × IsFreeOf n f.put h.fanin.0) → IsOwnPlace n more root beside (q.0, h.fanin.0)
      go (inl k) = stays k.0 k.1 own
      go (inr free) = inr (inr (record { node = f.node; put = Free }, free.0, tt))

-- where an enabled latch takes over its data, it reads itself
module _ (e : EventCircuitView) (sound : IsSound e.net) (j : ℕ) (l : LatchAt) (at : slice_get e.net.latches j ≡ Some l) where
  own_held : Enabled e l.out.0 → IsHeldBy e.net l.out.0 l.next.0
  own_held on =
      let a = latch_of_equation e.net sound on.name l.out.0 on.next on.latch in
      let number : a.j ≡ j = one_latch e.net l.out.0 a.j j a.owner (sound.latches j l at).owner in
      let one : a.latch ≡ l = one_at e.net.latches j a.latch l (subst (λ (i : ℕ). slice_get e.net.latches i ≡ Some a.latch) number a.at) at in
      let same : on.next ≡ l.next.0 = sym a.next_is ∙ ap (λ (m : LatchAt). m.next.0) one in
      record { name = l.name; next = l.next.0; latch = latch_stands e.net j l at; cone = Reaches.here; back = subst (λ (i : ℕ). Reaches (circuit_of e.net) i l.out.0) same on.self_edge.1 }

  own_put : (put : Put) → IsHeldPut e l.out.0 put → IsPutFor e.net put l.next.0
  own_put put (inl (on, inl is)) = subst (λ (o : Put). IsPutFor e.net o l.next.0) (sym is) (own_held on)
  own_put put (inl (on, inr is)) = subst (λ (o : Put). IsPutFor e.net o l.next.0) (sym is) (own_held on)
  own_put put (inr (off, is)) = subst (λ (o : Put). IsPutFor e.net o l.next.0) (sym is) tt

  pub entry_own : (frames : List Frame) (child root beside : ℕ) (q : ℕ × ℕ) → IsEntry e frames child l q → IsOwnPlace e.net frames root beside q
  entry_own frames child root beside q h = subst (λ (s : ℕ). IsOwnPlace e.net frames root beside (q.0, s)) (sym h.4) (inr (inr (h.0, h.1, own_put h.0.put h.3)))
