-- Where a latch takes over its data.
use Rattle.std.proofs.Common.{◌≡◌, ◌+◌, ◌≤◌, ℕ, List, [], ◌∷◌, ◌++◌, length, slice_get, Some, refl, ap, subst, arith, inl, inr}
use Rattle.std.specs.Prelude.{◌⊎◌}
use Rattle.std.specs.List.{Contains}
use Rattle.base_tables.specs.unique_table.Places.{IsWith}
use Rattle.event_nodes.specs.flat_net.LatchAt.{LatchAt}
use Rattle.event_nodes.specs.Adds.{Adds}
use Rattle.event_nodes.specs.View.{EventCircuitView, Enabled}
use Rattle.event_nodes.proofs.Lists.{adds_none, adds_push, adds_weaker, adds_contains, adds_at}
use Rattle.edbf_unfold.specs.declared.event_literals.event_walk.frames.Frame.{Frame}
use Rattle.edbf_unfold.specs.declared.event_literals.event_walk.frames.Put.{Put}
use Rattle.edbf_unfold.specs.declared.event_literals.event_walk.frames.Put.TheVariants.{Free, Low, High}
use Rattle.edbf_unfold.specs.event_literals.event_walk.Walk.{IsHeldPut, IsEntry, AreWays}
use Rattle.event_nodes.proofs.flat_net.Growth.{length-push}

-- a frame more, or one that was there
pub interned_frame : (old new : List Frame) (f : Frame) → (new ≡ old) ⊎ (new ≡ old ++ f ∷ []) → Adds (λ g. Unit {0}) old new × (length new ≤ length old + 1)
interned_frame old new f (inl e) = (adds_none (λ (g : Frame). Unit {0}) old new e, omega (arith, ap length e))
interned_frame old new f (inr e) = (adds_push (λ (g : Frame). Unit {0}) old new f e tt, omega (arith, ap length e, length-push old f))

-- the same of a table into which the frame was put
pub inserted_frame : (old new : List Frame) (f : Frame) → IsWith old f new → Adds (λ g. Unit {0}) old new × (length new ≤ length old + 1)
inserted_frame old new f (inl e) = interned_frame old new f (inl e.1)
inserted_frame old new f (inr e) = interned_frame old new f (inr e.1)

-- a place in a frame of the child is an entry
pub entries : (e : EventCircuitView) (frames : List Frame) (child : ℕ) (l m : LatchAt) (put : Put) (old new : List (ℕ × ℕ)) → m ≡ l → IsHeldPut e m.out.0 put → Adds (λ q. (slice_get frames q.0 ≡ Some (record { node = child; put = put })) × (q.1 ≡ m.next.0)) old new → Adds (IsEntry e frames child l) old new
entries e frames child l m put old new same held adds =
    adds_weaker (λ (q : ℕ × ℕ). (slice_get frames q.0 ≡ Some (record { node = child; put = put })) × (q.1 ≡ m.next.0)) (IsEntry e frames child l) old new
    (λ q h. subst (λ (k : LatchAt). IsEntry e frames child k q) same (record { node = child; put = put }, h.0, refl, held, h.1)) adds

-- entries stay so with more frames
pub entries_later : (e : EventCircuitView) (frames more : List Frame) (child : ℕ) (l : LatchAt) (old new : List (ℕ × ℕ)) → Adds (λ f. Unit {0}) frames more → Adds (IsEntry e frames child l) old new → Adds (IsEntry e more child l) old new
entries_later e frames more child l old new adds all =
    adds_weaker (IsEntry e frames child l) (IsEntry e more child l) old new (λ q h. (h.0, adds_at (λ (f : Frame). Unit {0}) frames more q.0 h.0 adds h.1, h.2, h.3, h.4)) all

-- a plain latch goes on in one frame
pub plain_ways : (e : EventCircuitView) (frames : List Frame) (table : List (ℕ × ℕ)) (child id : ℕ) (l m : LatchAt) → m ≡ l → (Enabled e m.out.0 → ⊥) → slice_get frames id ≡ Some (record { node = child; put = Free }) → Contains table (id, m.next.0) → AreWays e frames table child l (record { onward = id; high = id })
plain_ways e frames table child id l m same off at there = subst (λ (k : LatchAt). AreWays e frames table child k (record { onward = id; high = id })) same (record {
  onward = record { node = child; put = Free };
  onward_at = at;
  onward_node = refl;
  own = inr (off, refl);
  met = there;
  high = λ on. absurd (off on);
})

-- an enabled one in two
pub held_ways : (e : EventCircuitView) (first frames : List Frame) (old table : List (ℕ × ℕ)) (child low high : ℕ) (l m : LatchAt) (P : ℕ × ℕ → Type 0) → m ≡ l → Enabled e m.out.0 → slice_get first low ≡ Some (record { node = child; put = Low m.out.0 }) → Adds (λ f. Unit {0}) first frames →
    Contains old (low, m.next.0) → Adds P old table → slice_get frames high ≡ Some (record { node = child; put = High m.out.0 }) → Contains table (high, m.next.0) → AreWays e frames table child l (record { onward = low; high = high })
held_ways e first frames old table child low high l m P same on at adds there more at_high there_high = subst (λ (k : LatchAt). AreWays e frames table child k (record { onward = low; high = high })) same (record {
  onward = record { node = child; put = Low m.out.0 };
  onward_at = adds_at (λ (f : Frame). Unit {0}) first frames low (record { node = child; put = Low m.out.0 }) adds at;
  onward_node = refl;
  own = inl (on, refl);
  met = adds_contains P old table (low, m.next.0) more there;
  high = λ on'. (record { node = child; put = High m.out.0 }, at_high, refl, refl, there_high);
})
