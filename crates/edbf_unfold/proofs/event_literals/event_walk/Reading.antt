-- The fan-ins of a gate, put into a table in their frames.
use Rattle.std.proofs.Common.{◌≡◌, ◌+◌, ◌<◌, ℕ, List, length, take, get_or, slice_get, Some, refl, sym, subst, inl, inr}
use Rattle.std.specs.Prelude.{◌⊎◌}
use Rattle.std.specs.List.{All, Contains}
use Rattle.std.proofs.lemmas.List.Elements.{All-more, All-weaker, Contains-get_or}
use Rattle.event_nodes.specs.flat_net.Signal.{Signal}
use Rattle.event_nodes.specs.flat_net.View.{NetView}
use Rattle.event_nodes.specs.Adds.{Adds}
use Rattle.event_nodes.proofs.Lists.{adds_trans, adds_weaker, adds_contains}
use Rattle.edbf_unfold.specs.declared.event_literals.event_walk.frames.Frame.{Frame}
use Rattle.edbf_unfold.specs.declared.event_literals.event_walk.frames.Put.{Put}
use Rattle.edbf_unfold.specs.declared.event_literals.event_walk.frames.Put.TheVariants.{Free}
use Rattle.edbf_unfold.specs.event_literals.event_walk.Ready.{IsFreeOf, IsBoundTo, IsMetIn}
use Rattle.edbf_unfold.specs.event_literals.event_walk.Walk.{IsFrameFor, IsReadAt, IsReadIn, AreReadIn, IsReadPlace}

module _ (n : NetView) (put : Put) (own free : ℕ) (fanins : List Signal) where
  pub reads_next : (i : ℕ) (d : Signal) (k : ℕ) (first old new : List (ℕ × ℕ)) → i < length fanins → IsFrameFor n put own free (get_or fanins i d).0 k → Adds (IsReadAt n put own free fanins) first old → Adds (λ q. q ≡ (k, (get_or fanins i d).0)) old new →
      Adds (IsReadAt n put own free fanins) first new
  reads_next i d k first old new inside frame before more =
      adds_trans (IsReadAt n put own free fanins) first old new before
      (adds_weaker (λ (q : ℕ × ℕ). q ≡ (k, (get_or fanins i d).0)) (IsReadAt n put own free fanins) old new
      (λ q e. subst (IsReadAt n put own free fanins) (sym e) (record { fanin = get_or fanins i d; reads = Contains-get_or fanins i d inside; signal = refl; frame = frame })) more)

  pub all_next : (i : ℕ) (d : Signal) (k : ℕ) (old new : List (ℕ × ℕ)) → i < length fanins → IsFrameFor n put own free (get_or fanins i d).0 k → All (IsReadIn n put own free old) (take i fanins) → Adds (λ q. q ≡ (k, (get_or fanins i d).0)) old new →
      Contains new (k, (get_or fanins i d).0) → All (IsReadIn n put own free new) (take (i + 1) fanins)
  all_next i d k old new inside frame before more here =
      All-more (IsReadIn n put own free new) fanins i d inside
      (All-weaker (IsReadIn n put own free old) (IsReadIn n put own free new) (λ f h. (h.0, h.1, adds_contains (λ (q : ℕ × ℕ). q ≡ (k, (get_or fanins i d).0)) old new (h.0, f.0) more h.2)) (take i fanins) before)
      (k, frame, here)

-- in the frames of a walker
module _ (n : NetView) (frames : List Frame) (f : Frame) (own free : ℕ) (at : slice_get frames free ≡ Some (record { node = f.node; put = Free })) (fanins : List Signal) where
  pub read_places : (old new : List (ℕ × ℕ)) → Adds (IsReadAt n f.put own free fanins) old new → Adds (IsReadPlace n frames f own fanins) old new
  read_places old new adds = adds_weaker (IsReadAt n f.put own free fanins) (IsReadPlace n frames f own fanins) old new (λ q h. record { fanin = h.fanin; reads = h.reads; signal = h.signal; frame = go q h.fanin.0 h.frame }) adds
    where
      go : (q : ℕ × ℕ) (s : ℕ) → IsFrameFor n f.put own free s q.0 → ((q.0 ≡ own) × IsBoundTo n f.put s) ⊎ ((slice_get frames q.0 ≡ Some (record { node = f.node; put = Free })) × IsFreeOf n f.put s)
      go q s (inl e) = inl e
      go q s (inr h) = inr (subst (λ (k : ℕ). slice_get frames k ≡ Some (record { node = f.node; put = Free })) (sym h.1) at, h.0)

  pub read_in : (table : List (ℕ × ℕ)) → All (IsReadIn n f.put own free table) fanins → AreReadIn n frames f own free table fanins
  read_in table all = All-weaker (IsReadIn n f.put own free table) (λ (s : Signal). IsMetIn n frames (Contains table) f own free s.0) (λ s h. go s h.0 h.1 h.2) fanins all
    where
      go : (s : Signal) (k : ℕ) → IsFrameFor n f.put own free s.0 k → Contains table (k, s.0) → IsMetIn n frames (Contains table) f own free s.0
      go s k (inl e) there = inl (subst (λ (m : ℕ). Contains table (m, s.0)) e.0 there)
      go s k (inr h) there = inr (at, h.0, subst (λ (m : ℕ). Contains table (m, s.0)) h.1 there)
