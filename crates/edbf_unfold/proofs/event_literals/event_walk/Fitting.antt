-- A signal that doesn't reach the latch that is put, and where it may be read.
use Rattle.std.proofs.Common.{◌≡◌, ◌∙◌, ℕ, List, Option, Some, None, refl, sym, subst, inl, inr}
use Rattle.std.proofs.lemmas.Option.{same_Some}
use Rattle.circuit_theory.specs.Circuit.{Reads, Reaches}
use Rattle.circuit_theory.specs.Frame.{NotPut}
use Rattle.circuit_theory.specs.EventSizes.{IsOther}
use Rattle.event_nodes.specs.flat_net.View.{NetView, circuit_of}
use Rattle.event_nodes.specs.Adds.{Adds}
use Rattle.event_nodes.proofs.Lists.{adds_at}
use Rattle.edbf_unfold.specs.declared.event_literals.event_walk.frames.Frame.{Frame}
use Rattle.edbf_unfold.specs.declared.event_literals.event_walk.frames.Put.{Put}
use Rattle.edbf_unfold.specs.declared.event_literals.event_walk.frames.Put.TheVariants.{Free, Low, High}
use Rattle.edbf_unfold.specs.event_literals.event_walk.Ready.{put_of, IsFreeOf, IsMetIn}
use Rattle.edbf_unfold.specs.event_literals.event_walk.Walk.{IsFitting, out_of}

none_some : (u : ℕ) → ◌≡◌ {A = Option ℕ} None (Some u) → ⊥
none_some u e = cc

module _ (n : NetView) where
  -- what a signal reads doesn't reach it either
  pub free_reads : (put : Put) (q r : ℕ) → IsFreeOf n put q → Reads (circuit_of n) q r → IsFreeOf n put r
  free_reads Free q r h read = tt
  free_reads (Low u) q r h read = λ reach. h (Reaches.there read reach)
  free_reads (High u) q r h read = λ reach. h (Reaches.there read reach)

  free_of : (put : Put) (q u : ℕ) → IsFreeOf n put q → out_of put ≡ Some u → Reaches (circuit_of n) q u → ⊥
  free_of Free q u h e = absurd (none_some u e)
  free_of (Low v) q u h e = λ reach. h (subst (Reaches (circuit_of n) q) (sym (same_Some v u e)) reach)
  free_of (High v) q u h e = λ reach. h (subst (Reaches (circuit_of n) q) (sym (same_Some v u e)) reach)

  -- what is read in a frame, where a visit reads it
  pub fits_reads : (put : Put) (out : Option ℕ) (q r : ℕ) → IsFitting n put out q → Reads (circuit_of n) q r → IsFitting n put out r
  fits_reads put out q r (inl e) read = inl e
  fits_reads put out q r (inr h) read = inr (h.0, λ u e reach. h.1 u e (Reaches.there read reach))

  -- and in the frame without a latch put
  pub fits_free : (put : Put) (out : Option ℕ) (q r : ℕ) → IsFitting n put out q → Reads (circuit_of n) q r → IsFreeOf n put r → IsFitting n Free out r
  fits_free put out q r (inl e) read free = inr (refl, λ u is reach. free_of put r u free (sym e ∙ is) reach)
  fits_free put out q r (inr h) read free = inr (refl, λ u is reach. h.1 u is (Reaches.there read reach))

  other_put : (put : Put) (q : ℕ) → NotPut (put_of put) q → IsOther (out_of put) q
  other_put Free q h = tt
  other_put (Low u) q h = h
  other_put (High u) q h = h

  put_other : (put : Put) (q : ℕ) → IsOther (out_of put) q → NotPut (put_of put) q
  put_other Free q h = tt
  put_other (Low u) q h = h
  put_other (High u) q h = h

  other_by : (out : Option ℕ) (q : ℕ) → ((u : ℕ) → out ≡ Some u → Reaches (circuit_of n) q u → ⊥) → IsOther out q
  other_by None q h = tt
  other_by (Some u) q h = λ same. h u refl (subst (Reaches (circuit_of n) q) same Reaches.here)

  -- a latch that isn't put is none that a visit reads as a constant
  pub fits_other : (put : Put) (out : Option ℕ) (q : ℕ) → IsFitting n put out q → NotPut (put_of put) q → IsOther out q
  fits_other put out q (inl e) h = subst (λ (o : Option ℕ). IsOther o q) (sym e) (other_put put q h)
  fits_other put out q (inr k) h = other_by out q k.1

  pub fits_free_of_put : (put : Put) (out : Option ℕ) (q : ℕ) → IsFitting n put out q → IsOther out q → NotPut (put_of put) q
  fits_free_of_put put out q (inl e) h = put_other put q (subst (λ (o : Option ℕ). IsOther o q) e h)
  fits_free_of_put put out q (inr k) h = subst (λ (o : Put). NotPut (put_of o) q) (sym k.0) tt

  -- what has been met in its frame goes on to be
  pub met_in_later : (frames new : List Frame) (M N : ℕ × ℕ → Type 0) (f : Frame) (own free q : ℕ) → Adds (λ g. Unit {0}) frames new → ((p : ℕ × ℕ) → M p → N p) → IsMetIn n frames M f own free q → IsMetIn n new N f own free q
  met_in_later frames new M N f own free q adds to (inl h) = inl (to (own, q) h)
  met_in_later frames new M N f own free q adds to (inr h) = inr (adds_at (λ (g : Frame). Unit {0}) frames new free (record { node = f.node; put = Free }) adds h.0, h.1, to (free, q) h.2)
