-- What is decided of each latch says what all latches are.
use Rattle.std.proofs.Common.{◌≡◌, ◌∙◌, ◌+◌, ◌<◌, ℕ, List, [], ◌∷◌, ◌++◌, length, slice_get, Some, Err, refl, sym, ap, subst, arith, length-append, inl, inr, ◌⊎◌}
use Rattle.std.proofs.lemmas.Option.{slice_get_within, get_or_from_slice_get}
use Rattle.circuit_theory.specs.Circuit.{IsLatch, InCone}
use Rattle.circuit_theory.specs.Run.{IsEnabled}
use Rattle.circuit_theory.specs.declared.Mode.TheVariants.{Event}
use Rattle.flat_net.specs.declared.parts.LatchAt.{LatchAt}
use Rattle.flat_net.specs.Cut.{no_latch, latch_at}
use Rattle.flat_net.specs.View.{NetView, circuit_of}
use Rattle.flat_net.specs.Sound.{IsSound}
use Rattle.flat_net.proofs.Growth.{slice_get-push_cases}
use Rattle.flat_net.proofs.Nets.{some_at, latch_stands, sound_is_net}
use Rattle.signal_graph.specs.declared.inner_cone.latch_cone.kinds.LatchKind.{LatchKind}
use Rattle.signal_graph.specs.declared.inner_cone.latch_cone.kinds.LatchKind.TheVariants as kind
use Rattle.signal_graph.specs.inner_cone.latch_cone.Kinds.{IsInOwnCone, IsKindIn, AreKindsIn}
use Rattle.latch_kinds.specs.unate_enable.Recovery.{HasSelfEdge, IsLight}
use Rattle.latch_kinds.specs.declared.kinds.KindsError.{KindsError}
use Rattle.latch_kinds.specs.declared.kinds.KindsError.TheVariants as refused
use Rattle.latch_kinds.specs.Found.{IsDecided, AreDecidedBefore, AreLight, FoundAt, AreFound}

-- each of these latches is decided
abbrev pub AreDecided : NetView → List LatchKind → Type 0
AreDecided n kinds = (i : ℕ) (k : LatchKind) → slice_get kinds i ≡ Some k → IsDecided n i k

pub none_decided : (n : NetView) (kinds : List LatchKind) → kinds ≡ [] → AreDecided n kinds
none_decided n kinds e i k h = absurd (let w = slice_get_within [] i k (subst (λ (ks : List LatchKind). slice_get ks i ≡ Some k) e h) in omega arith)

pub decided_more : (n : NetView) (kinds new : List LatchKind) (j : ℕ) (k : LatchKind) → new ≡ kinds ++ k ∷ [] → length kinds ≡ j → IsDecided n j k → AreDecided n kinds → AreDecided n new
decided_more n kinds new j k grown size here have i m h = go (slice_get-push_cases kinds k i m (subst (λ (ks : List LatchKind). slice_get ks i ≡ Some m) grown h))
  where
    go : (slice_get kinds i ≡ Some m) ⊎ ((i ≡ length kinds) × (k ≡ m)) → IsDecided n i m
    go (inl before) = have i m before
    go (inr last) = subst (λ (z : LatchKind). IsDecided n i z) last.1 (subst (λ z. IsDecided n z k) (sym (last.0 ∙ size)) here)

pub length_more : (kinds new : List LatchKind) (j : ℕ) (k : LatchKind) → new ≡ kinds ++ k ∷ [] → length kinds ≡ j → length new ≡ j + 1
length_more kinds new j k grown size = let e = ap length grown in omega (arith, e, length-append kinds (k ∷ []), size)

pub before_decided : (n : NetView) (kinds : List LatchKind) (j : ℕ) → length kinds ≡ j → AreDecided n kinds → AreDecidedBefore n j
before_decided n kinds j size have i low = let k = some_at kinds i (omega (arith, low, size)) in (k.0, have i k.0 k.1)

light_of : (n : NetView) (j : ℕ) (k : LatchKind) → IsDecided n j k → HasSelfEdge n j → IsLight n j
light_of n j kind.Plain is edge = absurd (is edge)
light_of n j kind.Enabled is edge = is.0.1
light_of n j kind.NotUnate is edge = is.0.1

module _ (n : NetView) (sound : IsSound n) (j : ℕ) (l : LatchAt) (at : slice_get n.latches j ≡ Some l) where
  here : latch_at n j ≡ l
  here = get_or_from_slice_get n.latches j l no_latch at

  stands : IsLatch (circuit_of n) l.name l.out.0 l.next.0
  stands = latch_stands n j l at

  -- a latch in its own cone has a self-edge
  self_edge : IsInOwnCone (circuit_of n) l.out.0 → HasSelfEdge n j
  self_edge own =
      let one = (sound_is_net n sound).single.one _ _ own.latch stands refl in
      let next : own.next ≡ l.next.0 = let e = one in cc in
      subst (λ (z : LatchAt). InCone (circuit_of n) z.next.0 z.out.0) (sym here) (subst (λ z. InCone (circuit_of n) z l.out.0) next own.cone)

  own_cone : HasSelfEdge n j → IsInOwnCone (circuit_of n) l.out.0
  own_cone edge = record { name = l.name; next = l.next.0; latch = stands; cone = subst (λ (z : LatchAt). InCone (circuit_of n) z.next.0 z.out.0) here edge }

  pub kind_in_event : (k : LatchKind) → IsDecided n j k → IsKindIn Event (circuit_of n) l.out.0 k
  kind_in_event kind.Plain is = λ own. is (self_edge own)
  kind_in_event kind.Enabled is = subst (λ (z : LatchAt). IsEnabled (circuit_of n) z.out.0) here is.1.enabled
  kind_in_event kind.NotUnate is = (own_cone is.0.0, λ e. is.1 (subst (λ (z : LatchAt). IsEnabled (circuit_of n) z.out.0) (sym here) e))

pub all_found : (n : NetView) → IsSound n → (kinds : List LatchKind) → length kinds ≡ length n.latches → AreDecided n kinds → AreKindsIn Event n kinds × AreLight n
all_found n sound kinds size have = (
  record { each = size; right = λ j l k at at_k. kind_in_event n sound j l at k (have j k at_k) },
  λ j low edge. let k = some_at kinds j (omega (arith, low, size)) in light_of n j k.0 (have j k.0 k.1) edge,
)

-- the first latch of which it isn't found out what it is
pub first_unknown : (n : NetView) (conflicts : ℕ) (kinds : List LatchKind) (j : ℕ) → j < length n.latches → length kinds ≡ j → AreDecided n kinds → (e : KindsError) → FoundAt n j conflicts (Err e) → AreFound n conflicts (Err e)
first_unknown n conflicts kinds j low size have refused.TooLarge found = record { latch = j; within = low; large = found; before = before_decided n kinds j size have }
first_unknown n conflicts kinds j low size have (refused.Limit name proof) found = record { latch = j; within = low; limit = found; before = before_decided n kinds j size have }
first_unknown n conflicts kinds j low size have refused.NoMemory found = tt
