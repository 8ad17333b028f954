-- The bits of the latches that are left in a cut net mark the enabled ones.
use Rattle.std.proofs.Common.{◌≡◌, ◌≢◌, ℕ, Bool, true, List, Option, Some, None, refl, sym, ◌∙◌, ap, subst, slice_get}
use Rattle.std.specs.Prelude.{IsSomeAnd}
use Rattle.std.specs.List.{All, AllZip, Contains}
use Rattle.std.proofs.lemmas.Option.{slice_get_within, get_or_from_slice_get, same_Some}
use Rattle.circuit_theory.proofs.Lists.{Contains-filter, at_of, zip_length, zip_right}
use Rattle.flat_net.specs.declared.parts.LatchAt.{LatchAt}
use Rattle.flat_net.specs.Cut.{IsCut, IsCutCircuit, exposed_names, no_latch, stays}
use Rattle.flat_net.specs.Sound.{IsSound}
use Rattle.flat_net.specs.View.{NetView, circuit_of}
use Rattle.flat_net.proofs.Exposed.{one_latch}
use Rattle.flat_net.proofs.Places.{All-at}
use Rattle.event_setup.specs.Cutting.{HasBit}
use Rattle.event_setup.specs.Recovered.{AreMarked}
use Rattle.event_setup.proofs.Acyclic.{enabled_stays, enabled_before}

-- a latch that is left is one of the net's
pub left_in : (n m : NetView) (positions : List ℕ) → IsCut n m positions → (l : LatchAt) → Contains m.latches l → Contains n.latches l
left_in n m positions parts l h = Contains-filter (stays (exposed_names n positions)) n.latches l (subst (λ (ls : List LatchAt). Contains ls l) parts.latches h)

-- its name is found
pub no_latch_absent : (n : NetView) (l : LatchAt) (name : List ℕ) → Contains n.latches l → name ≡ l.name → All (λ (k : LatchAt). k.name ≢ name) n.latches → ⊥
no_latch_absent n l name stands same absent =
    let at = at_of n.latches l stands in
    All-at (λ (k : LatchAt). k.name ≢ name) n.latches at.0 l at.1 absent (sym same)

-- the latch of the name stands at this place
pub latch_found : (n : NetView) → IsSound n → (l : LatchAt) (j : ℕ) (name : List ℕ) → Contains n.latches l → name ≡ l.name → IsSomeAnd (slice_get n.latches j) (λ (k : LatchAt). k.name ≡ name) → slice_get n.latches j ≡ Some l
latch_found n sound l j name stands same here = go (slice_get n.latches j) refl here
  where
    go : (o : Option LatchAt) → slice_get n.latches j ≡ o → IsSomeAnd o (λ (k : LatchAt). k.name ≡ name) → slice_get n.latches j ≡ Some l
    go None e h = absurd h
    go (Some k) e h =
        let own = at_of n.latches l stands in
        let one : own.0 ≡ j = one_latch n sound own.0 j l.name (slice_get_within n.latches own.0 l own.1) (slice_get_within n.latches j k e)
        (ap (λ (x : LatchAt). x.name) (get_or_from_slice_get n.latches own.0 l no_latch own.1)) (ap (λ (x : LatchAt). x.name) (get_or_from_slice_get n.latches j k no_latch e) ∙ (h ∙ same)) in
        ap (slice_get n.latches) (sym one) ∙ own.1

-- so its bit says whether it is enabled
pub has_bit : (n : NetView) (enabled : List Bool) → AreMarked n enabled → (j : ℕ) (l : LatchAt) (bit : Bool) → slice_get n.latches j ≡ Some l → slice_get enabled j ≡ Some bit → HasBit n l bit
has_bit n enabled marked j l bit at bit_at = (λ e. (marked.marks j l at).0 (bit_at ∙ ap Some e), λ on. same_Some bit true (sym bit_at ∙ (marked.marks j l at).1 on))

-- the bits of all latches that are left
pub marked_left : (n m : NetView) (names : List (List ℕ)) → IsSound n → IsCutCircuit names (circuit_of n) (circuit_of m) → (bits : List Bool) → AllZip (HasBit n) m.latches bits → AreMarked m bits
marked_left n m names sound is bits each = record {
  each = sym (zip_length (HasBit n) m.latches bits each);
  marks = λ j l at. (
    λ set. (let b = zip_right (HasBit n) m.latches bits each j l at in enabled_stays n m sound names is j l at (b.2.0 (same_Some b.0 true (sym b.1 ∙ set)))),
    λ on. (let b = zip_right (HasBit n) m.latches bits each j l at in b.1 ∙ ap Some (b.2.1 (enabled_before n m sound names is l.out.0 on))),
  );
}
