-- The positions of latches by their names, and the bits of the latches that are left.
use Rattle.std.proofs.Common.{◌≡◌, ◌≢◌, ℕ, ◌+◌, ◌<◌, ◌≤◌, Bool, List, [], ◌∷◌, ◌++◌, length, take, slice_get, Option, Some, None, refl, sym, ◌∙◌, ap, subst, arith, inl, inr, ◌⊎◌, length-append}
use Rattle.std.specs.Prelude.{IsSomeAnd}
use Rattle.std.specs.List.{All, Contains}
use Rattle.std.proofs.lemmas.List.{map-append, take_all}
use Rattle.std.proofs.lemmas.Option.{slice_get_within, get_or_from_slice_get, same_Some}
use Rattle.circuit_theory.proofs.Lists.{Contains-map_from, at_of, All-from_each}
use Rattle.circuit_theory.proofs.Numbers.{slice_get-map}
use Rattle.base_tables.specs.Table.{AreDistinct}
use Rattle.flat_net.specs.declared.parts.LatchAt.{LatchAt}
use Rattle.flat_net.specs.Cut.{latch_at, no_latch, exposed_names}
use Rattle.flat_net.specs.Sound.{IsSound}
use Rattle.flat_net.specs.View.{NetView}
use Rattle.flat_net.proofs.Places.{All-at}
use Rattle.sec_setup.specs.ports.Pairing.{AreNamedAt}
use Rattle.cycle_sim.proofs.pair_runs.Places.{pushed_at}
use Rattle.sec_setup.specs.ports.name_tables.Names.{latch_names}
use Rattle.sec_setup.proofs.ports.name_tables.Names.{latches_distinct, latch_name_at}
use Rattle.job_circuit.specs.replay.cut_sides.Opening.{HasBit}

-- the positions of the first so many names
pub record AreFirst (n : NetView) (names : List (List ℕ)) (count : ℕ) (positions : List ℕ) : Type 0 where
  pub named : exposed_names n positions ≡ take count names
  pub within : All (λ j. j < length n.latches) positions

pub latch_named_at : (n : NetView) (j : ℕ) (name : List ℕ) → IsSomeAnd (slice_get n.latches j) (λ (l : LatchAt). l.name ≡ name) → (l : LatchAt) × (slice_get n.latches j ≡ Some l) × (l.name ≡ name)
latch_named_at n j name h = go (slice_get n.latches j) refl h
  where
    go : (o : Option LatchAt) → slice_get n.latches j ≡ o → IsSomeAnd o (λ (l : LatchAt). l.name ≡ name) → (l : LatchAt) × (slice_get n.latches j ≡ Some l) × (l.name ≡ name)
    go None e k = absurd k
    go (Some l) e k = (l, e, k)

-- one position more
pub position_more : (n : NetView) (names : List (List ℕ)) (count : ℕ) (name : List ℕ) (j : ℕ) (old new : List ℕ) → slice_get names count ≡ Some name → take count names ++ name ∷ [] ≡ take (count + 1) names → AreFirst n names count old →
    IsSomeAnd (slice_get n.latches j) (λ (l : LatchAt). l.name ≡ name) → new ≡ old ++ j ∷ [] → AreFirst n names (count + 1) new
position_more n names count name j old new at longer first here grown =
    let l = latch_named_at n j name here in
    let own : (latch_at n j).name ≡ name = ap (λ (l : LatchAt). l.name) (get_or_from_slice_get n.latches j l.0 no_latch l.1) ∙ l.2 in
    record {
      named = ap (exposed_names n) grown ∙ (map-append (λ i. (latch_at n i).name) old (j ∷ []) ∙ (ap (λ (ns : List (List ℕ)). ns ++ (latch_at n j).name ∷ []) first.named ∙ (ap (λ (m : List ℕ). take count names ++ m ∷ []) own ∙ longer)));
      within = subst (All (λ i. i < length n.latches)) (sym grown) (All-from_each (λ i. i < length n.latches) (old ++ j ∷ []) (λ i h. go i (let at_i = at_of (old ++ j ∷ []) i h in pushed_at old j at_i.0 i at_i.1) l.0 l.1));
    }
  where
    go : (i : ℕ) {k : ℕ} → (slice_get old k ≡ Some i) ⊎ ((k ≡ length old) × (j ≡ i)) → (l : LatchAt) → slice_get n.latches j ≡ Some l → i < length n.latches
    go i {k} (inl h) l there = All-at (λ x. x < length n.latches) old k i h first.within
    go i (inr h) l there = let w = slice_get_within n.latches j l there in let e = h.1 in omega (arith, w, e)

-- the positions of all names
pub named_at : (n : NetView) (names : List (List ℕ)) (count : ℕ) (positions : List ℕ) → AreDistinct names → length names ≤ count → AreFirst n names count positions → AreNamedAt n names positions
named_at n names count positions distinct all first = record { within = first.within; distinct = once; named = named }
  where
    named : exposed_names n positions ≡ names
    named = first.named ∙ take_all count names all

    once : AreDistinct positions
    once i j x hi hj = distinct i j (latch_at n x).name (name_at i hi) (name_at j hj)
      where
        name_at : (k : ℕ) → slice_get positions k ≡ Some x → slice_get names k ≡ Some (latch_at n x).name
        name_at k h = ap (λ (ns : List (List ℕ)). slice_get ns k) (sym named) ∙ slice_get-map (λ y. (latch_at n y).name) positions k x h

-- the bits of the first so many latches that are left
pub record AreBitsSoFar (n : NetView) (enabled : List Bool) (m : NetView) (count : ℕ) (bits : List Bool) : Type 0 where
  pub each : length bits ≡ count
  pub right : (k : ℕ) (l : LatchAt) (bit : Bool) → slice_get m.latches k ≡ Some l → slice_get bits k ≡ Some bit → HasBit n enabled l bit

-- the latch of the name is the latch
pub has_bit : (n : NetView) (sound : IsSound n) (enabled : List Bool) (l : LatchAt) (j : ℕ) (name : List ℕ) (bit : Bool) → Contains n.latches l → name ≡ l.name → IsSomeAnd (slice_get n.latches j) (λ (k : LatchAt). k.name ≡ name) →
    slice_get enabled j ≡ Some bit → HasBit n enabled l bit
has_bit n sound enabled l j name bit stands same here there =
    let own = at_of n.latches l stands in
    let other = latch_named_at n j name here in
    let one : own.0 ≡ j = latches_distinct n sound own.0 j l.name (latch_name_at n own.0 l own.1) (latch_name_at n j other.0 other.1 ∙ ap Some (other.2 ∙ same)) in
    record { position = j; latch = ap (slice_get n.latches) (sym one) ∙ own.1; here = there }

pub bit_more : (n : NetView) (enabled : List Bool) (m : NetView) (count : ℕ) (old new : List Bool) (l : LatchAt) (bit : Bool) → slice_get m.latches count ≡ Some l → HasBit n enabled l bit → AreBitsSoFar n enabled m count old → new ≡ old ++ bit ∷ [] →
    AreBitsSoFar n enabled m (count + 1) new
bit_more n enabled m count old new l bit at has so_far grown = record {
  each = let e = so_far.each in let g = ap length grown in let a = length-append old (bit ∷ []) in omega (arith, e, g, a);
  right = λ k p q at_p at_q. go k p q at_p (pushed_at old bit k q (ap (λ (bs : List Bool). slice_get bs k) (sym grown) ∙ at_q));
}
  where
    go : (k : ℕ) (p : LatchAt) (q : Bool) → slice_get m.latches k ≡ Some p → (slice_get old k ≡ Some q) ⊎ ((k ≡ length old) × (bit ≡ q)) → HasBit n enabled p q
    go k p q at_p (inl h) = so_far.right k p q at_p h
    go k p q at_p (inr h) =
        let same : l ≡ p = same_Some l p (sym at ∙ (ap (slice_get m.latches) (sym (h.0 ∙ so_far.each)) ∙ at_p)) in
        subst (HasBit n enabled p) h.1 (subst (λ (x : LatchAt). HasBit n enabled x bit) same has)

-- a name of a latch is found
pub no_latch_absent : (n : NetView) (name : List ℕ) → Contains (latch_names n) name → All (λ (l : LatchAt). l.name ≢ name) n.latches → ⊥
no_latch_absent n name stands absent =
    let l = Contains-map_from (λ (l : LatchAt). l.name) n.latches name stands in
    let at = at_of n.latches l.0 l.1 in
    All-at (λ (l : LatchAt). l.name ≢ name) n.latches at.0 l.0 at.1 absent l.2
