-- Where a latch of one of two nets stands in the list of all latches.
use Rattle.std.proofs.Common.{◌≡◌, ◌∙◌, ◌+◌, ◌<◌, ◌⊎◌, ℕ, List, ◌++◌, length, map, slice_get, Some, sym, ap, arith, inl, inr}
use Rattle.std.proofs.Math.ListN.{get_or-append, length-append}
use Rattle.std.proofs.lemmas.List.{get_or-append-add}
use Rattle.std.proofs.lemmas.Option.{slice_get_within, get_or_from_slice_get, slice_get-get_or}
use Rattle.std.specs.List.{Contains}
use Rattle.sec_base.specs.declared.basics.Init.TheVariants as init
use Rattle.circuit_theory.specs.Circuit.{Equation, Gate, Latch, Port, IsLatch}
use Rattle.circuit_theory.specs.Joined.{Either, Left, Right, moved, joined}
use Rattle.circuit_theory.proofs.Lists.{length-map}
use Rattle.circuit_theory.proofs.Numbers.{slice_get-map}
use Rattle.circuit_laws.proofs.Joined.{equation_from}
use Rattle.flat_net.specs.declared.parts.LatchAt.{LatchAt}
use Rattle.flat_net.specs.declared.parts.Driver.TheVariants as driver
use Rattle.flat_net.specs.View.{NetView, circuit_of}
use Rattle.flat_net.specs.Sound.{IsSound}
use Rattle.flat_net.proofs.Places.{one_at}
use Rattle.flat_net.proofs.Drivers.{latch_of_equation, latch_out}
use Rattle.block_refine.specs.latch_blocks.Blocks.{block_at, start_at}
use Rattle.block_refine.specs.latch_blocks.Partitions.{block_of, block_of_driver, starts_of, nexts_of}

pub at_left : {X : Type 0} (xs ys : List X) (i : ℕ) (x : X) → slice_get xs i ≡ Some x → slice_get (xs ++ ys) i ≡ Some x
at_left xs ys i x at =
    let inside = slice_get_within xs i x at in
    let more : i < length (xs ++ ys) = omega (arith, inside, length-append xs ys) in
    slice_get-get_or (xs ++ ys) i x more ∙ ap Some (get_or-append xs ys x i inside ∙ get_or_from_slice_get xs i x x at)

pub at_right : {X : Type 0} (xs ys : List X) (n i : ℕ) (x : X) → length xs ≡ n → slice_get ys i ≡ Some x → slice_get (xs ++ ys) (n + i) ≡ Some x
at_right xs ys n i x long at =
    let inside = slice_get_within ys i x at in
    let more : length xs + i < length (xs ++ ys) = omega (arith, inside, length-append xs ys) in
    ap (λ k. slice_get (xs ++ ys) (k + i)) (sym long) ∙ (slice_get-get_or (xs ++ ys) (length xs + i) x more ∙ ap Some (get_or-append-add xs ys i x ∙ get_or_from_slice_get ys i x x at))

-- what a latch of A, and of B, takes over
abbrev pub left_next : LatchAt → Either ℕ ℕ
left_next l = Left l.next.0

abbrev pub right_next : LatchAt → Either ℕ ℕ
right_next l = Right l.next.0

-- the latch is A's
pub record OnLeft (a : NetView) (p next : Either ℕ ℕ) : Type 0 where
  pub j : ℕ
  pub latch : LatchAt
  pub at : slice_get a.latches j ≡ Some latch
  pub owner : slice_get a.drivers latch.out.0 ≡ Some (driver.Latch j)
  pub out_is : Left latch.out.0 ≡ p
  pub next_is : Left latch.next.0 ≡ next

-- the latch is B's
pub record OnRight (b : NetView) (p next : Either ℕ ℕ) : Type 0 where
  pub j : ℕ
  pub latch : LatchAt
  pub at : slice_get b.latches j ≡ Some latch
  pub owner : slice_get b.drivers latch.out.0 ≡ Some (driver.Latch j)
  pub out_is : Right latch.out.0 ≡ p
  pub next_is : Right latch.next.0 ≡ next

module _ (a b : NetView) (sound_a : IsSound a) (sound_b : IsSound b) where
  abbrev pub Stands : Either ℕ ℕ → Either ℕ ℕ → Type 0
  Stands p next = OnLeft a p next ⊎ OnRight b p next

  -- each latch of both is one of them
  pub stands : (name : List ℕ) (p next : Either ℕ ℕ) → IsLatch (joined (circuit_of a) (circuit_of b)) name p next → Stands p next
  stands name p next h = go (equation_from (circuit_of a) (circuit_of b) (Latch name p next) h)
    where
      left : (x : Equation ℕ) → Contains (circuit_of a).equations x → moved Left x ≡ Latch name p next → OnLeft a p next
      left (Gate out fanins cover) k e = absurd (let no : ⊥ = cc in no)
      left (Port out from) k e = absurd (let no : ⊥ = cc in no)
      left (Latch own u n) k e =
          let out : Left u ≡ p = cc in
          let taken : Left n ≡ next = cc in
          let l = latch_of_equation a sound_a own u n k in
          let same : l.latch.out.0 ≡ u = latch_out a sound_a u l.j l.owner l.latch l.at in
          record { j = l.j; latch = l.latch; at = l.at; owner = ap (slice_get a.drivers) same ∙ l.owner; out_is = ap (λ (s : ℕ). Left s) same ∙ out; next_is = ap (λ (s : ℕ). Left s) l.next_is ∙ taken }

      right : (x : Equation ℕ) → Contains (circuit_of b).equations x → moved Right x ≡ Latch name p next → OnRight b p next
      right (Gate out fanins cover) k e = absurd (let no : ⊥ = cc in no)
      right (Port out from) k e = absurd (let no : ⊥ = cc in no)
      right (Latch own u n) k e =
          let out : Right u ≡ p = cc in
          let taken : Right n ≡ next = cc in
          let l = latch_of_equation b sound_b own u n k in
          let same : l.latch.out.0 ≡ u = latch_out b sound_b u l.j l.owner l.latch l.at in
          record { j = l.j; latch = l.latch; at = l.at; owner = ap (slice_get b.drivers) same ∙ l.owner; out_is = ap (λ (s : ℕ). Right s) same ∙ out; next_is = ap (λ (s : ℕ). Right s) l.next_is ∙ taken }

      go : ((x : Equation ℕ) × Contains (circuit_of a).equations x × (moved Left x ≡ Latch name p next)) ⊎ ((y : Equation ℕ) × Contains (circuit_of b).equations y × (moved Right y ≡ Latch name p next)) → Stands p next
      go (inl x) = inl (left x.0 x.1 x.2)
      go (inr y) = inr (right y.0 y.1 y.2)

  -- its place in the list of all latches
  abbrev pub place_of : (p next : Either ℕ ℕ) → Stands p next → ℕ
  place_of p next (inl l) = l.j
  place_of p next (inr r) = length a.latches + r.j

  abbrev pub latch_of : (p next : Either ℕ ℕ) → Stands p next → LatchAt
  latch_of p next (inl l) = l.latch
  latch_of p next (inr r) = r.latch

  pub place_inside : (p next : Either ℕ ℕ) (s : Stands p next) → place_of p next s < length a.latches + length b.latches
  place_inside p next (inl l) = let inside = slice_get_within a.latches l.j l.latch l.at in omega arith
  place_inside p next (inr r) = let inside = slice_get_within b.latches r.j r.latch r.at in omega arith

  -- its block is the number at its place
  pub block_is : (blocks : List ℕ) (p next : Either ℕ ℕ) (s : Stands p next) → block_of a b blocks p ≡ block_at blocks (place_of p next s)
  block_is blocks p next (inl l) = ap (block_of a b blocks) (sym l.out_is) ∙ ap (block_of_driver blocks 0) l.owner ∙ ap (block_at blocks) (let z : 0 + l.j ≡ l.j = omega arith in z)
  block_is blocks p next (inr r) = ap (block_of a b blocks) (sym r.out_is) ∙ ap (block_of_driver blocks (length a.latches)) r.owner

  -- what it takes over stands at its place
  pub next_at : (p next : Either ℕ ℕ) (s : Stands p next) → slice_get (nexts_of a b) (place_of p next s) ≡ Some next
  next_at p next (inl l) =
      at_left (map left_next a.latches) (map right_next b.latches) l.j next
      (slice_get-map left_next a.latches l.j l.latch l.at ∙ ap Some l.next_is)
  next_at p next (inr r) =
      at_right (map left_next a.latches) (map right_next b.latches) (length a.latches) r.j next (length-map left_next a.latches)
      (slice_get-map right_next b.latches r.j r.latch r.at ∙ ap Some r.next_is)

  -- so does its initial value
  pub start_is : (p next : Either ℕ ℕ) (s : Stands p next) → start_at (starts_of a b) (place_of p next s) ≡ (latch_of p next s).init
  start_is p next (inl l) =
      get_or_from_slice_get (starts_of a b) l.j l.latch.init init.Zero
      (at_left (map (λ (m : LatchAt). m.init) a.latches) (map (λ (m : LatchAt). m.init) b.latches) l.j l.latch.init (slice_get-map (λ (m : LatchAt). m.init) a.latches l.j l.latch l.at))
  start_is p next (inr r) =
      get_or_from_slice_get (starts_of a b) (length a.latches + r.j) r.latch.init init.Zero
      (at_right (map (λ (m : LatchAt). m.init) a.latches) (map (λ (m : LatchAt). m.init) b.latches) (length a.latches) r.j r.latch.init (length-map (λ (m : LatchAt). m.init) a.latches)
      (slice_get-map (λ (m : LatchAt). m.init) b.latches r.j r.latch r.at))

  -- latches at one place are one
  pub one_place : (p next q later : Either ℕ ℕ) (s : Stands p next) (t : Stands q later) → place_of p next s ≡ place_of q later t → p ≡ q
  one_place p next q later (inl l) (inl m) e = sym l.out_is ∙ ap (λ (k : LatchAt). Left k.out.0) (one_at a.latches m.j l.latch m.latch (ap (slice_get a.latches) (sym e) ∙ l.at) m.at) ∙ m.out_is
  one_place p next q later (inl l) (inr r) e = absurd (let inside = slice_get_within a.latches l.j l.latch l.at in omega (arith, inside, e))
  one_place p next q later (inr r) (inl l) e = absurd (let inside = slice_get_within a.latches l.j l.latch l.at in omega (arith, inside, e))
  one_place p next q later (inr r) (inr m) e =
      let same : r.j ≡ m.j = omega (arith, e) in
      sym r.out_is ∙ ap (λ (k : LatchAt). Right k.out.0) (one_at b.latches m.j r.latch m.latch (ap (slice_get b.latches) (sym same) ∙ r.at) m.at) ∙ m.out_is
