-- Initial values of the latches of two nets side by side.
use Rattle.std.proofs.Common.{◌≡◌, ◌∙◌, ◌⊎◌, ℕ, Bool, true, false, List, map, slice_get, Some, refl, sym, ap, subst, inl, inr}
use Rattle.std.specs.List.{Contains}
use Rattle.std.proofs.lemmas.List.Elements.{Contains-append_left, Contains-append_right, Contains-append_cases}
use Rattle.circuit_theory.specs.Circuit.{Started}
use Rattle.circuit_theory.specs.Joined.{Either, Left, Right, moved_start, joined}
use Rattle.circuit_theory.proofs.Lists.{Contains-map, Contains-map_from}
use Rattle.circuit_laws.proofs.JoinedParts.{left_one, right_one, left_is_not_right}
use Rattle.sec_base.specs.declared.basics.Init.{Init}
use Rattle.sec_base.specs.declared.basics.Init.TheVariants as init
use Rattle.flat_net.specs.declared.parts.LatchAt.{LatchAt}
use Rattle.flat_net.specs.View.{NetView, circuit_of, start_of}
use Rattle.flat_net.specs.Sound.{IsSound}
use Rattle.circuit_laws.proofs.reset_laws.reset_nets.Starts.{nets_have_starts}
use Rattle.circuit_laws.specs.reset_laws.induct_laws.Partitions.{ShareStart}
use Rattle.block_refine.specs.latch_blocks.Blocks.{HaveOneStart}
use Rattle.block_refine.proofs.latch_blocks.Placing.{Stands, latch_of}

-- the initial value is this bit
abbrev StartsWith : Init → Bool → Type 0
StartsWith init.Zero bit = bit ≡ false
StartsWith init.One bit = bit ≡ true
StartsWith x bit = ⊥

one_start_bit : (x y : Init) → HaveOneStart x y → (bit : Bool) × StartsWith x bit × StartsWith y bit
one_start_bit init.Zero init.Zero h = (false, refl, refl)
one_start_bit init.One init.One h = (true, refl, refl)
one_start_bit x y h = absurd h

bit_one_start : (x y : Init) (bit : Bool) → StartsWith x bit → StartsWith y bit → HaveOneStart x y
bit_one_start init.Zero init.Zero bit h k = tt
bit_one_start init.One init.One bit h k = tt
bit_one_start init.Zero init.One bit h k = let no : false ≡ true = sym h ∙ k in absurd (let bad : ⊥ = cc in bad)
bit_one_start init.One init.Zero bit h k = let no : true ≡ false = sym h ∙ k in absurd (let bad : ⊥ = cc in bad)
bit_one_start init.Zero init.DontCare bit h k = absurd k
bit_one_start init.Zero init.Unknown bit h k = absurd k
bit_one_start init.One init.DontCare bit h k = absurd k
bit_one_start init.One init.Unknown bit h k = absurd k
bit_one_start init.DontCare y bit h k = absurd h
bit_one_start init.Unknown y bit h k = absurd h

-- in one net
module _ (n : NetView) (sound : IsSound n) (j : ℕ) (l : LatchAt) (at : slice_get n.latches j ≡ Some l) where
  abbrev Started_at : Bool → Type 0
  Started_at bit = Contains (circuit_of n).starts (record { place = l.out.0; bit = bit })

  net_to : (bit : Bool) → StartsWith l.init bit → Started_at bit
  net_to bit h = go l.init refl h
    where
      go : (i : Init) → l.init ≡ i → StartsWith i bit → Started_at bit
      go init.Zero e is = subst Started_at (sym is) ((nets_have_starts n sound).4 j l (record { place = l.out.0; bit = false }) at (ap (start_of l.out.0) e))
      go init.One e is = subst Started_at (sym is) ((nets_have_starts n sound).4 j l (record { place = l.out.0; bit = true }) at (ap (start_of l.out.0) e))
      go init.DontCare e is = absurd is
      go init.Unknown e is = absurd is

  net_from : (bit : Bool) → Started_at bit → StartsWith l.init bit
  net_from bit h = go l.init refl
    where
      go : (i : Init) → l.init ≡ i → StartsWith l.init bit
      go init.Zero e = subst (λ (i : Init). StartsWith i bit) (sym e) ((nets_have_starts n sound).0.once l.out.0 bit false h ((nets_have_starts n sound).4 j l (record { place = l.out.0; bit = false }) at (ap (start_of l.out.0) e)))
      go init.One e = subst (λ (i : Init). StartsWith i bit) (sym e) ((nets_have_starts n sound).0.once l.out.0 bit true h ((nets_have_starts n sound).4 j l (record { place = l.out.0; bit = true }) at (ap (start_of l.out.0) e)))
      go init.DontCare e = absurd ((nets_have_starts n sound).5 j l at (ap (start_of l.out.0) e) bit h)
      go init.Unknown e = absurd ((nets_have_starts n sound).5 j l at (ap (start_of l.out.0) e) bit h)

module _ (a b : NetView) (sound_a : IsSound a) (sound_b : IsSound b) where
  abbrev both_starts : Either ℕ ℕ → Bool → Type 0
  both_starts p bit = Contains (joined (circuit_of a) (circuit_of b)).starts (record { place = p; bit = bit })

  abbrev lefts : List (Started (Either ℕ ℕ))
  lefts = map (moved_start {P = ℕ} {Q = Either ℕ ℕ} Left) (circuit_of a).starts

  abbrev rights : List (Started (Either ℕ ℕ))
  rights = map (moved_start {P = ℕ} {Q = Either ℕ ℕ} Right) (circuit_of b).starts

  abbrev started : Either ℕ ℕ → Bool → Started (Either ℕ ℕ)
  started p bit = record { place = p; bit = bit }

  from_left : (s : ℕ) (bit : Bool) → both_starts (Left s) bit → Contains (circuit_of a).starts (record { place = s; bit = bit })
  from_left s bit h = go (Contains-append_cases lefts rights (started (Left s) bit) h)
    where
      go : Contains lefts (started (Left s) bit) ⊎ Contains rights (started (Left s) bit) → Contains (circuit_of a).starts (record { place = s; bit = bit })
      go (inl k) =
          let w = Contains-map_from (moved_start {P = ℕ} {Q = Either ℕ ℕ} Left) (circuit_of a).starts (started (Left s) bit) k in
          let e : w.0.place ≡ s = left_one w.0.place s (ap (λ (z : Started (Either ℕ ℕ)). z.place) w.2) in
          let f : w.0.bit ≡ bit = ap (λ (z : Started (Either ℕ ℕ)). z.bit) w.2 in
          subst (Contains (circuit_of a).starts) (λ i. record { place = e i; bit = f i }) w.1
      go (inr k) =
          let w = Contains-map_from (moved_start {P = ℕ} {Q = Either ℕ ℕ} Right) (circuit_of b).starts (started (Left s) bit) k in
          absurd (left_is_not_right s w.0.place (sym (ap (λ (z : Started (Either ℕ ℕ)). z.place) w.2)))

  from_right : (s : ℕ) (bit : Bool) → both_starts (Right s) bit → Contains (circuit_of b).starts (record { place = s; bit = bit })
  from_right s bit h = go (Contains-append_cases lefts rights (started (Right s) bit) h)
    where
      go : Contains lefts (started (Right s) bit) ⊎ Contains rights (started (Right s) bit) → Contains (circuit_of b).starts (record { place = s; bit = bit })
      go (inr k) =
          let w = Contains-map_from (moved_start {P = ℕ} {Q = Either ℕ ℕ} Right) (circuit_of b).starts (started (Right s) bit) k in
          let e : w.0.place ≡ s = right_one w.0.place s (ap (λ (z : Started (Either ℕ ℕ)). z.place) w.2) in
          let f : w.0.bit ≡ bit = ap (λ (z : Started (Either ℕ ℕ)). z.bit) w.2 in
          subst (Contains (circuit_of b).starts) (λ i. record { place = e i; bit = f i }) w.1
      go (inl k) =
          let w = Contains-map_from (moved_start {P = ℕ} {Q = Either ℕ ℕ} Left) (circuit_of a).starts (started (Right s) bit) k in
          absurd (left_is_not_right w.0.place s (ap (λ (z : Started (Either ℕ ℕ)). z.place) w.2))

  starts_to : (p next : Either ℕ ℕ) (s : Stands a b sound_a sound_b p next) (bit : Bool) → StartsWith (latch_of a b sound_a sound_b p next s).init bit → both_starts p bit
  starts_to p next (inl l) bit h =
      subst (λ q. both_starts q bit) l.out_is
      (Contains-append_left lefts rights (started (Left l.latch.out.0) bit) (Contains-map (moved_start Left) (circuit_of a).starts (record { place = l.latch.out.0; bit = bit }) (net_to a sound_a l.j l.latch l.at bit h)))
  starts_to p next (inr r) bit h =
      subst (λ q. both_starts q bit) r.out_is
      (Contains-append_right lefts rights (started (Right r.latch.out.0) bit) (Contains-map (moved_start Right) (circuit_of b).starts (record { place = r.latch.out.0; bit = bit }) (net_to b sound_b r.j r.latch r.at bit h)))

  starts_from : (p next : Either ℕ ℕ) (s : Stands a b sound_a sound_b p next) (bit : Bool) → both_starts p bit → StartsWith (latch_of a b sound_a sound_b p next s).init bit
  starts_from p next (inl l) bit h = net_from a sound_a l.j l.latch l.at bit (from_left l.latch.out.0 bit (subst (λ q. both_starts q bit) (sym l.out_is) h))
  starts_from p next (inr r) bit h = net_from b sound_b r.j r.latch r.at bit (from_right r.latch.out.0 bit (subst (λ q. both_starts q bit) (sym r.out_is) h))

  pub share_to : (p next q later : Either ℕ ℕ) (s : Stands a b sound_a sound_b p next) (t : Stands a b sound_a sound_b q later) →
      HaveOneStart (latch_of a b sound_a sound_b p next s).init (latch_of a b sound_a sound_b q later t).init → ShareStart (joined (circuit_of a) (circuit_of b)) p q
  share_to p next q later s t h =
      let one = one_start_bit (latch_of a b sound_a sound_b p next s).init (latch_of a b sound_a sound_b q later t).init h in
      (one.0, starts_to p next s one.0 one.1, starts_to q later t one.0 one.2)

  pub share_from : (p next q later : Either ℕ ℕ) (s : Stands a b sound_a sound_b p next) (t : Stands a b sound_a sound_b q later) →
      ShareStart (joined (circuit_of a) (circuit_of b)) p q → HaveOneStart (latch_of a b sound_a sound_b p next s).init (latch_of a b sound_a sound_b q later t).init
  share_from p next q later s t h =
      bit_one_start (latch_of a b sound_a sound_b p next s).init (latch_of a b sound_a sound_b q later t).init h.0 (starts_from p next s h.0 h.1) (starts_from q later t h.0 h.2)
