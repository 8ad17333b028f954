-- The values of latches in cycle 0 by their initial values, and reset runs.
use Rattle.std.proofs.Common.{◌≡◌, ◌∙◌, ◌+◌, ◌⊎◌, inl, inr, ℕ, zero, suc, Bool, true, false, List, [], ◌∷◌, ◌++◌, map, length, take, get_or, slice_get, Option, Some, None, refl, sym, ap, ap₂, subst, arith}
use Rattle.std.specs.List.{Contains, filter_map, cons_option}
use Rattle.std.proofs.lemmas.List.{length-take-le}
use Rattle.std.proofs.lemmas.Option.{slice_get_within, same_Some, none-some}
use Rattle.circuit_theory.specs.Circuit.{Started}
use Rattle.circuit_theory.specs.Run.{IsResetRun}
use Rattle.circuit_theory.proofs.Lists.{Contains-head, Contains-tail, Contains-cases, filter_map-from, at_of}
use Rattle.sec_base.specs.declared.basics.Init.{Init}
use Rattle.sec_base.specs.declared.basics.Init.TheVariants as init
use Rattle.base_tables.proofs.TableLemmas.{take-push}
use Rattle.flat_net.specs.declared.parts.LatchAt.{LatchAt}
use Rattle.flat_net.specs.declared.parts.Driver.TheVariants as driver
use Rattle.flat_net.specs.Sound.{IsSound}
use Rattle.flat_net.specs.View.{NetView, circuit_of, start_of}
use Rattle.cycle_sim.specs.Runs.{initial_or, reset_bits, IsRunFrom}
use Rattle.cycle_sim.proofs.Lists.{map_at}

-- there is one bit for each latch
pub length-reset_bits : (latches : List LatchAt) (bits : List Bool) → length bits ≡ length latches → length (reset_bits latches bits) ≡ length latches
length-reset_bits [] [] e = refl
length-reset_bits [] (bit ∷ bits) e = absurd (omega (arith, e))
length-reset_bits (l ∷ latches) [] e = absurd (omega (arith, e))
length-reset_bits (l ∷ latches) (bit ∷ bits) e = let rest = length-reset_bits latches bits (omega (arith, e)) in omega (arith, rest)

-- the bit of a latch
reset_at : (latches : List LatchAt) (bits : List Bool) (j : ℕ) (l : LatchAt) → length bits ≡ length latches → slice_get latches j ≡ Some l → slice_get (reset_bits latches bits) j ≡ Some (initial_or l.init (get_or bits j false))
reset_at [] bits j l e at = absurd (let w = slice_get_within [] j l at in omega arith)
reset_at (m ∷ latches) [] j l e at = absurd (omega (arith, e))
reset_at (m ∷ latches) (bit ∷ bits) zero l e at = ap (λ (x : LatchAt). Some (initial_or x.init bit)) (same_Some m l at)
reset_at (m ∷ latches) (bit ∷ bits) (suc j) l e at = reset_at latches bits j l (omega (arith, e)) at

-- one latch more
reset_append : (latches : List LatchAt) (bits : List Bool) (l : LatchAt) (bit : Bool) → length latches ≡ length bits →
    reset_bits (latches ++ l ∷ []) (bits ++ bit ∷ []) ≡ reset_bits latches bits ++ initial_or l.init bit ∷ []
reset_append [] [] l bit e = refl
reset_append [] (x ∷ bits) l bit e = absurd (omega (arith, e))
reset_append (m ∷ latches) [] l bit e = absurd (omega (arith, e))
reset_append (m ∷ latches) (x ∷ bits) l bit e = ap (λ (bs : List Bool). initial_or m.init x ∷ bs) (reset_append latches bits l bit (omega (arith, e)))

pub reset_push : (latches : List LatchAt) (bits : List Bool) (j : ℕ) (l : LatchAt) (bit : Bool) → slice_get latches j ≡ Some l → slice_get bits j ≡ Some bit →
    reset_bits (take j latches) (take j bits) ++ initial_or l.init bit ∷ [] ≡ reset_bits (take (j + 1) latches) (take (j + 1) bits)
reset_push latches bits j l bit at at_bit =
    let within = slice_get_within latches j l at in
    let room = slice_get_within bits j bit at_bit in
    let same : length (take j latches) ≡ length (take j bits) = length-take-le j latches (omega (arith, within)) ∙ sym (length-take-le j bits (omega (arith, room))) in
    sym (reset_append (take j latches) (take j bits) l bit same) ∙ ap₂ reset_bits (take-push latches j l at) (take-push bits j bit at_bit)

-- an initial value is of the place, and it goes before each bit
start_is : (p : ℕ) (i : Init) (s : Started ℕ) → start_of p i ≡ Some s → (p ≡ s.place) × ((bit : Bool) → initial_or i bit ≡ s.bit)
start_is p init.Zero s e = let is : record { place = p; bit = false } ≡ s = same_Some _ s e in (ap (λ (t : Started ℕ). t.place) is, λ bit. ap (λ (t : Started ℕ). t.bit) is)
start_is p init.One s e = let is = same_Some _ s e in (ap (λ (t : Started ℕ). t.place) is, λ bit. ap (λ (t : Started ℕ). t.bit) is)
start_is p init.DontCare s e = absurd (none-some s e)
start_is p init.Unknown s e = absurd (none-some s e)

pub filter_map-has : {X Y : Type 0} (f : X → Option Y) (xs : List X) (x : X) (y : Y) → Contains xs x → f x ≡ Some y → Contains (filter_map f xs) y
filter_map-has f [] x y h e = absurd (omega (arith, h.1))
filter_map-has {X} {Y} f (z ∷ xs) x y h e = go (f z) refl (Contains-cases z x xs h) (λ k. filter_map-has f xs x y k e)
  where
    go : (o : Option Y) → f z ≡ o → (z ≡ x) ⊎ Contains xs x → (Contains xs x → Contains (filter_map f xs) y) → Contains (cons_option (f z) (filter_map f xs)) y
    go None q (inl same) later = absurd (none-some y (sym q ∙ (ap f same ∙ e)))
    go None q (inr k) later = subst (λ (o : Option Y). Contains (cons_option o (filter_map f xs)) y) (sym q) (later k)
    go (Some w) q (inl same) later =
        subst (λ (o : Option Y). Contains (cons_option o (filter_map f xs)) y) (sym q) (subst (λ (v : Y). Contains (w ∷ filter_map f xs) v) (same_Some w y (sym q ∙ (ap f same ∙ e))) (Contains-head w (filter_map f xs)))
    go (Some w) q (inr k) later = subst (λ (o : Option Y). Contains (cons_option o (filter_map f xs)) y) (sym q) (Contains-tail w y (filter_map f xs) (later k))

-- where the initial values are those of the latches, they change no bit
fixed : (latches : List LatchAt) (v : ℕ → Bool) → ((l : LatchAt) → Contains latches l → (s : Started ℕ) → start_of l.out.0 l.init ≡ Some s → v s.place ≡ s.bit) →
    reset_bits latches (map (λ l. v l.out.0) latches) ≡ map (λ l. v l.out.0) latches
fixed [] v h = refl
fixed (l ∷ latches) v h = ap₂ (λ (bit : Bool) (bits : List Bool). bit ∷ bits) (own l.init (h l (Contains-head l latches))) (fixed latches v (λ m c. h m (Contains-tail l m latches c)))
  where
    own : (i : Init) → ((s : Started ℕ) → start_of l.out.0 i ≡ Some s → v s.place ≡ s.bit) → initial_or i (v l.out.0) ≡ v l.out.0
    own init.Zero k = sym (k (record { place = l.out.0; bit = false }) refl)
    own init.One k = sym (k (record { place = l.out.0; bit = true }) refl)
    own init.DontCare k = refl
    own init.Unknown k = refl

-- the latches have one bit where their initial values are of one effect
pub same_reset_bits : (ls ms : List LatchAt) → length ls ≡ length ms →
    ((j : ℕ) (l m : LatchAt) → slice_get ls j ≡ Some l → slice_get ms j ≡ Some m → (bit : Bool) → initial_or l.init bit ≡ initial_or m.init bit) →
    (bits : List Bool) → reset_bits ls bits ≡ reset_bits ms bits
same_reset_bits [] [] e h bits = refl
same_reset_bits [] (m ∷ ms) e h bits = absurd (omega (arith, e))
same_reset_bits (l ∷ ls) [] e h bits = absurd (omega (arith, e))
same_reset_bits (l ∷ ls) (m ∷ ms) e h [] = refl
same_reset_bits (l ∷ ls) (m ∷ ms) e h (bit ∷ bits) =
    ap₂ (λ (x : Bool) (xs : List Bool). x ∷ xs) (h zero l m refl refl bit) (same_reset_bits ls ms (omega (arith, e)) (λ j p q at at'. h (suc j) p q at at') bits)

module _ (n : NetView) (sound : IsSound n) where
  -- a latch has its initial value among those of the circuit
  pub has_start : (l : LatchAt) → Contains n.latches l → (s : Started ℕ) → start_of l.out.0 l.init ≡ Some s → Contains (circuit_of n).starts s
  has_start l c s e = filter_map-has (λ (m : LatchAt). start_of m.out.0 m.init) n.latches l s c e

  -- and no other is there for its place
  pub start_there : (j : ℕ) (l : LatchAt) → slice_get n.latches j ≡ Some l → (start : Bool) → Contains (circuit_of n).starts (record { place = l.out.0; bit = start }) → (bit : Bool) → initial_or l.init bit ≡ start
  start_there j l at start h bit =
      let f = filter_map-from (λ (m : LatchAt). start_of m.out.0 m.init) n.latches (record { place = l.out.0; bit = start }) h in
      let own = at_of n.latches f.0 f.1 in
      let is = start_is f.0.out.0 f.0.init (record { place = l.out.0; bit = start }) f.2 in
      let place : own.0 ≡ j = index own.0 (same_Some _ _ (sym (sound.latches own.0 f.0 own.1).owner ∙ (ap (slice_get n.drivers) is.0 ∙ (sound.latches j l at).owner))) in
      let one : f.0 ≡ l = same_Some f.0 l (sym own.1 ∙ (ap (slice_get n.latches) place ∙ at)) in
      subst (λ (m : LatchAt). initial_or m.init bit ≡ start) one (is.1 bit)
    where
      index : (i : ℕ) → driver.Latch i ≡ driver.Latch j → i ≡ j
      index i e = cc

module _ (n : NetView) (rows : List (List Bool)) (run : ℕ → ℕ → Bool) where
  pub from_initial_values : (free : List Bool) → length free ≡ length n.latches → IsRunFrom n (reset_bits n.latches free) rows run → IsResetRun (circuit_of n) (length rows) run
  from_initial_values free fits r = record {
    is_run = r.is_run;
    starts = λ p bit h.
        let f = filter_map-from (λ (l : LatchAt). start_of l.out.0 l.init) n.latches (record { place = p; bit = bit }) h in
        let at = at_of n.latches f.0 f.1 in
        let start = start_is f.0.out.0 f.0.init (record { place = p; bit = bit }) f.2 in
        let value : run 0 f.0.out.0 ≡ initial_or f.0.init (get_or free at.0 false) =
        same_Some _ _ (sym (map_at (λ (l : LatchAt). run 0 l.out.0) n.latches at.0 f.0 at.1) ∙ (ap (λ (bits : List Bool). slice_get bits at.0) r.powers_up ∙ reset_at n.latches free at.0 f.0 fits at.1)) in
        subst (λ (q : ℕ). run 0 q ≡ bit) start.0 (value ∙ start.1 (get_or free at.0 false));
  }

  pub by_initial_values : (power : List Bool) → IsRunFrom n power rows run → IsResetRun (circuit_of n) (length rows) run → reset_bits n.latches power ≡ power
  by_initial_values power r z =
      subst (λ (bits : List Bool). reset_bits n.latches bits ≡ bits) r.powers_up
      (fixed n.latches (run 0) (λ l c s e. z.starts s.place s.bit (filter_map-has (λ (m : LatchAt). start_of m.out.0 m.init) n.latches l s c e)))
