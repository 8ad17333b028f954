-- A step goes on with every run.
use Rattle.std.proofs.Common.{◌≡◌, ℕ, ◌+◌, ◌-◌, ◌<◌, ◌⊎◌, inl, inr, Bool, false, List, [], ◌∷◌, ◌++◌, map, length, get_or, slice_get, Some, None, Option, sym, ◌∙◌, ap, subst, arith, length-append}
use Rattle.std.specs.List.{Contains}
use Rattle.std.specs.Prelude.{All, IfSome}
use Rattle.std.proofs.lemmas.List.Elements.{All-contains}
use Rattle.std.proofs.lemmas.Option.{slice_get_within, slice_get-get_or, get_or_from_slice_get}
use Rattle.circuit_theory.specs.Circuit.{Meets, Carries, Latch as latch_equation, Named, IsInput, IsLatch}
use Rattle.circuit_theory.specs.Run.{IsRun}
use Rattle.circuit_theory.proofs.Lists.{map_same, at_of}
use Rattle.circuit_laws.proofs.LawProofs.{runs_exist, same_run}
use Rattle.flat_net.specs.declared.parts.Port.{Port}
use Rattle.flat_net.specs.declared.parts.Gate.{Gate}
use Rattle.flat_net.specs.declared.parts.LatchAt.{LatchAt}
use Rattle.flat_net.specs.declared.parts.Driver.{Driver}
use Rattle.flat_net.specs.declared.parts.Driver.TheVariants as driver
use Rattle.flat_net.specs.View.{NetView, circuit_of, equation_of_gate, equation_of_latch}
use Rattle.flat_net.specs.Sound.{IsSound}
use Rattle.flat_net.proofs.Places.{All-at}
use Rattle.flat_net.proofs.Nets.{some_at, latch_stands, input_stands, input_from, sound_is_net, equation_from, OfGate, OfLatch}
use Rattle.cycle_sim.specs.Runs.{IsRunFrom}
use Rattle.cycle_sim.specs.View.{SimView, HasRun, IsLatest}
use Rattle.cycle_sim.specs.Steps.{HasInputs, HasLatches}
use Rattle.cycle_sim.proofs.Lists.{item_at, maps_at, map_is, append_left, append_last}

-- a run is a run of the rows before the last
pub shorter : (n : NetView) (power : List Bool) (rows : List (List Bool)) (row : List Bool) (run : ℕ → ℕ → Bool) → IsRunFrom n power (rows ++ row ∷ []) run → IsRunFrom n power rows run
shorter n power rows row run r =
    let more : length (rows ++ row ∷ []) ≡ length rows + 1 = length-append rows (row ∷ []) in
    record {
      is_run = record {
        meets = λ t h. r.is_run.meets t (omega (arith, more, h));
        carries = λ t h. r.is_run.carries t (omega (arith, more, h));
      };
      powers_up = r.powers_up;
      takes = λ t x at. r.takes t x (append_left rows (row ∷ []) t x at);
    }

-- before the first cycle
pub begins : (s : SimView) (power : List Bool) → s.cycles ≡ 0 → s.ahead ≡ power → HasRun s power []
begins s power none ahead = record {
  cycles = none;
  values = λ run r t p h below. absurd (omega (arith, h));
  ahead = λ run row r. r.powers_up ∙ sym ahead;
}

module _ (n : NetView) (sound : IsSound n) (inputs latches values : List Bool)
    (computed : (v : ℕ → Bool) → Meets (circuit_of n) v → HasInputs n inputs v → HasLatches n latches v → (p : ℕ) → p < length n.drivers → slice_get values p ≡ Some (v p)) where
  latest : (power : List Bool) (rows : List (List Bool)) (run : ℕ → ℕ → Bool) → IsRunFrom n power (rows ++ inputs ∷ []) run →
      map (λ (l : LatchAt). run (length rows) l.out.0) n.latches ≡ latches → (p : ℕ) → p < length n.drivers → slice_get values p ≡ Some (run (length rows) p)
  latest power rows run r held =
      let more : length (rows ++ inputs ∷ []) ≡ length rows + 1 = length-append rows (inputs ∷ []) in
      computed (run (length rows)) (r.is_run.meets (length rows) (omega (arith, more))) (r.takes (length rows) inputs (append_last rows inputs)) held

  pub steps : (old new : SimView) → old.net ≡ n → old.ahead ≡ latches → new.net ≡ n → new.cycles ≡ old.cycles + 1 → new.values ≡ values →
      new.ahead ≡ map (λ (l : LatchAt). get_or values l.next.0 false) n.latches →
      (power : List Bool) (rows : List (List Bool)) → HasRun old power rows → HasRun new power (rows ++ inputs ∷ [])
  steps old new old_net old_ahead new_net cycles new_values new_ahead power rows have = record {
    cycles = let c = have.cycles in omega (arith, cycles, more, c);
    values = λ run r t p h below.
        let from : IsRunFrom n power (rows ++ inputs ∷ []) run = subst (λ m. IsRunFrom m power (rows ++ inputs ∷ []) run) new_net r in
        let at : length rows ≡ t = omega (arith, h, more) in
        ap (λ vs. slice_get vs p) new_values
        ∙ (latest power rows run from (held run from) p (subst (λ (m : NetView). p < length m.drivers) new_net below) ∙ ap (λ k. Some (run k p)) at);
    ahead = λ run row r.
        let from : IsRunFrom n power ((rows ++ inputs ∷ []) ++ row ∷ []) run = subst (λ m. IsRunFrom m power ((rows ++ inputs ∷ []) ++ row ∷ []) run) new_net r in
        ap (λ (m : NetView). map (λ (l : LatchAt). run (length (rows ++ inputs ∷ [])) l.out.0) m.latches) new_net
        ∙ (map_same _ _ n.latches (λ l at. taken run row from l at) ∙ sym new_ahead);
  }
    where
      more : length (rows ++ inputs ∷ []) ≡ length rows + 1
      more = length-append rows (inputs ∷ [])

      held : (run : ℕ → ℕ → Bool) → IsRunFrom n power (rows ++ inputs ∷ []) run → map (λ (l : LatchAt). run (length rows) l.out.0) n.latches ≡ latches
      held run r =
          ap (λ (m : NetView). map (λ (l : LatchAt). run (length rows) l.out.0) m.latches) (sym old_net)
          ∙ (have.ahead run inputs (subst (λ m. IsRunFrom m power (rows ++ inputs ∷ []) run) (sym old_net) r) ∙ old_ahead)

      taken : (run : ℕ → ℕ → Bool) (row : List Bool) → IsRunFrom n power ((rows ++ inputs ∷ []) ++ row ∷ []) run → (l : LatchAt) → Contains n.latches l →
          run (length (rows ++ inputs ∷ [])) l.out.0 ≡ get_or values l.next.0 false
      taken run row r l stands =
          let at = at_of n.latches l stands in
          let before = shorter n power (rows ++ inputs ∷ []) row run r in
          let longer : length ((rows ++ inputs ∷ []) ++ row ∷ []) ≡ length (rows ++ inputs ∷ []) + 1 = length-append (rows ++ inputs ∷ []) (row ∷ []) in
          let carried : run (length rows + 1) l.out.0 ≡ run (length rows) l.next.0 =
          All-contains (Carries (run (length rows)) (run (length rows + 1))) (circuit_of n).equations _ (r.is_run.carries (length rows) (omega (arith, more, longer))) (latch_stands n at.0 l at.1) in
          ap (λ k. run k l.out.0) more
          ∙ (carried ∙ sym (get_or_from_slice_get values l.next.0 _ false (latest power rows run before (held run before) l.next.0 (sound.latches at.0 l at.1).within)))

-- the bit of a latch or of an input, by what drives the signal
abbrev latch_bit : List Bool → Option Driver → Bool
latch_bit power None = false
latch_bit power (Some (driver.Input i)) = false
latch_bit power (Some (driver.Gate j)) = false
latch_bit power (Some (driver.Latch j)) = get_or power j false

abbrev input_bit : List Bool → Option Driver → Bool
input_bit row None = false
input_bit row (Some (driver.Input i)) = get_or row i false
input_bit row (Some (driver.Gate j)) = false
input_bit row (Some (driver.Latch j)) = false

-- the latch of the net that an equation is
latch_of : (n : NetView) (name : List ℕ) (u next : ℕ) → IsLatch (circuit_of n) name u next → OfLatch n (latch_equation name u next)
latch_of n name u next h = pick (equation_from n (latch_equation name u next) h)
  where
    no : (g : Gate) → equation_of_gate n.covers g ≡ latch_equation name u next → ⊥
    no g e = cc

    pick : OfGate n (latch_equation name u next) ⊎ OfLatch n (latch_equation name u next) → OfLatch n (latch_equation name u next)
    pick (inl g) = absurd (no g.gate g.is)
    pick (inr l) = l

latch_place : (l : LatchAt) (name : List ℕ) (u next : ℕ) → equation_of_latch l ≡ latch_equation name u next → l.out.0 ≡ u
latch_place l name u next e = cc

module _ (n : NetView) (sound : IsSound n) where
  -- a run with these values of latches and inputs
  run_of : (power : List Bool) (rows : List (List Bool)) (run : ℕ → ℕ → Bool) → length power ≡ length n.latches → All (λ row. length row ≡ length n.inputs) rows → IsRun (circuit_of n) (length rows) run →
      ((t p : ℕ) → IsInput (circuit_of n) p → run t p ≡ input_bit (get_or rows t []) (slice_get n.drivers p)) →
      ((name : List ℕ) (u next : ℕ) → IsLatch (circuit_of n) name u next → run 0 u ≡ latch_bit power (slice_get n.drivers u)) → IsRunFrom n power rows run
  run_of power rows run fits wide is_run inputs powers = record {
    is_run = is_run;
    powers_up = sym (map_is (λ (l : LatchAt). run 0 l.out.0) n.latches power fits powered);
    takes = λ t row at. sym (map_is (λ (port : Port). run t port.signal.0) n.inputs row (width t row at) (λ k port at_port. taken t row at k port at_port));
  }
    where
      width : (t : ℕ) (row : List Bool) → slice_get rows t ≡ Some row → length row ≡ length n.inputs
      width t row at = All-at (λ (r : List Bool). length r ≡ length n.inputs) rows t row at wide

      powered : (k : ℕ) (l : LatchAt) → slice_get n.latches k ≡ Some l → slice_get power k ≡ Some (run 0 l.out.0)
      powered k l at =
          let below : k < length power = let w = slice_get_within n.latches k l at in omega (arith, w, fits) in
          let bit : run 0 l.out.0 ≡ get_or power k false = powers l.name l.out.0 l.next.0 (latch_stands n k l at) ∙ ap (latch_bit power) (sound.latches k l at).owner in
          slice_get-get_or power k false below ∙ ap Some (sym bit)

      taken : (t : ℕ) (row : List Bool) → slice_get rows t ≡ Some row → (k : ℕ) (port : Port) → slice_get n.inputs k ≡ Some port → slice_get row k ≡ Some (run t port.signal.0)
      taken t row at k port at_port =
          let below : k < length row = let w = slice_get_within n.inputs k port at_port in let e = width t row at in omega (arith, w, e) in
          let bit : run t port.signal.0 ≡ get_or row k false =
          inputs t port.signal.0 (port.name, input_stands n k port at_port)
          ∙ (ap (λ o. input_bit (get_or rows t []) o) (sound.inputs k port at_port).owner ∙ ap (λ (r : List Bool). get_or r k false) (get_or_from_slice_get rows t row [] at)) in
          slice_get-get_or row k false below ∙ ap Some (sym bit)

  pub run_exists : (power : List Bool) (rows : List (List Bool)) → length power ≡ length n.latches → All (λ row. length row ≡ length n.inputs) rows →
      (run : ℕ → ℕ → Bool) × IsRunFrom n power rows run
  run_exists power rows fits wide =
      let made = runs_exist (circuit_of n) (length n.drivers) (length rows) (λ s. latch_bit power (slice_get n.drivers s)) (λ t s. input_bit (get_or rows t []) (slice_get n.drivers s)) (sound_is_net n sound) in
      (made.0, run_of power rows made.0 fits wide made.1 made.2 made.3)

  pub one_run : (power : List Bool) (rows : List (List Bool)) (run other : ℕ → ℕ → Bool) → IsRunFrom n power rows run → IsRunFrom n power rows other →
      (t p : ℕ) → t < length rows → p < length n.drivers → other t p ≡ run t p
  one_run power rows run other r s t p h below =
      same_run (circuit_of n) (length n.drivers) (length rows) (sound_is_net n sound) other run s.is_run r.is_run inputs powers t h p below
    where
      inputs : (t p : ℕ) → t < length rows → IsInput (circuit_of n) p → other t p ≡ run t p
      inputs t p h i =
          let row = some_at rows t h in
          let of = input_from n _ i.1 in
          subst (λ (k : Named ℕ). other t k.place ≡ run t k.place) of.is
          (maps_at (λ (port : Port). other t port.signal.0) (λ (port : Port). run t port.signal.0) n.inputs row.0 (s.takes t row.0 row.1) (r.takes t row.0 row.1) of.j of.port of.at)

      powers : (name : List ℕ) (u next : ℕ) → 0 < length rows → IsLatch (circuit_of n) name u next → other 0 u ≡ run 0 u
      powers name u next h latch =
          let l = latch_of n name u next latch in
          subst (λ k. other 0 k ≡ run 0 k) (latch_place l.latch name u next l.is) (maps_at (λ (m : LatchAt). other 0 m.out.0) (λ (m : LatchAt). run 0 m.out.0) n.latches power s.powers_up r.powers_up l.j l.latch l.at)

-- the value of an output
pub output_is : (s : SimView) (outputs : List Port) (i : ℕ) (port : Port) (bit : Bool) → outputs ≡ s.net.outputs → i < length outputs → port ≡ get_or outputs i port → 0 < s.cycles →
    All (λ port. port.signal.0 < length s.net.drivers) s.net.outputs → bit ≡ get_or s.values port.signal.0 bit → IfSome (slice_get s.net.outputs i) (λ port. IsLatest s port.signal.0 bit)
output_is s outputs i port bit same within is begun below value =
    let at = item_at s.net.outputs outputs i port same within is in
    let low : port.signal.0 < length s.net.drivers = All-at (λ (q : Port). q.signal.0 < length s.net.drivers) s.net.outputs i port at below in
    let latest : IsLatest s port.signal.0 bit =
    λ power rows run have from.
    let have_at : length rows ≡ s.cycles - 1 + 1 = let c = have.cycles in omega (arith, c, begun) in
    value ∙ get_or_from_slice_get s.values port.signal.0 _ bit (have.values run from (s.cycles - 1) port.signal.0 have_at low) in
    subst (λ o. IfSome o (λ (q : Port). IsLatest s q.signal.0 bit)) (sym at) latest
