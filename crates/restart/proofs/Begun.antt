-- The net that begins behind the rows of a stimulus: its circuit has other initial values, which are known there; so what is said of it from
-- these is said of all runs behind the rows.
use Rattle.std.proofs.Common.{◌≡◌, ℕ, suc, ◌-◌, ◌<◌, ◌≤◌, Bool, true, false, List, [], ◌∷◌, ◌++◌, length, map, get_or, slice_get, refl, ap, subst, arith, inl, inr, ◌⊎◌, Option, Some, None}
use Rattle.std.specs.List.{All, Contains, filter_map}
use Rattle.std.proofs.lemmas.List.Elements.{All-contains}
use Rattle.std.proofs.lemmas.Option.{slice_get_within, slice_get-get_or}
use Rattle.circuit_theory.specs.Circuit.{Circuit, Equation, Started}
use Rattle.circuit_theory.specs.Tree.{StandsBeside}
use Rattle.circuit_theory.proofs.Lists.{Contains-cases, Contains-map, of_at}
use Rattle.circuit_laws.specs.reset_laws.Reset.{AgreeFromReset}
use Rattle.circuit_laws.specs.cycle_laws.Bounded.{AgreeUpTo}
use Rattle.flat_net.specs.declared.parts.Port.{Port}
use Rattle.flat_net.specs.declared.parts.LatchAt.{LatchAt}
use Rattle.flat_net.specs.View.{NetView, circuit_of, named, equation_of_gate, equation_of_latch, start_of}
use Rattle.circuit_laws.specs.start_laws.Known.{IsKnown, BeginsWith, restarted, AreStartsAfter}
use Rattle.circuit_laws.proofs.start_laws.Knowing.{agree_from_starts, agree_up_to_from_starts, bit_within}
use Rattle.restart.specs.Behind.{IsColumnOf, AreColumnsOf, AreKnownLatches, AreKnownBehind, begun, begun_latches}
use Rattle.restart.specs.Agreement.{BeginsBy, AgreeBehind, Each, UpTo, Before}

-- the initial values of the net that begins
abbrev pub begun_starts : NetView → List (Option Bool) → List (Started ℕ)
begun_starts n known = filter_map (λ (l : LatchAt). start_of l.out.0 l.init) (begun_latches n.latches known)

begun_equations : (ls : List LatchAt) (known : List (Option Bool)) → map equation_of_latch (begun_latches ls known) ≡ map equation_of_latch ls
begun_equations [] known = refl
begun_equations (l ∷ ls) [] = refl
begun_equations (l ∷ ls) (k ∷ known) = ap (λ (es : List (Equation ℕ)). equation_of_latch l ∷ es) (begun_equations ls known)

-- the circuit of the net that begins is that of the net, but for its initial values
pub begun_circuit : (n : NetView) (known : List (Option Bool)) → circuit_of (begun n known) ≡ restarted (begun_starts n known) (circuit_of n)
begun_circuit n known = ap with_latches (begun_equations n.latches known)
  where
    with_latches : List (Equation ℕ) → Circuit ℕ
    with_latches es = record { inputs = map named n.inputs; outputs = map named n.outputs; equations = map (equation_of_gate n.covers) n.gates ++ es; starts = begun_starts n known }

-- an initial value is that of a latch which is known
abbrev StartedAt : List LatchAt → List (Option Bool) → ℕ → Bool → Type 0
StartedAt ls known u bit = (j : ℕ) × (l : LatchAt) × (slice_get ls j ≡ Some l) × (slice_get known j ≡ Some (Some bit)) × (l.out.0 ≡ u)

abbrev starts_of : List LatchAt → List (Option Bool) → List (Started ℕ)
starts_of ls known = filter_map (λ (l : LatchAt). start_of l.out.0 l.init) (begun_latches ls known)

-- the first, or one of the others
first_or_later : (l : LatchAt) (ls : List LatchAt) (known : List (Option Bool)) (b : Bool) (u : ℕ) (bit : Bool) → (Contains (starts_of ls known) (record { place = u; bit = bit }) → StartedAt ls known u bit) →
    (◌≡◌ {A = Started ℕ} (record { place = l.out.0; bit = b }) (record { place = u; bit = bit })) ⊎ Contains (starts_of ls known) (record { place = u; bit = bit }) → StartedAt (l ∷ ls) (Some b ∷ known) u bit
first_or_later l ls known b u bit later (inl e) = (0, l, refl, ap (λ (s : Started ℕ). Some (Some s.bit)) e, ap (λ (s : Started ℕ). s.place) e)
first_or_later l ls known b u bit later (inr k) = let r = later k in (suc r.0, r.1, r.2, r.3, r.4)

started_at : (ls : List LatchAt) (known : List (Option Bool)) → length known ≡ length ls → (u : ℕ) (bit : Bool) → Contains (starts_of ls known) (record { place = u; bit = bit }) → StartedAt ls known u bit
started_at [] known size u bit h = absurd (omega (arith, h.1))
started_at (l ∷ ls) [] size u bit h = absurd (omega (arith, size))
started_at (l ∷ ls) (None ∷ known) size u bit h = let r = started_at ls known (omega (arith, size)) u bit h in (suc r.0, r.1, r.2, r.3, r.4)
started_at (l ∷ ls) (Some true ∷ known) size u bit h =
    first_or_later l ls known true u bit (λ k. started_at ls known (omega (arith, size)) u bit k) (Contains-cases (record { place = l.out.0; bit = true }) (record { place = u; bit = bit }) (starts_of ls known) h)
started_at (l ∷ ls) (Some false ∷ known) size u bit h =
    first_or_later l ls known false u bit (λ k. started_at ls known (omega (arith, size)) u bit k) (Contains-cases (record { place = l.out.0; bit = false }) (record { place = u; bit = bit }) (starts_of ls known) h)

-- the initial values of the net that begins are known behind the rows
pub begun_known : (n : NetView) (columns : List ℕ) (rows : List (List Bool)) (known : List (Option Bool)) → length known ≡ length n.latches → AreKnownLatches n columns rows (length rows) known →
    AreStartsAfter (circuit_of n) columns rows (begun_starts n known)
begun_known n columns rows known size each u bit h =
    let s = started_at n.latches known size u bit h in
    subst (λ p. IsKnown (circuit_of n) columns rows (length rows) p bit) s.4 (each s.0 s.1 bit s.2 s.3)

-- a number of an input is that of a port
pub port_at : (ports : List Port) (order : List ℕ) (p k : ℕ) → StandsBeside (map named ports) order p k → (i : ℕ) × (port : Port) × (slice_get ports i ≡ Some port) × (slice_get order i ≡ Some k) × (port.signal.0 ≡ p)
port_at [] order p k h = absurd h
port_at (x ∷ ports) [] p k h = absurd h
port_at (x ∷ ports) (j ∷ order) p k (inl h) = (0, x, refl, ap Some h.1, h.0)
port_at (x ∷ ports) (j ∷ order) p k (inr h) = let r = port_at ports order p k h in (suc r.0, r.1, r.2, r.3, r.4)

module _ (names : List (List ℕ)) (rows : List (List Bool)) (wide : All (λ (row : List Bool). length row ≡ length names) rows) where
  -- A run that begins by the rows begins with them in the columns of the inputs; of the rows' cycles it is enough that the inputs have
  -- their bits in these.
  pub begins_with : (n : NetView) (columns : List ℕ) → AreColumnsOf n names columns → (run : ℕ → ℕ → Bool) →
      ((t i : ℕ) (row : List Bool) (name : List ℕ) (bit : Bool) (p : ℕ) → t < length rows → slice_get rows t ≡ Some row → slice_get row i ≡ Some bit → slice_get names i ≡ Some name →
      Contains (circuit_of n).inputs (record { name = name; place = p }) → run t p ≡ bit) →
      BeginsWith (circuit_of n) columns rows run
  begins_with n columns are run begins t k p bit number e = go (are.each x.0 k x.1 x.2 x.3)
    where
      x : (i : ℕ) × (port : Port) × (slice_get n.inputs i ≡ Some port) × (slice_get columns i ≡ Some k) × (port.signal.0 ≡ p)
      x = port_at n.inputs columns p k number

      within : t < length rows
      within = bit_within rows k t bit e

      row : List Bool
      row = get_or rows t []

      row_is : slice_get rows t ≡ Some row
      row_is = slice_get-get_or rows t [] within

      input : Contains (circuit_of n).inputs (record { name = x.1.name; place = p })
      input = subst (λ q. Contains (circuit_of n).inputs (record { name = x.1.name; place = q })) x.4 (Contains-map named n.inputs x.1 (of_at n.inputs x.0 x.1 x.2))

      go : IsColumnOf names x.1.name k → run t p ≡ bit
      go (inl h) = begins t k row x.1.name bit p within row_is e h input
      go (inr h) =
          let w = slice_get_within row k bit e in
          let l : length row ≡ length names = All-contains (λ (r : List Bool). length r ≡ length names) rows row wide (of_at rows t row row_is) in
          absurd (omega (arith, w, l, h.0))

  module _ (a b : NetView) (left_known right_known : List (Option Bool)) (left_size : length left_known ≡ length a.latches) (right_size : length right_known ≡ length b.latches) (left : AreKnownBehind a names rows left_known)
      (right : AreKnownBehind b names rows right_known) where
    left_starts : AreStartsAfter (circuit_of a) left.columns rows (begun_starts a left_known)
    left_starts = begun_known a left.columns rows left_known left_size left.each

    right_starts : AreStartsAfter (circuit_of b) right.columns rows (begun_starts b right_known)
    right_starts = begun_known b right.columns rows right_known right_size right.each

    left_begins : (run : ℕ → ℕ → Bool) → BeginsBy (circuit_of a) names rows run → BeginsWith (circuit_of a) left.columns rows run
    left_begins run h = begins_with a left.columns left.are_columns run (λ t i row name bit p low. h t i row name bit p)

    right_begins : (run : ℕ → ℕ → Bool) → BeginsBy (circuit_of b) names rows run → BeginsWith (circuit_of b) right.columns rows run
    right_begins run h = begins_with b right.columns right.are_columns run (λ t i row name bit p low. h t i row name bit p)

    of_begun : (R : Circuit ℕ → Circuit ℕ → Type 0) → R (circuit_of (begun a left_known)) (circuit_of (begun b right_known)) → R (restarted (begun_starts a left_known) (circuit_of a)) (restarted (begun_starts b right_known) (circuit_of b))
    of_begun R h = subst (λ c. R (restarted (begun_starts a left_known) (circuit_of a)) c) (begun_circuit b right_known) (subst (λ c. R c (circuit_of (begun b right_known))) (begun_circuit a left_known) h)

    -- nets that agree in every cycle from what is known behind the rows agree in every cycle there
    pub behind_agree : AgreeFromReset (circuit_of (begun a left_known)) (circuit_of (begun b right_known)) → AgreeBehind names rows Each (circuit_of a) (circuit_of b)
    behind_agree h n l r alike lb rb t p q le lt wanted pair =
        agree_from_starts (circuit_of a) (circuit_of b) left.columns right.columns rows (begun_starts a left_known) (begun_starts b right_known) left_starts right_starts
        (of_begun (λ c d. AgreeFromReset c d) h) n l r alike (left_begins l lb) (right_begins r rb) t p q le lt pair

    -- the same of the cycles up to a last one
    pub behind_agree_up_to : (last : ℕ) → AgreeUpTo last (circuit_of (begun a left_known)) (circuit_of (begun b right_known)) → AgreeBehind names rows (UpTo last) (circuit_of a) (circuit_of b)
    behind_agree_up_to last h n l r alike lb rb t p q le lt wanted pair =
        agree_up_to_from_starts (circuit_of a) (circuit_of b) left.columns right.columns rows (begun_starts a left_known) (begun_starts b right_known) last left_starts right_starts
        (of_begun (λ c d. AgreeUpTo last c d) h) n l r alike (left_begins l lb) (right_begins r rb) t p q le (omega (arith, wanted, le)) lt pair

    -- and of those before it
    pub behind_agree_before : (last : ℕ) → ((k : ℕ) → k < last → AgreeUpTo k (circuit_of (begun a left_known)) (circuit_of (begun b right_known))) → AgreeBehind names rows (Before last) (circuit_of a) (circuit_of b)
    behind_agree_before last h n l r alike lb rb t p q le lt wanted pair =
        behind_agree_up_to (t - length rows) (h (t - length rows) wanted) n l r alike lb rb t p q le lt (let e : t - length rows ≤ t - length rows = omega (arith) in e) pair
