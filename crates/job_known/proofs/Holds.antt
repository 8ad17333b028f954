-- What the three-valued run of a net from its initial values knows is so in each run from these that reads the rows.
use Rattle.std.proofs.Common.{◌≡◌, ℕ, zero, suc, ◌+◌, ◌<◌, ◌≤◌, Bool, true, false, List, [], ◌∷◌, length, map, refl, sym, ◌∙◌, ap, arith, add-one, inl, inr, Option, Some, None}
use Rattle.std.specs.Prelude.{◌⊎◌}
use Rattle.std.specs.List.{All, Contains}
use Rattle.std.proofs.lemmas.List.{length-map}
use Rattle.std.proofs.lemmas.List.Elements.{All-contains}
use Rattle.circuit_theory.specs.Circuit.{Circuit, Equation, Gate, Latch, Port, IsInput, IsLatch, Holds, Carries, out_of}
use Rattle.circuit_theory.specs.Net.{IsNet, IsAbove, IsWithin}
use Rattle.circuit_theory.specs.Run.{IsResetRun}
use Rattle.circuit_theory.proofs.Lists.{Contains-head, Contains-tail, of_at}
use Rattle.circuit_laws.specs.start_laws.Known.{Completes, BeginsWith}
use Rattle.circuit_laws.proofs.start_laws.Covers.{cover_forces}
use Rattle.circuit_laws.proofs.NetTrees.{has_number}
use Rattle.circuit_laws.proofs.Pairs.{filter_map-has}
use Rattle.sec_base.specs.declared.basics.Init.{Init}
use Rattle.sec_base.specs.declared.basics.Init.TheVariants as init
use Rattle.flat_net.specs.declared.parts.LatchAt.{LatchAt}
use Rattle.flat_net.specs.Sound.{IsSound}
use Rattle.flat_net.specs.View.{NetView, circuit_of, named, start_of}
use Rattle.flat_net.proofs.Nets.{sound_is_net}
use Rattle.restart.proofs.Begun.{begins_with}
use Rattle.restart.proofs.Ran.{latch_of}
use Rattle.job_known.specs.Known.{known_init, IsThreeRunFrom, KnownRun}
use Rattle.job_known.specs.Pairs.{ReadsFromReset, HasAlways}

-- what is known of a latch at first is an initial value of the circuit
start_is : (u : ℕ) (i : Init) (bit : Bool) → known_init i ≡ Some bit → start_of u i ≡ Some (record { place = u; bit = bit })
start_is u init.Zero bit e = ap (λ (b : Bool). Some (record { place = u; bit = b })) (let q : false ≡ bit = cc in q)
start_is u init.One bit e = ap (λ (b : Bool). Some (record { place = u; bit = b })) (let q : true ≡ bit = cc in q)
start_is u init.DontCare bit e = cc
start_is u init.Unknown bit e = cc

module _ (n : NetView) (sound : IsSound n) (columns : List ℕ) (rows : List (List Bool)) (size : length columns ≡ length n.inputs) (w : ℕ → ℕ → Option Bool) (three : IsThreeRunFrom n columns rows w)
    (count : ℕ) (run : ℕ → ℕ → Bool) (is_run : IsResetRun (circuit_of n) count run) (begins : BeginsWith (circuit_of n) columns rows run) where
  abbrev c : Circuit ℕ
  c = circuit_of n

  net : IsNet c (length n.drivers)
  net = sound_is_net n sound

  LatchesAt : ℕ → Type 0
  LatchesAt t = (name : List ℕ) (u next : ℕ) (bit : Bool) → IsLatch c name u next → w t u ≡ Some bit → run t u ≡ bit

  signals_at : (t : ℕ) → t < length rows → t < count → LatchesAt t → (limit s : ℕ) (bit : Bool) → s < limit → s < length n.drivers → w t s ≡ Some bit → run t s ≡ bit
  unfolding LatchesAt
  signals_at t h lt latches zero s bit below low e = absurd (omega arith)
  signals_at t h lt latches (suc limit) s bit below low e = go (λ f b x y z. signals_at t h lt latches limit f b x y z) (net.driven s low)
    where
      Below : Type 0
      Below = (f : ℕ) (b : Bool) → f < limit → f < length n.drivers → w t f ≡ Some b → run t f ≡ b

      each : Below → (fs : List ℕ) → ((f : ℕ) → Contains fs f → f < s) → Completes (map (w t) fs) (map (run t) fs)
      each before [] lower = tt
      each before (f ∷ fs) lower = pick (w t f) refl (each before fs (λ g k. lower g (Contains-tail f g fs k)))
        where
          pick : (o : Option Bool) → w t f ≡ o → Completes (map (w t) fs) (map (run t) fs) → Completes (o ∷ map (w t) fs) (run t f ∷ map (run t) fs)
          pick None q rest = (tt, rest)
          pick (Some b) q rest = let m = lower f (Contains-head f fs) in (before f b (omega arith) (omega arith) q, rest)

      by : Below → (x : Equation ℕ) → Contains c.equations x → out_of x ≡ s → run t s ≡ bit
      by before (Gate out fanins cover) eq q =
          let above = All-contains IsAbove c.equations _ net.above eq in
          let holds = All-contains (Holds (run t)) c.equations _ (is_run.is_run.meets t lt) eq in
          let forced = cover_forces cover (map (w t) fanins) bit (sym (three.gates t out fanins cover h eq) ∙ (ap (w t) q ∙ e)) in
          ap (run t) (sym q) ∙ (holds ∙ forced (map (run t) fanins) (each before fanins (λ f k. let m = All-contains (λ g. g < out) fanins f above k in omega (arith, m, q))))
      by before (Latch name out next) eq q = ap (run t) (sym q) ∙ latches name out next bit eq (ap (w t) q ∙ e)
      by before (Port out from) eq q = absurd (All-contains IsAbove c.equations _ net.above eq)

      go : Below → IsInput c s ⊎ ((x : Equation ℕ) × Contains c.equations x × (out_of x ≡ s)) → run t s ≡ bit
      go before (inl i) =
          let number = has_number c.inputs columns (size ∙ sym (length-map n.inputs named)) (record { name = i.0; place = s }) i.1 in
          begins t number.0 s bit number.1 (sym (three.inputs t s number.0 h number.1) ∙ e)
      go before (inr x) = by before x.0 x.1 x.2

  latches_at : (t : ℕ) → t ≤ length rows → t < count → LatchesAt t
  unfolding LatchesAt
  latches_at zero le lt name u next bit latch e =
      let l = latch_of n name u next latch in
      let known : known_init l.1.init ≡ Some bit = sym (three.power l.1 (of_at n.latches l.0 l.1 l.4)) ∙ (ap (w 0) l.2 ∙ e) in
      ap (run 0) (sym l.2) ∙ is_run.starts l.1.out.0 bit (filter_map-has (λ (m : LatchAt). start_of m.out.0 m.init) n.latches l.1 (record { place = l.1.out.0; bit = bit }) (of_at n.latches l.0 l.1 l.4) (start_is l.1.out.0 l.1.init bit known))
  latches_at (suc t) le lt name u next bit latch e =
      let low = All-contains (IsWithin (length n.drivers)) c.equations _ net.within latch in
      let carried = All-contains (Carries (run t) (run (t + 1))) c.equations _ (is_run.is_run.carries t (omega arith)) latch in
      sym (ap (λ s. run s u) (add-one t)) ∙ (carried
      ∙ signals_at t (omega arith) (omega arith) (latches_at t (omega arith) (omega arith)) (suc next) next bit (omega arith) low.1 (sym (three.later t name u next (omega arith) latch) ∙ e))

  known_is_so : (t s : ℕ) (bit : Bool) → t < length rows → t < count → s < length n.drivers → w t s ≡ Some bit → run t s ≡ bit
  known_is_so t s bit h lt low e = signals_at t h lt (latches_at t (omega arith) lt) (suc s) s bit (omega arith) low e

-- in all runs from the initial values that read the rows
pub always_so : (n : NetView) → IsSound n → (names : List (List ℕ)) (rows : List (List Bool)) → All (λ (row : List Bool). length row ≡ length names) rows → (known : KnownRun n names rows) →
    (t s : ℕ) (bit : Bool) → t < length rows → s < length n.drivers → known.run t s ≡ Some bit → HasAlways (ReadsFromReset n names rows) t s bit
always_so n sound names rows wide known t s bit h low e count run reads lt =
    known_is_so n sound known.columns rows known.are_columns.size known.run known.is_run count run reads.0
    (begins_with names rows wide n known.columns known.are_columns run (λ k i row name b p within. reads.1 k i row name b p)) t s bit h lt low e
