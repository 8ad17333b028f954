-- What is told over the names.
use Rattle.std.proofs.Common.{◌≡◌, ◌∙◌, ◌<◌, ℕ, List, [], length, get_or, slice_get, Some, sym, ap, subst}
use Rattle.std.specs.Prelude.{unwrap_or}
use Rattle.std.proofs.lemmas.Option.{slice_get-get_or}
use Rattle.base_tables.specs.Table.{AreDistinct}
use Rattle.elaborate.specs.declared.flat.Flat.{Flat}
use Rattle.elaborate.specs.declared.error.FlatError.{FlatError}
use Rattle.elaborate.specs.declared.error.FlatError.TheVariants as fault
use Rattle.elaborate.specs.Flat.{name_at}
use Rattle.flatten.specs.connectivity.Wiring.{Wiring, wires_of}
use Rattle.flatten.specs.connectivity.Events.{IsFirst, IsNever}
use Rattle.flatten.specs.connectivity.Faults.{DrivesAgain, ReadsUndriven, HasClockNet, OtherClock, OtherEdge, IsGatedClock, ClockRead, FirstFault, HasNoWireFault}
use Rattle.flatten.specs.connectivity.Solid.{IsSolid}
use Rattle.flatten.specs.connectivity.Wired.{IsTold, IsFaultless}
use Rattle.flatten.proofs.connectivity.NamedWires.{named_wires, wiring_by_names}
use Rattle.flatten.proofs.connectivity.Bounds.{IsBounded, bounded}
use Rattle.flatten.proofs.connectivity.Transport.{first_again, never_again, first_undriven, never_undriven, first_other, never_other, first_edge, never_edge, clock_net_below, gated_there, never_gated, first_read, never_read}

-- two numbers of one name are one
one_number : (names : List (List ℕ)) → AreDistinct names → (m n : ℕ) → m < length names → n < length names → name_at names m ≡ name_at names n → m ≡ n
one_number names distinct m n hm hn e =
    distinct m n (get_or names m []) (slice_get-get_or names m [] hm)
    (slice_get-get_or names n [] hn ∙ sym (ap Some (sym (at m hm) ∙ e ∙ at n hn)))
  where
    at : (k : ℕ) → k < length names → name_at names k ≡ get_or names k []
    at k below = ap (λ o. unwrap_or o []) (slice_get-get_or names k [] below)

name_is : (names : List (List ℕ)) (n : ℕ) (name : List ℕ) → slice_get names n ≡ Some name → name_at names n ≡ name
name_is names n name h = ap (λ o. unwrap_or o []) h

-- what each error says of the wiring over numbers, n being the number of its name
module _ (flat : Flat) (solid : IsSolid flat) where
  told : (e : FlatError) → FirstFault (named_wires (name_at flat.names) (wires_of flat)) e → IsTold flat e
  told e h _ models = subst (λ w. FirstFault w e) (sym (wiring_by_names models flat (name_at flat.names))) h

  inj : (m n : ℕ) → m < length flat.names → n < length flat.names → name_at flat.names m ≡ name_at flat.names n → m ≡ n
  inj = one_number flat.names flat.distinct

  below : IsBounded (wires_of flat) (length flat.names)
  below = bounded flat solid

  -- a clock net has a name
  pub clock_within : (i n : ℕ) → HasClockNet (wires_of flat) i n → n < length flat.names
  clock_within = clock_net_below (name_at flat.names) (length flat.names) inj (wires_of flat) below

  pub told_again : (n : ℕ) (name : List ℕ) → slice_get flat.names n ≡ Some name → IsFirst (DrivesAgain (wires_of flat)) n → IsTold flat (fault.TwoDrivers name)
  told_again n name at first =
      told (fault.TwoDrivers name) (subst (λ p. IsFirst (DrivesAgain (named_wires (name_at flat.names) (wires_of flat))) p) (name_is flat.names n name at) (first_again (name_at flat.names) (length flat.names) inj (wires_of flat) below n first))

  module _ (single : IsNever (DrivesAgain (wires_of flat))) where
    no_again : IsNever (DrivesAgain (named_wires (name_at flat.names) (wires_of flat)))
    no_again = never_again (name_at flat.names) (length flat.names) inj (wires_of flat) below single

    pub told_undriven : (n : ℕ) (name : List ℕ) → slice_get flat.names n ≡ Some name → IsFirst (ReadsUndriven (wires_of flat)) n → IsTold flat (fault.Undriven name)
    told_undriven n name at first =
        told (fault.Undriven name) (no_again, subst (λ p. IsFirst (ReadsUndriven (named_wires (name_at flat.names) (wires_of flat))) p) (name_is flat.names n name at) (first_undriven (name_at flat.names) (length flat.names) inj (wires_of flat) below n first))

    module _ (driven : IsNever (ReadsUndriven (wires_of flat))) where
      no_undriven : IsNever (ReadsUndriven (named_wires (name_at flat.names) (wires_of flat)))
      no_undriven = never_undriven (name_at flat.names) (length flat.names) inj (wires_of flat) below driven

      pub told_clocks : (n : ℕ) (name : List ℕ) → slice_get flat.names n ≡ Some name → IsFirst (OtherClock (wires_of flat)) n → IsTold flat (fault.TwoClocks name)
      told_clocks n name at first =
          told (fault.TwoClocks name) (no_again, no_undriven, subst (λ p. IsFirst (OtherClock (named_wires (name_at flat.names) (wires_of flat))) p) (name_is flat.names n name at) (first_other (name_at flat.names) (length flat.names) inj (wires_of flat) below n first))

      module _ (one_clock : IsNever (OtherClock (wires_of flat))) where
        no_clocks : IsNever (OtherClock (named_wires (name_at flat.names) (wires_of flat)))
        no_clocks = never_other (name_at flat.names) (length flat.names) inj (wires_of flat) below one_clock

        pub told_edges : (n : ℕ) (name : List ℕ) → slice_get flat.names n ≡ Some name → IsFirst (OtherEdge (wires_of flat)) n → IsTold flat (fault.TwoEdges name)
        told_edges n name at first =
            told (fault.TwoEdges name) (no_again, no_undriven, no_clocks, subst (λ p. IsFirst (OtherEdge (named_wires (name_at flat.names) (wires_of flat))) p) (name_is flat.names n name at) (first_edge (name_at flat.names) (length flat.names) inj (wires_of flat) below n first))

        module _ (one_edge : IsNever (OtherEdge (wires_of flat))) where
          no_edges : IsNever (OtherEdge (named_wires (name_at flat.names) (wires_of flat)))
          no_edges = never_edge (name_at flat.names) (length flat.names) inj (wires_of flat) below one_edge

          pub told_gated : (n : ℕ) (name : List ℕ) → slice_get flat.names n ≡ Some name → IsGatedClock (wires_of flat) n → IsTold flat (fault.GatedClock name)
          told_gated n name at g =
              told (fault.GatedClock name) (no_again, no_undriven, no_clocks, no_edges, subst (λ p. IsGatedClock (named_wires (name_at flat.names) (wires_of flat)) p) (name_is flat.names n name at) (gated_there (name_at flat.names) (length flat.names) inj (wires_of flat) below n g))

          pub told_read : ((n : ℕ) → IsGatedClock (wires_of flat) n → ⊥) → (n : ℕ) (name : List ℕ) → slice_get flat.names n ≡ Some name → IsFirst (ClockRead (wires_of flat)) n → IsTold flat (fault.ClockRead name)
          told_read ungated n name at first =
              told (fault.ClockRead name) (
                no_again,
                no_undriven,
                no_clocks,
                no_edges,
                never_gated (name_at flat.names) (length flat.names) inj (wires_of flat) below ungated,
                subst (λ p. IsFirst (ClockRead (named_wires (name_at flat.names) (wires_of flat))) p) (name_is flat.names n name at) (first_read (name_at flat.names) (length flat.names) inj (wires_of flat) below n first),
              )

  -- without a fault none is told
  no_first : (w : Wiring (List ℕ)) → HasNoWireFault w → (e : FlatError) → FirstFault w e → ⊥
  no_first w free (fault.TwoDrivers p) h = free.single h.at p h.here
  no_first w free (fault.Undriven p) h = free.driven h.1.at p h.1.here
  no_first w free (fault.TwoClocks p) h = free.one_clock h.2.at p h.2.here
  no_first w free (fault.TwoEdges p) h = free.one_edge h.3.at p h.3.here
  no_first w free (fault.GatedClock p) h = free.not_gated p h.4
  no_first w free (fault.ClockRead p) h = free.not_read h.5.at p h.5.here
  no_first w free other h = h

  pub faultless : HasNoWireFault (wires_of flat) → IsFaultless flat
  faultless free models e h =
      no_first (named_wires (name_at flat.names) (wires_of flat)) record {
        single = never_again (name_at flat.names) (length flat.names) inj (wires_of flat) below free.single;
        driven = never_undriven (name_at flat.names) (length flat.names) inj (wires_of flat) below free.driven;
        one_clock = never_other (name_at flat.names) (length flat.names) inj (wires_of flat) below free.one_clock;
        one_edge = never_edge (name_at flat.names) (length flat.names) inj (wires_of flat) below free.one_edge;
        not_gated = never_gated (name_at flat.names) (length flat.names) inj (wires_of flat) below free.not_gated;
        not_read = never_read (name_at flat.names) (length flat.names) inj (wires_of flat) below free.not_read;
      } e (subst (λ w. FirstFault w e) (wiring_by_names models flat (name_at flat.names)) h)
