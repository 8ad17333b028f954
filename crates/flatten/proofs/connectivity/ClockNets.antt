-- The clock net and its readers, by the tables of drivers and nets.
use Rattle.std.proofs.Common.{◌≡◌, ◌∙◌, ◌<◌, ℕ, List, [], ◌∷◌, ◌++◌, length, map, take, slice_get, Option, Some, None, refl, sym, ap, subst, inl, inr, arith}
use Rattle.std.specs.Prelude.{◌⊎◌, slice_index}
use Rattle.std.specs.List.{All, Contains}
use Rattle.std.proofs.lemmas.List.Elements.{All-contains, Contains-append_left, Contains-append_right, Contains-append_cases}
use Rattle.std.proofs.lemmas.Option.{none-some, same_Some, slice_get-get_or}
use Rattle.circuit_theory.proofs.Lists.{Contains-map_from, All-from_each, at_of, of_at}
use Rattle.elaborate.specs.declared.flat.Flat.{Flat}
use Rattle.elaborate.specs.declared.flat.FlatStatement.{FlatStatement}
use Rattle.elaborate.specs.declared.flat.FlatKind.TheVariants as kind
use Rattle.sec_base.specs.declared.basics.Edge.{Edge}
use Rattle.flatten.specs.declared.connectivity.source.Source.{Source}
use Rattle.flatten.specs.declared.connectivity.source.Source.TheVariants as source
use Rattle.flatten.specs.connectivity.Wiring.{Wiring, TypedLatch, Cell, wires_of}
use Rattle.flatten.specs.connectivity.Events.{IsFirst, IsNever, IsAt}
use Rattle.flatten.specs.connectivity.Faults.{driven, DrivesAgain, IsUndriven, ReadsUndriven, Follows, HasNet, clock_signals, HasClockNet, IsClockNet, OtherClock, HasOtherEdge, OtherEdge, IsGatedClock, output_cell, readers, ReadsClockNet, ClockRead, HasNoWireFault}
use Rattle.flatten.specs.connectivity.Tables.{IsSource, AreNets}
use Rattle.flatten.specs.connectivity.Clocks.{NetIsAt, AreOneNet, OtherNet, ReadsNet}
use Rattle.flatten.specs.connectivity.Wired.{IsClockOf}
use Rattle.flatten.specs.connectivity.Solid.{IsSolid}
use Rattle.flatten.specs.connectivity.Steps.{other_side}
use Rattle.flatten.proofs.connectivity.Firsts.{first_along, never_along, meant_first, meant_never, first_append_left, first_append_right, first_one}
use Rattle.flatten.proofs.connectivity.Bounds.{IsBounded, only}
use Rattle.flatten.proofs.connectivity.PortTables.{out_at, statement_at, port_there}
use Rattle.flatten.proofs.connectivity.Rows.{cell_there, cell_statement, control_read, from_read}
use Rattle.flatten.proofs.connectivity.ClockTables.{HaveEdge, one_never}
use Rattle.flatten.proofs.connectivity.Joined.{slice_get-append}

module _ (w : Wiring ℕ) (size : ℕ) (below : IsBounded w size) (nets : List (Option ℕ)) (are : AreNets w size nets) where
  clock_below : (i n : ℕ) → slice_get (clock_signals w) i ≡ Some n → n < size
  clock_below i n h = by (Contains-append_cases w.clocks w.controls n (of_at (clock_signals w) i n h))
    where
      by : Contains w.clocks n ⊎ Contains w.controls n → n < size
      by (inl k) = below.clocks n k
      by (inr k) = below.controls n k

  pub clocks_below : All (λ n. n < size) (clock_signals w)
  clocks_below = All-from_each (λ n. n < size) (clock_signals w) (λ n h. let at = at_of (clock_signals w) n h in clock_below at.0 n at.1)

  pub net_there : (i net : ℕ) → NetIsAt nets (clock_signals w) i net → HasClockNet w i net
  net_there i net h = record { signal = h.signal; here = h.here; leads = are.net h.signal net h.leads }

  pub net_back : (i net : ℕ) → HasClockNet w i net → NetIsAt nets (clock_signals w) i net
  net_back i net h = record { signal = h.signal; here = h.here; leads = are.all h.signal net (clock_below i h.signal h.here) h.leads }

  other_there : (i n : ℕ) → OtherNet nets (clock_signals w) i n → OtherClock w i n
  other_there i n o = record { own = net_there i n o.own; earlier = o.earlier; other = o.other; before = o.before; theirs = net_there o.earlier o.other o.theirs; apart = o.apart }

  other_back : (i n : ℕ) → OtherClock w i n → (m : ℕ) × OtherNet nets (clock_signals w) i m
  other_back i n o = (n, record { own = net_back i n o.own; earlier = o.earlier; other = o.other; before = o.before; theirs = net_back o.earlier o.other o.theirs; apart = o.apart })

  pub first_other_clock : (n : ℕ) → IsFirst (OtherNet nets (clock_signals w)) n → IsFirst (OtherClock w) n
  first_other_clock n = first_along (OtherNet nets (clock_signals w)) (OtherClock w) (λ m. m) other_there other_back n

  pub never_other_clock : (clock : Option ℕ) → AreOneNet nets (clock_signals w) clock → IsNever (OtherClock w)
  never_other_clock clock one = never_along (OtherNet nets (clock_signals w)) (OtherClock w) other_back (one_never nets (clock_signals w) clock one)

  pub clock_is : (clock : Option ℕ) → AreOneNet nets (clock_signals w) clock → IsClockOf w clock
  clock_is None one = λ i net h. one i net (net_back i net h)
  clock_is (Some clock) one = ((one.0.0, net_there one.0.0 clock one.0.1), λ i net h. one.1 i net (net_back i net h))

  -- the readers of the one clock net
  module _ (clock : ℕ) (is : IsClockOf w (Some clock)) where
    reads_there : (i : ℕ) (c : Cell ℕ) → slice_get (readers w) i ≡ Some c → ReadsNet nets clock c.reads → ReadsClockNet w c
    reads_there i c here h = record { signal = h.0; net = clock; reads = h.1; leads = are.net h.0 clock h.2; clock = is.0 }

    readers_below : (c : Cell ℕ) → Contains (readers w) c → (n : ℕ) → Contains c.reads n → n < size
    readers_below c h n at = by (Contains-append_cases w.cells (map output_cell w.outputs) c h)
      where
        by : Contains w.cells c ⊎ Contains (map output_cell w.outputs) c → n < size
        by (inl k) = (below.cells c k).1 n at
        by (inr k) =
            let old = Contains-map_from (output_cell {P = ℕ}) w.outputs c k in
            let there : Contains (old.0 ∷ []) n = subst (λ (r : Cell ℕ). Contains r.reads n) (sym old.2) at in
            subst (λ m. m < size) (only old.0 n there) (below.outputs old.0 old.1)

    reads_back : (i : ℕ) (c : Cell ℕ) → slice_get (readers w) i ≡ Some c → ReadsClockNet w c → ReadsNet nets clock c.reads
    reads_back i c here r =
        let same : r.net ≡ clock = is.1 r.clock.0 r.net r.clock.1 in
        (r.signal, r.reads, are.all r.signal clock (readers_below c (of_at (readers w) i c here) r.signal r.reads) (subst (λ m. HasNet w r.signal m) same r.leads))

    pub first_clock_read : (n : ℕ) → IsFirst (IsAt (readers w) (λ (c : Cell ℕ). c.out) (λ c. ReadsNet nets clock c.reads)) n → IsFirst (ClockRead w) n
    first_clock_read n = meant_first (readers w) (λ (c : Cell ℕ). c.out) (λ c. ReadsNet nets clock c.reads) (ReadsClockNet w) reads_there reads_back n

    pub never_clock_read : IsNever (IsAt (readers w) (λ (c : Cell ℕ). c.out) (λ c. ReadsNet nets clock c.reads)) → IsNever (ClockRead w)
    never_clock_read = meant_never (readers w) (λ (c : Cell ℕ). c.out) (λ c. ReadsNet nets clock c.reads) (ReadsClockNet w) reads_back

-- a clock net that a statement drives is a gate's or a latch's
module _ (flat : Flat) (solid : IsSolid flat) where
  pub gated_from : (i clock : ℕ) → slice_get (wires_of flat).outs i ≡ Some clock → IsClockNet (wires_of flat) clock → IsGatedClock (wires_of flat) clock
  gated_from i clock here is =
      let at = statement_at flat i clock here in
      let own = cell_there flat i at.0 at.1 (no_port i at.0 at.1 at.2) in
      record { clock = is; cell = own.0; there = own.1; drives = own.2 ∙ at.2 }
    where
      no_port : (j : ℕ) (s : FlatStatement) → slice_get flat.statements j ≡ Some s → s.out ≡ clock → s.kind ≡ kind.Port → ⊥
      no_port j s here out port =
          let side : other_side s.reads s.kind ≡ Some (slice_index s.reads 0) = ap (other_side s.reads) port in
          let p = port_there flat j s (slice_index s.reads 0) here (All-contains (λ (t : FlatStatement). t.kind ≡ kind.Port → length t.reads ≡ 1) flat.statements s solid.ports (of_at flat.statements j s here)) side in
          is.1.leads.ends (slice_index s.reads 0) (subst (λ m. Contains (wires_of flat).ports (record { out = m; from = slice_index s.reads 0 })) out p)

  gated_statement : (p : ℕ) → IsGatedClock (wires_of flat) p → (i : ℕ) × (slice_get (wires_of flat).outs i ≡ Some p)
  gated_statement p g =
      let own = cell_statement flat g.cell g.there in
      (own.0, out_at flat own.0 own.1 own.2 ∙ ap Some (sym own.3 ∙ g.drives))

  -- a clock net that a table gives another source isn't gated
  pub not_gated : IsNever (DrivesAgain (wires_of flat)) → (clock : ℕ) (s : Source) → IsClockOf (wires_of flat) (Some clock) → IsSource ((wires_of flat).inputs ++ (wires_of flat).clocks) (wires_of flat).outs clock s →
      ((i : ℕ) → s ≡ source.Statement i → ⊥) → (p : ℕ) → IsGatedClock (wires_of flat) p → ⊥
  not_gated never clock s is own free p g =
      let at = gated_statement p g in
      let same : p ≡ clock = is.1 g.clock.0 p g.clock.1 in
      by s own free at.0 (at.1 ∙ ap Some same)
    where
      by : (r : Source) → IsSource ((wires_of flat).inputs ++ (wires_of flat).clocks) (wires_of flat).outs clock r → ((i : ℕ) → r ≡ source.Statement i → ⊥) → (i : ℕ) → slice_get (wires_of flat).outs i ≡ Some clock → ⊥
      by source.Open none free i here = none (Contains-append_right ((wires_of flat).inputs ++ (wires_of flat).clocks) (wires_of flat).outs clock (of_at (wires_of flat).outs i clock here))
      by source.Input main free i here = never i clock (record { drives = here; before = Contains-append_left ((wires_of flat).inputs ++ (wires_of flat).clocks) (take i (wires_of flat).outs) clock main })
      by (source.Statement j) own free i here = free j refl

  -- without a clock nothing is gated or read as a clock
  pub none_gated : IsClockOf (wires_of flat) None → (p : ℕ) → IsGatedClock (wires_of flat) p → ⊥
  none_gated none p g = none g.clock.0 p g.clock.1

  pub none_read : IsClockOf (wires_of flat) None → IsNever (ClockRead (wires_of flat))
  none_read none i p e = none e.meant.clock.0 e.meant.net e.meant.clock.1

  -- where all that is read is driven, the clock net is
  read_driven : IsNever (ReadsUndriven (wires_of flat)) → (n : ℕ) → Contains (wires_of flat).reads n → IsUndriven (wires_of flat) n → ⊥
  read_driven never n h none =
      let at = at_of (wires_of flat).reads n h in
      never at.0 n (record { item = n; here = slice_get-append (wires_of flat).reads (wires_of flat).outputs at.0 n at.1; meant = none; called = refl })

  one_read : (s : FlatStatement) → Contains flat.statements s → s.kind ≡ kind.Port → Contains s.reads (slice_index s.reads 0)
  one_read s h port =
      let len : length s.reads ≡ 1 = All-contains (λ (t : FlatStatement). t.kind ≡ kind.Port → length t.reads ≡ 1) flat.statements s solid.ports h port in
      of_at s.reads 0 (slice_index s.reads 0) (slice_get-get_or s.reads 0 0 (omega (arith, len)))

  follows_driven : IsNever (ReadsUndriven (wires_of flat)) → {p q : ℕ} → Follows (wires_of flat) p q → (IsUndriven (wires_of flat) p → ⊥) → IsUndriven (wires_of flat) q → ⊥
  follows_driven never (Follows.here {p = p}) driven none = driven none
  follows_driven never (Follows.there {p = p} {from = m} {q = q} at rest) driven none =
      follows_driven never rest (read_driven never m (from_read flat (record { out = p; from = m }) one_read at)) none

  clock_driven : IsNever (ReadsUndriven (wires_of flat)) → (i n : ℕ) → slice_get (clock_signals (wires_of flat)) i ≡ Some n → IsUndriven (wires_of flat) n → ⊥
  clock_driven never i n here none = by (Contains-append_cases (wires_of flat).clocks (wires_of flat).controls n (of_at (clock_signals (wires_of flat)) i n here))
    where
      by : Contains (wires_of flat).clocks n ⊎ Contains (wires_of flat).controls n → ⊥
      by (inl k) = none (Contains-append_left ((wires_of flat).inputs ++ (wires_of flat).clocks) (wires_of flat).outs n (Contains-append_right (wires_of flat).inputs (wires_of flat).clocks n k))
      by (inr k) = read_driven never n (control_read flat n k) none

  pub clock_main : HasNoWireFault (wires_of flat) → (clock : ℕ) (s : Source) → IsClockOf (wires_of flat) (Some clock) → IsSource ((wires_of flat).inputs ++ (wires_of flat).clocks) (wires_of flat).outs clock s →
      Contains ((wires_of flat).inputs ++ (wires_of flat).clocks) clock
  clock_main free clock source.Open is own =
      absurd (follows_driven free.driven is.0.1.leads.follows (clock_driven free.driven is.0.0 is.0.1.signal is.0.1.here) own)
  clock_main free clock source.Input is own = own
  clock_main free clock (source.Statement i) is own = absurd (free.not_gated clock (gated_from i clock own is.0))

-- edges
module _ (w : Wiring ℕ) where
  pub never_other_edge : (first : Option Edge) → HaveEdge w.typed first → IsNever (OtherEdge w)
  never_other_edge None none i p e = none-some e.item (subst (λ zs. slice_get zs i ≡ Some e.item) none e.here)
  never_other_edge (Some edge) have i p e = e.meant.apart (have.1 i e.item e.here ∙ sym (have.1 0 e.meant.first e.meant.is_first))

  pub first_other_edge : (before rest : List (TypedLatch ℕ)) (l : TypedLatch ℕ) (edge : Edge) → w.typed ≡ (before ++ l ∷ []) ++ rest → HaveEdge before (Some edge) → (edge ≡ l.edge → ⊥) → IsFirst (OtherEdge w) l.out
  first_other_edge before rest l edge is have apart =
      subst (λ zs. IsFirst (IsAt zs (λ (k : TypedLatch ℕ). k.out) (HasOtherEdge w)) l.out) (sym is)
      (first_append_left (λ (k : TypedLatch ℕ). k.out) (HasOtherEdge w) (before ++ l ∷ []) rest l.out
      (first_append_right (λ (k : TypedLatch ℕ). k.out) (HasOtherEdge w) before (l ∷ []) l.out never (first_one (λ (k : TypedLatch ℕ). k.out) (HasOtherEdge w) l other)))
    where
      zeroth : slice_get w.typed 0 ≡ Some have.0.0
      zeroth = subst (λ zs. slice_get zs 0 ≡ Some have.0.0) (sym is) (slice_get-append (before ++ l ∷ []) rest 0 have.0.0 (slice_get-append before (l ∷ []) 0 have.0.0 have.0.1))

      never : IsNever (IsAt before (λ (k : TypedLatch ℕ). k.out) (HasOtherEdge w))
      never i p e =
          let same : e.meant.first ≡ have.0.0 = same_Some e.meant.first have.0.0 (sym e.meant.is_first ∙ zeroth) in
          e.meant.apart (have.1 i e.item e.here ∙ sym have.0.2 ∙ sym (ap (λ (k : TypedLatch ℕ). k.edge) same))

      other : HasOtherEdge w l
      other = record { first = have.0.0; is_first = zeroth; apart = λ e. apart (sym have.0.2 ∙ sym e) }
