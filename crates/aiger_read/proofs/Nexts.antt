-- What latches take over: one after another is set.
use Rattle.std.proofs.Common.{◌≡◌, ℕ, zero, suc, ◌+◌, ◌^◌, ◌<◌, Bool, true, List, [], ◌∷◌, ◌++◌, map, length, take, drop, set, replicate, slice_get, Some, refl, sym, ◌∙◌, ap, subst, arith}
use Rattle.std.specs.List.{All, Contains, filter}
use Rattle.std.proofs.lemmas.List.{map-append, length-append, length-map}
use Rattle.std.proofs.lemmas.List.Elements.{All-contains}
use Rattle.std.proofs.lemmas.Option.{none-some, same_Some, slice_get_within, slice_get-get_or}
use Rattle.circuit_theory.proofs.Lists.{Contains-head, at_of}
use Rattle.base_tables.proofs.TableLemmas.{key_at}
use Rattle.flat_net.specs.declared.signals.Signal.{Signal}
use Rattle.flat_net.specs.declared.parts.LatchAt.{LatchAt}
use Rattle.flat_net.specs.declared.parts.Driver.TheVariants as driver
use Rattle.flat_net.specs.View.{NetView}
use Rattle.flat_net.specs.Sound.{IsSound}
use Rattle.flat_net.specs.Makes.{MakerView, next_set, with_next}
use Rattle.aiger_read.specs.aiger_file.aiger_graph.net_assembly.Shown.{with_nexts}
use Rattle.aiger_read.proofs.aiger_file.aiger_graph.net_assembly.Nexts.{next_more, set_more, all_set}
use Rattle.aiger_read.specs.declared.aiger_records.record.Record.{Record}
use Rattle.aiger_read.specs.declared.aiger_records.record.Record.TheVariants.{Output, Latch}
use Rattle.aiger_read.specs.aiger_records.Driven.{used_by}
use Rattle.aiger_read.specs.declared.aiger_file.symbol.Named.{Named}
use Rattle.aiger_read.specs.aiger_file.Names.{name_of}
use Rattle.aiger_read.specs.declared.aiger_file.file.AigerFile.{AigerFile}
use Rattle.aiger_read.specs.aiger_file.aiger_graph.Circuit.{LatchLine, ports_from, latch_of, output_of, input_literals, output_literals, latches_in}
use Rattle.aiger_read.specs.SignalNames.{latch_literals, init_of}
use Rattle.aiger_read.specs.Signals.{is_gate, all_literals, literal_at}
use Rattle.aiger_read.specs.Made.{IsPlan, HasOutputs, LatchHead, heads_from, head_at, signal_at, nexts_of}
use Rattle.aiger_read.proofs.LiteralLists.{kept_at, driven_in, used_driven, used_there}
use Rattle.aiger_read.proofs.Making.{size, fine, each, all_low, signal_is, source_count}

no_nexts : (ls : List LatchAt) → with_nexts ls [] ≡ ls
no_nexts [] = refl
no_nexts (l ∷ ls) = refl

-- these first latches have what they take over
pub record HasNexts (signals : List Signal) (lats : List LatchLine) (before after : MakerView) : Type 0 where
  pub net : after.net ≡ record before.net { latches = with_nexts before.net.latches (nexts_of signals lats) }
  pub set : after.set ≡ replicate (length lats) true ++ drop (length lats) before.set

pub nexts_start : (signals : List Signal) (maker : MakerView) → HasNexts signals [] maker maker
nexts_start signals maker = record { net = ap (λ (ls : List LatchAt). record maker.net { latches = ls }) (sym (no_nexts maker.net.latches)); set = refl }

pub nexts_more : (signals : List Signal) (lats : List LatchLine) (l : LatchLine) (before after after' : MakerView) (source : Signal) → HasNexts signals lats before after → length lats < length before.net.latches → length before.set ≡ length before.net.latches →
    source ≡ signal_at signals l.next → after' ≡ record { net = with_next after.net (length lats) source; set = set after.set (length lats) true } → HasNexts signals (lats ++ l ∷ []) before after'
nexts_more signals lats l before after after' source has room marks source_is is =
    let count : length (nexts_of signals lats) ≡ length lats = length-map lats (λ (x : LatchLine). signal_at signals x.next) in
    record {
      net = ap (λ (m : MakerView). m.net) is ∙ ap (λ (n : NetView). with_next n (length lats) source) has.net
          ∙ ap (λ (ls : List LatchAt). record before.net { latches = ls })
          (ap (λ (k : ℕ). next_set (with_nexts before.net.latches (nexts_of signals lats)) k source) (sym count)
          ∙ next_more before.net.latches (nexts_of signals lats) source (omega (arith, room, count))
          ∙ ap (λ (ns : List Signal). with_nexts before.net.latches ns) (ap (λ (d : Signal). nexts_of signals lats ++ d ∷ []) source_is ∙ sym (map-append (λ (x : LatchLine). signal_at signals x.next) lats (l ∷ []))));
      set = ap (λ (m : MakerView). m.set) is ∙ ap (λ (ms : List Bool). set ms (length lats) true) has.set ∙ set_more (length lats) before.set (omega (arith, room, marks))
          ∙ ap (λ (k : ℕ). replicate k true ++ drop k before.set) (let e : suc (length lats) ≡ length (lats ++ l ∷ []) = (let k = length-append lats (l ∷ []) in omega (arith, k)) in e);
    }

pub heads_at : (symbols : Named) (k : ℕ) (ls : List LatchLine) (j : ℕ) (l : LatchLine) → slice_get ls j ≡ Some l → (h : LatchHead) × (slice_get (heads_from symbols k ls) j ≡ Some h) × (h.literal ≡ l.literal)
heads_at symbols k [] j l at = absurd (none-some l at)
heads_at symbols k (m ∷ ls) zero l at = (record { name = name_of symbols 108 k; literal = m.literal; init = init_of m.reset }, refl, ap (λ (x : LatchLine). x.literal) (same_Some m l at))
heads_at symbols k (m ∷ ls) (suc j) l at = heads_at symbols (k + 1) ls j l at

pub heads_count : (symbols : Named) (k : ℕ) (ls : List LatchLine) → length (heads_from symbols k ls) ≡ length ls
heads_count symbols k [] = refl
heads_count symbols k (l ∷ ls) = ap suc (heads_count symbols (k + 1) ls)

module _ (f : AigerFile) (graph : List (List ℕ)) (order : List ℕ) (plan : IsPlan f graph order) (outs : List ℕ) (net : NetView) (signals : List Signal) (made : HasOutputs f order outs net signals) where
  -- all literals have signals
  pub full : length net.drivers ≡ length (all_literals f.records order)
  full = let a = source_count f graph order plan in let b = length-append (input_literals f.records ++ latch_literals f.records) (filter (is_gate f.records) order) in omega (arith, made.count, a, b)

  -- a literal of the net, its signal, and back
  pub spot_of : (l : ℕ) → Contains (all_literals f.records order) l → (s : ℕ) × (slice_get (all_literals f.records order) s ≡ Some l) × (s < length net.drivers) × (signal_at signals l ≡ record { 0 = s })
  spot_of l h =
      let at = at_of (all_literals f.records order) l h in
      let within = slice_get_within (all_literals f.records order) at.0 l at.1 in
      let low : at.0 < length net.drivers = omega (arith, within, full) in
      (at.0, at.1, low, signal_is f graph order plan net signals at.0 l made.placed low at.1)

  pub back_of : (s : ℕ) → s < length net.drivers → signal_at signals (literal_at (all_literals f.records order) s) ≡ record { 0 = s }
  back_of s low = signal_is f graph order plan net signals s (literal_at (all_literals f.records order) s) made.placed low (slice_get-get_or (all_literals f.records order) s 0 (omega (arith, low, full)))

  pub used_in : (j u : ℕ) (r : Record) → slice_get f.records j ≡ Some r → Contains (used_by r) u → Contains (all_literals f.records order) u
  used_in j u r at h =
      driven_in (size f graph order plan) f.records plan.kept.once (fine f graph order plan) order u (used_driven f.records plan.faultless.driven j u r at h) (λ odd. used_there f.records j u r at h)
      (λ gate. each f graph order plan u (All-contains (λ u. u < size f graph order plan) (used_by r) u (fine f graph order plan j r at).used h))

  -- the literal of an output, and what a latch takes over
  pub output_spot : (k l : ℕ) → slice_get f.records k ≡ Some (Output l) → (s : ℕ) × (slice_get (all_literals f.records order) s ≡ Some l) × (s < length net.drivers) × (signal_at signals l ≡ record { 0 = s })
  output_spot k l at = spot_of l (used_in k l (Output l) at (Contains-head l []))

  pub output_low : (k l : ℕ) → slice_get f.records k ≡ Some (Output l) → l < length signals
  output_low k l at = let low = all_low f graph order plan l (used_in k l (Output l) at (Contains-head l [])) in omega (arith, low, made.size)

  pub next_spot : (k : ℕ) (l : LatchLine) → slice_get f.records k ≡ Some (Latch l.literal l.next l.reset) → (signal_at signals l.next).0 < length net.drivers
  next_spot k l at = let x = spot_of l.next (used_in k l.next (Latch l.literal l.next l.reset) at (Contains-head l.next [])) in subst (λ (g : Signal). g.0 < length net.drivers) (sym x.3) x.2

  pub next_below : (k : ℕ) (l : LatchLine) → slice_get f.records k ≡ Some (Latch l.literal l.next l.reset) → l.next < length signals
  next_below k l at = let low = all_low f graph order plan l.next (used_in k l.next (Latch l.literal l.next l.reset) at (Contains-head l.next [])) in omega (arith, low, made.size)

  pub latch_below : (k : ℕ) (l : LatchLine) → slice_get f.records k ≡ Some (Latch l.literal l.next l.reset) → l.literal < length signals
  latch_below k l at = let low = (fine f graph order plan k (Latch l.literal l.next l.reset) at).low l.literal refl in omega (arith, low, made.size)

  module _ (sound : IsSound net) (k : ℕ) (l : LatchLine) (at : slice_get f.records k ≡ Some (Latch l.literal l.next l.reset)) where
    -- the latch at its place
    latch_there : (x : LatchAt) × (slice_get net.latches (length (latches_in (take k f.records))) ≡ Some x) × (signal_at signals l.literal ≡ x.out)
    latch_there =
        let j = length (latches_in (take k f.records)) in
        let line = kept_at latch_of f.records k (Latch l.literal l.next l.reset) l at refl in
        let head = heads_at f.symbols 0 (latches_in f.records) j l line in
        let x = key_at (head_at (all_literals f.records order)) net.latches j head.0 (ap (λ (hs : List LatchHead). slice_get hs j) made.latches ∙ head.1) in
        let owner = (sound.latches j x.0 x.1).owner in
        let low = slice_get_within net.drivers x.0.out.0 (driver.Latch j) owner in
        let own : literal_at (all_literals f.records order) x.0.out.0 ≡ l.literal = ap (λ (h : LatchHead). h.literal) x.2 ∙ head.2 in
        (x.0, x.1, ap (signal_at signals) (sym own) ∙ back_of x.0.out.0 low)

    pub latch_driver : slice_get net.drivers (signal_at signals l.literal).0 ≡ Some (driver.Latch (length (latches_in (take k f.records))))
    latch_driver = ap (λ (s : Signal). slice_get net.drivers s.0) latch_there.2 ∙ (sound.latches (length (latches_in (take k f.records))) latch_there.0 latch_there.1).owner

    pub latch_low : length (latches_in (take k f.records)) < length net.latches
    latch_low = slice_get_within net.latches (length (latches_in (take k f.records))) latch_there.0 latch_there.1

-- there are few outputs
ports_count : (symbols : Named) (letter k : ℕ) (ls : List ℕ) → length (ports_from symbols letter k ls) ≡ length ls
ports_count symbols letter k [] = refl
ports_count symbols letter k (l ∷ ls) = ap suc (ports_count symbols letter (k + 1) ls)

pub output_few : (f : AigerFile) (graph : List (List ℕ)) (order : List ℕ) → IsPlan f graph order → (k l : ℕ) → slice_get f.records k ≡ Some (Output l) → length (output_literals (take k f.records)) < 2 ^ 22
output_few f graph order plan k l at =
    let low = slice_get_within (output_literals f.records) (length (output_literals (take k f.records))) l (kept_at output_of f.records k (Output l) l at refl) in
    let count = ports_count f.symbols 111 0 (output_literals f.records) in
    omega (arith, low, count, plan.faultless.few)

-- in the end each next is set
pub nexts_done : (symbols : Named) (lits : List ℕ) (lats : List LatchLine) (before after : MakerView) (signals : List Signal) → HasNexts signals lats before after → length before.set ≡ length before.net.latches →
    map (head_at lits) before.net.latches ≡ heads_from symbols 0 lats → All (λ (b : Bool). b ≡ true) after.set
nexts_done symbols lits lats before after signals has marks heads =
    let count : length before.set ≡ length lats = marks ∙ sym (length-map before.net.latches (head_at lits)) ∙ ap length heads ∙ heads_count symbols 0 lats in
    subst (All (λ (b : Bool). b ≡ true)) (sym has.set) (all_set (length lats) before.set count)
