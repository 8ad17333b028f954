-- The unfoldings of a pair are light: at most four shifts of each signal are visited, and each weighs at most 7.
use Rattle.std.proofs.Common.{◌≡◌, ◌≢◌, ◌+◌, ◌*◌, ◌/◌, ◌%◌, ◌<◌, ◌≤◌, ◌∙◌, max, ℕ, Bool, true, false, List, [], ◌∷◌, length, map, get_or, sym, ap, subst, arith, inl, inr, Option, Some, slice_get}
use Rattle.std.specs.Prelude.{◌⊎◌, unwrap_or}
use Rattle.std.specs.List.{Contains, All, AllPairs, sum_by}
use Rattle.std.proofs.lemmas.List.{length-map, append-nil}
use Rattle.std.proofs.lemmas.List.Elements.{All-contains}
use Rattle.std.proofs.lemmas.List.Sums.{sum_by-cons}
use Rattle.std.proofs.lemmas.Option.{slice_get_within, slice_get-get_or, same_Some}
use Rattle.circuit_theory.specs.Cover.{Cover}
use Rattle.circuit_theory.specs.Agree.{cut, is_kept}
use Rattle.circuit_theory.specs.Circuit.{Circuit, Equation, Gate as gate_equation, Latch as latch_equation, Port as port_equation, Named, Reads}
use Rattle.circuit_theory.specs.Sizes.{Visits, WeighsAt, Weighed}
use Rattle.circuit_theory.specs.declared.Side.{Side}
use Rattle.circuit_theory.specs.declared.Side.TheVariants.{A, B}
use Rattle.circuit_theory.proofs.Lists.{Contains-head, Contains-tail, Contains-filter, Contains-map_from, at_of, of_at}
use Rattle.circuit_theory.proofs.Numbers.{distinct_at}
use Rattle.base_tables.specs.Table.{AreDistinct}
use Rattle.base_tables.proofs.TableLemmas.{key_at}
use Rattle.flat_net.specs.declared.signals.Signal.{Signal}
use Rattle.flat_net.specs.declared.parts.Port.{Port}
use Rattle.flat_net.specs.declared.parts.Gate.{Gate}
use Rattle.flat_net.specs.View.{NetView, named, circuit_of, cover_of, no_cover}
use Rattle.flat_net.specs.Sound.{IsSound}
use Rattle.flat_net.proofs.Nets.{OfGate, OfLatch, equation_from}
use Rattle.flat_net.proofs.CutNets.{few_distinct}
use Rattle.job_gen.specs.declared.pair_gen.kinds.Kind.{Kind}
use Rattle.job_gen.specs.declared.pair_gen.kinds.Kind.TheVariants.{And, Or, Xor, AndNot}
use Rattle.job_gen.specs.pair_gen.Kinds.{kind_of, rows_of}
use Rattle.job_gen.specs.pair_gen.Cells.{shown_by}
use Rattle.job_gen.specs.pair_gen.Twins.{is_regrouped, IsTwin}
use Rattle.job_gen.proofs.pair_gen.Numbers.{shown_placed}
use Rattle.outcome_fits.specs.Fitting.{cut_outputs, IsCutOver}
use Rattle.job_gen.proofs.gen_meaning.Ranking.{rank, rank_is, reads_down, takes_down, no_port, gate_there, rank_of}

-- each kind has one row or two
few_rows : (circuit : Side) (r : Bool) (kind : Kind) → length (rows_of circuit r kind).rows ≤ 2
few_rows A r And = omega arith
few_rows A r Or = omega arith
few_rows A r Xor = omega arith
few_rows A r AndNot = omega arith
few_rows B r And = omega arith
few_rows B r Or = omega arith
few_rows B false Xor = omega arith
few_rows B true Xor = omega arith
few_rows B r AndNot = omega arith

read_cover : (covers : List Cover) (g : Gate) (c : Cover) → slice_get covers g.cover ≡ Some c → cover_of covers g ≡ c
read_cover covers g c h = ap (λ (o : Option Cover). unwrap_or o no_cover) h

-- one row or two over two fan-ins weigh at most 7
small_weight : (r f : ℕ) → r ≤ 2 → f ≡ 2 → 1 + max 1 r * (f + 1) ≤ 7
small_weight r f hr hf = subst (λ (k : ℕ). 1 + max 1 r * (k + 1) ≤ 7) (sym hf) (omega (arith, hr))

-- what weighs at most 7 each
few_in_all : (xs : List (Weighed ℕ)) → ((x : Weighed ℕ) → Contains xs x → x.weight ≤ 7) → sum_by (λ (x : Weighed ℕ). x.weight) xs ≤ 7 * length xs
few_in_all [] h = omega arith
few_in_all (x ∷ xs) h =
    let first = h x (Contains-head x xs) in
    let rest = few_in_all xs (λ y k. h y (Contains-tail x y xs k)) in
    let both = sum_by-cons (λ (y : Weighed ℕ). y.weight) x xs in
    omega (arith, first, rest, both)

shown_rank : (circuit : Side) (c : ℕ) → rank_of circuit (shown_by circuit c) ≤ 3
shown_rank A c = omega arith
shown_rank B c = omega arith

-- with no latch cut out the equations are those of the circuit, and so are the outputs
kept : (c : Circuit ℕ) (e : Equation ℕ) → Contains (cut [] c).equations e → Contains c.equations e
unfolding cut
kept c e h = Contains-filter (is_kept []) c.equations e h

same_outputs : (c : Circuit ℕ) (p : ℕ) → Contains (cut_outputs [] c) p → Contains (map (λ (o : Named ℕ). o.place) c.outputs) p
unfolding cut
same_outputs c p h = subst (λ (os : List (Named ℕ)). Contains (map (λ (o : Named ℕ). o.place) os) p) (append-nil c.outputs) h

-- a place with its shift, as one number
abbrev code : Weighed ℕ → ℕ
code x = x.place + 5200 * x.shift

module _ (circuit : Side) (regroup : Bool) (words : List ℕ) (net : NetView) (t : IsTwin circuit regroup words net) (sound : IsSound net) where
  abbrev level : ℕ → ℕ
  level = rank circuit regroup words net t sound

  reads_there : {p q : ℕ} → Reads (cut [] (circuit_of net)) p q → Reads (circuit_of net) p q
  reads_there (Reads.by_gate {out = out} {fanins = fanins} {cover = cover} h k) = Reads.by_gate {fanins = fanins} {cover = cover} (kept (circuit_of net) (gate_equation out fanins cover) h) k
  reads_there (Reads.by_port {out = out} {from = from} h) = Reads.by_port (kept (circuit_of net) (port_equation out from) h)

  -- a signal that is read is one of the net
  gate_reads : (out q : ℕ) (fanins : List ℕ) (cover : Cover) → Contains fanins q → OfGate net (gate_equation out fanins cover) ⊎ OfLatch net (gate_equation out fanins cover) → q < 5200
  gate_reads out q fanins cover c (inl g) =
      let is : gate_equation g.gate.out.0 (map (λ (f : Signal). f.0) g.gate.fanins) (cover_of net.covers g.gate) ≡ gate_equation out fanins cover = g.is in
      let fans_are : map (λ (f : Signal). f.0) g.gate.fanins ≡ fanins = cc in
      let f = Contains-map_from (λ (f : Signal). f.0) g.gate.fanins q (subst (λ (fs : List ℕ). Contains fs q) (sym fans_are) c) in
      let own = sound.gates g.j g.gate g.at in
      let above = All-contains (λ (s : Signal). s.0 < g.gate.out.0) g.gate.fanins f.0 own.above f.1 in
      let low = slice_get_within net.drivers g.gate.out.0 _ own.owner in
      let e = f.2 in
      omega (arith, above, low, e, t.signal_count)
  gate_reads out q fanins cover c (inr l) = absurd (let is : latch_equation l.latch.name l.latch.out.0 l.latch.next.0 ≡ gate_equation out fanins cover = l.is in cc)

  latch_takes : (name : List ℕ) (out q : ℕ) → OfGate net (latch_equation name out q) ⊎ OfLatch net (latch_equation name out q) → q < 5200
  latch_takes name out q (inl g) = absurd (let is : gate_equation g.gate.out.0 (map (λ (f : Signal). f.0) g.gate.fanins) (cover_of net.covers g.gate) ≡ latch_equation name out q = g.is in cc)
  latch_takes name out q (inr l) =
      let is : latch_equation l.latch.name l.latch.out.0 l.latch.next.0 ≡ latch_equation name out q = l.is in
      let next_is : l.latch.next.0 ≡ q = cc in
      let within = (sound.latches l.j l.latch l.at).within in
      omega (arith, next_is, within, t.signal_count)

  read_within : {p q : ℕ} → Reads (circuit_of net) p q → q < 5200
  read_within (Reads.by_gate {out = out} {q = q} {fanins = fanins} {cover = cover} h k) = gate_reads out q fanins cover k (equation_from net (gate_equation out fanins cover) h)
  read_within (Reads.by_port {out = out} {from = from} h) = absurd (no_port circuit regroup words net t sound out from (equation_from net (port_equation out from) h))

  -- what is visited is a signal of the net, and the shift rises as the rank falls
  visited : {p k q j : ℕ} → Visits (cut [] (circuit_of net)) p k q j → p < 5200 → (q < 5200) × (level q + j ≤ level p + k)
  visited Visits.itself l = (l, omega arith)
  visited (Visits.reads {q = q} {r = r} v h) l =
      let before = visited v l in
      let down = reads_down circuit regroup words net t sound (reads_there h) in
      (read_within (reads_there h), omega (arith, before.1, down))
  visited (Visits.back {q = q} {next = next} {j = j} {name = name} v h) l =
      let before = visited v l in
      let own = kept (circuit_of net) (latch_equation name q next) h in
      let down = takes_down circuit regroup words net t sound name q next own in
      (latch_takes name q next (equation_from net (latch_equation name q next) own), omega (arith, before.1, down))

  -- an output shows a signal of the net, behind three latches
  output_low : (p : ℕ) → Contains (map (λ (o : Named ℕ). o.place) (circuit_of net).outputs) p → (p < 5200) × (level p ≤ 3)
  output_low p h =
      let o = Contains-map_from (λ (x : Named ℕ). x.place) (circuit_of net).outputs p h in
      let port = Contains-map_from named net.outputs o.0 o.1 in
      let at = at_of net.outputs port.0 port.1 in
      let low = slice_get_within net.outputs at.0 port.0 at.1 in
      let within : at.0 < 40 = let count = t.output_count in omega (arith, low, count) in
      let has = t.outputs at.0 within in
      let same : has.port.signal.0 ≡ p = ap (λ (x : Port). x.signal.0) (same_Some has.port port.0 (sym has.at ∙ at.1)) ∙ ap (λ (x : Named ℕ). x.place) port.2 ∙ o.2 in
      let level_is = rank_is circuit regroup words net t sound (shown_by circuit at.0) (shown_placed circuit at.0 within) has.port.signal has.shows in
      let few = shown_rank circuit at.0 in
      let inside = All-contains (λ (x : Port). x.signal.0 < length net.drivers) net.outputs port.0 sound.outputs port.1 in
      let place = ap (λ (x : Port). x.signal.0) (same_Some has.port port.0 (sym has.at ∙ at.1)) in
      subst (λ (q : ℕ). (q < 5200) × (level q ≤ 3)) same (omega (arith, inside, place, t.signal_count), omega (arith, level_is, few))

  gate_weighs : (p : ℕ) (fanins : List ℕ) (cover : Cover) → OfGate net (gate_equation p fanins cover) ⊎ OfLatch net (gate_equation p fanins cover) → 1 + max 1 (length cover.rows) * (length fanins + 1) ≤ 7
  gate_weighs p fanins cover (inl g) =
      let is : gate_equation g.gate.out.0 (map (λ (f : Signal). f.0) g.gate.fanins) (cover_of net.covers g.gate) ≡ gate_equation p fanins cover = g.is in
      let fans_are : map (λ (f : Signal). f.0) g.gate.fanins ≡ fanins = cc in
      let cover_is : cover_of net.covers g.gate ≡ cover = cc in
      let there = gate_there circuit regroup words net t sound g.j g.gate g.at in
      let two : length fanins ≡ 2 = ap length (sym fans_are) ∙ length-map g.gate.fanins (λ (f : Signal). f.0) ∙ ap (λ (x : Gate). length x.fanins) there.same ∙ ap length there.has.reads in
      let own = rows_of circuit (is_regrouped regroup (g.j / 1680) (g.j / 40 % 42)) (kind_of there.word) in
      let rows : cover ≡ own = sym cover_is ∙ ap (cover_of net.covers) there.same ∙ read_cover net.covers there.has.gate own there.has.rows in
      let few = few_rows circuit (is_regrouped regroup (g.j / 1680) (g.j / 40 % 42)) (kind_of there.word) in
      let count : length cover.rows ≡ length own.rows = ap (λ (x : Cover). length x.rows) rows in
      small_weight (length cover.rows) (length fanins) (omega (arith, few, count)) two
  gate_weighs p fanins cover (inr l) = absurd (let is : latch_equation l.latch.name l.latch.out.0 l.latch.next.0 ≡ gate_equation p fanins cover = l.is in cc)

  weighs : {p w : ℕ} → WeighsAt (cut [] (circuit_of net)) p w → w ≤ 7
  weighs (WeighsAt.input i) = omega arith
  weighs (WeighsAt.latch l) = omega arith
  weighs (WeighsAt.gate {p = p} {fanins = fanins} {cover = cover} h) = gate_weighs p fanins cover (equation_from net (gate_equation p fanins cover) (kept (circuit_of net) (gate_equation p fanins cover) h))

  -- so the unfoldings of the outputs aren't too large
  pub not_over : IsCutOver [] (circuit_of net) → ⊥
  not_over over =
      let count = few_distinct (map code over.places) 20800 distinct below in
      let many = length-map over.places code in
      let sum = few_in_all over.places (λ x h. weighs (over.weighed x h)) in
      let total = over.total in
      omega (arith, count, many, sum, total)
    where
      low : (x : Weighed ℕ) → Contains over.places x → (x.place < 5200) × (x.shift ≤ 3)
      low x h =
          let m = over.met x h in
          let out = output_low m.0 (same_outputs (circuit_of net) m.0 m.1) in
          let v = visited m.2 out.0 in
          (v.0, omega (arith, v.1, out.1))

      apart : AllPairs (λ x y. code x ≢ code y) over.places
      apart i j d l w e =
          let x = get_or over.places i d in
          let y = get_or over.places j d in
          let first = low x (of_at over.places i x (slice_get-get_or over.places i d (omega (arith, l, w)))) in
          let second = low y (of_at over.places j y (slice_get-get_or over.places j d w)) in
          over.distinct i j d l w (omega (arith, e, first.0, second.0)) (omega (arith, e, first.0, second.0))

      distinct : AreDistinct (map code over.places)
      distinct i j v hi hj =
          let x = key_at code over.places i v hi in
          let y = key_at code over.places j v hj in
          distinct_at code over.places apart i j x.0 y.0 x.1 y.1 (x.2 ∙ sym y.2)

      below : (i s : ℕ) → slice_get (map code over.places) i ≡ Some s → s < 20800
      below i s h =
          let x = key_at code over.places i s h in
          let bound = low x.0 (of_at over.places i x.0 x.1) in
          let e = x.2 in
          omega (arith, bound.0, bound.1, e)
