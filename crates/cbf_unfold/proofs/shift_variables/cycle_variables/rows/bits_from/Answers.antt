-- Each variable's bit is written at its place, if it has one.
use Rattle.std.proofs.Common.{◌≡◌, ◌+◌, ◌<◌, ◌∙◌, ℕ, Bool, false, List, length, map, take, get_or, replicate, sym, ap, arith}
use Rattle.std.proofs.lemmas.List.{take_all, length-replicate, get_or-replicate}
use Rattle.std.proofs.lemmas.Option.{slice_get-get_or}
use Rattle.circuit_theory.specs.Query.{Variable}
use Rattle.pair_decide.specs.Queries.{assigned_to}
use Rattle.cbf_unfold.proofs.shift_variables.Reading.{pair_is}
use Rattle.cbf_unfold.specs.shift_variables.cycle_variables.Cycles.{number_of}
use Rattle.cbf_unfold.proofs.shift_variables.cycle_variables.Writing.{written_next}
use Rattle.cbf_unfold.proofs.shift_variables.cycle_variables.rows.bits_from.Goals as goal

pub loop-k-init : goal.loop-k-init
loop-k-init c =
    let zeros : c.in_ok-made.made.items ≡ replicate c.args.count false = c.in_ok-made.ensures.items_if_clones_equal (λ y e. e) in
    record {
      long = ap length zeros ∙ length-replicate c.args.count false;
      written = λ i h. ap (λ (bs : List Bool). get_or bs i false) zeros ∙ get_or-replicate c.args.count i false false h;
    }

pub loop-k-preserved : goal.loop-k-preserved
loop-k-preserved c =
    let places = c.args.places.now in
    let vars = c.args.vars.now in
    let bits = c.args.bits.now in
    let k = c.loop-k.k in
    let v = get_or vars k 0 in
    let bit = get_or bits k false in
    let also : k < length bits = omega (arith, c.loop-k-test.true, c.requires.each) in
    let own = ap (λ (x : Variable ℕ). x.input) (pair_is places v _ c.pair-number.ensures) in
    record {
      long = c.put_bit.ensures.size ∙ c.loop-k.invariant.long;
      written = λ i h.
          written_next places vars bits c.requires.each c.requires.distinct k v bit (slice_get-get_or vars k 0 c.loop-k-test.true) (slice_get-get_or bits k false also) c.args.from i (get_or c.loop-k.made.items i false) _
          (λ e. c.put_bit.ensures.here i (omega (arith, h, c.loop-k.invariant.long)) (sym own ∙ e)) (λ apart. c.put_bit.ensures.others i (omega (arith, h, c.loop-k.invariant.long)) (λ e. apart (own ∙ e))) (c.loop-k.invariant.written i h);
    }

pub returns-clause-bits : goal.returns-clause-bits
returns-clause-bits c = λ i h.
    c.loop-k.invariant.written i h
    ∙ (ap (λ (ns : List ℕ). assigned_to (map (number_of c.args.places.now) ns) (take c.loop-k.k c.args.bits.now) (c.args.from + i)) (take_all c.loop-k.k c.args.vars.now c.loop-k-test.false)
    ∙ ap (λ (bs : List Bool). assigned_to (map (number_of c.args.places.now) c.args.vars.now) bs (c.args.from + i)) (take_all c.loop-k.k c.args.bits.now (omega (arith, c.loop-k-test.false, c.requires.each))))
