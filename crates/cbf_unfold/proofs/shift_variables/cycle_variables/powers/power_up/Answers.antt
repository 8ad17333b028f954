-- The latches' variables stand in cycle 0.
use Rattle.std.proofs.Common.{◌≡◌, ◌∙◌, ◌+◌, Bool, false, List, length, get_or, sym, ap}
use Rattle.circuit_theory.specs.Cone.{latches_of}
use Rattle.flat_net.specs.View.{circuit_of}
use Rattle.circuit_laws.proofs.reset_laws.reset_nets.Starts.{nets_have_starts}
use Rattle.cbf_unfold.specs.shift_variables.Sequences.{bits_at}
use Rattle.cbf_unfold.proofs.shift_variables.cycle_variables.CycleWindows.{at_first, part_each, part_within, part_distinct, window}
use Rattle.cbf_unfold.proofs.shift_variables.cycle_variables.PowerUps.{powers_ok}
use Rattle.cbf_unfold.proofs.shift_variables.cycle_variables.powers.power_up.Goals as goal

pub bits_from-requires : goal.bits_from-requires
bits_from-requires c =
    let places = c.args.places.now in
    let vars = c.args.vars.now in
    let bits = c.args.bits.now in
    let first = at_first places vars bits c.requires.each c.requires.in_order in
    let to = c.end_of_shift-end.result in
    record {
      each = part_each places vars bits c.requires.each c.requires.in_order 0 0 to first c.end_of_shift-end.ensures;
      within = part_within places vars bits c.requires.each c.requires.in_order 0 0 to first c.end_of_shift-end.ensures;
      distinct = part_distinct places vars bits c.requires.each c.requires.in_order 0 0 to first c.end_of_shift-end.ensures;
    }

pub powers_of-requires : goal.powers_of-requires
powers_of-requires c = ap length c.as_slice.ensures.value ∙ (c.in_ok-free.ensures.size ∙ ap length c.latches-count.ensures)

pub returns : goal.returns
returns c =
    let n = c.args.net.now in
    let places = c.args.places.now in
    let vars = c.args.vars.now in
    let bits = c.args.bits.now in
    let first = at_first places vars bits c.requires.each c.requires.in_order in
    let to = c.end_of_shift-end.result in
    let count : length c.latches-count.result.now ≡ length (latches_of (circuit_of n)) = ap length c.latches-count.ensures ∙ sym (nets_have_starts n c.keeps.ensures.sound).2 in
    powers_ok (circuit_of n) c.args.base (length c.latches-count.result.now) (bits_at places vars bits) c.as_slice.result.now c.powers_of.result count
    (λ j h.
    ap (λ (l : List Bool). get_or l j false) c.as_slice.ensures.value
    ∙ (c.in_ok-free.ensures.bits j h ∙ window places vars bits c.requires.each c.requires.in_order 0 0 to first c.end_of_shift-end.ensures (c.args.base + j)))
    c.powers_of.ensures
