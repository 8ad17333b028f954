use Rattle.cycle_sim.proofs.cycle_marks.mark.Goals as goal

pub returns-clause-marks : goal.returns-clause-marks
returns-clause-marks c = λ enabled run t ahead.
    c.mark_gates.ensures.put enabled run t (λ i port at. c.mark_latches.ensures.keeps enabled run t ahead port.signal.0 (c.mark_inputs.ensures.put enabled run t i port at)) (c.mark_latches.ensures.put enabled run t ahead)
