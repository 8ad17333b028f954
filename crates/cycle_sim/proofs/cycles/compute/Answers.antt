use Rattle.cycle_sim.proofs.cycles.compute.Goals as goal

pub returns-clause-values : goal.returns-clause-values
returns-clause-values c = λ v meets inputs latches.
    c.put_gates.ensures.put v meets (λ i port at. c.put_latches.ensures.keeps v latches port.signal.0 (c.put_inputs.ensures.put v inputs i port at)) (c.put_latches.ensures.put v latches)
