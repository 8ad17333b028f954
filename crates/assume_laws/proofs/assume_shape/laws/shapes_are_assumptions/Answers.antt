use Rattle.assume_laws.proofs.assume_shape.Shapes.{shapes_are_assumptions}
use Rattle.assume_laws.proofs.assume_shape.laws.shapes_are_assumptions.Goals as goal

pub returns : goal.returns
returns c = shapes_are_assumptions
