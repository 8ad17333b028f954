-- The size is the greater depth.
use Rattle.sec_setup.proofs.depth.pair_depth.Goals as goal

pub returns : goal.returns
returns c = record { left = c.depth_of-left_depth.result; right = c.depth_of-right_depth.result; left_is = c.depth_of-left_depth.ensures; right_is = c.depth_of-right_depth.ensures; greater = c.max.ensures }
