use Rattle.sec_setup.proofs.cut_points.expose_pick.Cuts.{minimal_cut}
use Rattle.sec_setup.proofs.cut_points.expose_pick.laws.chosen_is_minimal_cut.Goals as goal

pub returns : goal.returns
returns c = λ mode m n a b common places of_m of_n one_name choice. minimal_cut mode m n a b common of_m of_n one_name places choice
