use Rattle.sec_setup.proofs.choice.choose.Given as goal

abbrev pub ghost-choose_cut : goal.ghost-choose_cut
ghost-choose_cut g a = g.mode

abbrev pub ghost-find_cycle : goal.ghost-find_cycle
ghost-find_cycle g a = g.mode
