-- Words that are written out, computed.
use Rattle.std.proofs.Common.{refl}
use Rattle.clap.proofs.OnLiterals.{clap_on_literals}
use Rattle.command_line.specs.Known.{PairIsTaken, PairIsNoJob, PairsAreTaken, PairsAreNoJob, CheckIsTaken, GraphIsTaken, SimIsTaken, ReplayIsTaken, SettleIsTaken, GenIsTaken, LratIsTaken, CertIsTaken, InductIsTaken, ResetIsTaken, CyclesAreTaken, AfterIsTaken, AssumedIsTaken, CheckSettlesIsTaken, ReplaySettlesIsTaken, ReplayResetIsTaken, ReplayResetIsNoJob, SettlesIsRefused, AssumedIsRefused, OtherModeIsNoJob, OtherFormIsNoJob, ResetIsNoJob, CyclesAreNoJob, AfterIsNoJob, SignalsAreTaken}

pub check_is_taken : CheckIsTaken
unfolding clap_on_literals
check_is_taken = (refl, refl)

pub graph_is_taken : GraphIsTaken
unfolding clap_on_literals
graph_is_taken = (refl, refl)

pub sim_is_taken : SimIsTaken
unfolding clap_on_literals
sim_is_taken = (refl, refl)

pub replay_is_taken : ReplayIsTaken
unfolding clap_on_literals
replay_is_taken = (refl, refl)

pub settle_is_taken : SettleIsTaken
unfolding clap_on_literals
settle_is_taken = (refl, refl)

pub gen_is_taken : GenIsTaken
unfolding clap_on_literals
gen_is_taken = (refl, refl)

pub lrat_is_taken : LratIsTaken
unfolding clap_on_literals
lrat_is_taken = (refl, refl)

pub cert_is_taken : CertIsTaken
unfolding clap_on_literals
cert_is_taken = (refl, refl)

pub induct_is_taken : InductIsTaken
unfolding clap_on_literals
induct_is_taken = (refl, refl)

pub signals_are_taken : SignalsAreTaken
unfolding clap_on_literals
signals_are_taken = ((refl, refl), refl, (refl, refl), refl, (refl, refl), refl, (refl, refl), refl)

pub check_settles_is_taken : CheckSettlesIsTaken
unfolding clap_on_literals
check_settles_is_taken = ((refl, refl), refl)

pub reset_is_taken : ResetIsTaken
unfolding clap_on_literals
reset_is_taken = ((refl, refl), refl)

pub cycles_are_taken : CyclesAreTaken
unfolding clap_on_literals
cycles_are_taken = ((refl, refl), refl, refl)

pub after_is_taken : AfterIsTaken
unfolding clap_on_literals
after_is_taken = ((refl, refl), refl, refl, refl, refl, refl)

pub assumed_is_taken : AssumedIsTaken
unfolding clap_on_literals
assumed_is_taken = ((refl, refl), refl)

pub replay_settles_is_taken : ReplaySettlesIsTaken
unfolding clap_on_literals
replay_settles_is_taken = ((refl, refl), refl)

pub replay_reset_is_taken : ReplayResetIsTaken
unfolding clap_on_literals
replay_reset_is_taken = ((refl, refl), refl, (refl, refl), refl)

pub replay_reset_is_no_job : ReplayResetIsNoJob
unfolding clap_on_literals
replay_reset_is_no_job = ((refl, refl), (refl, refl))

pub settles_is_refused : SettlesIsRefused
unfolding clap_on_literals
settles_is_refused = refl

pub assumed_is_refused : AssumedIsRefused
unfolding clap_on_literals
assumed_is_refused = (refl, refl)

pub other_is_no_job : OtherModeIsNoJob
unfolding clap_on_literals
other_is_no_job = (refl, refl)

pub form_is_no_job : OtherFormIsNoJob
unfolding clap_on_literals
form_is_no_job = (refl, refl)

pub reset_is_no_job : ResetIsNoJob
unfolding clap_on_literals
reset_is_no_job = ((refl, refl), (refl, refl), (refl, refl), (refl, refl))

pub cycles_are_no_job : CyclesAreNoJob
unfolding clap_on_literals
cycles_are_no_job = ((refl, refl), (refl, refl), (refl, refl), refl)

pub pair_is_taken : PairIsTaken
unfolding clap_on_literals
pair_is_taken = ((refl, refl), refl)

pub pair_is_no_job : PairIsNoJob
unfolding clap_on_literals
pair_is_no_job = ((refl, refl), (refl, refl), (refl, refl))

pub pairs_are_taken : PairsAreTaken
unfolding clap_on_literals
pairs_are_taken = ((refl, refl), refl)

pub pairs_are_no_job : PairsAreNoJob
unfolding clap_on_literals
pairs_are_no_job = ((refl, refl), (refl, refl), (refl, refl), (refl, refl))

pub after_is_no_job : AfterIsNoJob
unfolding clap_on_literals
after_is_no_job = ((refl, refl), (refl, refl), (refl, refl), (refl, refl), (refl, refl))
