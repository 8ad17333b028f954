use Rattle.std.proofs.Common.{◌≡◌, ℕ, List, [], Option, sym, subst}
use Rattle.std.specs.List.{All}
use Rattle.command_line.specs.declared.task.Task.{Task}
use Rattle.job_base.specs.Ends.{EndsBy}
use Rattle.job_base.specs.Reading.{ReadFailedAfter}
use Rattle.job_cert.specs.sec_files.Reading.{ReadFailed}
use Rattle.job_check.specs.check_meaning.check_found.Check.{all_paths}
use Rattle.job_gen.proofs.gen_meaning.Means.{gen_ends}
use Rattle.sec_run.specs.Answer.{IsFoundOfJob}
use Rattle.command_line.specs.Allowed.{IsAllowed}
use Rattle.sec_run.specs.Job.{paths_of, GoesOn}
use Rattle.sec_run.proofs.calls.find.Goals as goal

pub check-requires-clause-uncut : goal.check-requires-clause-uncut
check-requires-clause-uncut g c = (subst IsAllowed c.in-Check.is c.requires).1

pub compare_pair-requires-clause-plain : goal.compare_pair-requires-clause-plain
compare_pair-requires-clause-plain g c = (subst IsAllowed c.in-CheckPair.is c.requires).2

pub compare_pair-requires-clause-uncut : goal.compare_pair-requires-clause-uncut
compare_pair-requires-clause-uncut g c = (subst IsAllowed c.in-CheckPair.is c.requires).1

pub compare_pair-requires-clause-conflicts : goal.compare_pair-requires-clause-conflicts
compare_pair-requires-clause-conflicts g c = (subst IsAllowed c.in-CheckPair.is c.requires).0

pub compare_renamed-requires-clause-conflicts : goal.compare_renamed-requires-clause-conflicts
compare_renamed-requires-clause-conflicts g c = (subst IsAllowed c.in-CheckRenamed.is c.requires).0

pub compare_renamed-requires-clause-always : goal.compare_renamed-requires-clause-always
compare_renamed-requires-clause-always g c = (subst IsAllowed c.in-CheckRenamed.is c.requires).2

pub check_settles-requires-clause-always : goal.check_settles-requires-clause-always
check_settles-requires-clause-always g c = (subst IsAllowed c.in-CheckSettles.is c.requires).1

pub check_settles-requires-clause-conflicts : goal.check_settles-requires-clause-conflicts
check_settles-requires-clause-conflicts g c = (subst IsAllowed c.in-CheckSettles.is c.requires).0

pub check-requires-clause-plain : goal.check-requires-clause-plain
check-requires-clause-plain g c = (subst IsAllowed c.in-Check.is c.requires).2

pub check-requires-clause-conflicts : goal.check-requires-clause-conflicts
check-requires-clause-conflicts g c = (subst IsAllowed c.in-Check.is c.requires).0

pub compare_in_cycles-requires : goal.compare_in_cycles-requires
compare_in_cycles-requires g c = (subst IsAllowed c.in-Search.is c.requires).0

pub compare_under-requires-clause-conflicts : goal.compare_under-requires-clause-conflicts
compare_under-requires-clause-conflicts g c = (subst IsAllowed c.in-SearchUnder.is c.requires).0

pub compare_under-requires-clause-cycles : goal.compare_under-requires-clause-cycles
compare_under-requires-clause-cycles g c = (subst IsAllowed c.in-SearchUnder.is c.requires).1

pub compare_ties-requires : goal.compare_ties-requires
compare_ties-requires g c = subst IsAllowed c.in-InductUnder.is c.requires

pub compare_after-requires : goal.compare_after-requires
compare_after-requires g c = (subst IsAllowed c.in-After.is c.requires).0

pub compare_begun-requires : goal.compare_begun-requires
compare_begun-requires g c = subst IsAllowed c.in-InductAfter.is c.requires

pub compare_after_under-requires-clause-conflicts : goal.compare_after_under-requires-clause-conflicts
compare_after_under-requires-clause-conflicts g c = (subst IsAllowed c.in-AfterUnder.is c.requires).0

pub compare_after_under-requires-clause-cycles : goal.compare_after_under-requires-clause-cycles
compare_after_under-requires-clause-cycles g c = (subst IsAllowed c.in-AfterUnder.is c.requires).1

pub compare_ties_behind-requires : goal.compare_ties_behind-requires
compare_ties_behind-requires g c = subst IsAllowed c.in-InductAfterUnder.is c.requires

pub returns-in-Gen-clause-found : goal.returns-in-Gen-clause-found
returns-in-Gen-clause-found g c =
    let held = g.S.Shelf.held c.args.shelf.now in
    let faults = g.S.Shelf.faults c.args.shelf.now in
    subst (λ (job : Task). EndsBy (IsFoundOfJob held job) (ReadFailedAfter (GoesOn job) held faults faults (paths_of job)) c.compare_generated.result) (sym c.in-Gen.is)
    (gen_ends (record { seed = c.in-Gen.seed; regroup = c.in-Gen.regroup; conflicts = c.in-Gen.conflicts }) (ReadFailed held faults faults []) c.compare_generated.result c.compare_generated.ensures.found)

-- what holds of the paths of a comparison holds of equal ones
same_paths : (P : List ℕ → Type 0) (paths : List ℕ → List ℕ → Option (List ℕ) → List (List ℕ)) (a b x y : List ℕ) (own given : Option (List ℕ)) → x ≡ a → y ≡ b → given ≡ own → All P (paths a b own) → All P (paths x y given)
same_paths P paths a b x y own given p q r h =
    subst (λ (o : Option (List ℕ)). All P (paths x y o)) (sym r) (subst (λ (z : List ℕ). All P (paths x z own)) (sym q) (subst (λ (z : List ℕ). All P (paths z b own)) (sym p) h))

pub returns-in-Check-clause-served : goal.returns-in-Check-clause-served
returns-in-Check-clause-served g c serves fault =
    c.check.ensures.served
    (same_paths (g.S.Shelf.serves c.args.shelf.now) all_paths c.in-Check.a c.in-Check.b _ _ c.in-Check.assumed _ c.as_str.ensures c.as_str-in-Check.ensures c.path_of.ensures
    (subst (λ (job : Task). All (g.S.Shelf.serves c.args.shelf.now) (paths_of job)) c.in-Check.is serves))
    fault

pub returns-in-CheckSettles-clause-served : goal.returns-in-CheckSettles-clause-served
returns-in-CheckSettles-clause-served g c serves fault =
    c.check_settles.ensures.served
    (same_paths (g.S.Shelf.serves c.args.shelf.now) all_paths c.in-CheckSettles.a c.in-CheckSettles.b _ _ c.in-CheckSettles.assumed _ c.as_str-in-CheckSettles.ensures c.as_str-in-CheckSettles-2.ensures c.path_of-in-CheckSettles.ensures
    (subst (λ (job : Task). All (g.S.Shelf.serves c.args.shelf.now) (paths_of job)) c.in-CheckSettles.is serves))
    fault
