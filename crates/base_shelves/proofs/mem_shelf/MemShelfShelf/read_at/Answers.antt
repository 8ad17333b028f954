-- The call is counted, and so is its fault where it has one.
use Rattle.std.proofs.Common.{◌≤◌, ◌∙◌, ℕ, List, Option, refl, sym, subst, arith}
use Rattle.std.proofs.lemmas.Bool.{false≢true}
use Rattle.std.specs.Prelude.{IsSome}
use Rattle.base_shelves.specs.Outside.{Rose}
use Rattle.base_shelves.specs.MemShelf.{faults_of}
use Rattle.base_shelves.proofs.Calls.{holds, counts, fails_same, more_same, calls_are, is_held, not_held, gives_here, none_told}
use Rattle.base_shelves.proofs.Fronts.{ok_err}
use Rattle.base_shelves.proofs.mem_shelf.MemShelfShelf.read_at.Goals as goal

pub returns-then-next_call_fails : goal.returns-then-next_call_fails
returns-then-next_call_fails c = record {
  bound = tt;
  gives = tt;
  keeps = λ path. c.count_fault.ensures.held path ∙ holds c.args.self.now c.next_call_fails.new.self c.next_call_fails.ensures.same path;
  later = λ path. subst (λ (n : ℕ). n ≤ faults_of c.count_fault.new.self path) (counts c.args.self.now c.next_call_fails.new.self c.next_call_fails.ensures.same path) (c.count_fault.ensures.later path);
  cause = λ failed. subst (λ (n : ℕ). Rose n (faults_of c.count_fault.new.self c.args.path.now)) (counts c.args.self.now c.next_call_fails.new.self c.next_call_fails.ensures.same c.args.path.now) c.count_fault.ensures.here;
  served = λ serves wrong. none_told c.args.self.now.fails _ serves.1 (c.next_call_fails.ensures.told.0 c.if-next_call_fails.true);
  serving = λ other serves. (subst (λ (o : Option (List ℕ)). IsSome o) (sym (c.count_fault.ensures.held other ∙ holds c.args.self.now c.next_call_fails.new.self c.next_call_fails.ensures.same other)) serves.0, c.count_fault.ensures.fails ∙ fails_same c.args.self.now c.next_call_fails.new.self c.next_call_fails.ensures.same ∙ serves.1);
  read = (λ wrong. absurd (false≢true wrong), λ served. absurd (served.1 (c.next_call_fails.ensures.told.0 c.if-next_call_fails.true)));
  most = tt;
  failed = refl;
  counts = tt;
  others = λ other differ held. c.count_fault.ensures.others other differ (subst (λ (o : Option (List ℕ)). IsSome o) (sym (holds c.args.self.now c.next_call_fails.new.self c.next_call_fails.ensures.same other)) held) ∙ counts c.args.self.now c.next_call_fails.new.self c.next_call_fails.ensures.same other;
  calls = c.count_fault.ensures.calls ∙ calls_are c.args.self.now c.next_call_fails.new.self c.next_call_fails.ensures.same;
  fails = c.count_fault.ensures.fails ∙ fails_same c.args.self.now c.next_call_fails.new.self c.next_call_fails.ensures.same;
  more = c.count_fault.ensures.more ∙ more_same c.args.self.now c.next_call_fails.new.self c.next_call_fails.ensures.same;
}

pub returns-in-None : goal.returns-in-None
returns-in-None c = record {
  bound = tt;
  gives = tt;
  keeps = λ path. c.count_fault-in-None.ensures.held path ∙ holds c.args.self.now c.next_call_fails.new.self c.next_call_fails.ensures.same path;
  later = λ path. subst (λ (n : ℕ). n ≤ faults_of c.count_fault-in-None.new.self path) (counts c.args.self.now c.next_call_fails.new.self c.next_call_fails.ensures.same path) (c.count_fault-in-None.ensures.later path);
  cause = λ failed. subst (λ (n : ℕ). Rose n (faults_of c.count_fault-in-None.new.self c.args.path.now)) (counts c.args.self.now c.next_call_fails.new.self c.next_call_fails.ensures.same c.args.path.now) c.count_fault-in-None.ensures.here;
  served = λ serves wrong. not_held c.args.self.now c.next_call_fails.new.self c.next_call_fails.ensures.same c.args.path.now c.in-None.ensures.value serves.0;
  serving = λ other serves. (subst (λ (o : Option (List ℕ)). IsSome o) (sym (c.count_fault-in-None.ensures.held other ∙ holds c.args.self.now c.next_call_fails.new.self c.next_call_fails.ensures.same other)) serves.0, c.count_fault-in-None.ensures.fails ∙ fails_same c.args.self.now c.next_call_fails.new.self c.next_call_fails.ensures.same ∙ serves.1);
  read = (λ wrong. absurd (false≢true wrong), λ served. absurd (not_held c.args.self.now c.next_call_fails.new.self c.next_call_fails.ensures.same c.args.path.now c.in-None.ensures.value served.0));
  most = tt;
  failed = refl;
  counts = tt;
  others = λ other differ held. c.count_fault-in-None.ensures.others other differ (subst (λ (o : Option (List ℕ)). IsSome o) (sym (holds c.args.self.now c.next_call_fails.new.self c.next_call_fails.ensures.same other)) held) ∙ counts c.args.self.now c.next_call_fails.new.self c.next_call_fails.ensures.same other;
  calls = c.count_fault-in-None.ensures.calls ∙ calls_are c.args.self.now c.next_call_fails.new.self c.next_call_fails.ensures.same;
  fails = c.count_fault-in-None.ensures.fails ∙ fails_same c.args.self.now c.next_call_fails.new.self c.next_call_fails.ensures.same;
  more = c.count_fault-in-None.ensures.more ∙ more_same c.args.self.now c.next_call_fails.new.self c.next_call_fails.ensures.same;
}

pub returns-in-Some : goal.returns-in-Some
returns-in-Some c = record {
  bound = c.read_piece.ensures.bound;
  gives = gives_here c.args.self.now c.next_call_fails.new.self c.next_call_fails.ensures.same c.args.path.now c.in-Some.file.now c.as_slice.result.now c.args.from c.read_piece.result c.read_piece.new.room c.in-Some.ensures.value c.as_slice.ensures c.read_piece.ensures.gives;
  keeps = holds c.args.self.now c.next_call_fails.new.self c.next_call_fails.ensures.same;
  later = λ path. let same = counts c.args.self.now c.next_call_fails.new.self c.next_call_fails.ensures.same path in omega (arith, same);
  cause = λ wrong. absurd (ok_err _ _ wrong);
  served = λ serves wrong. ok_err _ _ wrong;
  serving = λ other serves. (subst (λ (o : Option (List ℕ)). IsSome o) (sym (holds c.args.self.now c.next_call_fails.new.self c.next_call_fails.ensures.same other)) serves.0, fails_same c.args.self.now c.next_call_fails.new.self c.next_call_fails.ensures.same ∙ serves.1);
  read = (λ _. (is_held c.args.self.now c.next_call_fails.new.self c.next_call_fails.ensures.same c.args.path.now c.in-Some.file.now c.in-Some.ensures.value, λ told. false≢true (sym c.if-next_call_fails.false ∙ c.next_call_fails.ensures.told.1 told)), λ _. refl);
  most = let same = more_same c.args.self.now c.next_call_fails.new.self c.next_call_fails.ensures.same in omega (arith, c.read_piece.ensures.most, same);
  failed = tt;
  counts = counts c.args.self.now c.next_call_fails.new.self c.next_call_fails.ensures.same;
  others = λ other differ held. counts c.args.self.now c.next_call_fails.new.self c.next_call_fails.ensures.same other;
  calls = calls_are c.args.self.now c.next_call_fails.new.self c.next_call_fails.ensures.same;
  fails = fails_same c.args.self.now c.next_call_fails.new.self c.next_call_fails.ensures.same;
  more = more_same c.args.self.now c.next_call_fails.new.self c.next_call_fails.ensures.same;
}
