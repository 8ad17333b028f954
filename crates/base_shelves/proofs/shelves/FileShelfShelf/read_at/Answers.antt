-- A shelf of real files tells nothing of what is held, so that only its count of faults has to be looked at.
use Rattle.std.proofs.Common.{refl, arith}
use Rattle.base_shelves.proofs.Fronts.{none_fell, ok_err}
use Rattle.base_shelves.proofs.Failures.{shelf_memory_failed}
use Rattle.base_shelves.proofs.shelves.FileShelfShelf.read_at.Goals as goal

pub returns-in-Ok : goal.returns-in-Ok
returns-in-Ok g c = record {
  bound = c.in-Ok.ensures;
  gives = tt;
  keeps = λ _. refl;
  later = none_fell (λ _. c.args.self.now.faults);
  cause = λ wrong. absurd (ok_err _ _ wrong);
  served = λ serves wrong. serves;
  serving = λ other serves. serves;
}

pub returns-then-eq : goal.returns-then-eq
returns-then-eq g c = record {
  bound = tt;
  gives = tt;
  keeps = λ _. refl;
  later = none_fell (λ _. c.args.self.now.faults);
  cause = λ wrong. absurd (shelf_memory_failed wrong);
  served = λ serves wrong. serves;
  serving = λ other serves. serves;
}

pub returns-else-eq : goal.returns-else-eq
returns-else-eq g c = record {
  bound = tt;
  gives = tt;
  keeps = λ _. refl;
  later = λ _. omega (arith, c.saturating_add-self.ensures, c.saturating_add-self.type_inv);
  cause = λ _. omega (arith, c.saturating_add-self.ensures);
  served = λ serves wrong. serves;
  serving = λ other serves. serves;
}
