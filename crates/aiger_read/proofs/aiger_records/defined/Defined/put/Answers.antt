use Rattle.std.proofs.Common.{rules, ◌≡◌, false, List, sym, subst, arith}
use Rattle.std.specs.List.{All}
use Rattle.std.proofs.lemmas.Grind.{common_steps}
use Rattle.std.proofs.lemmas.List.Elements.{All-push}
use Rattle.aiger_read.specs.declared.aiger_records.record.Record.{Record}
use Rattle.aiger_read.specs.aiger_records.Faults.{has_bad_literal, DefinesOnce}
use Rattle.aiger_read.proofs.aiger_records.DefinedOnce.{once_more}
use Rattle.aiger_read.proofs.aiger_records.defined.Defined.put.Goals as goal

pub invariant_of-self-in-Some : goal.invariant_of-self-in-Some
invariant_of-self-in-Some c =
    let h = c.args.self.now.header in
    let P : Record → Type 0 = λ r. has_bad_literal h r ≡ false in
    let Q : List Record → Type 0 = λ rs. All P rs in
    record {
      small = c.args.self.now.small;
      marked = first_of (grind (arith, common_steps), search rules);
      good = subst Q (sym c.in_ok-push.ensures.ok) (All-push P c.args.self.now.records c.args.found c.args.self.now.good c.requires.literals);
      once = subst DefinesOnce (sym c.in_ok-push.ensures.ok) (once_more c.args.self.now.records c.args.found c.args.self.now.once c.requires.new);
    }

pub invariant_of-self-in_default : goal.invariant_of-self-in_default
invariant_of-self-in_default c =
    let h = c.args.self.now.header in
    let P : Record → Type 0 = λ r. has_bad_literal h r ≡ false in
    let Q : List Record → Type 0 = λ rs. All P rs in
    record {
      small = c.args.self.now.small;
      marked = grind (arith, common_steps);
      good = subst Q (sym c.in_ok-push.ensures.ok) (All-push P c.args.self.now.records c.args.found c.args.self.now.good c.requires.literals);
      once = subst DefinesOnce (sym c.in_ok-push.ensures.ok) (once_more c.args.self.now.records c.args.found c.args.self.now.once c.requires.new);
    }
