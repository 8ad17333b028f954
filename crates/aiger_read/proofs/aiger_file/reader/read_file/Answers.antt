use Rattle.std.proofs.Common.{rules, ◌≡◌, false, List, [], ◌∷◌, length, arith, refl, sym, ◌∙◌, ap, subst, suc}
use Rattle.std.specs.List.{All}
use Rattle.std.proofs.lemmas.Grind.{common_steps}
use Rattle.aiger_read.specs.declared.aiger_records.header.Header.{Header}
use Rattle.aiger_read.specs.declared.aiger_records.record.Record.{Record}
use Rattle.aiger_read.specs.aiger_records.Faults.{has_bad_literal, DefinesOnce}
use Rattle.aiger_read.specs.declared.aiger_file.symbol.Named.{Named}
use Rattle.aiger_read.specs.aiger_file.Symbols.{Symbol}
use Rattle.aiger_read.specs.aiger_file.Reading.{named_by}
use Rattle.aiger_read.proofs.aiger_file.reader.read_file.Goals as goal

keyed_by : (symbols : List Symbol) → length (named_by symbols).keys ≡ length (named_by symbols).names
keyed_by [] = refl
keyed_by (s ∷ symbols) = ap suc (keyed_by symbols)

keyed_as : (symbols : Named) (found : List Symbol) → symbols ≡ named_by found → length symbols.keys ≡ length symbols.names
keyed_as symbols found e = ap (λ (s : Named). length s.keys) e ∙ keyed_by found ∙ sym (ap (λ (s : Named). length s.names) e)

good_as : (h own : Header) (records mine : List Record) → own ≡ h → records ≡ mine → All (λ r. has_bad_literal own r ≡ false) mine → All (λ r. has_bad_literal h r ≡ false) records
good_as h own records mine e is good =
    subst (λ (rs : List Record). All (λ r. has_bad_literal h r ≡ false) rs) (sym is) (subst (λ (x : Header). All (λ r. has_bad_literal x r ≡ false) mine) e good)

pub returns-clause-kept : goal.returns-clause-kept
returns-clause-kept c =
    let own = c.in_ok-defined.field-0.defined in
    let h = c.in_ok-header.field-0.header in
    let here = c.in_ok-defined.ensures.body.1 in
    let there = c.in_ok-header.header-is in
    let same : own.header ≡ h = first_of (cc, search rules, grind (arith, common_steps)) in
    let is : c.into_records.result ≡ own.records = c.into_records.ensures in
    record {
      small = c.in_ok-header.ensures.header.2;
      good = good_as h own.header c.into_records.result own.records same is own.good;
      once = subst DefinesOnce (sym is) own.once;
      keyed = keyed_as c.in_ok-symbols.symbols _ c.in_ok-symbols.ensures.1;
    }

pub file_fault-requires : goal.file_fault-requires
file_fault-requires c = keyed_as c.in_ok-symbols.symbols _ c.in_ok-symbols.ensures.1
