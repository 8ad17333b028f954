-- A file and a text of an and can be compared.
use Rattle.std.proofs.Common.{◌≡◌, ◌∙◌, ℕ, true, List, [], ◌∷◌, Some, None, refl, sym, subst, arith}
use Rattle.std.specs.Prelude.{codes}
use Rattle.std.specs.Fmt.{digits}
use Rattle.std.specs.List.{list_all}
use Rattle.std.proofs.lemmas.Option.{same_Some}
use Rattle.circuit_theory.specs.Agree.{cut}
use Rattle.circuit_theory.specs.Sizes.{Weighed}
use Rattle.flat_net.specs.View.{NetView}
use Rattle.aiger_read.specs.declared.aiger_records.header.Form.TheVariants.{Ascii}
use Rattle.aiger_read.specs.declared.aiger_records.record.Record.TheVariants.{Input, Output, Gate}
use Rattle.aiger_read.specs.aiger_records.Faults.{fault_of}
use Rattle.aiger_read.specs.aiger_records.Headers.{header_of}
use Rattle.aiger_read.specs.aiger_records.Records.{record_at}
use Rattle.aiger_read.specs.aiger_file.Symbols.{symbol_of}
use Rattle.aiger_read.specs.declared.aiger_file.file.AigerFile.{AigerFile}
use Rattle.aiger_read.specs.aiger_file.Files.{fault_of_text}
use Rattle.aiger_read.specs.aiger_file.Reading.{body_of, spelled}
use Rattle.aiger_read.specs.aiger_file.aiger_graph.Circuit.{circuit_of_file}
use Rattle.aiger_read.specs.aiger_file.aiger_graph.Loops.{HasLoop}
use Rattle.aiger_read.specs.Nets.{IsNetOf}
use Rattle.pair_texts.specs.design_rows.Small.{small_and, IsSmall}
use Rattle.job_base.specs.sec_files.Formats.{Aiger}
use Rattle.job_base.specs.sec_files.Loading.{IsAccepted, Loads}
use Rattle.job_base.proofs.sec_files.Texts.{text_net}
use Rattle.pair_texts.specs.design_rows.Texts.{off_and}
use Rattle.premise_rows.specs.AndFile.{and_file, FileIsComparable}
use Rattle.pair_texts.proofs.design_rows.Spelling.{accepted, net_is_small}
use Rattle.pair_texts.proofs.check_texts.Comparing.{comparable_by}
use Rattle.pair_texts.proofs.design_rows.SpelledTexts.{off_and_spells}
use Rattle.premise_rows.proofs.FileNets.{is_above_fanins, climbing_has_no_loop, FilePassesTests, tested_file_is_small}
use Rattle.pair_texts.specs.design_rows.Designs as design

-- the file that the text spells
abbrev and_records : AigerFile
and_records = record {
  header = record { form = Ascii; greatest = 3; inputs = 2; latches = 0; outputs = 1; gates = 1; plain = true };
  records = Input 2 ∷ Input 4 ∷ Output 6 ∷ Gate 6 2 4 ∷ [];
  symbols = record { keys = codes "i0" ∷ codes "i1" ∷ codes "o0" ∷ []; names = codes "a" ∷ codes "b" ∷ codes "y" ∷ [] };
}

spells : spelled and_file ≡ Some and_records
unfolding body_of record_at header_of symbol_of digits
spells = refl

faultless : fault_of_text and_file ≡ None
unfolding body_of record_at fault_of header_of symbol_of digits
faultless = refl

climbs : list_all is_above_fanins (circuit_of_file and_records).equations ≡ true
climbs = refl

-- the output's gate and the inputs
abbrev spots : List (Weighed ℕ)
spots = record { place = 6; shift = 0; weight = 4 } ∷ record { place = 2; shift = 0; weight = 1 } ∷ record { place = 4; shift = 0; weight = 1 } ∷ []

passes : FilePassesTests and_records small_and (λ l. 0) spots
unfolding cut digits
passes = record { inputs = refl; outputs = refl; latches = refl; ranked = refl; closed = refl; weight = refl }

is_this : (f : AigerFile) → spelled and_file ≡ Some f → f ≡ and_records
is_this f e = same_Some f and_records (sym e ∙ spells)

file_accepted : IsAccepted and_file
file_accepted = record { short = omega arith; faultless = faultless; sound = λ f e loop. climbing_has_no_loop and_records climbs (subst HasLoop (is_this f e) loop) }

file_small : (net : NetView) → Loads and_file net → IsSmall small_and net
file_small net l =
    let n = text_net and_file net l Aiger refl in
    tested_file_is_small and_records small_and (λ l. 0) spots passes net (subst (λ (f : AigerFile). IsNetOf f net) (is_this n.0 n.1) n.2)

pub file_is_comparable : FileIsComparable
file_is_comparable expose =
    comparable_by and_file off_and small_and (record small_and { weight = 9 }) file_accepted (accepted off_and design.off_and (record small_and { weight = 9 }) off_and_spells) file_small
    (net_is_small off_and design.off_and (record small_and { weight = 9 }) off_and_spells) (λ own others. refl) refl refl (omega arith) (omega arith) expose
