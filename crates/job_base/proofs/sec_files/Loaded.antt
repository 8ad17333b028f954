-- A text loads as the net that it is read as.
use Rattle.std.proofs.Common.{◌≡◌, ◌∙◌, ℕ, ◌≤◌, Bool, true, false, List, length, Some, None, Err, if◌then◌else◌, sym, ap, subst}
use Rattle.std.proofs.lemmas.Option.{same_Some}
use Rattle.blif_read.specs.declared.design.BlifModel.{BlifModel}
use Rattle.blif_read.specs.declared.error.ReadError.{ReadError}
use Rattle.blif_read.specs.declared.error.ReadError.TheVariants as read_error
use Rattle.blif_read.specs.Reading.{first_fault, spelled, Reads}
use Rattle.flat_net.specs.Comparable.{IsComparable}
use Rattle.flat_net.specs.View.{NetView}
use Rattle.elaborate.specs.declared.error.FlatError.{FlatError}
use Rattle.elaborate.specs.declared.error.FlatError.TheVariants as fault
use Rattle.flatten.specs.DesignFaults.{DesignFault, IsSoundDesign, IsFlatOf}
use Rattle.aiger_read.specs.declared.aiger_file.file.AigerFile.{AigerFile}
use Rattle.aiger_read.specs.aiger_file.aiger_graph.Loops.{HasLoop}
use Rattle.aiger_read.specs.declared.aiger_records.error.AigerError.{AigerError}
use Rattle.aiger_read.specs.declared.aiger_records.error.AigerError.TheVariants as aiger_error
use Rattle.aiger_read.specs.Nets.{SpellsFile, IsNetOf, ReadsNet}
use Rattle.job_base.specs.declared.sec_files.loader.LoadError.TheVariants as load_error
use Rattle.job_base.specs.sec_files.Formats.{Format, Blif, Aiger, is_aiger, format_of, IsReadIn, IsSoundIn, IsNetIn}
use Rattle.job_base.specs.sec_files.Loading.{Loads, HasDesignFault, FlattenFails, LoadFails}

pub formatted : (text : List ℕ) (b : Bool) → is_aiger text ≡ b → format_of text ≡ (if b then Aiger else Blif)
formatted text b is = ap (λ (x : Bool). if x then Aiger else Blif) is

-- what is said of a text in its format
loads_in : (text : List ℕ) (net : NetView) (format : Format) → format_of text ≡ format → length text ≤ 16777216 → IsReadIn format text → IsSoundIn format text → IsNetIn format text net → Loads text net
loads_in text net format is short read sound flat = record {
  accepted = record { short = short; faultless = subst (λ (f : Format). IsReadIn f text) (sym is) read; sound = subst (λ (f : Format). IsSoundIn f text) (sym is) sound };
  flat = subst (λ (f : Format). IsNetIn f text net) (sym is) flat;
}

-- the flat net of the design that the text spells
pub design_loads : (text : List ℕ) (models : List BlifModel) (net : NetView) → length text ≤ 16777216 → is_aiger text ≡ false → first_fault text ≡ None → models ≡ spelled text → IsSoundDesign models → IsFlatOf models net → Loads text net
design_loads text models net short is_blif faultless is sound flat =
    loads_in text net Blif (formatted text false is_blif) short faultless (subst IsSoundDesign is sound) (subst (λ (ms : List BlifModel). IsFlatOf ms net) is flat)

-- the net of the file that the text spells
pub file_loads : (text : List ℕ) (net : NetView) → length text ≤ 16777216 → is_aiger text ≡ true → (f : AigerFile) × SpellsFile text f × IsNetOf f net → Loads text net
file_loads text net short is read =
    let f = read.0 in
    let spells = read.1 in
    loads_in text net Aiger (formatted text true is) short spells.faultless (λ g found loop. spells.no_loop (subst HasLoop (same_Some g f (sym found ∙ spells.is_file)) loop)) (f, spells.is_file, read.2)

-- a flat net can be compared
pub flat_is_comparable : (models : List BlifModel) (net : NetView) → IsFlatOf models net → IsComparable net
flat_is_comparable models net f = record { distinct = f.distinct; few = f.few }

-- a faulty line
pub lines_fail : (text : List ℕ) (e : ReadError) → length text ≤ 16777216 → is_aiger text ≡ false → Reads text (Err e) → LoadFails (Some text) ⊥ (load_error.Read e)
lines_fail text (read_error.At line kind) short is fails = ((short, formatted text false is), fails)
lines_fail text read_error.NoMemory short is fails = tt

-- a fault of the file
pub file_fails : (text : List ℕ) (e : AigerError) → length text ≤ 16777216 → is_aiger text ≡ true → ReadsNet text (Err e) → LoadFails (Some text) ⊥ (load_error.Aiger e)
file_fails text (aiger_error.At place kind) short is fails = ((short, formatted text true is), fails)
file_fails text aiger_error.NoMemory short is fails = tt

-- a fault of the design that the text spells
pub text_fails : (text : List ℕ) (models : List BlifModel) (e : FlatError) → length text ≤ 16777216 → is_aiger text ≡ false → first_fault text ≡ None → models ≡ spelled text → ((e ≡ fault.NoMemory → ⊥) → DesignFault models e) → FlattenFails (Some text) e
text_fails text models e short is_blif accepted is h = go e (λ not. ((short, formatted text false is_blif), accepted, subst (λ (ms : List BlifModel). DesignFault ms e) is (h not)))
  where
    go : (e : FlatError) → ((e ≡ fault.NoMemory → ⊥) → HasDesignFault text e) → FlattenFails (Some text) e
    go fault.NoMemory h = tt
    go (fault.UnknownModel x) h = h (λ q. cc)
    go (fault.Recursive x) h = h (λ q. cc)
    go (fault.UnknownFormal x) h = h (λ q. cc)
    go (fault.FormalTwice x) h = h (λ q. cc)
    go (fault.OpenInput x) h = h (λ q. cc)
    go (fault.TwoDrivers x) h = h (λ q. cc)
    go (fault.Undriven x) h = h (λ q. cc)
    go (fault.TwoClocks x) h = h (λ q. cc)
    go (fault.TwoEdges x) h = h (λ q. cc)
    go (fault.GatedClock x) h = h (λ q. cc)
    go (fault.ClockRead x) h = h (λ q. cc)
    go (fault.Loop x) h = h (λ q. cc)
    go (fault.TooDeep x) h = h (λ q. cc)
    go fault.TooMany h = h (λ q. cc)
    go fault.LongName h = h (λ q. cc)
