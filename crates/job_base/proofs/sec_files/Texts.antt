-- What a text's net has, and that a text has one net.
use Rattle.std.proofs.Common.{◌≡◌, ◌∙◌, ℕ, List, refl, sym, subst}
use Rattle.std.proofs.lemmas.Option.{same_Some}
use Rattle.blif_read.specs.Reading.{spelled}
use Rattle.flat_net.specs.Comparable.{IsComparable}
use Rattle.flat_net.specs.Sound.{IsSound}
use Rattle.flat_net.specs.View.{NetView}
use Rattle.flatten.specs.OneNet.{AreOneNet}
use Rattle.flatten.proofs.OneNets.{nets_are_one}
use Rattle.aiger_read.specs.declared.aiger_file.file.AigerFile.{AigerFile}
use Rattle.aiger_read.specs.aiger_file.aiger_graph.Circuit.{circuit_of_file}
use Rattle.aiger_read.specs.Nets.{IsNetOf}
use Rattle.aiger_read.specs.SignalNames.{signal_name}
use Rattle.job_base.specs.sec_files.Formats.{Format, Blif, Aiger, format_of, IsClockIn, IsNetIn}
use Rattle.job_base.specs.sec_files.Loading.{Loads, SpellsCircuit, circuit_of_text}
use Rattle.job_base.proofs.sec_files.OneNamed.{one_named}
use Rattle.job_base.proofs.sec_files.Portless.{file_portless}

module _ (text : List ℕ) (net : NetView) where
  sound_in : (format : Format) → IsNetIn format text net → IsSound net
  sound_in Blif n = n.sound
  sound_in Aiger n = n.2.sound

  comparable_in : (format : Format) → IsNetIn format text net → IsComparable net
  comparable_in Blif n = record { distinct = n.distinct; few = n.few }
  comparable_in Aiger n = n.2.comparable

  clock_in : (format : Format) → IsNetIn format text net → IsClockIn format text net.clock
  clock_in Blif n = n.clock
  clock_in Aiger n = n.2.clock

  module _ (loads : Loads text net) where
    -- the net keeps what each net keeps
    pub text_sound : IsSound net
    text_sound = sound_in (format_of text) loads.flat

    -- it can be compared
    pub text_comparable : IsComparable net
    text_comparable = comparable_in (format_of text) loads.flat

    -- the circuit that the text spells, with the net's clock
    pub spelled_circuit : SpellsCircuit text net.clock (circuit_of_text text net.clock)
    spelled_circuit = record { accepted = loads.accepted.faultless; is_clock = clock_in (format_of text) loads.flat; is_circuit = refl }

    -- a text of one format
    pub text_net : (format : Format) → format_of text ≡ format → IsNetIn format text net
    text_net format is = subst (λ (f : Format). IsNetIn f text net) is loads.flat

-- a text loads as one net
one_in : (text : List ℕ) (a b : NetView) (format : Format) → IsNetIn format text a → IsNetIn format text b → AreOneNet a b
one_in text a b Blif x y = nets_are_one (spelled text) a b x y
one_in text a b Aiger x y =
    let f = x.0 in
    let same : y.0 ≡ f = same_Some y.0 f (sym y.1 ∙ x.1) in
    let z : IsNetOf f b = subst (λ (g : AigerFile). IsNetOf g b) same y.2 in
    one_named (circuit_of_file f) (signal_name f) (file_portless f) a b (record { origin = x.2.origin; signal = x.2.signal; sound = x.2.sound; flat = x.2.circuit; names = x.2.names })
    (record { origin = z.origin; signal = z.signal; sound = z.sound; flat = z.circuit; names = z.names }) (x.2.clock ∙ sym z.clock) (x.2.inits ∙ sym z.inits)

pub one_text_net : (text : List ℕ) (a b : NetView) → Loads text a → Loads text b → AreOneNet a b
one_text_net text a b la lb = one_in text a b (format_of text) la.flat lb.flat
