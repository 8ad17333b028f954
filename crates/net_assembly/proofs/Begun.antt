-- A net without signals, an input that is the clock, and one output more.
use Rattle.std.proofs.Common.{◌≡◌, ◌+◌, ◌<◌, ◌∙◌, ℕ, Bool, true, cond, map, get_or, slice_index_or, ap₂, append_assoc, List, [], ◌∷◌, ◌++◌, length, take, replicate, slice_get, Option, Some, refl, sym, ap, subst, arith}
use Rattle.std.specs.Prelude.{not}
use Rattle.std.proofs.lemmas.List.{length-replicate, take_more, map-append}
use Rattle.std.proofs.lemmas.Option.{none-some}
use Rattle.elaborate.specs.Flat.{is_number, name_at}
use Rattle.flat_net.specs.declared.signals.Signal.{Signal}
use Rattle.flat_net.specs.View.{NetView}
use Rattle.flat_net.specs.Makes.{MakerView, empty_net, with_output}
use Rattle.flat_net.proofs.PlaceLists.{filter-take}
use Rattle.flat_net.specs.declared.parts.Port.{Port}
use Rattle.net_assembly.specs.Shown.{shown_at, with_outputs}
use Rattle.net_assembly.specs.Built.{IsBuilt, unclocked, with_inputs}
use Rattle.net_assembly.proofs.Building.{HasInputs}

pub nothing_built : (names : List (List ℕ)) (net : NetView) (signals : List Signal) (size : ℕ) → net ≡ empty_net → signals ≡ replicate size (record { 0 = 0 }) → size ≡ length names → IsBuilt names [] net signals
nothing_built names net signals size is zeros same = record {
  size = ap length zeros ∙ length-replicate size (record { 0 = 0 }) ∙ same;
  named = ap (λ (n : NetView). n.names) is;
  drivers = ap (λ (n : NetView). length n.drivers) is;
  once = λ i j x h k. absurd (none-some x h);
  within = λ k d h. absurd (omega (arith, h));
  placed = λ s n h. absurd (none-some n h);
}

-- the clock is no input of the net
pub inputs_pass : (names : List (List ℕ)) (clock : Option ℕ) (inputs : List ℕ) (before after : MakerView) (signals : List Signal) (i n : ℕ) → slice_get inputs i ≡ Some n → is_number clock n ≡ true →
    HasInputs names clock inputs before after signals i → HasInputs names clock inputs before after signals (i + 1)
inputs_pass names clock inputs before after signals i n at e has =
    let same : unclocked clock (take (i + 1) inputs) ≡ unclocked clock (take i inputs) = filter-take (λ m. not (is_number clock m)) inputs i n at
    ∙ ap (λ (b : Bool). cond (not b) (unclocked clock (take i inputs) ++ n ∷ []) (unclocked clock (take i inputs))) e in
    record {
      built = subst (λ (ns : List ℕ). IsBuilt names ns after.net signals) (sym same) has.built;
      net = has.net ∙ ap (λ (ns : List ℕ). record before { net = with_inputs names ns before.net }) (sym same);
    }

-- one output more
pub outputs_take : (names : List (List ℕ)) (signals : List Signal) (outputs items : List ℕ) (first before after : MakerView) (i : ℕ) (name : List ℕ) (s : Signal) → items ≡ outputs → i < length items →
    before ≡ record first { net = with_outputs names signals (take i outputs) first.net } → after ≡ record before { net = with_output before.net name s } → name_at names (get_or items i 0) ≡ name →
    slice_index_or signals (get_or items i 0) (record { 0 = 0 }) ≡ s → after ≡ record first { net = with_outputs names signals (take (i + 1) outputs) first.net }
outputs_take names signals outputs items first before after i name s e h so put is_name is_signal =
    subst (λ (os : List ℕ). before ≡ record first { net = with_outputs names signals (take i os) first.net } → after ≡ record first { net = with_outputs names signals (take (i + 1) os) first.net }) e more so
  where
    show : ℕ → Port
    show = shown_at names signals

    shown : map show (take i items) ++ (record { name = name; signal = s }) ∷ [] ≡ map show (take (i + 1) items)
    shown = ap₂ (λ (n : List ℕ) (x : Signal). map show (take i items) ++ (record { name = n; signal = x }) ∷ []) (sym is_name) (sym is_signal)
        ∙ sym (ap (map show) (take_more items i 0 h) ∙ map-append show (take i items) (get_or items i 0 ∷ []))

    more : before ≡ record first { net = with_outputs names signals (take i items) first.net } → after ≡ record first { net = with_outputs names signals (take (i + 1) items) first.net }
    more is = put
        ∙ (ap (λ (m : MakerView). record m { net = with_output m.net name s }) is
        ∙ ap (λ (ps : List Port). record first { net = record first.net { outputs = ps } }) (append_assoc first.net.outputs (map show (take i items)) ((record { name = name; signal = s }) ∷ []) ∙ ap (λ (ps : List Port). first.net.outputs ++ ps) shown))
