-- A frame that is told, bit by bit.
use Rattle.std.proofs.Common.{◌≡◌, ◌∙◌, ◌+◌, ◌<◌, ℕ, Bool, List, [], ◌∷◌, ◌++◌, length, take, reverse, get_or, slice_get, Some, sym, ap, subst}
use Rattle.std.specs.List.{AllZip}
use Rattle.std.proofs.lemmas.List.{take_more}
use Rattle.circuit_theory.specs.Query.{Variable}
use Rattle.circuit_theory.proofs.Lists.{zip_push}
use Rattle.event_nodes.specs.Nodes.{EventGraphView, IsEventGraph, path_of}
use Rattle.class_search.proofs.event_variables.NodePaths.{variable_is}
use Rattle.event_form.specs.Frames.{TellsVariable, TellsFrame}
use Rattle.event_form.specs.declared.frames.FrameBit.{FrameBit}

front : {X : Type 0} (xs : List X) (i : ℕ) (x : X) → i < length xs → x ≡ get_or xs i x → take (i + 1) xs ≡ take i xs ++ x ∷ []
front {X} xs i x inside at = take_more xs i x inside ∙ ap (λ (y : X). take i xs ++ y ∷ []) (sym at)

pub frame_more : (w : EventGraphView) (vars : List ℕ) (bits : List Bool) (i : ℕ) (frame made : List FrameBit) (v : ℕ) (b : Bool) (x : FrameBit) → i < length vars → i < length bits → v ≡ get_or vars i v → b ≡ get_or bits i b → made ≡ frame ++ x ∷ [] → TellsVariable w v x → x.bit ≡ b →
    TellsFrame w (take i vars) (take i bits) frame → TellsFrame w (take (i + 1) vars) (take (i + 1) bits) made
frame_more w vars bits i frame made v b x in_vars in_bits at_v at_b same tells bit k =
    subst (TellsFrame w (take (i + 1) vars) (take (i + 1) bits)) (sym same) (record {
      variables = subst (λ (vs : List ℕ). AllZip (TellsVariable w) vs (frame ++ x ∷ [])) (sym (front vars i v in_vars at_v)) (zip_push (TellsVariable w) (take i vars) frame v x k.variables tells);
      each = subst (λ (bs : List Bool). AllZip (λ (c : Bool) (y : FrameBit). y.bit ≡ c) bs (frame ++ x ∷ [])) (sym (front bits i b in_bits at_b)) (zip_push (λ (c : Bool) (y : FrameBit). y.bit ≡ c) (take i bits) frame b x k.each bit);
    })

pub tells : (w : EventGraphView) → IsEventGraph w → (v : ℕ) (place : ℕ × ℕ) (x : FrameBit) → slice_get w.places v ≡ Some place → x.input ≡ place.0 → x.path.items ≡ reverse (path_of w.children place.1) → TellsVariable w v x
tells w is v place x at input path =
    let here = variable_is w is v place at in
    record { input = input ∙ ap (λ (y : Variable (List ℕ)). y.input) (sym here); path = path ∙ ap (λ (y : Variable (List ℕ)). reverse y.at) (sym here) }
