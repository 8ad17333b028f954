-- What is looked at before a word's own rules.
use Rattle.std.proofs.Common.{◌≡◌, ℕ, Bool, true, false, not, ◌&&◌, List, map, length, refl, Bor, ◌∙◌, sym}
use Rattle.std.specs.List.{list_any}
use Rattle.blif_read.specs.declared.head.Head.{Head}
use Rattle.blif_read.specs.declared.error.ReadKind.TheVariants as kind
use Rattle.blif_read.specs.Heads.{count_fits}
use Rattle.blif_read.specs.Fault.{gate, guard, is_long, is_model_head}
use Rattle.blif_read.proofs.Behind.{any_behind, length_behind}

-- with a model, or at `.model`, and with tokens that fit, only a long name is left to be found
pub gate_end : (none : Bool) (h : Head) (args : List (Bor (List ℕ))) (long : Bool) →
    (none && not (is_model_head h)) ≡ false → count_fits h (length args) ≡ true → list_any (λ a. is_long a.now) args ≡ long →
    gate none h (map (λ a. a.now) args) ≡ guard long kind.NameTooLong
gate_end none h args long has fits e =
    rw has (rw (length_behind (λ (a : Bor (List ℕ)). a.now) args) (rw fits (rw (sym (any_behind is_long (λ (a : Bor (List ℕ)). a.now) args) ∙ e) refl)))
