use Rattle.std.proofs.Common.{◌≡◌, ◌∙◌, ◌-◌, ◌++◌, ℕ, arith, take, Bool, true, false, List, [], ◌∷◌, length, get_or, drop, map, ap, refl, subst}
use Rattle.std.specs.List.{list_all}
use Rattle.std.proofs.lemmas.List.{take_all}
use Rattle.proof_check.specs.Literals.{Literal}
use Rattle.text_numbers.specs.declared.numbers.Number.{Number}
use Rattle.lrat_core.specs.Lines.{adds}
use Rattle.lrat_core.specs.dimacs_text.Literals.{is_literal, literal_of, IsPut}
use Rattle.lrat_core.specs.declared.hints.Hint.{Hint}
use Rattle.lrat_core.specs.lrat_text.Spellings.{Malformed, Spells, hint_of, id_of, is_addition, addition_of}
use Rattle.lrat_core.specs.lrat_text.Parts.{ArePartsOf}
use Rattle.lrat_core.proofs.lrat_text.addition.read_addition.Goals as goal

-- the parts of the numbers behind the first
rest_parts : (n : Number) (numbers literals hints : List Number) → ArePartsOf (take (length (n ∷ numbers) - 1) numbers) literals hints → ArePartsOf numbers literals hints
rest_parts n numbers literals hints parts = subst (λ (ns : List Number). ArePartsOf ns literals hints) (take_all (length (n ∷ numbers) - 1) numbers (omega arith)) parts

-- the addition that parts spell
addition_spelled : (limit : ℕ) (numbers : List Number) (d : Number) (literals hints : List Number) (id : ℕ) (ls : List Literal) (hs : List Hint) → (length numbers ≡ 0 → ⊥) → ArePartsOf (take (length numbers - 1) (drop 1 numbers)) literals hints → list_all (is_literal limit) literals ≡ true → id ≡ id_of (get_or numbers 0 d) →
    ls ≡ map literal_of literals → hs ≡ map hint_of hints → addition_of limit numbers ≡ Spells (adds id ls hs)
addition_spelled limit [] d literals hints id ls hs some parts all i l h = absurd (some refl)
addition_spelled limit (n ∷ numbers) d literals hints id ls hs some parts all i l h =
    let own = rest_parts n numbers literals hints parts in
    let is : is_addition limit numbers ≡ true = own.decides limit ∙ all in
    rw (is, i, l, h, own.literals_are, own.hints_are)

-- some literal is none
addition_malformed : (limit : ℕ) (numbers literals hints : List Number) → (length numbers ≡ 0 → ⊥) → ArePartsOf (take (length numbers - 1) (drop 1 numbers)) literals hints → list_all (is_literal limit) literals ≡ false → addition_of limit numbers ≡ Malformed
addition_malformed limit [] literals hints some parts all = absurd (some refl)
addition_malformed limit (n ∷ numbers) literals hints some parts all =
    let own = rest_parts n numbers literals hints parts in
    let is : is_addition limit numbers ≡ false = own.decides limit ∙ all in
    rw is

pub returns : goal.returns
returns c =
    let parts = c.in-Some.parts in
    let put = subst (λ (b : Bool). IsPut c.args.limit parts.literals.now b c.clear.new.self.items c.put_literals.new.literals.items) c.if-not-branch.false c.in_ok-put_literals.ensures in
    addition_spelled c.args.limit c.args.numbers.now _ parts.literals.now parts.hints.now c.id_of.result c.put_literals.new.literals.items c.put_hints.new.hints.items c.if-numbers-eq0.false c.in-Some.ensures put.0 c.id_of.ensures
    (put.1 ∙ ap (λ (ls : List Literal). ls ++ map literal_of parts.literals.now) c.clear.ensures.items) (c.in_ok-put_hints.ensures ∙ ap (λ (hs : List Hint). hs ++ map hint_of parts.hints.now) c.clear-2.ensures.items)

pub returns-then-not-branch : goal.returns-then-not-branch
returns-then-not-branch c =
    let parts = c.in-Some.parts in
    addition_malformed c.args.limit c.args.numbers.now parts.literals.now parts.hints.now c.if-numbers-eq0.false c.in-Some.ensures
    (subst (λ (b : Bool). IsPut c.args.limit parts.literals.now b c.clear.new.self.items c.put_literals.new.literals.items) c.if-not-branch.true c.in_ok-put_literals.ensures)
