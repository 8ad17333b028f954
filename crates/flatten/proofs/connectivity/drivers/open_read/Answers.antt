use Rattle.std.proofs.Common.{◌≡◌, ◌<◌, ◌∙◌, ℕ, List, length, [], ◌∷◌, sym, ap, subst}
use Rattle.std.specs.Prelude.{All}
use Rattle.elaborate.specs.Flat.{kind_of}
use Rattle.flatten.specs.connectivity.Wiring.{control_by, some_of}
use Rattle.flatten.specs.connectivity.Tables.{IsOpenIn}
use Rattle.flatten.proofs.connectivity.Found.{FirstOf, found_left, found_right, never_of, never_control}
use Rattle.flatten.proofs.connectivity.drivers.open_read.Goals as goal

pub returns-then-is_some : goal.returns-then-is_some
returns-then-is_some c =
    let s = c.args.statement.now in
    let M = IsOpenIn c.args.sources.now in
    found_left (λ (n : ℕ). n) M s.reads (control_by (kind_of [] s.kind)) c.first_open-found.result (sym c.is_some.ensures ∙ c.if-is_some.true)
    (subst (λ zs. FirstOf zs (λ (n : ℕ). n) M c.first_open-found.result) c.as_slice.ensures c.first_open-found.ensures)

pub returns-in-Some : goal.returns-in-Some
returns-in-Some c =
    let s = c.args.statement.now in
    let M = IsOpenIn c.args.sources.now in
    let none = never_of (λ (n : ℕ). n) M s.reads c.first_open-found.result (sym c.is_some.ensures ∙ c.if-is_some.false)
    (subst (λ zs. FirstOf zs (λ (n : ℕ). n) M c.first_open-found.result) c.as_slice.ensures c.first_open-found.ensures) in
    let one : control_by (kind_of [] s.kind) ≡ c.in-Some.control ∷ [] = c.control_of.ensures ∙ ap some_of c.in-Some.is in
    found_right (λ (n : ℕ). n) M s.reads (control_by (kind_of [] s.kind)) c.first_open.result none
    (subst (λ zs. FirstOf zs (λ (n : ℕ). n) M c.first_open.result) (sym one) c.first_open.ensures)

pub returns-in-None : goal.returns-in-None
returns-in-None c =
    let s = c.args.statement.now in
    let M = IsOpenIn c.args.sources.now in
    let none = never_of (λ (n : ℕ). n) M s.reads c.first_open-found.result (sym c.is_some.ensures ∙ c.if-is_some.false)
    (subst (λ zs. FirstOf zs (λ (n : ℕ). n) M c.first_open-found.result) c.as_slice.ensures c.first_open-found.ensures) in
    let one : control_by (kind_of [] s.kind) ≡ [] = c.control_of.ensures ∙ ap some_of c.in-None.is in
    never_control s.reads (control_by (kind_of [] s.kind)) M one none

pub first_open-requires : goal.first_open-requires
first_open-requires c =
    let one : control_by (kind_of [] c.args.statement.now.kind) ≡ c.in-Some.control ∷ [] = c.control_of.ensures ∙ ap some_of c.in-Some.is in
    subst (λ (zs : List ℕ). All (λ n. n < length c.args.sources.now) zs) one c.requires.control
