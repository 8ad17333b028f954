-- The first item that is meant, in one list behind another, and statement by statement.
use Rattle.std.proofs.Common.{◌≡◌, ◌∙◌, ◌<◌, ◌≤◌, ◌+◌, ℕ, true, false, List, [], ◌∷◌, ◌++◌, length, map, take, slice_get, Option, Some, None, refl, sym, ap, subst, true≢false, append-nil}
use Rattle.std.specs.Prelude.{MatchOption, IfSome, is_some}
use Rattle.std.specs.List.{All, Contains}
use Rattle.std.proofs.lemmas.List.Elements.{All-contains}
use Rattle.circuit_theory.proofs.Lists.{of_at, Contains-map_from}
use Rattle.elaborate.specs.declared.flat.Flat.{Flat}
use Rattle.elaborate.specs.declared.flat.FlatStatement.{FlatStatement}
use Rattle.elaborate.specs.declared.flat.FlatKind.{FlatKind}
use Rattle.elaborate.specs.declared.flat.FlatKind.TheVariants as kind
use Rattle.elaborate.specs.Flat.{statement_of, kind_of}
use Rattle.flatten.specs.connectivity.Wiring.{Cell, joined, reads_by, cell_by, wires_of}
use Rattle.flatten.specs.connectivity.Events.{IsFirst, IsNever, IsAt}
use Rattle.flatten.specs.connectivity.Faults.{output_cell, readers}
use Rattle.flatten.specs.connectivity.Clocks.{ReadsNet}
use Rattle.flatten.proofs.connectivity.Firsts.{never_nil, never_one, first_one, never_append, first_append_left, first_append_right, never_row_more, never_row_all, first_row}
use Rattle.flatten.proofs.connectivity.Rows.{reads_are, cells_are}

-- the answer is the first that is meant, if there is one
abbrev pub FirstOf : {X P : Type 0} → List X → (X → P) → (X → Type 0) → Option P → Type 0
FirstOf xs name M o = MatchOption o (IsNever (IsAt xs name M)) (IsFirst (IsAt xs name M))

module _ {X P : Type 0} (name : X → P) (M : X → Type 0) where
  pub found_left : (xs ys : List X) (o : Option P) → is_some o ≡ true → FirstOf xs name M o → FirstOf (xs ++ ys) name M o
  found_left xs ys None some h = absurd (true≢false (sym some))
  found_left xs ys (Some p) some h = first_append_left name M xs ys p h

  pub never_of : (xs : List X) (o : Option P) → is_some o ≡ false → FirstOf xs name M o → IsNever (IsAt xs name M)
  never_of xs None none h = h
  never_of xs (Some p) none h = absurd (true≢false none)

  pub found_right : (xs ys : List X) (o : Option P) → IsNever (IsAt xs name M) → FirstOf ys name M o → FirstOf (xs ++ ys) name M o
  found_right xs ys None left h = never_append name M xs ys left h
  found_right xs ys (Some p) left h = first_append_right name M xs ys p left h

  pub first_within : (xs : List X) (Within : P → Type 0) → ((x : X) → Contains xs x → Within (name x)) → (o : Option P) → FirstOf xs name M o → IfSome o Within
  first_within xs Within all None h = tt
  first_within xs Within all (Some p) h = subst Within h.here.called (all h.here.item (of_at xs h.at h.here.item h.here.here))

-- reads, statement by statement
module _ (flat : Flat) (M : ℕ → Type 0) where
  pub reads_found : (i : ℕ) (s : FlatStatement) → slice_get flat.statements i ≡ Some s → (o : Option ℕ) → is_some o ≡ true → FirstOf (reads_by (statement_of [] s)) (λ (n : ℕ). n) M o →
      IsNever (IsAt (joined (λ (z : FlatStatement). reads_by (statement_of [] z)) (take i flat.statements)) (λ (n : ℕ). n) M) → FirstOf ((wires_of flat).reads ++ (wires_of flat).outputs) (λ (n : ℕ). n) M o
  reads_found i s here None some own before = absurd (true≢false (sym some))
  reads_found i s here (Some p) some own before =
      first_append_left (λ (n : ℕ). n) M (wires_of flat).reads (wires_of flat).outputs p
      (subst (λ zs. IsFirst (IsAt zs (λ (n : ℕ). n) M) p) (sym (reads_are flat))
      (first_row (λ (z : FlatStatement). reads_by (statement_of [] z)) (λ (n : ℕ). n) M flat.statements i s p here before own))

  pub reads_more : (i : ℕ) (s : FlatStatement) → slice_get flat.statements i ≡ Some s → (o : Option ℕ) → is_some o ≡ false → FirstOf (reads_by (statement_of [] s)) (λ (n : ℕ). n) M o →
      IsNever (IsAt (joined (λ (z : FlatStatement). reads_by (statement_of [] z)) (take i flat.statements)) (λ (n : ℕ). n) M) →
      IsNever (IsAt (joined (λ (z : FlatStatement). reads_by (statement_of [] z)) (take (i + 1) flat.statements)) (λ (n : ℕ). n) M)
  reads_more i s here o none own before =
      never_row_more (λ (z : FlatStatement). reads_by (statement_of [] z)) (λ (n : ℕ). n) M flat.statements i s here before (never_of (λ (n : ℕ). n) M (reads_by (statement_of [] s)) o none own)

  pub reads_last : (i : ℕ) → length flat.statements ≤ i → (outputs : List ℕ) → outputs ≡ (wires_of flat).outputs → (o : Option ℕ) → FirstOf outputs (λ (n : ℕ). n) M o →
      IsNever (IsAt (joined (λ (z : FlatStatement). reads_by (statement_of [] z)) (take i flat.statements)) (λ (n : ℕ). n) M) → FirstOf ((wires_of flat).reads ++ (wires_of flat).outputs) (λ (n : ℕ). n) M o
  reads_last i past outputs same o own before =
      let all : IsNever (IsAt (wires_of flat).reads (λ (n : ℕ). n) M) =
      subst (λ zs. IsNever (IsAt zs (λ (n : ℕ). n) M)) (sym (reads_are flat)) (never_row_all (λ (z : FlatStatement). reads_by (statement_of [] z)) (λ (n : ℕ). n) M flat.statements i past before) in
      found_right (λ (n : ℕ). n) M (wires_of flat).reads (wires_of flat).outputs o all (subst (λ zs. FirstOf zs (λ (n : ℕ). n) M o) same own)

-- a gate or latch is a row of one cell, a port of none
port_row : (out : ℕ) (reads : List ℕ) (k : FlatKind) → k ≡ kind.Port → cell_by out reads (kind_of [] k) ≡ []
port_row out reads k e = ap (λ z. cell_by out reads (kind_of [] z)) e

cell_row : (out : ℕ) (reads : List ℕ) (k : FlatKind) → (k ≡ kind.Port → ⊥) → cell_by out reads (kind_of [] k) ≡ record { out = out; reads = reads } ∷ []
cell_row out reads (kind.Gate model statement) unlike = refl
cell_row out reads (kind.Latch edge control init) unlike = refl
cell_row out reads kind.Port unlike = absurd (unlike refl)

-- cells, statement by statement
module _ (flat : Flat) (nets : List (Option ℕ)) (net : ℕ) where
  pub cells_passed : (i : ℕ) (s : FlatStatement) → slice_get flat.statements i ≡ Some s → s.kind ≡ kind.Port →
      IsNever (IsAt (joined (λ (z : FlatStatement). cell_by z.out z.reads (kind_of [] z.kind)) (take i flat.statements)) (λ (c : Cell ℕ). c.out) (λ (c : Cell ℕ). ReadsNet nets net c.reads)) →
      IsNever (IsAt (joined (λ (z : FlatStatement). cell_by z.out z.reads (kind_of [] z.kind)) (take (i + 1) flat.statements)) (λ (c : Cell ℕ). c.out) (λ (c : Cell ℕ). ReadsNet nets net c.reads))
  cells_passed i s here port before =
      never_row_more (λ (z : FlatStatement). cell_by z.out z.reads (kind_of [] z.kind)) (λ (c : Cell ℕ). c.out) (λ (c : Cell ℕ). ReadsNet nets net c.reads) flat.statements i s here before
      (subst (λ zs. IsNever (IsAt zs (λ (c : Cell ℕ). c.out) (λ (c : Cell ℕ). ReadsNet nets net c.reads))) (sym (port_row s.out s.reads s.kind port)) (never_nil (λ (c : Cell ℕ). c.out) (λ (c : Cell ℕ). ReadsNet nets net c.reads)))

  pub cells_more : (i : ℕ) (s : FlatStatement) → slice_get flat.statements i ≡ Some s → (s.kind ≡ kind.Port → ⊥) → (ReadsNet nets net s.reads → ⊥) →
      IsNever (IsAt (joined (λ (z : FlatStatement). cell_by z.out z.reads (kind_of [] z.kind)) (take i flat.statements)) (λ (c : Cell ℕ). c.out) (λ (c : Cell ℕ). ReadsNet nets net c.reads)) →
      IsNever (IsAt (joined (λ (z : FlatStatement). cell_by z.out z.reads (kind_of [] z.kind)) (take (i + 1) flat.statements)) (λ (c : Cell ℕ). c.out) (λ (c : Cell ℕ). ReadsNet nets net c.reads))
  cells_more i s here unlike none before =
      never_row_more (λ (z : FlatStatement). cell_by z.out z.reads (kind_of [] z.kind)) (λ (c : Cell ℕ). c.out) (λ (c : Cell ℕ). ReadsNet nets net c.reads) flat.statements i s here before
      (subst (λ zs. IsNever (IsAt zs (λ (c : Cell ℕ). c.out) (λ (c : Cell ℕ). ReadsNet nets net c.reads))) (sym (cell_row s.out s.reads s.kind unlike))
      (never_one (λ (c : Cell ℕ). c.out) (λ (c : Cell ℕ). ReadsNet nets net c.reads) (record { out = s.out; reads = s.reads }) none))

  pub cells_found : (i : ℕ) (s : FlatStatement) → slice_get flat.statements i ≡ Some s → (s.kind ≡ kind.Port → ⊥) → ReadsNet nets net s.reads →
      IsNever (IsAt (joined (λ (z : FlatStatement). cell_by z.out z.reads (kind_of [] z.kind)) (take i flat.statements)) (λ (c : Cell ℕ). c.out) (λ (c : Cell ℕ). ReadsNet nets net c.reads)) →
      IsFirst (IsAt (readers (wires_of flat)) (λ (c : Cell ℕ). c.out) (λ (c : Cell ℕ). ReadsNet nets net c.reads)) s.out
  cells_found i s here unlike reads before =
      first_append_left (λ (c : Cell ℕ). c.out) (λ (c : Cell ℕ). ReadsNet nets net c.reads) (wires_of flat).cells (map output_cell (wires_of flat).outputs) s.out
      (subst (λ zs. IsFirst (IsAt zs (λ (c : Cell ℕ). c.out) (λ (c : Cell ℕ). ReadsNet nets net c.reads)) s.out) (sym (cells_are flat))
      (first_row (λ (z : FlatStatement). cell_by z.out z.reads (kind_of [] z.kind)) (λ (c : Cell ℕ). c.out) (λ (c : Cell ℕ). ReadsNet nets net c.reads) flat.statements i s s.out here before
      (subst (λ zs. IsFirst (IsAt zs (λ (c : Cell ℕ). c.out) (λ (c : Cell ℕ). ReadsNet nets net c.reads)) s.out) (sym (cell_row s.out s.reads s.kind unlike))
      (first_one (λ (c : Cell ℕ). c.out) (λ (c : Cell ℕ). ReadsNet nets net c.reads) (record { out = s.out; reads = s.reads }) reads))))

  pub cells_last : (i : ℕ) → length flat.statements ≤ i → (outputs : List ℕ) → outputs ≡ (wires_of flat).outputs → (o : Option ℕ) →
      FirstOf (map output_cell outputs) (λ (c : Cell ℕ). c.out) (λ (c : Cell ℕ). ReadsNet nets net c.reads) o →
      IsNever (IsAt (joined (λ (z : FlatStatement). cell_by z.out z.reads (kind_of [] z.kind)) (take i flat.statements)) (λ (c : Cell ℕ). c.out) (λ (c : Cell ℕ). ReadsNet nets net c.reads)) →
      FirstOf (readers (wires_of flat)) (λ (c : Cell ℕ). c.out) (λ (c : Cell ℕ). ReadsNet nets net c.reads) o
  cells_last i past outputs same o own before =
      let all : IsNever (IsAt (wires_of flat).cells (λ (c : Cell ℕ). c.out) (λ (c : Cell ℕ). ReadsNet nets net c.reads)) =
      subst (λ zs. IsNever (IsAt zs (λ (c : Cell ℕ). c.out) (λ (c : Cell ℕ). ReadsNet nets net c.reads))) (sym (cells_are flat))
      (never_row_all (λ (z : FlatStatement). cell_by z.out z.reads (kind_of [] z.kind)) (λ (c : Cell ℕ). c.out) (λ (c : Cell ℕ). ReadsNet nets net c.reads) flat.statements i past before) in
      found_right (λ (c : Cell ℕ). c.out) (λ (c : Cell ℕ). ReadsNet nets net c.reads) (wires_of flat).cells (map output_cell (wires_of flat).outputs) o all
      (subst (λ zs. FirstOf (map output_cell zs) (λ (c : Cell ℕ). c.out) (λ (c : Cell ℕ). ReadsNet nets net c.reads) o) same own)

-- an output of the answer has a number below the size
pub output_within : (size : ℕ) (outputs : List ℕ) → All (λ n. n < size) outputs → (M : Cell ℕ → Type 0) (o : Option ℕ) → FirstOf (map output_cell outputs) (λ (c : Cell ℕ). c.out) M o → IfSome o (λ n. n < size)
output_within size outputs all M o h =
    first_within (λ (c : Cell ℕ). c.out) M (map output_cell outputs) (λ n. n < size)
    (λ c at. let old = Contains-map_from (output_cell {P = ℕ}) outputs c at in subst (λ (z : Cell ℕ). z.out < size) old.2 (All-contains (λ n. n < size) outputs old.0 all old.1)) o h

pub signal_within : (size : ℕ) (outputs : List ℕ) → All (λ n. n < size) outputs → (M : ℕ → Type 0) (o : Option ℕ) → FirstOf outputs (λ (n : ℕ). n) M o → IfSome o (λ n. n < size)
signal_within size outputs all M o h = first_within (λ (n : ℕ). n) M outputs (λ n. n < size) (λ n at. All-contains (λ m. m < size) outputs n all at) o h

-- nothing behind a list adds nothing
pub never_control : (xs ys : List ℕ) (M : ℕ → Type 0) → ys ≡ [] → IsNever (IsAt xs (λ (n : ℕ). n) M) → IsNever (IsAt (xs ++ ys) (λ (n : ℕ). n) M)
never_control xs ys M none h = subst (λ zs. IsNever (IsAt zs (λ (n : ℕ). n) M)) (sym (ap (λ zs. xs ++ zs) none ∙ append-nil xs)) h
