-- A row that is taken under the current `.names`.
use Rattle.std.proofs.Common.{◌≡◌, ℕ, List, [], ◌∷◌, ◌++◌, length, refl, sym, ◌∙◌, ap, subst, append_assoc, Option, Some, Result, Ok, Err}
use Rattle.std.proofs.lemmas.List.{append-nil}
use Rattle.blif_read.specs.declared.head.Head.TheVariants as head
use Rattle.blif_read.specs.declared.error.ReadKind.{ReadKind}
use Rattle.blif_read.specs.declared.stop.Stop.{Stop}
use Rattle.blif_read.specs.declared.stop.Stop.TheVariants as stop
use Rattle.blif_read.specs.declared.block.Block.{Block}
use Rattle.blif_read.specs.declared.open_model.OpenModel.{OpenModel}
use Rattle.blif_read.specs.declared.design.Statement.{Statement}
use Rattle.blif_read.specs.Heads.{Line, but_last}
use Rattle.blif_read.specs.Rows.{cover_of}
use Rattle.blif_read.specs.Spelled.{names_of, statements_of}
use Rattle.blif_read.specs.Fault.{row_fault, row_fault_after, last_names}
use Rattle.blif_read.specs.State.{TookAnd, MeansOpen, MeansBlock, MeansLast}

-- what holds after a part that was read
pub took_then : {A B : Type 0} (fault : Option ReadKind) (result : Result (Unit {0}) Stop) → (A → B) → TookAnd fault A result → TookAnd fault B result
took_then fault (Ok u) f t = (t.0, f t.1)
took_then fault (Err stop.NoMemory) f t = tt
took_then fault (Err (stop.Fault k)) f t = t

abbrev pub row_line : ℕ → List ℕ → List (List ℕ) → Line
row_line number word tokens = record { number = number; head = head.Row; word = word; args = tokens }

row_block : (b : Block) (before : List Statement) (block : List Line) (number : ℕ) (word : List ℕ) (tokens : List (List ℕ)) →
    (m : MeansBlock b before block) →
    MeansBlock (record b { cover = cover_of (length (but_last m.line.args)) (m.sofar ++ tokens ∷ []) }) before (row_line number word tokens ∷ block)
row_block b before block number word tokens m = record {
  line = m.line;
  sofar = m.sofar ++ tokens ∷ [];
  found = λ rows. m.found (tokens ∷ rows) ∙ ap (λ r. Some (m.line, r)) (sym (append_assoc m.sofar (tokens ∷ []) rows));
  spelled = λ rows. append-nil (statements_of (tokens ∷ rows) block) ∙ m.spelled (tokens ∷ rows) ∙ ap (λ r. before ++ names_of m.line r ∷ []) (sym (append_assoc m.sofar (tokens ∷ []) rows));
  number = m.number;
  fanins = m.fanins;
  out = m.out;
  cover = refl;
}

-- a row that the current `.names` takes is taken by the model
pub row_in : (o : OpenModel) (b new : Block) (block : List Line) (number : ℕ) (word : List ℕ) (tokens : List (List ℕ)) (result : Result (Unit {0}) Stop) →
    o.block ≡ Some b →
    ((width : ℕ) (rows : List (List (List ℕ))) → b.cover ≡ cover_of width rows →
    TookAnd (row_fault_after width rows tokens) (new ≡ record b { cover = cover_of width (rows ++ tokens ∷ []) }) result) →
    MeansOpen o block →
    TookAnd (row_fault (last_names [] block) tokens) (MeansOpen (record o { block = Some new }) (row_line number word tokens ∷ block)) result
row_in o b new block number word tokens result is step m =
    let L : Option Block → Type 0 = λ last. MeansLast last o.statements block in
    let last : MeansBlock b o.statements block = subst L is m.last in
    let found : last_names [] block ≡ Some (last.line, last.sofar) = last.found [] ∙ ap (λ r. Some (last.line, r)) (append-nil last.sofar) in
    let F : Option (Line × List (List (List ℕ))) → Type 0 = λ names. TookAnd (row_fault names tokens) (MeansOpen (record o { block = Some new }) (row_line number word tokens ∷ block)) result in
    subst F (sym found)
    (took_then (row_fault_after (length (but_last last.line.args)) last.sofar tokens) result
    (λ (e : new ≡ record b { cover = cover_of (length (but_last last.line.args)) (last.sofar ++ tokens ∷ []) }).
    let P : Block → Type 0 = λ n. MeansBlock n o.statements (row_line number word tokens ∷ block) in
    record {
      ports = record { name = m.ports.name; inputs = m.ports.inputs; outputs = m.ports.outputs; clocks = m.ports.clocks };
      last = subst P (sym e) (row_block b o.statements block number word tokens last);
    })
    (step (length (but_last last.line.args)) last.sofar last.cover))
