-- Word lines that a model takes.
use Rattle.std.proofs.Common.{◌≡◌, ℕ, List, [], ◌∷◌, ◌++◌, length, refl, sym, ap, subst, Some, Result}
use Rattle.blif_read.specs.declared.head.Head.{Head}
use Rattle.blif_read.specs.declared.head.Head.TheVariants as head
use Rattle.blif_read.specs.declared.stop.Stop.{Stop}
use Rattle.blif_read.specs.declared.block.Block.{Block}
use Rattle.blif_read.specs.declared.open_model.OpenModel.{OpenModel}
use Rattle.blif_read.specs.Heads.{Line, but_last, last_or_empty}
use Rattle.blif_read.specs.Rows.{cover_of}
use Rattle.blif_read.specs.Spelled.{names_of}
use Rattle.blif_read.specs.Fault.{own_fault}
use Rattle.blif_read.specs.State.{TookAnd, TookIn, MeansOpen, MeansEnded, MeansBlock, line_with}

-- a line after whose head was looked at, and before which the rows were ended
pub in_head : (h k : Head) (number : ℕ) (args : List (List ℕ)) (old mid new : OpenModel) (result : Result (Unit {0}) Stop) → h ≡ k →
    ((block : List Line) → MeansOpen old block → MeansEnded mid block) → TookIn k number args mid new result →
    (before block : List Line) (word : List ℕ) → MeansOpen old block →
    TookAnd (own_fault before block h args) (MeansOpen new (line_with number h word args ∷ block)) result
in_head h k number args old mid new result is ended took before block word means =
    let P : Head → Type 0 = λ v. TookAnd (own_fault before block v args) (MeansOpen new (line_with number v word args ∷ block)) result in
    subst P (sym is) (took before block word (ended block means))

-- a `.names` line begins a cover without rows
pub begun : (o : OpenModel) (b : Block) (block : List Line) (number : ℕ) (word : List ℕ) (args : List (List ℕ)) →
    b ≡ record { line = number; fanins = but_last args; out = last_or_empty args; cover = cover_of (length (but_last args)) [] } → MeansEnded o block →
    MeansOpen (record o { block = Some b }) (line_with number head.Names word args ∷ block)
begun o b block number word args is m =
    let L : Block → Type 0 = λ n. MeansBlock n o.statements (line_with number head.Names word args ∷ block) in
    record {
      ports = record { name = m.ports.name; inputs = m.ports.inputs; outputs = m.ports.outputs; clocks = m.ports.clocks };
      last = subst L (sym is) (record {
        line = line_with number head.Names word args;
        sofar = [];
        found = λ rows. refl;
        spelled = λ rows. ap (λ ss. ss ++ names_of (line_with number head.Names word args) rows ∷ []) m.complete;
        number = refl;
        fanins = refl;
        out = refl;
        cover = refl;
      });
    }
