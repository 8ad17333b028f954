-- Lines that the reader takes.
use Rattle.std.proofs.Common.{◌≡◌, ℕ, Bool, true, false, List, [], ◌∷◌, ◌++◌, refl, sym, ◌∙◌, ap, subst, Option, Some, None, Result}
use Rattle.circuit_theory.specs.Interface.{◌or_else◌}
use Rattle.blif_read.specs.declared.head.Head.{Head}
use Rattle.blif_read.specs.declared.head.Head.TheVariants as head
use Rattle.blif_read.specs.declared.error.ReadKind.{ReadKind}
use Rattle.blif_read.specs.declared.error.ReadKind.TheVariants as kind
use Rattle.blif_read.specs.declared.stop.Stop.{Stop}
use Rattle.blif_read.specs.declared.open_model.OpenModel.{OpenModel}
use Rattle.blif_read.specs.declared.reader.Reader.{Reader}
use Rattle.blif_read.specs.Heads.{Line, same_head}
use Rattle.blif_read.specs.Spelled.{put_line, blocks_of, names_on, models_of}
use Rattle.blif_read.specs.Fault.{guard, own_fault, row_fault, row_line_fault, last_names, open_model, open_block, unless_end}
use Rattle.blif_read.specs.State.{TookAnd, TookWord, Means, MeansModels, MeansCurrent, MeansOpen, line_with, stays}
use Rattle.blif_read.proofs.Rowed.{took_then}

-- a line after which the same model is open
abbrev pub is_inside : Head → Bool
is_inside head.Row = true
is_inside h = stays h

pub stays_inside : (h : Head) → stays h ≡ true → is_inside h ≡ true
stays_inside head.Row e = refl
stays_inside head.Model e = cc
stays_inside head.End e = cc
stays_inside head.Unsupported e = cc
stays_inside head.Unknown e = cc
stays_inside head.Inputs e = refl
stays_inside head.Outputs e = refl
stays_inside head.Clock e = refl
stays_inside head.Names e = refl
stays_inside head.Latch e = refl
stays_inside head.Subckt e = refl

put_in : (h : Head) (line : Line) (block : List Line) (earlier : List (List Line)) → is_inside h ≡ true → put_line h line (block ∷ earlier) ≡ (line ∷ block) ∷ earlier
put_in head.Model line block earlier e = cc
put_in h line block earlier e = refl

unless_in : (h : Head) (block : List Line) → is_inside h ≡ true → unless_end h block ≡ block
unless_in head.End block e = cc
unless_in h block e = refl

other_head : (h : Head) → is_inside h ≡ true → same_head head.Model h ≡ false
other_head head.Model e = cc
other_head h e = refl

-- where a model is open, what the reader's state means
pub current_of : (r : Reader) (o : OpenModel) (before : List Line) → r.current ≡ Some o → Means r before → MeansCurrent o r.models (blocks_of before)
current_of r o before is m =
    let P : Option OpenModel → Type 0 = λ c. MeansModels c r.models (blocks_of before) in
    subst P is m.models

-- a line that the open model takes
pub goes_on : (r : Reader) (o new : OpenModel) (before : List Line) (number : ℕ) (h : Head) (word : List ℕ) (args : List (List ℕ)) →
    is_inside h ≡ true → (names : r.names ≡ names_on head.Model before) → (m : MeansCurrent o r.models (blocks_of before)) →
    MeansOpen new (line_with number h word args ∷ m.block) →
    Means (record r { current = Some new }) (line_with number h word args ∷ before)
goes_on r o new before number h word args inside names m means =
    let line : Line = line_with number h word args in
    let split : blocks_of (line ∷ before) ≡ (line ∷ m.block) ∷ m.earlier = ap (put_line h line) m.split ∙ put_in h line m.block m.earlier inside in
    record {
      names = rw (other_head h inside) names;
      models = record {
        block = line ∷ m.block;
        earlier = m.earlier;
        split = split;
        open_is = ap open_block split ∙ unless_in h (line ∷ m.block) inside;
        some = refl;
        closed = m.closed;
        means = means;
      };
    }

-- a row that the open model takes
pub row_taken : (r : Reader) (o new : OpenModel) (before : List Line) (number : ℕ) (word : List ℕ) (args : List (List ℕ)) (result : Result (Unit {0}) Stop) →
    r.current ≡ Some o →
    ((block : List Line) (number : ℕ) (word : List ℕ) → MeansOpen o block → TookAnd (row_fault (last_names [] block) args) (MeansOpen new (line_with number head.Row word args ∷ block)) result) →
    Means r before →
    TookAnd (row_line_fault (open_model before) args) (Means (record r { current = Some new }) (line_with number head.Row word args ∷ before)) result
row_taken r o new before number word args result is step m =
    let cur = current_of r o before is m in
    let fault : row_line_fault (open_model before) args ≡ row_fault (last_names [] cur.block) args =
    ap (λ model. row_line_fault model args) cur.open_is ∙ ap (λ b. guard b kind.NoModel or_else row_fault (last_names [] cur.block) args) cur.some in
    let P : Option ReadKind → Type 0 = λ f. TookAnd f (Means (record r { current = Some new }) (line_with number head.Row word args ∷ before)) result in
    subst P (sym fault) (took_then (row_fault (last_names [] cur.block) args) result (λ means. goes_on r o new before number head.Row word args refl m.names cur means) (step cur.block number word cur.means))

-- a word line that the open model takes
pub statement_taken : (r : Reader) (o new : OpenModel) (number : ℕ) (h : Head) (args : List (List ℕ)) (result : Result (Unit {0}) Stop) →
    r.current ≡ Some o → stays h ≡ true →
    ((before block : List Line) (word : List ℕ) → MeansOpen o block → TookAnd (own_fault before block h args) (MeansOpen new (line_with number h word args ∷ block)) result) →
    TookWord h number args r (record r { current = Some new }) result
statement_taken r o new number h args result is within step before word m =
    let cur = current_of r o before is m in
    let P : List Line → Type 0 = λ model. TookAnd (own_fault before model h args) (Means (record r { current = Some new }) (line_with number h word args ∷ before)) result in
    subst P (sym cur.open_is) (took_then (own_fault before cur.block h args) result (λ means. goes_on r o new before number h word args (stays_inside h within) m.names cur means) (step before cur.block word cur.means))

-- a model that begins
pub begun_model : (r : Reader) (name : List ℕ) (before : List Line) (number : ℕ) (word : List ℕ) →
    r.names ≡ names_on head.Model before ++ name ∷ [] → r.models ≡ models_of before →
    r.current ≡ Some (record { name = name; inputs = []; outputs = []; clocks = []; statements = []; block = None }) →
    Means r (line_with number head.Model word (name ∷ []) ∷ before)
begun_model r name before number word names models is =
    let line : Line = line_with number head.Model word (name ∷ []) in
    let P : Option OpenModel → Type 0 = λ c. MeansModels c r.models (blocks_of (line ∷ before)) in
    record {
      names = names;
      models = subst P (sym is) (record {
        block = line ∷ [];
        earlier = blocks_of before;
        split = refl;
        open_is = refl;
        some = refl;
        closed = models;
        means = record {
          ports = record { name = refl; inputs = refl; outputs = refl; clocks = refl };
          last = record { stray = λ rows. refl; complete = λ rows. refl };
        };
      });
    }
