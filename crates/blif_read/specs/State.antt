-- What a step of the reader says of the lines before, and what the reader's state means.
use Rattle.std.specs.Prelude.{◌≡◌, ℕ, Bool, true, false, not, List, [], ◌∷◌, ◌++◌, ◌+◌, map, reverse, length, Option, Some, None, Result, Ok, Err}
use Rattle.blif_read.specs.blif_lines.sec_base.Init.{Init}
use Rattle.blif_read.specs.blif_lines.sec_base.Edge.{Edge}
use Rattle.std.specs.List.{filter}
use Rattle.blif_read.specs.declared.blif_lines.line.RawLine.{RawLine}
use Rattle.blif_read.specs.blif_lines.Lines.{is_empty, token_line}
use Rattle.blif_read.specs.declared.head.Head.{Head}
use Rattle.blif_read.specs.declared.head.Head.TheVariants as head
use Rattle.blif_read.specs.declared.error.ReadKind.{ReadKind}
use Rattle.blif_read.specs.declared.error.ReadError.{ReadError}
use Rattle.blif_read.specs.declared.error.ReadError.TheVariants as read
use Rattle.blif_read.specs.declared.design.Statement.{Statement}
use Rattle.blif_read.specs.declared.design.BlifModel.{BlifModel}
use Rattle.blif_read.specs.declared.block.Block.{Block}
use Rattle.blif_read.specs.declared.open_model.OpenModel.{OpenModel}
use Rattle.blif_read.specs.declared.reader.Reader.{Reader}
use Rattle.blif_read.specs.declared.stop.Stop.{Stop}
use Rattle.blif_read.specs.declared.stop.Stop.TheVariants as stop
use Rattle.blif_read.specs.Heads.{Line, line_of, lines_of, headed, last_or_empty, but_last}
use Rattle.blif_read.specs.Rows.{cover_of}
use Rattle.blif_read.specs.Spelled.{edge_of, init_of, blocks_of, names_on, clocks_on, names_of, statements_of, model_of}
use Rattle.blif_read.specs.Fault.{type_fault, init_fault, open_block, open_model, last_names, own_fault, fault_of}
use Rattle.blif_read.specs.Reading.{first_fault_after, back_over, spelled}

-- a part of a line was read: it has this fault, or none and this value
abbrev pub Took : {X : Type 0} → Option ReadKind → X → Result X Stop → Type 0
Took fault value (Ok read) = (fault ≡ None) × (read ≡ value)
Took fault value (Err stop.NoMemory) = Unit {0}
Took fault value (Err (stop.Fault k)) = fault ≡ Some k

abbrev pub TookEdge : List ℕ → Result Edge Stop → Type 0
TookEdge word result = Took (type_fault word) (edge_of word) result

abbrev pub TookInit : List ℕ → Result Init Stop → Type 0
TookInit word result = Took (init_fault word) (init_of word) result

abbrev pub TookStatement : Option ReadKind → Statement → Result Statement Stop → Type 0
TookStatement fault statement result = Took fault statement result

-- a part of a text was read: it has this fault, or none, and then this holds
abbrev pub TookAnd : Option ReadKind → Type 0 → Result (Unit {0}) Stop → Type 0
TookAnd fault Holds (Ok u) = (fault ≡ None) × Holds
TookAnd fault Holds (Err stop.NoMemory) = Unit {0}
TookAnd fault Holds (Err (stop.Fault k)) = fault ≡ Some k

-- the state of an open model: its name and ports are those on its lines, the latest of them first
pub record MeansPorts (o : OpenModel) (block : List Line) : Type 0 where
  pub name : o.name ≡ last_or_empty (names_on head.Model block)
  pub inputs : o.inputs ≡ names_on head.Inputs block
  pub outputs : o.outputs ≡ names_on head.Outputs block
  pub clocks : o.clocks ≡ clocks_on block

-- the `.names` whose rows are read, after these statements of the same lines
pub record MeansBlock (b : Block) (before : List Statement) (block : List Line) : Type 0 where
  pub line : Line
  -- its rows so far
  pub sofar : List (List (List ℕ))
  pub found : (rows : List (List (List ℕ))) → last_names rows block ≡ Some (line, sofar ++ rows)
  pub spelled : (rows : List (List (List ℕ))) → statements_of rows block ≡ before ++ names_of line (sofar ++ rows) ∷ []
  pub number : b.line ≡ line.number
  pub fanins : b.fanins ≡ but_last line.args
  pub out : b.out ≡ last_or_empty line.args
  pub cover : b.cover ≡ cover_of (length (but_last line.args)) sofar

-- no `.names` is read: a row would be stray, and the statements are complete
pub record MeansNoBlock (before : List Statement) (block : List Line) : Type 0 where
  pub stray : (rows : List (List (List ℕ))) → last_names rows block ≡ None
  pub complete : (rows : List (List (List ℕ))) → statements_of rows block ≡ before

abbrev pub MeansLast : Option Block → List Statement → List Line → Type 0
MeansLast (Some b) before block = MeansBlock b before block
MeansLast None before block = MeansNoBlock before block

-- the state of an open model is what its lines spell
pub record MeansOpen (o : OpenModel) (block : List Line) : Type 0 where
  pub ports : MeansPorts o block
  pub last : MeansLast o.block o.statements block

-- the same where no `.names` is read any more
pub record MeansEnded (o : OpenModel) (block : List Line) : Type 0 where
  pub ports : MeansPorts o block
  pub ended : o.block ≡ None
  pub complete : statements_of [] block ≡ o.statements

-- a model is open, and the models before it are closed
pub record MeansCurrent (o : OpenModel) (models : List BlifModel) (blocks : List (List Line)) : Type 0 where
  pub block : List Line
  pub earlier : List (List Line)
  pub split : blocks ≡ block ∷ earlier
  pub open_is : open_block blocks ≡ block
  pub some : is_empty block ≡ false
  pub closed : models ≡ reverse (map model_of earlier)
  pub means : MeansOpen o block

-- no model is open
pub record MeansClosed (models : List BlifModel) (blocks : List (List Line)) : Type 0 where
  pub none : open_block blocks ≡ []
  pub closed : models ≡ reverse (map model_of blocks)

abbrev pub MeansModels : Option OpenModel → List BlifModel → List (List Line) → Type 0
MeansModels (Some o) models blocks = MeansCurrent o models blocks
MeansModels None models blocks = MeansClosed models blocks

-- the state of the reader is what the lines before spell, of which the latest is first
pub record Means (r : Reader) (before : List Line) : Type 0 where
  pub names : r.names ≡ names_on head.Model before
  pub models : MeansModels r.current r.models (blocks_of before)

-- the state has taken the lines before, none of them faulty, and these are left of the whole
pub record ReadTo (whole left : List Line) (r : Reader) : Type 0 where
  pub before : List Line
  pub means : Means r before
  pub fault : first_fault_after [] whole ≡ first_fault_after before left
  pub lines : back_over [] whole ≡ back_over before left

-- a word of the format
abbrev pub is_word : Head → Bool
is_word head.Row = false
is_word head.Unsupported = false
is_word head.Unknown = false
is_word h = true

-- a word whose line stays in the model that is open
abbrev pub stays : Head → Bool
stays head.Inputs = true
stays head.Outputs = true
stays head.Clock = true
stays head.Names = true
stays head.Latch = true
stays head.Subckt = true
stays h = false

abbrev pub line_with : ℕ → Head → List ℕ → List (List ℕ) → Line
line_with number h word args = record { number = number; head = h; word = word; args = args }

-- the model, in which no `.names` is read, has taken a line
abbrev pub TookIn : Head → ℕ → List (List ℕ) → OpenModel → OpenModel → Result (Unit {0}) Stop → Type 0
TookIn h number args old new result =
    (before block : List Line) (word : List ℕ) → MeansEnded old block →
    TookAnd (own_fault before block h args) (MeansOpen new (line_with number h word args ∷ block)) result

-- the reader has taken a word line after these lines
abbrev pub TookWord : Head → ℕ → List (List ℕ) → Reader → Reader → Result (Unit {0}) Stop → Type 0
TookWord h number args old new result =
    (before : List Line) (word : List ℕ) → Means old before →
    TookAnd (own_fault before (open_model before) h args) (Means new (line_with number h word args ∷ before)) result

-- the reader has taken a line of these tokens, which may be none
abbrev pub TookLine : ℕ → List (List ℕ) → List Line → Reader → Result (Unit {0}) ReadError → Type 0
TookLine number tokens before new (Err read.NoMemory) = Unit {0}
TookLine number [] before new (Ok u) = Means new before
TookLine number [] before new (Err (read.At line kind)) = ⊥
TookLine number (t ∷ ts) before new (Ok u) = (fault_of before (line_of number (t ∷ ts)) ≡ None) × Means new (line_of number (t ∷ ts) ∷ before)
TookLine number (t ∷ ts) before new (Err (read.At line kind)) = (line ≡ number) × (fault_of before (line_of number (t ∷ ts)) ≡ Some kind)

-- the lines that have tokens
abbrev pub lines_among : List RawLine → List Line
lines_among raws = map headed (filter (λ line. not (is_empty line.tokens)) (map token_line raws))

-- all lines of the text were taken, or this is the first fault of a line
abbrev pub TookLines : List ℕ → Reader → Result (Unit {0}) ReadError → Type 0
TookLines text new (Ok u) = ReadTo (lines_of text) [] new
TookLines text new (Err read.NoMemory) = Unit {0}
TookLines text new (Err (read.At line kind)) = first_fault_after [] (lines_of text) ≡ Some (record { line = line; kind = kind })

-- no line of the text is faulty, and these are the models that it spells, or this is the first fault of a line
abbrev pub ReadModels : List ℕ → Result (List BlifModel) ReadError → Type 0
ReadModels text (Ok models) = (first_fault_after [] (lines_of text) ≡ None) × (models ≡ spelled text)
ReadModels text (Err read.NoMemory) = Unit {0}
ReadModels text (Err (read.At line kind)) = first_fault_after [] (lines_of text) ≡ Some (record { line = line; kind = kind })

-- an open model of this name, of which no line was read yet
abbrev pub new_model : List ℕ → OpenModel
new_model name = record { name = name; inputs = []; outputs = []; clocks = []; statements = []; block = None }

-- the bytes of these lines
abbrev pub bytes_of : List RawLine → ℕ
bytes_of [] = 0
bytes_of (raw ∷ raws) = length raw.bytes + bytes_of raws

-- the refusal of a line with this number
abbrev pub refusal_at : ℕ → Stop → ReadError
refusal_at line stop.NoMemory = read.NoMemory
refusal_at line (stop.Fault kind) = read.At line kind

-- what a line gives, by its number and what its tokens gave
abbrev pub answer_at : ℕ → Result (Unit {0}) Stop → Result (Unit {0}) ReadError
answer_at line (Ok u) = Ok u
answer_at line (Err stop) = Err (refusal_at line stop)
