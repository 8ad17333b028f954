-- The models that lines spell. All lists of lines here have the latest line first.
use Rattle.std.specs.Prelude.{ℕ, ◌==◌, Bool, if◌then◌else◌, List, [], ◌∷◌, ◌++◌, map, reverse, length, Option, Some, None, codes, bytes_eq}
use Rattle.std.specs.List.{before_first, after_first}
use Rattle.blif_read.specs.blif_lines.sec_base.Edge.{Edge}
use Rattle.blif_read.specs.blif_lines.sec_base.Edge.TheVariants as edge
use Rattle.blif_read.specs.blif_lines.sec_base.Init.{Init}
use Rattle.blif_read.specs.blif_lines.sec_base.Init.TheVariants as init
use Rattle.base_tables.specs.Table.{is_among}
use Rattle.blif_read.specs.declared.head.Head.{Head}
use Rattle.blif_read.specs.declared.head.Head.TheVariants as head
use Rattle.blif_read.specs.declared.design.BlifModel.{BlifModel}
use Rattle.blif_read.specs.declared.design.Pair.{Pair}
use Rattle.blif_read.specs.declared.design.Statement.{Statement}
use Rattle.blif_read.specs.declared.design.Statement.TheVariants.{Names, Latch, Subckt}
use Rattle.blif_read.specs.Heads.{Line, same_head, last_or_empty, first_or_empty, but_last, rest_of}
use Rattle.blif_read.specs.Rows.{cover_of}

-- the lines of each model, the latest model first; lines before the first `.model` are in none
abbrev pub put_line : Head → Line → List (List Line) → List (List Line)
put_line head.Model line blocks = (line ∷ []) ∷ blocks
put_line h line [] = []
put_line h line (block ∷ blocks) = (line ∷ block) ∷ blocks

abbrev pub blocks_of : List Line → List (List Line)
blocks_of [] = []
blocks_of (line ∷ earlier) = put_line line.head line (blocks_of earlier)

-- the names on lines that begin so, in the order of the text
abbrev pub names_on : Head → List Line → List (List ℕ)
names_on h [] = []
names_on h (line ∷ earlier) = if same_head h line.head then names_on h earlier ++ line.args else names_on h earlier

-- the names, and after them each of the others that isn't there yet
abbrev pub with_new : List (List ℕ) → List (List ℕ) → List (List ℕ)
with_new names [] = names
with_new names (name ∷ others) = with_new (if is_among names name then names else names ++ name ∷ []) others

-- the clock names, each once
abbrev pub clocks_on : List Line → List (List ℕ)
clocks_on [] = []
clocks_on (line ∷ earlier) = if same_head head.Clock line.head then with_new (clocks_on earlier) line.args else clocks_on earlier

abbrev pub edge_of : List ℕ → Edge
edge_of kind = if bytes_eq kind (codes "re") then edge.Rising else edge.Falling

-- `NIL` stands for no control
abbrev pub control_of : List ℕ → Option (List ℕ)
control_of control = if bytes_eq control (codes "NIL") then None else Some control

abbrev pub init_of : List ℕ → Init
init_of token =
    if bytes_eq token (codes "0") then init.Zero else
    (if bytes_eq token (codes "1") then init.One else
    (if bytes_eq token (codes "2") then init.DontCare else init.Unknown))

-- the latch of these tokens; without an initial value it is 3, unknown
abbrev pub latch_of : ℕ → List (List ℕ) → Statement
latch_of line (input ∷ output ∷ []) = Latch line input output None None init.Unknown
latch_of line (input ∷ output ∷ start ∷ []) = Latch line input output None None (init_of start)
latch_of line (input ∷ output ∷ kind ∷ control ∷ []) = Latch line input output (Some (edge_of kind)) (control_of control) init.Unknown
latch_of line (input ∷ output ∷ kind ∷ control ∷ start ∷ []) = Latch line input output (Some (edge_of kind)) (control_of control) (init_of start)
latch_of line tokens = Latch line [] [] None None init.Unknown

abbrev pub is_equals : ℕ → Bool
is_equals b = b == 61

-- a pair is split at its first `=`
abbrev pub pair_of : List ℕ → Pair
pair_of token = record { formal = before_first is_equals token; actual = after_first is_equals token }

abbrev pub subckt_of : ℕ → List (List ℕ) → Statement
subckt_of line args = Subckt line (first_or_empty args) (map pair_of (rest_of args))

-- the `.names` of a line with these rows: its last name is the output
abbrev pub names_of : Line → List (List (List ℕ)) → Statement
names_of line rows = Names line.number (but_last line.args) (last_or_empty line.args) (cover_of (length (but_last line.args)) rows)

-- the statement of a line, where `rows` are the rows that come next
abbrev pub statement_of : Head → Line → List (List (List ℕ)) → List Statement
statement_of head.Names line rows = names_of line rows ∷ []
statement_of head.Latch line rows = latch_of line.number line.args ∷ []
statement_of head.Subckt line rows = subckt_of line.number line.args ∷ []
statement_of h line rows = []

abbrev pub rows_onto : Head → Line → List (List (List ℕ)) → List (List (List ℕ))
rows_onto head.Row line rows = line.args ∷ rows
rows_onto h line rows = []

-- the statements on these lines, where `rows` are the rows that come after them
abbrev pub statements_of : List (List (List ℕ)) → List Line → List Statement
statements_of rows [] = []
statements_of rows (line ∷ earlier) = statements_of (rows_onto line.head line rows) earlier ++ statement_of line.head line rows

-- the model that a model's lines spell
abbrev pub model_of : List Line → BlifModel
model_of block = record {
  name = last_or_empty (names_on head.Model block);
  inputs = names_on head.Inputs block;
  outputs = names_on head.Outputs block;
  clocks = clocks_on block;
  statements = statements_of [] block;
}

-- the models that lines spell, in the order of the text
abbrev pub models_of : List Line → List BlifModel
models_of lines = reverse (map model_of (blocks_of lines))
