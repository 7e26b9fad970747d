-- The SELECT statements on one table: columns of it, columns that equal parameters or are at least 0, an order by
-- columns, a limit.
use Rattle.std.proofs.Common.{ℕ, List, [], ◌∷◌, codes, None, Some, map, Option, false}
use Rattle.sqlite_ast.specs.declared.Expr.{Expr, roll-Expr}
use Rattle.sqlite_ast.specs.declared.Expr.TheOpen.{Expr-F, Shown-F}
use Rattle.sqlite_ast.specs.declared.Binary.TheVariants as binary
use Rattle.sqlite_ast.specs.declared.Shown.{Shown, roll-Shown}
use Rattle.sqlite_ast.specs.declared.Source.{Source, roll-Source}
use Rattle.sqlite_ast.specs.declared.Origin.TheVariants as origin
use Rattle.sqlite_ast.specs.declared.Sort.{Sort, roll-Sort}
use Rattle.sqlite_ast.specs.declared.Core.{Core, roll-Core}
use Rattle.sqlite_ast.specs.declared.Select.{Select, roll-Select}
use Rattle.sqlite_ast.specs.declared.Statement.{Statement}
use Rattle.sqlite_syntax.specs.declared.statement.Parsed.{Parsed}

-- a name as its bytes
abbrev pub Name : Type 0
Name = List ℕ

-- a column by its name alone
abbrev pub column : Name → Expr
column name = roll-Expr (Expr-F.Column None name)

-- a column equals the parameter of this number
abbrev pub test : Name × ℕ → Expr
test t = roll-Expr (Expr-F.Binary binary.Eq (column t.0) (roll-Expr (Expr-F.Parameter t.1)))

-- a column is at most the parameter of this number
abbrev pub bound : Name × ℕ → Expr
bound t = roll-Expr (Expr-F.Binary binary.Le (column t.0) (roll-Expr (Expr-F.Parameter t.1)))

-- the number 0
abbrev pub zero_number : Expr
zero_number = roll-Expr (Expr-F.Integer (codes "0"))

-- a column is at least 0
abbrev pub from_zero : Name → Expr
from_zero name = roll-Expr (Expr-F.Binary binary.Ge (column name) zero_number)

-- a column of the result, with no other name
abbrev pub shown : Name → Shown
shown name = roll-Shown (Shown-F.One (column name) None name)

-- a table of FROM
abbrev pub source : Name → Source
source name = roll-Source (record { is_left = false; origin = origin.Table name; alias = None; on = None; using = [] })

-- in rising order of a column
abbrev pub sort : Name → Sort
sort name = roll-Sort (record { key = column name; descending = false; nulls_first = None })

-- AND with more tests
abbrev pub where_from : Expr → List (Name × ℕ) → Expr
where_from e [] = e
where_from e (t ∷ ts) = where_from (roll-Expr (Expr-F.Binary binary.And e (test t))) ts

-- what stands after WHERE, if there are tests
abbrev pub where_of : List (Name × ℕ) → Option Expr
where_of [] = None
where_of (t ∷ ts) = Some (where_from (test t) ts)

-- SELECT names FROM table with this WHERE
abbrev pub core : Name → List Name → Option Expr → Core
core table names filter =
    roll-Core (record {
      distinct =
          false;
      shown = map shown names;
      from = source table ∷ [];
      filter = filter;
      group = [];
      having = None;
    })

-- the same with ORDER BY and LIMIT
abbrev pub select_by : Name → List Name → Option Expr → List Name → Option Expr → Select
select_by table names filter order limit =
    roll-Select (record {
      with =
          [];
      first = core table names filter;
      others = [];
      order = map sort order;
      limit = limit;
      offset = None;
    })

-- its WHERE has tests
abbrev pub select : Name → List Name → List (Name × ℕ) → List Name → Option Expr → Select
select table names tests = select_by table names (where_of tests)

-- a text of this one statement, which does not ask for the time
abbrev pub parsed : Statement → List Name → ℕ → ℕ → ℕ → Parsed
parsed s names start end tail = record { statement = s; names = names; formats = []; start = start; end = end; tail = tail }
