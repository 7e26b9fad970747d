-- What the resolver reads of a schema, where the schema is known to have a table at a place.
use Rattle.std.proofs.Common.{◌≡◌, cond, refl, ℕ, pos, ◌-◌, List, [], ◌∷◌, Ok, None, Some, Bool, true, false, slice_get}
use Rattle.std.proofs.Common.{nat_lt, suc, ◌==◌}
use Rattle.sqlite_schema.specs.declared.schema.Schema.{Schema}
use Rattle.sqlite_schema.specs.declared.schema.Table.{Table}
use Rattle.sqlite_schema.specs.declared.schema.Column.{Column}
use Rattle.sqlite_schema.specs.Names.{column_named, place_of}
use Rattle.sqlite_value.specs.declared.value.Value.TheVariants.{Int}
use Rattle.sqlite_sql.specs.Term.{Term, lit, col, op2}
use Rattle.sqlite_resolve.specs.Lowering.{Lowering, nothing, spend, begin, finish}
use Rattle.sqlite_resolve.specs.declared.state.Carried.{Carried}
use Rattle.sqlite_resolve.specs.declared.state.State.{State}
use Rattle.sqlite_resolve.specs.declared.scope.Output.{Output}
use Rattle.sqlite_resolve.specs.declared.scope.Bound.{Bound}
use Rattle.sqlite_resolve.specs.declared.scope.Found.TheVariants as found
use Rattle.sqlite_resolve.specs.Scope.{Context, find, in_level, only, hit, column_in, is_among, column_at, declared, column as scope_column, term_of}
use Rattle.sqlite_resolve.specs.Expr.{lower_to, node, opened, passes}
use Rattle.sqlite_ast.specs.declared.Expr.{Expr}
use Rattle.sqlite_sql.specs.declared.ops.BinaryOp.{BinaryOp}
use Rattle.sqlite_resolve.specs.declared.compare.Affinity.{Affinity}
use Rattle.sqlite_resolve.specs.declared.compare.Affinity.TheVariants as affinity
use Rattle.sqlite_resolve.specs.Compare.{converted, may_be_text, spelled, of_column, of_declared, affinity_of, compared}
use Rattle.sqlite_resolve.specs.declared.state.Passes.TheVariants as hands
use Rattle.wb_sql.proofs.OpenedLemmas.{out_column}
use Rattle.wb_sql.proofs.SelectForm.{Name, column}

-- a table of FROM, in the first slot
abbrev pub bound_at : ℕ → Name → Bound
bound_at at name = record { name = name; table = at; slot = 1; shared = [] }

-- the table alone, with these columns of the result
abbrev pub over : Schema → ℕ → Name → List Output → Bool → Context
over schema at name shown aggregates = record { schema = schema; levels = record { tables = bound_at at name ∷ []; shown = shown } ∷ []; may_aggregate = aggregates; may_alias = true }

-- a state with this budget, in which nothing was collected
abbrev pub at_budget : ℕ → ℕ → Carried → State
at_budget next n last = record { next = next; steps = []; aggregates = []; budget = n; written = None; last = last }

pub find_is : (schema : Schema) (table : Table) (at k : ℕ) (alias name : Name) (shown : List Output) (aggregates : Bool)
    → slice_get schema.tables at ≡ Some table → column_named table name ≡ Some k → find (over schema at alias shown aggregates) None name ≡ Ok (found.Column 1 at k)
unfolding find in_level only hit column_in is_among
find_is schema table at k alias name shown aggregates listed named = rw (listed, named) refl

column_at_is : (schema : Schema) (table : Table) (c : Column) (at k : ℕ)
    → slice_get schema.tables at ≡ Some table → slice_get table.columns k ≡ Some c → column_at schema 1 at k ≡ Ok (col 1 (place_of table k), declared table k c)
unfolding column_at
column_at_is schema table c at k listed is = rw (listed, is) refl

pub column_is : (schema : Schema) (table : Table) (c : Column) (at k : ℕ) (alias name : Name) (shown : List Output) (aggregates : Bool) (s : State)
    → slice_get schema.tables at ≡ Some table → column_named table name ≡ Some k → slice_get table.columns k ≡ Some c
    → scope_column (over schema at alias shown aggregates) None name s ≡ Ok (col 1 (place_of table k), record s { last = declared table k c })
unfolding scope_column term_of
column_is schema table c at k alias name shown aggregates s listed named is =
    rw (find_is schema table at k alias name shown aggregates listed named, column_at_is schema table c at k listed is) refl

opened_is : (schema : Schema) (table : Table) (c : Column) (at k : ℕ) (alias name : Name) (shown : List Output) (aggregates : Bool) (lower : Context → Expr → Lowering Term) (s : State)
    → slice_get schema.tables at ≡ Some table → column_named table name ≡ Some k → slice_get table.columns k ≡ Some c
    → opened lower (over schema at alias shown aggregates) (column name) s ≡ Ok (col 1 (place_of table k), record s { last = declared table k c })
unfolding opened
opened_is schema table c at k alias name shown aggregates lower s listed named is = rw (out_column name) (column_is schema table c at k alias name shown aggregates s listed named is)

passes_column : (name : Name) → passes (column name) ≡ hands.All
unfolding passes
passes_column name = rw (out_column name) refl

pub lower_column : (schema : Schema) (table : Table) (c : Column) (at k : ℕ) (alias name : Name) (shown : List Output) (aggregates : Bool) (depth next n : ℕ) (last : Carried)
    → slice_get schema.tables at ≡ Some table → column_named table name ≡ Some k → slice_get table.columns k ≡ Some c → nat_lt 1 n ≡ true
    → lower_to (suc depth) (over schema at alias shown aggregates) (column name) (at_budget next n last) ≡ Ok (col 1 (place_of table k), at_budget next (n - 1) (declared table k c))
unfolding lower_to node spend begin finish
lower_column schema table c at k alias name shown aggregates depth next n last listed named is enough =
    rw (enough, opened_is schema table c at k alias name shown aggregates (lower_to depth) (at_budget next (n - 1) nothing) listed named is, passes_column name) refl

-- a column that a comparison with a parameter leaves as it is
abbrev pub is_plain : Affinity → Bool
is_plain affinity.Numeric = true
is_plain affinity.Text = true
is_plain _ = false

converted_left : (a : Affinity) (t : Term) → converted a affinity.None t ≡ t
unfolding converted
converted_left affinity.Numeric t = refl
converted_left affinity.Text t = refl
converted_left affinity.Blob t = refl
converted_left affinity.Loose t = refl
converted_left affinity.None t = refl

converted_right : (a : Affinity) (n : ℕ) → is_plain a ≡ true → converted affinity.None a (col 0 n) ≡ col 0 n
unfolding converted may_be_text spelled
converted_right affinity.Numeric n p = refl
converted_right affinity.Text n p = refl
converted_right affinity.Blob n p = refl
converted_right affinity.Loose n p = search p
converted_right affinity.None n p = refl

of_column_is : (schema : Schema) (table : Table) (c : Column) (at k : ℕ) (alias : Name) (shown : List Output) (aggregates : Bool)
    → slice_get schema.tables at ≡ Some table → slice_get table.columns k ≡ Some c → of_column (over schema at alias shown aggregates) 1 (suc k) ≡ of_declared c
unfolding of_column
of_column_is schema table c at k alias shown aggregates listed is = rw (listed, is) refl

either_way : (b : Bool) → cond b affinity.None affinity.None ≡ affinity.None
either_way true = refl
either_way false = refl

parameter_is : (schema : Schema) (at n : ℕ) (alias : Name) (shown : List Output) (aggregates : Bool) → of_column (over schema at alias shown aggregates) 0 n ≡ affinity.None
unfolding of_column
parameter_is schema at n alias shown aggregates = either_way (n == 0)

pub compared_is : (schema : Schema) (table : Table) (c : Column) (at k n : ℕ) (alias : Name) (shown : List Output) (aggregates : Bool) (op : BinaryOp)
    → slice_get schema.tables at ≡ Some table → slice_get table.columns k ≡ Some c → is_plain (of_declared c) ≡ true
    → compared (over schema at alias shown aggregates) op (col 1 (suc k)) (col 0 n) ≡ op2 op (col 1 (suc k)) (col 0 n)
unfolding compared affinity_of
compared_is schema table c at k n alias shown aggregates op listed is plain =
    rw (of_column_is schema table c at k alias shown aggregates listed is, parameter_is schema at n alias shown aggregates, converted_left (of_declared c) (col 1 (suc k)), converted_right (of_declared c) n plain) refl

-- the same of a column of numbers and 0
pub compared_zero : (schema : Schema) (table : Table) (c : Column) (at k : ℕ) (alias : Name) (shown : List Output)
    (aggregates : Bool) (op : BinaryOp)
    → slice_get schema.tables at ≡ Some table → slice_get table.columns k ≡ Some c → of_declared c ≡ affinity.Numeric
    → compared (over schema at alias shown aggregates) op (col 1 (suc k)) (lit (Int (pos 0))) ≡ op2 op (col 1 (suc k))
    (lit (Int (pos 0)))
unfolding compared affinity_of converted may_be_text
compared_zero schema table c at k alias shown aggregates op listed is numeric =
    rw (of_column_is schema table c at k alias shown aggregates listed is, numeric) refl

rowid_is : (schema : Schema) (at : ℕ) (alias : Name) (shown : List Output) (aggregates : Bool) → of_column (over schema at alias shown aggregates) 1 0 ≡ affinity.Numeric
unfolding of_column
rowid_is schema at alias shown aggregates = refl

-- the same of the rowid
pub rowid_compared_is : (schema : Schema) (at n : ℕ) (alias : Name) (shown : List Output) (aggregates : Bool) (op : BinaryOp)
    → compared (over schema at alias shown aggregates) op (col 1 0) (col 0 n) ≡ op2 op (col 1 0) (col 0 n)
unfolding compared affinity_of
rowid_compared_is schema at n alias shown aggregates op =
    rw (rowid_is schema at alias shown aggregates, parameter_is schema at n alias shown aggregates, converted_left affinity.Numeric (col 1 0), converted_right affinity.Numeric n refl) refl
