-- The columns that a query shows and those that it sorts by, where the schema is known to have their table at a place.
use Rattle.std.proofs.Common.{◌≡◌, refl, ℕ, ◌-◌, ◌&&◌, List, [], ◌∷◌, ◌++◌, map, Ok, None, Some, Bool, true, false, slice_get, nat_lt, suc}
use Rattle.std.proofs.lemmas.Bool.{and_parts}
use Rattle.sqlite_value.specs.declared.keys.Key.{Key}
use Rattle.sqlite_schema.specs.declared.schema.Schema.{Schema}
use Rattle.sqlite_schema.specs.declared.schema.Table.{Table}
use Rattle.sqlite_schema.specs.declared.schema.Column.{Column}
use Rattle.sqlite_schema.specs.Names.{place_of}
use Rattle.sqlite_sql.specs.Term.{Term, col}
use Rattle.sqlite_resolve.specs.Lowering.{alone}
use Rattle.sqlite_resolve.specs.declared.state.Carried.{Carried}
use Rattle.sqlite_resolve.specs.declared.state.State.{State}
use Rattle.sqlite_resolve.specs.declared.scope.Bound.{Bound}
use Rattle.sqlite_resolve.specs.declared.scope.Output.{Output}
use Rattle.sqlite_resolve.specs.Scope.{declared, alias_of}
use Rattle.sqlite_resolve.specs.Body as body
use Rattle.sqlite_resolve.specs.Order as sorting
use Rattle.sqlite_resolve.specs.Expr.{lower_to}
use Rattle.wb_sql.proofs.SelectForm.{Name, column, shown, sort}
use Rattle.wb_sql.proofs.OpenedLemmas.{out_column, out_shown}
use Rattle.wb_sql.proofs.ColumnLemmas.{over, at_budget, lower_column, find_is}
use Rattle.wb_sql.proofs.TestLemmas.{IsColumn}

declared_is : (schema : Schema) (table : Table) (c : Column) (at k : ℕ) → slice_get schema.tables at ≡ Some table → slice_get table.columns k ≡ Some c → body.declared schema at (Some k) ≡ Some c.name
unfolding body.declared
declared_is schema table c at k listed is = rw (listed, is) refl

heading_is : (schema : Schema) (table : Table) (c : Column) (at k : ℕ) (alias text : Name) (shown : List Output) (aggregates : Bool)
    → slice_get schema.tables at ≡ Some table → IsColumn table k c → body.heading (over schema at alias shown aggregates) (column c.name) text ≡ c.name
unfolding body.heading
heading_is schema table c at k alias text shown aggregates listed is =
    rw (out_column c.name, find_is schema table at k alias c.name shown aggregates listed is.named, declared_is schema table c at k listed is.is) refl

is_column_is : (name : Name) → body.is_column (column name) ≡ true
unfolding body.is_column
is_column_is name = rw (out_column name) refl

-- a column of the result
abbrev pub output_of : Table → ℕ × Column → Output
output_of table x = record { name = x.1.name; is_alias = false; is_column = true; term = col 1 (place_of table x.0); carried = declared table x.0 x.1 }

shown_is : (schema : Schema) (table : Table) (c : Column) (at k : ℕ) (alias : Name) (so_far : List Output) (aggregates : Bool) (tables : List Bound) (done : List Output) (depth next n : ℕ) (last : Carried)
    → slice_get schema.tables at ≡ Some table → IsColumn table k c → nat_lt 1 n ≡ true
    → body.shown (lower_to (suc depth)) (over schema at alias so_far aggregates) tables done (shown c.name) (at_budget next n last)
    ≡ Ok (done ++ output_of table (k, c) ∷ [], at_budget next (n - 1) (declared table k c))
unfolding body.shown
shown_is schema table c at k alias so_far aggregates tables done depth next n last listed is enough =
    rw (
      out_shown (column c.name) c.name,
      lower_column schema table c at k alias c.name so_far aggregates depth next n last listed is.named is.is enough,
      heading_is schema table c at k alias c.name so_far aggregates listed is,
      is_column_is c.name,
    ) refl

-- each is the table's column at its place
abbrev pub AreColumns : Table → List (ℕ × Column) → Type 0
AreColumns table [] = Unit {0}
AreColumns table (x ∷ xs) = IsColumn table x.0 x.1 × AreColumns table xs

-- the budget is enough for these
abbrev pub suffices : ℕ → List (ℕ × Column) → Bool
suffices n [] = true
suffices n (x ∷ xs) = nat_lt 1 n && suffices (n - 1) xs

-- what is left of the budget
abbrev pub left : ℕ → List (ℕ × Column) → ℕ
left n [] = n
left n (x ∷ xs) = left (n - 1) xs

-- what the last of them carries
abbrev pub last_of : Table → Carried → List (ℕ × Column) → Carried
last_of table last [] = last
last_of table last (x ∷ xs) = last_of table (declared table x.0 x.1) xs

-- the columns of the result, with these added
abbrev pub outputs_after : Table → List Output → List (ℕ × Column) → List Output
outputs_after table done [] = done
outputs_after table done (x ∷ xs) = outputs_after table (done ++ output_of table x ∷ []) xs

-- the name of a column
abbrev pub name_of : ℕ × Column → Name
name_of x = x.1.name

pub outputs_are : (schema : Schema) (table : Table) (at : ℕ) (alias : Name) (so_far : List Output) (aggregates : Bool) (tables : List Bound) (depth next : ℕ)
    → slice_get schema.tables at ≡ Some table
    → (xs : List (ℕ × Column)) (done : List Output) (n : ℕ) (last : Carried) → AreColumns table xs → suffices n xs ≡ true
    → body.outputs_from (lower_to (suc depth)) (over schema at alias so_far aggregates) tables done (map shown (map name_of xs)) (at_budget next n last)
    ≡ Ok (outputs_after table done xs, at_budget next (left n xs) (last_of table last xs))
outputs_are schema table at alias so_far aggregates tables depth next listed [] done n last are enough = refl
outputs_are schema table at alias so_far aggregates tables depth next listed (x ∷ xs) done n last are enough =
    rw (shown_is schema table x.1 at x.0 alias so_far aggregates tables done depth next n last listed are.0 (and_parts _ _ enough).0)
    (outputs_are schema table at alias so_far aggregates tables depth next listed xs (done ++ output_of table x ∷ []) (n - 1) (declared table x.0 x.1) are.1 (and_parts _ _ enough).1)

peeled_is : (name : Name) → sorting.peeled (column name) ≡ column name
unfolding sorting.peeled
peeled_is name = rw (out_column name) refl

alias_is : (shown : List Output) (name : Name) → sorting.alias_in shown (column name) ≡ alias_of name shown
unfolding sorting.alias_in
alias_is shown name = rw (out_column name) refl

numeral_is : (name : Name) → sorting.is_numeral (column name) ≡ false
unfolding sorting.is_numeral
numeral_is name = rw (out_column name) refl

written_is : (name : Name) → sorting.written_on (column name) ≡ None
unfolding sorting.written_on
written_is name = rw (out_column name) refl

collation_is : (name : Name) (s : State) → sorting.collation_of (column name) s ≡ Ok (alone s.last, s)
unfolding sorting.collation_of
collation_is name s = rw (written_is name) refl

key_is : (schema : Schema) (table : Table) (c : Column) (at k : ℕ) (alias : Name) (so_far shown : List Output) (aggregates : Bool) (depth next n : ℕ) (last : Carried)
    → slice_get schema.tables at ≡ Some table → IsColumn table k c → nat_lt 1 n ≡ true
    → sorting.key (lower_to (suc depth)) (over schema at alias so_far aggregates) shown (column c.name) (at_budget next n last) ≡ Ok (col 1 (place_of table k), at_budget next (n - 1) (declared table k c))
unfolding sorting.key
key_is schema table c at k alias so_far shown aggregates depth next n last listed is enough =
    rw (lower_column schema table c at k alias c.name so_far aggregates depth next n last listed is.named is.is enough, numeral_is c.name) refl

placed_is : (done : List (Term × Key)) (by : Key) (t : Term) (s : State) → sorting.placed done by None t s ≡ Ok (done ++ (t, by) ∷ [], s)
unfolding sorting.placed
placed_is done by t s = refl

-- by a column, in rising order
abbrev pub key_of : Table → ℕ × Column → Term × Key
key_of table x = (col 1 (place_of table x.0), record { collation = alone (declared table x.0 x.1); descending = false })

sort_is : (schema : Schema) (table : Table) (c : Column) (at k : ℕ) (alias : Name) (so_far shown : List Output) (aggregates : Bool) (done : List (Term × Key)) (depth next n : ℕ) (last : Carried)
    → slice_get schema.tables at ≡ Some table → IsColumn table k c → alias_of c.name shown ≡ None → nat_lt 1 n ≡ true
    → sorting.sort (lower_to (suc depth)) (over schema at alias so_far aggregates) shown done (sort c.name) (at_budget next n last)
    ≡ Ok (done ++ key_of table (k, c) ∷ [], at_budget next (n - 1) (declared table k c))
unfolding sorting.sort
sort_is schema table c at k alias so_far shown aggregates done depth next n last listed is free enough =
    rw (
      peeled_is c.name,
      alias_is shown c.name,
      free,
      key_is schema table c at k alias so_far shown aggregates depth next n last listed is enough,
      collation_is c.name (at_budget next (n - 1) (declared table k c)),
      placed_is done (key_of table (k, c)).1 (col 1 (place_of table k)) (at_budget next (n - 1) (declared table k c)),
    ) refl

-- no column of the result has one of these names as an alias
abbrev pub are_free : List Output → List (ℕ × Column) → Type 0
are_free shown [] = Unit {0}
are_free shown (x ∷ xs) = (alias_of x.1.name shown ≡ None) × are_free shown xs

-- what is sorted by, with these added
abbrev pub keys_after : Table → List (Term × Key) → List (ℕ × Column) → List (Term × Key)
keys_after table done [] = done
keys_after table done (x ∷ xs) = keys_after table (done ++ key_of table x ∷ []) xs

pub sorts_are : (schema : Schema) (table : Table) (at : ℕ) (alias : Name) (so_far shown : List Output) (aggregates : Bool) (depth next : ℕ)
    → slice_get schema.tables at ≡ Some table
    → (xs : List (ℕ × Column)) (done : List (Term × Key)) (n : ℕ) (last : Carried) → AreColumns table xs → are_free shown xs → suffices n xs ≡ true
    → sorting.sorts_from (lower_to (suc depth)) (over schema at alias so_far aggregates) shown done (map sort (map name_of xs)) (at_budget next n last)
    ≡ Ok (keys_after table done xs, at_budget next (left n xs) (last_of table last xs))
sorts_are schema table at alias so_far shown aggregates depth next listed [] done n last are free enough = refl
sorts_are schema table at alias so_far shown aggregates depth next listed (x ∷ xs) done n last are free enough =
    rw (sort_is schema table x.1 at x.0 alias so_far shown aggregates done depth next n last listed are.0 free.0 (and_parts _ _ enough).0)
    (sorts_are schema table at alias so_far shown aggregates depth next listed xs (done ++ key_of table x ∷ []) (n - 1) (declared table x.0 x.1) are.1 free.1 (and_parts _ _ enough).1)
