-- The command of a SELECT on one table, from its parts alone.
use Rattle.std.proofs.Common.{◌≡◌, refl, ℕ, pos, ◌-◌, nat_lt, ◌&&◌, List, [], ◌∷◌, map, Ok, None, Some, Option, Bool}
use Rattle.std.proofs.Common.{true, false, slice_get, suc}
use Rattle.std.proofs.lemmas.Bool.{and_parts}
use Rattle.sqlite_schema.specs.declared.schema.Schema.{Schema}
use Rattle.sqlite_schema.specs.declared.schema.Table.{Table}
use Rattle.sqlite_schema.specs.declared.schema.Column.{Column}
use Rattle.sqlite_schema.specs.declared.command.Command.TheVariants as does
use Rattle.sqlite_schema.specs.Names.{place_of}
use Rattle.sqlite_value.specs.declared.value.Value.TheVariants.{Int}
use Rattle.sqlite_sql.specs.Term.{Term, lit, col, op2}
use Rattle.sqlite_sql.specs.declared.ops.BinaryOp.TheVariants as by
use Rattle.sqlite_sql.specs.declared.ops.CompareOp.TheVariants as compare
use Rattle.sqlite_typing.specs.Types.{accepts_after, row_classes, is_count}
use Rattle.sqlite_draft.specs.declared.query.Draft.{Draft}
use Rattle.sqlite_draft.specs.Query.{query_of}
use Rattle.sqlite_resolve.specs.Lowering.{Lowering, nothing, chosen, max_budget, fresh}
use Rattle.sqlite_resolve.specs.declared.state.Carried.{Carried}
use Rattle.sqlite_resolve.specs.declared.state.State.{State}
use Rattle.sqlite_resolve.specs.declared.scope.Output.{Output}
use Rattle.sqlite_resolve.specs.Scope.{Context, declared}
use Rattle.sqlite_resolve.specs.declared.compare.Affinity.TheVariants as affinity
use Rattle.sqlite_resolve.specs.Compare.{of_declared}
use Rattle.sqlite_resolve.specs.Expr.{lower, lower_to}
use Rattle.sqlite_resolve.specs.Terms.{conjuncts, number}
use Rattle.sqlite_resolve.specs.Body as body
use Rattle.sqlite_resolve.specs.Select as selecting
use Rattle.sqlite_resolve.specs.Compile as compile
use Rattle.sqlite_ast.specs.declared.Expr.{Expr, roll-Expr}
use Rattle.sqlite_ast.specs.declared.Expr.TheOpen.{Expr-F}
use Rattle.sqlite_ast.specs.declared.Binary.TheVariants as binary
use Rattle.sqlite_ast.specs.declared.Core.{out-Core}
use Rattle.sqlite_ast.specs.declared.Select.{Select, out-Select}
use Rattle.wb_sql.specs.Among.{HasTable}
use Rattle.wb_sql.proofs.AloneLemmas.{found_in_tree}
use Rattle.wb_sql.proofs.SelectForm.{Name, from_zero, shown, sort, source, test, where_of}
use Rattle.wb_sql.proofs.ColumnLemmas.{over, at_budget, is_plain}
use Rattle.wb_sql.proofs.TestLemmas.{IsColumn, lower_test, lower_from_zero, lower_both, combine_and}
use Rattle.wb_sql.proofs.ShownLemmas.{AreColumns, suffices, left, last_of, outputs_after, outputs_are, keys_after, sorts_are, are_free, name_of}
use Rattle.wb_sql.proofs.StageLemmas.{clauses_of, parts_are}
use Rattle.wb_sql.proofs.CompiledLemmas.{draft_of, shown_of, named_is, query_is, accepts_is, read_is}

-- a column, its place, and the number of the parameter that it equals
abbrev pub Test : Type 0
Test = ℕ × Column × ℕ

-- its column by its name, and its parameter
abbrev pub test_of : Test → Name × ℕ
test_of x = (x.1.name, x.2)

-- the term of a test
abbrev pub term_of : Table → Test → Term
term_of table x = op2 (by.Compare compare.Eq (chosen (declared table x.0 x.1) nothing)) (col 1 (suc x.0)) (col 0 (x.2 - 1))

-- the column is the table's, and is compared as it is
pub record IsTest (table : Table) (x : Test) : Type 0 where
  pub column : IsColumn table x.0 x.1
  pub place : place_of table x.0 ≡ suc x.0
  pub plain : is_plain (of_declared x.1) ≡ true

-- at most two tests
abbrev pub AreTests : Table → List Test → Type 0
AreTests table [] = Unit {0}
AreTests table (x ∷ []) = IsTest table x
AreTests table (x ∷ y ∷ []) = IsTest table x × IsTest table y
AreTests table (x ∷ y ∷ z ∷ more) = ⊥

-- the budget is enough for a test, which has three parts
abbrev pub three_left : ℕ → Bool
three_left n = nat_lt 1 n && (nat_lt 1 (n - 1) && nat_lt 1 ((n - 1) - 1))

-- what a test leaves of it
abbrev pub without_three : ℕ → ℕ
without_three n = ((n - 1) - 1) - 1

-- the budget is enough for these
abbrev pub suffices_for : ℕ → List Test → Bool
suffices_for n [] = true
suffices_for n (x ∷ []) = three_left n
suffices_for n (x ∷ y ∷ []) = nat_lt 1 n && (three_left (n - 1) && three_left (without_three (n - 1)))
suffices_for n (x ∷ y ∷ z ∷ more) = false

-- what is left of it
abbrev pub left_by : ℕ → List Test → ℕ
left_by n [] = n
left_by n (x ∷ []) = without_three n
left_by n (x ∷ y ∷ more) = without_three (without_three (n - 1))

-- what is carried after these tests
abbrev pub carried_by : Carried → List Test → Carried
carried_by last [] = last
carried_by last (x ∷ more) = nothing

pub tests_some : (lower : Context → Expr → Lowering Term) (cx : Context) (e : Expr) (t : Term) (s s1 : State) → lower cx e s ≡ Ok (t, s1) → body.tests lower cx [] (Some e) s ≡ Ok (conjuncts t, s1)
unfolding body.tests
tests_some lower cx e t s s1 is = rw is refl

one_is : (schema : Schema) (table : Table) (at next n : ℕ) (alias : Name) (so_far : List Output) (last : Carried) (depth : ℕ) (x : Test) → slice_get schema.tables at ≡ Some table
    → IsTest table x → three_left n ≡ true
    → lower_to (suc (suc depth)) (over schema at alias so_far false) (test (test_of x)) (at_budget next n last) ≡ Ok (term_of table x, at_budget next (without_three n) nothing)
one_is schema table at next n alias so_far last depth x listed is enough =
    lower_test schema table x.1 at x.0 x.2 alias so_far false depth next n last listed is.column is.place is.plain (and_parts _ _ enough).0 (and_parts _ _ (and_parts _ _ enough).1).0
    (and_parts _ _ (and_parts _ _ enough).1).1

-- WHERE with these tests
pub tests_are : (schema : Schema) (table : Table) (at next n : ℕ) (alias : Name) (so_far : List Output) (last : Carried) → slice_get schema.tables at ≡ Some table
    → (xs : List Test) → AreTests table xs → suffices_for n xs ≡ true
    → body.tests lower (over schema at alias so_far false) [] (where_of (map test_of xs)) (at_budget next n last) ≡ Ok (map (term_of table) xs, at_budget next (left_by n xs) (carried_by last xs))
unfolding body.tests
tests_are schema table at next n alias so_far last listed [] are enough = refl
tests_are schema table at next n alias so_far last listed (x ∷ []) are enough =
    tests_some lower (over schema at alias so_far false) (test (test_of x)) (term_of table x) (at_budget next n last) (at_budget next (without_three n) nothing)
    (one_is schema table at next n alias so_far last 698 x listed are enough)
tests_are schema table at next n alias so_far last listed (x ∷ y ∷ []) are enough =
    tests_some lower (over schema at alias so_far false) (roll-Expr (Expr-F.Binary binary.And (test (test_of x)) (test (test_of y)))) (op2 by.And (term_of table x) (term_of table y))
    (at_budget next n last) (at_budget next (without_three (without_three (n - 1))) nothing)
    (lower_both (over schema at alias so_far false) binary.And (test (test_of x)) (test (test_of y)) (term_of table x) (term_of table y) (op2 by.And (term_of table x) (term_of table y))
    699 next n (without_three (n - 1)) (without_three (without_three (n - 1))) last nothing nothing (and_parts _ _ enough).0 refl
    (one_is schema table at next (n - 1) alias so_far nothing 697 x listed are.0 (and_parts _ _ (and_parts _ _ enough).1).0)
    (one_is schema table at next (without_three (n - 1)) alias so_far nothing 697 y listed are.1 (and_parts _ _ (and_parts _ _ enough).1).1)
    (combine_and (over schema at alias so_far false) (chosen nothing nothing) (term_of table x) (term_of table y) (at_budget next (without_three (without_three (n - 1))) nothing)))
tests_are schema table at next n alias so_far last listed (x ∷ y ∷ z ∷ more) are enough = absurd are

-- the statement is a SELECT of these columns of the table, with this WHERE, in this order and with this limit
pub record IsSelectBy (table : Table) (s : Select) (columns : List (ℕ
    × Column)) (where_is : Option Expr) (order : List (ℕ × Column)) (limit : Term) : Type 0 where
  pub none : (out-Select s).«with» ≡ []
  pub others : (out-Select s).others ≡ []
  pub distinct : (out-Core (out-Select s).first).distinct ≡ false
  pub shown : (out-Core (out-Select s).first).shown ≡ map shown (map name_of columns)
  pub from : (out-Core (out-Select s).first).from ≡ source table.name ∷ []
  pub filter : (out-Core (out-Select s).first).filter ≡ where_is
  pub group : (out-Core (out-Select s).first).group ≡ []
  pub having : (out-Core (out-Select s).first).having ≡ None
  pub sorted : (out-Select s).order ≡ map sort (map name_of order)
  pub paged : (schema : Schema) → selecting.paging schema s ≡ Ok (limit, number 0)

-- the same with these tests
abbrev pub IsSelect : Table → Select → List (ℕ × Column) → List Test → List (ℕ × Column) → Term → Type 0
IsSelect table s columns tests = IsSelectBy table s columns (where_of (map test_of tests))

-- what is asked, if WHERE is read as these terms
abbrev pub asked_by : Table → List (ℕ × Column) → List Term → List (ℕ × Column) → Term → Draft
asked_by table columns filter order limit =
    draft_of table (outputs_after table [] columns) filter (keys_after table [] order) limit (number 0)

-- what it asks
abbrev pub asked : Table → List (ℕ × Column) → List Test → List (ℕ × Column) → Term → Draft
asked table columns tests = asked_by table columns (map (term_of table) tests)

-- the types of what is asked are right
abbrev pub AreTypesRight : Table → List (ℕ × Column) → List Term → List (ℕ × Column) → Term → Type 0
AreTypesRight table columns filter order limit =
    (accepts_after [] (query_of (asked_by table columns filter order limit)) (Some (row_classes table
    ∷ [])) && (is_count [] limit && is_count [] (number 0))) ≡ true

-- its columns and order are the table's, WHERE is read as these terms, and it is small enough and has the right types
pub record IsTypedBy (table : Table) (columns : List (ℕ
    × Column)) (where_is : Option Expr) (filter : List Term) (order : List (ℕ × Column)) (limit : Term) : Type 0 where
  pub columns_are : AreColumns table columns
  pub left_of : ℕ
  pub carried : Carried
  pub filter_is : (schema : Schema) (at : ℕ) (so_far : List Output) → slice_get schema.tables at ≡ Some table
      → body.tests lower (over schema at table.name so_far false) [] where_is (at_budget 2 (left max_budget columns)
      (last_of table nothing columns)) ≡ Ok (filter, at_budget 2 left_of carried)
  pub order_is : AreColumns table order
  pub free : are_free (outputs_after table [] columns) order
  pub small : (suffices max_budget columns && suffices left_of order) ≡ true
  pub typed : AreTypesRight table columns filter order limit

-- its columns, tests and order are the table's, and it is small enough and has the right types
pub record IsTyped (table : Table) (columns : List (ℕ × Column)) (tests : List Test) (order : List (ℕ × Column)) (limit : Term) : Type 0 where
  pub columns_are : AreColumns table columns
  pub tests_are : AreTests table tests
  pub order_is : AreColumns table order
  pub free : are_free (outputs_after table [] columns) order
  pub small : (suffices max_budget columns && (suffices_for (left max_budget columns) tests && suffices (left_by (left max_budget columns) tests) order)) ≡ true
  pub typed : AreTypesRight table columns (map (term_of table) tests) order limit

pub asked_by_is : (schema : Schema) (table : Table) (s : Select) (columns : List (ℕ
    × Column)) (where_is : Option Expr) (filter : List Term) (order : List (ℕ × Column)) (limit : Term)
    → HasTable schema table → IsSelectBy table s columns where_is order limit
    → IsTypedBy table columns where_is filter order limit
    → compile.read schema s ≡ Ok (does.Select (record {
      lets =
          [];
      body =
          query_of (asked_by table columns filter order limit);
    }) (map (λ o. o.name) (outputs_after table [] columns)))
asked_by_is schema table s columns where_is filter order limit has is typed =
    let n : ℕ = left max_budget columns in
    let m : ℕ = typed.left_of in
    let c : Carried = last_of table nothing columns in
    let all : List Output = outputs_after table [] columns in
    let enough : (suffices max_budget columns ≡ true) × (suffices m order ≡ true) = and_parts _ _ typed.small in
    let parts : selecting.parts schema (out-Select s).first (out-Select s).order (fresh 1 max_budget)
    ≡ Ok (
      clauses_of has.at table.name table all filter (keys_after table [] order),
      at_budget 2 (left m order)
          (last_of table typed.carried order),
    ) =
    parts_are schema table has.at n m (left m order) table.name (out-Select s).first (out-Select s).order all filter
    (keys_after table [] order)
    nothing c typed.carried (last_of table typed.carried order) has.named has.listed is.from is.group is.having
    (rw is.shown (outputs_are schema table has.at table.name [] true _ 699 2 has.listed columns [] max_budget nothing typed.columns_are enough.0))
    (rw is.filter (typed.filter_is schema has.at all has.listed))
    (rw is.sorted
    (sorts_are schema table has.at table.name all all false 699 2 has.listed order [] m typed.carried
    typed.order_is typed.free enough.1)) in
    read_is schema s (asked_by table columns filter order limit) (map (λ o. o.name) all) (map
    (λ o. o.carried.collation) all)
    (query_is schema table.name s (limit, number 0) (shown_of table all filter (keys_after table [] order) limit (number 0)) is.none (is.paged schema) is.others is.from
    (named_is schema table has.at _ table.name (out-Select s).first (out-Select s).order all filter (keys_after table [] order) limit (number 0) _ is.distinct parts))
    (accepts_is schema table all filter (keys_after table [] order) limit (number 0) has.stored (found_in_tree schema table has) typed.typed)

-- with these tests
pub typed_by : {table : Table} {columns : List (ℕ × Column)} {tests : List Test} {order : List (ℕ
    × Column)} {limit : Term} → IsTyped table columns tests order limit
    → IsTypedBy table columns (where_of (map test_of tests)) (map (term_of table) tests) order limit
typed_by {table} {columns} {tests} {order} typed =
    let n : ℕ = left max_budget columns in
    let enough : (suffices max_budget columns ≡ true) × ((suffices_for n tests && suffices (left_by n tests) order) ≡ true) = and_parts _ _ typed.small in
    let more : (suffices_for n tests ≡ true) × (suffices (left_by n tests) order ≡ true) = and_parts _ _ enough.1 in
    record {
      columns_are = typed.columns_are;
      left_of = left_by n tests;
      carried = carried_by (last_of table nothing columns) tests;
      filter_is =
          λ schema at so_far listed. tests_are schema table at 2 n table.name so_far
          (last_of table nothing columns) listed tests typed.tests_are more.0;
      order_is = typed.order_is;
      free = typed.free;
      small = rw (enough.0, more.1) refl;
      typed = typed.typed;
    }

pub asked_is : (schema : Schema) (table : Table) (s : Select) (columns : List (ℕ × Column)) (tests : List Test) (order : List (ℕ × Column)) (limit : Term)
    → HasTable schema table → IsSelect table s columns tests order limit → IsTyped table columns tests order limit
    → compile.read schema s ≡ Ok (does.Select (record { lets = []; body = query_of (asked table columns tests order limit) }) (map (λ o. o.name) (outputs_after table [] columns)))
asked_is schema table s columns tests order limit has is typed =
    asked_by_is schema table s columns (where_of (map test_of tests)) (map (term_of table) tests) order limit has is
    (typed_by typed)

-- ---- one column equals a parameter, and another, of numbers, is at least 0

-- such a WHERE
abbrev pub where_from_zero : Test → ℕ × Column → Option Expr
where_from_zero x y = Some (roll-Expr (Expr-F.Binary binary.And (test (test_of x)) (from_zero y.1.name)))

-- the terms of the two tests
abbrev pub terms_from_zero : Table → Test → ℕ × Column → List Term
terms_from_zero table x y =
    term_of table x ∷ op2 (by.Compare compare.Ge (chosen (declared table y.0 y.1) nothing)) (col 1 (suc y.0)) (lit
    (Int (pos 0))) ∷ []

-- the column is the table's, and one of numbers
pub record IsOfNumbers (table : Table) (y : ℕ × Column) : Type 0 where
  pub column : IsColumn table y.0 y.1
  pub place : place_of table y.0 ≡ suc y.0
  pub numeric : of_declared y.1 ≡ affinity.Numeric

-- the budget is enough for both tests
abbrev pub suffices_from_zero : ℕ → Bool
suffices_from_zero n = nat_lt 1 n && (three_left (n - 1) && three_left (without_three (n - 1)))

from_zero_is : (schema : Schema) (table : Table) (at next n : ℕ) (alias : Name) (so_far : List Output)
    (last : Carried) → slice_get schema.tables at ≡ Some table
    → (x : Test) (y : ℕ × Column) → IsTest table x → IsOfNumbers table y → suffices_from_zero n ≡ true
    → body.tests lower (over schema at alias so_far false) [] (where_from_zero x y) (at_budget next n last)
    ≡ Ok (terms_from_zero table x y, at_budget next (without_three (without_three (n - 1))) nothing)
from_zero_is schema table at next n alias so_far last listed x y is of_numbers enough =
    let cx : Context = over schema at alias so_far false in
    let a : Term = term_of table x in
    let b : Term =
    op2 (by.Compare compare.Ge (chosen (declared table y.0 y.1) nothing)) (col 1 (suc y.0)) (lit (Int (pos 0))) in
    let left : ℕ = without_three (without_three (n - 1)) in
    let first = and_parts _ _ enough in
    let second = and_parts _ _ first.1 in
    let third = and_parts _ _ second.1 in
    let fourth = and_parts _ _ third.1 in
    tests_some lower cx (roll-Expr (Expr-F.Binary binary.And (test (test_of x)) (from_zero y.1.name)))
    (op2 by.And a b) (at_budget next n last) (at_budget next left nothing)
    (lower_both cx binary.And (test (test_of x)) (from_zero y.1.name) a b (op2 by.And a b) 699 next n (without_three
    (n - 1)) left last nothing nothing first.0 refl
    (one_is schema table at next (n - 1) alias so_far nothing 697 x listed is second.0)
    (lower_from_zero schema table y.1 at y.0 alias so_far false 697 next (without_three
    (n - 1)) nothing listed of_numbers.column of_numbers.place of_numbers.numeric third.0 fourth.0 fourth.1)
    (combine_and cx (chosen nothing nothing) a b (at_budget next left nothing)))

-- its columns, tests and order are the table's, and it is small enough and has the right types
pub record IsTypedFromZero (table : Table) (columns : List (ℕ × Column)) (x : Test) (y : ℕ × Column) (order : List (ℕ
    × Column)) (limit : Term) : Type 0 where
  pub columns_are : AreColumns table columns
  pub equal_is : IsTest table x
  pub from_zero_is : IsOfNumbers table y
  pub order_is : AreColumns table order
  pub free : are_free (outputs_after table [] columns) order
  pub enough : suffices_from_zero (left max_budget columns) ≡ true
  pub small : (suffices max_budget columns && suffices (without_three (without_three
      (left max_budget columns - 1))) order) ≡ true
  pub typed : AreTypesRight table columns (terms_from_zero table x y) order limit

pub typed_from_zero : {table : Table} {columns : List (ℕ × Column)} {x : Test} {y : ℕ × Column} {order : List (ℕ
    × Column)} {limit : Term}
    → IsTypedFromZero table columns x y order limit
    → IsTypedBy table columns (where_from_zero x y) (terms_from_zero table x y) order limit
typed_from_zero {table} {columns} {x} {y} typed =
    let n : ℕ = left max_budget columns in
    record {
      columns_are = typed.columns_are;
      left_of = without_three (without_three (n - 1));
      carried = nothing;
      filter_is =
          λ schema at so_far listed. from_zero_is schema table at 2 n table.name so_far
          (last_of table nothing columns) listed x y typed.equal_is typed.from_zero_is typed.enough;
      order_is = typed.order_is;
      free = typed.free;
      small = typed.small;
      typed = typed.typed;
    }
