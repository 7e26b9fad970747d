-- The term of a column that equals a parameter, or is at least 0, where the schema is known to have the column's table
-- at a place.
use Rattle.std.proofs.Common.{◌≡◌, refl, ℕ, pos, ◌-◌, ◌∙◌, List, codes, Ok, Some, Bool, true, false, slice_get, nat_lt}
use Rattle.std.proofs.Common.{suc}
use Rattle.sqlite_schema.specs.declared.schema.Schema.{Schema}
use Rattle.sqlite_schema.specs.declared.schema.Table.{Table}
use Rattle.sqlite_schema.specs.declared.schema.Column.{Column}
use Rattle.sqlite_schema.specs.Names.{column_named, place_of}
use Rattle.sqlite_value.specs.declared.value.Value.TheVariants.{Int}
use Rattle.sqlite_sql.specs.Term.{Term, lit, col, op2}
use Rattle.sqlite_sql.specs.declared.ops.BinaryOp.TheVariants as by
use Rattle.sqlite_sql.specs.declared.ops.CompareOp.TheVariants as compare
use Rattle.sqlite_value.specs.declared.keys.Collation.{Collation}
use Rattle.sqlite_resolve.specs.Lowering.{Lowering, nothing, chosen, spend, begin, finish}
use Rattle.sqlite_resolve.specs.declared.state.Carried.{Carried}
use Rattle.sqlite_resolve.specs.declared.state.State.{State}
use Rattle.sqlite_resolve.specs.declared.state.Passes.TheVariants as hands
use Rattle.sqlite_resolve.specs.declared.scope.Output.{Output}
use Rattle.sqlite_resolve.specs.declared.compare.Affinity.TheVariants as affinity
use Rattle.sqlite_resolve.specs.Compare.{compared, of_declared}
use Rattle.sqlite_resolve.specs.Literal.{integer, decimal}
use Rattle.sqlite_resolve.specs.Scope.{Context, declared}
use Rattle.sqlite_resolve.specs.Expr.{lower_to, node, opened, passes, is_identity, both, operation, combine, tests_truth, tests_alias, wanted_truth}
use Rattle.sqlite_ast.specs.declared.Expr.{Expr, roll-Expr}
use Rattle.sqlite_ast.specs.declared.Expr.TheOpen.{Expr-F}
use Rattle.sqlite_ast.specs.declared.Binary.{Binary}
use Rattle.sqlite_ast.specs.declared.Binary.TheVariants as binary
use Rattle.wb_sql.proofs.SelectForm.{Name, column, test, bound, zero_number, from_zero}
use Rattle.wb_sql.proofs.OpenedLemmas.{out_parameter, out_integer, out_binary}
use Rattle.wb_sql.proofs.ColumnLemmas.{over, at_budget, lower_column, compared_is, compared_zero, rowid_compared_is}
use Rattle.wb_sql.proofs.ColumnLemmas.{is_plain}

both_is : (lower : Context → Expr → Lowering Term) (cx : Context) (op : Binary) (a b : Expr) (x y : Term) (s s1 s2 : State)
    → is_identity op ≡ false → lower cx a s ≡ Ok (x, s1) → lower cx b s1 ≡ Ok (y, s2) → both lower cx op a b s ≡ combine cx op (chosen s1.last s2.last) x y s2
unfolding both tests_truth tests_alias
both_is lower cx op a b x y s s1 s2 i left right = rw (i, left, right) refl

operation_is : (lower : Context → Expr → Lowering Term) (cx : Context) (op : Binary) (a b : Expr) (s : State) → is_identity op ≡ false → operation lower cx op a b s ≡ both lower cx op a b s
unfolding operation wanted_truth
operation_is lower cx op a b s i = rw i refl

passes_binary : (op : Binary) (a b : Expr) → passes (roll-Expr (Expr-F.Binary op a b)) ≡ hands.Nothing
unfolding passes
passes_binary op a b = rw (out_binary op a b) refl

opened_binary : (lower : Context → Expr → Lowering Term) (cx : Context) (op : Binary) (a b : Expr) → opened lower cx (roll-Expr (Expr-F.Binary op a b)) ≡ operation lower cx op a b
unfolding opened
opened_binary lower cx op a b = rw (out_binary op a b) refl

passes_parameter : (n : ℕ) → passes (roll-Expr (Expr-F.Parameter n)) ≡ hands.Nothing
unfolding passes
passes_parameter n = rw (out_parameter n) refl

opened_parameter : (lower : Context → Expr → Lowering Term) (cx : Context) (n : ℕ) (s : State) → opened lower cx (roll-Expr (Expr-F.Parameter n)) s ≡ Ok (col 0 (n - 1), s)
unfolding opened
opened_parameter lower cx n s = rw (out_parameter n) refl

lower_parameter : (cx : Context) (depth next n m : ℕ) (last : Carried) → nat_lt 1 n ≡ true
    → lower_to (suc depth) cx (roll-Expr (Expr-F.Parameter m)) (at_budget next n last) ≡ Ok (col 0 (m - 1), at_budget next (n - 1) nothing)
unfolding lower_to node spend begin finish
lower_parameter cx depth next n m last enough = rw (enough, opened_parameter (lower_to depth) cx m (at_budget next (n - 1) nothing), passes_parameter m) refl

passes_zero : passes zero_number ≡ hands.Nothing
unfolding passes
passes_zero = rw (out_integer (codes "0")) refl

opened_zero : (lower : Context → Expr → Lowering Term) (cx : Context) (s : State)
    → opened lower cx zero_number s ≡ Ok (lit (Int (pos 0)), s)
unfolding opened integer decimal
opened_zero lower cx s = rw (out_integer (codes "0")) refl

lower_zero : (cx : Context) (depth next n : ℕ) (last : Carried) → nat_lt 1 n ≡ true
    → lower_to (suc depth) cx zero_number (at_budget next n last) ≡ Ok (
      lit (Int (pos 0)),
      at_budget next
          (n - 1) nothing,
    )
unfolding lower_to node spend begin finish
lower_zero cx depth next n last enough =
    rw (enough, opened_zero (lower_to depth) cx (at_budget next (n - 1) nothing), passes_zero) refl

lower_binary : (cx : Context) (op : Binary) (a b : Expr) (t : Term) (depth next n left : ℕ) (last carried : Carried) → nat_lt 1 n ≡ true
    → operation (lower_to depth) cx op a b (at_budget next (n - 1) nothing) ≡ Ok (t, at_budget next left carried)
    → lower_to (suc depth) cx (roll-Expr (Expr-F.Binary op a b)) (at_budget next n last) ≡ Ok (t, at_budget next left nothing)
unfolding lower_to node spend begin finish
lower_binary cx op a b t depth next n left last carried enough is = rw (enough, opened_binary (lower_to depth) cx op a b, is, passes_binary op a b) refl

combine_equal : (cx : Context) (how : Collation) (x y : Term) (s : State) → combine cx binary.Eq how x y s ≡ Ok (compared cx (by.Compare compare.Eq how) x y, s)
unfolding combine
combine_equal cx how x y s = refl

pub combine_and : (cx : Context) (how : Collation) (x y : Term) (s : State) → combine cx binary.And how x y s ≡ Ok (op2 by.And x y, s)
unfolding combine
combine_and cx how x y s = refl

-- both operands in turn
pub lower_both : (cx : Context) (op : Binary) (a b : Expr) (x y t : Term) (depth next n n1 n2 : ℕ) (last p q : Carried) → nat_lt 1 n ≡ true → is_identity op ≡ false
    → lower_to depth cx a (at_budget next (n - 1) nothing) ≡ Ok (x, at_budget next n1 p) → lower_to depth cx b (at_budget next n1 p) ≡ Ok (y, at_budget next n2 q)
    → combine cx op (chosen p q) x y (at_budget next n2 q) ≡ Ok (t, at_budget next n2 q)
    → lower_to (suc depth) cx (roll-Expr (Expr-F.Binary op a b)) (at_budget next n last) ≡ Ok (t, at_budget next n2 nothing)
lower_both cx op a b x y t depth next n n1 n2 last p q enough i left right is =
    lower_binary cx op a b t depth next n n2 last q enough
    (operation_is (lower_to depth) cx op a b (at_budget next (n - 1) nothing) i
    ∙ (both_is (lower_to depth) cx op a b x y (at_budget next (n - 1) nothing) (at_budget next n1 p) (at_budget next n2 q) i left right ∙ is))

-- the column of a table at this place, which is not its key
pub record IsColumn (table : Table) (k : ℕ) (c : Column) : Type 0 where
  pub named : column_named table c.name ≡ Some k
  pub is : slice_get table.columns k ≡ Some c

-- a column equals a parameter
pub lower_test : (schema : Schema) (table : Table) (c : Column) (at k m : ℕ) (alias : Name) (shown : List Output) (aggregates : Bool) (depth next n : ℕ) (last : Carried)
    → slice_get schema.tables at ≡ Some table → IsColumn table k c → place_of table k ≡ suc k → is_plain (of_declared c) ≡ true
    → nat_lt 1 n ≡ true → nat_lt 1 (n - 1) ≡ true → nat_lt 1 ((n - 1) - 1) ≡ true
    → lower_to (suc (suc depth)) (over schema at alias shown aggregates) (test (c.name, m)) (at_budget next n last)
    ≡ Ok (op2 (by.Compare compare.Eq (chosen (declared table k c) nothing)) (col 1 (suc k)) (col 0 (m - 1)), at_budget next (((n - 1) - 1) - 1) nothing)
lower_test schema table c at k m alias shown aggregates depth next n last listed column_is place plain e1 e2 e3 =
    let cx : Context = over schema at alias shown aggregates in
    let how : Collation = chosen (declared table k c) nothing in
    let left : lower_to (suc depth) cx (column c.name) (at_budget next (n - 1) nothing) ≡ Ok (col 1 (suc k), at_budget next ((n - 1) - 1) (declared table k c)) =
    lower_column schema table c at k alias c.name shown aggregates depth next (n - 1) nothing listed column_is.named column_is.is e2 ∙ rw place refl in
    lower_both cx binary.Eq (column c.name) (roll-Expr (Expr-F.Parameter m)) (col 1 (suc k)) (col 0 (m - 1)) (op2 (by.Compare compare.Eq how) (col 1 (suc k)) (col 0 (m - 1)))
    (suc depth) next n ((n - 1) - 1) (((n - 1) - 1) - 1) last (declared table k c) nothing e1 refl left
    (lower_parameter cx depth next ((n - 1) - 1) m (declared table k c) e3)
    (combine_equal cx how (col 1 (suc k)) (col 0 (m - 1)) (at_budget next (((n - 1) - 1) - 1) nothing)
    ∙ rw (compared_is schema table c at k (m - 1) alias shown aggregates (by.Compare compare.Eq how) listed column_is.is plain) refl)

combine_at_most : (cx : Context) (how : Collation) (x y : Term) (s : State) → combine cx binary.Le how x y s ≡ Ok (compared cx (by.Compare compare.Le how) x y, s)
unfolding combine
combine_at_most cx how x y s = refl

-- the rowid, which is a column, is at most a parameter
pub lower_bound : (schema : Schema) (table : Table) (c : Column) (at k m : ℕ) (alias : Name) (shown : List Output) (aggregates : Bool) (depth next n : ℕ) (last : Carried)
    → slice_get schema.tables at ≡ Some table → IsColumn table k c → place_of table k ≡ 0
    → nat_lt 1 n ≡ true → nat_lt 1 (n - 1) ≡ true → nat_lt 1 ((n - 1) - 1) ≡ true
    → lower_to (suc (suc depth)) (over schema at alias shown aggregates) (bound (c.name, m)) (at_budget next n last)
    ≡ Ok (op2 (by.Compare compare.Le (chosen (declared table k c) nothing)) (col 1 0) (col 0 (m - 1)), at_budget next (((n - 1) - 1) - 1) nothing)
lower_bound schema table c at k m alias shown aggregates depth next n last listed column_is place e1 e2 e3 =
    let cx : Context = over schema at alias shown aggregates in
    let how : Collation = chosen (declared table k c) nothing in
    let left : lower_to (suc depth) cx (column c.name) (at_budget next (n - 1) nothing) ≡ Ok (col 1 0, at_budget next ((n - 1) - 1) (declared table k c)) =
    lower_column schema table c at k alias c.name shown aggregates depth next (n - 1) nothing listed column_is.named column_is.is e2 ∙ rw place refl in
    lower_both cx binary.Le (column c.name) (roll-Expr (Expr-F.Parameter m)) (col 1 0) (col 0 (m - 1)) (op2 (by.Compare compare.Le how) (col 1 0) (col 0 (m - 1)))
    (suc depth) next n ((n - 1) - 1) (((n - 1) - 1) - 1) last (declared table k c) nothing e1 refl left
    (lower_parameter cx depth next ((n - 1) - 1) m (declared table k c) e3)
    (combine_at_most cx how (col 1 0) (col 0 (m - 1)) (at_budget next (((n - 1) - 1) - 1) nothing)
    ∙ rw (rowid_compared_is schema at (m - 1) alias shown aggregates (by.Compare compare.Le how)) refl)

combine_at_least : (cx : Context) (how : Collation) (x y : Term) (s : State)
    → combine cx binary.Ge how x y s ≡ Ok (compared cx (by.Compare compare.Ge how) x y, s)
unfolding combine
combine_at_least cx how x y s = refl

-- a column of numbers is at least 0
pub lower_from_zero : (schema : Schema) (table : Table) (c : Column) (at k : ℕ) (alias : Name) (shown : List Output)
    (aggregates : Bool) (depth next n : ℕ) (last : Carried)
    → slice_get schema.tables at ≡ Some table → IsColumn table k c → place_of table k ≡ suc k
    → of_declared c ≡ affinity.Numeric
    → nat_lt 1 n ≡ true → nat_lt 1 (n - 1) ≡ true → nat_lt 1 ((n - 1) - 1) ≡ true
    → lower_to (suc (suc depth)) (over schema at alias shown aggregates) (from_zero c.name) (at_budget next n last)
    ≡ Ok (
      op2 (by.Compare compare.Ge (chosen (declared table k c) nothing)) (col 1 (suc k)) (lit (Int
          (pos 0))),
      at_budget next (((n - 1) - 1) - 1) nothing,
    )
lower_from_zero schema table c at k alias shown aggregates depth next n last listed column_is place numeric e1 e2 e3 =
    let cx : Context = over schema at alias shown aggregates in
    let how : Collation = chosen (declared table k c) nothing in
    let left : lower_to (suc depth) cx (column c.name) (at_budget next (n - 1) nothing) ≡ Ok (col 1 (suc k), at_budget next ((n - 1) - 1) (declared table k c)) =
    lower_column schema table c at k alias c.name shown aggregates depth next (n - 1) nothing listed column_is.named column_is.is e2 ∙ rw place refl in
    lower_both cx binary.Ge (column c.name) zero_number (col 1 (suc k)) (lit (Int (pos 0))) (op2
    (by.Compare compare.Ge how) (col 1 (suc k)) (lit (Int (pos 0))))
    (suc depth) next n ((n - 1) - 1) (((n - 1) - 1) - 1) last (declared table k c) nothing e1 refl left
    (lower_zero cx depth next ((n - 1) - 1) (declared table k c) e3)
    (combine_at_least cx how (col 1 (suc k)) (lit (Int (pos 0))) (at_budget next (((n - 1) - 1) - 1) nothing)
    ∙ rw (compared_zero schema table c at k alias shown aggregates
    (by.Compare compare.Ge how) listed column_is.is numeric) refl)
