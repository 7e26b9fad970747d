-- A CREATE in a transaction, over a database that has some of the office's tables, which have no row.
use Rattle.std.proofs.Common.{◌≡◌, inl, inr, ℕ, List, [], ◌∷◌, ◌++◌, Result, Ok, Err, IsErr, IsErrAnd, IfErr, OnOk, refl, arith, sym, ap, subst, ◌∙◌, IsTrue}
use Rattle.std.specs.List.{AllByRecursion}
use Rattle.sqlite_trees.specs.declared.store.Store.{Ghosts}
use Rattle.sqlite_trees.proofs.ListLemmas.{all-slice_get}
use Rattle.sqlite_schema.specs.declared.schema.Index.{Index}
use Rattle.sqlite.specs.Schema.{Schema}
use Rattle.sqlite.specs.Table.{Table}
use Rattle.sqlite.specs.Tree.{Trees}
use Rattle.sqlite.specs.Change.{created, indexed, next_tree, KeepsRows}
use Rattle.sqlite.specs.declared.error.Error.{Error}
use Rattle.sqlite.specs.Held.{Held, state}
use Rattle.sqlite.specs.State.{State, HasCleanDisk, Survives}
use Rattle.sqlite.proofs.StateLemmas.{survives_weaker, survives_then}
use Rattle.wb_sql.specs.Statements.{IsWriting}
use Rattle.wb_sql.specs.Calls.{RunsStatement}
use Rattle.wb_sql.specs.Definitions.{DefinesTable, DefinesIndex, CreatesTable, CreatesIndex}
use Rattle.wb_sql.proofs.CallLemmas.{on_ok}
use Rattle.wb_sql.proofs.DefinitionLemmas.{defines_table_writes, defines_index_writes}
use Rattle.wb_sql.specs.Among.{HasTable, table_at, table_in, index_at, rows_in, tree_named}
use Rattle.wb_sql.specs.Making.{CreatesAmong, IndexesAmong, with_index, HasEmptyTables, MakesTables, FailsAt, Makes, IsMaking}
use Rattle.wb_sql.proofs.AppendLemmas.{all_append, all_split, all_both}
use Rattle.sqlite_rules.specs.Lists.{Has}
use Rattle.wb_sql.specs.Tables.{office_schema}
use Rattle.wb_sql.proofs.GrowthLemmas.{IsGrown, new_tree, same_tree}

-- ---- rows that are kept

module _ (old new : State) (from to : Schema) (was : old.now.schema ≡ from) (is : new.now.schema ≡ to) (kept : KeepsRows from.tables old.now.trees new.now.trees) where
  -- one of the office's tables that has no row has none after it either, in the tree that it had
  still_empty : (table : Table) → HasTable from (table_in from table) → tree_named to table.name ≡ tree_named from table.name → rows_in old.now table ≡ [] → rows_in new.now table ≡ []
  still_empty table has same empty =
      ap (λ (s : Schema). new.now.trees (tree_named s table.name)) is
      ∙ (ap new.now.trees same
      ∙ (all-slice_get (λ t. new.now.trees t.tree ≡ old.now.trees t.tree) from.tables has.at (table_in from table) has.listed kept
      ∙ (ap (λ (s : Schema). old.now.trees (tree_named s table.name)) (sym was) ∙ empty)))

  -- so it is with some
  all_empty : (tables : List Table) → AllByRecursion (λ table. HasTable from (table_in from table)) tables → AllByRecursion (λ table. tree_named to table.name ≡ tree_named from table.name) tables
      → AllByRecursion (λ table. rows_in old.now table ≡ []) tables → AllByRecursion (λ table. rows_in new.now table ≡ []) tables
  all_empty [] has same empty = tt
  all_empty (table ∷ tables) has same empty = (still_empty table has.0 same.0 empty.0, all_empty tables has.1 same.1 empty.1)

-- the trees of tables that were there are the same after a CREATE TABLE
same_trees : (from : Schema) (made : Table) (tables : List Table) → AllByRecursion (λ table. HasTable from (table_in from table)) tables
    → AllByRecursion (λ table. tree_named (created from made) table.name ≡ tree_named from table.name) tables
same_trees from made [] has = tt
same_trees from made (table ∷ tables) has = (same_tree from made table has.0, same_trees from made tables has.1)

-- and after a CREATE INDEX
same_indexed : (from : Schema) (on : Table) (index : Index) (tables : List Table) → AllByRecursion (λ table. tree_named (indexed from on index) table.name ≡ tree_named from table.name) tables
same_indexed from on index [] = tt
same_indexed from on index (table ∷ tables) = (refl, same_indexed from on index tables)

-- ---- one CREATE

module _ (base from to : Schema) (tables : List Table) (sql : List ℕ) (old new : State) (was : HasEmptyTables from tables old) where
  table_made : (table : Table) {names : List (List ℕ)} → IsGrown base from tables (table.name ∷ names) → to ≡ created from table → CreatesAmong table sql → CreatesTable sql old new
      → MakesTables base.tables to (tables ++ table ∷ []) old new
  table_made table grown is text made =
      let defines : DefinesTable from sql (table_at 0 table) = text from grown.free.0 grown.counted in
      let set = made (table_at 0 table) (subst (λ s. DefinesTable s sql (table_at 0 table)) (sym was.schema_is) defines) in
      let now : new.now.schema ≡ created from table = set.0.schema_is ∙ ap (λ s. created s table) was.schema_is in
      let rows = subst (λ (s : Schema). KeepsRows s.tables old.now.trees new.now.trees) was.schema_is set.0.rows in
      let last : rows_in new.now table ≡ [] =
      ap (λ (s : Schema). new.now.trees (tree_named s table.name)) now
      ∙ (ap new.now.trees (new_tree from table grown.free.0) ∙ subst (λ s. new.now.trees (next_tree s) ≡ []) was.schema_is set.1) in
      let others = all_empty old new from (created from table) was.schema_is now rows tables grown.has (same_trees from table tables grown.has) was.empty in
      record {
        made = record { schema_is = now ∙ sym is; empty = all_append (λ t. rows_in new.now t ≡ []) tables (table ∷ []) others (last, tt) };
        kept = (all_split _ base.tables grown.more (subst (λ ts. KeepsRows ts old.now.trees new.now.trees) grown.tables_are rows)).0;
        shown = set.0.shown;
        marks = set.0.marks;
      }

  index_made : (table : Table) (index : Index) {names : List (List ℕ)} → IsGrown base from tables (index.name ∷ names) → HasTable from (table_in from table) → to ≡ with_index from table index
      → IndexesAmong table index sql → CreatesIndex sql old new → MakesTables base.tables to tables old new
  index_made table index grown has is text made =
      let on : Table = table_in from table in
      let defines : DefinesIndex from sql on (index_at 0 on.tree index) = text from on.tree has grown.free.0 in
      let set = made on (index_at 0 on.tree index) (subst (λ s. DefinesIndex s sql on (index_at 0 on.tree index)) (sym was.schema_is) defines) in
      let now : new.now.schema ≡ with_index from table index = set.schema_is ∙ ap (λ s. indexed s on index) was.schema_is in
      let rows = subst (λ (s : Schema). KeepsRows s.tables old.now.trees new.now.trees) was.schema_is set.rows in
      record {
        made = record {
          schema_is = now ∙ sym is;
          empty = all_empty old new from (with_index from table index) was.schema_is now rows tables grown.has (same_indexed from on index tables) was.empty;
        };
        kept = (all_split _ base.tables grown.more (subst (λ ts. KeepsRows ts old.now.trees new.now.trees) grown.tables_are rows)).0;
        shown = set.shown;
        marks = set.marks;
      }

-- a statement of a transaction fails as itself
failed_at : {S A : Type 0} {g : Ghosts S} {sql : List ℕ} {old new : Held S} {r : Result A Error} → RunsStatement g sql [] old new r → IsMaking (state g old).now.schema sql → IsTrue old.in_transaction → HasCleanDisk (state g new)
    → IfErr r (FailsAt g old new)
failed_at {r = Ok x} ran makes inside clean = tt
failed_at {sql = sql} {old = old} {r = Err e} ran makes inside clean = (old, sql, inside, refl, makes, (ran.err clean inside).0)

-- what fails later fails under the step limit from before
failed_later : {S A : Type 0} (g : Ghosts S) (a b c : Held S) (r : Result A Error) → (state g b).step_limit ≡ (state g a).step_limit → IfErr r (FailsAt g b c) → IfErr r (FailsAt g a c)
failed_later g a b c (Ok x) same h = tt
failed_later g a b c (Err e) same h = (h.0, h.1, h.2, h.3 ∙ same, h.4, h.5)

module _ {S A : Type 0} {g : Ghosts S} where
  -- what a statement that writes makes of tables without a row
  pub statement_makes : {sql : List ℕ} (Done : State → State → Type 0) {from : Schema} {tables : List Table} {Made : State → State → Type 0} {old new : Held S} {r : Result A Error} → IsWriting from sql → IsMaking from sql
      → (HasEmptyTables from tables (state g old) → Done (state g old) (state g new) → Made (state g old) (state g new)) → RunsStatement g sql [] old new r
      → (HasCleanDisk (state g new) → OnOk r (Done (state g old) (state g new))) → Makes g from tables Made old new r
  statement_makes {sql} Done {from} {tables} {old} {new} {r} writes making makes ran ok = record {
    made = λ clean was. on_ok r (makes was) (ok clean);
    err = λ clean inside was. failed_at ran (subst (λ s. IsMaking s sql) (sym was.schema_is) making) inside clean;
    survives = survives_weaker (state g old) (state g new) _ _ (λ clean db none was. none (subst (λ s. IsWriting s sql) (sym was.schema_is) writes)) ran.survives;
  }

  -- a CREATE TABLE
  pub table_makes : {sql : List ℕ} {base from to : Schema} {tables : List Table} (table : Table) {names : List (List ℕ)} {old new : Held S} {r : Result A Error}
      → Has office_schema.tables table → IsGrown base from tables (table.name ∷ names) → to ≡ created from table → CreatesAmong table sql → RunsStatement g sql [] old new r
      → (HasCleanDisk (state g new) → OnOk r (CreatesTable sql (state g old) (state g new))) → Makes g from tables (MakesTables base.tables to (tables ++ table ∷ [])) old new r
  table_makes {sql} {base} {from} {to} {tables} table {old = old} {new = new} own grown is text =
      statement_makes (CreatesTable sql) (defines_table_writes from sql (table_at 0 table) (text from grown.free.0 grown.counted)) (inl (table, own, text, grown.free.0, grown.counted))
      (λ was. table_made base from to tables sql (state g old) (state g new) was table grown is text)

  -- a CREATE INDEX
  pub index_makes : {sql : List ℕ} {base from to : Schema} {tables : List Table} (table : Table) (index : Index) {names : List (List ℕ)} {old new : Held S} {r : Result A Error}
      → Has office_schema.indexes index → IsGrown base from tables (index.name ∷ names) → HasTable from (table_in from table) → to ≡ with_index from table index → IndexesAmong table index sql → RunsStatement g sql [] old new r
      → (HasCleanDisk (state g new) → OnOk r (CreatesIndex sql (state g old) (state g new))) → Makes g from tables (MakesTables base.tables to tables) old new r
  index_makes {sql} {base} {from} {to} {tables} table index {old = old} {new = new} own grown has is text =
      statement_makes (CreatesIndex sql)
      (defines_index_writes from sql (table_in from table) (index_at 0 (table_in from table).tree index) (text from (table_in from table).tree has grown.free.0)) (inr (inl (table, index, own, text, has, grown.free.0)))
      (λ was. index_made base from to tables sql (state g old) (state g new) was table index grown has is text)

no_ok : {B E : Type 0} (P : Type 0) (r : Result B E) → IsErr r → OnOk r P
no_ok P (Ok x) failed = absurd (cc)
no_ok P (Err e) failed = tt

early : {a b : State} {Made : Trees → Type 0} → Survives a b Made → HasCleanDisk b → HasCleanDisk a
early two clean = omega (arith, two.clean)

if_err : {B E : Type 0} (P : E → Type 0) (e : E) (f : Result B E) → IsErrAnd f (λ x. x ≡ e) → P e → IfErr f P
if_err P e (Ok x) is p = tt
if_err P e (Err x) is p = subst P (sym is) p

-- a call that fails makes nothing
pub fails : {S A B : Type 0} {g : Ghosts S} {from : Schema} {tables : List Table} {Made Other : State → State → Type 0} {old new : Held S} {e : Error} {f : Result B Error} → IsErr f × IsErrAnd f (λ x. x ≡ e)
    → Makes {A = A} g from tables Made old new (Err e) → Makes g from tables Other old new f
fails {g = g} {old = old} {new = new} {e = e} {f = f} failed step = record { made = λ clean was. no_ok _ f failed.0; err = λ clean inside was. if_err (FailsAt g old new) e f failed.1 (step.err clean inside was); survives = step.survives }

-- what may come after tables were made, and then comes from the tables before them
abbrev pub Follows : List Table → (State → State → Type 0) → Type 1
Follows others Made = (mid : Schema) (tables : List Table) (a b c : State) → MakesTables others mid tables a b → Made b c → Made a c

pub tables_follow : (others : List Table) (to : Schema) (made : List Table) → Follows others (MakesTables others to made)
tables_follow others to made mid tables a b c p q = record {
  made = q.made;
  kept = all_both _ _ _ (λ t one two. two ∙ one) others p.kept q.kept;
  shown = record {
    was_open = p.shown.was_open;
    is_open = q.shown.is_open;
    now_is = refl;
    committed_is = q.shown.committed_is ∙ p.shown.committed_is;
    mode = q.shown.mode;
  };
  marks = q.marks ∙ p.marks;
}

-- one call after another
pub makes_then : {S A B : Type 0} {g : Ghosts S} {others : List Table} {from mid : Schema} {before between : List Table} {Made : State → State → Type 0} {a b c : Held S} {x : A} {r : Result B Error} → Follows others Made
    → Makes g from before (MakesTables others mid between) a b (Ok x) → Makes g mid between Made b c r → Makes g from before Made a c r
makes_then {g} {others} {mid = mid} {between = between} {a = a} {b = b} {c = c} {r = r} follows one two = record {
  made = λ clean was. let step = one.made (early two.survives clean) was in on_ok r (follows mid between (state g a) (state g b) (state g c) step) (two.made clean step.made);
  err = λ clean inside was. let step = one.made (early two.survives clean) was in failed_later g a b c r one.survives.limit (two.err clean (subst IsTrue (sym step.shown.mode) refl) step.made);
  survives = survives_then (state g a) (state g b) (state g c) _ _ _ (λ clean db none. none) (λ clean db none was. none (one.made (early two.survives clean) was).made) one.survives two.survives;
}
