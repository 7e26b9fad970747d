-- What a call promises, whether it succeeds, fails or is cut off by a crash: a statement of a transaction, and a query on a connection.
use Rattle.std.specs.Prelude.{◌≡◌, ℕ, false, List, Result, Ok, Err, Vec, IsTrue, IfOk, IfErr, OnOk}
use Rattle.sqlite_trees.specs.declared.store.Store.{Ghosts}
use Rattle.sqlite.specs.declared.error.Error.{Error}
use Rattle.sqlite.specs.declared.error.Error.TheVariants.{SqliteFailure}
use Rattle.sqlite.specs.declared.error.ErrorCode.TheVariants.{TransactionState}
use Rattle.sqlite.specs.Given.{IsPlain}
use Rattle.sqlite.specs.Held.{Held, state}
use Rattle.sqlite.specs.Listing.{understood}
use Rattle.sqlite.specs.Order.{Row}
use Rattle.sqlite.specs.State.{State, HasCleanDisk, IsUnchanged, Executes, FailsToQuery, Shown, Survives}
use Rattle.wb_sql.specs.Queries.{TableQuery, Asks, Answers}
use Rattle.wb_sql.specs.Statements.{IsWriting}
use Rattle.wb_sql.specs.Transactions.{IsKeptOrUndone}

-- the text ran as one statement, in a transaction
abbrev pub RanInside : List ℕ → Row → State → State → Type 0
RanInside sql params old new = IsTrue old.in_transaction × ((count : ℕ) × Executes sql params old new (Ok count))

-- a statement of a transaction: it runs, or it fails as such a statement fails and has changed nothing or taken the transaction back; it is
-- refused if the transaction is over; and after one that writes a crash leaves no more than before
pub record RunsStatement {S A : Type 0} (g : Ghosts S) (sql : List ℕ) (params : Row) (old new : Held S) (result : Result A Error) : Type 0 where
  pub ok : HasCleanDisk (state g new) → OnOk result (RanInside sql params (state g old) (state g new))
  pub err : HasCleanDisk (state g new) → IsTrue old.in_transaction
      → IfErr result (λ e. Executes sql params (state g old) (state g new) (Err e) × IsKeptOrUndone (state g old) (state g new))
  pub ended : old.in_transaction ≡ false → (result ≡ Err (SqliteFailure TransactionState)) × (new ≡ old)
  pub survives : Survives (state g old) (state g new) (λ _. ¬ IsWriting old.schema sql)

-- a query on a connection: its rows are the answer of the table query that it asks, and it leaves the database as it is; if it fails, it fails
-- as such a query fails, and has changed nothing or taken a transaction back
pub record RunsQuery {S X : Type 0} (g : Ghosts S) (sql : List ℕ) (params : Row) (old new : Held S) (result : Result (Vec Row X) Error) : Type 0 where
  pub answers : HasCleanDisk (state g new) → IfOk result (λ rows. (q : TableQuery) (count : ℕ) → Asks old.schema sql q count → Answers q params ((state g old).now.trees q.tree) rows.items)
  pub shown : HasCleanDisk (state g new) → IfOk result (λ rows. Shown sql params (state g old) (state g new) rows.items)
  pub same : HasCleanDisk (state g new) → IsPlain (understood old.schema sql) → OnOk result (IsUnchanged (state g old) (state g new))
  pub err : HasCleanDisk (state g new) → IfErr result (λ e. FailsToQuery sql params (state g old) (state g new) e × IsKeptOrUndone (state g old) (state g new))
  pub survives : Survives (state g old) (state g new) (λ _. ¬ IsPlain (understood old.schema sql))
