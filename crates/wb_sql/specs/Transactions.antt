-- Transactions: what they end in, and what a crash after each call of one may leave (SQL's BEGIN, COMMIT and ROLLBACK).
use Rattle.std.specs.Prelude.{◌≡◌, ◌⊎◌, ℕ, false, List, [], codes, Err, IsTrue}
use Rattle.sqlite_trees.specs.declared.store.Store.{Ghosts}
use Rattle.sqlite.specs.declared.error.Error.{Error}
use Rattle.sqlite.specs.declared.error.Error.TheVariants.{SqliteFailure}
use Rattle.sqlite.specs.declared.error.ErrorCode.TheVariants.{OutOfMemory}
use Rattle.sqlite.specs.Tree.{Trees}
use Rattle.sqlite.specs.Held.{Held, state}
use Rattle.sqlite.specs.State.{State, IsUnchanged, IsRolledBack, Shows, Executes}
use Rattle.wb_sql.specs.declared.transaction.CommitError.{CommitError}
use Rattle.wb_sql.specs.declared.transaction.CommitError.TheVariants.{Memory, InDoubt}

-- nothing was written, or all that the transaction wrote is taken back
abbrev pub IsKeptOrUndone : State → State → Type 0
IsKeptOrUndone old new = IsUnchanged old new ⊎ IsRolledBack old new

-- the transaction is taken back, or it was over before
abbrev pub IsTakenBack : State → State → Type 0
IsTakenBack old new = IsRolledBack old new ⊎ ((old.in_transaction ≡ false) × IsUnchanged old new)

-- what the transaction wrote is committed, and the transaction is over
pub record Commits (old new : State) : Type 0 where
  pub under_way : IsTrue old.in_transaction
  pub shown : Shows old new old.now old.now false
  pub unmarked : new.marks ≡ []

-- the text that ends a transaction and makes what it wrote permanent
abbrev pub commit_text : List ℕ
commit_text = codes "COMMIT"

-- the text that ends a transaction and takes back what it wrote
abbrev pub rollback_text : List ℕ
rollback_text = codes "ROLLBACK"

-- the error of `sqlite` for which a commit is not known to be made
abbrev pub cause_of : CommitError → Error
cause_of Memory = SqliteFailure OutOfMemory
cause_of (InDoubt error) = error

-- COMMIT failed with this error, at some moment of the call
abbrev pub FailsToCommit : {S : Type 0} → Ghosts S → Held S → Error → Type 0
FailsToCommit {S} g old error = (at : Held S) × Executes commit_text [] (state g old) (state g at) (Err error)

-- a crash leaves only these rows
abbrev pub LeavesAlone : State → Trees → Type 0
LeavesAlone s rows = (db : Trees) → s.may_leave db → db ≡ rows

-- a crash leaves only what it could leave before
abbrev pub LeavesNoMore : State → State → Type 0
LeavesNoMore old new = (db : Trees) → new.may_leave db → old.may_leave db

-- a statement of this text failed
abbrev pub FailsToRun : List ℕ → State → State → Type 0
FailsToRun sql old new = (error : Error) × Executes sql [] old new (Err error)
