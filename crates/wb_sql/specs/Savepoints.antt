-- The savepoint of a transaction: what is made of it, and what a call on it promises (SQL's SAVEPOINT, ROLLBACK TO and RELEASE).
use Rattle.std.specs.Prelude.{◌≡◌, ⊤, ℕ, true, false, List, [], ◌∷◌, ◌++◌, codes, Result, Err, IsTrue, IfErr, OnOk}
use Rattle.sqlite_trees.specs.declared.store.Store.{Ghosts}
use Rattle.sqlite.specs.declared.error.Error.{Error}
use Rattle.sqlite.specs.declared.error.Error.TheVariants.{SqliteFailure}
use Rattle.sqlite.specs.declared.error.ErrorCode.TheVariants.{TransactionState}
use Rattle.sqlite.specs.Effect.{Database}
use Rattle.sqlite.specs.Held.{Held, state}
use Rattle.sqlite.specs.State.{State, Savepoint, HasCleanDisk, KeepsCounts, Shows, Survives, Executes}
use Rattle.wb_sql.specs.Transactions.{IsKeptOrUndone}

-- the text that makes the savepoint
abbrev pub save_text : List ℕ
save_text = codes "SAVEPOINT part"

-- the text that takes back what was written since the savepoint
abbrev pub back_text : List ℕ
back_text = codes "ROLLBACK TO part"

-- the text that drops the savepoint, and keeps what was written since
abbrev pub release_text : List ℕ
release_text = codes "RELEASE part"

-- the savepoint of a transaction that saw this then
abbrev pub part_of : Database → Savepoint
part_of was = record { name = codes "part"; begins = false; db = was }

-- the newest savepoint of the transaction is this one, after these
abbrev pub IsSavedAs : List Savepoint → Database → State → Type 0
IsSavedAs before was s = s.marks ≡ before ++ part_of was ∷ []

-- the newest savepoint of the transaction is one that `save` made
abbrev pub IsSaved : State → Type 0
IsSaved s = (before : List Savepoint) × (was : Database) × IsSavedAs before was s

-- the savepoint of what the transaction sees is made, and nothing is written
pub record Saves (old new : State) : Type 0 where
  pub shown : Shows old new old.now old.committed true
  pub counts : KeepsCounts old new
  pub saved : IsSavedAs old.marks old.now new

-- the transaction sees again what it saw at its savepoint, which stays, and nothing is committed
pub record GoesBackTo (was : Database) (old new : State) : Type 0 where
  pub shown : Shows old new was old.committed true
  pub counts : KeepsCounts old new
  pub marks : new.marks ≡ old.marks

-- it goes back to the newest savepoint, whatever that saw
abbrev pub GoesBack : State → State → Type 0
GoesBack old new = (before : List Savepoint) (was : Database) → IsSavedAs before was old → GoesBackTo was old new

-- the newest savepoint is dropped, and the transaction sees what it saw
pub record Releases (old new : State) : Type 0 where
  pub shown : Shows old new old.now old.committed true
  pub counts : KeepsCounts old new
  pub marks : (before : List Savepoint) (was : Database) → IsSavedAs before was old → new.marks ≡ before

-- nothing is asked of the transaction
abbrev pub IsAny : State → Type 0
IsAny s = ⊤

-- a statement on the savepoint of a transaction: if it succeeds on one that meets the need, this is done; if it fails, it fails as such a statement
-- fails, and has changed nothing or taken the transaction back; it is refused if the transaction is over; and a crash leaves no more than before
pub record RunsOnPart {S A : Type 0} (g : Ghosts S) (sql : List ℕ) (Needs : State → Type 0) (Done : State → State → Type 0) (old new : Held S) (result : Result A Error) : Type 0 where
  pub ok : HasCleanDisk (state g new) → Needs (state g old) → OnOk result (Done (state g old) (state g new))
  pub err : HasCleanDisk (state g new) → IsTrue old.in_transaction
      → IfErr result (λ e. Executes sql [] (state g old) (state g new) (Err e) × IsKeptOrUndone (state g old) (state g new))
  pub ended : old.in_transaction ≡ false → (result ≡ Err (SqliteFailure TransactionState)) × (new ≡ old)
  pub survives : Survives (state g old) (state g new) (λ _. ¬ Needs (state g old))
