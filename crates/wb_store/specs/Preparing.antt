-- A database that lacks the office's tables, and becomes that of an empty office.
use Rattle.std.specs.Prelude.{◌≡◌, ◌⊎◌, false, Result, IfErr, OnOk, IsTrue}
use Rattle.sqlite_trees.specs.declared.store.Store.{Ghosts}
use Rattle.sqlite_catalog.specs.Listing.{IsSound}
use Rattle.sqlite.specs.declared.error.Error.{Error}
use Rattle.sqlite.specs.Change.{KeepsRows}
use Rattle.sqlite.specs.Schema.{Schema}
use Rattle.sqlite.specs.Tree.{Trees}
use Rattle.sqlite.specs.Held.{Held, state}
use Rattle.sqlite.specs.State.{State, HasCleanDisk}
use Rattle.wb_sql.specs.Transactions.{LeavesAlone, FailsToCommit}
use Rattle.wb_sql.specs.Among.{LacksOffice}
use Rattle.wb_sql.specs.Making.{FailsAt, MakesOffice}
use Rattle.wb_states.specs.Machine.{Machine, empty_office}
use Rattle.wb_store.specs.Settled.{begun}
use Rattle.wb_store.specs.Settled.{IsFirstOffice, IsSettled, IsSettledFirst, StandsForFirstTrees, StandsForTrees}

-- a connection without a transaction, whose database lacks the office's tables, and of which a crash leaves only that
pub record IsBlank (s : State) : Type 0 where
  pub is_open : IsTrue s.is_open
  pub idle : s.in_transaction ≡ false
  pub committed : s.now ≡ s.committed
  pub lacks : LacksOffice s.now.schema
  pub sound : IsSound s.now.schema s.now.trees
  pub alone : LeavesAlone s s.now.trees

-- an open connection to a sound database that lacks the office's tables
pub record HasRoom (s : State) : Type 0 where
  pub is_open : IsTrue s.is_open
  pub lacks : LacksOffice s.now.schema
  pub sound : IsSound s.now.schema s.now.trees

-- the trees, as their catalogue lists them, lack the office's tables
pub record AreBlank (trees : Trees) : Type 0 where
  pub schema : Schema
  pub sound : IsSound schema trees
  pub lacks : LacksOffice schema

-- trees that hold the office in this state, in either schema, or the empty office of which no table is made yet
abbrev pub HoldOffice : Machine → Trees → Type 0
HoldOffice machine db = StandsForTrees machine db ⊎ (((machine ≡ empty_office) × AreBlank db) ⊎ StandsForFirstTrees machine db)

-- a connection that finds an office in this state, in either schema, or a database that lacks the office's tables, which is an empty office
abbrev pub IsFoundAt : Machine → State → Type 0
IsFoundAt machine s = IsSettled machine s ⊎ (((machine ≡ empty_office) × IsBlank s) ⊎ IsSettledFirst machine s)

-- whatever a crash leaves is found to be an office in this state
abbrev pub LeavesFound : Machine → State → Type 0
LeavesFound machine s = (db : Trees) → s.may_leave db → HoldOffice machine db

-- a crash leaves what it could leave before, or, of a database that lacked the office's tables, that of an empty office
abbrev pub LeavesOrMakes : State → State → Type 0
LeavesOrMakes old new = (db : Trees) → new.may_leave db → old.may_leave db ⊎ (LacksOffice old.now.schema × StandsForTrees empty_office db)

-- a crash leaves what it could leave before, or, of a database that lacked the office's tables, that of an empty office, or, of an office of the first schema, the
-- same state in the second
abbrev pub LeavesPrepared : State → State → Type 0
LeavesPrepared old new =
    (db : Trees) → new.may_leave db
    → old.may_leave db ⊎ ((LacksOffice old.now.schema × StandsForTrees empty_office db) ⊎ ((machine : Machine) × IsFirstOffice machine old.now × StandsForTrees machine db))

-- why an office is not made in the transaction that began: a statement of the making failed, or, after all of them, the commit
abbrev pub FailsToMake : {S : Type 0} → Ghosts S → Held S → Error → Type 0
FailsToMake {S} g old e = (at : Held S) × (FailsAt g (begun old) at e ⊎ (MakesOffice old.schema (state g (begun old)) (state g at) × FailsToCommit g at e))

-- an empty office is settled, and the tables that were there before keep their rows
abbrev pub IsMadeFrom : State → State → Type 0
IsMadeFrom old new = IsSettled empty_office new × KeepsRows old.now.schema.tables old.now.trees new.now.trees

-- an empty office is made in a database that lacks its tables, whole or not at all, also after a crash; no transaction is under way then; the limit of
-- steps stays
pub record MakesEmptyOffice {S A : Type 0} (g : Ghosts S) (old new : Held S) (result : Result A Error) : Type 0 where
  pub was_clean : HasCleanDisk (state g new) → HasCleanDisk (state g old)
  pub limit : (state g new).step_limit ≡ (state g old).step_limit
  pub idle : HasCleanDisk (state g new) → (state g new).in_transaction ≡ false
  pub made : HasCleanDisk (state g new) → HasRoom (state g old) → OnOk result (IsMadeFrom (state g old) (state g new))
  pub crash : HasCleanDisk (state g new) → HasRoom (state g old) → LeavesOrMakes (state g old) (state g new)
  pub left : HasCleanDisk (state g new) → IsBlank (state g old) → LeavesFound empty_office (state g new)
  pub err : HasCleanDisk (state g new) → IsBlank (state g old) → IfErr result (FailsToMake g old)
