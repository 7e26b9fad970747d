-- The format that a database shows in its table `office`, whatever its other tables are.
use Rattle.std.specs.Prelude.{◌≡◌, ◌⊎◌, ◌<◌, ◌≤◌, ℕ, List, [], ◌∷◌}
use Rattle.sqlite_trees.specs.declared.store.Store.{Ghosts}
use Rattle.sqlite.specs.declared.error.Error.{Error}
use Rattle.sqlite.specs.Effect.{Database}
use Rattle.sqlite.specs.Held.{Held, state}
use Rattle.sqlite.specs.Order.{Row, column}
use Rattle.sqlite.specs.State.{State, FailsToQuery, HasCleanDisk, IsUnchanged, Survives}
use Rattle.wb_sql.specs.Among.{HasOffice, LacksOffice}
use Rattle.wb_sql.specs.Format.{AsksFormat, HasFormatColumn, format_place}
use Rattle.wb_sql.specs.Transactions.{IsKeptOrUndone}
use Rattle.wb_sql.specs.Upgrading.{HasFirstOffice}
use Rattle.wb_states.specs.declared.store_fault.StoreFault.{StoreFault}
use Rattle.wb_states.specs.declared.store_fault.StoreFault.TheVariants.{NewerSchema, NotOffice}
use Rattle.wb_states.specs.declared.store_fault.Table.TheVariants.{Office}
use Rattle.wb_rows.specs.Cells.{number}
use Rattle.wb_store.specs.Faults.{fault_of}

-- the database has a table `office` with one row, in whose column `format` this format stands
pub record ShowsFormat (db : Database) (format : ℕ) : Type 0 where
  pub has : HasFormatColumn db.schema
  pub row : Row
  pub alone : db.trees has.table.tree ≡ row ∷ []
  pub is : column row (format_place has) ≡ number format

-- the database shows a format above 2: a newer program wrote it
abbrev pub IsNewer : Database → Type 0
IsNewer db = (format : ℕ) × (2 < format) × ShowsFormat db format

-- no office can be made in the database, and it shows no format from 1 on, or format 1 or 2 without the tables of that format
abbrev pub IsNoOffice : Database → Type 0
IsNoOffice db =
    ¬ LacksOffice db.schema
    × ((format : ℕ) → ShowsFormat db format → ((format < 2) × (format ≡ 1 → ¬ HasFirstOffice db.schema)) ⊎ ((format ≡ 2) × ¬ HasOffice db.schema))

-- the fault of the formats in these rows: that a newer program wrote them, if there is one format, above 2, and else that they are no office's
abbrev pub IsFaultOfFormats : List Row → StoreFault → Type 0
IsFaultOfFormats rows fault =
    ((fault ≡ NewerSchema) × ((format : ℕ) × (2 < format) × (rows ≡ (number format ∷ []) ∷ [])))
    ⊎ ((fault ≡ NotOffice) × ((format : ℕ) → rows ≡ (number format ∷ []) ∷ [] → format ≤ 2))

-- the query for the format failed with an error, of which this is the fault, and changed nothing or took a transaction back
pub record FailsToReadFormat (old new : State) (fault : StoreFault) : Type 0 where
  pub error : Error
  pub sql : List ℕ
  pub text : AsksFormat sql
  pub failed : FailsToQuery sql [] old new error
  pub fault_is : fault ≡ fault_of error Office
  pub left : IsKeptOrUndone old new

-- the fault that the format of a database tells: that a newer program wrote it, or, if it shows no format above 2, that it is no office's
abbrev pub IsFaultOfFormat : Database → StoreFault → Type 0
IsFaultOfFormat db fault = ((fault ≡ NewerSchema) × IsNewer db) ⊎ ((fault ≡ NotOffice) × ((format : ℕ) → ShowsFormat db format → format ≤ 2))

-- the fault of a database with a table `office` that has a format: the query for it failed, or it tells the fault, and nothing is changed
abbrev pub IsToldByFormat : State → State → StoreFault → Type 0
IsToldByFormat old new fault = FailsToReadFormat old new fault ⊎ (IsUnchanged old new × IsFaultOfFormat old.now fault)

-- the fault of a database that neither has the office's tables nor lacks them: its format tells it, if it has one to be read
abbrev pub IsOtherFault : {S : Type 0} → Ghosts S → Held S → Held S → StoreFault → Type 0
IsOtherFault g old new fault =
    (HasFormatColumn old.schema × IsToldByFormat (state g old) (state g new) fault) ⊎ ((¬ HasFormatColumn old.schema) × (fault ≡ NotOffice) × (new ≡ old))

-- a call that tells this fault; without a format to be read it asks nothing; and a crash leaves no more than before
pub record TellsOther {S : Type 0} (g : Ghosts S) (old new : Held S) (fault : StoreFault) : Type 0 where
  pub why : HasCleanDisk (state g new) → IsOtherFault g old new fault
  pub unread : ¬ HasFormatColumn old.schema → (fault ≡ NotOffice) × (new ≡ old)
  pub survives : Survives (state g old) (state g new) (λ _. ⊥)
