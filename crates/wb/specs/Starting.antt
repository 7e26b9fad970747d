-- What becomes of a user's file when an office is to be opened over it, by what stands there.
use Rattle.std.specs.Prelude.{◌==◌, ◌++◌, ◌∷◌, ℕ, List, [], codes, if◌then◌else◌, nat_eq}
use Rattle.std.specs.List.{starts_with}
use Rattle.wb.specs.declared.starting.Decision.{Decision}
use Rattle.wb.specs.declared.starting.Decision.TheVariants.{Begin, BeginBeside, LetOpeningRefuse, Open, ReadTables}
use Rattle.wb.specs.declared.starting.Decision.TheVariants.{RefuseLost, RefuseNoDatabase, RefuseOthers, Upgrade}
use Rattle.wb.specs.declared.starting.Decision.TheVariants.{UpgradeUnsummed}
use Rattle.wb.specs.declared.starting.Front.{Front}
use Rattle.wb.specs.declared.starting.Front.TheVariants.{Database, Nothing, Other, Unclear}
use Rattle.wb.specs.declared.starting.Log.{Log}
use Rattle.wb.specs.declared.starting.Log.TheVariants.{Frames, NoFrame}
use Rattle.wb.specs.declared.starting.Pages.{Pages}
use Rattle.wb.specs.declared.starting.Pages.TheVariants.{Summed, Unsummed}
use Rattle.wb.specs.declared.starting.Tables.{Tables}
use Rattle.wb.specs.declared.starting.Tables.TheVariants.{FirstFormat, Lacking, SecondFormat, Unfit, Unread}

-- the decision, by what the file begins with, by its log, its pages and its tables: the first line that fits counts
abbrev pub decision : Front → Log → Pages → Tables → Decision
decision Nothing Frames pages tables = RefuseLost
decision Other NoFrame pages tables = RefuseNoDatabase
decision front log pages Unread = ReadTables
decision Nothing log pages Lacking = Begin
decision front log Summed Lacking = BeginBeside
decision front log Unsummed Lacking = RefuseOthers
decision front log Summed FirstFormat = Upgrade
decision front log Unsummed FirstFormat = UpgradeUnsummed
decision front log pages SecondFormat = Open
decision front log pages Unfit = LetOpeningRefuse

-- the first bytes of a database, by the format of SQLite's files
abbrev pub magic : List ℕ
magic = codes "SQLite format 3" ++ 0 ∷ []

-- what a file that has these bytes begins with
abbrev pub front_of : List ℕ → Front
front_of [] = Nothing
front_of (first ∷ others) = if starts_with nat_eq (first ∷ others) magic then Database
    else (if first == 0 then Unclear else Other)
