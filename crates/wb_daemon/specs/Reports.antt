-- The file of a report, and the bytes that it is read as.
use Rattle.std.specs.Prelude.{◌≡◌, ◌⊎◌, ℕ, ◌<◌, ◌≤◌, List, length, Option}
use Rattle.std.specs.Str.{IsUtf8}
use Rattle.wb_states.specs.declared.command.Command.{Command}
use Rattle.wb_states.specs.Forms.{Report}
use Rattle.wb_lists.specs.Lists.{MayRead, IsAllOf}
use Rattle.wb_daemon.specs.declared.report.ListRead.{ListRead}
use Rattle.wb_daemon.specs.declared.report.ListRead.TheVariants.{Whole, TooLong, Failed}

-- the greatest length of a report
abbrev pub list_limit : ℕ
list_limit = 2147483648

-- what a read of a report gave: all its bytes, or there are more than a report may have, or a read failed of a file
-- that may fail
abbrev pub ReadsList : Type 0 → Option (List ℕ) → ListRead → Type 0
ReadsList breaks known (Whole list) = IsAllOf known list.items × (length list.items ≤ list_limit)
ReadsList breaks known TooLong = (bytes : List ℕ) × IsAllOf known bytes × (list_limit < length bytes)
ReadsList breaks known (Failed error) = breaks

-- the file of this name may be read as these bytes, and is not too long
abbrev pub MayReadList : MayRead → List ℕ → List ℕ → Type 0
MayReadList may_read name bytes = may_read.reads name bytes × (length bytes ≤ list_limit)

-- the file of this name is at fault: it may not be opened, or its reading may fail, or it may be read as more bytes
-- than a report may have
abbrev pub LacksList : MayRead → List ℕ → Type 0
LacksList may_read name =
    may_read.fails name ⊎ ((bytes : List ℕ) × may_read.reads name bytes × (list_limit < length bytes))

-- the report of an architecture, with the text that its file may be read as, which is UTF-8
abbrev pub MayReadReport : MayRead → List ℕ → List ℕ → Command → Type 0
MayReadReport may_read arch file command =
    (text : List ℕ) × MayReadList may_read file text × IsUtf8 text × (command ≡ Report arch text)

-- the file of a report is at fault, or is not UTF-8
abbrev pub LacksReport : MayRead → List ℕ → Type 0
LacksReport may_read file =
    LacksList may_read file ⊎ ((bytes : List ℕ) × MayReadList may_read file bytes × (¬ IsUtf8 bytes))
