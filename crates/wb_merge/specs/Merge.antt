-- What a merge makes of the record of one source package, case by case (in wanna-build's terms).
use Rattle.std.specs.Prelude.{◌≡◌, ℕ, pos, Bool, true, false, ◌||◌, nat_le, List, [], Option, Some, None, Result, Ok, Err, is_some, if◌then◌else◌}
use Rattle.std.specs.Ordering.{match_ordering}
use Rattle.deb_version.specs.Order.{version_cmp}
use Rattle.deb_relations.specs.declared.fault.RelationFault.{RelationFault}
use Rattle.deb_relations.specs.declared.relations.Alternative.{Alternative}
use Rattle.deb_relations.specs.Reading.{reading_of}
use Rattle.deb_relations.specs.Satisfaction.{Pairs, satisfied}
use Rattle.wb_states.specs.declared.record.Record.{Record}
use Rattle.wb_states.specs.declared.state.State.{State}
use Rattle.wb_states.specs.declared.state.State.TheVariants.{NeedsBuild, Installed, NotForUs}
use Rattle.wb_states.specs.Moves.{in_state, note_after}
use Rattle.wb_states.specs.State.{is_installed, is_dep_wait, is_not_for_us}
use Rattle.wb_merge.specs.declared.listing.Listed.{Listed}
use Rattle.wb_merge.specs.declared.listing.Built.{Built}

-- whether what was built covers a version and a number: it is of a later version, or of an equal one with at least this number
abbrev pub covers : Option Built → List ℕ → ℕ → Bool
covers None version number = false
covers (Some built) version number = match_ordering (version_cmp built.version version) false (nat_le number built.number) true

-- the number of what was built, if it is of this version, else another
abbrev pub built_number : Option Built → List ℕ → ℕ → ℕ
built_number None version other = other
built_number (Some built) version other = match_ordering (version_cmp built.version version) other built.number other

-- whether relations were read and are met by what is available (Debian Policy 7.1)
abbrev pub is_reading_met : Pairs → Result (List (List Alternative)) RelationFault → Bool
is_reading_met available (Err fault) = false
is_reading_met available (Ok relations) = satisfied available relations

-- whether waits are met by what is available (Debian Policy 7.1)
unfoldable pub are_waits_met : Pairs → List ℕ → Bool
are_waits_met available waits = is_reading_met available (reading_of waits)

-- a record brought in line with its listing, in a state and with a number
unfoldable pub relisted : State → ℕ → Listed → Option Built → Record → Record
relisted state number listed built current = record (in_state state current) {
  number = number;
  priority = listed.priority;
  section = listed.section;
  depends = listed.depends;
  earlier = current.earlier || (is_some built || is_installed state);
  note = note_after None state current;
}

-- ---- a source package without a record

-- a record of which nothing is known yet but its version
abbrev pub blank_record : List ℕ → Record
blank_record version = record {
  state = NeedsBuild;
  version = version;
  priority = [];
  section = [];
  earlier = false;
  number = 0;
  holder = None;
  take = None;
  waits = [];
  depends = None;
  note = [];
  message = [];
  build_priority = pos 0;
}

-- the state of a new record: Installed if the version is built, else Needs-Build
abbrev pub new_state : Listed → Option Built → State
new_state listed built = if covers built listed.version 0 then Installed else NeedsBuild

-- the number of a new record: that of the build of its version, or 0 if there is none
abbrev pub new_number : Listed → Option Built → ℕ
new_number listed built = if covers built listed.version 0 then built_number built listed.version 0 else 0

-- the record of a source package that had none
unfoldable pub new_record : Listed → Option Built → Record
new_record listed built =
    relisted (new_state listed built) (new_number listed built) listed built (blank_record listed.version)

-- ---- a record of an earlier version than is listed

-- the state at a later version: Not-For-Us stays, all others are as new
abbrev pub newer_state : Listed → Option Built → Record → State
newer_state listed built current = if is_not_for_us current.state then NotForUs else new_state listed built

-- the number at a later version: 0 for Not-For-Us, else as new
abbrev pub newer_number : Listed → Option Built → Record → ℕ
newer_number listed built current = if is_not_for_us current.state then 0 else new_number listed built

-- the record at a later version, without its message, its holder and its take number; its build priority stays (this project's own)
unfoldable pub newer_record : Listed → Option Built → Record → Record
newer_record listed built current =
    relisted (newer_state listed built current) (newer_number listed built current) listed built
    (record current { version = listed.version; message = []; holder = None; take = None })

-- ---- a record of the version that is listed

-- the state at an equal version, by whether its waits are met: Not-For-Us stays, what is built is Installed, a removed build and met waits give Needs-Build, all else stays
abbrev pub same_state_given : Listed → Option Built → Bool → Record → State
same_state_given listed built is_met current =
    if is_not_for_us current.state then NotForUs
    else (if covers built listed.version current.number then Installed
    else (if is_installed current.state then NeedsBuild
    else (if is_dep_wait current.state then (if is_met then NeedsBuild else current.state)
    else current.state)))

-- the state at an equal version, by what is available
abbrev pub same_state : Listed → Option Built → Pairs → Record → State
same_state listed built available current = same_state_given listed built (are_waits_met available current.waits) current

-- the number at an equal version: that of a build of this version that covers the record, else the record's own, as for Not-For-Us
abbrev pub same_number : Listed → Option Built → Record → ℕ
same_number listed built current =
    if is_not_for_us current.state then current.number
    else (if covers built listed.version current.number then built_number built listed.version current.number
    else current.number)

-- the record at an equal version, by whether its waits are met, brought in line with its listing
abbrev pub same_record_given : Listed → Option Built → Bool → Record → Record
same_record_given listed built is_met current =
    relisted (same_state_given listed built is_met current) (same_number listed built current) listed built current

-- the record at an equal version, by what is available
unfoldable pub same_record : Listed → Option Built → Pairs → Record → Record
same_record listed built available current = same_record_given listed built (are_waits_met available current.waits) current

-- ---- all cases

-- what becomes of a record by the listed version: it is of an earlier one, of the same, at which it becomes this one, or of a later one, which stays as it is
abbrev pub by_version : Listed → Option Built → Record → Record → Record
by_version listed built same current =
    match_ordering (version_cmp current.version listed.version) (newer_record listed built current) same current

-- what becomes of a record whose source package is listed, by whether its waits are met
abbrev pub listed_record_given : Listed → Option Built → Bool → Record → Record
listed_record_given listed built is_met current = by_version listed built (same_record_given listed built is_met current) current

-- what becomes of a record whose source package is listed, by what is available
unfoldable pub listed_record : Listed → Option Built → Pairs → Record → Record
listed_record listed built available current = by_version listed built (same_record listed built available current) current

-- the record of a source package after a merge: none if it is not listed (this project's own)
abbrev pub record_after : Option Record → Option Listed → Option Built → Pairs → Option Record
record_after current None built available = None
record_after None (Some listed) built available = Some (new_record listed built)
record_after (Some current) (Some listed) built available = Some (listed_record listed built available current)

-- the record of a source package after a merge, by whether the waits of its record are met
abbrev pub record_given : Option Record → Option Listed → Option Built → Bool → Option Record
record_given current None built is_met = None
record_given None (Some listed) built is_met = Some (new_record listed built)
record_given (Some current) (Some listed) built is_met = Some (listed_record_given listed built is_met current)

-- it is said of a record in Dep-Wait whether its waits are met by what is available; of other records it plays no part
abbrev pub SaysWaitsMet : Pairs → Bool → Record → Type 0
SaysWaitsMet available is_met current = is_dep_wait current.state ≡ true → is_met ≡ are_waits_met available current.waits

-- ---- holds

-- whether a listing ends a hold: it has a later version than the record's, or the same one, built with at least the record's number
abbrev pub ends_hold : Listed → Option Built → Record → Bool
ends_hold listed built current =
    match_ordering (version_cmp current.version listed.version) true (covers built listed.version current.number) false

-- a record that is held as the one before it was: by the same builder, under the same take number, in the same state
pub record HasSameHold (current new : Record) : Type 0 where
  pub state : new.state ≡ current.state
  pub holder : new.holder ≡ current.holder
  pub take : new.take ≡ current.take
