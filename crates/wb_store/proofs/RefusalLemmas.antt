-- An office that is found or made, or the fault for which a database is refused.
use Rattle.std.proofs.Common.{◌≡◌, ◌≢◌, ◌<◌, ◌≤◌, ◌⊎◌, inl, inr, false, IsTrue, ℕ, List, [], ◌∷◌, Result, Ok, Err, refl, sym, ap, subst, ◌∙◌, arith}
use Rattle.sqlite_trees.specs.declared.store.Store.{Ghosts}
use Rattle.sqlite.specs.declared.error.Error.{Error}
use Rattle.sqlite.specs.declared.error.Error.TheVariants.{SqliteFailure}
use Rattle.sqlite.specs.declared.error.ErrorCode.TheVariants.{OutOfMemory, SystemIoFailure, DiskFull, TooBig, Closed}
use Rattle.sqlite.specs.Change.{KeepsRows}
use Rattle.sqlite.specs.Effect.{Database}
use Rattle.sqlite.specs.Held.{Held, state}
use Rattle.sqlite.specs.Order.{Row, column}
use Rattle.sqlite.specs.Schema.{Schema}
use Rattle.sqlite.specs.State.{State, HasCleanDisk, IsLive}
use Rattle.wb_sql.specs.Transactions.{IsKeptOrUndone}
use Rattle.wb_sql.specs.Among.{HasOffice, LacksOffice}
use Rattle.wb_sql.specs.Upgrading.{HasFirstOffice}
use Rattle.wb_sql.proofs.FirstOfficeLemmas.{first_no_lack, first_no_office}
use Rattle.wb_sql.proofs.FormatLemmas.{format_of_office, lacks_format}
use Rattle.wb_sql.proofs.GrowthLemmas.{lacks_none}
use Rattle.wb_states.specs.declared.arch.OsCpu.{OsCpu}
use Rattle.wb_states.specs.declared.counts.Counts.{Counts}
use Rattle.wb_states.specs.declared.store_fault.StoreFault.{StoreFault}
use Rattle.wb_states.specs.declared.store_fault.StoreFault.TheVariants.{Damaged, Memory, NewerSchema, NotOffice}
use Rattle.wb_states.specs.declared.store_fault.Table.{Table}
use Rattle.wb_states.specs.declared.store_fault.Table.TheVariants.{Arch, Builder, Office, SourceState}
use Rattle.wb_states.specs.Machine.{Key, Machine, empty_office}
use Rattle.wb_states.proofs.ConsistencyLemmas.{IsConsistent-empty_office}
use Rattle.wb_rows.specs.Cells.{arch_cells, builder_cells, number}
use Rattle.wb_rows.proofs.CellsLemmas.{number-same}
use Rattle.wb_store.specs.Calls.{FailsToRead}
use Rattle.wb_store.specs.Checks.{AreBadCounts, AreBadRecords, AreBadRows, AreOfFormat, FailsToTest, IsFormedArch, IsFormedBuilder}
use Rattle.wb_store.specs.Faults.{fault_of}
use Rattle.wb_store.specs.Finds.{StaysAs}
use Rattle.wb_store.specs.Formats.{IsNewer, IsOtherFault, ShowsFormat, TellsOther}
use Rattle.wb_store.specs.Opening.{AreCountsOf, Checks, ComesLater, StandsIfFirst, FailsOnOffice, FailsOnReading, FailsOnRows, FailsOnRowsOf, FailsToBring, PreparesOffice, IsNewerFault, LacksMemoryOrQuery, NamesFault, ShowsCounts}
use Rattle.wb_store.specs.FirstOpening.{BringsOver}
use Rattle.wb_store.specs.Preparing.{HasRoom, LeavesFound, LeavesPrepared, MakesEmptyOffice}
use Rattle.wb_store.specs.Schemas.{number_of, table_of_records}
use Rattle.wb_store.specs.Upgrading.{FailsToReadFirst, FailsToUpgrade, HasFirst, LeavesOrUpgrades}
use Rattle.wb_store.specs.Queries as ask
use Rattle.wb_store.specs.declared.format.Format.{Format}
use Rattle.wb_store.specs.declared.format.Format.TheVariants.{One, Two}
use Rattle.wb_store.specs.Queries.{HasAsked, OfficeQuery}
use Rattle.wb_store.specs.Settled.{IsSettled, IsSettledFirst, StandsForFirstTrees}
use Rattle.wb_store.proofs.FindsLemmas.{stays-now, stays-schema}
use Rattle.wb_store.proofs.FormatLemmas.{counts_of_format, format_of_counts, up_to_two}
use Rattle.wb_store.proofs.SettledLemmas.{settled_back}
use Rattle.wb_store.proofs.StaysLemmas.{no_more, was_clean}

-- ---- faults that no error of `sqlite` has

-- the fault is that of damage, of memory or of the disk
abbrev IsPlainFault : StoreFault → Type 0
IsPlainFault fault = (fault ≢ NewerSchema) × (fault ≢ NotOffice)

-- such is that of each error
plain_of : (e : Error) (table : Table) → IsPlainFault (fault_of e table)
plain_of (SqliteFailure OutOfMemory) table = ((λ is. cc), (λ is. cc))
plain_of (SqliteFailure SystemIoFailure) table = ((λ is. cc), (λ is. cc))
plain_of (SqliteFailure DiskFull) table = ((λ is. cc), (λ is. cc))
plain_of (SqliteFailure TooBig) table = ((λ is. cc), (λ is. cc))
plain_of (SqliteFailure Closed) table = ((λ is. cc), (λ is. cc))
plain_of _ table = ((λ is. cc), (λ is. cc))

plain_by : (fault : StoreFault) (e : Error) (table : Table) → fault ≡ fault_of e table → IsPlainFault fault
plain_by fault e table is = subst IsPlainFault (sym is) (plain_of e table)

plain_read : {query : OfficeQuery} {old new : State} (fault : StoreFault) → FailsToRead query old new fault → IsPlainFault fault
plain_read fault failed = plain_by fault failed.error _ failed.fault_is

plain_memory : (fault : StoreFault) → fault ≡ Memory → IsPlainFault fault
plain_memory fault is = ((λ newer. cc), (λ none. cc))

plain_damage : (fault : StoreFault) (table : Table) (place : ℕ) → fault ≡ Damaged table place → IsPlainFault fault
plain_damage fault table place is = ((λ newer. cc), (λ none. cc))

-- a test of rows that are damaged has such a fault
plain_test : {query : OfficeQuery} (Bad : List Row → StoreFault → Type 0) {old new : State} (fault : StoreFault) → ((rows : List Row) → Bad rows fault → IsPlainFault fault)
    → FailsToTest query Bad old new fault → IsPlainFault fault
plain_test Bad fault plain (inl failed) = plain_read fault failed
plain_test Bad fault plain (inr bad) = plain bad.1.0 bad.1.2

plain_left : {query : OfficeQuery} {old new : State} (fault : StoreFault) → FailsOnRowsOf query old new fault → IsPlainFault fault
plain_left fault (inl failed) = plain_read fault failed
plain_left fault (inr left) = plain_damage fault _ _ left.0

-- and so has what is left to fail of the tests of an office
plain_later : {S : Type 0} (g : Ghosts S) (old new : Held S) (fault : StoreFault) → LacksMemoryOrQuery g old new fault → IsPlainFault fault
plain_later g old new fault (inl memory) = plain_memory fault memory
plain_later g old new fault (inr later) = plain_read fault later.2.1

-- ---- what the tests of an office say of its format

-- two formats of one row are one
one_format : (rows : List Row) (a b : ℕ) → AreOfFormat a rows → AreOfFormat b rows → a ≡ b
one_format rows a b one other =
    let same : one.0 ≡ other.0 = (let first : one.0 ∷ [] ≡ other.0 ∷ [] = sym one.2 ∙ other.2 in cc) in
    number-same a b (ap (λ r. column r 0) (sym one.1.2) ∙ ap (λ r. column r 0) same ∙ ap (λ r. column r 0) other.1.2)

up_to_newest : (format : Format) → number_of format ≤ 2
up_to_newest One = omega arith
up_to_newest Two = omega arith

-- an office that shows its counts in a format is not newer
never_newer : (format : Format) (db : Database) → HasAsked ask.Office db.schema → IsNewer db → (counts : Counts) → ¬ ShowsCounts format db counts
never_newer format db office newer counts shows =
    let of = counts_of_format db office shows.0 shows.1 newer.0 newer.2 in
    let own : AreOfFormat (number_of format) shows.0 = (shows.2.0, (number counts.handed, number counts.accepted, shows.2.1.same), shows.2.2) in
    let same = one_format shows.0 newer.0 (number_of format) of own in
    let over = newer.1 in
    let most = up_to_newest format in
    omega (arith, same, over, most)

-- of an office that is newer the test of the counts finds that
newer_counts : (format : Format) (at new : State) (fault : StoreFault) → HasAsked ask.Office at.now.schema → IsNewer at.now → FailsToTest ask.Office (AreBadCounts format) at new fault → IsNewerFault at new fault
newer_counts format at new fault office newer (inl failed) = inr (inr failed)
newer_counts format at new fault office newer (inr (kept, (rows, a, inl (none, others)))) =
    let most = (others newer.0 (counts_of_format at.now office rows a newer.0 newer.2)).0 in let over = newer.1 in absurd (omega (arith, most, over))
newer_counts format at new fault office newer (inr (kept, (rows, a, inr (inl (is, of))))) = inl (is, kept)
newer_counts format at new fault office newer (inr (kept, (rows, a, inr (inr (own, damaged))))) =
    let same = one_format rows newer.0 (number_of format) (counts_of_format at.now office rows a newer.0 newer.2) own in let over = newer.1 in let most = up_to_newest format in absurd (omega (arith, same, over, most))

newer_rows : (at new : State) (fault : StoreFault) → HasOffice at.now.schema → IsNewer at.now → FailsOnRows Two at new fault → IsNewerFault at new fault
newer_rows at new fault office newer (inl counts) = newer_counts Two at new fault office.office_is newer counts
newer_rows at new fault office newer (inr (inl (counts, shows, why))) = absurd (never_newer Two at.now office.office_is newer counts shows)
newer_rows at new fault office newer (inr (inr (inl (counts, archs, shows, known, why)))) = absurd (never_newer Two at.now office.office_is newer counts shows)
newer_rows at new fault office newer (inr (inr (inr (counts, archs, builders, shows, known, pairs, why)))) = absurd (never_newer Two at.now office.office_is newer counts shows)

newer_first : (at new : State) (fault : StoreFault) → HasFirstOffice at.now.schema → IsNewer at.now → FailsOnReading at new fault → IsNewerFault at new fault
newer_first at new fault first newer (inl (inl counts)) = newer_counts One at new fault first.tables.office_is.has newer counts
newer_first at new fault first newer (inl (inr (inl (counts, shows, why)))) = absurd (never_newer One at.now first.tables.office_is.has newer counts shows)
newer_first at new fault first newer (inl (inr (inr (inl (counts, archs, shows, known, why))))) = absurd (never_newer One at.now first.tables.office_is.has newer counts shows)
newer_first at new fault first newer (inl (inr (inr (inr (inl (counts, archs, builders, shows, known, pairs, why)))))) = absurd (never_newer One at.now first.tables.office_is.has newer counts shows)
newer_first at new fault first newer (inl (inr (inr (inr (inr (none, (counts, archs, builders, shows, known, pairs, why))))))) = absurd (never_newer One at.now first.tables.office_is.has newer counts shows)
newer_first at new fault first newer (inr (good, why)) = absurd (never_newer One at.now first.tables.office_is.has newer good.counts good.counts_held)

newer_office : (at new : State) (fault : StoreFault) → HasOffice at.now.schema → IsNewer at.now → FailsOnOffice at new fault → IsNewerFault at new fault
newer_office at new fault office newer (inl rows) = newer_rows at new fault office newer rows
newer_office at new fault office newer (inr (good, why)) = absurd (never_newer Two at.now office.office_is newer good.counts good.counts_held)

plain_rows : {X : Type 0} (table : Table) (columns : X → Row) (Fits : X → Type 0) (fault : StoreFault) (rows : List Row) → AreBadRows table columns Fits rows fault → IsPlainFault fault
plain_rows table columns Fits fault rows (inl memory) = plain_memory fault memory
plain_rows table columns Fits fault rows (inr bad) = plain_damage fault table bad.0 bad.1

plain_records : (format : Format) (archs : List (List ℕ × OsCpu)) (builders : List Key) (handed : ℕ) (fault : StoreFault) (rows : List Row) → AreBadRecords format archs builders handed rows fault → IsPlainFault fault
plain_records format archs builders handed fault rows (inl memory) = plain_memory fault memory
plain_records format archs builders handed fault rows (inr bad) = plain_damage fault (table_of_records format) bad.0 bad.1

-- what the fault of a test says of the format
abbrev TellsFormat : Format → Database → StoreFault → Type 0
TellsFormat own db fault = (fault ≡ NewerSchema → IsNewer db) × (fault ≡ NotOffice → (format : ℕ) → ShowsFormat db format → (format ≤ 2) × (format ≢ number_of own))

plain_tells : (own : Format) (db : Database) (fault : StoreFault) → IsPlainFault fault → TellsFormat own db fault
plain_tells own db fault plain = ((λ is. absurd (plain.0 is)), (λ is. absurd (plain.1 is)))

told_counts : (own : Format) (at new : State) (fault : StoreFault) → HasAsked ask.Office at.now.schema → FailsToTest ask.Office (AreBadCounts own) at new fault → TellsFormat own at.now fault
told_counts own at new fault office (inl failed) = plain_tells own at.now fault (plain_read fault failed)
told_counts own at new fault office (inr (kept, (rows, a, inl (none, others)))) = ((λ is. absurd (cc)), (λ is format shows. others format (counts_of_format at.now office rows a format shows)))
told_counts own at new fault office (inr (kept, (rows, a, inr (inl (newer, of))))) = ((λ is. (of.0, of.1, format_of_counts at.now office rows a of.0 of.2)), (λ is. absurd (cc)))
told_counts own at new fault office (inr (kept, (rows, a, inr (inr (one, damaged))))) = plain_tells own at.now fault (plain_damage fault Office 1 (damaged one.0 one.2).0)

plain_archs : {old new : State} (fault : StoreFault) → FailsToTest ask.Archs (AreBadRows Arch arch_cells IsFormedArch) old new fault → IsPlainFault fault
plain_archs fault = plain_test (AreBadRows Arch arch_cells IsFormedArch) fault (plain_rows Arch arch_cells IsFormedArch fault)

plain_builders : (archs : List (List ℕ × OsCpu)) {old new : State} (fault : StoreFault) → FailsToTest ask.Builders (AreBadRows Builder builder_cells (IsFormedBuilder archs)) old new fault → IsPlainFault fault
plain_builders archs fault = plain_test (AreBadRows Builder builder_cells (IsFormedBuilder archs)) fault (plain_rows Builder builder_cells (IsFormedBuilder archs) fault)

told_rows : (at new : State) (fault : StoreFault) → HasOffice at.now.schema → FailsOnRows Two at new fault → TellsFormat Two at.now fault
told_rows at new fault office (inl counts) = told_counts Two at new fault office.office_is counts
told_rows at new fault office (inr (inl (counts, shows, why))) = plain_tells Two at.now fault (plain_archs fault why)
told_rows at new fault office (inr (inr (inl (counts, archs, shows, known, why)))) = plain_tells Two at.now fault (plain_builders archs fault why)
told_rows at new fault office (inr (inr (inr (counts, archs, builders, shows, known, pairs, why)))) =
    plain_tells Two at.now fault (plain_test (AreBadRecords Two archs builders counts.handed) fault (plain_records Two archs builders counts.handed fault) why)

plain_reading : {old new : State} (fault : StoreFault) → FailsToReadFirst old new fault → IsPlainFault fault
plain_reading fault (inl failed) = plain_read fault failed
plain_reading fault (inr (inl memory)) = plain_memory fault memory.0
plain_reading fault (inr (inr bad)) = plain_damage fault SourceState 0 bad.0

told_first : (at new : State) (fault : StoreFault) → HasFirstOffice at.now.schema → FailsOnReading at new fault → TellsFormat One at.now fault
told_first at new fault first (inl (inl counts)) = told_counts One at new fault first.tables.office_is.has counts
told_first at new fault first (inl (inr (inl (counts, shows, why)))) = plain_tells One at.now fault (plain_archs fault why)
told_first at new fault first (inl (inr (inr (inl (counts, archs, shows, known, why))))) = plain_tells One at.now fault (plain_builders archs fault why)
told_first at new fault first (inl (inr (inr (inr (inl (counts, archs, builders, shows, known, pairs, inl why)))))) = plain_tells One at.now fault (plain_left fault why)
told_first at new fault first (inl (inr (inr (inr (inl (counts, archs, builders, shows, known, pairs, inr (none, why))))))) = plain_tells One at.now fault (plain_left fault why)
told_first at new fault first (inl (inr (inr (inr (inr (none, (counts, archs, builders, shows, known, pairs, why))))))) =
    plain_tells One at.now fault (plain_test (AreBadRecords One archs builders counts.handed) fault (plain_records One archs builders counts.handed fault) why)
told_first at new fault first (inr (good, why)) = plain_tells One at.now fault (plain_reading fault why)

plain_upgrade : {S : Type 0} (g : Ghosts S) (machine : Machine) (at : Held S) (fault : StoreFault) → FailsToUpgrade g machine at fault → IsPlainFault fault
plain_upgrade g machine at fault (after, inl failed) = plain_by fault failed.3 failed.4 failed.9
plain_upgrade g machine at fault (after, inr (moved, (e, cause, is))) = plain_by fault e Office is

below_two : (format : ℕ) → (format ≤ 2) × (format ≢ 2) → format < 2
below_two format other = elim (up_to_two format other.0) [ inl below ↦ below | inr two ↦ absurd (other.1 two) ]

told_office : (at new : State) (fault : StoreFault) → HasOffice at.now.schema → FailsOnOffice at new fault → TellsFormat Two at.now fault
told_office at new fault office (inl rows) = told_rows at new fault office rows
told_office at new fault office (inr (good, inl (inl why))) = plain_tells Two at.now fault (plain_left fault why)
told_office at new fault office (inr (good, inl (inr (none, why)))) = plain_tells Two at.now fault (plain_left fault why)
told_office at new fault office (inr (good, inr (none, (there, why)))) = plain_tells Two at.now fault (plain_left fault why)

-- ---- what is left of a connection

settled_leaves : {machine : Machine} (s : State) → IsSettled machine s → LeavesFound machine s
settled_leaves s settled db may = inl ((settled_back s settled).left db may)

no_office : {schema : Schema} {P : Type 0} → LacksOffice schema → HasOffice schema → P
no_office {schema = schema} lacks office = absurd (lacks_none schema lacks office)

-- a connection without a transaction has none after a failure, nor where it stays as it was
pub idle_kept : (old new : State) → old.in_transaction ≡ false → IsKeptOrUndone old new → new.in_transaction ≡ false
idle_kept old new idle (inl same) = same.0.mode ∙ idle
idle_kept old new idle (inr undone) = undone.autocommit

pub idle_stays : {S : Type 0} (g : Ghosts S) (old new : Held S) → (state g old).in_transaction ≡ false → StaysAs g old new → (state g new).in_transaction ≡ false
idle_stays g old new idle (inl same) = subst (λ h. (state g h).in_transaction ≡ false) same idle
idle_stays g old new idle (inr kept) = kept.0.0.mode ∙ idle

-- ---- a database with the office's tables

module _ {S : Type 0} {g : Ghosts S} {old new : Held S} where
  -- it is tested as it is
  pub found_office : (r : Result Counts StoreFault) → (state g old).in_transaction ≡ false → HasOffice old.schema → Checks g old new r → PreparesOffice g old new r
  found_office (Ok counts) idle office h = record {
    was_clean = h.was_clean;
    limit = h.survives.limit;
    found = λ clean machine consistent at. elim at [
      | inl settled ↦ h.passes clean machine consistent settled
      | inr (inl blank) ↦ no_office blank.1.lacks office
      | inr (inr first) ↦ absurd (first_no_office old.schema first.holds.stands.has office)
    ];
    left = λ clean machine at. elim at [
      | inl settled ↦ λ db may. settled_leaves (state g old) settled db (no_more g old new h.survives office clean db may)
      | inr (inl blank) ↦ no_office blank.1.lacks office
      | inr (inr first) ↦ absurd (first_no_office old.schema first.holds.stands.has office)
    ];
    fails = λ clean machine consistent at. tt;
    good = h.good;
    good_first = λ clean first. absurd (first_no_office old.schema first office);
    refuses = λ clean same. tt;
    refuses_first = λ clean first. tt;
    known = inr (inl office);
    names = record {
      newer = λ clean newer. let good = (h.good clean office).0.0 in never_newer Two (state g old).now office.office_is newer good.counts good.counts_held;
      only_newer = λ clean is_open some is. absurd (cc);
      no_office = λ clean is_open some is. absurd (cc);
      other = λ clean tables others first. absurd (others office);
      unread = λ tables others none. absurd (others office);
    };
    crash = λ clean is_open some db may. inl (no_more g old new h.survives office clean db may);
    others = λ clean is_open lacks. no_office lacks office;
    others_first = λ clean machine first. absurd (first_no_office old.schema first.office.stands.has office);
    idle = λ clean is_open. idle_stays g old new idle (h.good clean office).2;
  }
  found_office (Err fault) idle office h = record {
    was_clean = h.was_clean;
    limit = h.survives.limit;
    found = λ clean machine consistent at. tt;
    left = λ clean machine at. elim at [
      | inl settled ↦ λ db may. settled_leaves (state g old) settled db (no_more g old new h.survives office clean db may)
      | inr (inl blank) ↦ no_office blank.1.lacks office
      | inr (inr first) ↦ absurd (first_no_office old.schema first.holds.stands.has office)
    ];
    fails = λ clean machine consistent at. elim at [
      | inl settled ↦ inr (inl (old, inl refl, (h.fails clean machine consistent settled).1))
      | inr (inl blank) ↦ no_office blank.1.lacks office
      | inr (inr first) ↦ absurd (first_no_office old.schema first.holds.stands.has office)
    ];
    good = λ clean same. tt;
    good_first = λ clean first. tt;
    refuses = h.refuses;
    refuses_first = λ clean first. absurd (first_no_office old.schema first office);
    known = tt;
    names = record {
      newer = λ clean newer.
          let why = h.refuses clean office in (
            why.0,
            why.1,
            newer_office (state g why.0) (state g new) fault (stays-schema g old why.0 why.1 office) (subst IsNewer (sym (stays-now g old why.0 why.1)) newer) why.2,
          );
      only_newer = λ clean is_open some is. (told clean).0 (same_fault is);
      no_office = λ clean is_open some is. (
        (λ lacks. no_office lacks office),
        (λ format shows. inl (below_two format ((told clean).1 (same_fault is) format shows), λ one first. absurd (first_no_office old.schema first office))),
      );
      other = λ clean tables others first. absurd (others office);
      unread = λ tables others none. absurd (others office);
    };
    crash = λ clean is_open some db may. inl (no_more g old new h.survives office clean db may);
    others = λ clean is_open lacks. tt;
    others_first = λ clean machine first. tt;
    idle = λ clean is_open. idle_kept (state g old) (state g new) idle (h.kept clean office);
  }
    where
      same_fault : {other : StoreFault} → ◌≡◌ {A = Result Counts StoreFault} (Err fault) (Err other) → fault ≡ other
      same_fault is = cc

      told : HasCleanDisk (state g new) → TellsFormat Two (state g old).now fault
      told clean =
          let why = h.refuses clean office in
          subst (λ db. TellsFormat Two db fault) (stays-now g old why.0 why.1) (told_office (state g why.0) (state g new) fault (stays-schema g old why.0 why.1 office) why.2)

  -- ---- a database that neither has them nor lacks them

  pub other_refused : (fault : StoreFault) → (state g old).in_transaction ≡ false → ¬ LacksOffice old.schema → ¬ HasOffice old.schema → ¬ HasFirstOffice old.schema → TellsOther g old new fault → PreparesOffice g old new (Err fault)
  other_refused fault idle tables others no_first h = record {
    was_clean = was_clean (state g old) (state g new) h.survives;
    limit = h.survives.limit;
    found = λ clean machine consistent at. tt;
    left = λ clean machine at. elim at [
      | inl settled ↦ absurd (others settled.holds.stands.has)
      | inr (inl blank) ↦ absurd (tables blank.1.lacks)
      | inr (inr first) ↦ absurd (no_first first.holds.stands.has)
    ];
    fails = λ clean machine consistent at. elim at [
      | inl settled ↦ absurd (others settled.holds.stands.has)
      | inr (inl blank) ↦ absurd (tables blank.1.lacks)
      | inr (inr first) ↦ absurd (no_first first.holds.stands.has)
    ];
    good = λ clean office. tt;
    good_first = λ clean first. tt;
    refuses = λ clean office. absurd (others office);
    refuses_first = λ clean first. absurd (no_first first);
    known = tt;
    names = record {
      newer = λ clean newer. (old, inl refl, newer_by newer (h.why clean));
      only_newer = λ clean is_open some is. newer_if (same_fault is) (h.why clean);
      no_office = λ clean is_open some is. (tables, λ format shows. by_most (none_if (same_fault is) (h.why clean) format shows));
      other = λ clean some none first. h.why clean;
      unread = λ some none unread. let told = h.unread unread in (ap Err told.0, told.1);
    };
    crash = λ clean is_open some db may. elim (h.survives.crash clean db may) [ inl was ↦ inl was | inr none ↦ absurd none ];
    others = λ clean is_open lacks. tt;
    others_first = λ clean machine first. tt;
    idle = λ clean is_open. idle_by (h.why clean);
  }
    where
      same_fault : {other : StoreFault} → ◌≡◌ {A = Result Counts StoreFault} (Err fault) (Err other) → fault ≡ other
      same_fault is = cc

      newer_by : IsNewer (state g old).now → IsOtherFault g old new fault → IsNewerFault (state g old) (state g new) fault
      newer_by newer (inl (has, inl failed)) = inr (inl failed)
      newer_by newer (inl (has, inr (kept, inl told))) = inl (told.0, kept)
      newer_by newer (inl (has, inr (kept, inr told))) = let most = told.1 newer.0 newer.2 in let over = newer.1 in absurd (omega (arith, most, over))
      newer_by newer (inr (none, is, same)) = absurd (none newer.2.has)

      newer_if : fault ≡ NewerSchema → IsOtherFault g old new fault → IsNewer (state g old).now
      newer_if is (inl (has, inl failed)) = absurd ((plain_by fault failed.error Office failed.fault_is).0 is)
      newer_if is (inl (has, inr (kept, inl told))) = told.1
      newer_if is (inl (has, inr (kept, inr told))) = absurd (let none = told.0 in cc)
      newer_if is (inr (none, other, same)) = absurd (cc)

      none_if : fault ≡ NotOffice → IsOtherFault g old new fault → (format : ℕ) → ShowsFormat (state g old).now format → format ≤ 2
      none_if is (inl (has, inl failed)) = absurd ((plain_by fault failed.error Office failed.fault_is).1 is)
      none_if is (inl (has, inr (kept, inl told))) = absurd (let newer = told.0 in cc)
      none_if is (inl (has, inr (kept, inr told))) = told.1
      none_if is (inr (none, other, same)) = λ format shows. absurd (none shows.has)

      by_most : {format : ℕ} → format ≤ 2 → ((format < 2) × (format ≡ 1 → ¬ HasFirstOffice old.schema)) ⊎ ((format ≡ 2) × ¬ HasOffice old.schema)
      by_most {format = format} most = elim (up_to_two format most) [ inl below ↦ inl (below, λ one. no_first) | inr two ↦ inr (two, others) ]

      idle_by : IsOtherFault g old new fault → (state g new).in_transaction ≡ false
      idle_by (inl (has, inl failed)) = idle_kept (state g old) (state g new) idle failed.left
      idle_by (inl (has, inr (kept, told))) = kept.0.mode ∙ idle
      idle_by (inr (none, other, same)) = subst (λ h. (state g h).in_transaction ≡ false) (sym same) idle

-- ---- a database that lacks the office

-- a connection to it has room for the office's tables, if it is open
room : (s : State) → LacksOffice s.now.schema → IsLive s → IsTrue s.is_open → HasRoom s
room s none live is_open = record { is_open = is_open; lacks = none; sound = (live is_open).0 }

made_or_left : {A B C : Type 0} → A ⊎ B → A ⊎ (B ⊎ C)
made_or_left (inl a) = inl a
made_or_left (inr b) = inr (inl b)

module _ {S : Type 0} {g : Ghosts S} {old new : Held S} (none : LacksOffice old.schema) (live : IsLive (state g old)) where
  -- a fault that is none of those of a database that is refused
  names_plain : (fault : StoreFault) → (HasCleanDisk (state g new) → IsTrue (state g old).is_open → IsPlainFault fault) → NamesFault g old new (Err fault)
  names_plain fault plain = record {
    newer = λ clean newer. absurd (lacks_format old.schema none newer.2.has);
    only_newer = λ clean is_open some is. absurd ((plain clean is_open).0 (same_fault is));
    no_office = λ clean is_open some is. absurd ((plain clean is_open).1 (same_fault is));
    other = λ clean tables others first. absurd (tables none);
    unread = λ tables others unread. absurd (tables none);
  }
    where
      same_fault : {other : StoreFault} → ◌≡◌ {A = Result Counts StoreFault} (Err fault) (Err other) → fault ≡ other
      same_fault is = cc

  -- an empty office is made, and then tested
  pub made_and_tested : {A : Type 0} {x : A} {mid : Held S} (r : Result Counts StoreFault) → MakesEmptyOffice g old mid (Ok x) → Checks g mid new r → PreparesOffice g old new r
  made_and_tested {mid = mid} (Ok counts) makes h = record {
    was_clean = λ clean. makes.was_clean (h.was_clean clean);
    limit = h.survives.limit ∙ makes.limit;
    found = λ clean machine consistent at. elim at [
      | inl settled ↦ no_office none settled.holds.stands.has
      | inr (inr first) ↦ absurd (first_no_lack old.schema first.holds.stands.has none)
      | inr (inl blank) ↦ subst (λ m. AreCountsOf m counts × IsSettled m (state g new)) (sym blank.0) (passed clean blank.1.is_open)
    ];
    left = λ clean machine at. elim at [
      | inl settled ↦ no_office none settled.holds.stands.has
      | inr (inr first) ↦ absurd (first_no_lack old.schema first.holds.stands.has none)
      | inr (inl blank) ↦ subst (λ m. LeavesFound m (state g new)) (sym blank.0) (settled_leaves (state g new) (passed clean blank.1.is_open).1)
    ];
    fails = λ clean machine consistent at. tt;
    good = λ clean office. no_office none office;
    good_first = λ clean first. absurd (first_no_lack old.schema first none);
    refuses = λ clean office. tt;
    refuses_first = λ clean first. tt;
    known = inl none;
    names = record {
      newer = λ clean newer. absurd (lacks_format old.schema none newer.2.has);
      only_newer = λ clean is_open some is. absurd (cc);
      no_office = λ clean is_open some is. absurd (cc);
      other = λ clean tables others first. absurd (tables none);
      unread = λ tables others unread. absurd (tables none);
    };
    crash = λ clean is_open some db may.
        made_or_left (makes.crash (h.was_clean clean) (room (state g old) none live is_open) db (no_more g mid new h.survives (settled clean is_open).holds.stands.has clean db may));
    others = λ clean is_open lacks.
        let has = (settled clean is_open).holds.stands.has in
        subst (λ (db : Database). KeepsRows old.schema.tables (state g old).now.trees db.trees) (sym (stays-now g mid new (h.good clean has).2))
        (makes.made (h.was_clean clean) (room (state g old) none live is_open)).1;
    others_first = λ clean machine first. absurd (first_no_lack old.schema first.office.stands.has none);
    idle = λ clean is_open. (passed clean is_open).1.idle;
  }
    where
      settled : HasCleanDisk (state g new) → IsTrue (state g old).is_open → IsSettled empty_office (state g mid)
      settled clean is_open = (makes.made (h.was_clean clean) (room (state g old) none live is_open)).0

      passed : HasCleanDisk (state g new) → IsTrue (state g old).is_open → AreCountsOf empty_office counts × IsSettled empty_office (state g new)
      passed clean is_open = h.passes clean empty_office IsConsistent-empty_office (settled clean is_open)
  made_and_tested {mid = mid} (Err fault) makes h = record {
    was_clean = λ clean. makes.was_clean (h.was_clean clean);
    limit = h.survives.limit ∙ makes.limit;
    found = λ clean machine consistent at. tt;
    left = λ clean machine at. elim at [
      | inl settled ↦ no_office none settled.holds.stands.has
      | inr (inr first) ↦ absurd (first_no_lack old.schema first.holds.stands.has none)
      | inr (inl blank) ↦ subst (λ m. LeavesFound m (state g new)) (sym blank.0)
          (λ db may. inl ((h.fails clean empty_office IsConsistent-empty_office (settled clean blank.1.is_open)).0.left db may))
    ];
    fails = λ clean machine consistent at. elim at [
      | inl found ↦ no_office none found.holds.stands.has
      | inr (inr first) ↦ absurd (first_no_lack old.schema first.holds.stands.has none)
      | inr (inl blank) ↦
          let is = settled clean blank.1.is_open in
          inr (inl (mid, inr (blank.1, is, makes.limit), (h.fails clean empty_office IsConsistent-empty_office is).1))
    ];
    good = λ clean office. tt;
    good_first = λ clean first. tt;
    refuses = λ clean office. no_office none office;
    refuses_first = λ clean first. absurd (first_no_lack old.schema first none);
    known = tt;
    names = names_plain fault (λ clean is_open. plain_later g mid new fault (h.fails clean empty_office IsConsistent-empty_office (settled clean is_open)).1);
    crash = λ clean is_open some db may.
        made_or_left (makes.crash (h.was_clean clean) (room (state g old) none live is_open) db (no_more g mid new h.survives (settled clean is_open).holds.stands.has clean db may));
    others = λ clean is_open lacks. tt;
    others_first = λ clean machine first. tt;
    idle = λ clean is_open. (h.fails clean empty_office IsConsistent-empty_office (settled clean is_open)).0.idle;
  }
    where
      settled : HasCleanDisk (state g new) → IsTrue (state g old).is_open → IsSettled empty_office (state g mid)
      settled clean is_open = (makes.made (h.was_clean clean) (room (state g old) none live is_open)).0

  -- none could be made
  pub none_made : {A : Type 0} {e : Error} {fault : StoreFault} → fault ≡ fault_of e Office → MakesEmptyOffice {A = A} g old new (Err e) → PreparesOffice g old new (Err fault)
  none_made {e = e} {fault = fault} is makes = record {
    was_clean = makes.was_clean;
    limit = makes.limit;
    found = λ clean machine consistent at. tt;
    left = λ clean machine at. elim at [
      | inl settled ↦ no_office none settled.holds.stands.has
      | inr (inr first) ↦ absurd (first_no_lack old.schema first.holds.stands.has none)
      | inr (inl blank) ↦ subst (λ m. LeavesFound m (state g new)) (sym blank.0) (makes.left clean blank.1)
    ];
    fails = λ clean machine consistent at. elim at [
      | inl settled ↦ no_office none settled.holds.stands.has
      | inr (inr first) ↦ absurd (first_no_lack old.schema first.holds.stands.has none)
      | inr (inl blank) ↦ inl (blank.1, (e, makes.err clean blank.1, is))
    ];
    good = λ clean office. tt;
    good_first = λ clean first. tt;
    refuses = λ clean office. no_office none office;
    refuses_first = λ clean first. absurd (first_no_lack old.schema first none);
    known = tt;
    names = names_plain fault (λ clean is_open. plain_by fault e Office is);
    crash = λ clean is_open some db may. made_or_left (makes.crash clean (room (state g old) none live is_open) db may);
    others = λ clean is_open lacks. tt;
    others_first = λ clean machine first. tt;
    idle = λ clean is_open. makes.idle clean;
  }

-- ---- a database with the tables of the first schema

first_of : {machine : Machine} (s : State) → IsSettledFirst machine s → HasFirst machine s
first_of s settled = record { is_open = settled.is_open; office = settled.holds }

-- a crash leaves the office in the one schema or in the other
leaves_first : {machine : Machine} (s new : State) → IsSettledFirst machine s → LeavesOrUpgrades machine s new → LeavesFound machine new
leaves_first {machine = machine} s new settled leaves db may = elim (leaves db may) [
  | inl was ↦ inr (inr (subst (StandsForFirstTrees machine) (sym (settled.alone db was)) (record { schema = s.now.schema; office = settled.holds })))
  | inr made ↦ inl made
]

module _ {S : Type 0} {g : Ghosts S} {old new : Held S} (first : HasFirstOffice old.schema) where
  leaves_some : {result : Result Counts StoreFault} → BringsOver g old new result → HasCleanDisk (state g new) → IsTrue (state g old).is_open → StandsIfFirst (state g old).now → LeavesPrepared (state g old) (state g new)
  leaves_some h clean is_open some db may =
      elim (h.leaves clean first (λ good none. let stands = some first good none in (stands.0, record { is_open = is_open; office = stands.1 })) db may) [
        | inl was ↦ inl was
        | inr made ↦ inr (inr made)
      ]

  -- it is tested and brought over
  pub first_brought : (r : Result Counts StoreFault) → BringsOver g old new r → PreparesOffice g old new r
  first_brought (Ok counts) h = record {
    was_clean = h.was_clean;
    limit = h.limit;
    found = λ clean machine consistent at. elim at [
      | inl settled ↦ absurd (first_no_office old.schema first settled.holds.stands.has)
      | inr (inl blank) ↦ absurd (first_no_lack old.schema first blank.1.lacks)
      | inr (inr settled) ↦ h.brought clean machine consistent (first_of (state g old) settled)
    ];
    left = λ clean machine at. elim at [
      | inl settled ↦ absurd (first_no_office old.schema first settled.holds.stands.has)
      | inr (inl blank) ↦ absurd (first_no_lack old.schema first blank.1.lacks)
      | inr (inr settled) ↦ leaves_first (state g old) (state g new) settled (h.crash clean machine (first_of (state g old) settled))
    ];
    fails = λ clean machine consistent at. tt;
    good = λ clean office. absurd (first_no_office old.schema first office);
    good_first = h.good;
    refuses = λ clean office. tt;
    refuses_first = λ clean first. tt;
    known = inr (inr first);
    names = record {
      newer = λ clean newer. let good = (h.good clean first).0.0 in never_newer One (state g old).now first.tables.office_is.has newer good.counts good.counts_held;
      only_newer = λ clean is_open some is. absurd (cc);
      no_office = λ clean is_open some is. absurd (cc);
      other = λ clean tables others none. absurd (none first);
      unread = λ tables others none. absurd (none (format_of_office old.schema first.tables.office_is.has));
    };
    crash = leaves_some h;
    others = λ clean is_open lacks. absurd (first_no_lack old.schema first lacks);
    others_first = h.others;
    idle = λ clean is_open. h.idle clean first;
  }
  first_brought (Err fault) h = record {
    was_clean = h.was_clean;
    limit = h.limit;
    found = λ clean machine consistent at. tt;
    left = λ clean machine at. elim at [
      | inl settled ↦ absurd (first_no_office old.schema first settled.holds.stands.has)
      | inr (inl blank) ↦ absurd (first_no_lack old.schema first blank.1.lacks)
      | inr (inr settled) ↦ leaves_first (state g old) (state g new) settled (h.crash clean machine (first_of (state g old) settled))
    ];
    fails = λ clean machine consistent at. elim at [
      | inl settled ↦ absurd (first_no_office old.schema first settled.holds.stands.has)
      | inr (inl blank) ↦ absurd (first_no_lack old.schema first blank.1.lacks)
      | inr (inr settled) ↦ elim (h.fails clean machine consistent (first_of (state g old) settled)) [
        | inl lacks ↦ inr (inl (old, inl refl, lacks))
        | inr upgrade ↦ inr (inr (first_of (state g old) settled, upgrade))
      ]
    ];
    good = λ clean office. tt;
    good_first = λ clean first. tt;
    refuses = λ clean office. absurd (first_no_office old.schema first office);
    refuses_first = h.refuses;
    known = tt;
    names = record {
      newer = λ clean newer. newer_by newer (h.refuses clean first);
      only_newer = λ clean is_open some is. (told clean is_open some).0 (same_fault is);
      no_office = λ clean is_open some is. (
        first_no_lack old.schema first,
        λ format shows. by_format format ((told clean is_open some).1 (same_fault is) format shows),
      );
      other = λ clean tables others none. absurd (none first);
      unread = λ tables others none. absurd (none (format_of_office old.schema first.tables.office_is.has));
    };
    crash = leaves_some h;
    others = λ clean is_open lacks. tt;
    others_first = λ clean machine first. tt;
    idle = λ clean is_open. h.idle clean first;
  }
    where
      same_fault : {other : StoreFault} → ◌≡◌ {A = Result Counts StoreFault} (Err fault) (Err other) → fault ≡ other
      same_fault is = cc

      stays_first : {at : Held S} → StaysAs g old at → HasFirstOffice at.schema
      stays_first {at = at} stays = subst (λ (db : Database). HasFirstOffice db.schema) (sym (stays-now g old at stays)) first

      newer_by : IsNewer (state g old).now → FailsToBring g old new fault → ComesLater g IsNewerFault old new fault
      newer_by newer (inl why) = (why.0, why.1, newer_first (state g why.0) (state g new) fault (stays_first why.1) (subst IsNewer (sym (stays-now g old why.0 why.1)) newer) why.2)
      newer_by newer (inr (good, none, why)) = absurd (never_newer One (state g old).now first.tables.office_is.has newer good.counts good.counts_held)

      told_by : IsTrue (state g old).is_open → StandsIfFirst (state g old).now
          → FailsToBring g old new fault → TellsFormat One (state g old).now fault
      told_by is_open some (inl why) = subst (λ db. TellsFormat One db fault) (stays-now g old why.0 why.1) (told_first (state g why.0) (state g new) fault (stays_first why.1) why.2)
      told_by is_open some (inr (good, none, why)) =
          let stands = some first good none in
          let upgrade = why stands.0 (record { is_open = is_open; office = stands.1 }) in
          plain_tells One (state g old).now fault (plain_upgrade g stands.0 upgrade.0 fault upgrade.2)

      told : HasCleanDisk (state g new) → IsTrue (state g old).is_open → StandsIfFirst (state g old).now → TellsFormat One (state g old).now fault
      told clean is_open some = told_by is_open some (h.refuses clean first)

      by_format : (format : ℕ) → (format ≤ 2) × (format ≢ 1) → ((format < 2) × (format ≡ 1 → ¬ HasFirstOffice old.schema)) ⊎ ((format ≡ 2) × ¬ HasOffice old.schema)
      by_format format other = elim (up_to_two format other.0) [
        | inl below ↦ inl (below, λ one. absurd (other.1 one))
        | inr two ↦ inr (two, first_no_office old.schema first)
      ]
