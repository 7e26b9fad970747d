-- How a report is carried out over tables: its lines are read, the records that they name are looked up, and what
-- differs is kept.
use Rattle.std.proofs.Common.{◌≡◌, ◌∙◌, refl, sym, ap, subst, inl, inr, ℕ, ◌+◌, Bool, true, false, cond, not, ◌||◌}
use Rattle.std.proofs.Common.{List, [], ◌∷◌, ◌++◌, map as each, length, drop, get_or, ◌<◌, Option, Some, None}
use Rattle.std.proofs.Common.{option_map, option_and_then, Result, Ok, Err, IfOk, bytes_eq, append-nil, append_assoc}
use Rattle.std.proofs.Common.{Vec}
use Rattle.std.proofs.lemmas.List.{map-append}
use Rattle.std.specs.List.{cons_option, list_any}
use Rattle.std.specs.FinMap as map
use Rattle.std.specs.Prelude.{IfSome, IsSomeAnd}
use Rattle.std.proofs.lemmas.Bool.{false_from_ne_true}
use Rattle.sqlite_trees.specs.declared.store.Store.{Ghosts}
use Rattle.sqlite.specs.Held.{Held, state}
use Rattle.wb_states.specs.declared.arch.OsCpu.{OsCpu}
use Rattle.wb_states.specs.declared.command.Command.{Command}
use Rattle.wb_states.specs.declared.command.Command.TheVariants as of
use Rattle.wb_states.specs.declared.command.Report.{Report}
use Rattle.wb_states.specs.declared.counts.Counts.{Counts}
use Rattle.wb_states.specs.declared.keyed.KeyedRecord.{KeyedRecord}
use Rattle.wb_states.specs.declared.record.Record.{Record}
use Rattle.wb_states.specs.declared.refusal.Refusal.{Refusal}
use Rattle.wb_states.specs.declared.reply.Reply.TheVariants.{Reported}
use Rattle.wb_states.specs.declared.store_fault.StoreFault.{StoreFault}
use Rattle.wb_states.specs.Lookups.{entry_of}
use Rattle.wb_states.specs.Machine.{Machine, IsConsistent, is_unknown_arch}
use Rattle.wb_states.specs.Queue.{Entry}
use Rattle.wb_states.specs.Refusals.{IsOfMachine, is_of_store}
use Rattle.deb_text.specs.Text.{text_cmp}
use Rattle.wb_merge.specs.declared.changes.ArchChanges.{ArchChanges}
use Rattle.wb_merge.specs.declared.changes.RecordChange.{RecordChange}
use Rattle.wb_merge.specs.declared.report.ReportLine.{ReportLine}
use Rattle.wb_merge.specs.Changes.{NamedChanges, NotesBetween, NotesChanges, record_change}
use Rattle.wb_merge.specs.Merged.{Records, is_same_record}
use Rattle.wb_merge.specs.Steps.{Key}
use Rattle.wb_merge.proofs.ChangeLemmas.{between-set, notes-arch}
use Rattle.wb_merge.specs.Report.{Lines}
use Rattle.wb_merge.specs.Reported.{changed_by_line, number_reported, record_by_line, records_reported, row_reported}
use Rattle.wb_merge.specs.Reported.{rows_over, rows_reported, with_rows}
use Rattle.wb_merge.proofs.MergeLemmas.{listed-any}
use Rattle.wb_merge.proofs.NameLemmas.{bytes_eq-is}
use Rattle.wb_merge.proofs.RecordLemmas.{same-record-is, set-inserted}
use Rattle.wb_merge.proofs.ReportedLemmas.{reported-others, reported-rows}
use Rattle.wb_step.specs.Checks.{first_refusal}
use Rattle.wb_step.specs.Named.{listed}
use Rattle.wb_step.specs.Step.{Outcome, lines_said, outcome, step}
use Rattle.wb_step.specs.Utf8.{HasUtf8Texts}
use Rattle.wb_store.specs.Settled.{IsSettled}
use Rattle.wb_office.specs.declared.answer.Answered.{Answered}
use Rattle.wb_office.specs.declared.answer.Failure.{Failure}
use Rattle.wb_office.specs.declared.answer.Failure.TheVariants.{Refused, Unread, Uncommitted}
use Rattle.wb_office.specs.declared.carry.CarryError.{CarryError}
use Rattle.wb_office.specs.Batches.{Puts, IsBatchIn, batch_written}
use Rattle.wb_office.specs.Rows.{IsAccepted, NotesRow, row_from}
use Rattle.wb_office.proofs.WrittenRowLemmas.{left_of}

-- ---- the step

-- the step of a report that is accepted: the reply has the number of the records that differ, and these are written
reported_step : (machine : Machine) (report : Report) → first_refusal machine (of.Report report) ≡ None
    → step machine (of.Report report) ≡ (
      Ok (Reported (machine.accepted + 1) (number_reported machine.records report.arch (lines_said report.text))),
      record machine { records = records_reported machine.records report.arch (lines_said report.text); accepted = machine.accepted + 1 },
    )
unfolding step
reported_step machine report good = ap (λ (first : Option Refusal). outcome first None machine (of.Report report)) good

pub report_reply : {machine : Machine} {report : Report} {rows : List Entry} {counts : Counts}
    → IsBatchIn machine (of.Report report) (Puts rows) counts
    → (step machine (of.Report report)).0 ≡ Ok (Reported counts.accepted (length rows))
unfolding number_reported
report_reply {machine = machine} {report = report} is =
    ap (λ (o : Outcome). o.0) (reported_step machine report is.good)
    ∙ (λ i. Ok (Reported (sym is.counts_are.1 i) (length (sym is.batch_is i))))

pub report_whole : {machine : Machine} {report : Report} {rows : List Entry} {counts : Counts}
    → IsBatchIn machine (of.Report report) (Puts rows) counts
    → batch_written (Puts rows) counts machine ≡ (step machine (of.Report report)).1
report_whole {machine = machine} {report = report} is =
    (λ i. record machine {
      records = with_rows machine.records (is.batch_is i);
      handed = is.counts_are.0 i;
      accepted = is.counts_are.1 i;
    })
    ∙ ap (λ records. record machine { records = records; accepted = machine.accepted + 1 }) (reported-rows machine.records report.arch (lines_said report.text))
    ∙ sym (ap (λ (o : Outcome). o.1) (reported_step machine report is.good))

-- an accepted report whose rows were found
pub report_is : (counts after : Counts) (report : Report) (rows : List Entry) (machine : Machine)
    → (after.handed ≡ counts.handed) × (after.accepted ≡ counts.accepted + 1)
    → IsAccepted counts report machine → rows ≡ rows_reported machine.records report.arch (lines_said report.text)
    → IsBatchIn machine (of.Report report) (Puts rows) after
report_is counts after report rows machine raised given found = record {
  good = given.1;
  batch_is = found;
  counts_are = (raised.0 ∙ given.0.0, raised.1 ∙ ap (λ n. n + 1) given.0.1);
}

-- ---- the architectures that are known

any-first : {X : Type 0} (name : List ℕ) (entries : List (List ℕ × X)) → list_any (λ entry. bytes_eq name entry.0) entries ≡ list_any (bytes_eq name) (each (λ entry. entry.0) entries)
any-first name [] = refl
any-first name (entry ∷ entries) = ap (λ b. bytes_eq name entry.0 || b) (any-first name entries)

pub arch_known : (machine : Machine) (archs : List (List ℕ × OsCpu)) (arch : List ℕ) → archs ≡ map.entries machine.archs
    → not (list_any (λ entry. bytes_eq arch entry.0) archs) ≡ is_unknown_arch machine arch
arch_known machine archs arch are =
    ap not (ap (list_any (λ (entry : List ℕ × OsCpu). bytes_eq arch entry.0)) are ∙ any-first arch (map.entries machine.archs) ∙ listed-any machine.archs arch)

-- ---- row by row

listed_before : (found : Option KeyedRecord) (behind : List Entry) → each entry_of (listed found) ++ behind ≡ cons_option (option_map entry_of found) behind
listed_before None behind = refl
listed_before (Some row) behind = refl

-- the row of one source package more
pub rows_next : (records : Records) (arch : List ℕ) (lines : Lines) (sources : List (List ℕ)) (at : ℕ) (source : List ℕ) → at < length sources → source ≡ get_or sources at source
    → (rows new : List KeyedRecord) (found : Option KeyedRecord) → new ≡ rows ++ listed found
    → each entry_of rows ++ rows_over records arch lines (drop at sources) ≡ rows_reported records arch lines → option_map entry_of found ≡ row_reported records arch lines source
    → each entry_of new ++ rows_over records arch lines (drop (at + 1) sources) ≡ rows_reported records arch lines
rows_next records arch lines sources at source within is rows new found made before same =
    let behind = rows_over records arch lines (drop (at + 1) sources) in
    ap (λ (l : List KeyedRecord). each entry_of l ++ behind) made
    ∙ ap (λ (l : List Entry). l ++ behind) (map-append entry_of rows (listed found))
    ∙ append_assoc (each entry_of rows) (each entry_of (listed found)) behind
    ∙ ap (λ (l : List Entry). each entry_of rows ++ l) (listed_before found behind ∙ ap (λ (o : Option Entry). cons_option o behind) same)
    ∙ ap (λ (l : List (List ℕ)). each entry_of rows ++ rows_over records arch lines l) (sym (left_of sources at source within is))
    ∙ before

-- the row of a record that was looked up
pub row_is : (arch : List ℕ) (lines : Lines) (source : List ℕ) (found : Option Record) (r : Result (Option KeyedRecord) StoreFault)
    → IfOk r (λ row. option_map entry_of row ≡ row_from arch lines source found)
    → IfOk r (λ row. (machine : Machine) → IsConsistent machine → found ≡ map.get machine.records (arch, source) → option_map entry_of row ≡ row_reported machine.records arch lines source)
unfolding row_reported
row_is arch lines source found (Ok row) is = λ machine sound there. is ∙ ap (row_from arch lines source) there
row_is arch lines source found (Err fault) is = tt

-- and what was noted of it
pub row_is_noted : (arch : List ℕ) (lines : Lines) (source : List ℕ) (found : Option Record)
    (r : Result (Option KeyedRecord) StoreFault) (before after : Option NamedChanges)
    → IfOk r (λ row. option_map entry_of row ≡ row_from arch lines source found)
    → IfOk r (λ row. NotesRow before after source found (option_map (λ row. row.current) row))
    → IfOk r (λ row. (machine : Machine) → IsConsistent machine → found ≡ map.get machine.records (arch, source)
    → (option_map entry_of row ≡ row_reported machine.records arch lines source)
    × NotesRow before after source (map.get machine.records (arch, source)) (option_map (λ row. row.current) row))
unfolding row_reported
row_is_noted arch lines source found (Ok row) before after is noted = λ machine sound there. (
  is ∙ ap (row_from arch lines source) there,
  subst (λ (one : Option Record). NotesRow before after source one (option_map (λ (row : KeyedRecord). row.current) row)) there noted,
)
row_is_noted arch lines source found (Err fault) before after is noted = tt

-- records with some at their keys, and then others
with_rows-append : (records : Records) (first second : List Entry) → with_rows records (first ++ second) ≡ with_rows (with_rows records first) second
with_rows-append records [] second = refl
with_rows-append records (entry ∷ first) second = with_rows-append (map.insert records entry.0 entry.1) first second

-- a record that differs after a line has a change
differs : (line : Option ReportLine) (found : Option Record) (new : Record) → option_and_then (changed_by_line line) found ≡ Some new
    → (change : RecordChange) × (record_change found (Some new) ≡ Some change)
differs line None new is = absurd cc
differs line (Some current) new is = at (is_same_record current (record_by_line line current)) refl is where
  at : (b : Bool) → is_same_record current (record_by_line line current) ≡ b
      → cond b None (Some (record_by_line line current)) ≡ Some new → (change : RecordChange) × (record_change (Some current) (Some new) ≡ Some change)
  at true e is = absurd cc
  at false e is =
      let same : record_by_line line current ≡ new = cc in
      let change : RecordChange = record { before = Some current.state; after = Some new.state; version = Some new.version } in
      (change, ap (λ b. cond {A = Option RecordChange} b None (Some change)) (ap (is_same_record current) (sym same) ∙ e))

-- what is noted with the row of one source package more
pub rows_noted : (start before after : Option NamedChanges) (records : Records) (arch : List ℕ) (lines : Lines) (source : List ℕ)
    (rows new : List KeyedRecord) (found : Option KeyedRecord) → new ≡ rows ++ listed found
    → option_map entry_of found ≡ row_reported records arch lines source
    → NotesBetween start before records (with_rows records (each entry_of rows)) arch
    → NotesRow before after source (map.get records (arch, source)) (option_map (λ row. row.current) found)
    → NotesBetween start after records (with_rows records (each entry_of new)) arch
unfolding row_reported
rows_noted start before after records arch lines source rows new None made is between noted =
    subst (λ (l : List KeyedRecord). NotesBetween start after records (with_rows records (each entry_of l)) arch) (sym (made ∙ append-nil rows))
    (subst (λ (n : Option NamedChanges). NotesBetween start n records (with_rows records (each entry_of rows)) arch) (sym noted) between)
rows_noted start before after records arch lines source rows new (Some row) made is between noted =
    let line = map.get lines source in
    let old = map.get records (arch, source) in
    let one = row_of (option_and_then (changed_by_line line) old) is in
    let changes = differs line old row.current one.1 in
    subst (λ (l : List KeyedRecord). NotesBetween start after records (with_rows records (each entry_of l)) arch) (sym made)
    (subst (λ (l : List Entry). NotesBetween start after records (with_rows records l) arch) (sym (map-append entry_of rows (row ∷ [])))
    (subst (λ (r : Records). NotesBetween start after records r arch) (sym (with_rows-append records (each entry_of rows) (entry_of row ∷ [])))
    (subst (λ (key : Key). NotesBetween start after records (map.insert (with_rows records (each entry_of rows)) key row.current) arch) (sym one.0)
    (between-set start before after records (with_rows records (each entry_of rows))
    (map.insert (with_rows records (each entry_of rows)) (arch, source) row.current) arch source (Some row.current) changes.0
    (set-inserted (with_rows records (each entry_of rows)) (arch, source) row.current) changes.1 between noted))))
  where
    row_of : (changed : Option Record) → Some (entry_of row) ≡ option_map (λ (new : Record). ((arch, source), new)) changed
        → (◌≡◌ {A = Key} (row.arch, row.source) (arch, source)) × (changed ≡ Some row.current)
    row_of None e = absurd cc
    row_of (Some new) e = let same : entry_of row ≡ ((arch, source), new) = cc in
        (ap (λ (entry : Entry). entry.0) same, ap Some (sym (ap (λ (entry : Entry). entry.1) same)))

-- what a report changed is noted
pub report_noted : {X : Type 0} (was notes : Option (Vec ArchChanges X)) (start changes : Option NamedChanges) (machine : Machine) (report : Report)
    → first_refusal machine (of.Report report) ≡ None
    → IfSome start (λ begun. map.from_entries {R = text_cmp} begun.entries ≡ map.empty)
    → NotesBetween start changes machine.records (records_reported machine.records report.arch (lines_said report.text)) report.arch
    → IfSome notes (λ noted. IsSomeAnd was (λ others. IsSomeAnd changes (λ records.
    noted.items ≡ others.items ++ record { arch = report.arch; records = records } ∷ [])))
    → NotesChanges was notes machine.records (step machine (of.Report report)).1.records
report_noted was notes start changes machine report good begun between made =
    let lines = lines_said report.text in
    subst (NotesChanges was notes machine.records) (sym (ap (λ (o : Outcome). o.1.records) (reported_step machine report good)))
    (notes-arch was notes start changes report.arch machine.records (records_reported machine.records report.arch lines) begun between
    (λ key other. reported-others machine.records report.arch lines key
    (false_from_ne_true (bytes_eq key.0 report.arch) (λ e. other (bytes_eq-is key.0 report.arch e)))) made)

-- a source package that no line names
pub unnamed_from : (arch : List ℕ) (lines : Lines) (source : List ℕ) (found : Option Record) → map.get lines source ≡ None → None ≡ row_from arch lines source found
unnamed_from arch lines source found unnamed = sym (
    ap (λ (line : Option ReportLine). option_map (λ (new : Record). ((arch, source), new)) (option_and_then (changed_by_line line) found)) unnamed
    ∙ ap (option_map (λ (new : Record). ((arch, source), new))) (at found))
  where
    at : (one : Option Record) → option_and_then (changed_by_line None) one ≡ None
    at None = refl
    at (Some current) = ap (λ b. cond b None (Some current)) ((same-record-is current current).1 refl)
