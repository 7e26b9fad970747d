-- Reports that say of source packages whether what they need to be built can be installed, and what becomes of their records (in wanna-build's states).
use Rattle.std.specs.Prelude.{◌≡◌, ◌⊎◌, ◌≤◌, ℕ, ◌+◌, Bool, true, false, not, ◌&&◌, nat_le, List, [], ◌∷◌, ◌++◌, length, codes, bytes_eq, Option, Some, None, is_some, IfSome, IsTrue, Result, if◌then◌else◌}
use Rattle.std.specs.List.{list_any, filter_map, fold, before_first, after_first, slice_split}
use Rattle.std.specs.Option.{option_map, option_map_or}
use Rattle.std.specs.Ordering.{match_ordering}
use Rattle.std.specs.FinMap as finite
use Rattle.deb_text.specs.Lines.{is_line_feed, is_blank, is_blank_line}
use Rattle.deb_text.specs.Lists.{is_nonempty}
use Rattle.deb_text.specs.Options.{ok_unless}
use Rattle.deb_text.specs.Text.{IsTextWithin, text_cmp, is_empty_text}
use Rattle.deb_control.specs.Lines.{trim_start, trim}
use Rattle.deb_version.specs.Order.{version_cmp}
use Rattle.deb_version.specs.Syntax.{is_version_text}
use Rattle.deb_relations.specs.Names.{is_package_name}
use Rattle.wb_states.specs.declared.record.Record.{Record}
use Rattle.wb_states.specs.declared.refusal.Refusal.{Refusal}
use Rattle.wb_states.specs.declared.refusal.Refusal.TheVariants.{BadReport as Bad, Memory as NoMemory}
use Rattle.wb_states.specs.declared.state.State.{State}
use Rattle.wb_states.specs.declared.state.State.TheVariants.{NeedsBuild, BdUninstallable}
use Rattle.wb_states.specs.Limits.{note_limit}
use Rattle.wb_states.specs.Moves.{one_of, in_state}
use Rattle.wb_merge.specs.declared.report.ReportLine.{ReportLine}
use Rattle.wb_merge.specs.declared.report.ReportFault.{ReportFault}
use Rattle.wb_merge.specs.declared.report.ReportFault.TheVariants.{BadReport, Memory}

-- ---- one line: `SOURCE VERSION installable`, or `SOURCE VERSION uninstallable REASON`

-- the first word of a text, which blanks may stand before
abbrev pub word_of : List ℕ → List ℕ
word_of text = before_first is_blank (trim_start text)

-- what stands after the first word and the blank that ends it
abbrev pub after_word : List ℕ → List ℕ
after_word text = after_first is_blank (trim_start text)

-- the reason of a line: none for `installable`, and for `uninstallable` the rest, perhaps empty, of at most 1000 bytes; or nothing if it is neither
abbrev pub reason_of : List ℕ → List ℕ → Option (Option (List ℕ))
reason_of word rest =
    if bytes_eq word (codes "installable") && is_empty_text rest then Some None
    else (if bytes_eq word (codes "uninstallable") && nat_le (length rest) note_limit then Some (Some rest) else None)

-- a line of this source and version, if they have their forms and the reason can be read (Debian Policy 5.6.1 and 5.6.12)
abbrev pub line_with : List ℕ → List ℕ → Option (Option (List ℕ)) → Option ReportLine
line_with source version None = None
line_with source version (Some reason) =
    if is_package_name source && is_version_text version
    then Some (record { source = source; version = version; reason = reason }) else None

-- what a line reads as, if it can be read; the blanks round it and between its words are no part of them
unfoldable pub line_of : List ℕ → Option ReportLine
line_of line =
    let version = after_word line in
    let outcome = after_word version in
    line_with (word_of line) (word_of version) (reason_of (word_of outcome) (trim (after_word outcome)))

-- a text of blanks, then this word without blanks in it, and then the end, or one more blank and this rest
pub record BeginsWith (text word rest : List ℕ) : Type 0 where
  pub blanks : List ℕ
  pub blank : IsTrue (is_blank_line blanks)
  pub filled : IsTrue (is_nonempty word)
  pub whole : list_any is_blank word ≡ false
  pub stands : ((text ≡ blanks ++ word) × (rest ≡ [])) ⊎ ((c : ℕ) × IsTrue (is_blank c) × (text ≡ blanks ++ (word ++ c ∷ rest)))

-- the word that says this reason, or none, with this text after it
abbrev pub SaysReason : List ℕ → List ℕ → Option (List ℕ) → Type 0
SaysReason word rest None = (word ≡ codes "installable") × (rest ≡ [])
SaysReason word rest (Some reason) = (word ≡ codes "uninstallable") × (rest ≡ reason) × (length reason ≤ note_limit)

-- a line with these three words, and a text after them that counts without the blanks round it (Debian Policy 5.6.1 and 5.6.12)
pub record IsWritten (line : List ℕ) (read : ReportLine) : Type 0 where
  pub after_source : List ℕ
  pub after_version : List ℕ
  pub word : List ℕ
  pub rest : List ℕ
  pub source : BeginsWith line read.source after_source
  pub version : BeginsWith after_source read.version after_version
  pub outcome : BeginsWith after_version word rest
  pub said : SaysReason word (trim rest) read.reason
  pub good_source : IsTrue (is_package_name read.source)
  pub good_version : IsTrue (is_version_text read.version)

-- a line whose source, version and reason have their forms and limits (Debian Policy 5.6.1 and 5.6.12)
pub record IsWellFormedLine (line : ReportLine) : Type 0 where
  pub source : IsTrue (is_package_name line.source)
  pub version : IsTrue (is_version_text line.version)
  pub reason : IfSome line.reason (IsTextWithin note_limit)

-- ---- a whole report

-- the lines of a report that can be read, by their sources
abbrev pub Lines : Type 0
Lines = finite.FinMap text_cmp ReportLine

-- lines, and one more if it can be read
unfoldable pub with_line : Lines → List ℕ → Lines
with_line lines line = option_map_or (λ read. finite.insert lines read.source read) (line_of line) lines

-- the lines that can be read, by their sources
abbrev pub by_source : List (List ℕ) → Lines
by_source lines = fold with_line finite.empty lines

-- whether a line is bad after others: it names a source again, or it cannot be read and is not blank
unfoldable pub is_bad_line : Lines → List ℕ → Bool
is_bad_line lines line = option_map_or (λ read. finite.contains_key lines read.source) (line_of line) (not (is_blank_line line))

-- the number of the first bad line after others, blank ones counted too, if there is one
abbrev pub first_bad_line : List (List ℕ) → List (List ℕ) → Option ℕ
first_bad_line before [] = None
first_bad_line before (line ∷ later) =
    if is_bad_line (by_source before) line then Some (length before + 1) else first_bad_line (before ++ line ∷ []) later

-- the lines of a text, which line feeds separate
unfoldable pub lines_in : List ℕ → List (List ℕ)
lines_in text = slice_split is_line_feed text

-- what a text reads as, or the number of its first bad line, counted from 1
unfoldable pub report_of : List ℕ → Result Lines ReportFault
report_of text = ok_unless (option_map BadReport (first_bad_line [] (lines_in text))) (by_source (lines_in text))

-- the lines of a text that can be read, in their order
abbrev pub read_lines : List ℕ → List ReportLine
read_lines text = filter_map line_of (lines_in text)

-- lines of which none is bad after those before it
abbrev pub AreGoodLines : List (List ℕ) → Type 0
AreGoodLines lines =
    (before : List (List ℕ)) (line : List ℕ) (behind : List (List ℕ)) → lines ≡ before ++ line ∷ behind → is_bad_line (by_source before) line ≡ false

-- the number, counted from 1, of a line that is bad after those before it, of which none is bad
pub record IsFirstBadLine (lines : List (List ℕ)) (number : ℕ) : Type 0 where
  pub before : List (List ℕ)
  pub line : List ℕ
  pub behind : List (List ℕ)
  pub stands : lines ≡ before ++ line ∷ behind
  pub good : AreGoodLines before
  pub bad : is_bad_line (by_source before) line ≡ true
  pub counted : number ≡ length before + 1

-- the refusal of a command for what is wrong with its report
abbrev pub refusal_of_report : ReportFault → Refusal
refusal_of_report (BadReport line) = Bad line
refusal_of_report Memory = NoMemory

-- whether memory is taken for a report: one of its lines can be read
unfoldable pub report_takes_memory : List ℕ → Bool
report_takes_memory text = list_any (λ line. is_some (line_of line)) (lines_in text)

-- ---- the record of the source that a line names

-- whether a state is one of the two between which reports move a record
abbrev pub is_reported : State → Bool
is_reported = one_of (NeedsBuild ∷ BdUninstallable ∷ [])

-- a record after the report that what it needs cannot be installed, for this reason, or that it can (wanna-build)
abbrev pub reported : Option (List ℕ) → Record → Record
reported (Some reason) current =
    if is_reported current.state then record (in_state BdUninstallable current) { note = reason } else current
reported None current =
    if one_of (BdUninstallable ∷ []) current.state then record (in_state NeedsBuild current) { note = [] } else current

-- the record of a line's source after the line, which says nothing of other versions (Debian Policy 5.6.12)
unfoldable pub record_after_report : ReportLine → Record → Record
record_after_report line current =
    match_ordering (version_cmp current.version line.version) current (reported line.reason current) current
