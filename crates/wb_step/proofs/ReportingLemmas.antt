-- A report moves records without a hold, keeps the invariant of the office, and is refused as its texts and the office
-- say.
use Rattle.std.proofs.Common.{◌≡◌, ◌≢◌, ◌∙◌, refl, sym, ap, subst, inl, ℕ, ◌+◌, ◌<◌, ◌≤◌, Bool, true, false, cond, ◌&&◌, List, [], ◌∷◌, Option, Some, None, Result, Ok, Err, IfErr, IfSome, OnOk, IsTrue, bytes_eq, nat_le, not, option_map, IsErrAnd}
use Rattle.std.specs.Option.{option_or}
use Rattle.std.specs.FinMap as map
use Rattle.std.specs.FinSet as set
use Rattle.std.specs.Str.{IsUtf8}
use Rattle.deb_text.specs.Options.{first_some, ok_unless}
use Rattle.wb_states.specs.declared.command.Command.TheVariants as of
use Rattle.wb_states.specs.declared.command.Report.{Report}
use Rattle.wb_states.specs.declared.record.Record.{Record}
use Rattle.wb_states.specs.declared.refusal.Refusal.{Refusal}
use Rattle.wb_states.specs.declared.refusal.Refusal.TheVariants.{AfterAhead, AlreadyThere, BadName, BadNumber, BadReport, Memory, NotHeld, QueueEmpty, RepeatedArch, Spent, TextTooLong, UnknownArch, UnknownBuilder, UnknownSource, WrongArch}
use Rattle.wb_states.specs.declared.state.State.TheVariants.{NeedsBuild, BdUninstallable}
use Rattle.wb_states.specs.Limits.{count_limit, note_limit}
use Rattle.deb_text.specs.Text.{IsTextWithin}
use Rattle.wb_states.specs.Machine.{AreWaits, Machine, Key, IsConsistent, IsRecord, arch_words, is_unknown_arch}
use Rattle.wb_states.specs.Moves.{in_state}
use Rattle.wb_states.specs.Names.{is_arch_name}
use Rattle.wb_states.specs.Refusals.{IsOfMachine}
use Rattle.wb_merge.specs.declared.report.ReportFault.{ReportFault}
use Rattle.wb_merge.specs.declared.report.ReportFault.TheVariants as fault
use Rattle.wb_merge.specs.declared.report.ReportLine.{ReportLine}
use Rattle.wb_merge.specs.Merged.{Records}
use Rattle.wb_merge.specs.Report.{Lines, by_source, first_bad_line, lines_in, record_after_report, refusal_of_report, report_of, report_takes_memory}
use Rattle.wb_merge.specs.Reported.{record_by_line, records_reported}
use Rattle.wb_merge.proofs.NameLemmas.{bytes_eq-is, none-is}
use Rattle.wb_merge.proofs.ReportFormLemmas.{report-form}
use Rattle.wb_merge.proofs.ReportMoveLemmas.{after-report, kept-well, reported-cases}
use Rattle.wb_merge.proofs.ReportedLemmas.{reported-here, reported-others, reported-unnamed}
use Rattle.wb_step.specs.Checks.{MayWantMemory, first_refusal, report_refusal, state_refusal, text_refusal, when}
use Rattle.wb_step.specs.HandOuts.{HasTakeByState}
use Rattle.wb_step.specs.Step.{lines_said}
use Rattle.wb_step.specs.Targets.{transition_of}
use Rattle.wb_step.specs.TextChecks.{ChecksTexts}
use Rattle.wb_step.proofs.MergedLemmas.{OfAll, OfKeys}
use Rattle.wb_step.proofs.MergingLemmas.{IsNumberAt, MayReplace, all-may, replaced-keeps}

-- ---- what holds of each record before, holds of each after a report

-- a line keeps what is said of the records of its source package
abbrev IsKeptByLines : OfKeys → List ℕ → Lines → Type 0
IsKeptByLines P arch lines =
    (source : List ℕ) (line : ReportLine) → map.get lines source ≡ Some line → (current : Record) → P (arch, source) current → P (arch, source) (record_after_report line current)

by-line : (P : OfKeys) (arch : List ℕ) (lines : Lines) (source : List ℕ) → IsKeptByLines P arch lines → (line : Option ReportLine) → map.get lines source ≡ line
    → (found : Option Record) → IfSome found (P (arch, source)) → IfSome (option_map (record_by_line line) found) (P (arch, source))
by-line P arch lines source kept line is None old = tt
by-line P arch lines source kept None is (Some current) old = old
by-line P arch lines source kept (Some line) is (Some current) old = kept source line is current old

pub reported-keeps : (P : OfKeys) (old : Records) (arch : List ℕ) (lines : Lines) → IsKeptByLines P arch lines → OfAll P old → OfAll P (records_reported old arch lines)
reported-keeps P old arch lines kept all key =
    elim (bytes_eq key.0 arch) as (λ b. bytes_eq key.0 arch ≡ b → IfSome (map.get (records_reported old arch lines) key) (P key)) [
      | true ↦ λ is.
          let same : (arch, key.1) ≡ key = λ i. (sym (bytes_eq-is key.0 arch is) i, key.1) in
          rw (reported-here old arch lines key is)
          (subst (λ (k : Key). IfSome (map.get old k) (P k) → IfSome (option_map (record_by_line (map.get lines k.1)) (map.get old k)) (P k)) same
          (by-line P arch lines key.1 kept (map.get lines key.1) refl (map.get old (arch, key.1))) (all key))
      | false ↦ λ other. rw (reported-others old arch lines key other) (all key)
    ] refl

-- what holds of a record, and of each in the two states of reports without a hold, holds of it after a line
pub line-keeps : (P : Record → Type 0) (line : ReportLine) (current : Record) → P current
    → ((note : List ℕ) → P (record (in_state BdUninstallable current) { note = note })) → P (record (in_state NeedsBuild current) { note = [] })
    → P (record_after_report line current)
line-keeps P line current as_is bad good =
    after-report line current P as_is (reported-cases P line.reason current as_is (λ note _ _. bad note) (λ _ _. good))

-- ---- holds

pub line-takes : (line : ReportLine) (current : Record) → HasTakeByState current → HasTakeByState (record_after_report line current)
line-takes line current old = line-keeps HasTakeByState line current old (λ note. refl) refl

pub line-free : (take_number : ℕ) (line : ReportLine) (current : Record) → IfSome current.take (λ taken. taken ≢ take_number)
    → IfSome (record_after_report line current).take (λ taken. taken ≢ take_number)
line-free take_number line current old = line-keeps (λ (new : Record). IfSome new.take (λ taken. taken ≢ take_number)) line current old (λ note. tt) tt

-- ---- the invariant

-- what a line makes of a record has its form, and the take number of the record or none
line-may : (machine : Machine) (arch source : List ℕ) (line : ReportLine) (current : Record) → IfSome line.reason (IsTextWithin note_limit)
    → MayReplace machine (arch, source) current → MayReplace machine (arch, source) (record_after_report line current)
line-may machine arch source line current fine old =
    let had : IsRecord machine arch source current = old.0 in
    let is : IsRecord machine arch source (record_after_report line current) = record {
      name = had.name;
      known = had.known;
      fields = kept-well line current fine had.fields;
      holder = line-keeps (λ (new : Record). IfSome new.holder (λ builder. IsTrue (set.contains machine.builders (builder, arch)))) line current had.holder (λ note. tt) tt;
      waits = line-keeps (λ (new : Record). AreWaits (arch_words machine arch) new.waits) line current had.waits (λ note. inl refl) (inl refl);
      given = line-keeps (λ (new : Record). IfSome new.take (λ take_number. (1 ≤ take_number) × (take_number ≤ machine.handed))) line current had.given (λ note. tt) tt;
    } in
    (is, line-keeps (λ (new : Record). IfSome new.take (IsNumberAt machine (arch, source))) line current old.1 (λ note. tt) tt)

-- a report of which no line is bad is read
read-as : (text : List ℕ) → report_refusal text ≡ None → report_of text ≡ Ok (lines_said text)
unfolding report_of
read-as text good = at (first_bad_line [] (lines_in text)) good where
  at : (bad : Option ℕ) → option_map BadReport bad ≡ None → ok_unless (option_map fault.BadReport bad) (by_source (lines_in text)) ≡ Ok (lines_said text)
  at None e = refl
  at (Some line) e = cc

pub reporting-keeps : (machine : Machine) (arch text : List ℕ) → IsConsistent machine → IsUtf8 text → report_refusal text ≡ None → machine.accepted < count_limit
    → IsConsistent (record machine { records = records_reported machine.records arch (lines_said text); accepted = machine.accepted + 1 })
reporting-keeps machine arch text old utf8 good room =
    replaced-keeps machine (records_reported machine.records arch (lines_said text)) old
    (reported-keeps (MayReplace machine) machine.records arch (lines_said text)
    (λ source line is current had. line-may machine arch source line current (report-form text (lines_said text) source line utf8 (read-as text good) is).reason had)
    (all-may machine old))
    room

-- ---- other records

pub report-others : (old : Records) (arch : List ℕ) (lines : Lines) (key : Key) → ((bytes_eq key.0 arch && map.contains_key lines key.1) ≡ true → ⊥)
    → map.get (records_reported old arch lines) key ≡ map.get old key
report-others old arch lines key apart =
    elim (bytes_eq key.0 arch) as (λ b. bytes_eq key.0 arch ≡ b → ((b && map.contains_key lines key.1) ≡ true → ⊥) → map.get (records_reported old arch lines) key ≡ map.get old key) [
      | true ↦ λ _ other. reported-unnamed old arch lines key (none-is (map.get lines key.1) (not-there (map.contains_key lines key.1) other))
      | false ↦ λ is _. reported-others old arch lines key is
    ] refl apart
  where
    not-there : (b : Bool) → (b ≡ true → ⊥) → b ≡ false
    not-there true other = absurd (other refl)
    not-there false other = refl

-- ---- the texts

-- a report that is read has no bad line
pub report-good : (text : List ℕ) (lines : Lines) → report_of text ≡ Ok lines → (report_refusal text ≡ None) × (lines ≡ lines_said text)
unfolding report_of
report-good text lines is = at (first_bad_line [] (lines_in text)) is where
  at : (bad : Option ℕ) → ok_unless (option_map fault.BadReport bad) (by_source (lines_in text)) ≡ Ok lines → (option_map BadReport bad ≡ None) × (lines ≡ lines_said text)
  at None e = (refl, cc)
  at (Some line) e = cc

-- the refusal of a report is that of its fault
report-bad : (text : List ℕ) (wrong : ReportFault) (refusal : Refusal) → (wrong ≢ fault.Memory → report_of text ≡ Err wrong) → refusal ≡ refusal_of_report wrong
    → IsOfMachine refusal → report_refusal text ≡ Some refusal
unfolding report_of
report-bad text fault.Memory refusal refused is other = absurd (other is)
report-bad text (fault.BadReport number) refusal refused is other = at (first_bad_line [] (lines_in text)) (refused (λ e. cc)) ∙ ap Some (sym is) where
  at : (bad : Option ℕ) → ok_unless (option_map fault.BadReport bad) (by_source (lines_in text)) ≡ Err (fault.BadReport number) → option_map BadReport bad ≡ Some (BadReport number)
  at None e = cc
  at (Some line) e = cc

-- memory runs out for a report only if one of its lines can be read
report-wants : (text : List ℕ) (wrong : ReportFault) (refusal : Refusal) → (wrong ≡ fault.Memory → IsTrue (report_takes_memory text)) → refusal ≡ refusal_of_report wrong
    → refusal ≡ Memory → report_takes_memory text ≡ true
report-wants text fault.Memory refusal wants is none = wants refl
report-wants text (fault.BadReport number) refusal wants is none = absurd (cc (sym none ∙ is))

-- what is known of a report for which memory is wanted
want-Report : (arch text : List ℕ) → is_arch_name arch ≡ true → report_takes_memory text ≡ true → MayWantMemory (of.Report (record { arch = arch; text = text }))
want-Report arch text good takes = record {
  names = ap not good;
  version = refl;
  relations = refl;
  number = refl;
  short = refl;
  parts = refl;
  report = ap (λ b. cond b None (report_refusal text)) takes;
}

-- the same of one that is read
pub want-read : (arch text : List ℕ) → is_arch_name arch ≡ true → report_refusal text ≡ None → MayWantMemory (of.Report (record { arch = arch; text = text }))
want-read arch text good read = record {
  names = ap not good;
  version = refl;
  relations = refl;
  number = refl;
  short = refl;
  parts = refl;
  report = either (report_takes_memory text) (report_refusal text) read;
}
  where
    either : (b : Bool) (refused : Option Refusal) → refused ≡ None → cond b None refused ≡ None
    either true refused e = refl
    either false refused e = e

text-Report : (arch text : List ℕ) (is_bad : Bool) (refused : Option Refusal) → not (is_arch_name arch) ≡ is_bad → report_refusal text ≡ refused
    → text_refusal (of.Report (record { arch = arch; text = text })) ≡ option_or (when is_bad BadName) refused
unfolding text_refusal
text-Report arch text is_bad refused bad why = at (not (is_arch_name arch)) (report_refusal text) ∙ (λ i. option_or (when (bad i) BadName) (why i)) where
  at : (b : Bool) (one : Option Refusal)
      → first_some (when b BadName ∷ None ∷ None ∷ when false BadNumber ∷ when false TextTooLong ∷ one ∷ when false RepeatedArch ∷ []) ≡ option_or (when b BadName) one
  at true one = refl
  at false (Some refusal) = refl
  at false None = refl

-- a report whose texts are not refused
pub good-Report : (fields : Report) → text_refusal (of.Report fields) ≡ None → (not (is_arch_name fields.arch) ≡ false) × (report_refusal fields.text ≡ None)
good-Report fields good = at (not (is_arch_name fields.arch)) (report_refusal fields.text) (sym (text-Report fields.arch fields.text _ _ refl refl) ∙ good) where
  at : (is_bad : Bool) (refused : Option Refusal) → option_or (when is_bad BadName) refused ≡ None → (is_bad ≡ false) × (refused ≡ None)
  at true refused e = cc
  at false refused e = (refl, e)

pub told-Report : {X : Type 0} (fields : Report) (r : Result X Refusal) → is_arch_name fields.arch ≡ true → OnOk r (report_refusal fields.text ≡ None)
    → IfErr r (λ refusal. IsOfMachine refusal → report_refusal fields.text ≡ Some refusal) → IfErr r (λ refusal. refusal ≡ Memory → report_takes_memory fields.text ≡ true)
    → ChecksTexts (of.Report fields) r
told-Report fields (Ok x) good read refused wants = record {
  ok = text-Report fields.arch fields.text false None (ap not good) read;
  passed = want-read fields.arch fields.text good read;
  refused = tt;
  memory = tt;
}
told-Report fields (Err refusal) good read refused wants = record {
  ok = tt;
  passed = tt;
  refused = λ other. text-Report fields.arch fields.text false (Some refusal) (ap not good) (refused other);
  memory = λ none. want-Report fields.arch fields.text good (wants none);
}

-- a report of a malformed architecture
pub told-Report-name : {X : Type 0} (fields : Report) → not (is_arch_name fields.arch) ≡ true → ChecksTexts {X = X} (of.Report fields) (Err BadName)
told-Report-name fields bad = record {
  ok = tt;
  passed = tt;
  refused = λ other. text-Report fields.arch fields.text true (report_refusal fields.text) bad refl;
  memory = λ none. cc;
}

-- ---- the refusal of a report, by the outcomes of its checks

joined : (is_bad : Bool) (refused : Option Refusal) (is_unknown is_full : Bool) (handed : ℕ)
    → option_or (first_some (when is_bad BadName ∷ None ∷ None ∷ when false BadNumber ∷ when false TextTooLong ∷ refused ∷ when false RepeatedArch ∷ []))
    (first_some (when is_unknown UnknownArch ∷ None ∷ when false UnknownBuilder ∷ when false WrongArch ∷ when false (AfterAhead handed)
    ∷ when false NotHeld ∷ when false UnknownSource ∷ None ∷ None ∷ when false QueueEmpty ∷ when false AlreadyThere ∷ when is_full Spent ∷ []))
    ≡ first_some (when is_bad BadName ∷ refused ∷ when is_unknown UnknownArch ∷ when is_full Spent ∷ [])
joined true refused is_unknown is_full handed = refl
joined false (Some refusal) is_unknown is_full handed = refl
joined false None true is_full handed = refl
joined false None false is_full handed = refl

pub first_refusal-Report : (machine : Machine) (fields : Report) (is_bad : Bool) (refused : Option Refusal) (is_unknown is_full : Bool)
    → not (is_arch_name fields.arch) ≡ is_bad → report_refusal fields.text ≡ refused → is_unknown_arch machine fields.arch ≡ is_unknown
    → nat_le count_limit machine.accepted ≡ is_full
    → first_refusal machine (of.Report fields) ≡ first_some (when is_bad BadName ∷ refused ∷ when is_unknown UnknownArch ∷ when is_full Spent ∷ [])
unfolding first_refusal text_refusal state_refusal transition_of
first_refusal-Report machine fields is_bad refused is_unknown is_full bad why unknown full =
    joined (not (is_arch_name fields.arch)) (report_refusal fields.text) (is_unknown_arch machine fields.arch) (nat_le count_limit machine.accepted) machine.handed
    ∙ (λ i. first_some (when (bad i) BadName ∷ why i ∷ when (unknown i) UnknownArch ∷ when (full i) Spent ∷ []))

-- a report that cannot be read
pub told-Report-err : {X : Type 0} (fields : Report) (r : Result X Refusal) (wrong : ReportFault) → IsErrAnd r (λ refusal. refusal ≡ refusal_of_report wrong)
    → is_arch_name fields.arch ≡ true → (wrong ≢ fault.Memory → report_of fields.text ≡ Err wrong) → (wrong ≡ fault.Memory → IsTrue (report_takes_memory fields.text))
    → ChecksTexts (of.Report fields) r
told-Report-err fields (Ok x) wrong is good refused wants = absurd is
told-Report-err fields (Err refusal) wrong is good refused wants =
    told-Report fields (Err refusal) good tt (report-bad fields.text wrong refusal refused is) (report-wants fields.text wrong refusal wants is)
