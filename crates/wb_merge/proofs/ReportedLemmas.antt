-- The records after a report at each key, and as those of them that differ are put one after another.
use Rattle.std.proofs.Common.{◌≡◌, ◌∙◌, refl, sym, ap, ℕ, Bool, true, false, cond, ◌&&◌, ◌||◌, List, [], ◌∷◌, Option, Some, None, is_some, bytes_eq, option_and_then}
use Rattle.std.specs.List.{cons_option, list_any}
use Rattle.std.specs.Option.{option_map, option_or}
use Rattle.std.specs.Ordering.{eq_by_cmp}
use Rattle.std.specs.FinMap as finite
use Rattle.deb_text.specs.Text.{pair_cmp}
use Rattle.deb_text.proofs.KeyLemmas.{pair_cmp_total, pair_cmp-same}
use Rattle.wb_states.specs.declared.record.Record.{Record}
use Rattle.wb_states.specs.Queue.{Entry}
use Rattle.wb_merge.specs.declared.report.ReportLine.{ReportLine}
use Rattle.wb_merge.specs.Merged.{Records, is_same_record}
use Rattle.wb_merge.specs.Report.{Lines}
use Rattle.wb_merge.specs.Reported.{changed_by_line, record_by_line, record_reported_at, records_reported, row_reported, rows_over, rows_reported, with_rows}
use Rattle.wb_merge.specs.Steps.{Key}
use Rattle.wb_merge.proofs.ListingLemmas.{map_at-get}
use Rattle.wb_merge.proofs.MergeLemmas.{listed-any}
use Rattle.wb_merge.proofs.NameLemmas.{bytes_eq-is, none-is, pair-eq}
use Rattle.wb_merge.proofs.RecordLemmas.{same-record}

-- ---- at each key

missing : (old : Records) (arch : List ℕ) (lines : Lines) (key : Key) → finite.get old key ≡ None → record_reported_at old arch lines key ≡ None
unfolding record_reported_at
missing old arch lines key none =
    ap (λ (found : Option Record). cond (bytes_eq key.0 arch) (option_map (record_by_line (finite.get lines key.1)) found) found) none ∙ either (bytes_eq key.0 arch)
  where
    either : (b : Bool) → cond {A = Option Record} b None None ≡ None
    either true = refl
    either false = refl

-- the record at each key after the lines of a report
pub reported-get : (old : Records) (arch : List ℕ) (lines : Lines) (key : Key)
    → finite.get (records_reported old arch lines) key ≡ record_reported_at old arch lines key
unfolding records_reported
reported-get old arch lines key =
    let is_there = list_any (eq_by_cmp pair_cmp key) (finite.keys old) in
    map_at-get pair_cmp_total pair_cmp-same (record_reported_at old arch lines) (finite.keys old) key
    ∙ elim is_there as (λ b. is_there ≡ b → cond b (record_reported_at old arch lines key) None ≡ record_reported_at old arch lines key) [
      | true ↦ λ _. refl
      | false ↦ λ e. sym (missing old arch lines key (none-is _ (finite.contains_key-keys old key ∙ e)))
    ] refl

-- other architectures keep their records
pub reported-others : (old : Records) (arch : List ℕ) (lines : Lines) (key : Key) → bytes_eq key.0 arch ≡ false
    → finite.get (records_reported old arch lines) key ≡ finite.get old key
unfolding record_reported_at
reported-others old arch lines key other =
    reported-get old arch lines key
    ∙ ap (λ b. cond b (option_map (record_by_line (finite.get lines key.1)) (finite.get old key)) (finite.get old key)) other

-- the record of a source package of the architecture is that by its line, if there is one
pub reported-here : (old : Records) (arch : List ℕ) (lines : Lines) (key : Key) → bytes_eq key.0 arch ≡ true
    → finite.get (records_reported old arch lines) key ≡ option_map (record_by_line (finite.get lines key.1)) (finite.get old key)
unfolding record_reported_at
reported-here old arch lines key here =
    reported-get old arch lines key
    ∙ ap (λ b. cond b (option_map (record_by_line (finite.get lines key.1)) (finite.get old key)) (finite.get old key)) here

-- a source package that no line names keeps its record
pub reported-unnamed : (old : Records) (arch : List ℕ) (lines : Lines) (key : Key) → finite.get lines key.1 ≡ None
    → finite.get (records_reported old arch lines) key ≡ finite.get old key
unfolding record_reported_at
reported-unnamed old arch lines key unnamed =
    reported-get old arch lines key
    ∙ ap (λ (line : Option ReportLine). cond (bytes_eq key.0 arch) (option_map (record_by_line line) (finite.get old key)) (finite.get old key)) unnamed
    ∙ either (bytes_eq key.0 arch) (finite.get old key)
  where
    either : (b : Bool) (found : Option Record) → cond b (option_map (record_by_line None) found) found ≡ found
    either true None = refl
    either true (Some current) = refl
    either false found = refl

-- ---- one after another

-- the record that is put of a source package, if a field of it differs
abbrev new_of : Records → List ℕ → Lines → List ℕ → Option Record
new_of old arch lines source = option_and_then (changed_by_line (finite.get lines source)) (finite.get old (arch, source))

-- the record that is put at a key for these source packages, if one is
abbrev put_at : Records → List ℕ → Lines → List (List ℕ) → Key → Option Record
put_at old arch lines sources key = cond (bytes_eq key.0 arch && list_any (bytes_eq key.1) sources) (new_of old arch lines key.1) None

-- a record more, or none, put before others
put_before : (key place : Key) (new later : Option Record) (rows : List Entry) (records : Records)
    → ((others : Records) → finite.get (with_rows others rows) key ≡ option_or later (finite.get others key))
    → finite.get (with_rows records (cons_option (option_map (λ (value : Record). (place, value)) new) rows)) key
    ≡ option_or later (cond (eq_by_cmp pair_cmp key place) (option_or new (finite.get records key)) (finite.get records key))
put_before key place None later rows records rest =
    rest records ∙ ap (option_or later) (either (eq_by_cmp pair_cmp key place))
  where
    either : (b : Bool) → finite.get records key ≡ cond b (finite.get records key) (finite.get records key)
    either true = refl
    either false = refl
put_before key place (Some value) later rows records rest =
    rest (finite.insert records place value) ∙ ap (option_or later) (finite.get-insert pair_cmp_total records place value key)

here : (a b : Bool) (new before : Option Record) → option_or (cond (a && b) new None) (cond (a && true) (option_or new before) before) ≡ option_or (cond (a && true) new None) before
here true true None before = refl
here true true (Some value) before = refl
here true false new before = refl
here false b new before = refl

apart : (a b : Bool) (one other before : Option Record) → option_or (cond (a && b) one None) (cond (a && false) (option_or other before) before) ≡ option_or (cond (a && b) one None) before
apart true b one other before = refl
apart false b one other before = refl

-- what is put for one source package more
put_next : (old : Records) (arch : List ℕ) (lines : Lines) (source : List ℕ) (sources : List (List ℕ)) (key : Key) (before : Option Record)
    → option_or (put_at old arch lines sources key) (cond (eq_by_cmp pair_cmp key (arch, source)) (option_or (new_of old arch lines source) before) before)
    ≡ option_or (put_at old arch lines (source ∷ sources) key) before
put_next old arch lines source sources key before =
    let later = put_at old arch lines sources key in
    ap (λ b. option_or later (cond b (option_or (new_of old arch lines source) before) before)) (pair-eq key (arch, source))
    ∙ elim (bytes_eq key.1 source) as (λ b. bytes_eq key.1 source ≡ b
    → option_or later (cond (bytes_eq key.0 arch && b) (option_or (new_of old arch lines source) before) before)
    ≡ option_or (cond (bytes_eq key.0 arch && (b || list_any (bytes_eq key.1) sources)) (new_of old arch lines key.1) None) before) [
      | true ↦ λ is.
          ap (λ (name : List ℕ). option_or later (cond (bytes_eq key.0 arch && true) (option_or (new_of old arch lines name) before) before)) (sym (bytes_eq-is key.1 source is))
          ∙ here (bytes_eq key.0 arch) (list_any (bytes_eq key.1) sources) (new_of old arch lines key.1) before
      | false ↦ λ _. apart (bytes_eq key.0 arch) (list_any (bytes_eq key.1) sources) (new_of old arch lines key.1) (new_of old arch lines source) before
    ] refl

-- records with those that differ put one after another, at a key
put-get : (old : Records) (arch : List ℕ) (lines : Lines) (sources : List (List ℕ)) (records : Records) (key : Key)
    → finite.get (with_rows records (rows_over old arch lines sources)) key ≡ option_or (put_at old arch lines sources key) (finite.get records key)
unfolding row_reported
put-get old arch lines [] records key = ap (λ (o : Option Record). option_or o (finite.get records key)) (nothing (bytes_eq key.0 arch)) where
  nothing : (a : Bool) → None ≡ cond (a && false) (new_of old arch lines key.1) None
  nothing true = refl
  nothing false = refl
put-get old arch lines (source ∷ sources) records key =
    put_before key (arch, source) (new_of old arch lines source) (put_at old arch lines sources key) (rows_over old arch lines sources) records
    (λ others. put-get old arch lines sources others key)
    ∙ put_next old arch lines source sources key (finite.get records key)

-- the record of a source package of the architecture, by the line that names it or none
by_line : (current : Record) (line : Option ReportLine) (b : Bool) → is_same_record current (record_by_line line current) ≡ b
    → option_or (cond b None (Some (record_by_line line current))) (Some current) ≡ Some (record_by_line line current)
by_line current line true same = ap Some (same-record current (record_by_line line current) same)
by_line current line false differs = refl

at_source : (line : Option ReportLine) (found : Option Record) → option_or (option_and_then (changed_by_line line) found) found ≡ option_map (record_by_line line) found
at_source line None = refl
at_source line (Some current) = by_line current line (is_same_record current (record_by_line line current)) refl

at_arch : (old : Records) (arch : List ℕ) (lines : Lines) (key : Key) → bytes_eq key.0 arch ≡ true
    → option_or (cond (list_any (bytes_eq key.1) (finite.keys lines)) (new_of old arch lines key.1) None) (finite.get old key)
    ≡ option_map (record_by_line (finite.get lines key.1)) (finite.get old key)
at_arch old arch lines key is =
    let same : (arch, key.1) ≡ key = λ i. (sym (bytes_eq-is key.0 arch is) i, key.1) in
    ap (λ b. option_or (cond b (new_of old arch lines key.1) None) (finite.get old key)) (listed-any lines key.1)
    ∙ ap (λ (k : Key). option_or (cond (is_some (finite.get lines key.1)) (option_and_then (changed_by_line (finite.get lines key.1)) (finite.get old k)) None) (finite.get old key)) same
    ∙ at (finite.get lines key.1)
  where
    itself : (found : Option Record) → found ≡ option_map (record_by_line None) found
    itself None = refl
    itself (Some current) = refl

    at : (line : Option ReportLine)
        → option_or (cond (is_some line) (option_and_then (changed_by_line line) (finite.get old key)) None) (finite.get old key) ≡ option_map (record_by_line line) (finite.get old key)
    at None = itself (finite.get old key)
    at (Some line) = at_source (Some line) (finite.get old key)

at_key : (old : Records) (arch : List ℕ) (lines : Lines) (key : Key)
    → option_or (put_at old arch lines (finite.keys lines) key) (finite.get old key) ≡ record_reported_at old arch lines key
unfolding record_reported_at
at_key old arch lines key =
    (elim (bytes_eq key.0 arch) as (λ b. bytes_eq key.0 arch ≡ b
    → option_or (cond (b && list_any (bytes_eq key.1) (finite.keys lines)) (new_of old arch lines key.1) None) (finite.get old key)
    ≡ cond b (option_map (record_by_line (finite.get lines key.1)) (finite.get old key)) (finite.get old key)) [
      | true ↦ λ is. at_arch old arch lines key is
      | false ↦ λ _. refl
    ]) refl

-- the records after a report are those before, with those that differ put at their keys
pub reported-rows : (old : Records) (arch : List ℕ) (lines : Lines) → with_rows old (rows_reported old arch lines) ≡ records_reported old arch lines
unfolding rows_reported
reported-rows old arch lines = finite.same_map pair_cmp_total pair_cmp-same _ _ (λ key.
    put-get old arch lines (finite.keys lines) old key ∙ at_key old arch lines key ∙ sym (reported-get old arch lines key))
