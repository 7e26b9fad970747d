-- The changes of an architecture, name by name, and those of some architectures one after another.
use Rattle.std.proofs.Common.{◌≡◌, ℕ, Bool, true, false, cond, ◌&&◌, ◌||◌, List, [], ◌∷◌, ◌++◌, Option, Some, None}
use Rattle.std.proofs.Common.{bytes_eq, is_some, ◌↔◌, refl, sym, ap, subst, ◌∙◌, append-nil, append_assoc}
use Rattle.std.specs.FinMap as finite
use Rattle.std.specs.Prelude.{IfSome, IsSomeAnd, Vec}
use Rattle.std.specs.List.{list_any}
use Rattle.std.specs.Ordering.{eq_by_cmp}
use Rattle.std.proofs.lemmas.Cmp.{nat_list_eq_equiv}
use Rattle.std.proofs.lemmas.List.Folds.{list_any-append}
use Rattle.std.proofs.lemmas.Map.Text.{is_eq-slice_cmp}
use Rattle.deb_text.specs.Text.{text_cmp}
use Rattle.deb_text.proofs.KeyLemmas.{text_cmp_total, text_cmp-same}
use Rattle.wb_states.specs.declared.record.Record.{Record}
use Rattle.wb_merge.specs.declared.changes.ArchChanges.{ArchChanges}
use Rattle.wb_merge.specs.declared.changes.RecordChange.{RecordChange}
use Rattle.wb_merge.specs.Changes.{AreChanges, Changes, NamedChanges, NotesBetween, NotesChange, NotesChanges}
use Rattle.wb_merge.specs.Changes.{change_at, changes_between}
use Rattle.wb_merge.specs.Changes.{record_change, with_change}
use Rattle.wb_merge.specs.Merged.{Records, is_same_record, recorded_names}
use Rattle.wb_merge.specs.Steps.{IsSetAt, Key, record_at}
use Rattle.wb_merge.proofs.ListingLemmas.{map_at-get}
use Rattle.wb_merge.proofs.MergeLemmas.{recorded-names-any}
use Rattle.wb_merge.proofs.NameLemmas.{bytes_eq-is, pair-eq}
use Rattle.wb_merge.proofs.RecordLemmas.{same-record-is}

-- a record that stays has no change
pub change-itself : (current : Option Record) → record_change current current ≡ None
change-itself None = refl
change-itself (Some current) = kept (is_same_record current current) ((same-record-is current current).1 refl) where
  kept : (b : Bool) → b ≡ true
      → cond {A = Option RecordChange} b None (Some
      (record { before = Some current.state; after = Some current.state; version = Some current.version })) ≡ None
  kept true e = refl
  kept false e = absurd cc

-- only a record that stays has none
pub unchanged : (old new : Option Record) → (record_change old new ≡ None) ↔ (old ≡ new)
unchanged old new = (stays old new, λ e. ap (record_change old) (sym e) ∙ change-itself old) where
  same : (old new : Record) (b : Bool) → is_same_record old new ≡ b
      → cond {A = Option RecordChange} b None (Some
      (record { before = Some old.state; after = Some new.state; version = Some new.version })) ≡ None
      → Some old ≡ Some new
  same old new true e none = ap Some ((same-record-is old new).0 e)
  same old new false e none = absurd cc

  stays : (old new : Option Record) → record_change old new ≡ None → old ≡ new
  stays None None none = refl
  stays None (Some new) none = absurd cc
  stays (Some old) None none = absurd cc
  stays (Some old) (Some new) none = same old new (is_same_record old new) refl none

-- the change of a source package, in the changes of its architecture
pub changes-get : (old new : Records) (arch name : List ℕ)
    → finite.get (changes_between old new arch) name ≡ change_at old new arch name
unfolding changes_between
changes-get old new arch name =
    map_at-get text_cmp_total text_cmp-same (change_at old new arch)
    (recorded_names old arch ++ recorded_names new arch) name
    ∙ ap (λ b. cond b (change_at old new arch name) None) any
    ∙ at _ _ refl refl
  where
    any : list_any (eq_by_cmp text_cmp name) (recorded_names old arch ++ recorded_names new arch)
        ≡ (is_some (record_at old (arch, name)) || is_some (record_at new (arch, name)))
    any =
        ap (λ (eq : List ℕ → Bool). list_any eq (recorded_names old arch ++ recorded_names new arch))
        (λ i other. is_eq-slice_cmp name other i)
        ∙ list_any-append (bytes_eq name) (recorded_names old arch) (recorded_names new arch)
        ∙ (λ i. recorded-names-any old arch name i || recorded-names-any new arch name i)

    at : (before after : Option Record) → record_at old (arch, name) ≡ before → record_at new (arch, name) ≡ after
        → cond (is_some (record_at old (arch, name)) || is_some (record_at new (arch, name)))
        (change_at old new arch name) None ≡ change_at old new arch name
    at None None e f =
        (λ i. cond (is_some (e i) || is_some (f i)) (record_change (e i) (f i)) None)
        ∙ (λ i. record_change (sym e i) (sym f i))
    at (Some before) after e f = ap (λ (o : Option Record). cond (is_some o || is_some (record_at new
        (arch, name))) (change_at old new arch name) None) e
    at None (Some after) e f =
        λ i. cond (is_some (e i) || is_some (f i)) (change_at old new arch name) None

-- records that stay have no changes
pub changes-none : (records : Records) (arch : List ℕ) → finite.empty ≡ changes_between records records arch
changes-none records arch = finite.same_map text_cmp_total text_cmp-same _ _ (λ name.
    finite.get-empty text_cmp name ∙ sym (changes-get records records arch name
    ∙ change-itself (record_at records (arch, name))))

-- the change of one source package more, at which the records had what they had before
pub changes-next : (old records new : Records) (arch name : List ℕ) (value : Option Record)
    → record_at records (arch, name) ≡ record_at old (arch, name)
    → IsSetAt records (arch, name) value new
    → with_change (changes_between old records arch) name (record_change (record_at records
    (arch, name)) value) ≡ changes_between old new arch
unfolding IsSetAt
changes-next old records new arch name value stays step =
    finite.same_map text_cmp_total text_cmp-same _ _ (λ other.
    with-get (record_change (record_at records (arch, name)) value) refl other ∙ sym (changes-get old new arch other))
  where
    here : record_at new (arch, name) ≡ value
    here = step (arch, name) ∙ ap (λ b. cond b value (record_at records (arch, name))) (
        pair-eq (arch, name) (arch, name) ∙ (λ i. nat_list_eq_equiv.refl arch i && nat_list_eq_equiv.refl name i))

    changed : (other : List ℕ) → eq_by_cmp text_cmp other name ≡ true
        → record_change (record_at records (arch, name)) value ≡ change_at old new arch other
    changed other e =
        let same : other ≡ name = bytes_eq-is other name (sym (is_eq-slice_cmp other name) ∙ e) in
        (λ i. record_change (stays i) (sym here i)) ∙ ap (change_at old new arch) (sym same)

    elsewhere : (other : List ℕ) → eq_by_cmp text_cmp other name ≡ false
        → finite.get (changes_between old records arch) other ≡ change_at old new arch other
    elsewhere other e =
        changes-get old records arch other
        ∙ ap (record_change (record_at old (arch, other))) (sym (step (arch, other)
        ∙ ap (λ b. cond b value (record_at records (arch, other))) (
        pair-eq (arch, name) (arch, other) ∙ (λ i. bytes_eq arch arch && (nat_list_eq_equiv.symm name other
        ∙ sym (is_eq-slice_cmp other name) ∙ e) i)
        ∙ and-false (bytes_eq arch arch))))
      where
        and-false : (b : Bool) → (b && false) ≡ false
        and-false true = refl
        and-false false = refl

    with-get : (change : Option RecordChange) → record_change (record_at records (arch, name)) value ≡ change
        → (other : List ℕ) → finite.get (with_change
        (changes_between old records arch) name change) other ≡ change_at old new arch other
    with-get None is other = at (eq_by_cmp text_cmp other name) refl where
      at : (b : Bool) → eq_by_cmp text_cmp other name ≡ b
          → finite.get (changes_between old records arch) other ≡ change_at old new arch other
      at true e =
          let same : other ≡ name = bytes_eq-is other name (sym (is_eq-slice_cmp other name) ∙ e) in
          ap (finite.get (changes_between old records arch)) same
          ∙ changes-get old records arch name
          ∙ ap (λ (o : Option Record). record_change o (record_at records (arch, name))) (sym stays)
          ∙ change-itself (record_at records (arch, name))
          ∙ sym is ∙ changed other e
      at false e = elsewhere other e
    with-get (Some change) is other =
        finite.get-insert text_cmp_total (changes_between old records arch) name change other
        ∙ at (eq_by_cmp text_cmp other name) refl
      where
        at : (b : Bool) → eq_by_cmp text_cmp other name ≡ b
            → cond b (Some change) (finite.get (changes_between old records arch) other) ≡ change_at old new arch other
        at true e = sym is ∙ changed other e
        at false e = elsewhere other e

-- at another source package the changes stay
set-elsewhere : (old records new : Records) (arch name : List ℕ) (value : Option Record)
    → IsSetAt records (arch, name) value new
    → (other : List ℕ) → eq_by_cmp text_cmp other name ≡ false
    → finite.get (changes_between old records arch) other ≡ change_at old new arch other
unfolding IsSetAt
set-elsewhere old records new arch name value step other e =
    changes-get old records arch other
    ∙ ap (record_change (record_at old (arch, other))) (sym (step (arch, other)
    ∙ ap (λ b. cond b value (record_at records (arch, other))) (pair-eq (arch, name) (arch, other)
    ∙ (λ i. bytes_eq arch arch && (nat_list_eq_equiv.symm name other ∙ sym (is_eq-slice_cmp other name) ∙ e) i)
    ∙ and-false (bytes_eq arch arch))))
  where
    and-false : (b : Bool) → (b && false) ≡ false
    and-false true = refl
    and-false false = refl

-- the change of one source package more, whatever the records had there
changes-set : (old records new : Records) (arch name : List ℕ) (value : Option Record) (change : RecordChange)
    → IsSetAt records (arch, name) value new → record_change (record_at old (arch, name)) value ≡ Some change
    → finite.insert (changes_between old records arch) name change ≡ changes_between old new arch
unfolding IsSetAt
changes-set old records new arch name value change step is =
    finite.same_map text_cmp_total text_cmp-same _ _ (λ other.
    finite.get-insert text_cmp_total (changes_between old records arch) name change other
    ∙ at other (eq_by_cmp text_cmp other name) refl ∙ sym (changes-get old new arch other))
  where
    here : record_at new (arch, name) ≡ value
    here = step (arch, name) ∙ ap (λ b. cond b value (record_at records (arch, name))) (
        pair-eq (arch, name) (arch, name) ∙ (λ i. nat_list_eq_equiv.refl arch i && nat_list_eq_equiv.refl name i))

    at : (other : List ℕ) (b : Bool) → eq_by_cmp text_cmp other name ≡ b
        → cond b (Some change) (finite.get (changes_between old records arch) other) ≡ change_at old new arch other
    at other true e =
        let same : other ≡ name = bytes_eq-is other name (sym (is_eq-slice_cmp other name) ∙ e) in
        sym is ∙ ap (record_change (record_at old (arch, name))) (sym here) ∙ ap (change_at old new arch) (sym same)
    at other false e = set-elsewhere old records new arch name value step other e

-- no changes of an architecture are noted before the first
pub between-start : (changes : Option NamedChanges) (records : Records) (arch : List ℕ)
    → NotesBetween changes changes records records arch
between-start None records arch = tt
between-start (Some noted) records arch = λ none. none ∙ changes-none records arch

-- the change of one source package more is noted
pub between-next : (start before after : Option NamedChanges) (old records new : Records) (arch name : List ℕ)
    (value : Option Record)
    → record_at records (arch, name) ≡ record_at old (arch, name) → IsSetAt records (arch, name) value new
    → NotesBetween start before old records arch
    → NotesChange before after name (record_change (record_at records (arch, name)) value)
    → NotesBetween start after old new arch
between-next start before None old records new arch name value stays step between noted = tt
between-next start None (Some after) old records new arch name value stays step between noted = absurd noted
between-next None (Some before) (Some after) old records new arch name value stays step between noted = absurd between
between-next (Some start) (Some before) (Some after) old records new arch name value stays step between noted = λ none.
    noted
    ∙ ap (λ (changes : Changes). with_change changes name (record_change (record_at records (arch, name)) value))
    (between none)
    ∙ changes-next old records new arch name value stays step

-- the changes of some architectures, and then those of others
pub changes-both : (noted more : List ArchChanges) (old between new : Records)
    → AreChanges noted old between → AreChanges more between new → AreChanges (noted ++ more) old new
changes-both [] more old between new first second = subst (λ
    (records : Records). AreChanges more records new) first second
changes-both (changes ∷ noted) more old between new first second =
    (first.0, (first.1.0, changes-both noted more first.0 between new first.1.1 second))

-- the change of one source package more is noted, whatever the records had there
pub between-set : (start before after : Option NamedChanges) (old records new : Records) (arch name : List ℕ)
    (value : Option Record) (change : RecordChange) → IsSetAt records (arch, name) value new
    → record_change (record_at old (arch, name)) value ≡ Some change → NotesBetween start before old records arch
    → NotesChange before after name (record_change (record_at old (arch, name)) value)
    → NotesBetween start after old new arch
between-set start before None old records new arch name value change step is between noted = tt
between-set start None (Some after) old records new arch name value change step is between noted = absurd noted
between-set None (Some before)
    (Some after) old records new arch name value change step is between noted = absurd between
between-set (Some start) (Some before)
    (Some after) old records new arch name value change step is between noted = λ none.
    noted
    ∙ ap (λ (changes : Changes). with_change changes name (record_change (record_at old (arch, name)) value))
    (between none)
    ∙ ap (with_change (changes_between old records arch) name) is
    ∙ changes-set old records new arch name value change step is

-- what is noted where nothing changes
pub notes-itself : {X : Type 0} (notes : Option (Vec ArchChanges X)) (records : Records)
    → NotesChanges notes notes records records
notes-itself None records = tt
notes-itself (Some noted) records = ([], (sym (append-nil noted.items), refl))

-- what is noted from nothing on
pub notes-made : {X : Type 0} (start noted : Option (Vec ArchChanges X)) (old new : Records)
    → IfSome start (λ begun. begun.items ≡ []) → NotesChanges start noted old new
    → IfSome noted (λ made. AreChanges made.items old new)
notes-made start None old new begun notes = tt
notes-made None (Some noted) old new begun notes = absurd notes
notes-made (Some start) (Some noted) old new begun notes =
    subst (λ (items : List ArchChanges). AreChanges items old new)
    (sym (notes.1.0 ∙ ap (λ (items : List ArchChanges). items ++ notes.0) begun)) notes.1.1

-- what is noted on from what was noted
pub notes-on : {X : Type 0} (first second third : Option (Vec ArchChanges X)) (old between new : Records)
    → NotesChanges first second old between → NotesChanges second third between new → NotesChanges first third old new
notes-on first second None old between new made more = tt
notes-on None None (Some noted) old between new made more = absurd more
notes-on (Some start) None (Some noted) old between new made more = absurd more
notes-on None (Some middle) (Some noted) old between new made more = absurd made
notes-on (Some start) (Some middle) (Some noted) old between new made more = (
  made.0 ++ more.0,
  (
    more.1.0 ∙ ap (λ (items : List ArchChanges). items ++ more.0) made.1.0 ∙ append_assoc start.items made.0 more.0,
    changes-both made.0 more.0 old between new made.1.1 more.1.1,
  ),
)

-- the changes of an architecture are noted on
pub notes-arch : {X : Type 0} (old new : Option (Vec ArchChanges X)) (start changes : Option NamedChanges)
    (arch : List ℕ) (before after : Records)
    → IfSome start (λ begun. finite.from_entries {R = text_cmp} begun.entries ≡ finite.empty)
    → NotesBetween start changes before after arch → ((key : Key) → (key.0 ≡ arch → ⊥)
    → record_at after key ≡ record_at before key)
    → IfSome new (λ noted. IsSomeAnd old (λ others. IsSomeAnd changes (λ records.
    noted.items ≡ others.items ++ record { arch = arch; records = records } ∷ [])))
    → NotesChanges old new before after
notes-arch old None start changes arch before after begun between others made = tt
notes-arch None (Some noted) start changes arch before after begun between others made = absurd made
notes-arch (Some was) (Some noted) start None arch before after begun between others made = absurd made
notes-arch (Some was) (Some noted) None (Some records) arch before after begun between others made = absurd between
notes-arch (Some was) (Some noted) (Some start) (Some records) arch before after begun between others made = (
  record { arch = arch; records = records } ∷ [],
  (made, (after, (record { records = between begun; others = others }, refl))),
)
