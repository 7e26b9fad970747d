-- What a merge or a report changed on an architecture: of each record that differs, its states before and after and its
-- version after, by the names of the source packages.
use Rattle.std.specs.Prelude.{◌≡◌, ℕ, List, [], ◌∷◌, ◌++◌, Option, Some, None, Vec, IfSome, IsSomeAnd, if◌then◌else◌}
use Rattle.std.specs.BTreeMap as tree
use Rattle.std.specs.FinMap as finite
use Rattle.deb_text.specs.Text.{text_cmp}
use Rattle.wb_states.specs.declared.record.Record.{Record}
use Rattle.wb_merge.specs.declared.changes.ArchChanges.{ArchChanges}
use Rattle.wb_merge.specs.declared.changes.RecordChange.{RecordChange}
use Rattle.wb_merge.specs.Listing.{map_at}
use Rattle.wb_merge.specs.Merged.{Records, is_same_record, recorded_names}
use Rattle.wb_merge.specs.Steps.{Key, record_at}

-- the changes of an architecture, by the names of the source packages
abbrev pub Changes : Type 0
Changes = finite.FinMap text_cmp RecordChange

-- what became of the record of a source package, if there was or is one and a field of it differs
abbrev pub record_change : Option Record → Option Record → Option RecordChange
record_change None None = None
record_change None (Some new) = Some (record { before = None; after = Some new.state; version = Some new.version })
record_change (Some old) None = Some (record { before = Some old.state; after = None; version = None })
record_change (Some old) (Some new) =
    if is_same_record old new then None
    else Some (record { before = Some old.state; after = Some new.state; version = Some new.version })

-- what became of the record of a source package of an architecture between records before and after
abbrev pub change_at : Records → Records → List ℕ → List ℕ → Option RecordChange
change_at old new arch name = record_change (record_at old (arch, name)) (record_at new (arch, name))

-- the changes of an architecture between records before and after
unfoldable pub changes_between : Records → Records → List ℕ → Changes
changes_between old new arch = map_at (change_at old new arch) (recorded_names old arch ++ recorded_names new arch)

-- changes with that of a source package, if there is one
abbrev pub with_change : Changes → List ℕ → Option RecordChange → Changes
with_change changes name None = changes
with_change changes name (Some change) = finite.insert changes name change

-- ---- those of some architectures, one after another

-- these are the changes of an architecture between records before and after, which differ there alone
pub record AreArchChanges (old new : Records) (changes : ArchChanges) : Type 0 where
  pub records : finite.from_entries {R = text_cmp} changes.records.entries ≡ changes_between old new changes.arch
  pub others : (key : Key) → (key.0 ≡ changes.arch → ⊥) → record_at new key ≡ record_at old key

-- these are the changes of some architectures, one after another, which lead from records before to those after
abbrev pub AreChanges : List ArchChanges → Records → Records → Type 0
AreChanges [] old new = new ≡ old
AreChanges (changes ∷ others) old new =
    (between : Records) × (AreArchChanges old between changes × AreChanges others between new)

-- ---- what is noted

-- the changes of an architecture, as they are noted
abbrev pub NamedChanges : Type 0
NamedChanges = tree.BTreeMap (List ℕ) RecordChange

-- changes were noted on with that of a source package, if there is one, unless they are noted no longer
abbrev pub NotesChange : Option NamedChanges → Option NamedChanges → List ℕ → Option RecordChange → Type 0
NotesChange old new name change = IfSome new (λ after. IsSomeAnd old (λ before.
    finite.from_entries {R = text_cmp} after.entries ≡ with_change (finite.from_entries before.entries) name change))

-- these changes of an architecture are noted, those between records, if none were before; unless they are noted no
-- longer
abbrev pub NotesBetween : Option NamedChanges → Option NamedChanges → Records → Records → List ℕ → Type 0
NotesBetween old new before after arch = IfSome new (λ noted. IsSomeAnd old (λ start.
    finite.from_entries {R = text_cmp} start.entries ≡ finite.empty
    → finite.from_entries {R = text_cmp} noted.entries ≡ changes_between before after arch))

-- after what was noted before the changes are noted that lead from records before to those after, unless nothing is
-- noted any longer
abbrev pub NotesChanges : {X : Type 0} → Option (Vec ArchChanges X) → Option (Vec ArchChanges X) → Records
    → Records → Type 0
NotesChanges old new before after = IfSome new (λ noted. IsSomeAnd old (λ start.
    (made : List ArchChanges) × ((noted.items ≡ start.items ++ made) × AreChanges made before after)))
