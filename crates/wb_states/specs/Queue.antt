-- The order in which the waiting source packages of an architecture are built (wanna-build's states page).
use Rattle.std.specs.Prelude.{◌≡◌, ℕ, ◌+◌, ◌*◌, ℤ, ◌-ℤ◌, pos, nat_abs, Bool, not, nat_lt, nat_eq, List, [], ◌∷◌, length, codes, bytes_eq, if◌then◌else◌, ◌&&◌, filter, Option, Some}
use Rattle.std.specs.List.{position_or_len, after_first}
use Rattle.std.specs.declared.cmp.Ordering.{Ordering}
use Rattle.std.specs.Ordering.{nat_cmp, int_cmp, bool_cmp, on, flip_args, then_cmp}
use Rattle.std.specs.Cmp.{IsTotalOrder, on_total, back_total, then_total, nat_cmp_total, int_cmp_total, bool_cmp_total}
use Rattle.std.specs.Cmp.Lexicographic.{nat_list_cmp_total}
use Rattle.wb_states.specs.declared.record.Record.{Record}
use Rattle.std.specs.FinMap as map
use Rattle.wb_states.specs.declared.state.State.TheVariants.{NeedsBuild}
use Rattle.wb_states.specs.State.{is_needs_build}
use Rattle.deb_text.specs.Text.{text_cmp}
use Rattle.wb_states.specs.Machine.{Key, Machine}
use Rattle.deb_text.specs.Lists.{sorted_by, first_of}

-- the priorities, the most urgent first (Debian Policy 2.5, and `extra` of its older versions)
abbrev pub priorities : List (List ℕ)
priorities = codes "required" ∷ codes "important" ∷ codes "standard" ∷ codes "optional" ∷ codes "extra" ∷ []

-- the sections, the first to be built first (Debian Policy 2.4; the order is this project's own)
abbrev pub sections : List (List ℕ)
sections =
    codes "libs" ∷ codes "base" ∷ codes "devel" ∷ codes "kernel" ∷ codes "shells" ∷ codes "perl" ∷ codes "python"
    ∷ codes "admin" ∷ codes "utils" ∷ codes "text" ∷ codes "net" ∷ codes "web" ∷ codes "mail" ∷ codes "database"
    ∷ codes "editors" ∷ codes "interpreters" ∷ codes "graphics" ∷ codes "sound" ∷ codes "video" ∷ codes "x11"
    ∷ codes "gnome" ∷ codes "kde" ∷ codes "science" ∷ codes "math" ∷ codes "doc" ∷ codes "misc" ∷ codes "oldlibs"
    ∷ codes "games" ∷ []

-- the slash between an archive area and a section (Debian Policy 2.4)
abbrev pub is_slash : ℕ → Bool
is_slash c = nat_eq c 47

-- a section without the archive area that stands before its first slash (Debian Policy 2.4)
abbrev pub without_area : List ℕ → List ℕ
without_area section = if nat_lt (position_or_len is_slash section) (length section) then after_first is_slash section else section

-- where a source package stands in the queue
pub record Place : Type 0 where
  pub build_priority : ℤ
  pub is_new : Bool
  pub priority : ℕ
  pub section : ℕ
  pub name : List ℕ

-- the place of a record, and the name of its source package (that the time waited does not count is this project's own)
abbrev pub place_of : Record → List ℕ → Place
place_of current source = record {
  build_priority = current.build_priority;
  is_new = not current.earlier;
  priority = position_or_len (bytes_eq current.priority) priorities;
  section = position_or_len (bytes_eq (without_area current.section)) sections;
  name = source;
}

-- by build priority, the greatest first, then what was built earlier before what is new, by priority, by section, and
-- by the bytes of the name (that the build priority comes first is this project's own)
abbrev pub place_cmp : Place → Place → Ordering
place_cmp =
    then_cmp (on (λ p. p.build_priority) (flip_args int_cmp))
    (then_cmp (on (λ p. p.is_new) bool_cmp)
    (then_cmp (on (λ p. p.priority) nat_cmp) (then_cmp (on (λ p. p.section) nat_cmp) (on (λ p. p.name) text_cmp))))

-- the order of places is total
pub place_cmp_total : IsTotalOrder place_cmp
place_cmp_total =
    then_total (on_total (λ p. p.build_priority) (back_total int_cmp_total))
    (then_total (on_total (λ p. p.is_new) bool_cmp_total)
    (then_total (on_total (λ p. p.priority) nat_cmp_total) (then_total (on_total (λ p. p.section) nat_cmp_total) (on_total (λ p. p.name) nat_list_cmp_total))))

-- how far the build priority of a record is from the greatest one
abbrev pub below_greatest : Record → ℕ
below_greatest current = nat_abs (pos 1000 -ℤ current.build_priority)

-- 0 for what was built earlier, 1 for what is new
abbrev pub newness : Record → ℕ
newness current = if current.earlier then 0 else 1

-- the number by which the tables order the records of an architecture: for each step of build priority there are 348
-- places, of priorities and sections
abbrev pub rank_of : Record → ℕ
rank_of current =
    let place = place_of current [] in
    below_greatest current * 348 + (newness current * 6 + place.priority) * 29 + place.section

-- a key of the records, and the record at it
abbrev pub Entry : Type 0
Entry = Key × Record

-- the order of two records in the queue
abbrev pub entry_cmp : Entry → Entry → Ordering
entry_cmp = on (λ entry. place_of entry.1 entry.0.1) place_cmp

-- a record of the architecture that waits for a builder
abbrev pub is_waiting : List ℕ → Entry → Bool
is_waiting arch entry = bytes_eq entry.0.0 arch && is_needs_build entry.1.state

-- the queue of an architecture: its records that wait for a builder, each once, in ascending order of their places
unfoldable pub queue_of : Machine → List ℕ → List Entry
queue_of machine arch = sorted_by entry_cmp (filter (is_waiting arch) (map.entries machine.records))

-- the head of the queue of an architecture (this project's own)
unfoldable pub head_of : Machine → List ℕ → Option Entry
head_of machine arch = first_of (queue_of machine arch)

-- a record of the architecture that waits for a builder is kept at this key
abbrev pub IsWaitingAt : Machine → List ℕ → Entry → Type 0
IsWaitingAt machine arch entry =
    (map.get machine.records entry.0 ≡ Some entry.1) × (entry.0.0 ≡ arch) × (entry.1.state ≡ NeedsBuild)
