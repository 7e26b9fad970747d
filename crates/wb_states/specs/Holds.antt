-- Which records builders hold, and under which take numbers.
use Rattle.std.specs.Prelude.{◌≡◌, ◌<◌, ℕ, Bool, ◌&&◌, List, filter, nat_eq, nat_lt, bytes_eq, Option, Some, find, unwrap_or}
use Rattle.std.specs.Option.{option_and_then}
use Rattle.std.specs.declared.cmp.Ordering.{Ordering}
use Rattle.std.specs.Ordering.{nat_cmp, on}
use Rattle.std.specs.FinMap as finite
use Rattle.wb_states.specs.declared.state.State.TheVariants.{Building}
use Rattle.wb_states.specs.State.{code_of}
use Rattle.wb_states.specs.Machine.{Machine}
use Rattle.wb_states.specs.Queue.{Entry}
use Rattle.deb_text.specs.Lists.{first_of, sorted_by}
use Rattle.deb_text.specs.Options.{has_value}

-- a record that is held under the take number
abbrev pub is_taken_as : ℕ → Entry → Bool
is_taken_as take_number entry = has_value (nat_eq take_number) entry.1.take

-- the first record, by architecture and source package, that is held under the take number (this project's own)
unfoldable pub taken_as : Machine → ℕ → Option Entry
taken_as machine take_number = first_of (filter (is_taken_as take_number) (finite.entries machine.records))

-- the holder of the record that is held under the take number, or none if nobody holds it
unfoldable pub holder_of : Machine → ℕ → Option (List ℕ)
holder_of machine take_number = option_and_then (λ (entry : Entry). entry.1.holder) (taken_as machine take_number)

-- a record that the builder holds
abbrev pub is_held_by : List ℕ → Entry → Bool
is_held_by builder entry = has_value (bytes_eq builder) entry.1.holder

-- the take number of a record, or 0 if it has none
abbrev pub take_of : Entry → ℕ
take_of entry = unwrap_or entry.1.take 0

-- the order of two records by their take numbers
abbrev pub take_cmp : Entry → Entry → Ordering
take_cmp = on take_of nat_cmp

-- the records that the builder holds, by take number
unfoldable pub held_of : Machine → List ℕ → List Entry
held_of machine builder = sorted_by take_cmp (filter (is_held_by builder) (finite.entries machine.records))

-- a record that is being built on the architecture under a take number after this one
abbrev pub is_building_after : List ℕ → ℕ → Entry → Bool
is_building_after arch after entry =
    bytes_eq entry.0.0 arch && (nat_eq (code_of entry.1.state) (code_of Building) && nat_lt after (take_of entry))

-- what the builder builds on the architecture under the least take number after this one
unfoldable pub building_after : Machine → List ℕ → List ℕ → ℕ → Option Entry
building_after machine arch builder after = find (is_building_after arch after) (held_of machine builder)

-- a record is kept at its key, and the builder builds it on the architecture under a take number after this one
pub record IsBuildingAfter (machine : Machine) (arch builder : List ℕ) (after : ℕ) (entry : Entry) : Type 0 where
  pub kept : finite.get machine.records entry.0 ≡ Some entry.1
  pub on_arch : entry.0.0 ≡ arch
  pub holder : entry.1.holder ≡ Some builder
  pub state : entry.1.state ≡ Building
  pub later : after < take_of entry
