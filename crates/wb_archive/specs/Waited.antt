-- The names for which records wait, and that no other package can matter to them.
use Rattle.std.specs.Prelude.{◌≡◌, ℕ, Bool, true, List, Some, Ok}
use Rattle.std.specs.FinMap as finite
use Rattle.deb_relations.specs.declared.relations.Alternative.{Alternative}
use Rattle.deb_relations.specs.Reading.{reading_of}
use Rattle.deb_relations.specs.Satisfaction.{is_among, names_of}
use Rattle.wb_states.specs.declared.record.Record.{Record}
use Rattle.wb_states.specs.State.{is_dep_wait}
use Rattle.wb_merge.specs.Merged.{Records}

-- each name for which a record waits passes the test
abbrev pub AreWaitedFor : (List ℕ → Bool) → List ℕ → Type 0
AreWaitedFor waited waits =
    (groups : List (List Alternative)) (name : List ℕ) → reading_of waits ≡ Ok groups → is_among name (names_of groups) ≡ true → waited name ≡ true

-- each name for which a record of the architecture in Dep-Wait waits passes the test
abbrev pub AreAllWaitedFor : Records → List ℕ → (List ℕ → Bool) → Type 0
AreAllWaitedFor records arch waited =
    (name : List ℕ) (current : Record) → finite.get records (arch, name) ≡ Some current → is_dep_wait current.state ≡ true → AreWaitedFor waited current.waits
