-- The state of the office, and its invariant.
use Rattle.std.specs.Prelude.{◌≡◌, ℕ, ◌≤◌, ◌⊎◌, Bool, IsTrue, not, List, [], filter, map as each, IfSome, Some}
use Rattle.std.specs.Prelude.{unwrap_or, Ok}
use Rattle.std.specs.FinMap as map
use Rattle.std.specs.FinSet as set
use Rattle.wb_states.specs.declared.record.Record.{Record}
use Rattle.wb_states.specs.declared.arch.OsCpu.{OsCpu}
use Rattle.deb_relations.specs.declared.arch.ArchWords.{ArchWords}
use Rattle.deb_relations.specs.declared.relations.Alternative.{Alternative}
use Rattle.deb_relations.specs.Grammar.{Reads}
use Rattle.deb_relations.specs.Names.{is_package_name}
use Rattle.deb_relations.specs.Printing.{printed}
use Rattle.deb_relations.specs.Reading.{reading_of}
use Rattle.deb_relations.specs.Reduction.{reduced}
use Rattle.deb_text.specs.Lists.{is_nonempty}
use Rattle.deb_text.specs.Text.{text_cmp, pair_cmp}
use Rattle.wb_states.specs.Names.{is_arch_name, is_os_cpu_word, is_builder_name}
use Rattle.wb_states.specs.Limits.{count_limit}
use Rattle.wb_states.specs.Record.{IsWellFormed}

-- the key of a record: its architecture and its source package
abbrev pub Key : Type 0
Key = List ℕ × List ℕ

-- Finite maps and sets, and not lists of rows, whose order and repetitions every statement would have to exclude. The
-- rows of tables are the entries of these maps, and so is the part of the state that a command is carried out on in
-- memory.

-- the state of the office: records by architecture and source package, the words of architectures, who builds for
-- which, and two counts
pub record Machine : Type 0 where
  pub records : map.FinMap pair_cmp Record
  pub archs : map.FinMap text_cmp OsCpu
  pub builders : set.FinSet pair_cmp
  pub handed : ℕ
  pub accepted : ℕ

-- the office with nothing in it
unfoldable pub empty_office : Machine
empty_office = record {
  records = map.empty;
  archs = map.empty;
  builders = set.empty;
  handed = 0;
  accepted = 0;
}

-- Of the list of a finite set the standard library says which members it has, and not that each comes once; of the keys
-- of a finite map it says both.

-- the pairs of a builder and an architecture for which it was added, each once, by builder and then by architecture
abbrev pub builder_pairs : Machine → List Key
builder_pairs machine =
    map.keys (map.from_entries {R = pair_cmp} (each (λ pair. (pair, tt {0})) (set.items machine.builders)))

-- A filter over the names of the architectures: so the answer is in their order, and has only architectures that were
-- added. A second map, from builder to architectures, would have to be kept in step with the set.

-- the architectures for which a builder was added, by name
abbrev pub archs_of : Machine → List ℕ → List (List ℕ)
archs_of machine builder = filter (λ arch. set.contains machine.builders (builder, arch)) (map.keys machine.archs)

-- the architecture was never added
abbrev pub is_unknown_arch : Machine → List ℕ → Bool
is_unknown_arch machine arch = not (map.contains_key machine.archs arch)

-- the builder was added for no architecture
abbrev pub is_unknown_builder : Machine → List ℕ → Bool
is_unknown_builder machine builder = not (is_nonempty (archs_of machine builder))

-- no words, for an architecture that was never added
abbrev no_words : OsCpu
no_words = record { os = []; cpu = [] }

-- an architecture with the words by which relations and lists name it (Debian Policy 11.1.1)
abbrev pub with_words : List ℕ → OsCpu → ArchWords
with_words arch words = record { name = arch; os = words.os; cpu = words.cpu }

-- an architecture with its words
unfoldable pub arch_words : Machine → List ℕ → ArchWords
arch_words machine arch = with_words arch (unwrap_or (map.get machine.archs arch) no_words)

-- no waits, or relations that were read, reduced for the architecture, and printed
abbrev pub AreWaits : ArchWords → List ℕ → Type 0
AreWaits arch waits =
    (waits ≡ [])
    ⊎ ((text : List ℕ) × ((relations : List (List Alternative)) × (Reads text relations × (waits ≡ printed (reduced arch relations)))))

-- waits that can be read: as relations that are reduced for the architecture already, and that print as the waits
pub record AreRelations (arch : ArchWords) (waits : List ℕ) : Type 0 where
  pub relations : List (List Alternative)
  pub read : reading_of waits ≡ Ok relations
  pub bare : reduced arch relations ≡ relations
  pub kept : printed relations ≡ waits

-- an architecture and its words have their forms
pub record IsArch (arch : List ℕ) (words : OsCpu) : Type 0 where
  pub name : IsTrue (is_arch_name arch)
  pub os : IsTrue (is_os_cpu_word words.os)
  pub cpu : IsTrue (is_os_cpu_word words.cpu)

-- a builder has its form, and builds for an architecture that is there
pub record IsBuilder (machine : Machine) (builder arch : List ℕ) : Type 0 where
  pub name : IsTrue (is_builder_name builder)
  pub known : IsTrue (map.contains_key machine.archs arch)

-- a record has its form, its architecture is there, its holder may build for it, its waits are reduced for it, and its
-- take number was given
pub record IsRecord (machine : Machine) (arch source : List ℕ) (current : Record) : Type 0 where
  pub name : IsTrue (is_package_name source)
  pub known : IsTrue (map.contains_key machine.archs arch)
  pub fields : IsWellFormed current
  pub holder : IfSome current.holder (λ builder. IsTrue (set.contains machine.builders (builder, arch)))
  pub waits : AreWaits (arch_words machine arch) current.waits
  pub given : IfSome current.take (λ take_number. (1 ≤ take_number) × (take_number ≤ machine.handed))

-- two records with one take number are one record
abbrev pub HasDistinctTakes : Machine → Type 0
HasDistinctTakes machine =
    (one other : Key) (first second : Record) (take_number : ℕ)
    → map.get machine.records one ≡ Some first → map.get machine.records other ≡ Some second
    → first.take ≡ Some take_number → second.take ≡ Some take_number → one ≡ other

-- the invariant of the office: what is kept has its form, a record has at most one holder, which may build for it, no
-- take number is held twice
pub record IsConsistent (machine : Machine) : Type 0 where
  pub archs : (name : List ℕ) → IfSome (map.get machine.archs name) (IsArch name)
  pub builders : (builder arch : List ℕ) → IsTrue (set.contains machine.builders (builder, arch)) → IsBuilder machine builder arch
  pub records : (arch source : List ℕ) → IfSome (map.get machine.records (arch, source)) (IsRecord machine arch source)
  pub takes : HasDistinctTakes machine
  pub handed : machine.handed ≤ count_limit
  pub accepted : machine.accepted ≤ count_limit
