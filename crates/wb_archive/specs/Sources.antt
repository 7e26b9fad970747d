-- What the tables have of a Sources list while the parts of a merge are read.
use Rattle.std.specs.Prelude.{◌≡◌, ⊤, ℕ, List, Option, None, Some}
use Rattle.std.specs.List.{AllByRecursion}
use Rattle.deb_relations.specs.declared.arch.ArchWords.{ArchWords}
use Rattle.deb_text.specs.Lists.{IsIn}
use Rattle.wb_states.specs.declared.arch.OsCpu.{OsCpu}
use Rattle.wb_states.specs.declared.scratch.SourceRow.{SourceRow}
use Rattle.wb_states.specs.Machine.{with_words}
use Rattle.wb_merge.specs.Scratch.{kept_sources}
use Rattle.wb_archive.specs.declared.fault.BadList.{BadList}
use Rattle.wb_archive.specs.declared.merge.PartList.{PartList}
use Rattle.wb_archive.specs.Fills.{WithRows, sources_wanted}

-- if a Sources list is not refused, it was read into the table, of its rows those that can matter to these architectures
abbrev pub HasSources : List ℕ → List ArchWords → List SourceRow → Option BadList → Type 0
HasSources text archs table None = WithRows (kept_sources text) (λ rows. table ≡ sources_wanted archs rows)
HasSources text archs table (Some bad) = ⊤

-- the architecture of a part, if it was added, is among these
abbrev pub AreKnown : List ArchWords → List ℕ → Option OsCpu → Type 0
AreKnown archs name words = (is : OsCpu) → words ≡ Some is → IsIn (with_words name is) archs

-- the architectures of all these parts, of those that were added, are among these
abbrev pub AreAllKnown : {R : Type 0} → List ArchWords → List (PartList R) → Type 0
AreAllKnown archs parts = AllByRecursion (λ part. AreKnown archs part.arch part.words) parts
