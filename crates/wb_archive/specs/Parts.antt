-- The parts of a merge, each from its own list, one after another.
use Rattle.std.specs.Prelude.{◌≡◌, ◌⊎◌, ⊤, ℕ, List, Result, Ok, Err}
use Rattle.std.specs.Result.{result_map_both}
use Rattle.deb_control.specs.declared.fault.ControlFault.{ControlFault}
use Rattle.deb_control.specs.Paragraphs.{ReaderState}
use Rattle.deb_relations.specs.declared.arch.ArchWords.{ArchWords}
use Rattle.wb_states.specs.declared.refusal.ListKind.TheVariants.{Packages}
use Rattle.wb_states.specs.declared.refusal.Refusal.{Refusal}
use Rattle.wb_states.specs.declared.refusal.Refusal.TheVariants.{BadListing, UnknownArch}
use Rattle.wb_states.specs.declared.reply.PartEnd.{PartEnd}
use Rattle.wb_states.specs.declared.reply.PartEnd.TheVariants.{Merged, Refused}
use Rattle.wb_states.specs.declared.scratch.BinaryRow.{BinaryRow}
use Rattle.wb_states.specs.declared.scratch.SourceRow.{SourceRow}
use Rattle.wb_merge.specs.Listing.{ArchiveListing}
use Rattle.wb_merge.specs.Merged.{Records}
use Rattle.wb_merge.specs.Scratch.{binary_rows_at, joined_rows, listing_kept}
use Rattle.wb_step.specs.Parts.{end_with, records_with}
use Rattle.wb_archive.specs.declared.fault.BadList.{BadList}
use Rattle.wb_archive.specs.Faults.{refusal_of}
use Rattle.wb_archive.specs.Reads.{IsBrokenOff, packages_at}

-- what is kept of a Packages list of which a reader has the paragraphs ahead
abbrev pub binaries_at : ArchWords → ReaderState → Result (List BinaryRow) Refusal
binaries_at arch place = result_map_both joined_rows (λ refusal. refusal) (packages_at arch place)

-- what a part lists, from these rows of Sources and the paragraphs that the reader of its Packages has ahead, or why it is refused
abbrev pub listing_from : ArchWords → List SourceRow → ReaderState → Result ArchiveListing Refusal
listing_from arch sources place = listing_kept arch (Ok sources) (binaries_at arch place)

-- a part's Packages gave this listing, with these rows of Sources: the one that they have, or a refusal since its reader broke
abbrev pub IsListing : (ControlFault → Type 0) → ArchWords → List SourceRow → ReaderState → Result ArchiveListing Refusal → Type 0
IsListing Breaks arch sources place given =
    (given ≡ listing_from arch sources place)
    ⊎ ((bad : BadList) × (IsBrokenOff Breaks Packages (binary_rows_at arch) place bad × (given ≡ Err (refusal_of bad))))

-- a part was merged or refused by the listing that its list gave, and the tables have the records after it
pub record IsPartDone (Gives : Result ArchiveListing Refusal → Type 0) (Holds : Records → Type 0) (records : Records) (arch : List ℕ) (end : PartEnd) : Type 0 where
  pub listing : Result ArchiveListing Refusal
  pub gives : Gives listing
  pub is : end ≡ end_with records arch listing
  pub holds : Holds (records_with records arch listing)

-- the refusal is one of a part: its architecture was never added, or a list is refused
abbrev pub IsPartRefusal : Refusal → Type 0
IsPartRefusal UnknownArch = ⊤
IsPartRefusal (BadListing which paragraph fault) = ⊤
IsPartRefusal refusal = ⊥

-- a part ends so: it is merged, or refused with a refusal of a part
abbrev pub IsPartEnd : PartEnd → Type 0
IsPartEnd (Merged counts) = ⊤
IsPartEnd (Refused refusal) = IsPartRefusal refusal
