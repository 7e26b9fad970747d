-- The parts of a merge, in their order.
use Rattle.std.specs.Prelude.{ℕ, Bool, true, false, List, [], ◌∷◌, Option, Some, None, Result, Ok, Err, is_ok, if◌then◌else◌}
use Rattle.std.specs.Result.{result_err}
use Rattle.std.specs.List.{fold, list_any, scan}
use Rattle.std.specs.FinMap as map
use Rattle.wb_states.specs.declared.arch.OsCpu.{OsCpu}
use Rattle.wb_states.specs.declared.command.Part.{Part}
use Rattle.wb_states.specs.declared.refusal.Refusal.{Refusal}
use Rattle.wb_states.specs.declared.refusal.Refusal.TheVariants.{UnknownArch}
use Rattle.wb_states.specs.declared.reply.PartEnd.{PartEnd}
use Rattle.wb_states.specs.declared.reply.PartEnd.TheVariants.{Merged, Refused}
use Rattle.wb_states.specs.declared.reply.PartReply.{PartReply}
use Rattle.wb_states.specs.Machine.{Machine, with_words}
use Rattle.wb_merge.specs.Listing.{ArchiveListing, listing_of}
use Rattle.wb_merge.specs.Merged.{Records, merged, merge_counts}

-- the listing of a part whose architecture has these words, if it was added
abbrev pub listing_for : List ℕ → Part → Option OsCpu → Result ArchiveListing Refusal
listing_for sources part None = Err UnknownArch
listing_for sources part (Some words) = listing_of sources part.packages (with_words part.arch words)

-- the listing of a part, or why the part is refused
unfoldable pub part_listing : Machine → List ℕ → Part → Result ArchiveListing Refusal
part_listing machine sources part = listing_for sources part (map.get machine.archs part.arch)

-- whether the architecture of a part was added
abbrev pub is_known : Machine → Part → Bool
is_known machine part = map.contains_key machine.archs part.arch

-- whether a part can be merged
abbrev pub is_good : Machine → List ℕ → Part → Bool
is_good machine sources part = is_ok (part_listing machine sources part)

-- why a merge is refused: no part can be merged, and this is why the first cannot; a merge without parts has no
-- architecture
abbrev pub parts_refusal : Machine → List ℕ → List Part → Option Refusal
parts_refusal machine sources [] = Some UnknownArch
parts_refusal machine sources (part ∷ parts) =
    if list_any (is_good machine sources) (part ∷ parts) then None else result_err (part_listing machine sources part)

-- whether a part was merged
abbrev pub is_merged : PartEnd → Bool
is_merged (Merged counts) = true
is_merged (Refused refusal) = false

-- the records after a part: a refused one changes nothing
abbrev pub records_with : Records → List ℕ → Result ArchiveListing Refusal → Records
records_with records arch (Err refusal) = records
records_with records arch (Ok listing) = merged records arch listing

-- the end of a part
abbrev pub end_with : Records → List ℕ → Result ArchiveListing Refusal → PartEnd
end_with records arch (Err refusal) = Refused refusal
end_with records arch (Ok listing) = Merged (merge_counts records arch listing)

-- the records after the parts, from these on
abbrev pub records_after : Machine → List ℕ → List Part → Records → Records
records_after machine sources parts records =
    fold (λ records part. records_with records part.arch (part_listing machine sources part)) records parts

-- the ends of the parts, from these records on
abbrev pub part_replies : Machine → List ℕ → List Part → Records → List PartReply
part_replies machine sources parts records =
    scan (λ records part. records_with records part.arch (part_listing machine sources part))
    (λ records part. record { arch = part.arch; end = end_with records part.arch (part_listing machine sources part) })
    records parts
