-- What a part of a merge makes of the tables.
use Rattle.std.proofs.Common.{◌≡◌, ℕ, Bool, List, Result, Ok, Err, refl, sym, ap, subst, ◌∙◌, inl, inr}
use Rattle.std.specs.Result.{result_map_both}
use Rattle.deb_control.specs.declared.fault.ControlFault.{ControlFault}
use Rattle.deb_control.specs.Paragraphs.{ReaderState}
use Rattle.deb_relations.specs.declared.arch.ArchWords.{ArchWords}
use Rattle.deb_text.specs.Lists.{IsIn}
use Rattle.wb_states.specs.declared.refusal.ListKind.TheVariants.{Packages}
use Rattle.wb_states.specs.declared.refusal.Refusal.{Refusal}
use Rattle.wb_states.specs.declared.reply.PartEnd.{PartEnd}
use Rattle.wb_states.specs.declared.reply.PartEnd.TheVariants.{Merged, Refused}
use Rattle.wb_states.specs.declared.scratch.SourceRow.{SourceRow}
use Rattle.wb_states.specs.declared.scratch.BinaryRow.{BinaryRow}
use Rattle.wb_merge.specs.Merged.{Records, merge_counts, merged}
use Rattle.wb_merge.specs.Scratch.{binary_rows_at, joined_rows, listing_kept, listing_of_kept}
use Rattle.wb_archive.specs.declared.fault.BadList.{BadList}
use Rattle.wb_archive.specs.Faults.{refusal_of}
use Rattle.wb_archive.specs.Fills.{WithRows, binaries_wanted, sources_wanted}
use Rattle.wb_archive.specs.Parts.{IsListing, IsPartDone}
use Rattle.wb_archive.specs.Reads.{IsRefused, packages_at}
use Rattle.wb_archive.specs.Waited.{AreAllWaitedFor}
use Rattle.wb_archive.proofs.FilterLemmas.{counts-same, cut-alike, merged-same}

-- a part whose list is refused
pub part-refused : (Breaks : ControlFault → Type 0) (Holds : Records → Type 0) (arch : ArchWords) (records : Records) (rows : List SourceRow)
    (place : ReaderState) (bad : BadList) (end : PartEnd) → IsRefused Breaks Packages (binary_rows_at arch) place bad
    → end ≡ Refused (refusal_of bad) → Holds records
    → IsPartDone (IsListing Breaks arch rows place) Holds records arch.name end
part-refused Breaks Holds arch records rows place bad end refused is holds = record {
  listing = Err (refusal_of bad);
  gives = at refused;
  is = is;
  holds = holds;
} where
  at : IsRefused Breaks Packages (binary_rows_at arch) place bad
      → IsListing Breaks arch rows place (Err (refusal_of bad))
  at (inl broken) = inr (bad, (broken, refl))
  at (inr e) = inl (sym (ap (λ (read : Result (List (List BinaryRow)) Refusal).
      listing_kept arch (Ok rows) (result_map_both joined_rows (λ refusal. refusal) read)) e))

-- what is so of rows is so of the list that has them
with-read : {X : Type 0} (kept : Result X Refusal) (P : X → Type 0) → WithRows kept P → (rows : X) × ((kept ≡ Ok rows) × P rows)
with-read (Ok rows) P h = (rows, (refl, h))
with-read (Err refusal) P h = absurd h

-- a part whose list was read into its table
pub part-kept : (Breaks : ControlFault → Type 0) (Holds : Records → Type 0) (Stood : List BinaryRow → Type 0) (arch : ArchWords) (archs : List ArchWords)
    (waited : List ℕ → Bool) (records : Records) (rows : List SourceRow) (place : ReaderState) (end : PartEnd)
    → IsIn arch archs → AreAllWaitedFor records arch.name waited
    → WithRows (packages_at arch place) (λ read. Stood (binaries_wanted waited read))
    → ((binaries : List BinaryRow) → Stood binaries → (end ≡ Merged (merge_counts records arch.name (listing_of_kept arch (sources_wanted archs rows) binaries)))
    × Holds (merged records arch.name (listing_of_kept arch (sources_wanted archs rows) binaries)))
    → IsPartDone (IsListing Breaks arch rows place) Holds records arch.name end
part-kept Breaks Holds Stood arch archs waited records rows place end there all stood step =
    let read = with-read (packages_at arch place) (λ read. Stood (binaries_wanted waited read)) stood in
    let done = step (binaries_wanted waited read.0) read.1.1 in
    let alike = cut-alike arch archs there waited rows read.0 records all in
    let one = listing_of_kept arch (sources_wanted archs rows) (binaries_wanted waited read.0) in
    let other = listing_of_kept arch rows (joined_rows read.0) in
    record {
      listing = Ok other;
      gives = inl (sym (ap (λ (list : Result (List (List BinaryRow)) Refusal).
          listing_kept arch (Ok rows) (result_map_both joined_rows (λ refusal. refusal) list)) read.1.0));
      is = done.0 ∙ ap (λ counts. Merged counts) (counts-same records arch.name one other alike);
      holds = subst Holds (merged-same records arch.name one other alike) done.1;
    }
