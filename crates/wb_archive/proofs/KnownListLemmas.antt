-- Merges of lists whose texts are known: what a merge made of lists is what it makes of these texts.
use Rattle.std.proofs.Common.{◌≡◌, ℕ, List, [], ◌∷◌, Option, None, Some, Result, refl, sym, ap, subst, ◌∙◌, inl, inr}
use Rattle.std.specs.Prelude.{IsOk}
use Rattle.std.specs.FinMap as finite
use Rattle.std.specs.List.{AllByRecursion, AllZip}
use Rattle.deb_control.specs.declared.fault.ControlFault.{ControlFault}
use Rattle.deb_control.specs.Lines.{lines_of, paragraphs_in}
use Rattle.deb_control.specs.Paragraphs.{ReaderState, begun}
use Rattle.deb_relations.specs.declared.arch.ArchWords.{ArchWords}
use Rattle.wb_states.specs.declared.arch.OsCpu.{OsCpu}
use Rattle.wb_states.specs.declared.command.Part.{Part}
use Rattle.wb_states.specs.declared.refusal.ListKind.TheVariants.{Packages, Sources}
use Rattle.wb_states.specs.declared.refusal.Refusal.{Refusal}
use Rattle.wb_states.specs.declared.reply.PartReply.{PartReply}
use Rattle.wb_states.specs.Machine.{Machine, with_words}
use Rattle.wb_merge.specs.Listing.{ArchiveListing}
use Rattle.wb_merge.specs.Merged.{Records}
use Rattle.wb_merge.specs.Scratch.{binary_rows_at, kept_binaries, kept_sources, listing_kept, source_row_at}
use Rattle.wb_merge.proofs.ScratchLemmas.{listing_of-kept}
use Rattle.wb_step.specs.Parts.{end_with, listing_for, records_with}
use Rattle.wb_archive.specs.declared.fault.BadList.{BadList}
use Rattle.wb_archive.specs.declared.merge.PartList.{PartList}
use Rattle.wb_archive.specs.Merges.{ArePartsDone, BeginsAt, BreaksFor, IsGiven, IsGivenBy, IsMergeOfKnown, IsMergeOfLists, IsPartOf, IsPartUnread, IsSourcesRead, IsUnread, MayBeginAt}
use Rattle.wb_archive.specs.Parts.{binaries_at}
use Rattle.wb_archive.specs.Reads.{IsBrokenOff, IsRefused, sources_at}
use Rattle.wb_archive.proofs.MergeLemmas.{binaries-begun, broken-more, sources-begun}

-- ---- lists with the same paragraphs

-- the texts of two lists have the same paragraphs
abbrev AreAlike : List ℕ → List ℕ → Type 0
AreAlike text other = begun (paragraphs_in (lines_of text)) ≡ begun (paragraphs_in (lines_of other))

sources-alike : (text other : List ℕ) → AreAlike text other → kept_sources text ≡ kept_sources other
sources-alike text other alike = sym (sources-begun text) ∙ ap sources_at alike ∙ sources-begun other

binaries-alike : (arch : ArchWords) (text other : List ℕ) → AreAlike text other → kept_binaries arch text ≡ kept_binaries arch other
binaries-alike arch text other alike = sym (binaries-begun arch text) ∙ ap (binaries_at arch) alike ∙ binaries-begun arch other

words-alike : (text other : List ℕ) (part given : Part) (words : Option OsCpu) → AreAlike text other → part.arch ≡ given.arch → AreAlike part.packages given.packages
    → listing_for text part words ≡ listing_for other given words
words-alike text other part given None alike same packages = refl
words-alike text other part given (Some words) alike same packages =
    listing_of-kept text part.packages (with_words part.arch words)
    ∙ (λ i. listing_kept (with_words part.arch words) (sources-alike text other alike i) (binaries-alike (with_words part.arch words) part.packages given.packages packages i))
    ∙ (λ i. listing_kept (with_words (same i) words) (kept_sources other) (kept_binaries (with_words (same i) words) given.packages))
    ∙ sym (listing_of-kept other given.packages (with_words given.arch words))

given-by-alike : (One Other : ControlFault → Type 0) (text other : List ℕ) (part given : Part) (words : Option OsCpu) (bad : Option BadList) (listing : Result ArchiveListing Refusal)
    → AreAlike text other → part.arch ≡ given.arch → AreAlike part.packages given.packages → ((fault : ControlFault) → One fault → Other fault)
    → IsGivenBy One text part words bad listing → IsGivenBy Other other given words bad listing
given-by-alike One Other text other part given None bad listing alike same packages more e = e
given-by-alike One Other text other part given (Some words) (Some bad) listing alike same packages more e = e
given-by-alike One Other text other part given (Some words) None listing alike same packages more (inl is) =
    inl (is ∙ words-alike text other part given (Some words) alike same packages)
given-by-alike One Other text other part given (Some words) None listing alike same packages more (inr (bad, (broken, is))) = inr (
  bad,
  (
    subst (λ (place : ReaderState). IsBrokenOff Other Packages (binary_rows_at (with_words given.arch words)) place bad)
        packages
        (subst (λ (arch : List ℕ). IsBrokenOff Other Packages (binary_rows_at (with_words arch words))
        (begun (paragraphs_in (lines_of part.packages))) bad) same
        (broken-more One Other Packages (binary_rows_at (with_words part.arch words))
        (begun (paragraphs_in (lines_of part.packages))) bad more broken)),
    is,
  ),
)

-- what a part was given, by lists with the same paragraphs
pub given-alike : (One Other : ControlFault → Type 0) (machine : Machine) (text other : List ℕ) (part given : Part) (bad : Option BadList) (listing : Result ArchiveListing Refusal)
    → AreAlike text other → part.arch ≡ given.arch → AreAlike part.packages given.packages → ((fault : ControlFault) → One fault → Other fault)
    → IsGivenBy One text part (finite.get machine.archs part.arch) bad listing → IsGivenBy Other other given (finite.get machine.archs given.arch) bad listing
given-alike One Other machine text other part given bad listing alike same packages more gives =
    subst (λ (arch : List ℕ). IsGivenBy Other other given (finite.get machine.archs arch) bad listing) same
    (given-by-alike One Other text other part given (finite.get machine.archs part.arch) bad listing alike same packages more gives)

-- whether Sources was read, by a list with the same paragraphs
pub read-alike : (Breaks : ControlFault → Type 0) (text other : List ℕ) (bad : Option BadList) → AreAlike text other → IsSourcesRead Breaks text bad → IsSourcesRead Breaks other bad
read-alike Breaks text other None alike read = subst IsOk (sources-alike text other alike) read
read-alike Breaks text other (Some bad) alike read = subst (λ (place : ReaderState). IsRefused Breaks Sources source_row_at place bad) alike read

-- ---- readers that begin at a text and may begin at no other

-- a reader that begins at a text was not read
pub begins-unread : {R : Type 0} (MayStand : R → ReaderState → Type 0) (reader : R) (text : List ℕ) → BeginsAt MayStand reader text → IsUnread MayStand reader
begins-unread MayStand reader text begins = λ place here. (text, begins place here)

-- the lists of parts that begin at their texts were not read
pub parts-unread : {R : Type 0} (MayStand : R → ReaderState → Type 0) (machine : Machine) (parts : List (PartList R)) (given : List Part)
    → AllZip (IsPartOf (BeginsAt MayStand) machine) parts given → AllByRecursion (IsPartUnread MayStand machine) parts
parts-unread MayStand machine [] given zip = tt
parts-unread MayStand machine (part ∷ parts) [] zip = absurd zip
parts-unread MayStand machine (part ∷ parts) (of ∷ given) zip = (
  record { words = zip.0.words ∙ ap (finite.get machine.archs) (sym zip.0.arch); unread = begins-unread MayStand part.packages of.packages zip.0.begins },
  parts-unread MayStand machine parts given zip.1,
)

module _ {R : Type 0} (MayStand : R → ReaderState → Type 0) (Breaks : R → ControlFault → Type 0) (machine : Machine) (text known : List ℕ) (alike : AreAlike text known)
    (bad : Option BadList) (all : List (PartList R)) where
  -- the reader of a list broke, whichever of two parts of the architecture it is said of
  breaks-same : (of given : Part) → of.arch ≡ given.arch → (fault : ControlFault) → BreaksFor Breaks all of fault → BreaksFor Breaks all given fault
  breaks-same of given same fault broke = (broke.0, broke.1, broke.2 ∙ same, broke.3)

  -- what became of the parts, by the texts at which their readers begin
  parts-known : (parts : List (PartList R)) (found given : List Part) (records last : Records) (replies : List PartReply)
      → AllZip (IsPartOf (MayBeginAt MayStand) machine) parts found → AllZip (IsPartOf (BeginsAt MayStand) machine) parts given
      → ArePartsDone (IsGiven (BreaksFor Breaks all) machine text bad) found records replies last
      → ArePartsDone (IsGiven (BreaksFor Breaks all) machine known bad) given records replies last
  parts-known [] [] [] records last [] may begins done = done
  parts-known [] [] [] records last (reply ∷ replies) may begins done = absurd done
  parts-known [] (of ∷ found) given records last replies may begins done = absurd may
  parts-known [] [] (of ∷ given) records last replies may begins done = absurd begins
  parts-known (part ∷ parts) [] given records last replies may begins done = absurd may
  parts-known (part ∷ parts) (of ∷ found) [] records last replies may begins done = absurd begins
  parts-known (part ∷ parts) (of ∷ found) (is ∷ given) records last [] may begins done = absurd done
  parts-known (part ∷ parts) (of ∷ found) (is ∷ given) records last (reply ∷ replies) may begins done =
      let same : of.arch ≡ is.arch = sym may.0.arch ∙ begins.0.arch in
      let packages = begins.0.begins (begun (paragraphs_in (lines_of of.packages))) may.0.begins in (
        done.0,
        (
          given-alike (BreaksFor Breaks all of) (BreaksFor Breaks all is) machine text known of is bad done.0 alike same packages (breaks-same of is same) done.1.0,
          (
            done.1.1.0 ∙ (λ i. record { arch = same i; end = end_with records (same i) done.0 }),
            parts-known parts found given (records_with records is.arch done.0) last replies may.1 begins.1
                (subst (λ arch. ArePartsDone (IsGiven (BreaksFor Breaks all) machine text bad) found (records_with records arch done.0) replies last) same done.1.1.1),
          ),
        ),
      )

-- a merge of lists of which each begins at a text is the merge of these texts
pub merge-known : {R : Type 0} (MayStand : R → ReaderState → Type 0) (Breaks : R → ControlFault → Type 0) (machine : Machine) (Holds : Records → Type 0) (sources : R)
    (parts : List (PartList R)) (records : Records) (replies : List PartReply) (text : List ℕ) (given : List Part)
    → BeginsAt MayStand sources text → AllZip (IsPartOf (BeginsAt MayStand) machine) parts given
    → IsMergeOfLists MayStand Breaks machine Holds sources parts records replies
    → IsMergeOfKnown (Breaks sources) (BreaksFor Breaks parts) machine Holds text given records replies
merge-known MayStand Breaks machine Holds sources parts records replies text given begins zip lists =
    let done = lists.merged.done in
    let alike = begins (begun (paragraphs_in (lines_of lists.text))) lists.begins in
    record {
      bad = lists.bad;
      read = read-alike (Breaks sources) lists.text text lists.bad alike lists.read;
      done = record {
        last = done.last;
        done = parts-known MayStand Breaks machine lists.text text alike lists.bad parts parts lists.merged.given given records done.last replies lists.merged.are zip done.done;
        holds = done.holds;
      };
    }
