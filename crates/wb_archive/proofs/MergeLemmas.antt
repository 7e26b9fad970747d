-- The parts of a merge, one after another.
use Rattle.std.proofs.Common.{◌≡◌, ℕ, List, [], ◌∷◌, ◌++◌, Option, None, Some, Result, Ok, Err, refl, sym, ap, ap₂, subst, ◌∙◌, inl, inr, append_assoc, append-nil}
use Rattle.std.specs.Prelude.{IsOk}
use Rattle.std.specs.FinMap as finite
use Rattle.std.specs.List.{AllByRecursion, AllZip}
use Rattle.deb_control.specs.declared.fault.ControlFault.{ControlFault}
use Rattle.deb_control.specs.Fields.{FieldText}
use Rattle.deb_control.specs.Lines.{lines_of, paragraphs_in}
use Rattle.deb_control.specs.Paragraphs.{ReaderState, begun}
use Rattle.deb_relations.specs.declared.arch.ArchWords.{ArchWords}
use Rattle.deb_text.specs.Lists.{IsIn}
use Rattle.wb_states.specs.declared.arch.OsCpu.{OsCpu}
use Rattle.wb_states.specs.declared.command.Part.{Part}
use Rattle.wb_states.specs.declared.refusal.ListKind.{ListKind}
use Rattle.wb_states.specs.declared.refusal.ListKind.TheVariants.{Packages, Sources}
use Rattle.wb_states.specs.declared.refusal.Refusal.{Refusal}
use Rattle.wb_states.specs.declared.refusal.Refusal.TheVariants.{UnknownArch}
use Rattle.wb_states.specs.declared.reply.PartEnd.{PartEnd}
use Rattle.wb_states.specs.declared.reply.PartReply.{PartReply}
use Rattle.wb_states.specs.declared.reply.PartEnd.TheVariants.{Refused}
use Rattle.wb_states.specs.declared.scratch.SourceRow.{SourceRow}
use Rattle.wb_states.specs.Machine.{Machine, with_words}
use Rattle.wb_merge.specs.Listing.{ArchiveListing}
use Rattle.wb_merge.specs.Merged.{Records}
use Rattle.wb_merge.specs.Scratch.{binary_rows_at, kept_binaries, kept_sources, listing_kept, source_row_at}
use Rattle.wb_merge.proofs.ScratchLemmas.{listing_of-kept}
use Rattle.wb_step.specs.Parts.{end_with, listing_for, part_listing, part_replies, records_after, records_with}
use Rattle.wb_archive.specs.declared.fault.BadList.{BadList}
use Rattle.wb_archive.specs.declared.merge.PartList.{PartList}
use Rattle.wb_archive.specs.Faults.{refusal_of}
use Rattle.wb_archive.specs.Merges.{ArePartsDone, BreaksFor, IsGiven, IsGivenBy, IsMergeOfParts, IsPartMerged, IsPartOf}
use Rattle.wb_archive.specs.Merges.{IsPartUnread, IsSourcesRead, IsUnread, MayBeginAt, arch_of, archs_of_parts}
use Rattle.wb_archive.specs.Parts.{IsListing, IsPartDone, binaries_at, listing_from}
use Rattle.wb_archive.specs.Fills.{IsFilled, WithRows, sources_wanted}
use Rattle.wb_archive.specs.Reads.{IsBrokenOff, IsRefused, sources_at}
use Rattle.wb_archive.specs.Sources.{AreAllKnown, AreKnown, HasSources}

-- a part of an architecture that was never added
pub part-unknown : (Breaks : Part → ControlFault → Type 0) (Holds : Records → Type 0) (machine : Machine) (text : List ℕ) (bad : Option BadList) (of : Part) (records : Records)
    → finite.get machine.archs of.arch ≡ None → Holds records
    → IsPartDone (IsGiven Breaks machine text bad of) Holds records of.arch (Refused UnknownArch)
part-unknown Breaks Holds machine text bad of records none holds = record {
  listing = Err UnknownArch;
  gives = subst (λ words. IsGivenBy (Breaks of) text of words bad (Err UnknownArch)) (sym none) refl;
  is = refl;
  holds = holds;
}

-- a part of a merge whose Sources list is refused
pub part-without-sources : (Breaks : Part → ControlFault → Type 0) (Holds : Records → Type 0) (machine : Machine) (text : List ℕ) (of : Part) (words : OsCpu) (records : Records)
    (why : Option BadList) (bad : BadList) (end : PartEnd) → why ≡ Some bad → finite.get machine.archs of.arch ≡ Some words → end ≡ Refused (refusal_of bad) → Holds records
    → IsPartDone (IsGiven Breaks machine text why of) Holds records of.arch end
part-without-sources Breaks Holds machine text of words records why bad end refused some is holds = record {
  listing = Err (refusal_of bad);
  gives = subst (λ (w : Option BadList). IsGivenBy (Breaks of) text of (finite.get machine.archs of.arch) w (Err (refusal_of bad))) (sym refused)
      (subst (λ words. IsGivenBy (Breaks of) text of words (Some bad) (Err (refusal_of bad))) (sym some) refl);
  is = is;
  holds = holds;
}

pub sources-begun : (text : List ℕ) → sources_at (begun (paragraphs_in (lines_of text))) ≡ kept_sources text
unfolding kept_sources
sources-begun text = refl

pub binaries-begun : (arch : ArchWords) (packages : List ℕ) → binaries_at arch (begun (paragraphs_in (lines_of packages))) ≡ kept_binaries arch packages
unfolding kept_binaries
binaries-begun arch packages = refl

-- a part of a merge whose lists were read
pub part-with-sources : (Breaks : Part → ControlFault → Type 0) (Holds : Records → Type 0) (machine : Machine) (text : List ℕ)
    (of : Part) (words : OsCpu) (records : Records) (why : Option BadList) (rows : List SourceRow) (end : PartEnd)
    → why ≡ None → finite.get machine.archs of.arch ≡ Some words → kept_sources text ≡ Ok rows
    → IsPartDone (IsListing (Breaks of) (with_words of.arch words) rows (begun (paragraphs_in (lines_of of.packages)))) Holds records of.arch end
    → IsPartDone (IsGiven Breaks machine text why of) Holds records of.arch end
part-with-sources Breaks Holds machine text of words records why rows end read some kept done = record {
  listing = done.listing;
  gives = subst (λ (w : Option BadList). IsGivenBy (Breaks of) text of (finite.get machine.archs of.arch) w done.listing) (sym read)
      (subst (λ words. IsGivenBy (Breaks of) text of words None done.listing) (sym some) (at done.gives));
  is = done.is;
  holds = done.holds;
} where
  same : listing_from (with_words of.arch words) rows (begun (paragraphs_in (lines_of of.packages))) ≡ listing_for text of (Some words)
  same = ap₂ (listing_kept (with_words of.arch words)) (sym kept) (binaries-begun (with_words of.arch words) of.packages)
      ∙ sym (listing_of-kept text of.packages (with_words of.arch words))

  at : IsListing (Breaks of) (with_words of.arch words) rows (begun (paragraphs_in (lines_of of.packages))) done.listing
      → IsGivenBy (Breaks of) text of (Some words) None done.listing
  at (inl e) = inl (e ∙ same)
  at (inr broke) = inr broke

-- a list that could not be read on, by more faults with which its reader may have broken
pub broken-more : {X : Type 0} (One Other : ControlFault → Type 0) (which : ListKind) (row_at : ℕ → List FieldText → Result X Refusal) (place : ReaderState) (bad : BadList)
    → ((fault : ControlFault) → One fault → Other fault) → IsBrokenOff One which row_at place bad → IsBrokenOff Other which row_at place bad
broken-more One Other which row_at place bad more broken = record {
  broke = record { broke = broken.broke.broke; breaks = more broken.broke.broke broken.broke.breaks; is = broken.broke.is };
  list = broken.list;
  read = broken.read;
}

-- what a part was given, by more faults with which its reader may have broken
pub given-more : (One Other : ControlFault → Type 0) (text : List ℕ) (of : Part) (words : Option OsCpu) (bad : Option BadList) (listing : Result ArchiveListing Refusal)
    → ((fault : ControlFault) → One fault → Other fault) → IsGivenBy One text of words bad listing → IsGivenBy Other text of words bad listing
given-more One Other text of None bad listing more e = e
given-more One Other text of (Some words) (Some fault) listing more e = e
given-more One Other text of (Some words) None listing more (inl e) = inl e
given-more One Other text of (Some words) None listing more (inr broke) = inr (
  broke.0,
  (
    broken-more One Other Packages (binary_rows_at (with_words of.arch words)) _ broke.0 more broke.1.0,
    broke.1.1,
  ),
)

-- a part was merged or refused by its own list, which is among these
pub part-among : {R : Type 0} (MayStand : R → ReaderState → Type 0) (Breaks : R → ControlFault → Type 0) (machine : Machine) (text : List ℕ) (bad : Option BadList)
    (Holds : Records → Type 0) (all : List (PartList R)) (part : PartList R) (records : Records) (end : PartEnd) → IsIn part all
    → IsPartMerged MayStand machine (IsGiven (λ _. Breaks part.packages) machine text bad) Holds part records end
    → IsPartMerged MayStand machine (IsGiven (BreaksFor Breaks all) machine text bad) Holds part records end
part-among MayStand Breaks machine text bad Holds all part records end there merged = record {
  of = merged.of;
  is = merged.is;
  done = record {
    listing = merged.done.listing;
    gives = given-more (Breaks part.packages) (BreaksFor Breaks all merged.of) text merged.of (finite.get machine.archs merged.of.arch) bad merged.done.listing
        (λ fault broke. (part, there, merged.is.arch, broke)) merged.done.gives;
    is = merged.done.is;
    holds = merged.done.holds;
  };
}

-- what is so of the records after a part that was merged or refused
pub part-holds : {R : Type 0} (MayStand : R → ReaderState → Type 0) (machine : Machine)
    (Gives : Part → Result ArchiveListing Refusal → Type 0) (Holds More : Records → Type 0) (part : PartList R)
    (records : Records) (end : PartEnd) → ((last : Records) → Holds last → More last)
    → IsPartMerged MayStand machine Gives Holds part records end
    → IsPartMerged MayStand machine Gives More part records end
part-holds MayStand machine Gives Holds More part records end more merged = record {
  of = merged.of;
  is = merged.is;
  done = record {
    listing = merged.done.listing;
    gives = merged.done.gives;
    is = merged.done.is;
    holds = more (records_with records merged.of.arch merged.done.listing) merged.done.holds;
  };
}

-- ---- the list of a part

-- a text at which a reader that was not read may begin
pub unread-text : {R : Type 0} (MayStand : R → ReaderState → Type 0) (reader : R) (place : ReaderState) → MayStand reader place → IsUnread MayStand reader
    → (text : List ℕ) × ((place ≡ begun (paragraphs_in (lines_of text))) × MayBeginAt MayStand reader text)
unread-text MayStand reader place here unread =
    let text = unread place here in
    (text.0, (text.1, subst (MayStand reader) text.1 here))

-- a reader that was not read went through no paragraph
pub unread-none : {R : Type 0} (MayStand : R → ReaderState → Type 0) (passed_by : R → ℕ) → ((reader : R) → (place : ReaderState) × MayStand reader place)
    → ((reader : R) (place : ReaderState) → MayStand reader place → place.passed ≡ passed_by reader)
    → (reader : R) → IsUnread MayStand reader → passed_by reader ≡ 0
unread-none MayStand passed_by stands counts reader unread =
    let here = stands reader in
    sym (counts reader here.0 here.1) ∙ (λ i. ((unread here.0 here.1).1 i).passed)

-- ---- the loop over the parts

-- parts, and what became of them
abbrev pub AreMerged : {R : Type 0} → (R → ReaderState → Type 0) → Machine → (Part → Result ArchiveListing Refusal → Type 0) → List (PartList R) → Records → List PartReply → Records → Type 0
AreMerged MayStand machine Gives parts records replies last =
    (given : List Part) × (AllZip (IsPartOf (MayBeginAt MayStand) machine) parts given × ArePartsDone Gives given records replies last)

-- so many of all parts are done, and these are left
pub record IsHalfMerged {R : Type 0} (MayStand : R → ReaderState → Type 0) (machine : Machine) (archs : List ArchWords) (Gives : Part → Result ArchiveListing Refusal → Type 0)
    (Holds : Records → Type 0) (all : List (PartList R)) (start : Records) (replies : List PartReply) (parts : List (PartList R)) : Type 0 where
  pub records : Records
  pub holds : Holds records
  pub unread : AllByRecursion (IsPartUnread MayStand machine) parts
  pub known : AreAllKnown archs parts
  pub among : (part : PartList R) → IsIn part parts → IsIn part all
  pub goes : (more : List PartReply) (last : Records) → AreMerged MayStand machine Gives parts records more last → AreMerged MayStand machine Gives all start (replies ++ more) last

module _ {R : Type 0} (MayStand : R → ReaderState → Type 0) (machine : Machine) (archs : List ArchWords) (Gives : Part → Result ArchiveListing Refusal → Type 0) where
  pub merged-start : (Holds : Records → Type 0) (start : Records) (replies : List PartReply) (all parts : List (PartList R)) → replies ≡ [] → parts ≡ all → Holds start
      → AllByRecursion (IsPartUnread MayStand machine) all → AreAllKnown archs all
      → IsHalfMerged MayStand machine archs Gives Holds all start replies parts
  merged-start Holds start replies all parts none same holds unread known = record {
    records = start;
    holds = holds;
    unread = subst (λ (l : List (PartList R)). AllByRecursion (IsPartUnread MayStand machine) l) (sym same) unread;
    known = subst (λ (l : List (PartList R)). AreAllKnown archs l) (sym same) known;
    among = λ part there. subst (λ (l : List (PartList R)). IsIn part l) same there;
    goes = λ more last done.
        subst (λ (r : List PartReply). AreMerged MayStand machine Gives all start (r ++ more) last) (sym none)
        (subst (λ (l : List (PartList R)). AreMerged MayStand machine Gives l start more last) same done);
  }

  pub merged-step : {Holds More : Records → Type 0} (all : List (PartList R)) (start : Records) (replies made : List PartReply) (parts later : List (PartList R)) (part : PartList R) (reply : PartReply)
      → parts ≡ part ∷ later → made ≡ replies ++ reply ∷ [] → IsHalfMerged MayStand machine archs Gives Holds all start replies parts
      → ((records : Records) → Holds records → IsIn part all → IsPartUnread MayStand machine part → AreKnown archs part.arch part.words
      → (reply.arch ≡ part.arch) × IsPartMerged MayStand machine Gives More part records reply.end)
      → IsHalfMerged MayStand machine archs Gives More all start made later
  merged-step {More = More} all start replies made parts later part reply split is half answer =
      let known = subst (λ (l : List (PartList R)). AreAllKnown archs l) split half.known in
      let unread = subst (λ (l : List (PartList R)). AllByRecursion (IsPartUnread MayStand machine) l) split half.unread in
      let among = subst (λ (l : List (PartList R)). (part : PartList R) → IsIn part l → IsIn part all) split half.among in
      let told = answer half.records half.holds (among part (inl refl)) unread.0 known.0 in
      let of = told.1.of in
      let end = told.1.done in
      let arch_is : reply.arch ≡ of.arch = told.0 ∙ told.1.is.arch in
      let reply_is : reply ≡ record { arch = of.arch; end = end_with half.records of.arch end.listing } = λ i. record { arch = arch_is i; end = end.is i } in
      record {
        records = records_with half.records of.arch end.listing;
        holds = end.holds;
        unread = unread.1;
        known = known.1;
        among = λ part there. among part (inr there);
        goes = λ more last done.
            subst (λ (r : List PartReply). AreMerged MayStand machine Gives all start (r ++ more) last) (sym is)
            (subst (λ (r : List PartReply). AreMerged MayStand machine Gives all start r last) (sym (append_assoc replies (reply ∷ []) more))
            (half.goes (reply ∷ more) last (subst (λ (l : List (PartList R)). AreMerged MayStand machine Gives l half.records (reply ∷ more) last) (sym split)
            (of ∷ done.0, ((told.1.is, done.1.0), (end.listing, (end.gives, (reply_is, done.1.1))))))));
      }

  pub merged-done : {Holds : Records → Type 0} (all : List (PartList R)) (start : Records) (replies : List PartReply) (parts : List (PartList R)) → parts ≡ []
      → IsHalfMerged MayStand machine archs Gives Holds all start replies parts → IsMergeOfParts MayStand machine Gives Holds all start replies
  merged-done all start replies parts none half =
      let merged = subst (λ (r : List PartReply). AreMerged MayStand machine Gives all start r half.records) (append-nil replies)
      (half.goes [] half.records (subst (λ (l : List (PartList R)). AreMerged MayStand machine Gives l half.records [] half.records) (sym none) ([], (tt, refl)))) in
      record {
        given = merged.0;
        are = merged.1.0;
        done = record { last = half.records; done = merged.1.1; holds = half.holds };
      }

-- ---- the architectures of the parts

in-left : {X : Type 0} (x : X) (xs ys : List X) → IsIn x xs → IsIn x (xs ++ ys)
in-left x [] ys h = absurd h
in-left x (y ∷ xs) ys (inl e) = inl e
in-left x (y ∷ xs) ys (inr h) = inr (in-left x xs ys h)

in-right : {X : Type 0} (x : X) (xs ys : List X) → IsIn x ys → IsIn x (xs ++ ys)
in-right x [] ys h = h
in-right x (y ∷ xs) ys h = inr (in-right x xs ys h)

known-more : {R : Type 0} (some archs : List ArchWords) (parts : List (PartList R)) → AreAllKnown archs parts → AreAllKnown (some ++ archs) parts
known-more some archs [] known = tt
known-more some archs (part ∷ parts) known = (λ words e. in-right (with_words part.arch words) some archs (known.0 words e), known-more some archs parts known.1)

known-here : (name : List ℕ) (found : Option OsCpu) (words : OsCpu) → found ≡ Some words → IsIn (with_words name words) (arch_of name found)
known-here name None words e = absurd cc
known-here name (Some other) words e = inl (ap (with_words name) (same other words e)) where
  same : (other words : OsCpu) → Some other ≡ Some words → words ≡ other
  same other words e = cc

pub known-all : {R : Type 0} (parts : List (PartList R)) → AreAllKnown (archs_of_parts parts) parts
known-all [] = tt
known-all (part ∷ parts) = (
  λ words e. in-left (with_words part.arch words) (arch_of part.arch part.words) (archs_of_parts parts) (known-here part.arch part.words words e),
  known-more (arch_of part.arch part.words) (archs_of_parts parts) parts (known-all parts),
)

-- ---- Sources

-- what a Sources list left in the tables
pub sources-read : (Breaks : ControlFault → Type 0) (Holds : List SourceRow → Type 0) (text : List ℕ) (archs : List ArchWords) (bad : Option BadList)
    → IsFilled (sources_at (begun (paragraphs_in (lines_of text)))) (sources_wanted archs) Holds (IsRefused Breaks Sources source_row_at (begun (paragraphs_in (lines_of text)))) bad
    → (table : List SourceRow) × (Holds table × (HasSources text archs table bad × IsSourcesRead Breaks text bad))
sources-read Breaks Holds text archs None filled = at (kept_sources text) refl (subst (λ kept. WithRows kept (λ rows. Holds (sources_wanted archs rows))) (sources-begun text) filled) where
  at : (kept : Result (List SourceRow) Refusal) → kept_sources text ≡ kept → WithRows kept (λ rows. Holds (sources_wanted archs rows))
      → (table : List SourceRow) × (Holds table × (WithRows (kept_sources text) (λ rows. table ≡ sources_wanted archs rows) × IsOk (kept_sources text)))
  at (Ok rows) e holds = (
    sources_wanted archs rows,
    (holds, (subst (λ k. WithRows k (λ r. sources_wanted archs rows ≡ sources_wanted archs r)) (sym e) refl, subst IsOk (sym e) refl)),
  )
  at (Err refusal) e holds = absurd holds
sources-read Breaks Holds text archs (Some bad) filled = (filled.1.0, (filled.1.1, (tt, filled.0)))

-- rows of Sources that were read, with the rows that they have
pub has-rows : (text : List ℕ) (P : List SourceRow → Type 0) → WithRows (kept_sources text) P → (rows : List SourceRow) × ((kept_sources text ≡ Ok rows) × P rows)
has-rows text P = at (kept_sources text) where
  at : (kept : Result (List SourceRow) Refusal) → WithRows kept P → (rows : List SourceRow) × ((kept ≡ Ok rows) × P rows)
  at (Ok rows) h = (rows, (refl, h))
  at (Err refusal) h = absurd h

-- ---- merges of readers that do not break

-- what is kept of a Sources list that is refused is the refusal of each part
pub sources-refused : (text : List ℕ) (of : Part) (words : OsCpu) (refusal : Refusal) → sources_at (begun (paragraphs_in (lines_of text))) ≡ Err refusal
    → Err refusal ≡ listing_for text of (Some words)
sources-refused text of words refusal is =
    sym (listing_of-kept text of.packages (with_words of.arch words)
    ∙ ap (λ sources. listing_kept (with_words of.arch words) sources (kept_binaries (with_words of.arch words) of.packages)) (sym (sources-begun text) ∙ is))

given-is : (SourcesBreak PartBreaks : ControlFault → Type 0) → ((fault : ControlFault) → SourcesBreak fault → ⊥) → ((fault : ControlFault) → PartBreaks fault → ⊥)
    → (text : List ℕ) (of : Part) (words : Option OsCpu) (bad : Option BadList) (given : Result ArchiveListing Refusal)
    → IsSourcesRead SourcesBreak text bad → IsGivenBy PartBreaks text of words bad given → given ≡ listing_for text of words
given-is SourcesBreak PartBreaks none never text of None bad given read e = e
given-is SourcesBreak PartBreaks none never text of (Some words) (Some bad) given (inl broken) e = absurd (none broken.broke.broke broken.broke.breaks)
given-is SourcesBreak PartBreaks none never text of (Some words) (Some bad) given (inr is) e = e ∙ sources-refused text of words (refusal_of bad) is
given-is SourcesBreak PartBreaks none never text of (Some words) None given read (inl e) = e
given-is SourcesBreak PartBreaks none never text of (Some words) None given read (inr broke) = absurd (never broke.1.0.broke.broke broke.1.0.broke.breaks)

-- if no reader breaks, the replies and the records are those of the lists
pub parts-are : (SourcesBreak : ControlFault → Type 0) (PartBreaks : Part → ControlFault → Type 0) → ((fault : ControlFault) → SourcesBreak fault → ⊥)
    → ((of : Part) (fault : ControlFault) → PartBreaks of fault → ⊥)
    → (machine : Machine) (text : List ℕ) (bad : Option BadList) (given : List Part) (records last : Records) (replies : List PartReply) → IsSourcesRead SourcesBreak text bad
    → ArePartsDone (IsGiven PartBreaks machine text bad) given records replies last
    → (replies ≡ part_replies machine text given records) × (last ≡ records_after machine text given records)
unfolding part_listing
parts-are SourcesBreak PartBreaks none never machine text bad [] records last [] read done = (refl, done)
parts-are SourcesBreak PartBreaks none never machine text bad [] records last (reply ∷ replies) read done = absurd done
parts-are SourcesBreak PartBreaks none never machine text bad (of ∷ ofs) records last [] read done = absurd done
parts-are SourcesBreak PartBreaks none never machine text bad (of ∷ ofs) records last (reply ∷ replies) read done =
    let listing = done.0 in
    let e : listing ≡ part_listing machine text of = given-is SourcesBreak (PartBreaks of) none (never of) text of (finite.get machine.archs of.arch) bad listing read done.1.0 in
    let rest = parts-are SourcesBreak PartBreaks none never machine text bad ofs (records_with records of.arch listing) last replies read done.1.1.1 in (
      (λ i. done.1.1.0 i ∷ rest.0 i)
          ∙ (λ i. record { arch = of.arch; end = end_with records of.arch (e i) } ∷ part_replies machine text ofs (records_with records of.arch (e i))),
      rest.1 ∙ (λ i. records_after machine text ofs (records_with records of.arch (e i))),
    )
