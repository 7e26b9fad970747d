-- Merges of lists that readers give: what they come to, by the bytes that the readers have; and that they leave the office as the step of a command does.
use Rattle.std.proofs.Common.{◌≡◌, ◌⊎◌, inl, inr, ℕ, ◌+◌, Bool, true, false, not, ◌||◌, cond, List, [], ◌∷◌, Option, None, Some, Result, Ok, Err, refl, sym, ap, subst, ◌∙◌}
use Rattle.std.proofs.lemmas.Bool.{false≢true}
use Rattle.std.specs.Prelude.{bytes_eq, nat_le, is_ok, is_none, IsOk}
use Rattle.std.specs.FinMap as finite
use Rattle.std.specs.List.{AllByRecursion, AllZip, list_any}
use Rattle.std.specs.Result.{result_err}
use Rattle.std.specs.Str.{chars, is_utf8}
use Rattle.deb_control.specs.declared.fault.ControlFault.{ControlFault}
use Rattle.deb_control.specs.declared.fault.ControlFaultKind.TheVariants.{NoColon, Read}
use Rattle.deb_control.specs.Feed.{MayStandAt}
use Rattle.deb_control.specs.FeedState.{FeedState, fresh}
use Rattle.deb_control.specs.Source.{MayBeLeft}
use Rattle.deb_control.specs.Fields.{fault_of, form_fault, has_colon, line_fault, reading_of}
use Rattle.deb_control.specs.Lines.{body_of, is_separator, lines_of, paragraphs_in}
use Rattle.deb_control.specs.Paragraphs.{begun}
use Rattle.deb_relations.specs.declared.arch.ArchWords.{ArchWords}
use Rattle.deb_text.specs.Lists.{IsIn}
use Rattle.deb_text.specs.Options.{first_some}
use Rattle.deb_text.proofs.OptionLemmas.{first_some-None}
use Rattle.wb_states.specs.declared.arch.OsCpu.{OsCpu}
use Rattle.wb_states.specs.declared.command.Part.{Part}
use Rattle.wb_states.specs.declared.refusal.ListKind.TheVariants.{Packages, Sources}
use Rattle.wb_states.specs.declared.refusal.ListingFault.TheVariants.{Control}
use Rattle.wb_states.specs.declared.refusal.Refusal.{Refusal}
use Rattle.wb_states.specs.declared.refusal.Refusal.TheVariants.{BadListing, BadName, RepeatedArch, Spent, UnknownArch}
use Rattle.wb_states.specs.declared.reply.PartEnd.{PartEnd}
use Rattle.wb_states.specs.declared.reply.PartEnd.TheVariants as end
use Rattle.wb_states.specs.declared.reply.PartReply.{PartReply}
use Rattle.wb_states.specs.declared.reply.Reply.TheVariants.{Merged}
use Rattle.wb_states.specs.declared.scratch.BinaryRow.{BinaryRow}
use Rattle.wb_states.specs.declared.scratch.SourceRow.{SourceRow}
use Rattle.wb_states.specs.Forms.{Merge}
use Rattle.wb_states.specs.Limits.{count_limit}
use Rattle.wb_states.specs.Machine.{Machine, with_words}
use Rattle.wb_states.specs.Names.{is_arch_name}
use Rattle.wb_merge.specs.Listing.{ArchiveListing}
use Rattle.wb_merge.specs.Merged.{Records}
use Rattle.wb_merge.specs.Scratch.{kept_binaries, kept_sources, listing_kept, source_row_at}
use Rattle.wb_merge.proofs.ScratchLemmas.{listing_of-kept}
use Rattle.wb_step.specs.Checks.{first_refusal, has_repeated_arch as repeats_part, text_checks, text_refusal, when}
use Rattle.wb_step.specs.Parts.{end_with, is_good, is_merged, listing_for, part_listing, part_replies, parts_refusal, records_after, records_with}
use Rattle.wb_step.specs.Step.{Outcome, outcome, step}
use Rattle.wb_step.proofs.PartLemmas.{first_refusal-Merge}
use Rattle.wb_step.proofs.PassLemmas.{when-None}
use Rattle.wb_step.proofs.StepLemmas.{step-refused, step-text}
use Rattle.wb_archive.specs.declared.merge.PartList.{PartList}
use Rattle.wb_archive.specs.declared.merge_from.ArchList.{ArchList}
use Rattle.wb_archive.specs.declared.fault.BadList.{BadList}
use Rattle.wb_archive.specs.Faults.{refusal_of}
use Rattle.wb_archive.specs.Feeds.{IsFeedBreak}
use Rattle.wb_archive.specs.Merges.{ArePartsDone, BreaksFor, IsGiven, IsGivenBy, IsMergeOfLists, IsPartOf, IsPartUnread, IsSourcesRead, IsUnread, MayBeginAt}
use Rattle.wb_archive.specs.Readers.{IsAsStep, IsFeedOf, IsListOf, IsMergeOf, IsMergeOfTexts, IsOfRead, IsPartReadFault, IsReadFault, StandsForPart, archs_refusal, has_repeated_arch, merge_outcome, merged_office, outcome_by, refusal_by, refusal_in, unread_list}
use Rattle.wb_archive.proofs.KnownListLemmas.{given-alike, read-alike}
use Rattle.wb_archive.proofs.MergeLemmas.{broken-more, given-more, sources-refused}

-- ---- the refusal of a merge by its replies

merged-good : (records : Records) (arch : List ℕ) (listing : Result ArchiveListing Refusal) → is_merged (end_with records arch listing) ≡ is_ok listing
merged-good records arch (Ok listing) = refl
merged-good records arch (Err refusal) = refl

refusal-end : (records : Records) (arch : List ℕ) (listing : Result ArchiveListing Refusal) → refusal_in (end_with records arch listing) ≡ result_err listing
refusal-end records arch (Ok listing) = refl
refusal-end records arch (Err refusal) = refl

any-merged : (machine : Machine) (sources : List ℕ) (parts : List Part) (records : Records)
    → list_any (λ (r : PartReply). is_merged r.end) (part_replies machine sources parts records) ≡ list_any (is_good machine sources) parts
any-merged machine sources [] records = refl
any-merged machine sources (part ∷ parts) records =
    let rest = any-merged machine sources parts (records_with records part.arch (part_listing machine sources part)) in
    λ i. merged-good records part.arch (part_listing machine sources part) i || rest i

-- a merge is refused by its replies as by its parts
pub refusal_by-parts : (machine : Machine) (sources : List ℕ) (parts : List Part) (records : Records)
    → refusal_by (part_replies machine sources parts records) ≡ parts_refusal machine sources parts
refusal_by-parts machine sources [] records = refl
refusal_by-parts machine sources (part ∷ parts) records =
    λ i. cond (any-merged machine sources (part ∷ parts) records i) None (refusal-end records part.arch (part_listing machine sources part) i)

-- ---- the names of the architectures

text-checks : (is_bad is_repeated : Bool)
    → first_some (when is_bad BadName ∷ None ∷ None ∷ None ∷ None ∷ None ∷ when is_repeated RepeatedArch ∷ []) ≡ first_some (when is_bad BadName ∷ when is_repeated RepeatedArch ∷ [])
text-checks true is_repeated = refl
text-checks false is_repeated = refl

-- the refusal of a merge for its texts is that for the names of its architectures
pub text_refusal-Merge : (text : List ℕ) (parts : List Part)
    → text_refusal (Merge text parts) ≡ first_some (when (list_any (λ (part : Part). not (is_arch_name part.arch)) parts) BadName ∷ when (repeats_part parts) RepeatedArch ∷ [])
unfolding text_refusal
text_refusal-Merge text parts = text-checks (list_any (λ (part : Part). not (is_arch_name part.arch)) parts) (repeats_part parts)

module _ {X : Type 0} (arch_of : X → List ℕ) (Same : X → Part → Type 0) (same : (x : X) (part : Part) → Same x part → part.arch ≡ arch_of x) where
  bad-alike : (lists : List X) (parts : List Part) → AllZip Same lists parts
      → list_any (λ (part : Part). not (is_arch_name part.arch)) parts ≡ list_any (λ (list : X). not (is_arch_name (arch_of list))) lists
  bad-alike [] [] zip = refl
  bad-alike [] (part ∷ parts) zip = absurd zip
  bad-alike (list ∷ lists) [] zip = absurd zip
  bad-alike (list ∷ lists) (part ∷ parts) zip = λ i. not (is_arch_name (same list part zip.0 i)) || bad-alike lists parts zip.1 i

  any-alike : (arch : List ℕ) (lists : List X) (parts : List Part) → AllZip Same lists parts
      → list_any (λ (part : Part). bytes_eq arch part.arch) parts ≡ list_any (λ (list : X). bytes_eq arch (arch_of list)) lists
  any-alike arch [] [] zip = refl
  any-alike arch [] (part ∷ parts) zip = absurd zip
  any-alike arch (list ∷ lists) [] zip = absurd zip
  any-alike arch (list ∷ lists) (part ∷ parts) zip = λ i. bytes_eq arch (same list part zip.0 i) || any-alike arch lists parts zip.1 i

repeated-lists : {R : Type 0} (remaining : R → Option (List ℕ)) (lists : List (ArchList R)) (parts : List Part) → AllZip (IsListOf remaining) lists parts
    → repeats_part parts ≡ has_repeated_arch lists
repeated-lists remaining [] [] zip = refl
repeated-lists remaining [] (part ∷ parts) zip = absurd zip
repeated-lists remaining (list ∷ lists) [] zip = absurd zip
repeated-lists {R = R} remaining (list ∷ lists) (part ∷ parts) zip =
    (λ i. list_any (λ (other : Part). bytes_eq (zip.0.arch i) other.arch) parts || repeats_part parts)
    ∙ (λ i. any-alike (λ (list : ArchList R). list.arch) (IsListOf remaining) (λ list part is. is.arch) list.arch lists parts zip.1 i || repeated-lists remaining lists parts zip.1 i)

-- the refusal of a merge for its texts is the one for the architectures of its lists
pub archs-refused : {R : Type 0} (remaining : R → Option (List ℕ)) (lists : List (ArchList R)) (text : List ℕ) (parts : List Part) → AllZip (IsListOf remaining) lists parts
    → text_refusal (Merge text parts) ≡ archs_refusal lists
archs-refused {R = R} remaining lists text parts zip =
    text_refusal-Merge text parts
    ∙ (λ i. first_some (
    when (bad-alike (λ (list : ArchList R). list.arch) (IsListOf remaining) (λ list part is. is.arch) lists parts zip i) BadName
    ∷ when (repeated-lists remaining lists parts zip i) RepeatedArch ∷ []))

repeated-others : (parts others : List Part) → AllZip StandsForPart parts others → repeats_part others ≡ repeats_part parts
repeated-others [] [] zip = refl
repeated-others [] (part ∷ parts) zip = absurd zip
repeated-others (list ∷ lists) [] zip = absurd zip
repeated-others (part ∷ parts) (other ∷ others) zip =
    (λ i. list_any (λ (o : Part). bytes_eq (zip.0.arch i) o.arch) others || repeats_part others)
    ∙ (λ i. any-alike (λ (p : Part). p.arch) StandsForPart (λ part other is. is.arch) part.arch parts others zip.1 i || repeated-others parts others zip.1 i)

-- parts whose lists could not be read on have the same names
others-refused : (text : List ℕ) (parts others : List Part) → AllZip StandsForPart parts others → text_refusal (Merge text others) ≡ text_refusal (Merge text parts)
others-refused text parts others zip =
    text_refusal-Merge text others
    ∙ (λ i. first_some (
    when (bad-alike (λ (p : Part). p.arch) StandsForPart (λ part other is. is.arch) parts others zip i) BadName
    ∷ when (repeated-others parts others zip i) RepeatedArch ∷ []))
    ∙ sym (text_refusal-Merge text parts)

-- ---- what readers have

-- some bytes may be left
some-left : (known : Option (List ℕ)) → (text : List ℕ) × MayBeLeft known text
some-left None = ([], tt)
some-left (Some text) = (text, refl)

-- each list is a part of a merge
some-parts : {R : Type 0} (remaining : R → Option (List ℕ)) (lists : List (ArchList R)) → (parts : List Part) × AllZip (IsListOf remaining) lists parts
some-parts remaining [] = ([], tt)
some-parts remaining (list ∷ lists) =
    let bytes = some-left (remaining list.packages) in
    let rest = some-parts remaining lists in
    (record { arch = list.arch; packages = bytes.0 } ∷ rest.0, (record { arch = refl; packages = bytes.1 }, rest.1))

-- a merge whose names are refused is answered so, whatever its lists are
pub names-refused : {R : Type 0} (remaining : R → Option (List ℕ)) (sources : R) (lists : List (ArchList R)) (machine : Machine) (refusal : Refusal)
    → archs_refusal lists ≡ Some refusal → IsMergeOf remaining sources lists machine (Err refusal, machine)
names-refused remaining sources lists machine refusal is =
    let bytes = some-left (remaining sources) in
    let parts = some-parts remaining lists in record {
      text = bytes.0;
      is = bytes.1;
      parts = parts.0;
      are = parts.1;
      answers = inl (refusal, (archs-refused remaining lists bytes.0 parts.0 parts.1 ∙ is, refl));
    }

-- the bytes of a feed at which it may begin
feed-bytes : (known : Option (List ℕ)) (feed : FeedState) (text : List ℕ) → feed ≡ fresh known → MayBeginAt MayStandAt feed text
    → (bytes : List ℕ) × MayBeLeft known bytes × (begun (paragraphs_in (lines_of text)) ≡ begun (paragraphs_in (lines_of bytes)))
feed-bytes known feed text is begins = subst (λ (f : FeedState). MayBeginAt MayStandAt f text) is begins

-- the list of a feed that is to be read
list-of : {R : Type 0} (remaining : R → Option (List ℕ)) (machine : Machine) (lists : List (ArchList R)) (feeds : List (PartList FeedState)) (feed : PartList FeedState)
    → AllZip (IsFeedOf remaining machine) lists feeds → IsIn feed feeds → (list : ArchList R) × (IsIn list lists × IsFeedOf remaining machine list feed)
list-of remaining machine [] [] feed are there = absurd there
list-of remaining machine [] (other ∷ feeds) feed are there = absurd are
list-of remaining machine (list ∷ lists) [] feed are there = absurd there
list-of remaining machine (list ∷ lists) (other ∷ feeds) feed are (inl e) = (list, (inl refl, subst (λ (f : PartList FeedState). IsFeedOf remaining machine list f) (sym e) are.0))
list-of remaining machine (list ∷ lists) (other ∷ feeds) feed are (inr there) =
    let found = list-of remaining machine lists feeds feed are.1 there in (found.0, (inr found.1.0, found.1.1))

-- a feed that broke could not be read on
feed-broke : {R : Type 0} (remaining : R → Option (List ℕ)) (machine : Machine) (lists : List (ArchList R)) (feeds : List (PartList FeedState)) (of part : Part)
    → AllZip (IsFeedOf remaining machine) lists feeds → of.arch ≡ part.arch → (fault : ControlFault) → BreaksFor IsFeedBreak feeds of fault
    → IsPartReadFault remaining lists part fault
feed-broke remaining machine lists feeds of part are same fault broke =
    let found = list-of remaining machine lists feeds broke.0 are broke.1 in (
      found.0,
      found.1.0,
      sym found.1.1.arch ∙ broke.2 ∙ same,
      subst (λ (feed : FeedState). IsFeedBreak feed fault) found.1.1.packages broke.3,
    )

module _ {R : Type 0} (remaining : R → Option (List ℕ)) (machine : Machine) (text known : List ℕ)
    (alike : begun (paragraphs_in (lines_of text)) ≡ begun (paragraphs_in (lines_of known))) (bad : Option BadList)
    (all : List (ArchList R)) (all_feeds : List (PartList FeedState)) (all_are : AllZip (IsFeedOf remaining machine) all all_feeds) where
  -- what became of the parts, by the bytes of their readers
  feeds-parts : (lists : List (ArchList R)) (feeds : List (PartList FeedState)) (found : List Part) (records last : Records) (replies : List PartReply)
      → AllZip (IsFeedOf remaining machine) lists feeds → AllZip (IsPartOf (MayBeginAt MayStandAt) machine) feeds found
      → ArePartsDone (IsGiven (BreaksFor IsFeedBreak all_feeds) machine text bad) found records replies last
      → (parts : List Part) × (AllZip (IsListOf remaining) lists parts × ArePartsDone (IsGiven (IsPartReadFault remaining all) machine known bad) parts records replies last)
  feeds-parts [] [] [] records last [] are begin done = ([], (tt, done))
  feeds-parts [] [] [] records last (reply ∷ replies) are begin done = absurd done
  feeds-parts [] [] (of ∷ found) records last replies are begin done = absurd begin
  feeds-parts [] (feed ∷ feeds) found records last replies are begin done = absurd are
  feeds-parts (list ∷ lists) [] found records last replies are begin done = absurd are
  feeds-parts (list ∷ lists) (feed ∷ feeds) [] records last replies are begin done = absurd begin
  feeds-parts (list ∷ lists) (feed ∷ feeds) (of ∷ found) records last [] are begin done = absurd done
  feeds-parts (list ∷ lists) (feed ∷ feeds) (of ∷ found) records last (reply ∷ replies) are begin done =
      let bytes = feed-bytes (remaining list.packages) feed.packages of.packages are.0.packages begin.0.begins in
      let same : of.arch ≡ list.arch = sym begin.0.arch ∙ are.0.arch in
      let part : Part = record { arch = list.arch; packages = bytes.0 } in
      let rest = feeds-parts lists feeds found (records_with records list.arch done.0) last replies are.1 begin.1
      (subst (λ (arch : List ℕ). ArePartsDone (IsGiven (BreaksFor IsFeedBreak all_feeds) machine text bad) found (records_with records arch done.0) replies last) same done.1.1.1) in (
        part ∷ rest.0,
        (
          (record { arch = refl; packages = bytes.1 }, rest.1.0),
          (
            done.0,
            (
              given-alike (BreaksFor IsFeedBreak all_feeds of) (IsPartReadFault remaining all part) machine text known of part bad done.0 alike same bytes.2
                  (feed-broke remaining machine all all_feeds of part all_are same) done.1.0,
              (done.1.1.0 ∙ (λ i. record { arch = same i; end = end_with records (same i) done.0 }), rest.1.1),
            ),
          ),
        ),
      )

-- a merge of lists whose names are not refused comes to what its replies say, by the bytes of their readers
pub feeds-merge : {R : Type 0} (remaining : R → Option (List ℕ)) (machine : Machine) (sources : R) (lists : List (ArchList R)) (feeds : List (PartList FeedState)) (last : Records)
    (replies : List PartReply) (o : Outcome) → archs_refusal lists ≡ None → AllZip (IsFeedOf remaining machine) lists feeds
    → IsMergeOfLists MayStandAt IsFeedBreak machine (λ records. records ≡ last) (fresh (remaining sources)) feeds machine.records replies
    → o ≡ merge_outcome machine replies last → IsMergeOf remaining sources lists machine o
feeds-merge remaining machine sources lists feeds last replies o names are lists_done is =
    let bytes = feed-bytes (remaining sources) (fresh (remaining sources)) lists_done.text refl lists_done.begins in
    let end = lists_done.merged.done in
    let found = feeds-parts remaining machine lists_done.text bytes.0 bytes.2 lists_done.bad lists feeds are lists feeds lists_done.merged.given machine.records end.last replies are
    lists_done.merged.are end.done in record {
      text = bytes.0;
      is = bytes.1;
      parts = found.0;
      are = found.1.0;
      answers = inr (
        archs-refused remaining lists bytes.0 found.0 found.1.0 ∙ names,
        record {
          bad = lists_done.bad;
          read = read-alike (IsReadFault remaining sources) lists_done.text bytes.0 lists_done.bad bytes.2 lists_done.read;
          replies = replies;
          last = end.last;
          done = found.1.1;
          is = is ∙ ap (merge_outcome machine replies) (sym end.holds);
        },
      );
    }

-- the lists of parts that are to be read were not read
pub feeds-unread : {R : Type 0} (remaining : R → Option (List ℕ)) (machine : Machine) (lists : List (ArchList R)) (feeds : List (PartList FeedState))
    → AllZip (IsFeedOf remaining machine) lists feeds → AllByRecursion (IsPartUnread MayStandAt machine) feeds
feeds-unread remaining machine [] [] are = tt
feeds-unread remaining machine [] (feed ∷ feeds) are = absurd are
feeds-unread remaining machine (list ∷ lists) [] are = absurd are
feeds-unread remaining machine (list ∷ lists) (feed ∷ feeds) are = (
  record {
    words = are.0.words ∙ ap (finite.get machine.archs) (sym are.0.arch);
    unread = subst (IsUnread MayStandAt) (sym are.0.packages) (λ place here. (here.0, here.2));
  },
  feeds-unread remaining machine lists feeds are.1,
)

-- ---- as the step of a command

-- a list that could not be read on is refused
unread-binaries : (arch : ArchWords) → (refusal : Refusal) × (kept_binaries arch unread_list ≡ Err refusal)
unfolding kept_binaries unread_list is_utf8 chars lib.Utf8.encode has_colon form_fault line_fault fault_of reading_of body_of is_separator paragraphs_in
unread-binaries arch = (BadListing Packages 1 (Control NoColon), refl)

kept-refused : (arch : ArchWords) (sources : Result (List SourceRow) Refusal) (binaries : Result (List BinaryRow) Refusal) (refusal : Refusal) → binaries ≡ Err refusal
    → (other : Refusal) × (listing_kept arch sources binaries ≡ Err other)
kept-refused arch (Ok rows) binaries refusal is = (refusal, ap (listing_kept arch (Ok rows)) is)
kept-refused arch (Err other) binaries refusal is = (other, refl)

words-refused : (text arch : List ℕ) (words : Option OsCpu)
    → (refusal : Refusal) × (listing_for text (record { arch = arch; packages = unread_list }) words ≡ Err refusal)
words-refused text arch None = (UnknownArch, refl)
words-refused text arch (Some words) =
    let bad = unread-binaries (with_words arch words) in
    let kept = kept-refused (with_words arch words) (kept_sources text) (kept_binaries (with_words arch words) unread_list) bad.0 bad.1 in
    (kept.0, listing_of-kept text unread_list (with_words arch words) ∙ kept.1)

unread-refused : (machine : Machine) (text arch : List ℕ) → (refusal : Refusal) × (part_listing machine text (record { arch = arch; packages = unread_list }) ≡ Err refusal)
unfolding part_listing
unread-refused machine text arch = words-refused text arch (finite.get machine.archs arch)

-- two replies to a part of which both say that it was merged, or neither
abbrev AreAlike : PartReply → PartReply → Type 0
AreAlike one other = is_merged one.end ≡ is_merged other.end

any-merged-alike : (replies others : List PartReply) → AllZip AreAlike replies others
    → list_any (λ (r : PartReply). is_merged r.end) replies ≡ list_any (λ (r : PartReply). is_merged r.end) others
any-merged-alike [] [] zip = refl
any-merged-alike [] (other ∷ others) zip = absurd zip
any-merged-alike (reply ∷ replies) [] zip = absurd zip
any-merged-alike (reply ∷ replies) (other ∷ others) zip = λ i. zip.0 i || any-merged-alike replies others zip.1 i

none-merged : (e : PartEnd) → is_none (refusal_in e) ≡ is_merged e
none-merged (end.Merged counts) = refl
none-merged (end.Refused refusal) = refl

none-cond : (b : Bool) (refused : Option Refusal) → is_none (cond b None refused) ≡ cond b true (is_none refused)
none-cond true refused = refl
none-cond false refused = refl

-- they are refused both, or neither
refused-alike : (replies others : List PartReply) → AllZip AreAlike replies others → is_none (refusal_by replies) ≡ is_none (refusal_by others)
refused-alike [] [] zip = refl
refused-alike [] (other ∷ others) zip = absurd zip
refused-alike (reply ∷ replies) [] zip = absurd zip
refused-alike (reply ∷ replies) (other ∷ others) zip =
    none-cond (list_any (λ (r : PartReply). is_merged r.end) (reply ∷ replies)) (refusal_in reply.end)
    ∙ (λ i. cond (any-merged-alike (reply ∷ replies) (other ∷ others) zip i) true ((none-merged reply.end ∙ zip.0 ∙ sym (none-merged other.end)) i))
    ∙ sym (none-cond (list_any (λ (r : PartReply). is_merged r.end) (other ∷ others)) (refusal_in other.end))

-- what a part was given is what its lists have, or a refusal
given-or-refused : (SourcesBreak PartBreaks : ControlFault → Type 0) (text : List ℕ) (of : Part) (words : Option OsCpu) (bad : Option BadList) (listing : Result ArchiveListing Refusal)
    → IsSourcesRead SourcesBreak text bad → IsGivenBy PartBreaks text of words bad listing
    → (listing ≡ listing_for text of words) ⊎ ((refusal : Refusal) × (listing ≡ Err refusal))
given-or-refused SourcesBreak PartBreaks text of None bad listing read e = inl e
given-or-refused SourcesBreak PartBreaks text of (Some words) (Some bad) listing (inl broken) e = inr (refusal_of bad, e)
given-or-refused SourcesBreak PartBreaks text of (Some words) (Some bad) listing (inr is) e = inl (e ∙ sources-refused text of words (refusal_of bad) is)
given-or-refused SourcesBreak PartBreaks text of (Some words) None listing read (inl e) = inl e
given-or-refused SourcesBreak PartBreaks text of (Some words) None listing read (inr broke) = inr (refusal_of broke.0, broke.1.1)

module _ (SourcesBreak : ControlFault → Type 0) (PartBreaks : Part → ControlFault → Type 0) (machine : Machine) (text : List ℕ) (bad : Option BadList)
    (read : IsSourcesRead SourcesBreak text bad) where
  part-or-refused : (of : Part) (listing : Result ArchiveListing Refusal) → IsGiven PartBreaks machine text bad of listing
      → (listing ≡ part_listing machine text of) ⊎ ((refusal : Refusal) × (listing ≡ Err refusal))
  unfolding part_listing
  part-or-refused of listing gives = given-or-refused SourcesBreak (PartBreaks of) text of (finite.get machine.archs of.arch) bad listing read gives

  -- the parts with lists in place of those that could not be read on: the records after them are the same, and the same parts are merged
  record StandIn (parts : List Part) (records last : Records) (replies : List PartReply) : Type 0 where
    pub others : List Part
    pub stand : AllZip StandsForPart parts others
    pub last_is : last ≡ records_after machine text others records
    pub alike : AllZip AreAlike replies (part_replies machine text others records)

  one-more : (part : Part) (parts : List Part) (records last : Records) (reply : PartReply) (replies : List PartReply) (listing : Result ArchiveListing Refusal)
      → (listing ≡ part_listing machine text part) ⊎ ((refusal : Refusal) × (listing ≡ Err refusal))
      → reply ≡ record { arch = part.arch; end = end_with records part.arch listing } → StandIn parts (records_with records part.arch listing) last replies
      → StandIn (part ∷ parts) records last (reply ∷ replies)
  one-more part parts records last reply replies listing (inl is) told rest = record {
    others = part ∷ rest.others;
    stand = (record { arch = refl; packages = inl refl }, rest.stand);
    last_is = rest.last_is ∙ (λ i. records_after machine text rest.others (records_with records part.arch (is i)));
    alike = (
      (λ i. is_merged (told i).end) ∙ (λ i. is_merged (end_with records part.arch (is i))),
      subst (λ (l : Result ArchiveListing Refusal). AllZip AreAlike replies (part_replies machine text rest.others (records_with records part.arch l))) is rest.alike,
    );
  }
  one-more part parts records last reply replies listing (inr (refusal, is)) told rest =
      let other = unread-refused machine text part.arch in
      let same : records_with records part.arch listing ≡ records_with records part.arch (part_listing machine text (record { arch = part.arch; packages = unread_list })) =
      ap (records_with records part.arch) is ∙ sym (ap (records_with records part.arch) other.1) in record {
        others = record { arch = part.arch; packages = unread_list } ∷ rest.others;
        stand = (record { arch = refl; packages = inr refl }, rest.stand);
        last_is = rest.last_is ∙ ap (records_after machine text rest.others) same;
        alike = (
          (λ i. is_merged (told i).end) ∙ (λ i. is_merged (end_with records part.arch (is i))) ∙ (λ i. is_merged (end_with records part.arch (sym other.1 i))),
          subst (λ (r : Records). AllZip AreAlike replies (part_replies machine text rest.others r)) same rest.alike,
        );
      }

  stand-in : (parts : List Part) (records last : Records) (replies : List PartReply)
      → ArePartsDone (IsGiven PartBreaks machine text bad) parts records replies last → StandIn parts records last replies
  stand-in [] records last [] done = record { others = []; stand = tt; last_is = done; alike = tt }
  stand-in [] records last (reply ∷ replies) done = absurd done
  stand-in (part ∷ parts) records last [] done = absurd done
  stand-in (part ∷ parts) records last (reply ∷ replies) (listing, (gives, (told, later))) =
      one-more part parts records last reply replies listing (part-or-refused part listing gives) told (stand-in parts (records_with records part.arch listing) last replies later)

is-none : {X : Type 0} (o : Option X) → is_none o ≡ true → o ≡ None
is-none None is = refl
is-none (Some x) is = cc

is-some : {X : Type 0} (o : Option X) → is_none o ≡ false → (x : X) × (o ≡ Some x)
is-some None is = cc
is-some (Some x) is = (x, refl)

-- the first refusal of a merge whose names are not refused
merge-first : (machine : Machine) (text : List ℕ) (parts : List Part) → text_refusal (Merge text parts) ≡ None → (refused : Option Refusal) (is_full : Bool)
    → parts_refusal machine text parts ≡ refused → nat_le count_limit machine.accepted ≡ is_full
    → first_refusal machine (Merge text parts) ≡ first_some (refused ∷ when is_full Spent ∷ [])
unfolding text_refusal
merge-first machine text parts checks refused is_full why full =
    let none = first_some-None (text_checks (Merge text parts)) checks in
    first_refusal-Merge machine text parts false false refused is_full (when-None _ _ none.0) (when-None _ _ none.1.1.1.1.1.1.0) why full

-- the step of a merge that is not refused
merge-accepted : (machine : Machine) (text : List ℕ) (parts : List Part) → first_refusal machine (Merge text parts) ≡ None
    → step machine (Merge text parts)
    ≡ (Ok (Merged (machine.accepted + 1) (part_replies machine text parts machine.records)), merged_office machine (records_after machine text parts machine.records))
unfolding step
merge-accepted machine text parts is = ap (λ (first : Option Refusal). outcome first None machine (Merge text parts)) is

-- a merge of lists with these texts left the office as the step of a command does
pub texts-step : (SourcesBreak : ControlFault → Type 0) (PartBreaks : Part → ControlFault → Type 0) (text : List ℕ) (parts : List Part) (machine : Machine) (o : Outcome)
    → IsMergeOfTexts SourcesBreak PartBreaks text parts machine o → IsAsStep text parts machine o
texts-step SourcesBreak PartBreaks text parts machine o (inl (refusal, (refused, is))) = record {
  others = parts;
  stand = themselves parts;
  left = ap (λ (o : Outcome). o.1) is ∙ sym (ap (λ (o : Outcome). o.1) (step-text machine (Merge text parts) refusal refused));
  accepted = λ ok. absurd (false≢true (subst IsOk (ap (λ (o : Outcome). o.0) is) ok));
}
  where
    themselves : (parts : List Part) → AllZip StandsForPart parts parts
    themselves [] = tt
    themselves (part ∷ parts) = (record { arch = refl; packages = inl refl }, themselves parts)
texts-step SourcesBreak PartBreaks text parts machine o (inr (names, comes)) = record { others = s.others; stand = s.stand; left = both.0; accepted = both.1 }
  where
    s : StandIn SourcesBreak PartBreaks machine text comes.bad comes.read parts machine.records comes.last comes.replies
    s = stand-in SourcesBreak PartBreaks machine text comes.bad comes.read parts machine.records comes.last comes.replies comes.done

    checks : text_refusal (Merge text s.others) ≡ None
    checks = others-refused text parts s.others s.stand ∙ names

    alike : is_none (refusal_by comes.replies) ≡ is_none (parts_refusal machine text s.others)
    alike = refused-alike comes.replies _ s.alike ∙ ap is_none (refusal_by-parts machine text s.others machine.records)

    first : (refused : Option Refusal) (is_full : Bool) → parts_refusal machine text s.others ≡ refused → nat_le count_limit machine.accepted ≡ is_full
        → first_refusal machine (Merge text s.others) ≡ first_some (refused ∷ when is_full Spent ∷ [])
    first refused is_full why full = merge-first machine text s.others checks refused is_full why full

    by : (refused : Option Refusal) (is_full : Bool) → refusal_by comes.replies ≡ refused → nat_le count_limit machine.accepted ≡ is_full
        → (o.1 ≡ (step machine (Merge text s.others)).1) × (IsOk o.0 → IsOk (step machine (Merge text s.others)).0)
    by (Some refusal) is_full why full =
        let other = is-some (parts_refusal machine text s.others) (sym alike ∙ ap is_none why) in
        let stepped = step-refused machine (Merge text s.others) other.0 (first (Some other.0) is_full other.1 full) in
        let told : o ≡ (Err refusal, machine) = comes.is ∙ (λ i. outcome_by (why i) (full i) machine comes.replies comes.last) in
        (ap (λ (o : Outcome). o.1) told ∙ sym (ap (λ (o : Outcome). o.1) stepped), λ ok. absurd (false≢true (subst IsOk (ap (λ (o : Outcome). o.0) told) ok)))
    by None true why full =
        let none = is-none (parts_refusal machine text s.others) (sym alike ∙ ap is_none why) in
        let stepped = step-refused machine (Merge text s.others) Spent (first None true none full) in
        let told : o ≡ (Err Spent, machine) = comes.is ∙ (λ i. outcome_by (why i) (full i) machine comes.replies comes.last) in
        (ap (λ (o : Outcome). o.1) told ∙ sym (ap (λ (o : Outcome). o.1) stepped), λ ok. absurd (false≢true (subst IsOk (ap (λ (o : Outcome). o.0) told) ok)))
    by None false why full =
        let none = is-none (parts_refusal machine text s.others) (sym alike ∙ ap is_none why) in
        let stepped = merge-accepted machine text s.others (first None false none full) in
        let told : o ≡ (Ok (Merged (machine.accepted + 1) comes.replies), merged_office machine comes.last) =
        comes.is ∙ (λ i. outcome_by (why i) (full i) machine comes.replies comes.last) in (
          ap (λ (o : Outcome). o.1) told ∙ ap (merged_office machine) s.last_is ∙ sym (ap (λ (o : Outcome). o.1) stepped),
          λ ok. subst IsOk (sym (ap (λ (o : Outcome). o.0) stepped)) refl,
        )

    both : (o.1 ≡ (step machine (Merge text s.others)).1) × (IsOk o.0 → IsOk (step machine (Merge text s.others)).0)
    both = by (refusal_by comes.replies) (nat_le count_limit machine.accepted) refl refl

-- what became of parts of which each list was read
parts-read : (machine : Machine) (text : List ℕ) (parts : List Part) (records last : Records) (replies : List PartReply)
    → ArePartsDone (λ of given. given ≡ part_listing machine text of) parts records replies last
    → (replies ≡ part_replies machine text parts records) × (last ≡ records_after machine text parts records)
parts-read machine text [] records last [] done = (refl, done)
parts-read machine text [] records last (reply ∷ replies) done = absurd done
parts-read machine text (part ∷ parts) records last [] done = absurd done
parts-read machine text (part ∷ parts) records last (reply ∷ replies) (listing, (is, (told, later))) =
    let rest = parts-read machine text parts (records_with records part.arch listing) last replies later in (
      (λ i. told i ∷ rest.0 i)
          ∙ (λ i. record { arch = part.arch; end = end_with records part.arch (is i) } ∷ part_replies machine text parts (records_with records part.arch (is i))),
      rest.1 ∙ (λ i. records_after machine text parts (records_with records part.arch (is i))),
    )

-- a merge of lists that were read is the step
pub read-step : (text : List ℕ) (parts : List Part) (machine : Machine) (replies : List PartReply) (last : Records) → text_refusal (Merge text parts) ≡ None
    → ArePartsDone (λ of given. given ≡ part_listing machine text of) parts machine.records replies last → merge_outcome machine replies last ≡ step machine (Merge text parts)
read-step text parts machine replies last names done =
    (λ i. merge_outcome machine (both.0 i) (both.1 i))
    ∙ (λ i. outcome_by (refusal_by-parts machine text parts machine.records i) (nat_le count_limit machine.accepted) machine all after)
    ∙ by (parts_refusal machine text parts) (nat_le count_limit machine.accepted) refl refl
  where
    both : (replies ≡ part_replies machine text parts machine.records) × (last ≡ records_after machine text parts machine.records)
    both = parts-read machine text parts machine.records last replies done

    all : List PartReply
    all = part_replies machine text parts machine.records

    after : Records
    after = records_after machine text parts machine.records

    by : (refused : Option Refusal) (is_full : Bool) → parts_refusal machine text parts ≡ refused → nat_le count_limit machine.accepted ≡ is_full
        → outcome_by (parts_refusal machine text parts) (nat_le count_limit machine.accepted) machine all after ≡ step machine (Merge text parts)
    by (Some refusal) is_full why full =
        (λ i. outcome_by (why i) (full i) machine all after) ∙ sym (step-refused machine (Merge text parts) refusal (merge-first machine text parts names (Some refusal) is_full why full))
    by None true why full =
        (λ i. outcome_by (why i) (full i) machine all after) ∙ sym (step-refused machine (Merge text parts) Spent (merge-first machine text parts names None true why full))
    by None false why full =
        (λ i. outcome_by (why i) (full i) machine all after) ∙ sym (merge-accepted machine text parts (merge-first machine text parts names None false why full))

-- ---- an office that a merge leaves as it was

module _ (machine : Machine) (text : List ℕ) where
  -- the refusal of a part of which Sources could not be read at all
  abbrev unread-refusal : Option OsCpu → Refusal
  unread-refusal None = UnknownArch
  unread-refusal (Some words) = BadListing Sources 1 (Control Read)

  -- the fault of a Sources list that could not be read at all
  abbrev unread-fault : BadList
  unread-fault = record { which = Sources; paragraph = 1; fault = Control Read }

  sources-unread : IsSourcesRead IsOfRead text (Some unread-fault)
  sources-unread = inl (record {
    broke = record { broke = record { paragraph = 1; kind = Read }; breaks = refl; is = refl };
    list = refl;
    read = record { rows = []; last = begun (paragraphs_in (lines_of text)); reads = refl; next = refl };
  })

  part-unread : (of : Part) (words : Option OsCpu) → IsGivenBy IsOfRead text of words (Some unread-fault) (Err (unread-refusal words))
  part-unread of None = refl
  part-unread of (Some words) = refl

  -- parts of which Sources could not be read at all
  abbrev refused-parts : List Part → List PartReply
  refused-parts [] = []
  refused-parts (part ∷ parts) = record { arch = part.arch; end = end.Refused (unread-refusal (finite.get machine.archs part.arch)) } ∷ refused-parts parts

  parts-refused : (parts : List Part) (records : Records)
      → ArePartsDone (IsGiven (λ _. IsOfRead) machine text (Some unread-fault)) parts records (refused-parts parts) records
  parts-refused [] records = refl
  parts-refused (part ∷ parts) records =
      let words = finite.get machine.archs part.arch in
      (Err (unread-refusal words), (part-unread part words, (refl, parts-refused parts records)))

  no-merged : (parts : List Part) → list_any (λ (r : PartReply). is_merged r.end) (refused-parts parts) ≡ false
  no-merged [] = refl
  no-merged (part ∷ parts) = no-merged parts

  refused-by : (parts : List Part) → (refusal : Refusal) × (refusal_by (refused-parts parts) ≡ Some refusal)
  refused-by [] = (UnknownArch, refl)
  refused-by (part ∷ parts) =
      let refusal = unread-refusal (finite.get machine.archs part.arch) in
      (refusal, ap (λ (b : Bool). cond b None (Some refusal)) (no-merged (part ∷ parts)))

  -- a merge of lists that could not be read on is refused, and leaves the office as it was
  pub texts-unread : (parts : List Part) → (refusal : Refusal) × IsMergeOfTexts IsOfRead (λ _. IsOfRead) text parts machine (Err refusal, machine)
  texts-unread parts = by (text_refusal (Merge text parts)) refl
    where
      by : (refused : Option Refusal) → text_refusal (Merge text parts) ≡ refused → (refusal : Refusal) × IsMergeOfTexts IsOfRead (λ _. IsOfRead) text parts machine (Err refusal, machine)
      by (Some refusal) is = (refusal, inl (refusal, (is, refl)))
      by None is =
          let why = refused-by parts in (
            why.0,
            inr (
              is,
              record {
                bad = Some unread-fault;
                read = sources-unread;
                replies = refused-parts parts;
                last = machine.records;
                done = parts-refused parts machine.records;
                is = λ i. outcome_by (sym why.1 i) (nat_le count_limit machine.accepted) machine (refused-parts parts) machine.records;
              },
            ),
          )

-- ---- readers that may break with more faults

-- parts that were merged or refused, by more faults with which their readers may have broken
done-more : (One Other : Part → ControlFault → Type 0) → ((of : Part) (fault : ControlFault) → One of fault → Other of fault) → (machine : Machine) (text : List ℕ)
    (bad : Option BadList) (parts : List Part) (records last : Records) (replies : List PartReply)
    → ArePartsDone (IsGiven One machine text bad) parts records replies last → ArePartsDone (IsGiven Other machine text bad) parts records replies last
done-more One Other more machine text bad [] records last [] done = done
done-more One Other more machine text bad [] records last (reply ∷ replies) done = absurd done
done-more One Other more machine text bad (part ∷ parts) records last [] done = absurd done
done-more One Other more machine text bad (part ∷ parts) records last (reply ∷ replies) (listing, (gives, (told, later))) = (
  listing,
  (
    given-more (One part) (Other part) text part (finite.get machine.archs part.arch) bad listing (more part) gives,
    (told, done-more One Other more machine text bad parts (records_with records part.arch listing) last replies later),
  ),
)

read-more : (One Other : ControlFault → Type 0) → ((fault : ControlFault) → One fault → Other fault) → (text : List ℕ) (bad : Option BadList)
    → IsSourcesRead One text bad → IsSourcesRead Other text bad
read-more One Other more text None read = read
read-more One Other more text (Some bad) (inl broken) = inl (broken-more One Other Sources source_row_at (begun (paragraphs_in (lines_of text))) bad more broken)
read-more One Other more text (Some bad) (inr is) = inr is

-- a merge of lists, by more faults with which their readers may have broken
pub texts-more : (SourcesBreak SourcesMay : ControlFault → Type 0) (PartBreaks PartMay : Part → ControlFault → Type 0)
    → ((fault : ControlFault) → SourcesBreak fault → SourcesMay fault) → ((of : Part) (fault : ControlFault) → PartBreaks of fault → PartMay of fault)
    → (text : List ℕ) (parts : List Part) (machine : Machine) (o : Outcome)
    → IsMergeOfTexts SourcesBreak PartBreaks text parts machine o → IsMergeOfTexts SourcesMay PartMay text parts machine o
texts-more SourcesBreak SourcesMay PartBreaks PartMay sources packages text parts machine o (inl names) = inl names
texts-more SourcesBreak SourcesMay PartBreaks PartMay sources packages text parts machine o (inr (names, comes)) = inr (
  names,
  record {
    bad = comes.bad;
    read = read-more SourcesBreak SourcesMay sources text comes.bad comes.read;
    replies = comes.replies;
    last = comes.last;
    done = done-more PartBreaks PartMay packages machine text comes.bad parts machine.records comes.last comes.replies comes.done;
    is = comes.is;
  },
)

-- a merge of what readers give is one of lists that could be read on or not
pub read-texts : {R : Type 0} (remaining : R → Option (List ℕ)) (sources : R) (lists : List (ArchList R)) (machine : Machine) (o : Outcome)
    → (merge : IsMergeOf remaining sources lists machine o) → IsMergeOfTexts IsOfRead (λ _. IsOfRead) merge.text merge.parts machine o
read-texts remaining sources lists machine o merge =
    texts-more (IsReadFault remaining sources) IsOfRead (IsPartReadFault remaining lists) (λ _. IsOfRead) (λ fault broke. broke.kind) (λ of fault broke. broke.3.kind)
    merge.text merge.parts machine o merge.answers
