-- Lemmas on the merges of lists that were opened: what the lists may be read as, and which commands leave the office as
-- such a merge does.
use Rattle.std.proofs.Common.{◌≡◌, inl, inr, ℕ, List, [], ◌∷◌, Option, None, Some, Err, refl, ◌∙◌}
use Rattle.std.specs.Prelude.{IsOk}
use Rattle.std.specs.List.{AllZip}
use Rattle.deb_control.specs.Source.{MayBeLeft}
use Rattle.wb_states.specs.declared.command.Command.{Command}
use Rattle.wb_states.specs.declared.command.Part.{Part}
use Rattle.wb_states.specs.declared.refusal.Refusal.{Refusal}
use Rattle.wb_states.specs.Forms.{Merge}
use Rattle.wb_states.specs.Machine.{Machine}
use Rattle.wb_step.specs.Step.{Outcome, step}
use Rattle.wb_lists.specs.declared.names.PartNames.{PartNames}
use Rattle.wb_archive.specs.declared.merge_from.ArchList.{ArchList}
use Rattle.wb_archive.specs.Readers.{IsListOf, IsMergeOf, IsOfRead, MayLeave}
use Rattle.wb_archive.proofs.ReaderLemmas.{read-texts, texts-step, texts-unread}
use Rattle.wb_lists.specs.declared.lists.MergeLists.{MergeLists}
use Rattle.wb_lists.specs.Lists.{MayRead, MayReadLess, MayReadMerge, MayReadParts}
use Rattle.wb_lists.specs.Lists.{IsAllOf, IsMergeAs, OpensMerge, OpensParts}
use Rattle.wb_lists.proofs.ListLemmas.{MayReadParts-more}

-- ---- what opened lists may be read as

-- bytes that may be left are all that a reader has, if those are known
left-all : (known : Option (List ℕ)) (text : List ℕ) → MayBeLeft known text → IsAllOf known text
left-all None text may = tt
left-all (Some left) text may = may

-- some bytes are all that a reader has left
pub some-left : (known : Option (List ℕ)) → (text : List ℕ) × IsAllOf known text
some-left None = ([], tt)
some-left (Some text) = (text, refl)

module _ {R : Type 0} (may_read : MayRead) (remaining : R → Option (List ℕ)) where
  -- lists that were opened may be read as the parts of a merge
  pub some-parts : (names : List PartNames) (lists : List (ArchList R)) → OpensParts may_read remaining names lists
      → (parts : List Part) × MayReadParts may_read names parts
  some-parts [] [] opens = ([], tt)
  some-parts [] (list ∷ lists) opens = absurd opens
  some-parts (name ∷ names) [] opens = absurd opens
  some-parts (name ∷ names) (list ∷ lists) opens =
      let left = some-left (remaining list.packages) in
      let rest = some-parts names lists opens.1 in
      (record { arch = name.arch; packages = left.0 } ∷ rest.0, ((refl, opens.0.1 left.0 left.1), rest.1))

  -- as the parts that they are
  parts-read : (names : List PartNames) (lists : List (ArchList R)) (parts : List Part)
      → OpensParts may_read remaining names lists
      → AllZip (IsListOf remaining) lists parts → MayReadParts may_read names parts
  parts-read [] [] [] opens are = tt
  parts-read [] [] (part ∷ parts) opens are = absurd are
  parts-read [] (list ∷ lists) parts opens are = absurd opens
  parts-read (name ∷ names) [] parts opens are = absurd opens
  parts-read (name ∷ names) (list ∷ lists) [] opens are = absurd are
  parts-read (name ∷ names) (list ∷ lists) (part ∷ parts) opens are = (
    (are.0.arch ∙ opens.0.0, opens.0.1 part.packages (left-all (remaining list.packages) part.packages are.0.packages)),
    parts-read names lists parts opens.1 are.1,
  )

-- lists that were opened with what may be read later were opened with what might be read before
pub OpensParts-more : {R : Type 0} (old new : MayRead) (remaining : R → Option (List ℕ)) → MayReadLess old new
    → (names : List PartNames) (lists : List (ArchList R))
    → OpensParts new remaining names lists → OpensParts old remaining names lists
OpensParts-more old new remaining m [] [] opens = tt
OpensParts-more old new remaining m [] (list ∷ lists) opens = absurd opens
OpensParts-more old new remaining m (name ∷ names) [] opens = absurd opens
OpensParts-more old new remaining m (name ∷ names) (list ∷ lists) opens =
    ((opens.0.0, λ bytes all. m.0 name.packages bytes (opens.0.1 bytes all)), OpensParts-more old new remaining m names lists opens.1)

-- ---- the commands that leave the office as a merge does

pub IsMergeAs-more : (old new : MayRead) → MayReadLess old new → (sources : List ℕ) (names : List PartNames)
    (machine : Machine) (outcome : Outcome)
    → IsMergeAs new sources names machine outcome → IsMergeAs old sources names machine outcome
IsMergeAs-more old new m sources names machine outcome h = record {
  text = h.text;
  reads = m.0 sources h.text h.reads;
  parts = h.parts;
  are = MayReadParts-more old new m names h.parts h.are;
  comes = h.comes;
}

-- a merge left the office as the step of a command does that its lists may be read as
pub merge-command : (may_read : MayRead) (sources : List ℕ) (names : List PartNames)
    (machine : Machine) (outcome : Outcome)
    → IsMergeAs may_read sources names machine outcome
    → (command : Command) × (MayReadMerge may_read sources names command
    × ((outcome.1 ≡ (step machine command).1) × (IsOk outcome.0 → IsOk (step machine command).0)))
merge-command may_read sources names machine outcome h =
    let as_step = texts-step IsOfRead (λ _. IsOfRead) h.text h.parts machine outcome h.comes in (
      Merge h.text as_step.others,
      (
        record { text = h.text; reads = h.reads; parts = h.parts; are = h.are; others = as_step.others; stand = as_step.stand; is = refl },
        (as_step.left, as_step.accepted),
      ),
    )

module _ {R : Type 0} (may_read : MayRead) (remaining : R → Option (List ℕ))
    (sources : List ℕ) (names : List PartNames) (opened : MergeLists R)
    (opens : OpensMerge may_read remaining sources names opened) (machine : Machine) where
  -- what a merge of opened lists came to
  pub opened-merge : (outcome : Outcome) → IsMergeOf remaining opened.sources opened.parts.items machine outcome
      → IsMergeAs may_read sources names machine outcome
  opened-merge outcome h = record {
    text = h.text;
    reads = opens.0 h.text (left-all (remaining opened.sources) h.text h.is);
    parts = h.parts;
    are = parts-read may_read remaining names opened.parts.items h.parts opens.1 h.are;
    comes = read-texts remaining opened.sources opened.parts.items machine outcome h;
  }

  -- a merge of opened lists of which none could be read on is refused
  opened-unread : (refusal : Refusal) × IsMergeAs may_read sources names machine (Err refusal, machine)
  opened-unread =
      let left = some-left (remaining opened.sources) in
      let parts = some-parts may_read remaining names opened.parts.items opens.1 in
      let unread = texts-unread machine left.0 parts.0 in
      (unread.0, record { text = left.0; reads = opens.0 left.0 left.1; parts = parts.0; are = parts.1; comes = unread.1 })

  -- what a merge of opened lists may leave is what the step of a command leaves that they may be read as
  pub opened-leaves : (after : Machine) → MayLeave remaining opened.sources opened.parts.items machine after
      → (command : Command) × (MayReadMerge may_read sources names command × (after ≡ (step machine command).1))
  opened-leaves after (inl same) =
      let unread = opened-unread in
      let left = merge-command may_read sources names machine (Err unread.0, machine) unread.1 in
      (left.0, (left.1.0, same ∙ left.1.1.0))
  opened-leaves after (inr (reply, merged)) =
      let left = merge-command may_read sources names machine _ (opened-merge _ merged) in
      (left.0, (left.1.0, left.1.1.0))
