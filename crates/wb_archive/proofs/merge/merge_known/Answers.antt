use Rattle.std.proofs.Common.{◌≡◌, ◌∙◌, refl, sym, subst}
use Rattle.deb_control.specs.Lines.{lines_of, paragraphs_in}
use Rattle.deb_control.specs.Paragraphs.{begun}
use Rattle.deb_relations.specs.declared.arch.ArchWords.{ArchWords}
use Rattle.deb_text.specs.Lists.{IsIn}
use Rattle.wb_states.specs.declared.command.Part.{Part}
use Rattle.wb_states.specs.declared.reply.PartEnd.{PartEnd}
use Rattle.wb_states.specs.Machine.{with_words}
use Rattle.wb_merge.specs.Changes.{NotesChanges}
use Rattle.wb_merge.specs.Merged.{Records}
use Rattle.wb_merge.proofs.ChangeLemmas.{notes-itself}
use Rattle.wb_archive.specs.Fills.{sources_wanted}
use Rattle.wb_archive.specs.Parts.{IsListing, IsPartDone}
use Rattle.wb_archive.specs.Tables.{with_records}
use Rattle.wb_archive.proofs.MergeLemmas.{has-rows, part-unknown, part-with-sources, part-without-sources, unread-none, unread-text}
use Rattle.wb_archive.proofs.StopLemmas.{if-ok-map}
use Rattle.wb_archive.proofs.merge.merge_known.Goals as goal

pub returns-in_default-clause-value : goal.returns-in_default-clause-value
returns-in_default-clause-value g c = λ at machine text archs clean holds unsaved empty unread has known.
    let MayStand = g.R.ReadParagraphs.may_stand_at in
    let here = g.met.R.ReadParagraphs.stands c.args.packages.now in
    let list = unread-text MayStand c.args.packages.now here.0 here.1 unread.unread in
    let of : Part = record { arch = c.args.name.now; packages = list.0 } in
    record {
      of = of;
      is = record { arch = refl; words = unread.words; begins = list.1.1 };
      done = part-unknown (λ _. g.R.ReadParagraphs.breaks c.args.packages.now)
          (λ (records : Records). g.T.MergeTables.holds c.args.tables.now (with_records records at)
          × NotesChanges c.args.notes.now c.args.notes.now at.now.machine.records records) machine text
          c.args.bad of at.now.machine.records
          (sym unread.words ∙ c.in_default.is) (holds, notes-itself c.args.notes.now at.now.machine.records);
    }

pub returns-in-Some-bad-clause-value : goal.returns-in-Some-bad-clause-value
returns-in-Some-bad-clause-value g c = λ at machine text archs clean holds unsaved empty unread has known.
    let MayStand = g.R.ReadParagraphs.may_stand_at in
    let here = g.met.R.ReadParagraphs.stands c.args.packages.now in
    let list = unread-text MayStand c.args.packages.now here.0 here.1 unread.unread in
    let of : Part = record { arch = c.args.name.now; packages = list.0 } in
    record {
      of = of;
      is = record { arch = refl; words = unread.words; begins = list.1.1 };
      done = part-without-sources (λ _. g.R.ReadParagraphs.breaks c.args.packages.now)
          (λ (records : Records). g.T.MergeTables.holds c.args.tables.now (with_records records at)
          × NotesChanges c.args.notes.now c.args.notes.now at.now.machine.records records) machine text of
          c.in-Some.words at.now.machine.records c.args.bad c.in-Some-bad.bad c.refused.result c.in-Some-bad.is
          (sym unread.words ∙ c.in-Some.is) c.refused.ensures.value
          (holds, notes-itself c.args.notes.now at.now.machine.records);
    }

pub returns-clause-value : goal.returns-clause-value
returns-clause-value g c = λ at machine text archs clean holds unsaved empty unread has known.
    let MayStand = g.R.ReadParagraphs.may_stand_at in
    let laws = g.met.R.ReadParagraphs in
    let read = has-rows text (λ (rows : _). at.now.sources ≡ sources_wanted archs rows) (rw c.in_default-bad.is at has) in
    let arch_is : c.in_ok-arch.arch ≡ with_words c.args.name.now c.in-Some.words =
    c.in_ok-arch.ensures.value ∙ (λ i. record { name = c.as_str.ensures i; os = c.as_str-os.ensures i; cpu = c.as_str-cpu.ensures i }) in
    let first = unread-none MayStand g.R.ReadParagraphs.passed laws.stands laws.counts c.args.packages.now unread.unread in
    if-ok-map _ _ c.merge_part.result (λ (end : PartEnd) done.
    let list = unread-text MayStand c.args.packages.now done.0 done.1.0 unread.unread in
    let of : Part = record { arch = c.args.name.now; packages = list.0 } in
    record {
      of = of;
      is = record { arch = refl; words = unread.words; begins = list.1.1 };
      done = part-with-sources (λ _. g.R.ReadParagraphs.breaks c.args.packages.now)
          (λ (records : Records). g.T.MergeTables.holds c.merge_part.new.tables (with_records records at)
          × NotesChanges c.args.notes.now c.merge_part.new.notes at.now.machine.records records)
          machine text of c.in-Some.words at.now.machine.records c.args.bad read.0 end c.in_default-bad.is (sym unread.words ∙ c.in-Some.is) read.1.0
          (subst (λ (a : ArchWords). IsPartDone (IsListing (g.R.ReadParagraphs.breaks c.args.packages.now) a read.0 (begun (paragraphs_in (lines_of list.0))))
          (λ (records : Records). g.T.MergeTables.holds c.merge_part.new.tables (with_records records at)
          × NotesChanges c.args.notes.now c.merge_part.new.notes at.now.machine.records records) at.now.machine.records a.name end) arch_is
          (subst (λ place. IsPartDone (IsListing (g.R.ReadParagraphs.breaks c.args.packages.now) c.in_ok-arch.arch read.0 place)
          (λ (records : Records). g.T.MergeTables.holds c.merge_part.new.tables (with_records records at)
          × NotesChanges c.args.notes.now c.merge_part.new.notes at.now.machine.records records) at.now.machine.records c.in_ok-arch.arch.name end) list.1.0 done.1.1));
    })
    (c.merge_part.ensures.value at archs read.0 clean holds first unsaved empty read.1.1
    (subst (λ (a : ArchWords). IsIn a archs) (sym arch_is) (known c.in-Some.words c.in-Some.is)))
