use Rattle.std.proofs.Common.{◌≡◌, List, [], ◌∷◌, rules, arith, subst, sym}
use Rattle.std.proofs.lemmas.Grind.{common_steps}
use Rattle.std.proofs.lemmas.List.{nil_from_length}
use Rattle.std.specs.List.{AllByRecursion}
use Rattle.wb_states.specs.declared.reply.PartReply.{PartReply}
use Rattle.wb_merge.specs.Changes.{NotesChanges}
use Rattle.wb_merge.specs.Merged.{Records}
use Rattle.wb_merge.proofs.ChangeLemmas.{notes-itself, notes-on}
use Rattle.wb_archive.specs.Merges.{BreaksFor, IsGiven}
use Rattle.wb_archive.specs.Parts.{IsPartEnd}
use Rattle.wb_archive.specs.Tables.{with_records}
use Rattle.wb_archive.proofs.EndLemmas.{ends-more}
use Rattle.wb_archive.proofs.MergeLemmas.{merged-done, merged-start, merged-step, part-among, part-holds}
use Rattle.wb_archive.proofs.merge.merge_parts.Goals as goal

pub loop-part-init : goal.loop-part-init
loop-part-init g c =
    let all : c.into_iter-part-iterator.result.rest.items ≡ c.args.parts.items = search rules in
    record {
      follows = g.met.T.MergeTables.follows_itself c.args.tables.now;
      kinds = subst (λ (r : List PartReply). AllByRecursion (λ reply. IsPartEnd reply.end) r) (sym c.new-replies.ensures.items) tt;
      half = λ at machine text archs clean holds unsaved empty unread has known.
          merged-start g.R.ReadParagraphs.may_stand_at machine archs (IsGiven (BreaksFor g.R.ReadParagraphs.breaks c.args.parts.items) machine text c.args.bad)
          (λ (records : Records). g.T.MergeTables.holds c.args.tables.now (with_records records at)
          × NotesChanges c.args.notes.now c.args.notes.now at.now.machine.records records) at.now.machine.records c.new-replies.result.items
          c.args.parts.items c.into_iter-part-iterator.result.rest.items c.new-replies.ensures.items all
          (holds, notes-itself c.args.notes.now at.now.machine.records) unread known;
    }

pub loop-part-preserved : goal.loop-part-preserved
loop-part-preserved g c =
    let laws = g.met.T.MergeTables in
    let went = c.in_ok-reply.ensures.calls.follows in
    let split : c.loop-part.part-iterator.rest.items ≡ c.in-Some.part ∷ c.next.new.self.rest.items = search rules in
    record {
      follows = laws.follows_on c.args.tables.now c.loop-part.tables c.reply_to.new.tables c.loop-part.invariant.follows went;
      kinds = subst (λ (r : List PartReply). AllByRecursion (λ reply. IsPartEnd reply.end) r) (sym c.in_ok-add_reply.ensures.value)
          (ends-more c.loop-part.replies.items c.in_ok-reply.reply c.loop-part.invariant.kinds c.in_ok-reply.ensures.kind);
      half = λ at machine text archs clean holds unsaved empty unread has known.
          let half = c.loop-part.invariant.half at machine text archs (laws.clean c.loop-part.tables c.reply_to.new.tables went clean) holds unsaved empty unread has known in
          merged-step g.R.ReadParagraphs.may_stand_at machine archs (IsGiven (BreaksFor g.R.ReadParagraphs.breaks c.args.parts.items) machine text c.args.bad)
          {More = λ (records : Records). g.T.MergeTables.holds c.reply_to.new.tables (with_records records at)
          × NotesChanges c.args.notes.now c.reply_to.new.notes at.now.machine.records records} c.args.parts.items at.now.machine.records c.loop-part.replies.items c.add_reply.new.replies.items
          c.loop-part.part-iterator.rest.items c.next.new.self.rest.items c.in-Some.part c.in_ok-reply.reply split c.in_ok-add_reply.ensures.value half
          (λ records held there part_unread part_known.
          let told = c.in_ok-reply.ensures.value
          (with_records records at) machine text archs clean held.0 unsaved empty part_unread has part_known in (
            told.0,
            part-among g.R.ReadParagraphs.may_stand_at g.R.ReadParagraphs.breaks machine text c.args.bad
                (λ (more : Records). g.T.MergeTables.holds c.reply_to.new.tables (with_records more at)
                × NotesChanges c.args.notes.now c.reply_to.new.notes at.now.machine.records more) c.args.parts.items
                c.in-Some.part records c.in_ok-reply.reply.end there
                (part-holds g.R.ReadParagraphs.may_stand_at machine
                (IsGiven (λ _. g.R.ReadParagraphs.breaks c.in-Some.part.packages) machine text c.args.bad)
                (λ (more : Records). g.T.MergeTables.holds c.reply_to.new.tables (with_records more at)
                × NotesChanges c.loop-part.notes c.reply_to.new.notes records more)
                (λ (more : Records). g.T.MergeTables.holds c.reply_to.new.tables (with_records more at)
                × NotesChanges c.args.notes.now c.reply_to.new.notes at.now.machine.records more)
                c.in-Some.part records c.in_ok-reply.reply.end
                (λ more both. (
                  both.0,
                  notes-on c.args.notes.now c.loop-part.notes c.reply_to.new.notes
                      at.now.machine.records records more held.1 both.1,
                )) told.1),
          ));
    }

pub returns-clause-value : goal.returns-clause-value
returns-clause-value g c = λ at machine text archs clean holds unsaved empty unread has known.
    let none : c.loop-part.part-iterator.rest.items ≡ [] = grind (arith, common_steps, nil_from_length) in
    merged-done g.R.ReadParagraphs.may_stand_at machine archs (IsGiven (BreaksFor g.R.ReadParagraphs.breaks c.args.parts.items) machine text c.args.bad) c.args.parts.items at.now.machine.records
    c.loop-part.replies.items c.loop-part.part-iterator.rest.items none (c.loop-part.invariant.half at machine text archs clean holds unsaved empty unread has known)
