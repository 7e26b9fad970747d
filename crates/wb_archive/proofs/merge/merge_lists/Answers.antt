use Rattle.std.proofs.Common.{◌≡◌, ◌∙◌, [], List, sym, subst, ap}
use Rattle.deb_relations.specs.declared.arch.ArchWords.{ArchWords}
use Rattle.wb_states.specs.declared.refusal.ListKind.TheVariants.{Sources}
use Rattle.wb_states.specs.declared.scratch.SourceRow.{SourceRow}
use Rattle.wb_merge.specs.Scratch.{source_row_at}
use Rattle.wb_archive.specs.Fills.{IsFilled, sources_wanted}
use Rattle.wb_archive.specs.Merges.{archs_of_parts}
use Rattle.wb_archive.specs.Reads.{IsRefused, sources_at}
use Rattle.wb_archive.specs.Sources.{AreAllKnown}
use Rattle.wb_archive.specs.Tables.{Tables, with_records, with_sources}
use Rattle.wb_archive.proofs.MergeLemmas.{known-all, sources-read, unread-none, unread-text}
use Rattle.wb_archive.proofs.merge.merge_lists.Goals as goal

pub returns-clause-value : goal.returns-clause-value
returns-clause-value g c = λ at machine clean holds unsaved no_sources no_binaries unread parts_unread.
    let laws = g.met.T.MergeTables in
    let at_parts = laws.clean c.merge_parts.new.tables c.clear_all.new.tables c.in_ok-clear_all.ensures.calls.follows clean in
    let at_fill = laws.clean c.fill_sources.new.tables c.merge_parts.new.tables c.in_ok-replies.ensures.calls.follows at_parts in
    let archs_is : c.deref-2.result.now ≡ archs_of_parts c.args.parts.items = c.deref-2.ensures.value ∙ c.in_ok-archs.ensures.value ∙ ap archs_of_parts c.deref.ensures.value in
    let known = subst (λ (archs : List ArchWords). AreAllKnown archs c.args.parts.items) (sym archs_is) (known-all c.args.parts.items) in
    let MayStand = g.R.ReadParagraphs.may_stand_at in
    let reader = g.met.R.ReadParagraphs in
    let filled = c.in_ok-bad.ensures.value at at_fill holds (unread-none MayStand g.R.ReadParagraphs.passed reader.stands reader.counts c.args.sources.now unread) no_sources in
    let list = unread-text MayStand c.args.sources.now filled.0 filled.1.0 unread in
    let text = list.0 in
    let Held = λ (rows : List SourceRow). g.T.MergeTables.holds c.fill_sources.new.tables (with_sources rows at) in
    let read = sources-read (g.R.ReadParagraphs.breaks c.args.sources.now) Held text c.deref-2.result.now c.in_ok-bad.bad
    (subst (λ place. IsFilled (sources_at place) (sources_wanted c.deref-2.result.now) Held (IsRefused (g.R.ReadParagraphs.breaks c.args.sources.now) Sources source_row_at place) c.in_ok-bad.bad)
    list.1.0 filled.1.1) in
    let merged = c.in_ok-replies.ensures.value (with_sources read.0 at) machine text c.deref-2.result.now at_parts read.1.0 unsaved no_binaries parts_unread read.1.1.0 known in
    let parts = merged.done in
    let cleared = c.in_ok-clear_all.ensures.value (with_records parts.last
    (with_sources read.0 at)) clean parts.holds.0 in
    let as_was : record { now = record { machine = record at.now.machine { records = parts.last }; sources = []; binaries = [] }; saved = at.saved } ≡ with_records parts.last at =
    λ i. record { now = record { machine = record at.now.machine { records = parts.last }; sources = sym no_sources i; binaries = sym no_binaries i }; saved = at.saved } in
    record {
      text = text;
      begins = list.1.1;
      bad = c.in_ok-bad.bad;
      read = read.1.1.1;
      merged = record {
        given = merged.given;
        are = merged.are;
        done = record {
          last = parts.last;
          done = parts.done;
          holds = (subst (λ (t : Tables). g.T.MergeTables.holds c.clear_all.new.tables t) as_was cleared, parts.holds.1);
        };
      };
    }
