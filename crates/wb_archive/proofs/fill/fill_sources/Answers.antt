use Rattle.std.proofs.Common.{◌<◌, [], ◌∷◌, refl, sym, subst, rules}
use Rattle.std.specs.List.{AllByRecursion}
use Rattle.wb_states.specs.declared.refusal.ListKind.TheVariants.{Sources}
use Rattle.wb_states.specs.declared.scratch.SourceRow.{SourceRow}
use Rattle.wb_merge.specs.Scratch.{source_row_at}
use Rattle.wb_archive.specs.Fills.{sources_wanted}
use Rattle.wb_archive.specs.Tables.{with_sources}
use Rattle.wb_archive.proofs.FillLemmas.{half-ended, half-refused, half-start, half-step, sources-below, sources-split}
use Rattle.wb_archive.proofs.StopLemmas.{stops-on}
use Rattle.wb_archive.proofs.fill.fill_sources.Goals as goal

pub returns-in-Ok-None-clause-value : goal.returns-in-Ok-None-clause-value
returns-in-Ok-None-clause-value g c = λ at clean holds first empty.
    let counted = g.R.ReadParagraphs.passed c.loop-passed.list in
    half-ended g.R.ReadParagraphs.may_stand_at source_row_at (sources_wanted c.args.archs.now) Sources
    c.args.list.now c.loop-passed.list counted c.loop-passed.passed (c.loop-passed.invariant.half at clean holds first empty).0 (c.in-Ok-None.ensures.ended c.in-Ok-None.field-0-is)

pub returns-in-Err-Bad-clause-value : goal.returns-in-Err-Bad-clause-value
returns-in-Err-Bad-clause-value g c = λ at clean holds first empty.
    let half = (c.loop-passed.invariant.half at clean holds first empty).0 in
    let counted = g.R.ReadParagraphs.passed c.loop-passed.list in
    rw c.in-Err-Bad.field-0-is (half-refused g.R.ReadParagraphs.may_stand_at source_row_at
    (sources_wanted c.args.archs.now) Sources
    g.R.ReadParagraphs.breaks c.args.list.now c.loop-passed.list counted c.loop-passed.passed c.in-Err-Bad.bad c.loop-passed.invariant.earlier half
    (rw c.in-Err-Bad.field-0-is at (c.in-Err-Bad.ensures.refused half.count)))

pub loop-passed-init : goal.loop-passed-init
loop-passed-init g c = record {
  follows = g.met.T.MergeTables.follows_itself c.args.tables.now;
  earlier = λ fault broke. broke;
  half = λ at clean holds first empty. (
    half-start g.R.ReadParagraphs.may_stand_at source_row_at (sources_wanted c.args.archs.now)
        (λ rows. g.T.MergeTables.holds c.args.tables.now (with_sources rows at)) c.args.list.now
        (g.R.ReadParagraphs.passed c.args.list.now) first refl
        (subst (λ rows. g.T.MergeTables.holds c.args.tables.now (with_sources rows at)) empty holds),
    tt,
  );
}

pub loop-passed-preserved : goal.loop-passed-preserved
loop-passed-preserved g c =
    let laws = g.met.T.MergeTables in
    let kept = c.in_ok-keep_source-in-Ok-Some.ensures in
    let row = c.in-Ok-Some.row in
    let count = g.R.ReadParagraphs.passed in
    record {
      follows = laws.follows_on c.args.tables.now c.loop-passed.tables c.keep_source.new.tables c.loop-passed.invariant.follows kept.calls.follows;
      earlier = λ fault broke. c.loop-passed.invariant.earlier fault (c.in-Ok-Some.ensures.earlier fault broke);
      half = λ at clean holds first empty.
          let both = c.loop-passed.invariant.half at (laws.clean c.loop-passed.tables c.keep_source.new.tables
          kept.calls.follows clean) holds first empty in
          let half = both.0 in
          let number = rw c.in-Ok-Some.field-0-is at c.in-Ok-Some.ensures.number in (
            half-step g.R.ReadParagraphs.may_stand_at source_row_at (sources_wanted c.args.archs.now)
                c.args.list.now c.loop-passed.list c.next_source.new.list (count c.loop-passed.list)
                (count c.next_source.new.list) c.loop-passed.passed half row
                (sources_wanted c.args.archs.now (row ∷ []))
                (rw c.in-Ok-Some.field-0-is at (c.in-Ok-Some.ensures.value half.count)) (rw c.in-Ok-Some.field-0-is at c.in-Ok-Some.ensures.counts)
                (sources-split c.args.archs.now half.done (row ∷ []))
                (kept.value (with_sources (sources_wanted c.args.archs.now half.done) at) clean half.holds
                (subst (λ n. AllByRecursion (λ (r : SourceRow). r.seq < n) (sources_wanted c.args.archs.now half.done))
                (sym number) both.1)),
            sources-below c.args.archs.now c.loop-passed.passed half.done row number both.1,
          );
    }

pub returns-in_err-keep_source-in-Ok-Some-clause-calls : goal.returns-in_err-keep_source-in-Ok-Some-clause-calls
returns-in_err-keep_source-in-Ok-Some-clause-calls g c =
    let tables = g.T.MergeTables in
    let laws = g.met.T.MergeTables in
    let stopped = c.in_err-keep_source-in-Ok-Some in
    let stops = stops-on tables.follows tables.fails laws.follows_on laws.fails_on c.args.tables.now c.loop-passed.tables c.keep_source.new.tables stopped.field-0.0
    c.loop-passed.invariant.follows stopped.ensures.calls.stops in
    search (rules, stops, c.from_residual.ensures)
