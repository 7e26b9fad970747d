use Rattle.std.proofs.Common.{refl, subst, rules}
use Rattle.std.specs.BTreeSet.{contains}
use Rattle.deb_text.specs.Text.{text_cmp}
use Rattle.wb_states.specs.declared.refusal.ListKind.TheVariants.{Packages}
use Rattle.wb_merge.specs.Scratch.{binary_rows_at}
use Rattle.wb_archive.specs.Fills.{binaries_behind, binaries_wanted, numbered}
use Rattle.wb_archive.specs.Tables.{with_binaries}
use Rattle.wb_archive.proofs.FillLemmas.{binaries-more, half-ended, half-refused, half-start, half-step, none-placed}
use Rattle.wb_archive.proofs.FillLemmas.{placed-below, placed-more}
use Rattle.wb_archive.proofs.StopLemmas.{stops-on}
use Rattle.wb_archive.proofs.fill.fill_binaries.Goals as goal

pub returns-in-Ok-None-clause-value : goal.returns-in-Ok-None-clause-value
returns-in-Ok-None-clause-value g c = λ at clean holds first empty.
    let counted = g.R.ReadParagraphs.passed c.loop-passed.list in
    half-ended g.R.ReadParagraphs.may_stand_at (binary_rows_at c.args.arch.now)
    (binaries_wanted (contains text_cmp c.args.waited.now)) Packages
    c.args.list.now c.loop-passed.list counted c.loop-passed.passed (c.loop-passed.invariant.half at clean holds first empty).0 (c.in-Ok-None.ensures.ended c.in-Ok-None.field-0-is)

pub returns-in-Err-Bad-clause-value : goal.returns-in-Err-Bad-clause-value
returns-in-Err-Bad-clause-value g c = λ at clean holds first empty.
    let half = (c.loop-passed.invariant.half at clean holds first empty).0 in
    let counted = g.R.ReadParagraphs.passed c.loop-passed.list in
    rw c.in-Err-Bad.field-0-is (half-refused g.R.ReadParagraphs.may_stand_at (binary_rows_at c.args.arch.now)
    (binaries_wanted (contains text_cmp c.args.waited.now)) Packages
    g.R.ReadParagraphs.breaks c.args.list.now c.loop-passed.list counted c.loop-passed.passed c.in-Err-Bad.bad c.loop-passed.invariant.earlier half
    (rw c.in-Err-Bad.field-0-is at (c.in-Err-Bad.ensures.refused half.count)))

pub loop-passed-init : goal.loop-passed-init
loop-passed-init g c = record {
  follows = g.met.T.MergeTables.follows_itself c.args.tables.now;
  earlier = λ fault broke. broke;
  half = λ at clean holds first empty. (
    half-start g.R.ReadParagraphs.may_stand_at (binary_rows_at c.args.arch.now)
        (binaries_wanted (contains text_cmp c.args.waited.now))
        (λ rows. g.T.MergeTables.holds c.args.tables.now (with_binaries rows at)) c.args.list.now (g.R.ReadParagraphs.passed c.args.list.now) first refl
        (subst (λ rows. g.T.MergeTables.holds c.args.tables.now (with_binaries rows at)) empty holds),
    none-placed (contains text_cmp c.args.waited.now),
  );
}

pub loop-passed-preserved : goal.loop-passed-preserved
loop-passed-preserved g c =
    let laws = g.met.T.MergeTables in
    let kept = c.in_ok-keep_binaries-in-Ok-Some.ensures in
    let rows = c.in-Ok-Some.rows.items in
    let count = g.R.ReadParagraphs.passed in
    let waited = contains text_cmp c.args.waited.now in
    record {
      follows = laws.follows_on c.args.tables.now c.loop-passed.tables c.keep_binaries.new.tables
          c.loop-passed.invariant.follows kept.calls.follows;
      earlier = λ fault broke. c.loop-passed.invariant.earlier fault (c.in-Ok-Some.ensures.earlier fault broke);
      half = λ at clean holds first empty.
          let both = c.loop-passed.invariant.half at (laws.clean c.loop-passed.tables c.keep_binaries.new.tables
          kept.calls.follows clean) holds first empty in
          let half = both.0 in
          let given = rw c.in-Ok-Some.field-0-is at (c.in-Ok-Some.ensures.value half.count) in
          let added = binaries_behind waited c.loop-passed.last (numbered c.loop-passed.placed rows) in (
            half-step g.R.ReadParagraphs.may_stand_at (binary_rows_at c.args.arch.now) (binaries_wanted waited)
                c.args.list.now c.loop-passed.list c.next_binaries.new.list (count c.loop-passed.list)
                (count c.next_binaries.new.list) c.loop-passed.passed half given.0 added
                given.1.1 (rw c.in-Ok-Some.field-0-is at c.in-Ok-Some.ensures.counts)
                (binaries-more waited half.done given.0 rows given.1.0 c.loop-passed.last c.loop-passed.placed both.1)
                (kept.value (with_binaries (binaries_wanted waited half.done) at) clean half.holds
                (placed-below waited half.done c.loop-passed.last c.loop-passed.placed both.1)),
            placed-more waited half.done given.0 rows given.1.0 c.loop-passed.last c.loop-passed.placed both.1
                c.keep_binaries.new.last c.keep_binaries.new.placed kept.last kept.count,
          );
    }

pub returns-in_err-keep_binaries-in-Ok-Some-clause-calls : goal.returns-in_err-keep_binaries-in-Ok-Some-clause-calls
returns-in_err-keep_binaries-in-Ok-Some-clause-calls g c =
    let tables = g.T.MergeTables in
    let laws = g.met.T.MergeTables in
    let stopped = c.in_err-keep_binaries-in-Ok-Some in
    let stops = stops-on tables.follows tables.fails laws.follows_on laws.fails_on c.args.tables.now
    c.loop-passed.tables c.keep_binaries.new.tables stopped.field-0.0
    c.loop-passed.invariant.follows stopped.ensures.calls.stops in
    search (rules, stops, c.from_residual.ensures)
