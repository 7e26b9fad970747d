use Rattle.std.proofs.Common.{◌+◌, drop, sym, subst, arith}
use Rattle.wb_states.specs.declared.reply.MergeCounts.{MergeCounts}
use Rattle.wb_merge.specs.Changes.{NotesBetween}
use Rattle.wb_merge.specs.Merged.{all_kept}
use Rattle.wb_merge.specs.Steps.{AreWithin}
use Rattle.wb_merge.proofs.ChangeLemmas.{between-start}
use Rattle.wb_merge.proofs.CountLemmas.{IsHalfMerged, within-next}
use Rattle.wb_archive.specs.Decides.{listing_at, record_decided}
use Rattle.wb_archive.specs.Tables.{with_records}
use Rattle.wb_archive.proofs.DecideLemmas.{IsHalfDecided, decided-done, decided-notes, decided-start, decided-step}
use Rattle.wb_archive.proofs.deciding.decide.Goals as goal

pub loop-name-init : goal.loop-name-init
loop-name-init g c = record {
  follows = c.in_ok-names.ensures.calls.follows;
  within = record { added = omega arith; changed = omega arith; kept = omega arith; removed = omega arith };
  half = λ at clean holds. record {
    records = at.now.machine.records;
    holds = (
      c.in_ok-names.ensures.same at clean holds,
      between-start c.args.changes.now at.now.machine.records c.args.arch.now.name,
    );
    half = subst (IsHalfMerged at.now.machine.records at.now.machine.records c.args.arch.now.name (listing_at c.args.arch.now at.now) (all_kept 0)) (sym c.deref-name-items.ensures.value)
        (decided-start c.args.arch.now at.now c.in_ok-names.names.items (c.in_ok-names.ensures.value at clean holds));
  };
}

pub loop-name-preserved : goal.loop-name-preserved
loop-name-preserved g c =
    let laws = g.met.T.MergeTables in
    let went = c.in_ok-decide_one.ensures.calls.follows in
    record {
      follows = laws.follows_on c.args.tables.now c.loop-name.tables c.decide_one.new.tables c.loop-name.invariant.follows went;
      within = subst (AreWithin (c.loop-name.name-index + 1)) (sym c.counted-counts.ensures.value)
          (within-next c.loop-name.name-index c.loop-name.counts c.in_ok-decide_one.field-0 c.loop-name.invariant.within);
      half = λ at clean holds.
          let half = c.loop-name.invariant.half at (laws.clean c.loop-name.tables c.decide_one.new.tables went clean) holds in
          let next = with_records half.records at in
          subst (λ (counts : MergeCounts). IsHalfDecided
          (λ records. g.T.MergeTables.holds c.decide_one.new.tables (with_records records at)
          × NotesBetween c.args.changes.now c.decide_one.new.changes at.now.machine.records records c.args.arch.now.name)
          at.now.machine.records c.args.arch.now.name
          (listing_at c.args.arch.now at.now) counts (drop (c.loop-name.name-index + 1) c.deref-name-items.result.now))
          (sym c.counted-counts.ensures.value)
          (decided-step c.args.arch.now at.now c.loop-name.counts c.deref-name-items.result.now c.loop-name.name-index c.name-item.result c.loop-name-test.true c.name-item.is half (
            c.in_ok-decide_one.ensures.value next clean half.holds.0,
            decided-notes c.args.changes.now c.loop-name.changes c.decide_one.new.changes at.now.machine.records
                half.records c.args.arch.now.name (listing_at c.args.arch.now at.now) c.loop-name.counts
                c.deref-name-items.result.now c.loop-name.name-index c.name-item.result
                (record_decided c.args.arch.now next.now c.name-item.result) c.loop-name-test.true c.name-item.is half.half
                half.holds.1 (c.in_ok-decide_one.ensures.noted next clean half.holds.0),
          )
          c.in_ok-decide_one.field-0 (c.in_ok-decide_one.ensures.change next clean half.holds.0));
    }

pub returns-clause-value : goal.returns-clause-value
returns-clause-value g c = λ at clean holds.
    (decided-done at.now.machine.records c.args.arch.now.name
    (listing_at c.args.arch.now at.now) c.loop-name.counts c.deref-name-items.result.now c.loop-name.name-index
    c.loop-name-test.false (c.loop-name.invariant.half at clean holds)).0.0

pub returns-clause-noted : goal.returns-clause-noted
returns-clause-noted g c = λ at clean holds.
    (decided-done at.now.machine.records c.args.arch.now.name
    (listing_at c.args.arch.now at.now) c.loop-name.counts c.deref-name-items.result.now c.loop-name.name-index
    c.loop-name-test.false (c.loop-name.invariant.half at clean holds)).0.1

pub returns-clause-counts : goal.returns-clause-counts
returns-clause-counts g c = λ at clean holds.
    (decided-done at.now.machine.records c.args.arch.now.name
    (listing_at c.args.arch.now at.now) c.loop-name.counts c.deref-name-items.result.now c.loop-name.name-index
    c.loop-name-test.false (c.loop-name.invariant.half at clean holds)).1
