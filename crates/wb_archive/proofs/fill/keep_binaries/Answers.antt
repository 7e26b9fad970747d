use Rattle.std.proofs.Common.{◌+◌, ◌++◌, List, Option, length, sym, ap, subst, ◌∙◌, arith}
use Rattle.std.specs.BTreeSet.{contains}
use Rattle.deb_text.specs.Text.{text_cmp}
use Rattle.wb_states.specs.declared.scratch.BinaryRow.{BinaryRow}
use Rattle.wb_archive.specs.Fills.{binaries_behind, binary_kept, last_behind, numbered}
use Rattle.wb_archive.specs.Tables.{with_binaries}
use Rattle.wb_archive.proofs.FillLemmas.{IsHalfKept, half-kept}
use Rattle.wb_archive.proofs.fill.keep_binaries.Goals as goal

pub loop-row-preserved : goal.loop-row-preserved
loop-row-preserved g c =
    let laws = g.met.T.MergeTables in
    let stands = c.loop-row.invariant in
    let kept = c.in_ok-keep_binary.ensures in
    let waited = contains text_cmp c.args.waited.now in
    let placed = c.loop-row.placed in
    let rest = c.next.new.self.rest.items in
    let next : BinaryRow = record c.in-Some.row { seq = placed + 1 } in
    let steps = c.in-Some.ensures.steps.0 in
    record {
      follows = laws.follows_on c.args.tables.now c.loop-row.tables c.keep_binary.new.tables stands.follows
          kept.calls.follows;
      count = let more = ap length steps in omega (arith, stands.count, more);
      last = ap (λ (o : Option BinaryRow). last_behind waited o (numbered (placed + 1) rest)) kept.last
          ∙ ap (λ (l : List BinaryRow). last_behind waited c.loop-row.last (numbered placed l)) (sym steps)
          ∙ stands.last;
      half = λ at clean holds below.
          let whole = at.now.binaries ++ binaries_behind waited c.args.last.now
          (numbered c.args.placed.now c.args.rows.items) in
          let before = stands.half at (laws.clean c.loop-row.tables c.keep_binary.new.tables kept.calls.follows clean)
          holds below in
          let was = subst (λ (l : List BinaryRow). IsHalfKept waited whole c.loop-row.last placed l before.0) steps
          before.1.1 in (
            before.0 ++ binary_kept waited c.loop-row.last next,
            (
              kept.value (with_binaries before.0 at) clean before.1.0 was.below,
              subst (λ (o : Option BinaryRow). IsHalfKept waited whole o (placed + 1) rest
                  (before.0 ++ binary_kept waited c.loop-row.last next)) (sym kept.last)
                  (half-kept waited whole c.loop-row.last placed c.in-Some.row rest before.0 was),
            ),
          );
    }
