-- One list more, or the first that cannot be opened.
use Rattle.std.proofs.Common.{◌≡◌, suc, ◌+◌, ◌++◌, ◌∷◌, [], take, drop, take-append-drop, append_assoc, rules, subst, sym, ap, ◌∙◌, arith, IfNone, IfSome}
use Rattle.std.proofs.Math.Seq.{take-suc}
use Rattle.std.proofs.lemmas.Slice.Zip.{all_zipped_more}
use Rattle.wb_lists.specs.Lists.{OpensPart, OpensParts}
use Rattle.wb_lists.proofs.ListLemmas.{MayReadLess-then}
use Rattle.wb_lists.proofs.OpenedLemmas.{some-parts}
use Rattle.wb_lists.proofs.lists.parts_of.Goals as goal

pub loop-part_names-preserved : goal.loop-part_names-preserved
loop-part_names-preserved g c =
    let before = g.L.Lists.may_read c.args.lists.now in
    let now = g.L.Lists.may_read c.loop-part_names.lists in
    let remaining = g.L.List.Read.remaining in
    let name = c.part_names-item.result in
    let given = subst (λ found. IfSome found (λ part. OpensPart now remaining name part))
    c.in-Some.is c.in_ok-part.ensures.value in
    let counted : c.loop-part_names.part_names-index + 1 ≡ suc c.loop-part_names.part_names-index = omega arith in
    let taken : take (c.loop-part_names.part_names-index + 1) c.args.names.now
    ≡ take c.loop-part_names.part_names-index c.args.names.now ++ name ∷ [] =
    ap (λ count. take count c.args.names.now) counted
    ∙ take-suc c.args.names.now c.loop-part_names.part_names-index _ (omega (arith, c.loop-part_names-test.true))
    ∙ ap (λ item. take c.loop-part_names.part_names-index c.args.names.now ++ item ∷ []) (sym c.part_names-item.is) in
    let pushed : c.push.new.self.items ≡ c.loop-part_names.parts.items ++ c.in-Some.part ∷ [] = search rules in
    record {
      kept = MayReadLess-then before now (g.L.Lists.may_read c.part_of.new.lists) c.loop-part_names.invariant.kept c.part_of.ensures.kept;
      opened = subst (λ names. OpensParts before remaining names c.push.new.self.items) (sym taken)
          (subst (λ parts. OpensParts before remaining (take c.loop-part_names.part_names-index c.args.names.now ++ name ∷ []) parts) (sym pushed)
          (all_zipped_more (OpensPart before remaining) _ c.loop-part_names.parts.items name c.in-Some.part c.loop-part_names.invariant.opened
          (given.0, λ bytes all. c.loop-part_names.invariant.kept.0 name.packages bytes (given.1 bytes all))));
    }

pub returns-in-None-clause-refused : goal.returns-in-None-clause-refused
returns-in-None-clause-refused g c =
    let before = g.L.Lists.may_read c.args.lists.now in
    let now = g.L.Lists.may_read c.loop-part_names.lists in
    let remaining = g.L.List.Read.remaining in
    let name = c.part_names-item.result in
    let index = c.loop-part_names.part_names-index in
    let missed = subst (λ found. IfNone found (now.fails name.packages)) c.in-None.is c.in_ok-part.ensures.refused in
    let parts = some-parts before remaining (take index c.args.names.now) c.loop-part_names.parts.items c.loop-part_names.invariant.opened in
    let taken : take (suc index) c.args.names.now ≡ take index c.args.names.now ++ name ∷ [] =
    take-suc c.args.names.now index _ (omega (arith, c.loop-part_names-test.true))
    ∙ ap (λ item. take index c.args.names.now ++ item ∷ []) (sym c.part_names-item.is) in
    record {
      before = take index c.args.names.now;
      name = name;
      after = drop (suc index) c.args.names.now;
      parts = parts.0;
      is = sym (take-append-drop (suc index) c.args.names.now)
          ∙ ap (λ front. front ++ drop (suc index) c.args.names.now) taken
          ∙ append_assoc (take index c.args.names.now) (name ∷ []) (drop (suc index) c.args.names.now);
      given = parts.1;
      lacks = c.loop-part_names.invariant.kept.1 name.packages missed;
    }
