use Rattle.std.proofs.lemmas.Result.{err_from_is_err_and}
use Rattle.std.proofs.Common.{◌≡◌, ◌∙◌, ap, sym, rules, eqb, None}
use Rattle.std.specs.List.{slice_split}
use Rattle.deb_relations.specs.Reader.{cut, read_groups, with_group}
use Rattle.deb_relations.proofs.CutLemmas.{cut-shorter}
use Rattle.deb_relations.proofs.TurnLemmas.{some_pair, no_pair, group-turn, group-refused, group-end, last-group-refused}
use Rattle.std.proofs.Common.{filter}
use Rattle.deb_relations.specs.Grammar.{is_not_blank}
use Rattle.deb_relations.specs.Reader.{read_group}
use Rattle.deb_text.specs.Options.{all_some}
use Rattle.deb_relations.proofs.TurnLemmas.{onto, onto-start}
use Rattle.std.proofs.Common.{refl, length}
use Rattle.deb_relations.specs.declared.fault.RelationFault.{RelationFault}
use Rattle.deb_relations.specs.Reading.{end_before, is_group_or_blank, group_fault, groups_fault}
use Rattle.deb_relations.proofs.FaultTurnLemmas.{first-passed, first-told, last-told, is-group, no-group}
use Rattle.std.proofs.Common.{inl}
use Rattle.deb_relations.proofs.BegunLemmas.{groups-begun, last-begun, groups-behind}
use Rattle.deb_relations.proofs.parse.read_groups.Goals as goal

pub returns-in_err-add_group-clause-none : goal.returns-in_err-add_group-clause-none
unfolding read_groups
returns-in_err-add_group-clause-none c =
    let h : cut 44 c.loop-piece.rest.now ≡ some_pair c.in-Some.piece.now c.in-Some.after.now = search rules in
    let stop : with_group c.loop-piece.made c.in-Some.piece.now ≡ None → read_groups c.args.text.now ≡ None =
    λ e. sym c.loop-piece.invariant.1 ∙ group-refused c.loop-piece.made c.loop-piece.rest.now (c.in-Some.piece.now, c.in-Some.after.now) h e in
    search (rules, stop)

pub loop-piece-smaller : goal.loop-piece-smaller
loop-piece-smaller c =
    let h : cut 44 c.loop-piece.rest.now ≡ some_pair c.in-Some.piece.now c.in-Some.after.now = search rules in
    cut-shorter 44 c.loop-piece.rest.now (c.in-Some.piece.now, c.in-Some.after.now) h

pub loop-piece-preserved : goal.loop-piece-preserved
loop-piece-preserved c =
    let h : cut 44 c.loop-piece.rest.now ≡ some_pair c.in-Some.piece.now c.in-Some.after.now = search rules in (
      search rules,
      group-turn c.loop-piece.made c.add_group.new.made c.loop-piece.rest.now (c.in-Some.piece.now, c.in-Some.after.now) h c.in_ok-add_group.ensures.ok
          ∙ c.loop-piece.invariant.1,
      first-passed is_group_or_blank group_fault 44 (length c.args.text.now) c.loop-piece.rest.now (c.in-Some.piece.now, c.in-Some.after.now) h (is-group c.loop-piece.made c.add_group.new.made c.in-Some.piece.now c.in_ok-add_group.ensures.ok)
          ∙ c.loop-piece.invariant.2,
      groups-behind c.loop-piece.made c.add_group.new.made c.loop-piece.rest.now c.args.text.now (c.in-Some.piece.now, c.in-Some.after.now)
          c.loop-piece.invariant.3 h c.in_ok-add_group.ensures.ok,
    )

pub returns-in_err-add_group-2-clause-none : goal.returns-in_err-add_group-2-clause-none
unfolding read_groups
returns-in_err-add_group-2-clause-none c =
    let h : cut 44 c.loop-piece.rest.now ≡ no_pair = search rules in
    let stop : with_group c.loop-piece.made c.loop-piece.rest.now ≡ None → read_groups c.args.text.now ≡ None =
    λ e. sym c.loop-piece.invariant.1 ∙ last-group-refused c.loop-piece.made c.loop-piece.rest.now h e in
    search (rules, stop)

pub returns-clause-ok : goal.returns-clause-ok
unfolding read_groups
returns-clause-ok c =
    let h : cut 44 c.loop-piece.rest.now ≡ no_pair = search rules in
    sym c.loop-piece.invariant.1 ∙ group-end c.loop-piece.made c.add_group-2.new.made c.loop-piece.rest.now h c.in_ok-add_group-2.ensures.ok

pub loop-piece-init : goal.loop-piece-init
loop-piece-init c = (
  search rules,
  ap (λ m. onto m (all_some read_group (filter is_not_blank (slice_split (λ b. eqb b 44) c.args.text.now)))) c.new-made.ensures
      ∙ onto-start (all_some read_group (filter is_not_blank (slice_split (λ b. eqb b 44) c.args.text.now))),
  refl,
  inl refl,
)

pub returns-in_err-add_group-clause-refused : goal.returns-in_err-add_group-clause-refused
unfolding groups_fault
returns-in_err-add_group-clause-refused c =
    let h : cut 44 c.loop-piece.rest.now ≡ some_pair c.in-Some.piece.now c.in-Some.after.now = search rules in
    let place : c.end_before.result ≡ end_before (length c.args.text.now) c.in-Some.after.now = search rules in
    let stop : (f : RelationFault) → with_group c.loop-piece.made c.in-Some.piece.now ≡ None → f ≡ group_fault c.end_before.result c.in-Some.piece.now → f ≡ groups_fault c.args.text.now =
    λ f r e. e ∙ ap (λ n. group_fault n c.in-Some.piece.now) place
    ∙ sym (first-told is_group_or_blank group_fault 44 (length c.args.text.now) c.loop-piece.rest.now (c.in-Some.piece.now, c.in-Some.after.now) h (no-group c.loop-piece.made c.in-Some.piece.now r))
    ∙ c.loop-piece.invariant.2 in
    let p = err_from_is_err_and c.from_residual.result c.from_residual.ensures.1 in
    rw (p.1, p.2) (λ n. stop _ (c.in_err-add_group.ensures.none n) (c.in_err-add_group.ensures.refused n))

pub returns-in_err-add_group-2-clause-refused : goal.returns-in_err-add_group-2-clause-refused
unfolding groups_fault
returns-in_err-add_group-2-clause-refused c =
    let h : cut 44 c.loop-piece.rest.now ≡ no_pair = search rules in
    let stop : (f : RelationFault) → with_group c.loop-piece.made c.loop-piece.rest.now ≡ None → f ≡ group_fault (length c.args.text.now) c.loop-piece.rest.now → f ≡ groups_fault c.args.text.now =
    λ f r e. e
    ∙ sym (last-told is_group_or_blank group_fault 44 (length c.args.text.now) c.loop-piece.rest.now h (no-group c.loop-piece.made c.loop-piece.rest.now r)) ∙ c.loop-piece.invariant.2 in
    let p = err_from_is_err_and c.from_residual-in_err-add_group-2.result c.from_residual-in_err-add_group-2.ensures.1 in
    rw (p.1, p.2) (λ n. stop _ (c.in_err-add_group-2.ensures.none n) (c.in_err-add_group-2.ensures.refused n))

pub returns-in_err-add_group-clause-memory : goal.returns-in_err-add_group-clause-memory
returns-in_err-add_group-clause-memory c =
    let h : cut 44 c.loop-piece.rest.now ≡ some_pair c.in-Some.piece.now c.in-Some.after.now = search rules in
    let p = err_from_is_err_and c.from_residual.result c.from_residual.ensures.1 in
    rw (p.1, p.2) (λ memory.
    let named = c.in_err-add_group.ensures.memory memory in
    groups-begun c.loop-piece.rest.now c.args.text.now (c.in-Some.piece.now, c.in-Some.after.now) c.loop-piece.invariant.3 h named.0 named.1)

pub returns-in_err-add_group-2-clause-memory : goal.returns-in_err-add_group-2-clause-memory
returns-in_err-add_group-2-clause-memory c =
    let h : cut 44 c.loop-piece.rest.now ≡ no_pair = search rules in
    let p = err_from_is_err_and c.from_residual-in_err-add_group-2.result c.from_residual-in_err-add_group-2.ensures.1 in
    rw (p.1, p.2) (λ memory.
    let named = c.in_err-add_group-2.ensures.memory memory in
    last-begun c.loop-piece.rest.now c.args.text.now c.loop-piece.invariant.3 h named.0 named.1)
