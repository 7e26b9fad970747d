use Rattle.std.proofs.lemmas.Result.{err_from_is_err_and}
use Rattle.std.proofs.Common.{◌≡◌, ◌∙◌, ap, sym, rules, eqb, None, Some}
use Rattle.std.specs.List.{slice_split}
use Rattle.deb_relations.specs.Reader.{cut, read_alternative, read_group}
use Rattle.deb_text.specs.Options.{all_some}
use Rattle.deb_relations.proofs.CutLemmas.{cut-shorter}
use Rattle.deb_relations.proofs.TurnLemmas.{onto, onto-start, some_pair, no_pair, piece-turn, piece-refused, piece-end, last-refused}
use Rattle.std.proofs.Common.{refl}
use Rattle.deb_relations.specs.declared.fault.RelationFault.{RelationFault}
use Rattle.deb_relations.specs.Reading.{is_alternative, alternative_fault, group_fault}
use Rattle.deb_relations.proofs.FaultTurnLemmas.{first-passed, first-told, last-told, is-read, not-read}
use Rattle.std.proofs.Common.{inl, inr}
use Rattle.deb_relations.proofs.BegunLemmas.{read-name, begun-piece, begun-last, where-wanted}
use Rattle.deb_relations.proofs.parse.read_group.Goals as goal

pub returns-in_err-read_alternative-clause-none : goal.returns-in_err-read_alternative-clause-none
unfolding read_group
returns-in_err-read_alternative-clause-none c =
    let h : cut 124 c.loop-piece.rest.now ≡ some_pair c.in-Some.piece.now c.in-Some.after.now = search rules in
    let stop : read_alternative c.in-Some.piece.now ≡ None → read_group c.args.text.now ≡ None =
    λ e. sym c.loop-piece.invariant.1 ∙ piece-refused read_alternative 124 c.loop-piece.made c.loop-piece.rest.now (c.in-Some.piece.now, c.in-Some.after.now) h e in
    search (rules, stop)

pub loop-piece-smaller : goal.loop-piece-smaller
loop-piece-smaller c =
    let h : cut 124 c.loop-piece.rest.now ≡ some_pair c.in-Some.piece.now c.in-Some.after.now = search rules in
    cut-shorter 124 c.loop-piece.rest.now (c.in-Some.piece.now, c.in-Some.after.now) h

pub loop-piece-preserved : goal.loop-piece-preserved
loop-piece-preserved c =
    let h : cut 124 c.loop-piece.rest.now ≡ some_pair c.in-Some.piece.now c.in-Some.after.now = search rules in (
      search rules,
      ap (λ m. onto m (all_some read_alternative (slice_split (λ b. eqb b 124) c.in-Some.after.now))) c.in_ok-push.ensures.value
          ∙ piece-turn read_alternative 124 c.loop-piece.made c.loop-piece.rest.now (c.in-Some.piece.now, c.in-Some.after.now) c.in_ok-read_alternative.field-0 h c.in_ok-read_alternative.ensures.ok
          ∙ c.loop-piece.invariant.1,
      first-passed is_alternative alternative_fault 124 c.args.end c.loop-piece.rest.now (c.in-Some.piece.now, c.in-Some.after.now) h (is-read c.in-Some.piece.now c.in_ok-read_alternative.field-0 c.in_ok-read_alternative.ensures.ok)
          ∙ c.loop-piece.invariant.2,
      inr (begun-piece c.loop-piece.rest.now c.args.text.now (c.in-Some.piece.now, c.in-Some.after.now) c.loop-piece.invariant.3 h
          (read-name c.in-Some.piece.now c.in_ok-read_alternative.field-0 c.in_ok-read_alternative.ensures.ok)),
    )

pub returns-in_err-read_alternative-2-clause-none : goal.returns-in_err-read_alternative-2-clause-none
unfolding read_group
returns-in_err-read_alternative-2-clause-none c =
    let h : cut 124 c.loop-piece.rest.now ≡ no_pair = search rules in
    let stop : read_alternative c.loop-piece.rest.now ≡ None → read_group c.args.text.now ≡ None =
    λ e. sym c.loop-piece.invariant.1 ∙ last-refused read_alternative 124 c.loop-piece.made c.loop-piece.rest.now h e in
    search (rules, stop)

pub returns-clause-ok : goal.returns-clause-ok
unfolding read_group
returns-clause-ok c =
    let h : cut 124 c.loop-piece.rest.now ≡ no_pair = search rules in
    sym c.loop-piece.invariant.1
    ∙ piece-end read_alternative 124 c.loop-piece.made c.loop-piece.rest.now c.in_ok-read_alternative-2.field-0 h c.in_ok-read_alternative-2.ensures.ok
    ∙ ap Some (sym c.in_ok-push-2.ensures.value)

pub loop-piece-init : goal.loop-piece-init
loop-piece-init c = (
  search rules,
  ap (λ m. onto m (all_some read_alternative (slice_split (λ b. eqb b 124) c.args.text.now))) c.new-made.ensures
      ∙ onto-start (all_some read_alternative (slice_split (λ b. eqb b 124) c.args.text.now)),
  refl,
  inl refl,
)

pub returns-in_err-read_alternative-clause-refused : goal.returns-in_err-read_alternative-clause-refused
unfolding group_fault
returns-in_err-read_alternative-clause-refused c =
    let h : cut 124 c.loop-piece.rest.now ≡ some_pair c.in-Some.piece.now c.in-Some.after.now = search rules in
    let stop : (f : RelationFault) → read_alternative c.in-Some.piece.now ≡ None → f ≡ alternative_fault c.end_before.result c.in-Some.piece.now → f ≡ group_fault c.args.end c.args.text.now =
    λ f r e. e ∙ ap (λ n. alternative_fault n c.in-Some.piece.now) c.end_before.ensures
    ∙ sym (first-told is_alternative alternative_fault 124 c.args.end c.loop-piece.rest.now (c.in-Some.piece.now, c.in-Some.after.now) h (not-read c.in-Some.piece.now r))
    ∙ c.loop-piece.invariant.2 in
    let p = err_from_is_err_and c.from_residual.result c.from_residual.ensures.1 in
    rw (p.1, p.2) (λ n. stop _ (c.in_err-read_alternative.ensures.none n) (c.in_err-read_alternative.ensures.refused n))

pub returns-in_err-read_alternative-2-clause-refused : goal.returns-in_err-read_alternative-2-clause-refused
unfolding group_fault
returns-in_err-read_alternative-2-clause-refused c =
    let h : cut 124 c.loop-piece.rest.now ≡ no_pair = search rules in
    let stop : (f : RelationFault) → read_alternative c.loop-piece.rest.now ≡ None → f ≡ alternative_fault c.args.end c.loop-piece.rest.now → f ≡ group_fault c.args.end c.args.text.now =
    λ f r e. e ∙ sym (last-told is_alternative alternative_fault 124 c.args.end c.loop-piece.rest.now h (not-read c.loop-piece.rest.now r)) ∙ c.loop-piece.invariant.2 in
    let p = err_from_is_err_and c.from_residual-in_err-read_alternative-2.result c.from_residual-in_err-read_alternative-2.ensures.1 in
    rw (p.1, p.2) (λ n. stop _ (c.in_err-read_alternative-2.ensures.none n) (c.in_err-read_alternative-2.ensures.refused n))

pub returns-in_err-read_alternative-clause-memory : goal.returns-in_err-read_alternative-clause-memory
returns-in_err-read_alternative-clause-memory c =
    let h : cut 124 c.loop-piece.rest.now ≡ some_pair c.in-Some.piece.now c.in-Some.after.now = search rules in
    let p = err_from_is_err_and c.from_residual.result c.from_residual.ensures.1 in
    rw (p.1, p.2) (λ memory.
    begun-piece c.loop-piece.rest.now c.args.text.now (c.in-Some.piece.now, c.in-Some.after.now) c.loop-piece.invariant.3 h (c.in_err-read_alternative.ensures.memory memory))

pub returns-in_err-read_alternative-2-clause-memory : goal.returns-in_err-read_alternative-2-clause-memory
returns-in_err-read_alternative-2-clause-memory c =
    let h : cut 124 c.loop-piece.rest.now ≡ no_pair = search rules in
    let p = err_from_is_err_and c.from_residual-in_err-read_alternative-2.result c.from_residual-in_err-read_alternative-2.ensures.1 in
    rw (p.1, p.2) (λ memory.
    begun-last c.loop-piece.rest.now c.args.text.now c.loop-piece.invariant.3 h (c.in_err-read_alternative-2.ensures.memory memory))

pub returns-in_err-push-clause-memory : goal.returns-in_err-push-clause-memory
returns-in_err-push-clause-memory c =
    let h : cut 124 c.loop-piece.rest.now ≡ some_pair c.in-Some.piece.now c.in-Some.after.now = search rules in
    where-wanted _ (begun-piece c.loop-piece.rest.now c.args.text.now (c.in-Some.piece.now, c.in-Some.after.now) c.loop-piece.invariant.3 h
    (read-name c.in-Some.piece.now c.in_ok-read_alternative.field-0 c.in_ok-read_alternative.ensures.ok))

pub returns-in_err-push-2-clause-memory : goal.returns-in_err-push-2-clause-memory
returns-in_err-push-2-clause-memory c =
    let h : cut 124 c.loop-piece.rest.now ≡ no_pair = search rules in
    where-wanted _ (begun-last c.loop-piece.rest.now c.args.text.now c.loop-piece.invariant.3 h
    (read-name c.loop-piece.rest.now c.in_ok-read_alternative-2.field-0 c.in_ok-read_alternative-2.ensures.ok))
