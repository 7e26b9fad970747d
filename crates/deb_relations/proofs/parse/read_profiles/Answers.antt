use Rattle.std.proofs.lemmas.Result.{err_from_is_err_and}
use Rattle.std.proofs.Common.{◌≡◌, ◌∙◌, ap, sym, rules, eqb, false, true, None}
use Rattle.std.specs.List.{slice_split}
use Rattle.deb_relations.specs.Grammar.{is_blank_text}
use Rattle.deb_relations.specs.Reader.{cut, lists_of, profile_of, read_profiles}
use Rattle.deb_relations.proofs.CutLemmas.{cut-shorter}
use Rattle.deb_relations.proofs.TurnLemmas.{onto, some_pair, no_pair, list-turn, list-refused, lists-end, lists-stray}
use Rattle.deb_relations.specs.declared.fault.RelationFault.{RelationFault}
use Rattle.deb_relations.specs.declared.fault.RelationFault.TheVariants.{BadName}
use Rattle.deb_relations.specs.Reading.{list_fault, profiles_fault}
use Rattle.deb_relations.proofs.FaultTurnLemmas.{lists-passed, list-told, lists-end-told}
use Rattle.std.proofs.Common.{inr}
use Rattle.deb_relations.proofs.BegunLemmas.{profile-begun, profile-good, end-told, where-wanted}
use Rattle.deb_relations.proofs.parse.read_profiles.Goals as goal

pub returns-in_err-profile_of-clause-none : goal.returns-in_err-profile_of-clause-none
unfolding read_profiles
returns-in_err-profile_of-clause-none c =
    let h : cut 62 c.loop-piece.rest.now ≡ some_pair c.in-Some.piece.now c.in-Some.after.now = search rules in
    let stop : profile_of c.in-Some.piece.now ≡ None → read_profiles c.args.text.now ≡ None =
    λ e. sym c.loop-piece.invariant.1 ∙ list-refused c.loop-piece.made c.loop-piece.rest.now (c.in-Some.piece.now, c.in-Some.after.now) h e in
    search (rules, stop)

pub loop-piece-smaller : goal.loop-piece-smaller
loop-piece-smaller c =
    let h : cut 62 c.loop-piece.rest.now ≡ some_pair c.in-Some.piece.now c.in-Some.after.now = search rules in
    cut-shorter 62 c.loop-piece.rest.now (c.in-Some.piece.now, c.in-Some.after.now) h

pub loop-piece-preserved : goal.loop-piece-preserved
loop-piece-preserved c =
    let h : cut 62 c.loop-piece.rest.now ≡ some_pair c.in-Some.piece.now c.in-Some.after.now = search rules in (
      search rules,
      ap (λ m. onto m (lists_of (slice_split (λ b. eqb b 62) c.in-Some.after.now))) c.in_ok-push.ensures.value
          ∙ list-turn c.loop-piece.made c.loop-piece.rest.now (c.in-Some.piece.now, c.in-Some.after.now) c.in_ok-profile_of.field-0 h c.in_ok-profile_of.ensures.ok
          ∙ c.loop-piece.invariant.1,
      lists-passed c.args.end c.loop-piece.rest.now (c.in-Some.piece.now, c.in-Some.after.now) c.in_ok-profile_of.field-0 h c.in_ok-profile_of.ensures.ok
          ∙ c.loop-piece.invariant.2,
      inr (profile-begun c.loop-piece.rest.now c.args.text.now (c.in-Some.piece.now, c.in-Some.after.now) c.loop-piece.invariant.3 h
          (profile-good c.in-Some.piece.now c.in_ok-profile_of.field-0 c.in_ok-profile_of.ensures.ok)),
    )

pub returns-then-not-is_all-clause-none : goal.returns-then-not-is_all-clause-none
unfolding read_profiles
returns-then-not-is_all-clause-none c =
    let h : cut 62 c.loop-piece.rest.now ≡ no_pair = search rules in
    let b : is_blank_text c.loop-piece.rest.now ≡ false = search rules in
    λ _. sym c.loop-piece.invariant.1 ∙ lists-stray c.loop-piece.made c.loop-piece.rest.now h b

pub returns-clause-ok : goal.returns-clause-ok
unfolding read_profiles
returns-clause-ok c =
    let h : cut 62 c.loop-piece.rest.now ≡ no_pair = search rules in
    let b : is_blank_text c.loop-piece.rest.now ≡ true = search rules in
    sym c.loop-piece.invariant.1 ∙ lists-end c.loop-piece.made c.loop-piece.rest.now h b

pub returns-in_err-profile_of-clause-refused : goal.returns-in_err-profile_of-clause-refused
unfolding profiles_fault
returns-in_err-profile_of-clause-refused c =
    let h : cut 62 c.loop-piece.rest.now ≡ some_pair c.in-Some.piece.now c.in-Some.after.now = search rules in
    let stop : (f : RelationFault) → profile_of c.in-Some.piece.now ≡ None → f ≡ list_fault BadName c.end_before.result c.in-Some.piece.now → f ≡ profiles_fault c.args.end c.args.text.now =
    λ f r e. e ∙ ap (λ n. list_fault BadName n c.in-Some.piece.now) c.end_before.ensures
    ∙ sym (list-told c.args.end c.loop-piece.rest.now (c.in-Some.piece.now, c.in-Some.after.now) h r)
    ∙ c.loop-piece.invariant.2 in
    let p = err_from_is_err_and c.from_residual.result c.from_residual.ensures.1 in
    rw (p.1, p.2) (λ n. stop _ (c.in_err-profile_of.ensures.none n) (c.in_err-profile_of.ensures.refused n))

pub returns-then-not-is_all-clause-refused : goal.returns-then-not-is_all-clause-refused
unfolding profiles_fault
returns-then-not-is_all-clause-refused c =
    let h : cut 62 c.loop-piece.rest.now ≡ no_pair = search rules in
    λ _. c.end_fault.ensures ∙ sym (lists-end-told c.args.end c.loop-piece.rest.now h) ∙ c.loop-piece.invariant.2

pub returns-in_err-profile_of-clause-memory : goal.returns-in_err-profile_of-clause-memory
returns-in_err-profile_of-clause-memory c =
    let h : cut 62 c.loop-piece.rest.now ≡ some_pair c.in-Some.piece.now c.in-Some.after.now = search rules in
    let p = err_from_is_err_and c.from_residual.result c.from_residual.ensures.1 in
    rw (p.1, p.2) (λ memory.
    profile-begun c.loop-piece.rest.now c.args.text.now (c.in-Some.piece.now, c.in-Some.after.now) c.loop-piece.invariant.3 h (c.in_err-profile_of.ensures.memory memory))

pub returns-in_err-push-clause-memory : goal.returns-in_err-push-clause-memory
returns-in_err-push-clause-memory c =
    let h : cut 62 c.loop-piece.rest.now ≡ some_pair c.in-Some.piece.now c.in-Some.after.now = search rules in
    where-wanted _
    (profile-begun c.loop-piece.rest.now c.args.text.now (c.in-Some.piece.now, c.in-Some.after.now) c.loop-piece.invariant.3 h
    (profile-good c.in-Some.piece.now c.in_ok-profile_of.field-0 c.in_ok-profile_of.ensures.ok))

pub returns-then-not-is_all-clause-memory : goal.returns-then-not-is_all-clause-memory
returns-then-not-is_all-clause-memory c = λ memory. absurd (end-told c.args.end c.loop-piece.rest.now (sym c.end_fault.ensures ∙ memory))
