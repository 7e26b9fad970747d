use Rattle.std.proofs.Common.{◌≡◌, ◌<◌, ◌∙◌, ap, sym, subst, rules, ℕ, false, true, List, [], ◌∷◌, ◌++◌, length, None}
use Rattle.deb_text.specs.Lists.{is_nonempty}
use Rattle.deb_relations.specs.Grammar.{is_white, words}
use Rattle.deb_relations.specs.Reader.{skip, term_of}
use Rattle.deb_text.specs.Options.{all_some}
use Rattle.deb_relations.proofs.FrontLemmas.{stops, skip-stops}
use Rattle.deb_relations.proofs.TurnLemmas.{onto, onto-start, words-skip, filled-from, not-filled, term-turn, term-refused, terms-end, turn-shorter}
use Rattle.std.proofs.Common.{inl, inr}
use Rattle.std.specs.Prelude.{is_some}
use Rattle.std.proofs.lemmas.Result.{err_from_is_err_and}
use Rattle.deb_relations.proofs.BegunLemmas.{term-begun, where-wanted}
use Rattle.deb_relations.proofs.parse.collect_terms.Goals as goal

pub loop-rest-init : goal.loop-rest-init
loop-rest-init c = (
  search rules,
  subst (stops is_white) (sym c.skip_white-rest.ensures) (skip-stops is_white c.args.inside.now),
  ap (λ m. onto m (all_some (term_of c.args.kind) (words c.skip_white-rest.result.now))) c.new-made.ensures
      ∙ onto-start (all_some (term_of c.args.kind) (words c.skip_white-rest.result.now))
      ∙ ap (λ x. all_some (term_of c.args.kind) (words x)) c.skip_white-rest.ensures
      ∙ ap (all_some (term_of c.args.kind)) (words-skip c.args.inside.now),
  inl (ap words c.skip_white-rest.ensures ∙ words-skip c.args.inside.now),
)

pub returns-in_err-term_of-clause-none : goal.returns-in_err-term_of-clause-none
returns-in_err-term_of-clause-none c =
    let t : List ℕ = c.loop-rest.rest.now in
    let empty : c.is_empty.result ≡ false = search rules in
    let filled : is_nonempty t ≡ true = filled-from t c.is_empty.result c.is_empty.ensures empty in
    let stop : term_of c.args.kind c.split_leading.result.0.now ≡ None → all_some (term_of c.args.kind) (words c.args.inside.now) ≡ None =
    λ e. sym c.loop-rest.invariant.2 ∙ term-refused c.args.kind c.loop-rest.made t filled c.loop-rest.invariant.1 (ap (term_of c.args.kind) (sym c.split_leading.ensures.front) ∙ e) in
    search (rules, stop)

pub loop-rest-smaller : goal.loop-rest-smaller
loop-rest-smaller c =
    let t : List ℕ = c.loop-rest.rest.now in
    let empty : c.is_empty.result ≡ false = search rules in
    let filled : is_nonempty t ≡ true = filled-from t c.is_empty.result c.is_empty.ensures empty in
    subst (λ (x : List ℕ). length x < length t) (sym (c.skip_white-rest-in-loop-rest.ensures ∙ ap (skip is_white) c.split_leading.ensures.back)) (turn-shorter t filled c.loop-rest.invariant.1)

pub loop-rest-preserved : goal.loop-rest-preserved
loop-rest-preserved c =
    let t : List ℕ = c.loop-rest.rest.now in
    let empty : c.is_empty.result ≡ false = search rules in
    let filled : is_nonempty t ≡ true = filled-from t c.is_empty.result c.is_empty.ensures empty in
    let term = c.in_ok-term_of.field-0 in (
      search rules,
      subst (stops is_white) (sym c.skip_white-rest-in-loop-rest.ensures) (skip-stops is_white c.split_leading.result.1.now),
      ap (λ m. onto m (all_some (term_of c.args.kind) (words c.skip_white-rest-in-loop-rest.result.now))) c.in_ok-push.ensures.value
          ∙ ap (λ x. onto (c.loop-rest.made ++ term ∷ []) (all_some (term_of c.args.kind) (words x))) (c.skip_white-rest-in-loop-rest.ensures ∙ ap (skip is_white) c.split_leading.ensures.back)
          ∙ term-turn c.args.kind c.loop-rest.made t term filled c.loop-rest.invariant.1 (ap (term_of c.args.kind) (sym c.split_leading.ensures.front) ∙ c.in_ok-term_of.ensures.ok)
          ∙ c.loop-rest.invariant.2,
      inr (term-begun c.args.kind t c.args.inside.now c.loop-rest.invariant.3 filled c.loop-rest.invariant.1
          (ap (λ word. is_some (term_of c.args.kind word)) (sym c.split_leading.ensures.front) ∙ ap is_some c.in_ok-term_of.ensures.ok)),
    )

pub returns-clause-ok : goal.returns-clause-ok
returns-clause-ok c =
    let t : List ℕ = c.loop-rest.rest.now in
    let empty : c.is_empty.result ≡ true = search rules in
    sym c.loop-rest.invariant.2 ∙ terms-end c.args.kind c.loop-rest.made t (not-filled t c.is_empty.result c.is_empty.ensures empty)

pub returns-in_err-term_of-clause-memory : goal.returns-in_err-term_of-clause-memory
returns-in_err-term_of-clause-memory c =
    let t : List ℕ = c.loop-rest.rest.now in
    let empty : c.is_empty.result ≡ false = search rules in
    let filled : is_nonempty t ≡ true = filled-from t c.is_empty.result c.is_empty.ensures empty in
    let p = err_from_is_err_and c.from_residual.result c.from_residual.ensures.1 in
    rw (p.1, p.2) (λ memory.
    term-begun c.args.kind t c.args.inside.now c.loop-rest.invariant.3 filled c.loop-rest.invariant.1
    (ap (λ word. is_some (term_of c.args.kind word)) (sym c.split_leading.ensures.front) ∙ c.in_err-term_of.ensures.memory memory))

pub returns-in_err-push-clause-memory : goal.returns-in_err-push-clause-memory
returns-in_err-push-clause-memory c =
    let t : List ℕ = c.loop-rest.rest.now in
    let empty : c.is_empty.result ≡ false = search rules in
    let filled : is_nonempty t ≡ true = filled-from t c.is_empty.result c.is_empty.ensures empty in
    where-wanted _
    (term-begun c.args.kind t c.args.inside.now c.loop-rest.invariant.3 filled c.loop-rest.invariant.1
    (ap (λ word. is_some (term_of c.args.kind word)) (sym c.split_leading.ensures.front) ∙ ap is_some c.in_ok-term_of.ensures.ok))
