-- A request that is not allowed leaves the office as it was, and so does one of which that is not found out.
use Rattle.std.proofs.Common.{◌≡◌, ◌∙◌, Err, None, Some, true, IfErr, ap, inl, inr, option_map, refl, subst, sym}
use Rattle.std.proofs.lemmas.Bool.{false≢true}
use Rattle.deb_text.specs.Options.{has_value}
use Rattle.wb_keys.specs.Access.{rights_of}
use Rattle.wb_keys.specs.Rights.{rights_named}
use Rattle.wb_states.specs.Refusals.{IsOfMachine, is_of_store}
use Rattle.wb_step.specs.Offices.{Failed, Open, StandsOn}
use Rattle.wb_api.specs.Exchange.{IsNotAllowed, over_http, response_of_answer}
use Rattle.wb_api.specs.Rights.{LooksUp, NeedsHolder, may_request}
use Rattle.wb_api.proofs.ExchangeLemmas.{refusal-leads_on, store-shuts}
use Rattle.wb_api.proofs.ResponseLemmas.{memory-refusal, said-as}
use Rattle.wb_api.proofs.rights.not_allowed.Goals as goal

pub returns-in_default-clause-value : goal.returns-in_default-clause-value
returns-in_default-clause-value g c = λ before clean stands.
    let none : rights_of c.args.access.now c.args.shown.now ≡ None =
    sym c.rights_of.ensures.value ∙ ap (option_map rights_named) c.in_default.is in
    let denied = ap (has_value (λ rights. may_request rights before c.args.request.now)) none in
    (before, Open, stands, ((refl, inl (denied, c.fault_answer.ensures.value before, refl)), λ open_still. refl))

pub returns-in-Ok-false-clause-value : goal.returns-in-Ok-false-clause-value
returns-in-Ok-false-clause-value g c = λ before clean stands.
    let some : rights_of c.args.access.now c.args.shown.now ≡ Some (rights_named c.in-Some.rights) =
    sym c.rights_of.ensures.value ∙ ap (option_map rights_named) c.in-Some.is in
    let got = c.in-Ok-false.ensures.value before clean stands in
    let denied = ap (has_value (λ rights. may_request rights before c.args.request.now)) some
    ∙ sym got.0 ∙ c.in-Ok-false.field-0-test in (
      before,
      Open,
      got.1,
      (
        (refl, inl (denied, c.fault_answer-in-Ok-false.ensures.value before, refl)),
        λ open_still. refl,
      ),
    )

pub returns-in-Err-clause-value : goal.returns-in-Err-clause-value
returns-in-Err-clause-value g c =
    let some : rights_of c.args.access.now c.args.shown.now ≡ Some (rights_named c.in-Some.rights) =
    sym c.rights_of.ensures.value ∙ ap (option_map rights_named) c.in-Some.is in
    let refusal = c.in-Err.refusal in
    let is_closed = g.O.CarryOut.is_closed in
    let new = c.may_request.new.office in
    let e : c.may_request.result ≡ Err refusal = c.in-Err.is in
    let may = c.may_request.ensures in
    let needs = subst (λ r. IfErr r (λ _. NeedsHolder (rights_named c.in-Some.rights) c.args.request.now)) e may.asks in
    let looks : LooksUp c.args.access.now c.args.shown.now c.args.request.now =
    (rights_named c.in-Some.rights, some, needs) in
    let on : ¬ (is_closed c.args.office.now) → StandsOn (is_closed new) (Err refusal) =
    λ still. subst (λ r. StandsOn (is_closed new) r) e (may.stands still) in
    let only = subst (λ r. IfErr r (λ one. IsOfMachine one → is_of_store one ≡ true)) e may.refused in
    let said = c.refusal_answer.ensures.value in
    let response = response_of_answer c.refusal_answer.result in
    refusal-leads_on g.O.CarryOut.is_clean is_closed g.O.CarryOut.stands_at g.O.CarryOut.leaves c.args.office.now new
    (λ before after standing. (after ≡ before) × IsNotAllowed c.args.access.now c.args.shown.now before
    c.args.request.now (response before) standing) refusal
    (store-shuts is_closed c.args.office.now new refusal may.shut on)
    (λ before clean stands is. (
      may.closed before clean stands (e ∙ ap Err is),
      (refl, inr (looks, inr (inl (said-as over_http before (response before) is (said before), refl)))),
    ))
    (λ before clean stands fault is. (
      Failed fault,
      may.store before clean stands fault (e ∙ ap Err is),
      (refl, inr (looks, inr (inr (fault, said-as over_http before (response before) is (said before), refl)))),
    ))
    (λ before clean stands is. (
      may.memory before clean stands (e ∙ ap Err is),
      (
        refl,
        inr (
          looks,
          inl (
            memory-refusal over_http before (response before)
                (said-as over_http before (response before) is (said before)),
            refl,
          ),
        ),
      ),
    ))
    (λ before clean stands of_machine other. absurd (false≢true (sym other ∙ only of_machine)))
