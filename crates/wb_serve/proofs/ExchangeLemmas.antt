-- Exchanges after exchanges.
use Rattle.std.proofs.Common.{◌≡◌, ◌≢◌, ◌∙◌, ap, inl, inr, refl, subst, sym, List, [], ◌∷◌, ◌++◌, append_assoc}
use Rattle.std.proofs.Common.{append-nil, Some}
use Rattle.wb_lists.specs.Lists.{MayRead, MayReadLess}
use Rattle.wb_lists.proofs.ListLemmas.{MayReadLess-same, MayReadLess-then}
use Rattle.wb_states.specs.Machine.{Machine}
use Rattle.wb_states.specs.declared.store_fault.StoreFault.{StoreFault}
use Rattle.wb_step.specs.Offices.{Open, Stands}
use Rattle.wb_api.proofs.MergeAnswerLemmas.{exchange-more}
use Rattle.wb_api.specs.Exchange.{LeadsOn}
use Rattle.wb_api.specs.declared.service.Service.{Service}
use Rattle.wb_serve.specs.declared.clients.ServiceEnd.{ServiceEnd}
use Rattle.wb_serve.specs.declared.clients.ServiceEnd.TheVariants.{Closed}
use Rattle.wb_serve.specs.Exchanges.{Answered, AnswersAll, AnswersOne, AnswersWhile, AreAnswered, IsService, Serves}
use Rattle.wb_serve.specs.Exchanges.{ServesAll, Serving}

module _ {X L : Type 0} (service : Service) (may_read : L → MayRead) (is_clean is_closed : X → Type 0)
    (stands_at : X → Machine → Type 0) (leaves : X → Machine → Machine → StoreFault → Type 0) where
  module _ (IsSo : X → Type 0) where
    -- exchanges one after another
    abbrev Are : List Answered → Serving X L → Serving X L → Type 0
    Are xs a b = AreAnswered service may_read is_clean is_closed stands_at leaves IsSo xs a b

    -- what was answered grew by exchanges
    abbrev Grows : List Answered → List Answered → Serving X L → Serving X L → Type 0
    Grows before after a b = AnswersWhile service may_read is_clean is_closed stands_at leaves IsSo before after a b

    -- ---- one after another

    -- exchanges after exchanges are exchanges
    AreAnswered-append : (xs ys : List Answered) (a b c : Serving X L) → Are xs a b → Are ys b c → Are (xs ++ ys) a c
    AreAnswered-append [] ys a b c first later = subst (λ start. Are ys start c) first later
    AreAnswered-append (x ∷ xs) ys a b c first later =
        (first.0, first.1, first.2, AreAnswered-append xs ys first.1 b c first.3 later)

    -- what was read of the store was what was written, up to the end and so up to the beginning
    AreAnswered-clean : (xs : List Answered) (a b : Serving X L) → Are xs a b → is_clean b.office → is_clean a.office
    AreAnswered-clean [] a b all clean = subst (λ serving. is_clean serving.office) all clean
    AreAnswered-clean (x ∷ xs) a b all clean = all.2.clean (AreAnswered-clean xs all.1 b all.3 clean)

    -- ---- what was answered

    -- exchanges, and then one more or none
    pub AnswersWhile-then : (first middle last : List Answered) (a b c : Serving X L) → Grows first middle a b
        → IsSo b.office → AnswersOne service may_read is_clean is_closed stands_at leaves middle last b c
        → Grows first last a c
    AnswersWhile-then first middle last a b c all so (inl (same, kept)) =
        (all.0, same ∙ all.1, subst (λ end. Are all.0 a end) (sym kept) all.2)
    AnswersWhile-then first middle last a b c all so (inr (one, grows, is)) = (
      all.0 ++ one ∷ [],
      grows ∙ ap (λ list. list ++ one ∷ []) all.1 ∙ append_assoc first all.0 (one ∷ []),
      AreAnswered-append all.0 (one ∷ []) a b c all.2 (so, c, is, refl),
    )

    -- exchanges, and then more of them
    pub AnswersWhile-after : (first middle last : List Answered) (a b c : Serving X L)
        → Grows first middle a b → Grows middle last b c → Grows first last a c
    AnswersWhile-after first middle last a b c one two = (
      one.0 ++ two.0,
      two.1 ∙ ap (λ list. list ++ two.0) one.1 ∙ append_assoc first one.0 two.0,
      AreAnswered-append one.0 two.0 a b c one.2 two.2,
    )

    -- what was answered stays as it is if nothing is answered
    pub AnswersWhile-kept : (before middle after : List Answered) (a b : Serving X L)
        → Grows before middle a b → after ≡ middle → Grows before after a b
    AnswersWhile-kept before middle after a b all same = (all.0, same ∙ all.1, all.2)

  -- ---- the states of the office

  -- exchanges of an office that is not closed before any of them lead from each state at which it stood, by what its
  -- lists might be read as at the start or before it
  pub served-leads : (from : MayRead) (xs : List Answered) (a b : Serving X L) → MayReadLess from (may_read a.lists)
      → Are (λ office. ¬ (is_closed office)) xs a b → LeadsOn is_clean is_closed stands_at leaves a.office b.office
      (λ first found standing. Serves service from xs first found standing)
  served-leads from [] a b less served = λ before clean stands. (
    before,
    Open,
    subst (λ serving. stands_at serving.office before) (sym served) stands,
    ((refl, refl), λ on. refl),
  )
  served-leads from (x ∷ []) a b less served = λ before clean stands.
      let between_clean = subst (λ serving. is_clean serving.office) served.3 clean in
      let one = served.2.leads before between_clean stands in
      let did = exchange-more from (may_read a.lists) less service.access served.2.received before one.0 one.1
      (Some []) (Some x.answer) served.2.ended one.3.0 in (
        one.0,
        one.1,
        subst (λ serving. Stands is_closed stands_at leaves serving.office one.0 one.1) (sym served.3) one.2,
        (
          (served.2.received, served.2.ended, one.0, one.1, served.2.means, did, inl (refl, refl, refl)),
          λ on. one.3.1 (λ shut. on (subst (λ serving. is_closed serving.office) (sym served.3) shut)),
        ),
      )
  served-leads from (x ∷ y ∷ ys) a b less served = λ before clean stands.
      let between_clean = AreAnswered-clean (λ office. ¬ (is_closed office)) (y ∷ ys) served.1 b served.3 clean in
      let one = served.2.leads before between_clean stands in
      let did = exchange-more from (may_read a.lists) less service.access served.2.received before one.0 one.1
      (Some []) (Some x.answer) served.2.ended one.3.0 in
      let is_open = one.3.1 served.3.0 in
      let stands_on = subst (λ standing. Stands is_closed stands_at leaves served.1.office one.0 standing)
      is_open one.2 in
      let still = MayReadLess-then from (may_read a.lists) (may_read served.1.lists) less served.2.kept in
      let others = served-leads from (y ∷ ys) served.1 b still served.3 one.0 clean stands_on in (
        others.0,
        others.1,
        others.2,
        (
          (served.2.received, served.2.ended, one.0, one.1, served.2.means, did, inr (is_open, others.3.0)),
          others.3.1,
        ),
      )

  -- ---- a service

  -- a service that ends while the office is open
  pub service-ends : (before after : List Answered) (a b : Serving X L) (ended : ServiceEnd)
      → ServesAll service may_read is_clean is_closed stands_at leaves before after a b → ended ≢ Closed
      → IsService service may_read is_clean is_closed stands_at leaves before after a b ended
  service-ends before after a b ended all other = record {
    more = all.0;
    late = [];
    last = b;
    grows = all.1 ∙ sym (append-nil (before ++ all.0));
    leads = served-leads (may_read a.lists) all.0 a b (MayReadLess-same (may_read a.lists)) all.2;
    served = all.2;
    closed = inl refl;
    tells = λ same. absurd (other same);
    later = refl;
  }

  -- a service that ends since the office is closed, which then answers those who wait
  pub service-closes : (before middle last after : List Answered) (a b c : Serving X L) (ended : ServiceEnd)
      → ServesAll service may_read is_clean is_closed stands_at leaves before middle a b → is_closed b.office
      → AnswersAll service may_read is_clean is_closed stands_at leaves middle last b c → after ≡ last
      → IsService service may_read is_clean is_closed stands_at leaves before after a c ended
  service-closes before middle last after a b c ended all shut late same = record {
    more = all.0;
    late = late.0;
    last = b;
    grows = same ∙ late.1 ∙ ap (λ list. list ++ late.0) all.1;
    leads = served-leads (may_read a.lists) all.0 a b (MayReadLess-same (may_read a.lists)) all.2;
    served = all.2;
    closed = inr shut;
    tells = λ same. shut;
    later = late.2;
  }
