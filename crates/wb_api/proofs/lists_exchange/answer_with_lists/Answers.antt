-- What is answered to the bytes of a request, which the reader and the writer keep.
use Rattle.std.proofs.Common.{◌∙◌, ap, subst, sym, Some, [], IfSome}
use Rattle.wb_api.specs.Requests.{MeansWith}
use Rattle.wb_api.specs.Exchange.{ExchangesWith, LeadsOn}
use Rattle.wb_api.proofs.lists_exchange.answer_with_lists.Goals as goal

pub returns : goal.returns
returns g c =
    let may_read = g.L.Lists.may_read c.args.lists.now in
    let v = c.serve_with_lists-served.ensures.value in
    let came = ap (λ s. s.bytes) c.new-reader.ensures.value in
    let empty = ap (λ s. s.bytes) c.new-writer.ensures.value ∙ ap (λ items. Some items) c.new.ensures.items in
    let written = c.into_inner.ensures.value in
    record {
      clean = c.serve_with_lists-served.ensures.clean;
      kept = c.serve_with_lists-served.ensures.kept;
      value = (
        v.0,
        subst (λ bytes. IfSome bytes (λ input. MeansWith c.args.service.now input v.0)) came v.1.value,
        v.2,
        v.3,
        subst (λ new. LeadsOn g.O.CarryOut.is_clean g.O.CarryOut.is_closed g.O.CarryOut.stands_at g.O.CarryOut.leaves
            c.args.office.now c.serve_with_lists-served.new.office (λ before after standing.
            ExchangesWith c.args.service.now.access may_read v.0 before after standing (Some []) new c.serve_with_lists-served.result))
            (sym written)
            (subst (λ old. LeadsOn g.O.CarryOut.is_clean g.O.CarryOut.is_closed g.O.CarryOut.stands_at
            g.O.CarryOut.leaves
            c.args.office.now c.serve_with_lists-served.new.office (λ before after standing.
            ExchangesWith c.args.service.now.access may_read v.0 before after standing old c.serve_with_lists-served.new.writer.bytes
            c.serve_with_lists-served.result)) empty v.4),
      );
    }
