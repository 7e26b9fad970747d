use Rattle.std.proofs.Common.{◌≡◌, ◌∙◌, Some, ap, sym, option_copied}
use Rattle.httparse.proofs.GrammarLemmas.{request_unique}
use Rattle.wb_api.specs.Rights.{shown_by, shown_in}
use Rattle.wb_api.proofs.RequestLemmas.{wanted_same}
use Rattle.wb_api.proofs.request.head_of.Goals as goal

pub returns-in-Some-Some : goal.returns-in-Some-Some
returns-in-Some-Some c = record {
  value = λ count head at.
      let holds = rw c.in-Ok-Complete.field-0-is at c.in-Ok-Complete.ensures.complete in
      let same = request_unique _ _ _ _ _ at.reads holds.1.reads in
      let method : Some c.in-Some-Some.method.now ≡ Some holds.0.method = ap option_copied (sym c.in-Some-Some.is-0) ∙ holds.1.method in
      let target : Some c.in-Some-Some.target.now ≡ Some holds.0.target = ap option_copied (sym c.in-Some-Some.is-1) ∙ holds.1.path in
      wanted_same c.args.service.now c.wanted_from-wanted.result head holds.0
      c.in-Some-Some.method.now c.in-Some-Some.target.now _ same.0 (cc method) (cc target) holds.1.fields
      (c.wanted_from-wanted.ensures.value c.shown_by-shown.ensures.value);
  shown = λ count head at.
      let holds = rw c.in-Ok-Complete.field-0-is at c.in-Ok-Complete.ensures.complete in
      let same = request_unique _ _ _ _ _ at.reads holds.1.reads in
      c.shown_by-shown.ensures.value ∙ ap shown_by holds.1.fields ∙ ap shown_in (sym same.0);
}
