use Rattle.std.proofs.Common.{◌≢◌, ◌∙◌, List, Ok, ap, subst, bytes_eq, IfSome, IfNone}
use Rattle.deb_relations.specs.declared.relations.Alternative.{Alternative}
use Rattle.deb_relations.specs.Grammar.{Reads}
use Rattle.deb_relations.specs.Reading.{reading_of}
use Rattle.wb_states.specs.Machine.{with_words}
use Rattle.wb_store.proofs.OpeningWaitLemmas.{are_waits, not_waits}
use Rattle.wb_store.proofs.checks.forms.are_waits.Goals as goal

pub returns-in_ok-text-in-Some : goal.returns-in_ok-text-in-Some
returns-in_ok-text-in-Some c =
    let waits = c.args.waits.now in
    let reads : Reads waits c.in-Some.relations = subst (λ found. IfSome found (Reads waits)) c.in-Some.is c.in_ok-relations.ensures.value in
    record {
      value = are_waits (with_words c.args.name.now c.args.words.now) waits c.requires.within.within c.eq.result c.as_str-in-Some.result.now c.in-Some.relations
          (c.eq.ensures ∙ ap (bytes_eq c.as_str-in-Some.result.now) c.as_str-in-Some-2.ensures) (c.as_str-in-Some.ensures.value ∙ c.in_ok-text-in-Some.ensures.value) reads;
    }

pub returns-in-None : goal.returns-in-None
returns-in-None c = record {
  value = not_waits (with_words c.args.name.now c.args.words.now) c.args.waits.now c.requires.within.within
      (subst (λ found. IfNone found ((relations : List (List Alternative)) → reading_of c.args.waits.now ≢ Ok relations)) c.in-None.is c.in_ok-relations.ensures.none);
}
