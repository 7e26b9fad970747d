use Rattle.std.proofs.Common.{ap, ◌∙◌}
use Rattle.std.proofs.lemmas.Result.{IfOk-weaker}
use Rattle.wb_store.proofs.ReadLemmas.{handed_on}
use Rattle.wb_step.specs.Targets.{first_named}
use Rattle.wb_office.specs.Keys.{key_at}
use Rattle.wb_office.specs.Sought.{key_named}
use Rattle.wb_store.proofs.FindsLemmas.{both_ok, fails_to_find, made_after}
use Rattle.wb_office.proofs.SoughtLemmas.{part_found}
use Rattle.wb_office.proofs.named.named_part.Goals as goal

pub returns-in_err-found : goal.returns-in_err-found
returns-in_err-found g c = record { finds = fails_to_find c.in_err-found.ensures.finds (handed_on c.from_residual.result c.from_residual.ensures.1) }

pub returns : goal.returns
returns g c =
    let names = c.names-names in
    record {
      finds = made_after c.in_ok-found.ensures.finds c.named_of.result
          (IfOk-weaker c.named_of.result _ _ (λ named is machine sound has own. let h = has own in (
            is.0 ∙ part_found machine c.args.command.now names.result c.in_ok-found.found h names.ensures.value,
            is.1 ∙ ap (key_named names.result) h.first ∙ ap (λ subject. key_at subject (first_named machine subject)) names.ensures.value,
          )) (both_ok _ _ c.named_of.result c.named_of.ensures.part c.named_of.ensures.key)) c.named_of.ensures.fault;
    }
