use Rattle.wb_keys.specs.Rights.{holder_for, is_for, kind_of, meets, need_of}
use Rattle.wb_keys.proofs.RightLemmas.{asked-by-kind, list_any-more}
use Rattle.wb_keys.proofs.laws.allowed_commands_may_be_asked_for.Goals as goal

pub returns : goal.returns
returns c = λ rights machine command h.
    list_any-more (λ right. meets right (holder_for machine command) (need_of command)) (is_for (kind_of command))
    (asked-by-kind (holder_for machine command) (need_of command)) rights h
