use Rattle.std.proofs.Common.{◌∙◌, ap, ℕ, ◌++◌, List, filter, not}
use Rattle.std.specs.BTreeSet.{contains}
use Rattle.deb_relations.specs.Satisfaction.{is_among}
use Rattle.deb_text.specs.Text.{text_cmp}
use Rattle.wb_archive.proofs.DecideLemmas.{named-to-decide}
use Rattle.wb_archive.proofs.StopLemmas.{asked-ok, asked-value}
use Rattle.wb_archive.proofs.deciding.names_to_decide.Goals as goal

pub returns-clause-value : goal.returns-clause-value
returns-clause-value g c = λ at clean holds.
    let laws = g.met.T.MergeTables in
    let went = asked-ok _ c.listed_names.result c.asked-2.result c.in_ok-listed.listed c.asked-2.ensures c.in_ok-listed.was c.listed_names.ensures.follows in
    let first = laws.clean c.recorded_names.new.self c.listed_names.new.self went clean in
    let held = asked-ok _ c.recorded_names.result c.asked.result c.in_ok-names.names c.asked.ensures c.in_ok-names.was (c.recorded_names.ensures.same at first holds) in
    named-to-decide at.now c.args.arch.now c.in_ok-names.names.items c.in_ok-listed.listed.items c.add_others.new.names.items (contains text_cmp c.in_ok-recorded.recorded)
    (asked-value _ c.recorded_names.result c.asked.result c.in_ok-names.names c.asked.ensures c.in_ok-names.was (c.recorded_names.ensures.value at first holds))
    (asked-value _ c.listed_names.result c.asked-2.result c.in_ok-listed.listed c.asked-2.ensures c.in_ok-listed.was (c.listed_names.ensures.value at clean held))
    (λ name. c.in_ok-recorded.ensures.value name ∙ ap (is_among name) c.deref.ensures.value)
    (c.in_ok-add_others.ensures.value
    ∙ ap (λ (l : List (List ℕ)). c.in_ok-names.names.items ++ filter (λ name. not (contains text_cmp c.in_ok-recorded.recorded name)) l) c.deref-2.ensures.value)
