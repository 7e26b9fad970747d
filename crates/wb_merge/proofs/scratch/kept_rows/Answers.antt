use Rattle.std.proofs.Common.{◌∙◌, ◌++◌, ◌∷◌, [], List, ap, sym, map, filter}
use Rattle.std.specs.BTreeSet.{contains}
use Rattle.deb_text.specs.Text.{text_cmp}
use Rattle.deb_relations.specs.declared.provided.Provided.{Provided}
use Rattle.deb_relations.specs.Provided.{provided_in}
use Rattle.wb_states.specs.declared.scratch.BinaryRow.{BinaryRow}
use Rattle.wb_merge.specs.Rows.{BinaryParagraph}
use Rattle.wb_merge.specs.Scratch.{binary_columns, is_binary_wanted, provided_columns}
use Rattle.wb_merge.proofs.ScratchLemmas.{installed-wanted, other-wanted}
use Rattle.wb_merge.proofs.scratch.kept_rows.Goals as goal

pub returns-then-not-is_installable_on : goal.returns-then-not-is_installable_on
returns-then-not-is_installable_on c =
    let value = c.new-kept.ensures.items ∙ other-wanted c.args.arch.now (contains text_cmp c.args.wanted.now) c.args.at c.args.row.now
    (sym c.is_installable_on.ensures ∙ c.if-not-is_installable_on.true) in
    record { value = value }

pub returns : goal.returns
returns c =
    let wanted = contains text_cmp c.args.wanted.now in
    let columns = provided_columns c.args.at c.args.row.now in
    let provided = c.in_ok-provided.provided.items in
    let text = c.as_str.ensures ∙ ap (λ (row : BinaryParagraph). row.provides) c.row.view_is in
    let given = c.in_ok-provided.ensures.value ∙ ap (λ text. filter (λ (one : Provided). wanted one.name) (provided_in text)) text in
    let first = c.in_ok-push_package.ensures.value
    ∙ ap (λ (l : List BinaryRow). l ++ filter (is_binary_wanted wanted) (binary_columns c.args.arch.now c.args.at c.args.row.now ∷ [])) c.new-kept.ensures.items in
    let value = c.in_ok-push_provided.ensures.value ∙ ap (λ (l : List BinaryRow). l ++ map columns provided) first
    ∙ installed-wanted c.args.arch.now wanted c.args.at c.args.row.now provided (sym c.is_installable_on.ensures ∙ c.if-not-is_installable_on.false) given in
    record { value = value }
