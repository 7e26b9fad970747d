use Rattle.std.proofs.Common.{◌∙◌, ap, sym, rules, Some, None, [], ◌∷◌, ◌++◌}
use Rattle.std.specs.FinMap as finite
use Rattle.std.proofs.lemmas.Map.Steps.{set_value_same}
use Rattle.std.specs.BTreeMap.{is_at}
use Rattle.deb_text.specs.Text.{text_cmp}
use Rattle.deb_relations.specs.Satisfaction.{with_pair}
use Rattle.deb_relations.proofs.MapLemmas.{pair-added, on-ok, on-err}
use Rattle.deb_relations.proofs.available.Available.provide.Goals as goal

pub returns-in-Some-clause-value : goal.returns-in-Some-clause-value
returns-in-Some-clause-value c =
    let es = c.self.inside.versions.entries in
    let key = c.in_ok-name.name in
    on-ok c.push.result (λ e.
    pair-added c.args.self.now es (c.get_mut.follows.lender c.push.new.self).entries key c.args.version (Some c.in-Some.list.now) c.push.new.self c.self.view_is (sym c.in-Some.ensures.value) (((c.get_mut.follows.holds c.push.new.self).3 (search rules)).0) e
    ∙ ap (λ n. with_pair c.args.self.now n c.args.version) c.in_ok-name.ensures.value) c.push.ensures.value

pub returns-in-Some-clause-unchanged : goal.returns-in-Some-clause-unchanged
returns-in-Some-clause-unchanged c =
    let es = c.self.inside.versions.entries in
    on-err c.push.result (λ e.
    ap (λ rows. finite.from_entries {R = text_cmp} rows) ((c.get_mut.follows.holds c.push.new.self).0 ∙ set_value_same (is_at (text_cmp c.in_ok-name.name)) es c.push.new.self (sym c.in-Some.ensures.value ∙ ap Some (sym e)))
    ∙ c.self.view_is) c.push.ensures.unchanged

pub returns-in-Ok-clause-value : goal.returns-in-Ok-clause-value
returns-in-Ok-clause-value c =
    let es = c.self.inside.versions.entries in
    let key = c.in_ok-name.name in
    pair-added c.args.self.now es c.insert.new.self.entries key c.args.version None c.push-in-None.new.self c.self.view_is (sym c.in-None.ensures.value)
    ((rw c.get_mut.follows.holds-at-none at c.in-Ok.ensures.updates).0) (c.in_ok-push-in-None.ensures.value ∙ ap (λ x. x ++ c.args.version ∷ []) c.new-list.ensures)
    ∙ ap (λ n. with_pair c.args.self.now n c.args.version) c.in_ok-name.ensures.value
