use Rattle.std.proofs.Common.{◌≡◌, ◌∙◌, sym, ap, false}
use Rattle.std.specs.Str.{str_to_ascii_lowercase}
use Rattle.deb_control.specs.declared.fault.ControlFaultKind.TheVariants.{Memory}
use Rattle.deb_control.specs.Fields.{is_among, names_in, name_of}
use Rattle.deb_control.proofs.NameLemmas.{is_among-few, was-new, where-fault}
use Rattle.deb_control.proofs.paragraph.read_line.Goals as goal

pub returns-in_err-push-clause-new : goal.returns-in_err-push-clause-new
returns-in_err-push-clause-new c =
    let new : is_among (str_to_ascii_lowercase c.in-Some.name.now) (names_in c.args.fields.now.items) ≡ false =
    ap (λ fields. is_among (str_to_ascii_lowercase c.in-Some.name.now) (names_in fields)) (sym c.deref.ensures.value)
    ∙ was-new _ _ c.in_ok-add_name.ensures.value c.if-not-branch.false in
    where-fault (λ kind. kind ≡ Memory) _
    (is_among-few 32 (str_to_ascii_lowercase (name_of c.args.line.now)) (names_in c.args.fields.now.items)
    (ap (λ name. is_among (str_to_ascii_lowercase name) (names_in c.args.fields.now.items)) (sym c.in-Some.ensures.name) ∙ new))
