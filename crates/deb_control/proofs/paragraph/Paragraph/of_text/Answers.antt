use Rattle.std.proofs.Common.{refl}
use Rattle.std.proofs.lemmas.Result.{err_from_is_err_and}
use Rattle.deb_control.proofs.ReadLemmas.{reading_of-fault, reading_of-fields}
use Rattle.deb_control.proofs.RoomLemmas.{takes_memory-of}
use Rattle.deb_control.proofs.paragraph.Paragraph.of_text.Goals as goal

pub returns-in_err-fields-clause-refused : goal.returns-in_err-fields-clause-refused
returns-in_err-fields-clause-refused c =
    let p = err_from_is_err_and c.from_residual.result c.from_residual.ensures.1 in
    rw (p.1, p.2) (λ other.
    reading_of-fault c.args.text.now c.args.text.now c.in_err-fields.field-0.0 c.requires (refl, c.utf8.text) (c.in_err-fields.ensures.refused other))

pub returns-in_err-fields-clause-memory : goal.returns-in_err-fields-clause-memory
returns-in_err-fields-clause-memory c =
    let p = err_from_is_err_and c.from_residual.result c.from_residual.ensures.1 in
    rw (p.1, p.2) (λ memory.
    takes_memory-of c.args.text.now c.args.text.now c.requires (refl, c.utf8.text) (c.in_err-fields.ensures.memory memory))

pub returns-clause-ok : goal.returns-clause-ok
returns-clause-ok c =
    reading_of-fields c.args.text.now c.args.text.now c.in_ok-fields.fields.items c.requires (refl, c.utf8.text)
    c.in_ok-fields.ensures.ok c.in_ok-fields.ensures.fields
