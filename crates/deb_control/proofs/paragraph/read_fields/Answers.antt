use Rattle.std.proofs.Common.{◌≡◌, ◌<◌, ◌∙◌, sym, arith, length, rules, inr}
use Rattle.std.proofs.lemmas.Result.{err_from_is_err_and}
use Rattle.deb_control.proofs.ReadLemmas.{first_fault-line, first_fault-behind, fields_of-behind, first_fault-end, fields_of-end}
use Rattle.deb_control.proofs.RoomLemmas.{begins-at, begins-behind}
use Rattle.deb_control.specs.Fields.{names_in}
use Rattle.deb_control.proofs.paragraph.read_fields.Goals as goal

pub returns-in_err-read_line-clause-refused : goal.returns-in_err-read_line-clause-refused
returns-in_err-read_line-clause-refused c =
    let some : 0 < length c.loop-left.left.now = grind (arith, c.is_empty.ensures, c.loop-left-test.true) in
    let p = err_from_is_err_and c.from_residual.result c.from_residual.ensures.1 in
    rw (p.1, p.2) (λ other.
    sym c.loop-left.invariant.fault
    ∙ first_fault-line (names_in c.loop-left.fields.items) c.loop-left.left.now c.split_text.result.0.now c.split_text.result.1.now c.in_err-read_line.field-0.0
    some c.split_text.ensures.line c.split_text.ensures.rest (c.in_err-read_line.ensures.refused other))

pub returns-in_err-read_line-clause-memory : goal.returns-in_err-read_line-clause-memory
returns-in_err-read_line-clause-memory c =
    let some : 0 < length c.loop-left.left.now = grind (arith, c.is_empty.ensures, c.loop-left-test.true) in
    let p = err_from_is_err_and c.from_residual.result c.from_residual.ensures.1 in
    rw (p.1, p.2) (λ memory.
    begins-at c.loop-left.fields.items c.loop-left.left.now c.args.text.now c.split_text.result.0.now c.split_text.result.1.now c.loop-left.invariant.begun
    some c.split_text.ensures.line c.split_text.ensures.rest (c.in_err-read_line.ensures.memory memory))

pub loop-left-preserved : goal.loop-left-preserved
loop-left-preserved c =
    let some : 0 < length c.loop-left.left.now = grind (arith, c.is_empty.ensures, c.loop-left-test.true) in
    record {
      text = search rules;
      known = c.in_ok-read_line.ensures.known;
      begun = inr (begins-behind c.loop-left.fields.items c.loop-left.left.now c.args.text.now c.split_text.result.0.now c.split_text.result.1.now
          c.loop-left.invariant.begun some c.split_text.ensures.line c.split_text.ensures.rest c.in_ok-read_line.ensures.ok);
      fault =
          first_fault-behind c.loop-left.fields.items c.read_line.new.fields.items c.loop-left.left.now c.split_text.result.0.now c.split_text.result.1.now
          some c.split_text.ensures.line c.split_text.ensures.rest c.in_ok-read_line.ensures.ok c.in_ok-read_line.ensures.fields
          ∙ c.loop-left.invariant.fault;
      fields =
          fields_of-behind c.loop-left.fields.items c.read_line.new.fields.items c.loop-left.left.now c.split_text.result.0.now c.split_text.result.1.now
          some c.split_text.ensures.line c.split_text.ensures.rest c.in_ok-read_line.ensures.fields
          ∙ c.loop-left.invariant.fields;
    }

pub returns-clause-ok : goal.returns-clause-ok
returns-clause-ok c =
    let none : length c.loop-left.left.now ≡ 0 = grind (arith, c.is_empty.ensures, c.loop-left-test.false) in
    sym c.loop-left.invariant.fault ∙ first_fault-end (names_in c.loop-left.fields.items) c.loop-left.left.now none

pub returns-clause-fields : goal.returns-clause-fields
returns-clause-fields c =
    let none : length c.loop-left.left.now ≡ 0 = grind (arith, c.is_empty.ensures, c.loop-left-test.false) in
    sym (fields_of-end c.loop-left.fields.items c.loop-left.left.now none) ∙ c.loop-left.invariant.fields
