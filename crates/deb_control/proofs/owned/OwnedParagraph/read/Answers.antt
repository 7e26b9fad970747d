use Rattle.std.proofs.Common.{◌≡◌, ◌∙◌, sym, ap, List, ℕ, Vec, true, false}
use Rattle.std.specs.declared.alloc.Global.{Global}
use Rattle.std.specs.Prelude.{string_bytes}
use Rattle.deb_control.specs.Lines.{lines_of}
use Rattle.deb_control.specs.Fields.{reading_of}
use Rattle.deb_control.proofs.ReadLemmas.{reading_of-not_utf8}
use Rattle.std.proofs.lemmas.Result.{err_from_is_err_and}
use Rattle.deb_control.proofs.OwnedLemmas.{reading_of-own}
use Rattle.deb_control.proofs.IndexLemmas.{takes_memory-text}
use Rattle.deb_control.proofs.FeedLemmas.{no-Read, no-Ended}
use Rattle.deb_control.proofs.owned.OwnedParagraph.read.Goals as goal

never : false ≡ true → ⊥
never e = cc

pub returns-in_default-clause-refused : goal.returns-in_default-clause-refused
returns-in_default-clause-refused c = λ _. reading_of-not_utf8 c.args.bytes.items c.requires (λ utf8. never (c.in_default.ensures.succeeds utf8))

pub returns-clause-ok : goal.returns-clause-ok
returns-clause-ok c =
    let same : string_bytes c.in-Ok.text ≡ c.args.bytes.items = ap (λ (v : Vec ℕ Global). v.items) c.in-Ok.ensures.ok in
    ap (λ (v : List ℕ). reading_of (lines_of v)) (sym same)
    ∙ reading_of-own (string_bytes c.in-Ok.text) c.in_ok-of_text.field-0 (ap (λ (v : List ℕ). reading_of (lines_of v)) (sym c.as_str.ensures.value) ∙ c.in_ok-of_text.ensures.ok)

pub returns-in_err-of_text-clause-of_text : goal.returns-in_err-of_text-clause-of_text
returns-in_err-of_text-clause-of_text c =
    let p = err_from_is_err_and c.from_residual.result c.from_residual.ensures.1 in
    rw (p.1, p.2) (
      no-Read (lines_of c.as_str.result.now) c.in_err-of_text.field-0.0 c.in_err-of_text.ensures.refused,
      no-Ended (lines_of c.as_str.result.now) c.in_err-of_text.field-0.0 c.in_err-of_text.ensures.refused,
    )

pub returns-in_err-starts-clause-memory : goal.returns-in_err-starts-clause-memory
returns-in_err-starts-clause-memory c =
    let p = err_from_is_err_and c.from_residual-in_err-starts.result c.from_residual-in_err-starts.ensures.1 in
    let same : string_bytes c.in-Ok.text ≡ c.args.bytes.items = ap (λ (v : Vec ℕ Global). v.items) c.in-Ok.ensures.ok in
    rw (p.1, p.2) (λ _.
    takes_memory-text c.as_str.result.now c.as_str-2.result.now c.args.bytes.items _ (c.as_str.ensures.value ∙ same) (c.as_str-2.ensures.value ∙ same)
    c.in_ok-of_text.ensures.ok c.in_err-starts.ensures.memory)
