use Rattle.std.proofs.Common.{◌≡◌, Bool, true, false, ◌||◌, codes, ap, sym, ◌∙◌}
use Rattle.std.specs.Fmt.{digits}
use Rattle.sqlite_schema.specs.Names.{same_name}
use Rattle.wb_sql.proofs.beside.names_key.Goals.{then-same_name, else-same_name}
use Rattle.wb_sql.proofs.beside.names_key.Goals as goal

-- one of the first two of three tests is true
one_of_two : (a b c value : Bool) → value ≡ (a || b) → value ≡ true → value ≡ (a || (b || (c || false)))
one_of_two true b c value is so = so
one_of_two false true c value is so = so
one_of_two false false c value is so = absurd (cc)

-- neither of the first two is
the_third : (a b c value third : Bool) → value ≡ (a || b) → value ≡ false → third ≡ c → third ≡ (a || (b || (c || false)))
the_third true b c value third is so same = absurd (cc)
the_third false true c value third is so same = absurd (cc)
the_third false false true value third is so same = same
the_third false false false value third is so same = same

-- the value of the first two
left_is : (a b value : Bool) → a ≡ true → value ≡ true → value ≡ (a || b)
left_is a b value here is = is ∙ sym (ap (λ x. x || b) here)

right_is : (a b value : Bool) → a ≡ false → value ≡ b → value ≡ (a || b)
right_is a b value not_here is = is ∙ sym (ap (λ x. x || b) not_here)

pub returns-then-same_name-2 : goal.returns-then-same_name-2
unfolding digits
returns-then-same_name-2 c =
    let name = c.args.name.now in
    let arch : Bool = same_name (codes "sqlite_autoindex_arch_1") name in
    let builder : Bool = same_name (codes "sqlite_autoindex_builder_1") name in
    let is : c.if-same_name.value ≡ (arch || builder) =
    elim c.if-same_name.branch [
      | then-same_name w ↦ left_is _ _ _ (sym c.same_name.ensures ∙ w.if-same_name.true) (w.value-is ∙ w.if-same_name.true)
      | else-same_name w ↦ right_is _ _ _ (sym c.same_name.ensures ∙ w.if-same_name.false) (w.value-is ∙ w.same_name-else-same_name.ensures)
    ] in
    record { value = one_of_two arch builder (same_name (codes "sqlite_autoindex_source_record_1") name) c.if-same_name.value is c.if-same_name-2.true }

pub returns-else-same_name-2 : goal.returns-else-same_name-2
unfolding digits
returns-else-same_name-2 c =
    let name = c.args.name.now in
    let arch : Bool = same_name (codes "sqlite_autoindex_arch_1") name in
    let builder : Bool = same_name (codes "sqlite_autoindex_builder_1") name in
    let is : c.if-same_name.value ≡ (arch || builder) =
    elim c.if-same_name.branch [
      | then-same_name w ↦ left_is _ _ _ (sym c.same_name.ensures ∙ w.if-same_name.true) (w.value-is ∙ w.if-same_name.true)
      | else-same_name w ↦ right_is _ _ _ (sym c.same_name.ensures ∙ w.if-same_name.false) (w.value-is ∙ w.same_name-else-same_name.ensures)
    ] in
    record {
      value = the_third arch builder (same_name (codes "sqlite_autoindex_source_record_1") name) c.if-same_name.value c.same_name-else-same_name-2.result is c.if-same_name-2.false
          c.same_name-else-same_name-2.ensures;
    }
