use Rattle.std.proofs.Common.{◌<◌, ◌+◌, ◌∙◌, sym, ap, arith, length, drop}
use Rattle.deb_version.specs.Order.{key_cmp, key_in_run}
use Rattle.deb_version.proofs.OrderLemmas.{part_cmp-start, run_decided, run_passed, numbers_decide, numbers_shorten, is_ne-decided, is_ne-equal}
use Rattle.deb_version.proofs.order.compare_parts.Goals as goal
use Rattle.deb_version.proofs.order.compare_parts.Goals.{then-is_empty, else-is_empty}
use Rattle.std.proofs.lemmas.Bool.Decides.{nat_tests}

pub loop-a-init : goal.loop-a-init
loop-a-init c = part_cmp-start c.args.left.now c.args.right.now

pub returns-then-a_rank-b_rank : goal.returns-then-a_rank-b_rank
returns-then-a_rank-b_rank c =
    c.cmp.ensures
    ∙ sym (run_decided c.loop-a.a.now c.loop-a.b.now c.rank-a_rank.result c.rank-b_rank.result c.rank-a_rank.ensures.value c.rank-b_rank.ensures.value c.if-a_rank-b_rank.true)
    ∙ c.loop-a.invariant

pub loop-a-preserved-then-a_rank-ne-RUN_END : goal.loop-a-preserved-then-a_rank-ne-RUN_END
loop-a-preserved-then-a_rank-ne-RUN_END c =
    let passed = run_passed c.loop-a.a.now c.loop-a.b.now c.rank-a_rank.result c.rank-b_rank.result c.rank-a_rank.ensures.value c.rank-b_rank.ensures.value c.if-a_rank-b_rank.false c.if-a_rank-ne-RUN_END.true in
    let a_rest = c.split_at.ensures.back in
    let b_rest = c.split_at-then-a_rank-ne-RUN_END.ensures.back in
    ap (λ k. key_cmp (key_in_run k) (key_in_run c.split_at-then-a_rank-ne-RUN_END.result.1.now)) a_rest
    ∙ ap (λ k. key_cmp (key_in_run (drop 1 c.loop-a.a.now)) (key_in_run k)) b_rest
    ∙ sym passed
    ∙ c.loop-a.invariant

pub returns-then-is_ne : goal.returns-then-is_ne
returns-then-is_ne c =
    let a = c.split_digits in
    let b = c.split_digits-in-loop-a in
    let law = numbers_decide c.loop-a.a.now c.loop-a.b.now a.result.0.now a.result.1.now b.result.0.now b.result.1.now c.rank-a_rank.result c.rank-b_rank.result c.compare_numbers-by_number.result (record { front = a.ensures.front; back = a.ensures.back }) (record { front = b.ensures.front; back = b.ensures.back }) c.rank-a_rank.ensures.value c.rank-b_rank.ensures.value c.if-a_rank-b_rank.false c.if-a_rank-ne-RUN_END.false c.compare_numbers-by_number.ensures in
    is_ne-decided c.compare_numbers-by_number.result (key_cmp (key_in_run a.result.1.now) (key_in_run b.result.1.now)) (sym c.is_ne.ensures ∙ c.if-is_ne.true)
    ∙ sym law
    ∙ c.loop-a.invariant

pub loop-a-preserved : goal.loop-a-preserved
loop-a-preserved c =
    let a = c.split_digits in
    let b = c.split_digits-in-loop-a in
    let law = numbers_decide c.loop-a.a.now c.loop-a.b.now a.result.0.now a.result.1.now b.result.0.now b.result.1.now c.rank-a_rank.result c.rank-b_rank.result c.compare_numbers-by_number.result (record { front = a.ensures.front; back = a.ensures.back }) (record { front = b.ensures.front; back = b.ensures.back }) c.rank-a_rank.ensures.value c.rank-b_rank.ensures.value c.if-a_rank-b_rank.false c.if-a_rank-ne-RUN_END.false c.compare_numbers-by_number.ensures in
    is_ne-equal c.compare_numbers-by_number.result (key_cmp (key_in_run a.result.1.now) (key_in_run b.result.1.now)) (sym c.is_ne.ensures ∙ c.if-is_ne.false)
    ∙ sym law
    ∙ c.loop-a.invariant

pub loop-a-smaller : goal.loop-a-smaller
loop-a-smaller c =
    let a = c.split_digits in
    let b = c.split_digits-in-loop-a in
    let some : 0 < length c.loop-a.a.now + length c.loop-a.b.now =
    elim c.if-is_empty.branch [ then-is_empty w ↦ grind (arith, nat_tests) | else-is_empty w ↦ grind (arith, nat_tests) ] in
    numbers_shorten c.loop-a.a.now c.loop-a.b.now a.result.0.now a.result.1.now b.result.0.now b.result.1.now c.rank-a_rank.result c.rank-b_rank.result (record { front = a.ensures.front; back = a.ensures.back }) (record { front = b.ensures.front; back = b.ensures.back }) c.rank-a_rank.ensures.value c.rank-b_rank.ensures.value c.if-a_rank-b_rank.false c.if-a_rank-ne-RUN_END.false some
