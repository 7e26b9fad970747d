use Rattle.std.proofs.Common.{inl, inr, ◌∙◌}
use Rattle.std.proofs.lemmas.Result.{IfErr-weaker, IfOk-weaker}
use Rattle.sqlite.specs.Files.{file_state}
use Rattle.wb_store.specs.Preparing.{IsFoundAt}
use Rattle.wb_store.proofs.FileLemmas.{clean_over, found_in_new, found_one, is_over, keep_office, refused_over, stands_over, stands_over_new, stands_over_one}
use Rattle.wb_store.proofs.«store».«Store+FileStore+D».try_open.Goals as goal

pub returns-in-Ok-clause-found : goal.returns-in-Ok-clause-found
returns-in-Ok-clause-found g c =
    let e = c.in-Ok.ensures in
    stands_over _ _ c.adopt_over.result (λ clean. (is_over g.D.Disk c.in-Ok.conn c.args.files e.opened e.found e.alone clean).1) c.adopt_over.ensures.clean c.adopt_over.ensures.found

pub returns-in-Ok-clause-left : goal.returns-in-Ok-clause-left
returns-in-Ok-clause-left g c =
    let e = c.in-Ok.ensures in
    stands_over_one _ _ c.adopt_over.result (λ clean. found_one g.D.Disk c.in-Ok.conn (e.opened clean) (e.alone clean) c.args.files g.met.D.Disk.seen_may_stay (e.finds clean)) c.adopt_over.ensures.clean c.adopt_over.ensures.found

pub returns-in-Ok-clause-new : goal.returns-in-Ok-clause-new
returns-in-Ok-clause-new g c =
    let e = c.in-Ok.ensures in
    stands_over_new (λ machine. IsFoundAt machine (file_state c.in-Ok.conn)) _ _ c.adopt_over.result (λ clean. found_in_new g.D.Disk c.in-Ok.conn (e.opened clean) (e.alone clean) c.args.files (e.finds clean)) c.adopt_over.ensures.clean c.adopt_over.ensures.found

pub returns-in-Ok-clause-clean : goal.returns-in-Ok-clause-clean
returns-in-Ok-clause-clean g c = clean_over _ c.adopt_over.result (λ clean. (c.in-Ok.ensures.finds clean).honest) c.adopt_over.ensures.clean

pub returns-in-Ok-clause-refused : goal.returns-in-Ok-clause-refused
returns-in-Ok-clause-refused g c =
    let e = c.in-Ok.ensures in
    IfErr-weaker c.adopt_over.result _ _ (λ refused given. inr
    (refused_over g.D.Disk g.met.D.Disk.seen_may_stay c.in-Ok.conn c.args.files e.opened e.finds e.found e.alone
    e.fresh.unlimited given)) c.adopt_over.ensures.refused

pub returns-in-Err-clause-refused : goal.returns-in-Err-clause-refused
returns-in-Err-clause-refused g c =
    let e = c.in-Err.ensures.err in
    inl (record {
      error = c.in-Err.error;
      is = c.opening_fault.ensures.value;
      unopened = e;
      kept = λ clean sure. keep_office g.D.Disk g.met.D.Disk.seen_may_stay c.args.files c.in-Err.back (e.kept clean sure);
    })

pub returns-in-Ok-clause-unlimited : goal.returns-in-Ok-clause-unlimited
returns-in-Ok-clause-unlimited g c = IfOk-weaker c.adopt_over.result _ _ (λ opened same. same ∙ c.in-Ok.ensures.fresh.unlimited) c.adopt_over.ensures.limit
